-- What the reader has read so far, as the definitions of programs see it.
use Rattle.grid_lang.specs.declared.known.Known.{Known}
use Rattle.grid_lang.specs.declared.reader.Reader.{Reader}
use Rattle.grid_lang.specs.Names.{Declared, names_of}
use Rattle.grid_lang.specs.Programs.{State}

abbrev pub declared_of : Known → Declared
declared_of known = record { ranks = known.ranks; names = names_of known.names; grids = known.grids; arrays = known.arrays }

abbrev pub state_of : Reader → State
state_of reader = record { reached = reader.reached; declared = declared_of reader.known; program = reader.lines.items }
