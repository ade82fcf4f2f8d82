-- Program meaning: the lines of a program done one after the other.
use Rattle.std.specs.Prelude.{List, [], ◌∷◌, None, Result, Ok, pos, slice_get}
use Rattle.line_text.specs.Formats.{Refusal, refused_at, and_then}
use Rattle.pack_words.specs.declared.fold_kind.FoldKind.TheVariants.{Sum, AbsMax, AbsMin}
use Rattle.grid_lang.specs.declared.line.Line.{Line}
use Rattle.grid_lang.specs.declared.line.Line.TheVariants.{Ranks, Grid, Map, Array, Matrix, Load, Fill, Send, Recv, Bcast, Sum as SumLine, Amx, Amn, Barrier, Gemr2d, Trmr2d, Save, SavePieces, PrintArray, PrintMatrix}
use Rattle.grid_lang.specs.declared.line.Numbered.{Numbered}
use Rattle.program_meaning.specs.declared.fault.ExecFault.{ExecFault}
use Rattle.program_meaning.specs.ProgramState.{ProgramState, begun, grid_at}
use Rattle.program_meaning.specs.Declarations.{Loads, grid_line, map_line, array_line, matrix_line, filled, load_line}
use Rattle.program_meaning.specs.Exchanges.{exchanged, shape_in, part_in, send_exchange, receive_exchange, broadcast_exchange, combine_exchange, barrier_exchange, general_move, trapezoid_move}

-- one line: what it makes of the state, or why it is refused
unfoldable pub line_done : Loads → ProgramState → Line → Result ProgramState ExecFault
line_done loads s (Ranks n) = Ok (begun n)
line_done loads s (Grid order nprow npcol) = grid_line order nprow npcol s
line_done loads s (Map nprow npcol ranks) = map_line nprow npcol ranks s
line_done loads s (Array name grid m n mb nb rsrc csrc lld) = array_line (record { grid = grid; m = m; n = n; mb = mb; nb = nb; rsrc = rsrc; csrc = csrc; lld = lld }) s
line_done loads s (Matrix name lld cols) = matrix_line lld cols s
line_done loads s (Load array file) = load_line (loads file) array s
line_done loads s (Fill array a b c d) = Ok (filled (record { a = a; b = b; c = c; d = d }) array (slice_get s.spreads array) s)
line_done loads s (Send grid p q area rdest cdest tri) = exchanged s (send_exchange s (grid_at s (pos grid)) (p, q) (shape_in tri) (part_in area) (rdest, cdest))
line_done loads s (Recv grid p q area rsrc csrc tri) = exchanged s (receive_exchange s (grid_at s (pos grid)) (p, q) (shape_in tri) (part_in area) (rsrc, csrc))
line_done loads s (Bcast grid scope top rsrc csrc area tri) = exchanged s (broadcast_exchange s (grid_at s (pos grid)) scope (shape_in tri) (part_in area) (rsrc, csrc))
line_done loads s (SumLine grid scope top dest area) = exchanged s (combine_exchange s (grid_at s (pos grid)) scope Sum dest (part_in area) None)
line_done loads s (Amx grid scope top dest area rc) = exchanged s (combine_exchange s (grid_at s (pos grid)) scope AbsMax dest (part_in area) rc)
line_done loads s (Amn grid scope top dest area rc) = exchanged s (combine_exchange s (grid_at s (pos grid)) scope AbsMin dest (part_in area) rc)
line_done loads s (Barrier grid scope) = exchanged s (barrier_exchange s (grid_at s (pos grid)) scope)
line_done loads s (Gemr2d mr) = exchanged s (general_move s mr)
line_done loads s (Trmr2d uplo diag mr) = exchanged s (trapezoid_move s uplo diag mr)
line_done loads s (Save array file) = Ok s
line_done loads s (SavePieces array prefix) = Ok s
line_done loads s (PrintArray array) = Ok s
line_done loads s (PrintMatrix array rank) = Ok s

-- some lines one after the other: the state after them, or the first that is refused, by its number, and why
abbrev pub lines_done : Loads → ProgramState → List Numbered → Result ProgramState (Refusal ExecFault)
lines_done loads s [] = Ok s
lines_done loads s (l ∷ more) = and_then (refused_at l.number (line_done loads s l.line)) (λ next. lines_done loads next more)

-- the program
unfoldable pub program_done : Loads → List Numbered → Result ProgramState (Refusal ExecFault)
program_done loads program = lines_done loads (begun 0) program

-- no file is looked at
abbrev pub no_loads : Loads
no_loads file = None
