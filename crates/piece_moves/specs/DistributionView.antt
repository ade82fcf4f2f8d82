-- A distribution as the code holds it.
use Rattle.piece_moves.specs.Distribution as distribution
use Rattle.piece_moves.specs.declared.distribution.Distribution.{Distribution}

abbrev pub distribution_view : Distribution → distribution.Distribution
distribution_view d = record { nprow = d.nprow; npcol = d.npcol; mb = d.mb; nb = d.nb }
