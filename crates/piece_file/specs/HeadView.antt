-- The head of a piece as the code holds it.
use Rattle.piece_grammar.specs.Head as piece
use Rattle.piece_file.specs.declared.head.Head.{Head}

abbrev pub head_view : Head → piece.Head
head_view h = record {
  nprow = h.nprow;
  npcol = h.npcol;
  prow = h.prow;
  pcol = h.pcol;
  m = h.m;
  n = h.n;
  mb = h.mb;
  nb = h.nb;
  rsrc = h.rsrc;
  csrc = h.csrc;
  lld = h.lld;
}
