-- What is asked of the head of a piece, and what the check of its line finds.
use Rattle.std.specs.Prelude.{◌≡◌, Some, None, Result, Ok, Err}
use Rattle.std.specs.Option.{option_map}
use Rattle.piece_grammar.specs.Head as grammar
use Rattle.piece_grammar.specs.Desc as desc
use Rattle.piece_grammar.specs.Turn as piece
use Rattle.piece_grammar.specs.FaultTable.{first_fault, desc_rows}
use Rattle.piece_file.specs.HeadView.{head_view}
use Rattle.piece_file.specs.FaultView.{fault_view}
use Rattle.piece_file.specs.declared.desc_line.Desc.{Desc}
use Rattle.piece_file.specs.declared.fault.PieceFault.{PieceFault}
use Rattle.piece_file.specs.declared.head.Head.{Head}
use Rattle.piece_file.specs.declared.turn.Turn.{Turn}

-- the numbers of a head's line, and the turn of a piece, as the code holds them
abbrev pub desc_view : Desc → desc.Desc
desc_view d = record {
  nprow = d.nprow;
  npcol = d.npcol;
  prow = d.prow;
  pcol = d.pcol;
  m = d.m;
  n = d.n;
  mb = d.mb;
  nb = d.nb;
  rsrc = d.rsrc;
  csrc = d.csrc;
  lld = d.lld;
}

abbrev pub turn_view : Turn → piece.Turn
turn_view t = record { prow = t.prow; pcol = t.pcol; first = option_map head_view t.first; before = t.before }

-- the head is one that a piece may have, and its process and spread are those that are asked for
pub record IsAsked (turn : piece.Turn) (h : grammar.Head) : Type 0 where
  pub is_head : grammar.IsHead h
  pub row : h.prow ≡ turn.prow
  pub column : h.pcol ≡ turn.pcol
  pub agrees : piece.Agrees turn.first h

-- the head of these numbers, which is asked for, where they meet no row of the table of faults; or the first row that they meet
abbrev pub Finds : Result Head PieceFault → piece.Turn → desc.Desc → Type 0
Finds (Ok head) turn d = (head_view head ≡ desc.head_of d) × (first_fault (desc_rows turn (Some d)) ≡ None) × IsAsked turn (head_view head)
Finds (Err fault) turn d = first_fault (desc_rows turn (Some d)) ≡ Some (fault_view fault)
