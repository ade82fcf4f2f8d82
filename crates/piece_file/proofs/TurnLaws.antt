-- The file of a turn, by what reading it gives.
use Rattle.std.proofs.Common.{◌≡◌, ℕ, List, Some, Ok, Err, sym, ap, ◌∙◌}
use Rattle.mm_grammar.specs.FileLines.{file_lines}
use Rattle.piece_grammar.specs.Head.{Piece}
use Rattle.piece_grammar.specs.Faults.{Refusal}
use Rattle.piece_grammar.specs.Turn.{Turn}
use Rattle.piece_grammar.specs.Place.{AtBanner}
use Rattle.piece_grammar.specs.PieceReading.{read_on}
use Rattle.piece_grammar.specs.PieceFault.{IsPieceFault}
use Rattle.piece_grammar.specs.Pieces.{Held, name_of, HoldsPiece}
use Rattle.piece_grammar.proofs.Laws.{reading}

pub held_piece : (held : Held) (prefix name : List ℕ) (turn : Turn) (bytes : List ℕ) (p : Piece) → name ≡ name_of prefix turn → held name ≡ Some bytes → read_on turn 1 AtBanner (file_lines bytes) ≡ Ok p → HoldsPiece held prefix turn p
held_piece held prefix name turn bytes p is there e = record { bytes = bytes; is_held = ap held (sym is) ∙ there; is_piece = (reading turn).accepts bytes p e }

pub held_fault : (held : Held) (prefix name : List ℕ) (turn : Turn) (bytes : List ℕ) (r : Refusal) → name ≡ name_of prefix turn → held name ≡ Some bytes → read_on turn 1 AtBanner (file_lines bytes) ≡ Err r
    → (b : List ℕ) × (held (name_of prefix turn) ≡ Some b) × IsPieceFault turn b r
held_fault held prefix name turn bytes r is there e = (bytes, ap held (sym is) ∙ there, (reading turn).refuses bytes r e)
