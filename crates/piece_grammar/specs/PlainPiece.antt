-- The form in which pieces are written, and the names of their files.
use Rattle.std.specs.Prelude.{◌≡◌, ℕ, List, [], ◌∷◌, ◌++◌}
use Rattle.std.specs.Fmt.{decimal}
use Rattle.std.specs.List.{flat_map}
use Rattle.line_text.specs.Lines.{text_of_lines}
use Rattle.mm_grammar.specs.Width.{width32}
use Rattle.mm_grammar.specs.Matrix.{Matrix, IsMatrix}
use Rattle.mm_grammar.specs.PlainText.{banner_line, cell_lines}
use Rattle.piece_grammar.specs.Head.{Head, IsHead, Piece, array_of}
use Rattle.piece_grammar.specs.Desc.{desc_word}
use Rattle.piece_grammar.specs.PieceText.{IsPieceText}

abbrev pub head_numbers : Head → List ℕ
head_numbers h = h.nprow ∷ h.npcol ∷ h.prow ∷ h.pcol ∷ h.m ∷ h.n ∷ h.mb ∷ h.nb ∷ h.rsrc ∷ h.csrc ∷ h.lld ∷ []

-- a space and the number
abbrev pub spaced : ℕ → List ℕ
spaced n = 32 ∷ decimal n

-- the numbers, a space before each
unfoldable pub desc_numbers : Head → List ℕ
desc_numbers h = flat_map spaced (head_numbers h)

abbrev pub desc_line : Head → List ℕ
desc_line h = desc_word ++ desc_numbers h

-- the banner, the line of the head, and the size and the values of the local array, each line with its end
unfoldable pub piece_text : Head → Matrix → List ℕ
piece_text h cells = text_of_lines (banner_line ∷ desc_line h ∷ cell_lines cells)

-- prefix.p.q
abbrev pub piece_name : (prefix : List ℕ) → (p q : ℕ) → List ℕ
piece_name prefix p q = prefix ++ 46 ∷ (decimal p ++ 46 ∷ decimal q)

-- a piece that may be written: its head is one that a piece may have, and its local array is whole
pub record IsWhole (p : Piece) : Type 0 where
  pub is_head : IsHead p.head
  pub is_array : IsMatrix width32 (array_of p)

-- the text of the piece is a text of it, and of no other one
pub record ReadsBack (p : Piece) : Type 0 where
  pub again : IsPieceText (piece_text p.head (array_of p)) p
  pub alone : (q : Piece) → IsPieceText (piece_text p.head (array_of p)) q → q ≡ p
