-- What can go on to a matrix file: whole lines that stand in the parts, where the file's limit leaves room.
use Rattle.std.specs.Prelude.{◌≡◌, ℕ, ◌+◌, ◌-◌, ◌*◌, ◌^◌, ◌≤◌, List, [], ◌∷◌, ◌++◌, length}
use Rattle.mm_grammar.specs.Width.{Width}
use Rattle.mm_grammar.specs.Matrix.{Matrix}
use Rattle.mm_grammar.specs.FileLines.{file_lines}
use Rattle.mm_grammar.specs.Parts.{wanted}
use Rattle.mm_grammar.specs.MatrixText.{IsMatrixText}
use Rattle.mm_grammar.specs.Place.{Place, AtBanner, AtSize, AtValues}
use Rattle.mm_grammar.specs.MatrixFault.{LeadsTo}

-- the last byte is a line end, where there is a byte
unfoldable pub EndsLine : List ℕ → Type 0
EndsLine [] = Unit {0}
EndsLine (b ∷ []) = b ≡ 10
EndsLine (b ∷ c ∷ bs) = EndsLine (c ∷ bs)

-- how many bytes the shortest rest of a file has: a banner of 43 bytes, the size line `0 0`, and the values 0, each with its end
abbrev pub least_rest : Place → ℕ
least_rest AtBanner = 48
least_rest (AtSize kind) = 4
least_rest (AtValues header stored) = 2 * (wanted header - length stored)

-- Whole lines that stand in the parts go on to a text of some matrix, if a rest fits into the 2^30 bytes of a file.
abbrev pub GoesOn : Width → Type 0
GoesOn width = (front : List ℕ) (place : Place) → EndsLine front → LeadsTo width (file_lines front) place → length front + least_rest place ≤ 2 ^ 30
    → (rest : List ℕ) × (m : Matrix) × IsMatrixText width (front ++ rest) m
