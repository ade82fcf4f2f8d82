-- Worked pieces, each with its head and words or its fault.
use Rattle.std.proofs.Common.{◌≡◌, ℕ, ◌+◌, ◌-◌, ◌^◌, ℤ, pos, negsuc, List, [], ◌∷◌, codes, Some, None, Result, Ok, Err, refl}
use Rattle.line_text.specs.Lines.{whole_lines, without_end, without_return, text_of_lines}
use Rattle.line_text.specs.Words.{parts, not_empty}
use Rattle.line_text.specs.Numbers.{digits_number, unsigned_number, signed_number}
use Rattle.index_tools.specs.Spread.{below}
use Rattle.descriptor.specs.Bounds.{is_outside}
use Rattle.mm_grammar.specs.Faults as matrix
use Rattle.mm_grammar.specs.FileLines.{lines_behind, line_fault}
use Rattle.mm_grammar.specs.Symmetry.{symmetry_named}
use Rattle.mm_grammar.specs.Expansion.{expanded}
use Rattle.mm_grammar.specs.Parts.{banner_words, size_words, value_words}
use Rattle.mm_grammar.specs.Reading as matrix_reading
use Rattle.piece_grammar.specs.Head.{Head, Piece}
use Rattle.piece_grammar.specs.Desc.{desc_word, numbers_of, desc_numbered, desc_words}
use Rattle.piece_grammar.specs.Faults.{Fault, Mm, DescLine, Disagree, DescEntry, WrongPlace, Shape, TooLarge, Refusal}
use Rattle.piece_grammar.specs.Turn.{Turn, alone}
use Rattle.piece_grammar.specs.PieceReading.{step, at_end, read_text}
use Rattle.line_text.specs.Formats.{read_on}

abbrev banner : List ℕ
banner = codes "%%MatrixMarket matrix array integer general"

abbrev file : List (List ℕ) → List ℕ
file lines = text_of_lines (banner ∷ lines)

-- the heads of the two pieces of a matrix of 3 by 2 in blocks of 2 by 1, spread over two processes in a column
abbrev upper : Head
upper = record { nprow = 2; npcol = 1; prow = 0; pcol = 0; m = 3; n = 2; mb = 2; nb = 1; rsrc = 0; csrc = 0; lld = 2 }

abbrev lower : Head
lower = record { nprow = 2; npcol = 1; prow = 1; pcol = 0; m = 3; n = 2; mb = 2; nb = 1; rsrc = 0; csrc = 0; lld = 1 }

-- the turn of the lower one, after the upper one
abbrev second : Turn
second = record { prow = 1; pcol = 0; first = Some upper; before = 4 }

abbrev given : Head → List ℤ → Result Piece Refusal
given head words = Ok (record { head = head; words = words })

abbrev bad : ℕ → Fault → Result Piece Refusal
bad line fault = Err (record { line = line; fault = fault })

abbrev info : ℕ → Fault
info n = DescEntry (record { 0 = negsuc n })

abbrev row : Turn → List ℕ → Result Piece Refusal → (Turn × List ℕ × Result Piece Refusal)
row turn file answer = (turn, file, answer)

-- each file of the table reads at its turn as the answer beside it
abbrev AllRead : List (Turn × List ℕ × Result Piece Refusal) → Type 0
AllRead [] = Unit {0}
AllRead (row ∷ rows) = (read_text row.0 row.1 ≡ row.2) × AllRead rows

-- The two pieces; the lower one without its last line; with blank lines and comments after its second line; of another process; and of another matrix.
abbrev pieces_rows : List (Turn × List ℕ × Result Piece Refusal)
pieces_rows =
    row (alone 0 0) (file (codes "%DESC 2 1 0 0 3 2 2 1 0 0 2" ∷ codes "2 2" ∷ codes "1" ∷ codes "2" ∷ codes "4" ∷ codes "5" ∷ [])) (given upper (pos 1 ∷ pos 2 ∷ pos 4 ∷ pos 5 ∷ []))
    ∷ row second (file (codes "%DESC 2 1 1 0 3 2 2 1 0 0 1" ∷ codes "1 2" ∷ codes "3" ∷ codes "6" ∷ [])) (given lower (pos 3 ∷ pos 6 ∷ []))
    ∷ row second (file (codes "%DESC 2 1 1 0 3 2 2 1 0 0 1" ∷ codes "1 2" ∷ codes "3" ∷ [])) (bad 5 (Mm (matrix.TooFew 1 2)))
    ∷ row second (file (codes "%DESC 2 1 1 0 3 2 2 1 0 0 1" ∷ codes "% x" ∷ [] ∷ codes "%DESC" ∷ codes " +1 02" ∷ [] ∷ codes "3" ∷ codes "-6" ∷ [] ∷ [])) (given lower (pos 3 ∷ negsuc 5 ∷ []))
    ∷ row second (file (codes "%DESC 2 1 0 0 3 2 2 1 0 0 2" ∷ codes "2 2" ∷ codes "1" ∷ codes "2" ∷ codes "4" ∷ codes "5" ∷ [])) (bad 2 WrongPlace)
    ∷ row second (file (codes "%DESC 2 1 0 0 3 2 3 1 0 0 2" ∷ codes "2 2" ∷ codes "1" ∷ codes "2" ∷ codes "4" ∷ codes "5" ∷ [])) (bad 2 Disagree)
    ∷ row second (file (codes "%DESC +2\t01 1 -0 3 2 2 1 0 0 16777216" ∷ codes "16777216 2" ∷ codes "3" ∷ [])) (bad 5 (Mm (matrix.TooFew 1 33554432)))
    ∷ []

pieces_are : AllRead pieces_rows
unfolding below is_outside matrix_reading.step matrix_reading.at_end whole_lines without_end without_return parts not_empty digits_number unsigned_number signed_number lines_behind line_fault symmetry_named expanded banner_words size_words value_words desc_word numbers_of desc_numbered desc_words step at_end read_on
pieces_are = (refl, (refl, (refl, (refl, (refl, (refl, (refl, tt)))))))

-- The first two lines and the size.
abbrev lines_rows : List (Turn × List ℕ × Result Piece Refusal)
lines_rows =
    row (alone 0 0) [] (bad 1 (Mm matrix.Banner))
    ∷ row (alone 0 0) (text_of_lines (codes "%%MatrixMarket matrix array integer symmetric" ∷ [])) (bad 1 (Mm matrix.Symmetry))
    ∷ row (alone 0 0) (text_of_lines (codes "%%MatrixMarket matrix array real symmetric" ∷ [])) (bad 1 (Mm matrix.Field))
    ∷ row (alone 0 0) (file []) (bad 2 DescLine)
    ∷ row (alone 0 0) (file (codes "2 2" ∷ [])) (bad 2 DescLine)
    ∷ row (alone 0 0) (file (codes "% %DESC 1 1 0 0 1 1 1 1 0 0 1" ∷ [])) (bad 2 DescLine)
    ∷ row (alone 0 0) (file (codes " %DESC 1 1 0 0 1 1 1 1 0 0 1" ∷ [])) (bad 2 DescLine)
    ∷ row (alone 0 0) (file (codes "%desc 1 1 0 0 1 1 1 1 0 0 1" ∷ [])) (bad 2 DescLine)
    ∷ row (alone 0 0) (file (codes "%DESC 1 1 0 0 1 1 1 1 0 0" ∷ [])) (bad 2 DescLine)
    ∷ row (alone 0 0) (file (codes "%DESC 1 1 0 0 1 1 1 1 0 0 1 1" ∷ [])) (bad 2 DescLine)
    ∷ row (alone 0 0) (file (codes "%DESC 1 1 0 0 1 1 1 1 0 0 2147483648" ∷ [])) (bad 2 DescLine)
    ∷ row (alone 0 0) (file (codes "%DESC 8 9 0 0 1 1 1 1 0 0 1" ∷ [])) (bad 2 DescLine)
    ∷ row (alone 0 0) (file (codes "%DESC 1 1 1 0 1 1 1 1 0 0 1" ∷ [])) (bad 2 DescLine)
    ∷ row (alone 0 0) (file (codes "%DESC 1 1 0 -1 1 1 1 1 0 0 1" ∷ [])) (bad 2 DescLine)
    ∷ row (alone 0 0) (file ((37 ∷ 1 ∷ []) ∷ [])) (bad 2 (Mm matrix.NotText))
    ∷ row (alone 0 0) (file (codes "%DESC 1 1 0 0 -1 1 0 1 0 0 1" ∷ [])) (bad 2 (info 1))
    ∷ row (alone 0 0) (file (codes "%DESC 1 1 0 0 1 1 1 0 1 0 1" ∷ [])) (bad 2 (info 4))
    ∷ row (alone 0 0) (file (codes "%DESC 1 1 0 0 1 1 1 1 1 0 1" ∷ [])) (bad 2 (info 5))
    ∷ row (alone 0 0) (file (codes "%DESC 1 1 0 0 1 1 1 1 0 -1 1" ∷ [])) (bad 2 (info 6))
    ∷ row (alone 1 0) (file (codes "%DESC 2 1 0 0 3 2 2 1 0 0 1" ∷ [])) (bad 2 (info 8))
    ∷ row (alone 0 0) (file (codes "%DESC 1 1 0 0 1 1 1 1 0 0 1" ∷ [])) (bad 3 (Mm matrix.Size))
    ∷ row (alone 0 0) (file (codes "%DESC 1 1 0 0 1 1 1 1 0 0 1" ∷ codes "1" ∷ [])) (bad 3 (Mm matrix.Size))
    ∷ row (alone 0 0) (file (codes "%DESC 1 1 0 0 0 0 1 1 0 0 1" ∷ codes "0 0" ∷ [])) (bad 3 (Shape 0 0 1 1))
    ∷ row (alone 0 0) (file (codes "%DESC 1 1 0 0 0 0 1 1 0 0 1" ∷ codes "1 1" ∷ codes "7" ∷ [])) (given (record { nprow = 1; npcol = 1; prow = 0; pcol = 0; m = 0; n = 0; mb = 1; nb = 1; rsrc = 0; csrc = 0; lld = 1 }) (pos 7 ∷ []))
    ∷ row (record { prow = 0; pcol = 0; first = None; before = 2 ^ 26 - 1 }) (file (codes "%DESC 1 1 0 0 1 2 1 1 0 0 1" ∷ codes "1 2" ∷ [])) (bad 3 (TooLarge (2 ^ 26 + 1)))
    ∷ row (record { prow = 0; pcol = 0; first = None; before = 2 ^ 26 - 2 }) (file (codes "%DESC 1 1 0 0 1 2 1 1 0 0 1" ∷ codes "1 2" ∷ codes "x" ∷ [])) (bad 4 (Mm matrix.Value))
    ∷ []

lines_are : AllRead lines_rows
unfolding below is_outside matrix_reading.step matrix_reading.at_end whole_lines without_end without_return parts not_empty digits_number unsigned_number signed_number lines_behind line_fault symmetry_named expanded banner_words size_words value_words desc_word numbers_of desc_numbered desc_words step at_end read_on
lines_are =
    (refl, (refl, (refl, (refl, (refl, (refl, (refl, (refl, (refl, (refl, (refl, (refl, (refl, (refl, (refl, (refl, (refl, (refl, (refl, (refl, (refl, (refl, (refl, (refl, (refl, (refl, tt))))))))))))))))))))))))))
