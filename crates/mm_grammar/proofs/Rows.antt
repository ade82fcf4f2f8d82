-- Worked files, each with its matrix or its fault.
use Rattle.std.proofs.Common.{◌≡◌, ℕ, ◌+◌, ◌^◌, ℤ, pos, negsuc, true, false, List, [], ◌∷◌, ◌++◌, codes, Some, None, Result, Ok, Err, refl, replicate}
use Rattle.line_text.specs.Lines.{whole_lines, without_end, without_return, text_of_lines}
use Rattle.line_text.specs.Words.{parts, not_empty}
use Rattle.line_text.specs.Numbers.{digits_number, unsigned_number, signed_number}
use Rattle.mm_grammar.specs.Width.{width32}
use Rattle.mm_grammar.specs.Matrix.{Matrix}
use Rattle.mm_grammar.specs.Faults.{Fault, FileLong, LineLong, NotText, Banner, Field, Symmetry, Size, TooMany, Value, Range, TooFew, Refusal}
use Rattle.mm_grammar.specs.FileLines.{lines_behind, line_fault}
use Rattle.mm_grammar.specs.Symmetry.{symmetry_named}
use Rattle.mm_grammar.specs.Expansion.{expanded}
use Rattle.mm_grammar.specs.Parts.{banner_words, size_words, value_words}
use Rattle.mm_grammar.specs.Reading.{step, at_end, read_text}
use Rattle.line_text.specs.Formats.{read_on}

abbrev general : List (List ℕ) → List ℕ
general lines = text_of_lines (codes "%%MatrixMarket matrix array integer general" ∷ lines)

abbrev given : (rows columns : ℕ) → List ℤ → Result Matrix Refusal
given rows columns values = Ok (record { rows = rows; columns = columns; values = values })

abbrev bad : ℕ → Fault → Result Matrix Refusal
bad line fault = Err (record { line = line; fault = fault })

abbrev row : List ℕ → Result Matrix Refusal → (List ℕ × Result Matrix Refusal)
row file answer = (file, answer)

-- each file of the table reads as the answer beside it
abbrev AllRead : List (List ℕ × Result Matrix Refusal) → Type 0
AllRead [] = Unit {0}
AllRead (row ∷ rows) = (read_text width32 row.0 ≡ row.1) × AllRead rows

-- A matrix of 3 by 2, and the same file with a value too few, one too many, one past the range, and no bytes at all.
abbrev sizes_and_counts_rows : List (List ℕ × Result Matrix Refusal)
sizes_and_counts_rows =
    row (general (codes "3 2" ∷ codes "1" ∷ codes "2" ∷ codes "3" ∷ codes "4" ∷ codes "5" ∷ codes "6" ∷ [])) (given 3 2 (pos 1 ∷ pos 2 ∷ pos 3 ∷ pos 4 ∷ pos 5 ∷ pos 6 ∷ []))
    ∷ row (general (codes "3 2" ∷ codes "1" ∷ codes "2" ∷ codes "3" ∷ codes "4" ∷ codes "5" ∷ [])) (bad 8 (TooFew 5 6))
    ∷ row (general (codes "3 2" ∷ codes "1" ∷ codes "2" ∷ codes "3" ∷ codes "4" ∷ codes "5" ∷ codes "6" ∷ codes "7" ∷ [])) (bad 9 (TooMany 6))
    ∷ row (general (codes "3 2" ∷ codes "2147483648" ∷ codes "2" ∷ codes "3" ∷ codes "4" ∷ codes "5" ∷ codes "6" ∷ [])) (bad 3 Range)
    ∷ row [] (bad 1 Banner)
    ∷ row (general []) (bad 2 Size)
    ∷ row (general (codes "% note" ∷ [] ∷ [])) (bad 4 Size)
    ∷ row (general (codes "3 2" ∷ [])) (bad 3 (TooFew 0 6))
    ∷ row (general (codes "0 3" ∷ [])) (given 0 3 [])
    ∷ row (general (codes "0 3" ∷ [] ∷ codes "x" ∷ [])) (bad 4 (TooMany 0))
    ∷ []

sizes_and_counts : AllRead sizes_and_counts_rows
unfolding read_on whole_lines without_end without_return parts not_empty digits_number unsigned_number signed_number lines_behind line_fault symmetry_named expanded banner_words size_words value_words step at_end
sizes_and_counts = (refl, (refl, (refl, (refl, (refl, (refl, (refl, (refl, (refl, (refl, tt))))))))))

-- Stored triangles, by columns.
abbrev symmetries_rows : List (List ℕ × Result Matrix Refusal)
symmetries_rows =
    row (text_of_lines (codes "%%MatrixMarket MATRIX Array Integer Symmetric" ∷ codes "% note" ∷ [] ∷ codes "2 2" ∷ codes "+1" ∷ codes "2" ∷ codes "3" ∷ [])) (given 2 2 (pos 1 ∷ pos 2 ∷ pos 2 ∷ pos 3 ∷ []))
    ∷ row (text_of_lines (codes "%%MatrixMarket MATRIX Array Integer skew-Symmetric" ∷ codes "% note" ∷ [] ∷ codes "2 2" ∷ codes "5" ∷ [])) (given 2 2 (pos 0 ∷ pos 5 ∷ negsuc 4 ∷ pos 0 ∷ []))
    ∷ row (text_of_lines (codes "%%MatrixMarket matrix array integer symmetric" ∷ codes "3 3" ∷ codes "1" ∷ codes "2" ∷ codes "3" ∷ codes "4" ∷ codes "5" ∷ codes "6" ∷ [])) (given 3 3 (pos 1 ∷ pos 2 ∷ pos 3 ∷ pos 2 ∷ pos 4 ∷ pos 5 ∷ pos 3 ∷ pos 5 ∷ pos 6 ∷ []))
    ∷ row (text_of_lines (codes "%%MatrixMarket matrix array integer skew-symmetric" ∷ codes "3 3" ∷ codes "1" ∷ codes "2" ∷ codes "3" ∷ [])) (given 3 3 (pos 0 ∷ pos 1 ∷ pos 2 ∷ negsuc 0 ∷ pos 0 ∷ pos 3 ∷ negsuc 1 ∷ negsuc 2 ∷ pos 0 ∷ []))
    ∷ row (text_of_lines (codes "%%MatrixMarket matrix array integer symmetric" ∷ codes "2 3" ∷ codes "1" ∷ [])) (bad 2 Size)
    ∷ row (text_of_lines (codes "%%MatrixMarket matrix array integer skew-symmetric" ∷ codes "1 1" ∷ [])) (given 1 1 (pos 0 ∷ []))
    ∷ row (text_of_lines (codes "%%MatrixMarket matrix array integer skew-symmetric" ∷ codes "2 2" ∷ codes "-2147483648" ∷ [])) (bad 3 Range)
    ∷ row (text_of_lines (codes "%%MatrixMarket matrix array integer skew-symmetric" ∷ codes "2 2" ∷ codes "-2147483647" ∷ [])) (given 2 2 (pos 0 ∷ negsuc 2147483646 ∷ pos 2147483647 ∷ pos 0 ∷ []))
    ∷ row (text_of_lines (codes "%%MatrixMarket matrix array integer symmetric" ∷ codes "1 1" ∷ codes "-2147483648" ∷ [])) (given 1 1 (negsuc 2147483647 ∷ []))
    ∷ row (text_of_lines (codes "%%MatrixMarket matrix array integer symmetric" ∷ codes "2 2" ∷ codes "1" ∷ codes "2" ∷ [])) (bad 5 (TooFew 2 3))
    ∷ []

symmetries : AllRead symmetries_rows
unfolding read_on whole_lines without_end without_return parts not_empty digits_number unsigned_number signed_number lines_behind line_fault symmetry_named expanded banner_words size_words value_words step at_end
symmetries = (refl, (refl, (refl, (refl, (refl, (refl, (refl, (refl, (refl, (refl, tt))))))))))

-- Blanks, blank lines, comments, signs and leading zeros.
abbrev spellings_rows : List (List ℕ × Result Matrix Refusal)
spellings_rows =
    row (text_of_lines (codes "%%MatrixMarket matrix array integer general  " ∷ codes "%" ∷ codes "%%x" ∷ [] ∷ codes " \t" ∷ codes "% 1 1" ∷ codes " 2\t +02 " ∷ [] ∷ codes "+1" ∷ codes " -0\t" ∷ codes "007" ∷ [] ∷ codes "-2147483648" ∷ [] ∷ [])) (given 2 2 (pos 1 ∷ pos 0 ∷ pos 7 ∷ negsuc 2147483647 ∷ []))
    ∷ row (general (codes "1 1" ∷ codes "2147483647" ∷ [])) (given 1 1 (pos 2147483647 ∷ []))
    ∷ row (general (codes "1 1" ∷ codes "% 5" ∷ [])) (bad 3 Value)
    ∷ row (general (codes "1 1" ∷ codes "5" ∷ codes "% 5" ∷ [])) (bad 4 (TooMany 1))
    ∷ row (general (codes "1 1" ∷ codes "5 6" ∷ [])) (bad 3 Value)
    ∷ row (general (codes "1 1" ∷ codes "+-5" ∷ [])) (bad 3 Value)
    ∷ row (general (codes "1 1" ∷ codes "+" ∷ [])) (bad 3 Value)
    ∷ row (general (codes "1 1" ∷ codes "1.0" ∷ [])) (bad 3 Value)
    ∷ row (general (codes "-1 1" ∷ [])) (bad 2 Size)
    ∷ row (general (codes "1" ∷ [])) (bad 2 Size)
    ∷ row (general (codes "1 1 1" ∷ [])) (bad 2 Size)
    ∷ row (general (codes "16777217 0" ∷ [])) (bad 2 Size)
    ∷ row (general (codes "16777216 0" ∷ [])) (given 16777216 0 [])
    ∷ row (general (codes "16777216 5" ∷ [])) (bad 2 Size)
    ∷ []

spellings : AllRead spellings_rows
unfolding read_on whole_lines without_end without_return parts not_empty digits_number unsigned_number signed_number lines_behind line_fault symmetry_named expanded banner_words size_words value_words step at_end
spellings = (refl, (refl, (refl, (refl, (refl, (refl, (refl, (refl, (refl, (refl, (refl, (refl, (refl, (refl, tt))))))))))))))

-- The first line.
abbrev banners_rows : List (List ℕ × Result Matrix Refusal)
banners_rows =
    row (text_of_lines (codes " %%MatrixMarket matrix array integer general" ∷ codes "1 1" ∷ codes "5" ∷ [])) (bad 1 Banner)
    ∷ row (text_of_lines (codes "%%matrixmarket matrix array integer general" ∷ codes "1 1" ∷ codes "5" ∷ [])) (bad 1 Banner)
    ∷ row (text_of_lines (codes "%%MatrixMarket matrix array integer" ∷ codes "1 1" ∷ codes "5" ∷ [])) (bad 1 Banner)
    ∷ row (text_of_lines (codes "%%MatrixMarket matrix array integer general x" ∷ codes "1 1" ∷ codes "5" ∷ [])) (bad 1 Banner)
    ∷ row (text_of_lines (codes "%%MatrixMarket vector array integer general" ∷ [])) (bad 1 Banner)
    ∷ row (text_of_lines (codes "%%MatrixMarket matrix coordinate integer general" ∷ [])) (bad 1 Field)
    ∷ row (text_of_lines (codes "%%MatrixMarket matrix array real x" ∷ [])) (bad 1 Field)
    ∷ row (text_of_lines (codes "%%MatrixMarket matrix array integer hermitian" ∷ [])) (bad 1 Symmetry)
    ∷ row (text_of_lines ([] ∷ [])) (bad 1 Banner)
    ∷ []

banners : AllRead banners_rows
unfolding read_on whole_lines without_end without_return parts not_empty digits_number unsigned_number signed_number lines_behind line_fault symmetry_named expanded banner_words size_words value_words step at_end
banners = (refl, (refl, (refl, (refl, (refl, (refl, (refl, (refl, (refl, tt)))))))))

-- Carriage returns, no line end at the end, and bytes that aren't text.
abbrev line_ends_rows : List (List ℕ × Result Matrix Refusal)
line_ends_rows =
    row (codes "%%MatrixMarket matrix array integer general" ++ 13 ∷ 10 ∷ [] ++ codes "3 2" ++ 13 ∷ 10 ∷ [] ++ codes "1" ++ 13 ∷ 10 ∷ [] ++ codes "2" ++ 13 ∷ 10 ∷ [] ++ codes "3" ++ 13 ∷ 10 ∷ [] ++ codes "4" ++ 13 ∷ 10 ∷ [] ++ codes "5" ++ 13 ∷ 10 ∷ [] ++ codes "6" ++ 13 ∷ 10 ∷ []) (given 3 2 (pos 1 ∷ pos 2 ∷ pos 3 ∷ pos 4 ∷ pos 5 ∷ pos 6 ∷ []))
    ∷ row (codes "%%MatrixMarket matrix array integer general" ++ 10 ∷ codes "1 1" ++ 10 ∷ codes "5") (given 1 1 (pos 5 ∷ []))
    ∷ row (codes "%%MatrixMarket matrix array integer general" ++ 10 ∷ codes "1 1" ++ 10 ∷ codes "5" ++ 13 ∷ []) (given 1 1 (pos 5 ∷ []))
    ∷ row (codes "%%MatrixMarket matrix array integer general" ++ 10 ∷ codes "1 1" ++ 10 ∷ codes "5" ++ 13 ∷ 13 ∷ 10 ∷ []) (bad 3 NotText)
    ∷ row (31 ∷ 139 ∷ 8 ∷ []) (bad 1 NotText)
    ∷ row (general ((37 ∷ 0 ∷ 255 ∷ []) ∷ codes "1 1" ∷ codes "5" ∷ [])) (given 1 1 (pos 5 ∷ []))
    ∷ row (general (codes "1 1" ∷ (37 ∷ 0 ∷ []) ∷ [])) (bad 3 NotText)
    ∷ row (general ((49 ∷ 127 ∷ []) ∷ [])) (bad 2 NotText)
    ∷ row (codes "%%MatrixMarket vector array integer general" ++ 12 ∷ []) (bad 1 NotText)
    ∷ []

line_ends : AllRead line_ends_rows
unfolding read_on whole_lines without_end without_return parts not_empty digits_number unsigned_number signed_number lines_behind line_fault symmetry_named expanded banner_words size_words value_words step at_end
line_ends = (refl, (refl, (refl, (refl, (refl, (refl, (refl, (refl, (refl, tt)))))))))

-- Lines of 1,024 bytes and of one more: a comment, a banner and a value.
abbrev long_lines_rows : List (List ℕ × Result Matrix Refusal)
long_lines_rows =
    row (general ((37 ∷ replicate 1023 200) ∷ codes "0 0" ∷ [])) (given 0 0 [])
    ∷ row (general ((37 ∷ replicate 1023 200 ++ 13 ∷ []) ∷ codes "0 0" ∷ [])) (given 0 0 [])
    ∷ row (general ((37 ∷ replicate 1024 200) ∷ codes "0 0" ∷ [])) (bad 2 LineLong)
    ∷ row (text_of_lines ((codes "%%MatrixMarket matrix array integer general" ++ replicate 981 32) ∷ codes "0 0" ∷ [])) (given 0 0 [])
    ∷ row (text_of_lines ((codes "%%MatrixMarket matrix array integer general" ++ replicate 982 32) ∷ codes "0 0" ∷ [])) (bad 1 LineLong)
    ∷ row (general (codes "1 1" ∷ (replicate 1023 48 ++ codes "7") ∷ [])) (given 1 1 (pos 7 ∷ []))
    ∷ row (general (codes "1 1" ∷ (replicate 1024 48 ++ codes "7") ∷ [])) (bad 3 LineLong)
    ∷ []

long_lines : AllRead long_lines_rows
unfolding read_on whole_lines without_end without_return parts not_empty digits_number unsigned_number signed_number lines_behind line_fault symmetry_named expanded banner_words size_words value_words step at_end
long_lines = (refl, (refl, (refl, (refl, (refl, (refl, (refl, tt)))))))

-- Byte number 2^30 + 1 of the file stands in the line that ends behind it, and not in one that ends before it.
file_ends : (line_fault false (record { text = []; upto = 2 ^ 30 + 1 }) ≡ Some FileLong) × (line_fault true (record { text = []; upto = 2 ^ 30 }) ≡ None)
unfolding line_fault
file_ends = (refl, refl)
