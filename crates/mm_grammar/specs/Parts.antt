-- What a line is in each part of a matrix file: the banner, a line between, the size line, a value line.
use Rattle.std.specs.Prelude.{ℕ, ◌*◌, ◌^◌, Bool, true, false, ℤ, List, [], ◌∷◌, ◌&&◌, Option, Some, None, Result, Ok, Err, codes, bytes_eq, nat_le, ◌==◌, if◌then◌else◌}
use Rattle.std.specs.Str.{str_eq_ignore_ascii_case}
use Rattle.line_text.specs.Words.{is_blank, words}
use Rattle.line_text.specs.Numbers.{unsigned_number, signed_number}
use Rattle.mm_grammar.specs.Width.{Width, most, is_in_range, has_negative}
use Rattle.mm_grammar.specs.Faults.{Fault, Banner, Field, Symmetry as SymmetryFault, Size, Value, Range}
use Rattle.mm_grammar.specs.Symmetry.{Symmetry, General, Symmetric, SkewSymmetric, symmetry_named, stored_count}

-- what the banner and the size line say
pub record Header : Type 0 where
  pub symmetry : Symmetry
  pub rows : ℕ
  pub columns : ℕ

-- the number of values that the file has to hold
abbrev pub wanted : Header → ℕ
wanted header = stored_count header.symmetry header.rows header.columns

-- no words
abbrev pub no_words : List (List ℕ) → Bool
no_words [] = true
no_words (word ∷ more) = false

abbrev pub is_blank_line : List ℕ → Bool
is_blank_line text = no_words (words text)

-- its first byte is a percent sign
abbrev pub is_comment : List ℕ → Bool
is_comment [] = false
is_comment (b ∷ bs) = b == 37

abbrev pub starts_blank : List ℕ → Bool
starts_blank [] = false
starts_blank (b ∷ bs) = is_blank b

-- the symmetry of the word, or its fault
abbrev pub symmetry_or_fault : Option Symmetry → Result Symmetry Fault
symmetry_or_fault (Some kind) = Ok kind
symmetry_or_fault None = Err SymmetryFault

-- the symmetry that five words name: the mark of such files with this case, and `matrix`, `array`, `integer` and the symmetry in any case
unfoldable pub banner_words : List (List ℕ) → Result Symmetry Fault
banner_words (mark ∷ object ∷ format ∷ field ∷ symmetry ∷ []) =
    if bytes_eq mark (codes "%%MatrixMarket") && str_eq_ignore_ascii_case object (codes "matrix") then
    (if str_eq_ignore_ascii_case format (codes "array") && str_eq_ignore_ascii_case field (codes "integer") then symmetry_or_fault (symmetry_named symmetry) else Err Field)
    else Err Banner
banner_words other = Err Banner

-- the symmetry of a banner, which starts at its first byte
abbrev pub banner_of : List ℕ → Result Symmetry Fault
banner_of text = if starts_blank text then Err Banner else banner_words (words text)

-- a size within the limits: at most 2^24 rows and columns, as many elements as the width allows, and square unless it is general
abbrev pub is_square : Symmetry → (rows columns : ℕ) → Bool
is_square General rows columns = true
is_square Symmetric rows columns = rows == columns
is_square SkewSymmetric rows columns = rows == columns

abbrev pub is_size : Width → Header → Bool
is_size width header =
    nat_le header.rows (2 ^ 24) && nat_le header.columns (2 ^ 24) && nat_le (header.rows * header.columns) (most width)
    && is_square header.symmetry header.rows header.columns

abbrev pub header_of : Width → Symmetry → Option ℕ → Option ℕ → Result Header Fault
header_of width kind (Some rows) (Some columns) =
    let header : Header = record { symmetry = kind; rows = rows; columns = columns } in if is_size width header then Ok header else Err Size
header_of width kind (Some rows) None = Err Size
header_of width kind None other = Err Size

-- two words, each a number without a minus
unfoldable pub size_words : Width → Symmetry → List (List ℕ) → Result Header Fault
size_words width kind (rows ∷ columns ∷ []) = header_of width kind (unsigned_number rows) (unsigned_number columns)
size_words width kind other = Err Size

-- the range of values, which a skew-symmetric file has without its least one
abbrev pub may_store : Width → Symmetry → ℤ → Bool
may_store width General v = is_in_range width v
may_store width Symmetric v = is_in_range width v
may_store width SkewSymmetric v = has_negative width v

abbrev pub ranged : Width → Symmetry → Option ℤ → Result ℤ Fault
ranged width kind (Some v) = if may_store width kind v then Ok v else Err Range
ranged width kind None = Err Value

-- one word, an integer in range
unfoldable pub value_words : Width → Symmetry → List (List ℕ) → Result ℤ Fault
value_words width kind (word ∷ []) = ranged width kind (signed_number word)
value_words width kind other = Err Value
