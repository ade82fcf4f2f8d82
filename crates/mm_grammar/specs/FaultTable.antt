-- The table of faults: for each, exactly where it is, in the order in which the first of a line is taken.
use Rattle.std.specs.Prelude.{ℕ, ◌^◌, Bool, false, not, ◌&&◌, ◌||◌, ℤ, List, [], ◌∷◌, length, get_or, Option, Some, None, is_none, is_err, codes, bytes_eq, nat_lt, ◌==◌, if◌then◌else◌}
use Rattle.std.specs.List.{list_all}
use Rattle.std.specs.Str.{str_eq_ignore_ascii_case}
use Rattle.line_text.specs.Words.{words}
use Rattle.line_text.specs.Numbers.{signed_number}
use Rattle.line_text.specs.FaultTables.{FaultTable, when, first_fault}
use Rattle.mm_grammar.specs.Width.{Width}
use Rattle.mm_grammar.specs.Faults.{Fault, FileLong, LineLong, NotText, Banner, Field, Symmetry as SymmetryFault, Size, TooMany, Value, Range, TooFew}
use Rattle.mm_grammar.specs.FileLines.{Line, is_text_byte}
use Rattle.mm_grammar.specs.Symmetry.{Symmetry, symmetry_named}
use Rattle.mm_grammar.specs.Parts.{wanted, is_blank_line, is_comment, starts_blank, size_words, may_store}
use Rattle.mm_grammar.specs.Place.{Place, AtBanner, AtSize, AtValues}

-- five words, the first at the first byte and the mark of such files, the second `matrix`
unfoldable pub is_matrix_file : (starts_late : Bool) → List (List ℕ) → Bool
is_matrix_file starts_late ws =
    not starts_late && (length ws == 5) && bytes_eq (get_or ws 0 []) (codes "%%MatrixMarket") && str_eq_ignore_ascii_case (get_or ws 1 []) (codes "matrix")

-- the third and fourth words `array` and `integer`
unfoldable pub is_integer_array : List (List ℕ) → Bool
is_integer_array ws = str_eq_ignore_ascii_case (get_or ws 2 []) (codes "array") && str_eq_ignore_ascii_case (get_or ws 3 []) (codes "integer")

-- the integer of one word
abbrev pub one_integer : List (List ℕ) → Option ℤ
one_integer [] = None
one_integer (word ∷ []) = signed_number word
one_integer (word ∷ next ∷ more) = None

abbrev pub is_out_of_range : Width → Symmetry → Option ℤ → Bool
is_out_of_range width kind (Some v) = not (may_store width kind v)
is_out_of_range width kind None = false

-- a comment before the size line
abbrev pub may_hold_any : Place → List ℕ → Bool
may_hold_any AtBanner text = false
may_hold_any (AtSize kind) text = is_comment text
may_hold_any (AtValues header stored) text = false

-- the rows of a place
abbrev pub rows_at : Width → Place → List ℕ → List (Option Fault)
rows_at width AtBanner text =
    when (not (is_matrix_file (starts_blank text) (words text))) Banner
    ∷ when (not (is_integer_array (words text))) Field
    ∷ when (is_none (symmetry_named (get_or (words text) 4 []))) SymmetryFault
    ∷ []
rows_at width (AtSize kind) text = when (not (is_comment text || is_blank_line text) && is_err (size_words width kind (words text))) Size ∷ []
rows_at width (AtValues header stored) text =
    when (not (is_blank_line text) && (length stored == wanted header)) (TooMany (wanted header))
    ∷ when (not (is_blank_line text) && is_none (one_integer (words text))) Value
    ∷ when (is_out_of_range width header.symmetry (one_integer (words text))) Range
    ∷ []

-- all rows
abbrev pub rows : Width → Place → Line → List (Option Fault)
rows width place line =
    when (nat_lt (2 ^ 30) line.upto) FileLong
    ∷ when (nat_lt 1024 (length line.text)) LineLong
    ∷ when (not (may_hold_any place line.text || list_all is_text_byte line.text)) NotText
    ∷ rows_at width place line.text

-- what is missing where the file ends
abbrev pub end_fault : Place → Option Fault
end_fault AtBanner = Some Banner
end_fault (AtSize kind) = Some Size
end_fault (AtValues header stored) = if length stored == wanted header then None else Some (TooFew (length stored) (wanted header))

-- A line is refused by the first row that it meets, and the file's end by what is missing.
abbrev pub matrix_faults : Width → FaultTable Place Line Fault
matrix_faults width = record { of_line = λ n place line. first_fault (rows width place line); of_end = end_fault }
