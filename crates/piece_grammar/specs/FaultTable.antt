-- The table of a piece's faults: for each, exactly where it is, in the order in which the first of a line is taken.
use Rattle.std.specs.Prelude.{ℕ, ◌+◌, ◌^◌, Bool, true, false, not, ◌&&◌, ◌||◌, List, [], ◌∷◌, Option, Some, None, Result, Ok, Err, nat_lt, ◌==◌, if◌then◌else◌}
use Rattle.std.specs.Option.{option_map}
use Rattle.std.specs.Result.{result_ok}
use Rattle.line_text.specs.Words.{words}
use Rattle.line_text.specs.FaultTables.{FaultTable}
pub use Rattle.line_text.specs.FaultTables.{when, first_fault}
use Rattle.mm_grammar.specs.Width.{width32}
use Rattle.mm_grammar.specs.Faults.{Fault as MatrixFault, Symmetry as SymmetryFault}
use Rattle.mm_grammar.specs.FileLines.{Line, line_fault}
use Rattle.mm_grammar.specs.Symmetry.{Symmetry, General, Symmetric, SkewSymmetric}
use Rattle.mm_grammar.specs.Parts.{Header, is_comment, is_blank_line, banner_of, size_words}
use Rattle.mm_grammar.specs.Place as at
use Rattle.mm_grammar.specs.FaultTable as matrix_table
use Rattle.piece_grammar.specs.Head.{Head, array_columns, array_words}
use Rattle.piece_grammar.specs.Desc.{Desc, desc_of, is_off_grid, desc_info, is_number, differs_from}
use Rattle.piece_grammar.specs.Faults.{Fault, Mm, DescLine, Disagree, DescEntry, WrongPlace, Shape, TooLarge}
use Rattle.piece_grammar.specs.Turn.{Turn}
use Rattle.piece_grammar.specs.Place.{Place, AtBanner, AtDesc, Behind}

-- a banner of another symmetry
abbrev pub is_another : Symmetry → Bool
is_another General = false
is_another Symmetric = true
is_another SkewSymmetric = true

abbrev pub names_another : Result Symmetry MatrixFault → Bool
names_another (Ok kind) = is_another kind
names_another (Err fault) = false

-- one of the eight numbers that all pieces share differs from the first piece's
abbrev pub disagrees : Option Head → Desc → Bool
disagrees None d = false
disagrees (Some first) d = differs_from d first

-- another process than that of the name
abbrev pub is_elsewhere : Turn → Desc → Bool
is_elsewhere turn d = not (is_number d.prow turn.prow && is_number d.pcol turn.pcol)

-- the rows of the head's line
abbrev pub desc_rows : Turn → Option Desc → List (Option Fault)
desc_rows turn None = Some DescLine ∷ []
desc_rows turn (Some d) =
    when (is_off_grid d) DescLine
    ∷ when (disagrees turn.first d) Disagree
    ∷ option_map DescEntry (desc_info d)
    ∷ when (is_elsewhere turn d) WrongPlace
    ∷ []

-- the size that a line gives where the size line has to stand, if it gives one
abbrev pub size_at : at.Place → List ℕ → Option Header
size_at at.AtBanner text = None
size_at (at.AtSize kind) text = if is_comment text || is_blank_line text then None else result_ok (size_words width32 kind (words text))
size_at (at.AtValues header stored) text = None

-- the rows of a size: it has to be LLD by the local columns, and the pieces up to this one have at most 2^26 words
abbrev pub array_rows : Turn → Head → Option Header → List (Option Fault)
array_rows turn head None = []
array_rows turn head (Some size) =
    when (not ((size.rows == head.lld) && (size.columns == array_columns head))) (Shape size.rows size.columns head.lld (array_columns head))
    ∷ when (nat_lt (2 ^ 26) (turn.before + array_words head)) (TooLarge (turn.before + array_words head))
    ∷ []

-- all rows of a line at a place: first those of a matrix file, which the second line has as every line has them
abbrev pub rows : Turn → Place → Line → List (Option Fault)
rows turn AtBanner line =
    option_map Mm (first_fault (matrix_table.rows width32 at.AtBanner line)) ∷ when (names_another (banner_of line.text)) (Mm SymmetryFault) ∷ []
rows turn AtDesc line = option_map Mm (line_fault false line) ∷ desc_rows turn (desc_of line.text)
rows turn (Behind head place) line = option_map Mm (first_fault (matrix_table.rows width32 place line)) ∷ array_rows turn head (size_at place line.text)

-- what is missing where the file ends
abbrev pub end_fault : Place → Option Fault
end_fault AtBanner = option_map Mm (matrix_table.end_fault at.AtBanner)
end_fault AtDesc = Some DescLine
end_fault (Behind head place) = option_map Mm (matrix_table.end_fault place)

-- A line is refused by the first row that it meets, and the file's end by what is missing.
abbrev pub piece_faults : Turn → FaultTable Place Line Fault
piece_faults turn = record { of_line = λ n place line. first_fault (rows turn place line); of_end = end_fault }
