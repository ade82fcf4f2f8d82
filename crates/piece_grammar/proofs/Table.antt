-- A line is refused by the first row of the table that it meets.
use Rattle.std.proofs.Common.{◌≡◌, false, List, [], ◌∷◌, Option, Some, None, Result, Ok, Err, refl, ap, ◌∙◌}
use Rattle.std.specs.Option.{option_map}
use Rattle.mm_grammar.specs.Width.{width32}
use Rattle.mm_grammar.specs.Matrix.{Matrix}
use Rattle.mm_grammar.specs.Faults.{Fault as MatrixFault, Symmetry as SymmetryFault}
use Rattle.mm_grammar.specs.FileLines.{Line, line_fault}
use Rattle.mm_grammar.specs.Symmetry.{General}
use Rattle.mm_grammar.specs.Parts.{banner_of}
use Rattle.mm_grammar.specs.Place as at
use Rattle.mm_grammar.specs.FaultTable as matrix_table
use Rattle.line_text.specs.FaultTables.{unless_fault, fault_of}
use Rattle.mm_grammar.specs.Reading as matrix
use Rattle.mm_grammar.proofs.Table as matrix_laws
use Rattle.piece_grammar.specs.Head.{Head}
use Rattle.piece_grammar.specs.Desc.{Desc, desc_of, head_of}
use Rattle.piece_grammar.specs.Faults.{Fault, Mm}
use Rattle.piece_grammar.specs.Turn.{Turn}
use Rattle.piece_grammar.specs.Place.{Place, AtBanner, AtDesc, Behind}
use Rattle.piece_grammar.specs.FaultTable.{when, first_fault, names_another, desc_rows, size_at, array_rows, rows, end_fault}
use Rattle.piece_grammar.specs.PieceReading.{passed, desc_step, step, ended_array, at_end}

fault_or_none : (o : Option Fault) (p : Place) → fault_of (unless_fault o (Ok p)) ≡ o
fault_or_none None p = refl
fault_or_none (Some fault) p = refl

-- a step of the array's file and the rows after its own
passed_fault : (more : List (Option Fault)) (place : at.Place → Place) (r : Result at.Place MatrixFault) → fault_of (passed more place r) ≡ first_fault (option_map Mm (fault_of r) ∷ more)
passed_fault more place (Ok next) = fault_or_none (first_fault more) (place next)
passed_fault more place (Err fault) = refl

in_table : (more : List (Option Fault)) (place : at.Place → Place) (here : at.Place) (line : Line)
    → fault_of (passed more place (matrix.step width32 here line)) ≡ first_fault (option_map Mm (first_fault (matrix_table.rows width32 here line)) ∷ more)
in_table more place here line =
    passed_fault more place (matrix.step width32 here line)
    ∙ ap (λ (o : Option MatrixFault). first_fault (option_map Mm o ∷ more)) (matrix_laws.line_fails width32 here line)

-- the rows of every line, and those of the head's line
desc_faults : (turn : Turn) (d : Option Desc) → fault_of (desc_step turn d) ≡ first_fault (desc_rows turn d)
desc_faults turn None = refl
desc_faults turn (Some d) = fault_or_none (first_fault (desc_rows turn (Some d))) (Behind (head_of d) (at.AtSize General))

desc_table : (o : Option MatrixFault) (turn : Turn) (d : Option Desc) → fault_of (unless_fault (option_map Mm o) (desc_step turn d)) ≡ first_fault (option_map Mm o ∷ desc_rows turn d)
desc_table None turn d = desc_faults turn d
desc_table (Some fault) turn d = refl

pub line_fails : (turn : Turn) (place : Place) (line : Line) → fault_of (step turn place line) ≡ first_fault (rows turn place line)
unfolding step
line_fails turn AtBanner line = in_table (when (names_another (banner_of line.text)) (Mm SymmetryFault) ∷ []) (λ next. AtDesc) at.AtBanner line
line_fails turn AtDesc line = desc_table (line_fault false line) turn (desc_of line.text)
line_fails turn (Behind head place) line = in_table (array_rows turn head (size_at place line.text)) (Behind head) place line

-- the file's end
array_end : (head : Head) (r : Result Matrix MatrixFault) → fault_of (ended_array head r) ≡ option_map Mm (fault_of r)
array_end head (Ok m) = refl
array_end head (Err fault) = refl

pub end_fails : (place : Place) → fault_of (at_end place) ≡ end_fault place
unfolding at_end
end_fails AtBanner = refl
end_fails AtDesc = refl
end_fails (Behind head place) = array_end head (matrix.at_end place) ∙ ap (option_map Mm) (matrix_laws.end_fails place)
