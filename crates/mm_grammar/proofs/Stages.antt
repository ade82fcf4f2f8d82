-- The lines that are left of a file: its next one, and those after it.
use Rattle.std.proofs.Common.{◌≡◌, ℕ, ◌+◌, List, ◌∷◌, ◌++◌, length, refl}
use Rattle.line_text.specs.Lines.{whole_lines, without_return, ended, HasNoEnd}
use Rattle.line_text.proofs.WholeLineLaws.{whole_run, without_end_run}
use Rattle.mm_grammar.specs.FileLines.{Line, lines_behind}

-- the line of a run of bytes that ends with so many bytes of the file
abbrev pub line_to : (run : List ℕ) → ℕ → Line
line_to run upto = record { text = without_return run; upto = upto }

-- the lines that are left, from a line with its end
pub run_left : (before : ℕ) (run rest : List ℕ) → HasNoEnd run → lines_behind before (whole_lines (run ++ 10 ∷ rest)) ≡ line_to run (before + length (ended run)) ∷ lines_behind (before + length (ended run)) (whole_lines rest)
unfolding lines_behind
run_left before run rest is = rw (whole_run run rest is, without_end_run run is) refl
