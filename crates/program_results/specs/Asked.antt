-- Of which arrays the lines of a program ask for the whole matrix.
use Rattle.std.specs.Prelude.{ℕ, Bool, false, nat_eq}
use Rattle.grid_lang.specs.declared.line.Line.{Line}
use Rattle.grid_lang.specs.declared.line.Line.TheVariants.{Save, PrintArray}
use Rattle.grid_lang.specs.declared.line.Numbered.{Numbered}

-- the line saves or prints the whole matrix of the array of that number
abbrev pub whole_in : ℕ → Line → Bool
whole_in array (Save a file) = nat_eq a array
whole_in array (PrintArray a) = nat_eq a array
whole_in array other = false

abbrev pub whole_at : ℕ → Numbered → Bool
whole_at array l = whole_in array l.line
