-- What the tool writes to its error stream.
use Rattle.std.specs.Prelude.{ℕ, List, [], ◌∷◌, ◌++◌, codes}
use Rattle.std.specs.Fmt.{decimal}
use Rattle.line_text.specs.Lines.{ended}

-- texts one after the other
abbrev pub joined : List (List ℕ) → List ℕ
joined [] = []
joined (text ∷ more) = text ++ joined more

unfoldable pub tool_name : List ℕ
tool_name = codes "gridtool: "

-- a line of the tool: its name, where something is, and what
abbrev pub line : (place text : List (List ℕ)) → List ℕ
line place text = tool_name ++ (joined place ++ ended (joined text))

-- a file isn't held
abbrev pub missing : (name : List ℕ) → List ℕ
missing name = line (name ∷ []) (codes ": missing" ∷ [])

-- the store failed at a file
abbrev pub store_fault : (name : List ℕ) → List ℕ
store_fault name = line (name ∷ []) (codes ": store fault" ∷ [])

-- a line of a file is refused
abbrev pub at_line : (name : List ℕ) → (number : ℕ) → (text : List (List ℕ)) → List ℕ
at_line name number text = line (name ∷ codes ": line " ∷ decimal number ∷ codes ": " ∷ []) text

-- a job of so many words is above the limit
abbrev pub too_many_words : ℕ → List ℕ
too_many_words words = line [] (codes "too many words: " ∷ decimal words ∷ [])

abbrev pub out_of_memory : List ℕ
out_of_memory = line [] (codes "out of memory" ∷ [])

abbrev pub output_fault : List ℕ
output_fault = line [] (codes "output fault" ∷ [])
