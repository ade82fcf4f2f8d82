-- The lines of a text. Matrix files, piece files, grid programs and traces are all read by these.
use Rattle.std.specs.Prelude.{ℕ, ◌≢◌, List, [], ◌∷◌, ◌++◌, ◌==◌, if◌then◌else◌, map}
use Rattle.std.specs.List.{flat_map, AllByRecursion}

-- a byte in front of the first of these lines
abbrev pub before_first_line : ℕ → List (List ℕ) → List (List ℕ)
before_first_line b [] = (b ∷ []) ∷ []
before_first_line b (line ∷ lines) = (b ∷ line) ∷ lines

-- the runs of bytes up to each line end (the byte 10); what stands behind the last one is a line where it isn't empty
unfoldable pub split_lines : List ℕ → List (List ℕ)
split_lines [] = []
split_lines (b ∷ bs) = if b == 10 then [] ∷ split_lines bs else before_first_line b (split_lines bs)

-- the same runs, each with its line end: joined they are the text
unfoldable pub whole_lines : List ℕ → List (List ℕ)
whole_lines [] = []
whole_lines (b ∷ bs) = if b == 10 then (b ∷ []) ∷ whole_lines bs else before_first_line b (whole_lines bs)

-- what stands before the line end
unfoldable pub without_end : List ℕ → List ℕ
without_end [] = []
without_end (b ∷ bs) = if b == 10 then [] else b ∷ without_end bs

-- a line without one carriage return (the byte 13) at its end
unfoldable pub without_return : List ℕ → List ℕ
without_return [] = []
without_return (b ∷ []) = if b == 13 then [] else b ∷ []
without_return (b ∷ c ∷ bs) = b ∷ without_return (c ∷ bs)

-- the lines of a text: one carriage return before a line end, or at the end of the text, belongs to no line
abbrev pub lines : List ℕ → List (List ℕ)
lines bytes = map without_return (split_lines bytes)

-- a line with its end
abbrev pub ended : List ℕ → List ℕ
ended line = line ++ 10 ∷ []

-- the text of these lines, each with its end
abbrev pub text_of_lines : List (List ℕ) → List ℕ
text_of_lines lines = flat_map ended lines

-- what can stand as a line of a text that is written: no line end and no carriage return in it
abbrev pub IsLine : List ℕ → Type 0
IsLine line = AllByRecursion (λ b. (b ≢ 10) × (b ≢ 13)) line

-- no line end among these bytes
abbrev pub HasNoEnd : List ℕ → Type 0
HasNoEnd bytes = AllByRecursion (λ b. b ≢ 10) bytes
