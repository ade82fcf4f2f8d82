-- The words of a line.
use Rattle.std.specs.Prelude.{◌≡◌, ℕ, Bool, false, List, [], ◌∷◌, ◌==◌, ◌||◌, if◌then◌else◌}
use Rattle.std.specs.List.{AllByRecursion}

-- a space or a tab
abbrev pub is_blank : ℕ → Bool
is_blank b = b == 32 || b == 9

-- a byte in front of the first of these parts
abbrev pub before_first_part : ℕ → List (List ℕ) → List (List ℕ)
before_first_part b [] = (b ∷ []) ∷ []
before_first_part b (part ∷ parts) = (b ∷ part) ∷ parts

-- the parts of a line between its blanks, empty ones included
unfoldable pub parts : List ℕ → List (List ℕ)
parts [] = [] ∷ []
parts (b ∷ bs) = if is_blank b then [] ∷ parts bs else before_first_part b (parts bs)

-- those of these parts that aren't empty
unfoldable pub not_empty : List (List ℕ) → List (List ℕ)
not_empty [] = []
not_empty ([] ∷ rest) = not_empty rest
not_empty ((b ∷ bs) ∷ rest) = (b ∷ bs) ∷ not_empty rest

-- the words of a line: they are separated by one or more blanks, and blanks at its two ends count for nothing
abbrev pub words : List ℕ → List (List ℕ)
words line = not_empty (parts line)

-- a word: some bytes, none of them a blank
unfoldable pub IsWord : List ℕ → Type 0
IsWord [] = ⊥
IsWord (b ∷ bs) = AllByRecursion (λ c. is_blank c ≡ false) (b ∷ bs)

-- no blank among these bytes
abbrev pub HasNoBlank : List ℕ → Type 0
HasNoBlank bytes = AllByRecursion (λ c. is_blank c ≡ false) bytes
