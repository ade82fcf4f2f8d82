-- Files that are to have a text each.
use Rattle.std.specs.Prelude.{ℕ, List, [], ◌∷◌, map}
use Rattle.std.specs.List.{range_with_len}
use Rattle.std.specs.FinMap.{insert}
use Rattle.store_io.specs.Outside.{Files}

-- a file that is to have this text
pub record Save : Type 0 where
  pub name : List ℕ
  pub text : List ℕ

abbrev pub save : (name text : List ℕ) → Save
save name text = record { name = name; text = text }

-- the files with these saves done, one after the other
abbrev pub saved : List Save → Files → Files
saved [] files = files
saved (s ∷ more) files = saved more (insert files s.name s.text)

-- the names of the files
abbrev pub names_of : List Save → List (List ℕ)
names_of saves = map (λ s. s.name) saves

-- the first so many saves, where each number has one
abbrev pub numbered : (ℕ → Save) → ℕ → List Save
numbered save_at count = map save_at (range_with_len 0 count)
