-- Passes over lists, element by element.
use Rattle.std.specs.Prelude.{ℕ, List, ◌++◌, take, drop}
use Rattle.scope_ops.specs.Lines.{numbered_from}

-- the first k elements as they are, and then f of each other element and its number
abbrev pub from_here : {X : Type 0} → ℕ → (ℕ → X → X) → List X → List X
from_here k f xs = take k xs ++ numbered_from k f (drop k xs)
