-- A broadcast place by place.
use Rattle.std.specs.Prelude.{◌≡◌, ◌≢◌, ℕ, ◌+◌, ◌-◌, true, false, List}
use Rattle.pack_words.specs.declared.shape.Shape.{Shape}
use Rattle.pack_words.specs.LocalCells.{word_at}
use Rattle.pack_words.specs.GridState.{GridState}
use Rattle.pack_words.specs.GridSteps.{arrays_in, array_in}
use Rattle.pack_words.specs.Parts.{IsPartGiven}
use Rattle.scope_ops.specs.declared.part.Part.{Part}
use Rattle.scope_ops.specs.Parts.{cut_of}
use Rattle.scope_ops.specs.Lines.{is_other}

-- the selected elements of every other member's part have the words of the source's part, and all else is as before: the other places of these arrays, the other arrays, the other ranks, the source and the waiting messages
pub record IsBroadcast (members : List ℕ) (source : ℕ) (shape : Shape) (part target : Part) (before after : GridState) : Type 0 where
  pub given : (r : ℕ) → is_other members source r ≡ true → IsPartGiven (cut_of shape target) target.i target.j (λ i j. word_at (array_in before source part.array) (part.i - 1 + i) (part.j - 1 + j)) (array_in before r target.array) (array_in after r target.array)
  pub other_arrays : (r a : ℕ) → a ≢ target.array → array_in after r a ≡ array_in before r a
  pub other_ranks : (r : ℕ) → is_other members source r ≡ false → arrays_in after r ≡ arrays_in before r
  pub waits : (from to : ℕ) → after.waits from to ≡ before.waits from to
