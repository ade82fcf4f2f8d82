-- The kinds of a plan's operations, on which it depends who can step.
use Rattle.std.specs.Prelude.{ℕ, List, [], ◌∷◌}
pub use Rattle.machine.specs.declared.kind.Kind.{Kind}
pub use Rattle.machine.specs.declared.kind.Kind.TheVariants.{Send, Recv, Local}
use Rattle.machine.specs.Machine.{Lists}
use Rattle.machine.specs.Orders.{own_lists}
use Rattle.msg_core.specs.declared.node.Step.{Ghosts as StepOf}

module _ {Op : Type 0} (t : StepOf Op) where
  abbrev pub kinds_of : List (ℕ × Op) → List (ℕ × Kind)
  kinds_of [] = []
  kinds_of (x ∷ xs) = (x.0, t.kind_of x.1) ∷ kinds_of xs

  -- the kinds of each rank's own operations
  abbrev pub lists_of : List (ℕ × Op) → Lists
  lists_of steps = own_lists (kinds_of steps)
