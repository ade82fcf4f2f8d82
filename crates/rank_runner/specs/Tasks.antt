-- A post's own operations, by their places in the plan.
use Rattle.std.specs.Prelude.{◌≡◌, ℕ, ℤ, Option, Some, None, List, [], ◌∷◌, length, slice_get, reverse}
use Rattle.machine.specs.declared.kind.Kind.{Kind}
use Rattle.machine.specs.declared.kind.Kind.TheVariants.{Send, Recv, Local}
use Rattle.msg_core.specs.declared.node.Node.{Ghosts as NodeOf}
use Rattle.msg_core.specs.declared.node.Step.{Ghosts as StepOf}
use Rattle.rank_runner.specs.declared.post.Task.{Task}

abbrev pub with_op : {Op : Type 0} → Option (ℕ × Op) → List Op → List Op
with_op (Some x) os = x.1 ∷ os
with_op None os = os

-- the operations at the tasks' places
abbrev pub ops_of : {Op : Type 0} → List (ℕ × Op) → List Task → List Op
ops_of steps [] = []
ops_of steps (x ∷ xs) = with_op (slice_get steps x.place) (ops_of steps xs)

-- the tasks that are left, in their order
abbrev pub todo : Option Task → List Task → List Task
todo (Some x) xs = x ∷ reverse xs
todo None xs = reverse xs

-- the buffer of a send has its message's length
abbrev pub HasBuffer : Kind → List ℤ → Type 0
HasBuffer (Send to len) ws = length ws ≡ len
HasBuffer (Recv from len) ws = Unit {0}
HasBuffer Local ws = Unit {0}

module _ {Op : Type 0} (t : StepOf Op) (steps : List (ℕ × Op)) where
  pub record IsTask (x : Task) : Type 0 where
    pub op : ℕ × Op
    pub here : slice_get steps x.place ≡ Some op
    pub buffer : HasBuffer (t.kind_of op.1) x.buffer.items

  abbrev pub AllTasks : List Task → Type 0
  AllTasks [] = Unit {0}
  AllTasks (x ∷ xs) = IsTask x × AllTasks xs

module _ {N Op : Type 0} (t : StepOf Op) (g : NodeOf N Op) where
  -- the message of a send is packed
  abbrev pub IsPacked : Kind → N → Op → List ℤ → Type 0
  IsPacked (Send to len) n o ws = ws ≡ g.message n o
  IsPacked (Recv from len) n o ws = Unit {0}
  IsPacked Local n o ws = Unit {0}

  pub record IsBegun (steps : List (ℕ × Op)) (n : N) (x : Task) : Type 0 where
    pub op : ℕ × Op
    pub here : slice_get steps x.place ≡ Some op
    pub packed : IsPacked (t.kind_of op.1) n op.1 x.buffer.items

  abbrev pub IsHeld : List (ℕ × Op) → N → Option Task → Type 0
  IsHeld steps n (Some x) = IsBegun steps n x
  IsHeld steps n None = Unit {0}
