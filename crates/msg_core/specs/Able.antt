-- Memories that can do a plan.
use Rattle.std.specs.Prelude.{◌≡◌, ◌≤◌, ℕ, ℤ, List, length, map, drop}
use Rattle.machine.specs.declared.kind.Kind.TheVariants.{Send}
use Rattle.msg_core.specs.declared.node.Node.{Ghosts as NodeOf}
use Rattle.msg_core.specs.declared.node.Step.{Ghosts as StepOf}
use Rattle.msg_core.specs.InOrder.{World}
use Rattle.msg_core.specs.Plans.{Lens, no_lens, IsInOrder, AllCan}

-- the lengths are those of the messages that wait
abbrev pub Matches : {N : Type 0} → Lens → World N → Type 0
Matches q w = (i j : ℕ) → (w.taken i j ≤ length (w.sent i j)) × (q i j ≡ map length (drop (w.taken i j) (w.sent i j)))

module _ {N Op : Type 0} (t : StepOf Op) (g : NodeOf N Op) where
  -- the laws of a node
  pub record Lawful : Type 0 where
    pub message_length : (s : N) (o : Op) (to len : ℕ) → g.can_do s o → t.kind_of o ≡ Send to len → length (g.message s o) ≡ len
    pub after_absorb : (s : N) (o p : Op) (ws : List ℤ) → g.can_do s o → g.can_do s p → g.can_do (g.absorbed s p ws) o
    pub after_act : (s : N) (o p : Op) → g.can_do s o → g.can_do s p → g.can_do (g.acted s p) o

  -- each operation can be done by its rank's memory, and finds its message in the plan's own order
  pub record IsAble (steps : List (ℕ × Op)) (nodes : List N) : Type 0 where
    pub laws : Lawful
    pub all : AllCan g nodes steps
    pub order : IsInOrder t steps no_lens
