-- One rank by itself: what its own operations do and find, where all messages of its pairs are given.
use Rattle.std.specs.Prelude.{◌≡◌, ℕ, ℤ, ◌+◌, Option, Some, List, [], ◌∷◌, length, slice_get, IsSomeAnd}
use Rattle.machine.specs.declared.kind.Kind.{Kind}
use Rattle.machine.specs.declared.kind.Kind.TheVariants.{Send, Recv, Local}
use Rattle.msg_core.specs.declared.node.Node.{Ghosts as NodeOf}
use Rattle.msg_core.specs.declared.node.Step.{Ghosts as StepOf}
use Rattle.machine.specs.Orders.{messages_of, receives_of}
use Rattle.msg_core.specs.InOrder.{World, start, own, at_rank, or_none, HasLength, in_order, letters}
use Rattle.msg_core.specs.Kinds.{kinds_of}

-- the rank's memory, and of each other rank how many messages were put on the way to it and how many of its were taken
pub record Post (N : Type 0) : Type 0 where
  pub node : N
  pub put : ℕ → ℕ
  pub taken : ℕ → ℕ

-- before the first operation
abbrev pub first_post : {N : Type 0} → N → Post N
first_post n = record { node = n; put = λ to. 0; taken = λ from. 0 }

-- rank r, whose memory is n, at some moment
abbrev pub post_in : {N : Type 0} → World N → ℕ → N → Post N
post_in w r n = record { node = n; put = λ to. length (w.sent r to); taken = λ from. w.taken from r }

module _ {N Op : Type 0} (t : StepOf Op) (g : NodeOf N Op) (letters : ℕ → ℕ → List (List ℤ)) (r : ℕ) where
  -- the message that the rank takes next from another
  abbrev pub next_letter : Post N → ℕ → Option (List ℤ)
  next_letter p from = slice_get (letters from r) (p.taken from)

  -- the rank does an operation of that kind
  abbrev pub post_by : Kind → Op → Post N → Post N
  post_by (Send to len) o p = record p { put = at_rank p.put to (p.put to + 1) }
  post_by (Recv from len) o p = record p { node = g.absorbed p.node o (or_none (next_letter p from)); taken = at_rank p.taken from (p.taken from + 1) }
  post_by Local o p = record p { node = g.acted p.node o }

  -- its operations, in their order
  abbrev pub post_after : List Op → Post N → Post N
  post_after [] p = p
  post_after (o ∷ os) p = post_after os (post_by (t.kind_of o) o p)

  -- what it sends is the pair's next message, and a receive finds a message of its length
  abbrev pub FindsBy : Kind → Op → Post N → Type 0
  FindsBy (Send to len) o p = slice_get (letters r to) (p.put to) ≡ Some (g.message p.node o)
  FindsBy (Recv from len) o p = IsSomeAnd (next_letter p from) (HasLength len)
  FindsBy Local o p = Unit {0}

  -- each of its operations can be done by its memory, and finds what it needs
  abbrev pub IsSound : List Op → Post N → Type 0
  IsSound [] p = Unit {0}
  IsSound (o ∷ os) p = g.can_do p.node o × FindsBy (t.kind_of o) o p × IsSound os (post_by (t.kind_of o) o p)

-- rank r of a plan, whose memory is n: by itself it finds what its operations need, and ends where the plan's own order has it, after all messages that it sends and receives
pub record IsByItself {N Op : Type 0} (t : StepOf Op) (g : NodeOf N Op) (steps : List (ℕ × Op)) (nodes : List N) (r : ℕ) (n : N) : Type 0 where
  pub sound : IsSound t g (letters t g steps nodes) r (own r steps) (first_post n)
  pub node : slice_get (in_order t g steps (start nodes)).nodes r ≡ Some (post_after t g (letters t g steps nodes) r (own r steps) (first_post n)).node
  pub put : (to : ℕ) → (post_after t g (letters t g steps nodes) r (own r steps) (first_post n)).put to ≡ messages_of (kinds_of t steps) r to
  pub taken : (from : ℕ) → (post_after t g (letters t g steps nodes) r (own r steps) (first_post n)).taken from ≡ receives_of (kinds_of t steps) from r
