-- What the steps of a plan along the edges of a route do to the memories of the members, and to all else.
use Rattle.std.specs.Prelude.{◌≡◌, ◌≢◌, ◌<◌, ℕ, ℤ, nat_eq, if◌then◌else◌, List, length, slice_get, slice_index_or}
use Rattle.msg_core.specs.Kinds.{Send, Recv}
use Rattle.msg_core.specs.declared.node.Node.{Ghosts as NodeOf}
use Rattle.msg_core.specs.declared.node.Step.{Ghosts as StepOf}
use Rattle.msg_core.specs.InOrder.{World, queue}
use Rattle.msg_core.specs.Plans.{Lens, lens_of, IsInOrder}
use Rattle.route_laws.specs.Passing.{along, turned}

-- the memory of the member at position p, where rank p is its rank
abbrev pub memory_of : {N : Type 0} → N → (ℕ → ℕ) → World N → ℕ → N
memory_of none rank w p = slice_index_or w.nodes (rank p) none

-- n different ranks of this world, and every message that one of them sent to another is taken
pub record AreQuiet {N : Type 0} (n : ℕ) (rank : ℕ → ℕ) (w : World N) : Type 0 where
  pub within : (p : ℕ) → p < n → rank p < length w.nodes
  pub differ : (p q : ℕ) → p < n → q < n → p ≢ q → rank p ≢ rank q
  pub quiet : (p q : ℕ) → p < n → q < n → p ≢ q → w.taken (rank p) (rank q) ≡ length (w.sent (rank p) (rank q))

-- all but the members' memories is as before: other ranks' memories, and the messages that wait of every pair
pub record IsElseAsBefore {N : Type 0} (n : ℕ) (rank : ℕ → ℕ) (before after : World N) : Type 0 where
  pub count : length after.nodes ≡ length before.nodes
  pub others : (r : ℕ) → ((p : ℕ) → p < n → rank p ≢ r) → slice_get after.nodes r ≡ slice_get before.nodes r
  pub queues : (from to : ℕ) → queue after from to ≡ queue before from to

-- the members have these memories, and all else is as before
pub record HaveMemories {N : Type 0} (none : N) (n : ℕ) (rank : ℕ → ℕ) (memory : ℕ → N) (before after : World N) : Type 0 where
  pub memories : (p : ℕ) → p < n → memory_of none rank after p ≡ memory p
  pub quiet : AreQuiet n rank after
  pub else_as_before : IsElseAsBefore n rank before after

module _ {Op : Type 0} (t : StepOf Op) where
  -- the operations of an edge send from its start to its end
  pub record SendAlong (rank : ℕ → ℕ) (send receive : ℕ × ℕ → Op) : Type 0 where
    pub sends : (e : ℕ × ℕ) → (len : ℕ) × (t.kind_of (send e) ≡ Send (rank e.1) len)
    pub receives : (e : ℕ × ℕ) → (len : ℕ) × (t.kind_of (receive e) ≡ Recv (rank e.0) len)

  -- and the receive takes as many words as the send gives
  pub record SameLengths (rank : ℕ → ℕ) (send receive : ℕ × ℕ → Op) : Type 0 where
    pub len : ℕ × ℕ → ℕ
    pub sends : (e : ℕ × ℕ) → t.kind_of (send e) ≡ Send (rank e.1) (len e)
    pub receives : (e : ℕ × ℕ) → t.kind_of (receive e) ≡ Recv (rank e.0) (len e)

  -- after a plan with these lengths of waiting messages the steps can be done in their order, and leave the lengths as they were
  pub record LeavesLens (steps : List (ℕ × Op)) (q : Lens) : Type 0 where
    pub order : IsInOrder t steps q
    pub same : (i j : ℕ) → lens_of t steps q i j ≡ q i j

module _ {N Op : Type 0} (g : NodeOf N Op) where
  -- what the end of an edge is when it has taken in the message of its start
  abbrev pub taken_in : (ℕ × ℕ → Op) → (ℕ × ℕ → Op) → ℕ × ℕ → N → N → N
  taken_in send receive e start end = g.absorbed end (receive e) (g.message start (send e))

  -- what a member gives and takes in depends on its position alone, and not on the other end
  pub record Delivers (send receive : ℕ × ℕ → Op) (message : ℕ → N → List ℤ) (takes : ℕ → List ℤ → N → N) : Type 0 where
    pub gives : (e : ℕ × ℕ) (a : N) → g.message a (send e) ≡ message e.0 a
    pub takes_in : (e : ℕ × ℕ) (ws : List ℤ) (b : N) → g.absorbed b (receive e) ws ≡ takes e.1 ws b

  -- the members' memories after each has loaded, and after the combine's messages
  abbrev pub loaded : (ℕ → Op) → (ℕ → N) → ℕ → N
  loaded load memory p = g.acted (memory p) (load p)

  abbrev pub gathered_up : (ℕ → Op) → (ℕ × ℕ → Op) → (ℕ × ℕ → Op) → List (ℕ × ℕ) → (ℕ → N) → ℕ → N
  gathered_up load send receive edges memory = along (taken_in send receive) (turned edges) (loaded load memory)

  -- after a combine to one destination
  abbrev pub stored_at : (ℕ → Op) → (ℕ × ℕ → Op) → (ℕ × ℕ → Op) → (ℕ → Op) → ℕ → List (ℕ × ℕ) → (ℕ → N) → ℕ → N
  stored_at load send receive store root edges memory p =
      if nat_eq p root then g.acted (gathered_up load send receive edges memory root) (store root) else gathered_up load send receive edges memory p

  -- after a combine to all
  abbrev pub stored_by_all : (ℕ → Op) → (ℕ × ℕ → Op) → (ℕ × ℕ → Op) → (ℕ × ℕ → Op) → (ℕ × ℕ → Op) → (ℕ → Op) → List (ℕ × ℕ) → (ℕ → N) → ℕ → N
  stored_by_all load send receive send' receive' store edges memory =
      loaded store (along (taken_in send' receive') edges (gathered_up load send receive edges memory))
