-- One rank by itself: what its own operations do to its memory and its desk.
use Rattle.std.specs.Prelude.{◌≡◌, ℕ, ℤ, Option, Some, None, List, [], ◌∷◌, length, slice_get, IsSomeAnd}
use Rattle.machine.specs.declared.kind.Kind.{Kind}
use Rattle.machine.specs.declared.kind.Kind.TheVariants.{Send, Recv, Local}
use Rattle.msg_core.specs.declared.node.Node.{Ghosts as NodeOf}
use Rattle.msg_core.specs.declared.node.Step.{Ghosts as StepOf}
use Rattle.msg_core.specs.InOrder.{or_none}
use Rattle.mail_room.specs.declared.seen.Side.{Side}
use Rattle.mail_room.specs.Mail.{IsNext}
use Rattle.mail_room.specs.Desks.{DeskView, side_at, after_put, after_take}

abbrev pub letter_of : Option Side → List ℤ
letter_of (Some s) = or_none (slice_get s.letters s.done)
letter_of None = []

-- the next message from that rank
abbrev pub next_letter : DeskView → ℕ → List ℤ
next_letter d from = letter_of (side_at d.ins from)

module _ {N Op : Type 0} (t : StepOf Op) (g : NodeOf N Op) where
  -- the memory after an operation of that kind
  abbrev pub node_after : Kind → N → Op → DeskView → N
  node_after (Send to len) n o d = n
  node_after (Recv from len) n o d = g.absorbed n o (next_letter d from)
  node_after Local n o d = g.acted n o

  -- and the desk
  abbrev pub desk_after : Kind → DeskView → DeskView
  desk_after (Send to len) d = after_put d to
  desk_after (Recv from len) d = after_take d from
  desk_after Local d = d

  -- what is sent is the pair's next message, and the message that is next has the receive's length
  abbrev pub Agrees : Kind → N → Op → DeskView → Type 0
  Agrees (Send to len) n o d = IsSomeAnd (side_at d.outs to) (λ s. IsNext s (g.message n o))
  Agrees (Recv from len) n o d = IsSomeAnd (side_at d.ins from) (λ s. IsNext s (next_letter d from)) × (length (next_letter d from) ≡ len)
  Agrees Local n o d = Unit {0}

  -- all the operations find what they need
  abbrev pub IsSound : N → List Op → DeskView → Type 0
  IsSound n [] d = Unit {0}
  IsSound n (o ∷ os) d = g.can_do n o × Agrees (t.kind_of o) n o d × IsSound (node_after (t.kind_of o) n o d) os (desk_after (t.kind_of o) d)

  -- the memory and the desk that they leave
  abbrev pub end_node : N → List Op → DeskView → N
  end_node n [] d = n
  end_node n (o ∷ os) d = end_node (node_after (t.kind_of o) n o d) os (desk_after (t.kind_of o) d)

  abbrev pub end_desk : List Op → DeskView → DeskView
  end_desk [] d = d
  end_desk (o ∷ os) d = end_desk os (desk_after (t.kind_of o) d)
