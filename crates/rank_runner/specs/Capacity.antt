-- The capacities of a plan's queues.
use Rattle.std.specs.Prelude.{ℕ, cond, nat_lt, Some, None, List}
use Rattle.machine.specs.declared.kind.Kind.{Kind}
use Rattle.machine.specs.Orders.{messages_of, occupancy}
use Rattle.mail_room.specs.Desks.{Capacities}

-- each pair with a message has a queue of the pair's occupancy
abbrev pub occupancy_caps : List (ℕ × Kind) → Capacities
occupancy_caps kinds from to = cond (nat_lt 0 (messages_of kinds from to)) (Some (occupancy kinds from to)) None
