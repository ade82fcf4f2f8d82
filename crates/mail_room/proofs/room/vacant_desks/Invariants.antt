use Rattle.std.proofs.Common.{◌≡◌, replicate}
use Rattle.mail_room.specs.Making.{vacant}
use Rattle.mail_room.proofs.room.vacant_desks.Given as goal

abbrev pub invariant-loop : goal.invariant-loop
invariant-loop l = l.desks.items ≡ replicate l.counter (vacant l.ranks)
