use Rattle.std.proofs.Common.{◌≡◌, None, replicate}
use Rattle.mail_room.proofs.desk.no_ins.Given as goal

abbrev pub invariant-loop : goal.invariant-loop
invariant-loop l = l.ends.items ≡ replicate l.counter None
