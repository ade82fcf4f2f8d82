use Rattle.std.proofs.Common.{◌≡◌, drop, replicate}
use Rattle.mail_room.specs.Desks.{AreRows}
use Rattle.mail_room.specs.Making.{vacant, with_pairs, IsSquare}
use Rattle.mail_room.proofs.room.Room.new.Given as goal

abbrev pub invariant-loop-from : goal.invariant-loop-from
invariant-loop-from g l = record {
  square : IsSquare l.ranks l.desks.items;
  pairs : with_pairs g.V.Letters.letters l.desks.items (drop l.from-index l.caps) ≡ with_pairs g.V.Letters.letters (replicate l.ranks (vacant l.ranks)) l.caps;
  caps : AreRows l.ranks l.caps;
}
