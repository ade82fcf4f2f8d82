use Rattle.std.proofs.Common.{subst, sym, List}
use Rattle.mail_room.specs.Desks.{DeskView}
use Rattle.mail_room.specs.Making.{IsSquare}
use Rattle.mail_room.proofs.desk.add_pair.Goals as goal

pub add_pair_at-requires-clause-square : goal.add_pair_at-requires-clause-square
add_pair_at-requires-clause-square g c = subst (λ (l : List DeskView). IsSquare c.args.ranks l) (sym c.as_mut_slice.ensures.value) c.requires.square
