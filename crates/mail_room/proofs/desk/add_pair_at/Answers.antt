use Rattle.std.proofs.Common.{arith}
use Rattle.mail_room.proofs.Boards.{paired, room_for_in}
use Rattle.mail_room.proofs.desk.add_pair_at.Goals as goal

pub add_in-requires : goal.add_in-requires
add_in-requires g c = room_for_in _ _ _ _ _ _ _ _ c.requires.square c.index-desks-from.is c.add_out.ensures c.index-desks-to.is c.requires.pair.0 c.requires.pair.1

pub returns : goal.returns
returns g c =
    paired g.V.Letters.letters _ _ _ _ _ _ _ _ _ _ c.in_ok-sender.ensures.sender c.in_ok-sender.ensures.receiver c.index-desks-from.is c.add_out.ensures c.index-desks-to.is c.add_in.ensures
    (omega (arith, c.requires.square.0)) (omega (arith, c.requires.square.0))
