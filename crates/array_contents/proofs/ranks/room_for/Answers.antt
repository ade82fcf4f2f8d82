-- One rank's array more.
use Rattle.std.proofs.Common.{◌<◌, length, arith}
use Rattle.array_contents.proofs.RoomLaws.{room_next}
use Rattle.array_contents.proofs.ranks.room_for.Goals as goal

pub loop-rank-preserved : goal.loop-rank-preserved
loop-rank-preserved c =
    room_next c.args.ranks.now c.loop-rank.rank c.args.array c.loop-rank.longest c.longer-longest.result c.index-ranks-rank.result c.index-ranks-rank.is (omega arith) c.loop-rank.invariant c.longer-longest.ensures.more c.longer-longest.ensures.lead
