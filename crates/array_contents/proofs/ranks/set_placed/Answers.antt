-- One rank more is done.
use Rattle.std.proofs.Common.{◌≡◌, ◌<◌, ℕ, List, length, ◌∙◌, arith}
use Rattle.std.proofs.lemmas.List.{length-set}
use Rattle.array_contents.specs.RankWords.{placed_rank}
use Rattle.array_contents.proofs.RankLaws.{rank_done, still_left, room_at}
use Rattle.array_contents.proofs.ranks.set_placed.Goals as goal

pub set_array-requires-clause-room : goal.set_array-requires-clause-room
set_array-requires-clause-room c =
    λ here.
    let room = room_at c.args.array (length c.args.room.now) c.args.ranks.now.items c.loop-rank.ranks.items c.loop-rank.rank c.index_mut.result.now c.index_mut.ensures.value c.loop-rank.invariant.left (omega arith) c.loop-rank.invariant.long c.requires.room here in
    omega (arith, room, c.loop-rank.invariant.room)

pub loop-rank-preserved : goal.loop-rank-preserved
loop-rank-preserved c =
    let now = c.loop-rank.ranks.items in
    let k : ℕ = c.loop-rank.rank in
    let after = c.set_array.new.mine in
    record {
      done = rank_done (placed_rank c.args.array c.args.filling.now) now k c.index_mut.result.now after (omega arith) c.index_mut.ensures.value c.set_array.ensures.arrays ∙ c.loop-rank.invariant.done;
      left = still_left c.args.ranks.now.items now k after c.loop-rank.invariant.left;
      long = length-set now k after ∙ c.loop-rank.invariant.long;
      room = c.set_array.ensures.room ∙ c.loop-rank.invariant.room;
    }
