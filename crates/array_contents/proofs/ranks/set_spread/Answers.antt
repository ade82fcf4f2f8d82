-- One rank more is done.
use Rattle.std.proofs.Common.{◌≡◌, ◌<◌, ◌/◌, ◌%◌, ℕ, ℤ, List, length, ap, ◌∙◌, arith}
use Rattle.std.specs.Prelude.{slice_get, slice_index_or}
use Rattle.std.proofs.lemmas.List.{length-set}
use Rattle.pack_words.specs.LocalCells.{zeros}
use Rattle.proc_grid.specs.Grid.{place_of}
use Rattle.descriptor.specs.Good.{layout_of}
use Rattle.array_contents.specs.LocalWords.{spread_word}
use Rattle.array_contents.specs.Shares.{rows_by, columns_by}
use Rattle.array_contents.specs.RankWords.{spread_rank}
use Rattle.array_contents.proofs.RankLaws.{rank_done, still_left, room_at, rows_held, same_cells}
use Rattle.array_contents.proofs.ranks.set_spread.Goals as goal

pub set_array-requires-clause-room : goal.set_array-requires-clause-room
set_array-requires-clause-room c =
    λ here.
    let room = room_at c.args.array (length c.args.room.now) c.args.ranks.now.items c.loop-rank.ranks.items c.loop-rank.rank c.index_mut.result.now c.index_mut.ensures.value c.loop-rank.invariant.left (omega arith) c.loop-rank.invariant.long c.requires.room here in
    omega (arith, room, c.loop-rank.invariant.room)

pub set_array-requires-clause-on : goal.set_array-requires-clause-on
set_array-requires-clause-on c =
    λ here.
    c.words_on-words.ensures.on (slice_index_or c.index_mut.result.now.items c.args.array (zeros 1 0)).lld
    (rows_held (layout_of c.args.spread.now c.args.ctx.now) c.args.ctx.now c.args.array c.args.ranks.now.items c.loop-rank.ranks.items c.loop-rank.rank c.index_mut.result.now c.index_mut.ensures.value c.loop-rank.invariant.left (omega arith) c.loop-rank.invariant.long c.requires.hold here)

pub loop-rank-preserved : goal.loop-rank-preserved
loop-rank-preserved c =
    let l = layout_of c.args.spread.now c.args.ctx.now in
    let o = place_of c.args.ctx.now c.loop-rank.rank in
    let now = c.loop-rank.ranks.items in
    let k : ℕ = c.loop-rank.rank in
    let mine = c.index_mut.result.now in
    let after = c.set_array.new.mine in
    let word : ℕ → ℕ → ℤ → ℤ = λ j i w. spread_word c.args.source.now (rows_by l o) (slice_get (columns_by l o) j) i w in
    let set : after.items ≡ spread_rank c.args.array c.args.source.now l c.args.ctx.now k mine.items =
    c.set_array.ensures.arrays ∙ same_cells c.args.array c.words_on-words.result word mine.items c.words_on-words.ensures.words in
    record {
      done = rank_done (spread_rank c.args.array c.args.source.now l c.args.ctx.now) now k mine after (omega arith) c.index_mut.ensures.value set ∙ c.loop-rank.invariant.done;
      left = still_left c.args.ranks.now.items now k after c.loop-rank.invariant.left;
      long = length-set now k after ∙ c.loop-rank.invariant.long;
      room = c.set_array.ensures.room ∙ c.loop-rank.invariant.room;
    }
