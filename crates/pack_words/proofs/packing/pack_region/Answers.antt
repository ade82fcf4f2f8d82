-- One more column.
use Rattle.std.proofs.Common.{◌+◌, ◌++◌, length, take, sym, ap, ◌∙◌, arith}
use Rattle.pack_words.specs.Packing.{column_spots, words_at}
use Rattle.pack_words.proofs.Going.{spots_before, before_more, before_length, before_room, before_all, words_go_on}
use Rattle.pack_words.proofs.packing.pack_region.Goals as goal

pub pack_column-at-requires-clause-room : goal.pack_column-at-requires-clause-room
pack_column-at-requires-clause-room c =
    let room = before_room c.args.cut.now c.args.region.now c.loop-v.v (omega arith) in
    omega arith

pub loop-v-preserved : goal.loop-v-preserved
loop-v-preserved c =
    let more = before_length c.args.cut.now c.args.region.now c.loop-v.v in
    record {
      end = omega arith;
      words = words_go_on c.args.array.now (spots_before c.args.cut.now c.args.region.now c.loop-v.v) (column_spots c.args.cut.now c.args.region.now c.loop-v.v) (take c.args.start c.args.out.now) (take c.loop-v.at c.loop-v.out) (take c.pack_column-at.result c.pack_column-at.new.out) c.loop-v.invariant.words c.pack_column-at.ensures.words
          ∙ ap (λ ss. take c.args.start c.args.out.now ++ words_at c.args.array.now ss) (sym (before_more c.args.cut.now c.args.region.now c.loop-v.v));
    }

pub returns-clause-end : goal.returns-clause-end
returns-clause-end c = c.loop-v.invariant.end ∙ ap (λ ss. c.args.start + length ss) (before_all c.args.cut.now c.args.region.now c.loop-v.v (omega arith))

pub returns-clause-words : goal.returns-clause-words
returns-clause-words c = c.loop-v.invariant.words ∙ ap (λ ss. take c.args.start c.args.out.now ++ words_at c.args.array.now ss) (before_all c.args.cut.now c.args.region.now c.loop-v.v (omega arith))
