-- A run of one column has the row runs in it.
use Rattle.std.proofs.Common.{◌≤◌, ◌+◌, ◌++◌, length, take, sym, ap, ◌∙◌, subst}
use Rattle.pack_words.specs.Packing.{words_at}
use Rattle.pack_words.proofs.RunSpots.{down_runs, runs_lie}
use Rattle.pack_words.proofs.row_runs.pack_whole_down.Goals as goal

pub pack_in_column-requires-clause-array : goal.pack_in_column-requires-clause-array
pack_in_column-requires-clause-array c = runs_lie c.args.array.now c.args.rows.now c.args.col.now c.if-col-eq1.true c.requires.array

pub pack_in_column-requires-clause-room : goal.pack_in_column-requires-clause-room
pack_in_column-requires-clause-room c =
    subst (λ ss. c.args.start + length ss ≤ length c.args.out.now) (down_runs c.args.cut.now c.args.rows.now c.args.col.now c.requires.shape c.if-col-eq1.true) c.requires.room

pub returns-then-col-eq1-clause-end : goal.returns-then-col-eq1-clause-end
returns-then-col-eq1-clause-end c =
    c.pack_in_column.ensures.end ∙ ap (λ ss. c.args.start + length ss) (sym (down_runs c.args.cut.now c.args.rows.now c.args.col.now c.requires.shape c.if-col-eq1.true))

pub returns-then-col-eq1-clause-words : goal.returns-then-col-eq1-clause-words
returns-then-col-eq1-clause-words c =
    c.pack_in_column.ensures.words ∙ ap (λ ss. take c.args.start c.args.out.now ++ words_at c.args.array.now ss) (sym (down_runs c.args.cut.now c.args.rows.now c.args.col.now c.requires.shape c.if-col-eq1.true))
