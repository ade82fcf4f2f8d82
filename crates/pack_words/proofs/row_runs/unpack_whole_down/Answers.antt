-- A run of one column has the row runs in it.
use Rattle.std.proofs.Common.{◌≤◌, ◌+◌, length, take, drop, sym, ap, ◌∙◌, subst}
use Rattle.pack_words.specs.Packing.{with_words}
use Rattle.pack_words.proofs.RunSpots.{down_runs, runs_lie}
use Rattle.pack_words.proofs.row_runs.unpack_whole_down.Goals as goal

pub unpack_in_column-requires-clause-array : goal.unpack_in_column-requires-clause-array
unpack_in_column-requires-clause-array c = runs_lie c.args.array.now c.args.rows.now c.args.col.now c.if-col-eq1.true c.requires.array

pub unpack_in_column-requires-clause-room : goal.unpack_in_column-requires-clause-room
unpack_in_column-requires-clause-room c =
    subst (λ ss. c.args.start + length ss ≤ length c.args.words.now) (down_runs c.args.cut.now c.args.rows.now c.args.col.now c.requires.shape c.if-col-eq1.true) c.requires.room

pub returns-then-col-eq1-clause-end : goal.returns-then-col-eq1-clause-end
returns-then-col-eq1-clause-end c =
    c.unpack_in_column.ensures.end ∙ ap (λ ss. c.args.start + length ss) (sym (down_runs c.args.cut.now c.args.rows.now c.args.col.now c.requires.shape c.if-col-eq1.true))

pub returns-then-col-eq1-clause-array : goal.returns-then-col-eq1-clause-array
returns-then-col-eq1-clause-array c =
    c.unpack_in_column.ensures.array ∙ ap (λ ss. with_words c.args.array.now ss (take (length ss) (drop c.args.start c.args.words.now))) (sym (down_runs c.args.cut.now c.args.rows.now c.args.col.now c.requires.shape c.if-col-eq1.true))
