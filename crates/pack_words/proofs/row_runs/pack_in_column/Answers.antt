-- One more row run.
use Rattle.std.proofs.Common.{◌+◌, ◌++◌, length, take, slice_index_or, sym, ap, ◌∙◌, arith}
use Rattle.std.proofs.lemmas.List.{append-nil, take_all}
use Rattle.pack_words.specs.declared.span.Span.{Span}
use Rattle.pack_words.specs.Packing.{words_at}
use Rattle.pack_words.specs.RowRuns.{IsRunOf, one_run, run_spots}
use Rattle.pack_words.proofs.Crossing.{no_span, all_at}
use Rattle.pack_words.proofs.Going.{words_go_on}
use Rattle.pack_words.proofs.RunSpots.{runs_none, runs_more, runs_length, runs_room, run_words}
use Rattle.pack_words.proofs.row_runs.pack_in_column.Goals as goal

pub loop-row-init : goal.loop-row-init
loop-row-init c =
    let nothing = runs_none c.args.j in
    let none = ap length nothing in
    record {
      end = omega arith;
      words = sym (append-nil (take c.args.start c.args.out.now)) ∙ ap (λ ss. take c.args.start c.args.out.now ++ words_at c.args.array.now ss) (sym nothing);
    }

pub part-part-requires-clause-rows : goal.part-part-requires-clause-rows
part-part-requires-clause-rows c =
    (all_at (IsRunOf c.args.array.now c.args.j) c.args.rows.now c.loop-row.row-index no_span c.requires.array (omega arith)).rows

pub part-part-requires-clause-column : goal.part-part-requires-clause-column
part-part-requires-clause-column c =
    (all_at (IsRunOf c.args.array.now c.args.j) c.args.rows.now c.loop-row.row-index no_span c.requires.array (omega arith)).column

pub put_part-requires : goal.put_part-requires
put_part-requires c =
    let room = runs_room c.args.rows.now c.args.j c.loop-row.row-index (omega arith) in
    omega arith

pub overflow_add-at : goal.overflow_add-at
overflow_add-at c =
    let room = runs_room c.args.rows.now c.args.j c.loop-row.row-index (omega arith) in
    omega arith

pub loop-row-preserved : goal.loop-row-preserved
loop-row-preserved c =
    let array = c.args.array.now in
    let rows = c.args.rows.now in
    let j = c.args.j in
    let i = c.loop-row.row-index in
    let row : Span = slice_index_or rows i no_span in
    let more = runs_length rows j i (omega arith) in
    let here : IsRunOf array j row = all_at (IsRunOf array j) rows i no_span c.requires.array (omega arith) in
    record {
      end = omega arith;
      words = words_go_on array (run_spots (take i rows) j) (one_run j row) (take c.args.start c.args.out.now) (take c.loop-row.at c.loop-row.out) (take (c.loop-row.at + row.len) c.put_part.new.words) c.loop-row.invariant.words
          (ap (λ n. take (c.loop-row.at + n) c.put_part.new.words) (sym c.part-part.ensures.len)
          ∙ c.put_part.ensures.front
          ∙ ap (λ ws. take c.loop-row.at c.loop-row.out ++ ws) (c.part-part.ensures.words ∙ sym (run_words array j row c.requires.limits here)))
          ∙ ap (λ ss. take c.args.start c.args.out.now ++ words_at array ss) (sym (runs_more rows j i (omega arith)));
    }

pub returns-clause-end : goal.returns-clause-end
returns-clause-end c =
    c.loop-row.invariant.end ∙ ap (λ rs. c.args.start + length (run_spots rs c.args.j)) (take_all c.loop-row.row-index c.args.rows.now (omega arith))

pub returns-clause-words : goal.returns-clause-words
returns-clause-words c =
    c.loop-row.invariant.words ∙ ap (λ rs. take c.args.start c.args.out.now ++ words_at c.args.array.now (run_spots rs c.args.j)) (take_all c.loop-row.row-index c.args.rows.now (omega arith))
