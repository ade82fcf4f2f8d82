-- One more row run.
use Rattle.std.proofs.Common.{◌≡◌, ℤ, List, ◌+◌, ◌-◌, length, take, drop, slice_index_or, sym, ap, ◌∙◌, arith, rules, subst, length-take, length-drop}
use Rattle.std.proofs.lemmas.List.{take_all}
use Rattle.std.specs.List.{AllByRecursion}
use Rattle.pack_words.specs.declared.span.Span.{Span}
use Rattle.pack_words.specs.LocalCells.{LocalCells, with_part}
use Rattle.pack_words.specs.Packing.{with_words}
use Rattle.pack_words.specs.RowRuns.{IsRunOf, one_run, run_spots}
use Rattle.pack_words.proofs.Crossing.{no_span, all_at}
use Rattle.pack_words.proofs.Going.{writing_goes_on}
use Rattle.pack_words.proofs.RunSpots.{runs_none, runs_more, runs_length, runs_room, one_length, run_written, runs_after}
use Rattle.pack_words.proofs.row_runs.unpack_in_column.Goals as goal

pub loop-row-init : goal.loop-row-init
loop-row-init c =
    let nothing = runs_none c.args.j in
    let none = ap length nothing in
    record {
      end = omega arith;
      array = ap (λ ss. with_words c.args.array.now ss (take (length ss) (drop c.args.start c.args.words.now))) (sym nothing);
      limits = c.requires.limits;
      held = c.requires.array;
    }

pub overflow_add-end : goal.overflow_add-end
overflow_add-end c =
    let room = runs_room c.args.rows.now c.args.j c.loop-row.row-index (omega arith) in
    omega arith

pub slice_bounds-set_part-end : goal.slice_bounds-set_part-end
slice_bounds-set_part-end c =
    let room = runs_room c.args.rows.now c.args.j c.loop-row.row-index (omega arith) in
    search rules

pub offset_bounds-words-at : goal.offset_bounds-words-at
offset_bounds-words-at c =
    let room = runs_room c.args.rows.now c.args.j c.loop-row.row-index (omega arith) in
    search rules

pub set_part-requires-clause-rows : goal.set_part-requires-clause-rows
set_part-requires-clause-rows c =
    let here = (all_at (IsRunOf c.loop-row.array c.args.j) c.args.rows.now c.loop-row.row-index no_span c.loop-row.invariant.held (omega arith)).rows in
    omega (arith, here)

pub set_part-requires-clause-column : goal.set_part-requires-clause-column
set_part-requires-clause-column c =
    (all_at (IsRunOf c.loop-row.array c.args.j) c.args.rows.now c.loop-row.row-index no_span c.loop-row.invariant.held (omega arith)).column

pub loop-row-preserved : goal.loop-row-preserved
loop-row-preserved c =
    let rows = c.args.rows.now in
    let j = c.args.j in
    let ws = c.args.words.now in
    let start = c.args.start in
    let i = c.loop-row.row-index in
    let at = c.loop-row.at in
    let before : LocalCells = c.loop-row.array in
    let row : Span = slice_index_or rows i no_span in
    let done = run_spots (take i rows) j in
    let next = one_run j row in
    let more = runs_length rows j i (omega arith) in
    let room = runs_room rows j i (omega arith) in
    let one = one_length j row in
    let here : IsRunOf before j row = all_at (IsRunOf before j) rows i no_span c.loop-row.invariant.held (omega arith) in
    let same : at + row.len - at ≡ length next = omega arith in
    let read : List ℤ = take (length next) (drop at ws) in
    let within : length read ≡ row.len = omega (arith, one, room, c.loop-row.invariant.end, c.requires.room, length-take (length next) (drop at ws), length-drop at ws) in
    let after : c.set_part.new.self ≡ with_words c.args.array.now (run_spots (take (i + 1) rows) j) (take (length (run_spots (take (i + 1) rows) j)) (drop start ws)) =
    c.set_part.ensures.after
    ∙ ap (λ n. with_part before row.place j (take n (drop at ws))) same
    ∙ sym (run_written before j row read c.loop-row.invariant.limits here within)
    ∙ ap (λ (a : LocalCells). with_words a next read) c.loop-row.invariant.array
    ∙ ap (λ n. with_words (with_words c.args.array.now done (take (length done) (drop start ws))) next (take (length next) (drop n ws))) c.loop-row.invariant.end
    ∙ writing_goes_on c.args.array.now done next ws start (omega arith)
    ∙ ap (λ ss. with_words c.args.array.now ss (take (length ss) (drop start ws))) (sym (runs_more rows j i (omega arith))) in
    record {
      end = omega arith;
      array = after;
      limits = c.set_part.ensures.array;
      held = subst (λ (a : LocalCells). AllByRecursion (IsRunOf a j) rows) (sym after) (runs_after c.args.array.now (run_spots (take (i + 1) rows) j) _ j rows c.requires.array);
    }

pub returns-clause-end : goal.returns-clause-end
returns-clause-end c =
    c.loop-row.invariant.end ∙ ap (λ rs. c.args.start + length (run_spots rs c.args.j)) (take_all c.loop-row.row-index c.args.rows.now (omega arith))

pub returns-clause-array : goal.returns-clause-array
returns-clause-array c =
    c.loop-row.invariant.array ∙ ap (λ rs. with_words c.args.array.now (run_spots rs c.args.j) (take (length (run_spots rs c.args.j)) (drop c.args.start c.args.words.now))) (take_all c.loop-row.row-index c.args.rows.now (omega arith))
