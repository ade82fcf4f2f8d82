use Rattle.std.proofs.Common.{◌<◌, ◌≤◌, ◌||◌, Bool, length, map, take, ap, sym, ◌∙◌, arith}
use Rattle.std.proofs.lemmas.Grind.{common_steps}
use Rattle.std.specs.List.{AllByRecursion, list_any}
use Rattle.store_io.specs.Fails.{is_due}
use Rattle.store_io.specs.Heap.{IsPart}
use Rattle.store_io.specs.Entries.{fail_of, names_of}
use Rattle.store_io.proofs.FailLemmas.{counted_more, due_more, names_kept, all_at, all_counted, all_due}
use Rattle.store_io.proofs.fails.count_each.Goals as goal

pub count_one-due-requires : goal.count_one-due-requires
count_one-due-requires c =
    let here : c.loop-i.i < length c.loop-i.entries = grind (arith, common_steps) in
    let all : AllByRecursion (IsPart c.args.heap.now) (names_of c.loop-i.entries) = rw c.loop-i.invariant.names c.requires in
    all_at (IsPart c.args.heap.now) c.loop-i.entries c.loop-i.i _ all here

pub loop-i-preserved : goal.loop-i-preserved
loop-i-preserved c =
    let here : c.loop-i.i < length c.loop-i.entries = grind (arith, common_steps) in
    let there : c.loop-i.i < length (map (fail_of c.args.heap.now) c.args.entries.now) = grind (arith, common_steps) in
    record {
      counted = counted_more c.args.heap.now c.args.kind c.args.name.now _ c.loop-i.entries c.loop-i.i _ _ here there c.loop-i.invariant.counted c.count_one-due.ensures.counted;
      due = ap (λ (b : Bool). b || c.count_one-due.result) c.loop-i.invariant.due ∙ ap (λ (b : Bool). list_any (is_due c.args.kind c.args.name.now) (take c.loop-i.i (map (fail_of c.args.heap.now) c.args.entries.now)) || b) c.count_one-due.ensures.due
          ∙ sym (due_more c.args.heap.now c.args.kind c.args.name.now _ c.loop-i.entries c.loop-i.i _ here there c.loop-i.invariant.counted);
      names = names_kept c.loop-i.entries c.loop-i.i _ _ c.count_one-due.ensures.name ∙ c.loop-i.invariant.names;
    }

pub returns-clause-due : goal.returns-clause-due
returns-clause-due c =
    let done : length (map (fail_of c.args.heap.now) c.args.entries.now) ≤ c.loop-i.i = grind (arith, common_steps) in
    c.loop-i.invariant.due ∙ all_due (is_due c.args.kind c.args.name.now) _ c.loop-i.i done

pub returns-clause-counted : goal.returns-clause-counted
returns-clause-counted c =
    let done : length (map (fail_of c.args.heap.now) c.args.entries.now) ≤ c.loop-i.i = grind (arith, common_steps) in
    c.loop-i.invariant.counted ∙ all_counted c.args.kind c.args.name.now _ c.loop-i.i done
