use Rattle.std.proofs.Common.{◌≡◌, ◌+◌, ◌≤◌, ◌^◌, ℕ, None, sym, subst}
use Rattle.std.specs.List.{AllByRecursion}
use Rattle.pack_words.specs.GridShapes.{IsSize}
use Rattle.program_meaning.specs.ProgramState.{large_fault}
use Rattle.program_meaning.specs.Declarations.{words_in}
use Rattle.line_plans.specs.ArrayLines.{words_of}
use Rattle.line_plans.proofs.ArraySizes.{all_sizes}
use Rattle.line_plans.proofs.ArrayDone.{array_ready, measured_long, few_by, part_few}
use Rattle.line_plans.proofs.array_line.declare_array.Goals as goal

pub with_array-requires-clause-whole : goal.with_array-requires-clause-whole
with_array-requires-clause-whole c = measured_long c.args.declared.contexts c.args.declared.shapes.ranks (words_of c.args.line.now) c.in-Ok.m.spread c.in-Ok.m.sizes.items c.in-Ok.m.words c.in-Ok.ensures.ok

pub with_array-requires-clause-each : goal.with_array-requires-clause-each
with_array-requires-clause-each c =
    let area : c.in-Ok.m.words ≤ 2 ^ 26 = part_few c.args.declared.words _ c.in-Ok.m.words c.words_with.result c.words_with.ensures (few_by c.words_with.result c.in_default.ensures) in
    let same = c.in-Ok.ensures.ok.words_are in
    let few : words_in c.in-Ok.m.sizes.items ≤ 2 ^ 26 = subst (λ n. n ≤ 2 ^ 26) same area in
    all_sizes c.in-Ok.m.sizes.items few c.in-Ok.ensures.ok.leads

pub returns-clause-done : goal.returns-clause-done
returns-clause-done c = λ state is exact.
    array_ready c.args.declared c.args.plan.now state (words_of c.args.line.now) c.in-Ok.m.spread c.in-Ok.m.sizes c.in-Ok.m.words c.with_array.result c.in-Ok.ensures.ok is exact
    (subst (λ n. large_fault n ≡ None) c.words_with.ensures c.in_default.ensures)
    c.with_array.ensures.ok c.with_array.ensures.sizes c.with_array.ensures.err
