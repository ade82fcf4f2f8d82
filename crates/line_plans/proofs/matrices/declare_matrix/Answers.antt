use Rattle.std.proofs.Common.{◌≡◌, ◌+◌, ◌*◌, ◌^◌, ◌≤◌, ℕ, false, nat_lt, List, None, replicate, sym, ap, subst, ◌∙◌, arith}
use Rattle.std.specs.Prelude.{◌==◌, ◌||◌}
use Rattle.std.proofs.lemmas.Bool.Decides.{nat_tests}
use Rattle.std.proofs.lemmas.List.{length-replicate}
use Rattle.line_text.specs.FaultTables.{when}
use Rattle.msg_core.specs.Plans.{word_count}
use Rattle.pack_words.specs.GridState.{rank_steps}
use Rattle.proc_grid.specs.declared.grid_err.GridErr.TheVariants.{BadLead}
use Rattle.program_meaning.specs.declared.fault.ExecFault.TheVariants as fault
use Rattle.program_meaning.specs.ProgramState.{large_fault}
use Rattle.program_meaning.specs.Declarations.{words_in}
use Rattle.line_plans.proofs.SizeLaws.{words_alike}
use Rattle.line_plans.proofs.SoundLaws.{array_done}
use Rattle.line_plans.proofs.matrices.declare_matrix.Goals as goal

good_lead : (lld : ℕ) → 1 ≤ lld → lld ≤ 2 ^ 24 → (lld == 0 || nat_lt (2 ^ 24) lld) ≡ false
good_lead lld a b = grind (arith, nat_tests)

pub returns-clause-done : goal.returns-clause-done
returns-clause-done c = λ state is exact.
    let ranks = c.ranks-ranks.ensures.ranks in
    let zs : List (ℕ × ℕ) = replicate c.args.declared.shapes.ranks (c.args.lld, c.args.cols) in
    let same : c.in-Ok.sizes.items ≡ zs = c.in-Ok.ensures.sizes ∙ ap (λ n. replicate n (c.args.lld, c.args.cols)) ranks in
    let area : c.words_with.result ≡ c.args.declared.words + word_count rank_steps c.args.plan.now.steps + words_in zs =
    c.words_with.ensures
    ∙ ap (λ n. c.args.declared.words + word_count rank_steps c.args.plan.now.steps + n)
    (c.area_of-area.ensures.area ∙ ap (λ n. n * (c.args.lld * c.args.cols)) ranks ∙ sym (words_alike c.args.declared.shapes.ranks c.args.lld c.args.cols)) in
    array_done c.args.declared c.args.plan.now state (when (c.args.lld == 0 || nat_lt (2 ^ 24) c.args.lld) (fault.Grid BadLead)) None zs c.in-Ok.sizes c.with_array.result is exact
    (length-replicate c.args.declared.shapes.ranks (c.args.lld, c.args.cols))
    (ap (λ b. when b (fault.Grid BadLead)) (good_lead c.args.lld c.requires.some c.requires.lead))
    (subst (λ n. large_fault n ≡ None) area c.in_default.ensures)
    same c.with_array.ensures.ok c.with_array.ensures.sizes c.with_array.ensures.err
