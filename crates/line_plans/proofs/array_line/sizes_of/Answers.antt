use Rattle.std.proofs.Common.{◌≡◌, ◌+◌, ◌*◌, ◌≤◌, ◌^◌, ℕ, refl, sym, ap, subst, ◌∙◌, arith}
use Rattle.std.specs.List.{AllByRecursion}
use Rattle.proc_grid.specs.Grid.{place_of}
use Rattle.program_meaning.specs.Declarations.{spread_of, size_by, words_in}
use Rattle.line_plans.specs.ArrayLines.{words_of, HasLead}
use Rattle.line_plans.proofs.ProcessLaws.{grown_by}
use Rattle.line_plans.proofs.ArraySizes.{words_grown, leads_grown}
use Rattle.line_plans.proofs.array_line.sizes_of.Goals as goal

more_words : (words area k : ℕ) → words ≤ k * 2 ^ 48 → area ≤ 2 ^ 48 → words + area ≤ (k + 1) * 2 ^ 48
more_words words area k h l = omega arith

pub loop-rank-preserved : goal.loop-rank-preserved
loop-rank-preserved c =
    let items = c.in_ok-push.ensures.items in (
      grown_by (λ r. size_by (spread_of (words_of c.args.line.now) c.args.ctx.now) c.args.ctx.now (place_of c.args.ctx.now r)) c.loop-rank.sizes.items c.push.new.self.items c.size_at-size.result c.loop-rank.rank (c.loop-rank.rank + 1) items c.size_at-size.ensures.size c.loop-rank.invariant.0 refl,
      ap (λ n. c.loop-rank.words + n) c.area-words.ensures.words ∙ ap (λ n. n + c.size_at-size.result.0 * c.size_at-size.result.1) c.loop-rank.invariant.1 ∙ sym (words_grown c.loop-rank.sizes.items c.size_at-size.result) ∙ ap words_in (sym items),
      subst (AllByRecursion HasLead) (sym items) (leads_grown c.loop-rank.sizes.items c.size_at-size.result c.loop-rank.invariant.2 c.size_at-size.ensures.lead),
      more_words c.loop-rank.words c.area-words.result c.loop-rank.rank c.loop-rank.invariant.3 c.area-words.ensures.few,
    )
