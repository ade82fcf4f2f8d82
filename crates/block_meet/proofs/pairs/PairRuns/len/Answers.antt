use Rattle.std.proofs.Common.{◌≡◌, ◌+◌, ◌-◌, ◌<◌, ap, ◌∙◌, sym, arith}
use Rattle.block_meet.specs.Steps.{steps}
use Rattle.block_meet.specs.Pairs.{Dealt, begins_on, begun}
use Rattle.block_meet.proofs.PairLemmas.{pair_count, begun_all}
use Rattle.block_meet.proofs.pairs.PairRuns.len.Goals as goal

pub returns-then-self-eq0-clause-list : goal.returns-then-self-eq0-clause-list
returns-then-self-eq0-clause-list c = λ rs h.
    let t = c.args.self.now in
    let n : c.self.inside.n ≡ c.args.self.now.n = ap (λ (t : Dealt). t.n) c.self.view_is in
    let none : c.args.self.now.n ≡ 0 = omega arith in
    pair_count t.n t.a t.b c.args.p c.args.q rs h ∙ ap (begun t.a t.b c.args.p c.args.q) none

pub returns-else-self-eq0-clause-list : goal.returns-else-self-eq0-clause-list
returns-else-self-eq0-clause-list c = λ rs h.
    let t = c.args.self.now in
    let n : c.self.inside.n ≡ c.args.self.now.n = ap (λ (t : Dealt). t.n) c.self.view_is in
    let some : 0 < c.args.self.now.n = omega arith in
    pair_count t.n t.a t.b c.args.p c.args.q rs h ∙ begun_all t.n t.a t.b c.args.p c.args.q some
    ∙ ap (λ x. x + steps (begins_on t.a t.b c.args.p c.args.q) (t.n - 1)) (sym c.first_runs.ensures) ∙ ap (λ x. c.first_runs.result + x) (sym c.later_runs.ensures.count)
