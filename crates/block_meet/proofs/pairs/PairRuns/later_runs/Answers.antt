use Rattle.std.proofs.Common.{◌≡◌, ◌+◌, ◌-◌, ◌*◌, ◌/◌, ◌<◌, ap, subst, sym, arith}
use Rattle.block_meet.specs.Steps.{steps}
use Rattle.block_meet.specs.Pairs.{Dealt, begins_on}
use Rattle.block_meet.proofs.PairLemmas.{list_kept}
use Rattle.block_meet.proofs.StepLemmas.{steps_at_most, steps_few, steps_rise, kept_within, kept_after, product_fits}
use Rattle.block_meet.proofs.pairs.PairRuns.later_runs.Goals as goal

pub up_to-requires : goal.up_to-requires
up_to-requires c =
    let i = c.self.inside in
    let hp = subst (λ (t : Dealt). c.args.p < t.a.procs) (sym c.self.view_is) c.requires.in_a in
    let hq = subst (λ (t : Dealt). c.args.q < t.b.procs) (sym c.self.view_is) c.requires.in_b in
    steps_rise _ _ _ _ _ (list_kept i.n i.a i.b i.reach i.starts.items c.args.p c.args.q c.index-starts.result.now c.self.invariant hp hq c.index-starts.ensures).steps c.deref.ensures.value

pub returns-then-last-self-clause-count : goal.returns-then-last-self-clause-count
returns-then-last-self-clause-count c =
    let i = c.self.inside in
    let hp = subst (λ (t : Dealt). c.args.p < t.a.procs) (sym c.self.view_is) c.requires.in_a in
    let hq = subst (λ (t : Dealt). c.args.q < t.b.procs) (sym c.self.view_is) c.requires.in_b in
    subst (λ (t : Dealt). c.up_to.result ≡ steps (begins_on t.a t.b c.args.p c.args.q) (t.n - 1)) c.self.view_is
    (kept_within _ (i.n - 1) i.reach _ c.deref.result.now (i.n - 1) c.up_to.result (list_kept i.n i.a i.b i.reach i.starts.items c.args.p c.args.q c.index-starts.result.now c.self.invariant hp hq c.index-starts.ensures) c.if-last-self.true c.deref.ensures.value c.up_to.ensures)

pub returns-then-last-self-clause-few : goal.returns-then-last-self-clause-few
returns-then-last-self-clause-few c =
    let e = returns-then-last-self-clause-count c in
    let l = steps_at_most (begins_on c.args.self.now.a c.args.self.now.b c.args.p c.args.q) (c.args.self.now.n - 1) in
    let some = c.requires.some in
    omega arith

pub overflow_cast-result : goal.overflow_cast-result
overflow_cast-result c =
    let few = returns-then-last-self-clause-few c in
    let n : c.self.inside.n ≡ c.args.self.now.n = ap (λ (t : Dealt). t.n) c.self.view_is in
    let top = c.self.invariant.first.within in
    omega arith

pub overflow_cast-result-else-last-self : goal.overflow_cast-result-else-last-self
overflow_cast-result-else-last-self c =
    let i = c.self.inside in
    let hp = subst (λ (t : Dealt). c.args.p < t.a.procs) (sym c.self.view_is) c.requires.in_a in
    let hq = subst (λ (t : Dealt). c.args.q < t.b.procs) (sym c.self.view_is) c.requires.in_b in
    let few = steps_few _ _ _ _ (list_kept i.n i.a i.b i.reach i.starts.items c.args.p c.args.q c.index-starts.result.now c.self.invariant hp hq c.index-starts.ensures) in
    let top = c.self.invariant.first.within in
    omega arith

pub up_to-requires-else-last-self : goal.up_to-requires-else-last-self
up_to-requires-else-last-self c =
    let i = c.self.inside in
    let hp = subst (λ (t : Dealt). c.args.p < t.a.procs) (sym c.self.view_is) c.requires.in_a in
    let hq = subst (λ (t : Dealt). c.args.q < t.b.procs) (sym c.self.view_is) c.requires.in_b in
    steps_rise _ _ _ _ _ (list_kept i.n i.a i.b i.reach i.starts.items c.args.p c.args.q c.index-starts.result.now c.self.invariant hp hq c.index-starts.ensures).steps c.deref-else-last-self.ensures.value

pub returns-else-last-self-clause-count : goal.returns-else-last-self-clause-count
returns-else-last-self-clause-count c =
    let i = c.self.inside in
    let hp = subst (λ (t : Dealt). c.args.p < t.a.procs) (sym c.self.view_is) c.requires.in_a in
    let hq = subst (λ (t : Dealt). c.args.q < t.b.procs) (sym c.self.view_is) c.requires.in_b in
    subst (λ (t : Dealt). (i.n - 1) / i.reach * c.len.result + c.up_to-else-last-self.result ≡ steps (begins_on t.a t.b c.args.p c.args.q) (t.n - 1)) c.self.view_is
    (kept_after _ (i.n - 1) i.reach c.index-starts.result.now.items c.deref-else-last-self.result.now (i.n - 1) c.len.result c.up_to-else-last-self.result (list_kept i.n i.a i.b i.reach i.starts.items c.args.p c.args.q c.index-starts.result.now c.self.invariant hp hq c.index-starts.ensures) c.if-last-self.false (omega arith) c.deref-else-last-self.ensures.value c.up_to-else-last-self.ensures)

pub returns-else-last-self-clause-few : goal.returns-else-last-self-clause-few
returns-else-last-self-clause-few c =
    let e = returns-else-last-self-clause-count c in
    let l = steps_at_most (begins_on c.args.self.now.a c.args.self.now.b c.args.p c.args.q) (c.args.self.now.n - 1) in
    let some = c.requires.some in
    omega arith

pub overflow_add-result : goal.overflow_add-result
overflow_add-result c =
    let few = returns-else-last-self-clause-few c in
    let n : c.self.inside.n ≡ c.args.self.now.n = ap (λ (t : Dealt). t.n) c.self.view_is in
    let top = c.self.invariant.first.within in
    omega arith

pub overflow_cast-result-else-last-self-2 : goal.overflow_cast-result-else-last-self-2
overflow_cast-result-else-last-self-2 c =
    let few = returns-else-last-self-clause-few c in
    let n : c.self.inside.n ≡ c.args.self.now.n = ap (λ (t : Dealt). t.n) c.self.view_is in
    let top = c.self.invariant.first.within in
    omega arith

pub overflow_mul-result : goal.overflow_mul-result
overflow_mul-result c =
    let i = c.self.inside in
    let hp = subst (λ (t : Dealt). c.args.p < t.a.procs) (sym c.self.view_is) c.requires.in_a in
    let hq = subst (λ (t : Dealt). c.args.q < t.b.procs) (sym c.self.view_is) c.requires.in_b in
    let most = product_fits _ (i.n - 1) i.reach c.index-starts.result.now.items (i.n - 1) c.len.result (list_kept i.n i.a i.b i.reach i.starts.items c.args.p c.args.q c.index-starts.result.now c.self.invariant hp hq c.index-starts.ensures) c.if-last-self.false (omega arith) in
    let top = c.self.invariant.first.within in
    omega arith
