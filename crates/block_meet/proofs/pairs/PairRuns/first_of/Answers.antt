use Rattle.std.proofs.Common.{◌≡◌, ◌+◌, ◌-◌, ◌*◌, ◌/◌, ◌<◌, cond, List, filter, get_or, length, ap, subst, sym, arith}
use Rattle.std.proofs.Math.Nat.{mod-lt}
use Rattle.block_meet.specs.declared.axis.Run.{Run}
use Rattle.block_meet.specs.Runs.{IsAxis, AreRuns}
use Rattle.block_meet.specs.Fits.{no_run}
use Rattle.block_meet.specs.Pairs.{Dealt, lies_on, is_on, begun}
use Rattle.block_meet.proofs.PairLemmas.{pair_count, pair_nth, nth_first, list_kept, kept_first, kept_any}
use Rattle.block_meet.proofs.ExistLemmas.{pair_within}
use Rattle.block_meet.proofs.StepLemmas.{steps_few}
use Rattle.block_meet.proofs.pairs.PairRuns.first_of.Goals as goal

pub returns-then-k-before-clause-first : goal.returns-then-k-before-clause-first
returns-then-k-before-clause-first c = λ rs h.
    let t = c.args.self.now in
    let count : length (filter (lies_on c.args.p c.args.q) rs) ≡ begun t.a t.b c.args.p c.args.q t.n = pair_count t.n t.a t.b c.args.p c.args.q rs h in
    let below = c.requires.below in
    nth_first t.n t.a t.b c.args.p c.args.q c.args.k c.first_runs-before.result _ (pair_nth t.n t.a t.b c.args.p c.args.q rs c.args.k h (omega arith)) c.first_runs-before.ensures c.if-k-before.true

pub overflow_cast-held : goal.overflow_cast-held
overflow_cast-held c =
    let i = c.self.inside in
    let hp = subst (λ (t : Dealt). c.args.p < t.a.procs) (sym c.self.view_is) c.requires.in_a in
    let hq = subst (λ (t : Dealt). c.args.q < t.b.procs) (sym c.self.view_is) c.requires.in_b in
    let few = steps_few _ _ _ _ (list_kept i.n i.a i.b i.reach i.starts.items c.args.p c.args.q c.index-starts.result.now c.self.invariant hp hq c.index-starts.ensures) in
    let top = c.self.invariant.first.within in
    omega arith

pub nonzero_rem-k : goal.nonzero_rem-k
nonzero_rem-k c =
    let i = c.self.inside in
    let hp = subst (λ (t : Dealt). c.args.p < t.a.procs) (sym c.self.view_is) c.requires.in_a in
    let hq = subst (λ (t : Dealt). c.args.q < t.b.procs) (sym c.self.view_is) c.requires.in_b in
    let low = subst (λ (t : Dealt). c.args.k < begun t.a t.b c.args.p c.args.q t.n) (sym c.self.view_is) c.requires.below in
    let first = subst (λ (t : Dealt). c.first_runs-before.result ≡ cond (is_on t.a t.b c.args.p c.args.q 0) 1 0) (sym c.self.view_is) c.first_runs-before.ensures in
    let some = kept_any i.n i.a i.b c.args.p c.args.q c.args.k c.first_runs-before.result i.reach _ (list_kept i.n i.a i.b i.reach i.starts.items c.args.p c.args.q c.index-starts.result.now c.self.invariant hp hq c.index-starts.ensures) low first (omega arith) in
    omega arith

pub nonzero_div-result : goal.nonzero_div-result
nonzero_div-result c =
    let i = c.self.inside in
    let hp = subst (λ (t : Dealt). c.args.p < t.a.procs) (sym c.self.view_is) c.requires.in_a in
    let hq = subst (λ (t : Dealt). c.args.q < t.b.procs) (sym c.self.view_is) c.requires.in_b in
    let low = subst (λ (t : Dealt). c.args.k < begun t.a t.b c.args.p c.args.q t.n) (sym c.self.view_is) c.requires.below in
    let first = subst (λ (t : Dealt). c.first_runs-before.result ≡ cond (is_on t.a t.b c.args.p c.args.q 0) 1 0) (sym c.self.view_is) c.first_runs-before.ensures in
    let some = kept_any i.n i.a i.b c.args.p c.args.q c.args.k c.first_runs-before.result i.reach _ (list_kept i.n i.a i.b i.reach i.starts.items c.args.p c.args.q c.index-starts.result.now c.self.invariant hp hq c.index-starts.ensures) low first (omega arith) in
    omega arith

pub index-start-requires : goal.index-start-requires
index-start-requires c = let some : 0 < c.len-held.result = nonzero_rem-k c in let place = mod-lt (c.args.k - c.first_runs-before.result) some in omega arith

pub returns-clause-first : goal.returns-clause-first
returns-clause-first c =
    let i = c.self.inside in
    let hp = subst (λ (t : Dealt). c.args.p < t.a.procs) (sym c.self.view_is) c.requires.in_a in
    let hq = subst (λ (t : Dealt). c.args.q < t.b.procs) (sym c.self.view_is) c.requires.in_b in
    let low = subst (λ (t : Dealt). c.args.k < begun t.a t.b c.args.p c.args.q t.n) (sym c.self.view_is) c.requires.below in
    let first = subst (λ (t : Dealt). c.first_runs-before.result ≡ cond (is_on t.a t.b c.args.p c.args.q 0) 1 0) (sym c.self.view_is) c.first_runs-before.ensures in
    subst (λ (t : Dealt). (rs : List Run) → AreRuns t.n t.a t.b rs → (get_or (filter (lies_on c.args.p c.args.q) rs) c.args.k no_run).start ≡ c.index-start.result.now + (c.args.k - c.first_runs-before.result) / c.len-held.result * i.reach) c.self.view_is
    (kept_first i.n i.a i.b c.args.p c.args.q c.args.k c.first_runs-before.result c.len-held.result c.index-start.result.now i.reach c.index-starts.result.now.items
    (list_kept i.n i.a i.b i.reach i.starts.items c.args.p c.args.q c.index-starts.result.now c.self.invariant hp hq c.index-starts.ensures) low first (omega arith) (omega arith) c.index-start.ensures)

pub returns-clause-inside : goal.returns-clause-inside
returns-clause-inside c =
    let wa = subst (λ (t : Dealt). IsAxis t.n t.a) c.self.view_is c.self.invariant.first in
    let wb = subst (λ (t : Dealt). IsAxis t.n t.b) c.self.view_is c.self.invariant.second in
    pair_within c.args.self.now.n c.args.self.now.a c.args.self.now.b c.args.p c.args.q c.args.k _ wa wb c.requires.below (returns-clause-first c)

pub overflow_mul-result : goal.overflow_mul-result
overflow_mul-result c =
    let n : c.self.inside.n ≡ c.args.self.now.n = ap (λ (t : Dealt). t.n) c.self.view_is in
    let inside : c.index-start.result.now + (c.args.k - c.first_runs-before.result) / c.len-held.result * c.self.inside.reach < c.args.self.now.n = returns-clause-inside c in
    let top = c.self.invariant.first.within in
    omega arith

pub overflow_add-result : goal.overflow_add-result
overflow_add-result c =
    let n : c.self.inside.n ≡ c.args.self.now.n = ap (λ (t : Dealt). t.n) c.self.view_is in
    let inside : c.index-start.result.now + (c.args.k - c.first_runs-before.result) / c.len-held.result * c.self.inside.reach < c.args.self.now.n = returns-clause-inside c in
    let top = c.self.invariant.first.within in
    omega arith
