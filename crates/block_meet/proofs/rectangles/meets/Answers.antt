use Rattle.std.proofs.Common.{◌≡◌, List, Vec, Global, filter, count_by, ap, ◌∙◌, subst, sym}
use Rattle.std.proofs.lemmas.Result.{IfOk-weaker}
use Rattle.block_meet.specs.declared.axis.Axis.{Axis}
use Rattle.block_meet.specs.declared.axis.Run.{Run}
use Rattle.block_meet.specs.declared.side.Meet.{Meet}
use Rattle.block_meet.specs.Runs.{AreRuns}
use Rattle.block_meet.specs.Fits.{AreShort}
use Rattle.block_meet.specs.Pairs.{Dealt, lies_on}
use Rattle.block_meet.specs.Meets.{AreOrdered, rows_of, columns_of, rectangles, touches, covers}
use Rattle.std.specs.List.{AllByRecursion}
use Rattle.block_meet.proofs.ExistLemmas.{all_runs}
use Rattle.block_meet.proofs.MeetLemmas.{pair_meets, pair_once, pair_ordered}
use Rattle.block_meet.proofs.rectangles.meets.Goals as goal

pub meets_of-requires-clause-rows : goal.meets_of-requires-clause-rows
meets_of-requires-clause-rows c = subst (AreShort _) (sym c.deref.ensures.value) (subst (λ (t : Dealt). AreShort t.n c.in_ok-rows-2.rows.items) c.in_ok-rows.ensures c.in_ok-rows-2.ensures.short)

pub meets_of-requires-clause-columns : goal.meets_of-requires-clause-columns
meets_of-requires-clause-columns c = subst (AreShort _) (sym c.deref-2.ensures.value) (subst (λ (t : Dealt). AreShort t.n c.in_ok-columns-2.columns.items) c.in_ok-columns.ensures c.in_ok-columns-2.ensures.short)

pub returns-clause-list : goal.returns-clause-list
returns-clause-list c =
    let cut = c.args.sub.now.cut in
    let ra = c.rows.ensures in
    let rb = c.rows-2.ensures in
    let ca = c.columns.ensures in
    let cb = c.columns-2.ensures in
    let rows : (rs : List Run) → AreRuns cut.m (rows_of c.args.a.now c.args.sub.now.ia) (rows_of c.args.b.now c.args.sub.now.ib) rs → c.deref.result.now ≡ filter (lies_on c.args.source.0 c.args.dest.0) rs
    = λ rs h. c.deref.ensures.value ∙ c.in_ok-rows-2.ensures.list rs (subst (λ (t : Dealt). AreRuns t.n t.a t.b rs) (sym c.in_ok-rows.ensures) (subst (λ (x : Axis). AreRuns cut.m c.rows.result x rs) (sym rb) (subst (λ (x : Axis). AreRuns cut.m x (rows_of c.args.b.now c.args.sub.now.ib) rs) (sym ra) h))) in
    let columns : (cs : List Run) → AreRuns cut.n (columns_of c.args.a.now c.args.sub.now.ja) (columns_of c.args.b.now c.args.sub.now.jb) cs → c.deref-2.result.now ≡ filter (lies_on c.args.source.1 c.args.dest.1) cs
    = λ cs h. c.deref-2.ensures.value ∙ c.in_ok-columns-2.ensures.list cs (subst (λ (t : Dealt). AreRuns t.n t.a t.b cs) (sym c.in_ok-columns.ensures) (subst (λ (x : Axis). AreRuns cut.n c.columns.result x cs) (sym cb) (subst (λ (x : Axis). AreRuns cut.n x (columns_of c.args.b.now c.args.sub.now.jb) cs) (sym ca) h))) in
    IfOk-weaker c.meets_of.result (λ (ms : Vec Meet Global). ms.items ≡ filter (touches cut) (rectangles c.deref.result.now c.deref-2.result.now)) _
    (λ ms e rs cs h k. e ∙ ap (λ xs. filter (touches cut) (rectangles xs c.deref-2.result.now)) (rows rs h) ∙ ap (λ xs. filter (touches cut) (rectangles (filter (lies_on c.args.source.0 c.args.dest.0) rs) xs)) (columns cs k))
    c.meets_of.ensures

pub returns-clause-meets : goal.returns-clause-meets
returns-clause-meets c =
    let r = c.requires in
    let rows = all_runs _ _ _ r.rows_a r.rows_b in
    let columns = all_runs _ _ _ r.columns_a r.columns_b in
    IfOk-weaker c.meets_of.result _ _ (λ ms e. subst (AllByRecursion _) (sym (e rows.0 columns.0 rows.1 columns.1)) (pair_meets c.args.sub.now.cut _ _ _ _ c.args.source c.args.dest rows.0 columns.0 rows.1 columns.1)) (returns-clause-list c)

pub returns-clause-once : goal.returns-clause-once
returns-clause-once c =
    let r = c.requires in
    let rows = all_runs _ _ _ r.rows_a r.rows_b in
    let columns = all_runs _ _ _ r.columns_a r.columns_b in
    IfOk-weaker c.meets_of.result _ _ (λ ms e i j hi hj s p. ap (count_by (covers i j)) (e rows.0 columns.0 rows.1 columns.1) ∙ pair_once c.args.sub.now.cut _ _ _ _ c.args.source c.args.dest rows.0 columns.0 i j rows.1 columns.1 hi hj s p) (returns-clause-list c)

pub returns-clause-ordered : goal.returns-clause-ordered
returns-clause-ordered c =
    let r = c.requires in
    let rows = all_runs _ _ _ r.rows_a r.rows_b in
    let columns = all_runs _ _ _ r.columns_a r.columns_b in
    IfOk-weaker c.meets_of.result _ _ (λ ms e. subst AreOrdered (sym (e rows.0 columns.0 rows.1 columns.1)) (pair_ordered c.args.sub.now.cut _ _ _ _ c.args.source c.args.dest rows.0 columns.0 rows.1 columns.1)) (returns-clause-list c)
