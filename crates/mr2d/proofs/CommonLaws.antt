-- The runs of two ranks are no more than an axis has indices.
use Rattle.std.specs.Prelude.{◌≡◌, ℕ, zero, suc, ◌+◌, ◌^◌, ◌≤◌, Bool, true, false, cond, List, length, filter}
use Rattle.std.proofs.Common.{ap, subst, arith}
use Rattle.block_meet.specs.declared.axis.Axis.{Axis}
use Rattle.block_meet.specs.declared.axis.Run.{Run}
use Rattle.block_meet.specs.Runs.{IsAxis}
use Rattle.block_meet.specs.Steps.{steps}
use Rattle.block_meet.specs.Pairs.{Dealt, lies_on, is_on, begins_on, begun}
use Rattle.block_meet.specs.Fits.{AreShort}
use Rattle.block_meet.proofs.StepLemmas.{steps_at_most}
use Rattle.block_meet.proofs.PairLemmas.{pair_count}
use Rattle.block_meet.proofs.ExistLemmas.{all_runs}
use Rattle.proc_grid.specs.Grid.{Grid}
use Rattle.pack_words.specs.declared.cut.Cut.{Cut}
use Rattle.mr2d.specs.Jobs.{AreRunsOf, IsJob, AreCommonRuns}

begun_most : (n : ℕ) (a b : Axis) (p q : ℕ) → begun a b p q n ≤ n
begun_most zero a b p q = omega arith
begun_most (suc m) a b p q =
    let later : steps (begins_on a b p q) m ≤ m = steps_at_most (begins_on a b p q) m in
    let first : cond (is_on a b p q 0) 1 0 ≤ 1 = one_most (is_on a b p q 0) in
    omega arith
  where
    one_most : (c : Bool) → cond c 1 0 ≤ 1
    one_most true = omega arith
    one_most false = omega arith

pub pair_few : (d : Dealt) (p q : ℕ) (runs : List Run) → IsAxis d.n d.a → IsAxis d.n d.b → ((rs : List Run) → AreRunsOf d rs → runs ≡ filter (lies_on p q) rs) → length runs ≤ 2 ^ 24
pair_few d p q runs wa wb f =
    let all = all_runs d.n d.a d.b wa wb in
    let same : length runs ≡ length (filter (lies_on p q) all.0) = ap length (f all.0 all.1) in
    let count : length (filter (lies_on p q) all.0) ≡ begun d.a d.b p q d.n = pair_count d.n d.a d.b p q all.0 all.1 in
    let most : begun d.a d.b p q d.n ≤ d.n = begun_most d.n d.a d.b p q in
    let top : d.a.first + d.n ≤ 2 ^ 24 = wa.within in
    omega arith

-- The runs of two ranks of a job.
pub common_runs : (cut : Cut) (a b : Grid) (rows columns : Dealt) (p r q s : ℕ) (qs ks : List Run) → IsJob cut a b rows columns → ((rs : List Run) → AreRunsOf rows rs → qs ≡ filter (lies_on p r) rs) → ((cs : List Run) → AreRunsOf columns cs → ks ≡ filter (lies_on q s) cs) → AreShort rows.n qs → AreShort columns.n ks → AreCommonRuns cut qs ks
common_runs cut a b rows columns p r q s qs ks job f g h k = record {
  rows_short = subst (λ n. AreShort n qs) job.row_count h;
  columns_short = subst (λ n. AreShort n ks) job.column_count k;
  few_rows = pair_few rows p r qs job.row_axis_a job.row_axis_b f;
  few_columns = pair_few columns q s ks job.column_axis_a job.column_axis_b g;
  height = job.height;
  width = job.width;
}
