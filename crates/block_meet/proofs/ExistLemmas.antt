-- Each axis has its runs.
use Rattle.std.proofs.Common.{◌≡◌, ℕ, zero, suc, ◌+◌, ◌-◌, ◌<◌, ◌≤◌, inl, inr, Bool, true, false, cond, List, [], ◌∷◌, length, get_or, filter, refl, sym, subst, arith}
use Rattle.std.proofs.lemmas.Bool.{cases_lt}
use Rattle.block_meet.specs.declared.axis.Axis.{Axis}
use Rattle.block_meet.specs.declared.axis.Run.{Run}
use Rattle.block_meet.specs.Runs.{IsAxis, IsRun, AreRunsFrom, AreRuns}
use Rattle.block_meet.specs.Fits.{no_run, AreShort}
use Rattle.block_meet.specs.Pairs.{lies_on, begun}
use Rattle.block_meet.specs.Stretch.{run_from}
use Rattle.block_meet.proofs.RunLemmas.{IsStart, start_zero, run_at_start, start_after}
use Rattle.block_meet.proofs.LawLemmas.{each_run}
use Rattle.block_meet.proofs.PairLemmas.{pair_count, pair_nth}

runs_upto : (fuel n : ℕ) (a b : Axis) (s : ℕ) → 0 < a.nb → 0 < b.nb → n - s ≤ fuel → s ≤ n → (s < n → IsStart a b s) → (rs : List Run) × AreRunsFrom n a b s n rs
runs_upto zero n a b s ha hb h l f = ([], let e : s ≡ n = omega arith in e)
runs_upto (suc fuel) n a b s ha hb h l f = elim (cases_lt s n) [
  | inl m ↦
      let w : IsRun n a b (run_from n a b s) = run_at_start n a b s ha hb m (f m) in
      let some : 0 < (run_from n a b s).len = w.some in
      let inside : s + (run_from n a b s).len ≤ n = w.inside in
      let rest = runs_upto fuel n a b (s + (run_from n a b s).len) ha hb (omega arith) inside (λ k. start_after n a b s (run_from n a b s) ha hb refl k) in
      (run_from n a b s ∷ rest.0, (refl, w, rest.1))
  | inr m ↦ ([], let e : s ≡ n = omega arith in e)
]

pub all_runs : (n : ℕ) (a b : Axis) → IsAxis n a → IsAxis n b → (rs : List Run) × AreRuns n a b rs
all_runs n a b wa wb = runs_upto n n a b 0 wa.block wb.block (omega arith) (omega arith) (λ h. start_zero a b)

-- What holds of each element holds of each that passes.
pub filter_each : (P : Run → Type 0) (p : Run → Bool) (rs : List Run) → ((k : ℕ) → k < length rs → P (get_or rs k no_run)) → (k : ℕ) → k < length (filter p rs) → P (get_or (filter p rs) k no_run)
filter_each P p [] f k h = absurd (omega arith)
filter_each P p (r ∷ rs) f k h = by_test (p r) (filter_each P p rs (λ j l. f (suc j) (omega arith))) k h
  where
    front : ((k : ℕ) → k < length (filter p rs) → P (get_or (filter p rs) k no_run)) → (k : ℕ) → k < length (r ∷ filter p rs) → P (get_or (r ∷ filter p rs) k no_run)
    front rest zero l = f zero (omega arith)
    front rest (suc k) l = rest k (omega arith)

    by_test : (c : Bool) → ((k : ℕ) → k < length (filter p rs) → P (get_or (filter p rs) k no_run)) → (k : ℕ) → k < length (cond c (r ∷ filter p rs) (filter p rs)) → P (get_or (cond c (r ∷ filter p rs) (filter p rs)) k no_run)
    by_test true rest k l = front rest k l
    by_test false rest k l = rest k l

-- The runs of a pair hold something and end within the indices.
pub pair_short : (n : ℕ) (a b : Axis) (p q : ℕ) (qs : List Run) → IsAxis n a → IsAxis n b → ((rs : List Run) → AreRuns n a b rs → qs ≡ filter (lies_on p q) rs) → AreShort n qs
pair_short n a b p q qs wa wb f =
    let all = all_runs n a b wa wb in
    let run : (k : ℕ) → k < length (filter (lies_on p q) all.0) → IsRun n a b (get_or (filter (lies_on p q) all.0) k no_run) = filter_each (IsRun n a b) (lies_on p q) all.0 (λ k h. each_run n a b 0 n all.0 k no_run all.1 h) in
    subst (AreShort n) (sym (f all.0 all.1)) (record { some = λ k h. (run k h).some; inside = λ k h. (run k h).inside })

-- The k-th run of a pair begins within the indices.
pub pair_within : (n : ℕ) (a b : Axis) (p q k s : ℕ) → IsAxis n a → IsAxis n b → k < begun a b p q n → ((rs : List Run) → AreRuns n a b rs → (get_or (filter (lies_on p q) rs) k no_run).start ≡ s) → s < n
pair_within n a b p q k s wa wb l f =
    let all = all_runs n a b wa wb in
    let count : length (filter (lies_on p q) all.0) ≡ begun a b p q n = pair_count n a b p q all.0 all.1 in
    let run : IsRun n a b (get_or (filter (lies_on p q) all.0) k no_run) = (pair_nth n a b p q all.0 k all.1 (omega arith)).run in
    let inside = run.inside in
    let some = run.some in
    let start : (get_or (filter (lies_on p q) all.0) k no_run).start ≡ s = f all.0 all.1 in
    omega arith
