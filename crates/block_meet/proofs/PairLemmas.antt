-- The runs of a pair, counted by the steps at which they begin.
use Rattle.std.proofs.Common.{◌≡◌, ℕ, zero, suc, ◌+◌, ◌-◌, ◌*◌, ◌/◌, ◌%◌, ◌<◌, ◌≤◌, ◌==◌, ◌&&◌, Bool, true, false, cond, List, [], ◌∷◌, ◌++◌, length, get_or, filter, map, take, slice_get, Some, Vec, Global, refl, sym, ap, ◌∙◌, subst, arith}
use Rattle.std.proofs.Math.Seq.{take-suc}
use Rattle.std.proofs.lemmas.Nat.{div-add-mod', mul-add-lt}
use Rattle.std.proofs.lemmas.List.{get_or-map, length-map}
use Rattle.std.proofs.lemmas.Option.{slice_get-get_or, slice_get_within, get_or_from_slice_get}
use Rattle.std.proofs.lemmas.Bool.Decides.{nat_tests}
use Rattle.index_tools.specs.Spread.{owner}
use Rattle.index_tools.specs.Multiples.{IsLeastCommonMultiple}
use Rattle.block_meet.specs.declared.axis.Axis.{Axis}
use Rattle.block_meet.specs.declared.axis.Run.{Run}
use Rattle.block_meet.specs.Runs.{IsAxis, block_at, spread_of, IsRun, AreRunsFrom, AreRuns}
use Rattle.block_meet.specs.Fits.{no_run}
use Rattle.block_meet.specs.Numbers.{in_one_pair}
use Rattle.block_meet.specs.Steps.{steps, IsStep}
use Rattle.block_meet.specs.Pairs.{lies_on, is_on, begins_on, begun, IsTurn, IsPutOut, IsDealt}
use Rattle.block_meet.specs.Stretch.{run_from}
use Rattle.block_meet.proofs.RunLemmas.{IsStart, run_at_start}
use Rattle.block_meet.proofs.LawLemmas.{run_of_start, after_turns}
use Rattle.block_meet.proofs.NumberLemmas.{block_shift}
use Rattle.block_meet.proofs.TableLemmas.{factor_mod}
use Rattle.block_meet.proofs.StepLemmas.{step_passes, steps_stay, step_here, one_step, AreKept, kept_some, kept_start}

-- two indices in one pair of blocks, or not
pub one_pair : (x y z w : ℕ) → x ≡ y → z ≡ w → ((x == y) && (z == w)) ≡ true
one_pair x y z w e f = grind (arith, nat_tests)

pub two_pairs : (x y z w : ℕ) → (x ≡ y → z ≡ w → ⊥) → ((x == y) && (z == w)) ≡ false
two_pairs x y z w h = grind (arith, nat_tests)

-- After a turn runs begin as before, on the same pairs.
pub turn_repeats : (a b : Axis) (turn p q j : ℕ) → 1 ≤ a.nb → 1 ≤ b.nb → a.src < a.procs → b.src < b.procs → IsTurn a b turn → begins_on a b p q (turn + j) ≡ begins_on a b p q j
turn_repeats a b turn p q j ha hb sa sb w =
    let e : turn + suc j ≡ suc (turn + j) = omega arith in
    let ta : turn % a.nb ≡ 0 = factor_mod turn a.nb a.procs ha w.of_a in
    let tb : turn % b.nb ≡ 0 = factor_mod turn b.nb b.procs hb w.of_b in
    let xa : block_at a (suc (turn + j)) ≡ block_at a (suc j) + turn / a.nb = ap (block_at a) (sym e) ∙ block_shift a turn (suc j) ha ta in
    let xb : block_at b (suc (turn + j)) ≡ block_at b (suc j) + turn / b.nb = ap (block_at b) (sym e) ∙ block_shift b turn (suc j) hb tb in
    let pair : in_one_pair a b (turn + j) (suc (turn + j)) ≡ in_one_pair a b j (suc j) = shifted _ _ _ _ _ _ _ _ _ _ (block_shift a turn j ha ta) xa (block_shift b turn j hb tb) xb in
    ap (λ c. cond c false (is_on a b p q (suc (turn + j)))) pair
    ∙ ap (λ x. cond (in_one_pair a b j (suc j)) false ((x == p) && (owner (spread_of b) (b.first + suc (turn + j)) == q))) (turned a (turn / (a.nb * a.procs)) ha sa w.of_a)
    ∙ ap (λ x. cond (in_one_pair a b j (suc j)) false ((owner (spread_of a) (a.first + suc j) == p) && (x == q))) (turned b (turn / (b.nb * b.procs)) hb sb w.of_b)
  where
    shifted : (x y z w x' y' z' w' c d : ℕ) → x' ≡ x + c → y' ≡ y + c → z' ≡ z + d → w' ≡ w + d → ((x' == y') && (z' == w')) ≡ ((x == y) && (z == w))
    shifted x y z w x' y' z' w' c d e f g h = grind (arith, nat_tests)

    turned : (s : Axis) (t : ℕ) → 1 ≤ s.nb → s.src < s.procs → turn % (s.nb * s.procs) ≡ 0 → owner (spread_of s) (s.first + suc (turn + j)) ≡ owner (spread_of s) (s.first + suc j)
    turned s t h k e =
        let whole : turn / (s.nb * s.procs) * (s.nb * s.procs) + turn % (s.nb * s.procs) ≡ turn = div-add-mod' turn (s.nb * s.procs) in
        let place : s.first + suc (turn + j) ≡ s.first + (suc j + turn / (s.nb * s.procs) * (s.nb * s.procs)) = omega arith in
        ap (owner (spread_of s)) place ∙ (after_turns s (suc j) (turn / (s.nb * s.procs)) h k).0

-- What is kept of a pair tells all its steps.
pub pair_kept : (n : ℕ) (a b : Axis) (reach : ℕ) (lists : List (List ℕ)) (p q : ℕ) → IsDealt n a b reach lists → p < a.procs → q < b.procs → AreKept (begins_on a b p q) (n - 1) reach (get_or lists (p * b.procs + q) [])
pair_kept n a b reach lists p q w hp hq = record {
  steps = w.kept.each p q hp hq;
  within = w.within;
  positive = λ h. (w.repeats h).positive;
  repeats = λ h j. turn_repeats a b reach p q j w.first.block w.second.block w.first.source w.second.source (w.repeats h);
}

-- A run lies where its first index does.
lies_where : (n : ℕ) (a b : Axis) (p q : ℕ) (r : Run) → IsRun n a b r → lies_on p q r ≡ is_on a b p q r.start
lies_where n a b p q r w = ap (λ x. (x == p) && (r.pb == q)) w.owner_a ∙ ap (λ x. (owner (spread_of a) (a.first + r.start) == p) && (x == q)) w.owner_b

-- One run more has begun after a run of the pair.
begun_run : (n : ℕ) (a b : Axis) (p q : ℕ) (r : Run) → IsRun n a b r → begun a b p q (r.start + r.len) ≡ begun a b p q r.start + cond (lies_on p q r) 1 0
unfolding steps
begun_run n a b p q r w =
    let s = w.some in
    let e : r.start + r.len ≡ suc (r.start + (r.len - 1)) = omega arith in
    ap (begun a b p q) e ∙ ap (λ x. cond (is_on a b p q 0) 1 0 + x) (steps_stay (begins_on a b p q) r.start (r.len - 1) stay) ∙ at_start r.start refl
  where
    stay : (j : ℕ) → r.start ≤ j → j < r.start + (r.len - 1) → begins_on a b p q j ≡ false
    stay j l h =
        let i = w.inside in
        let x = (w.members j (omega arith)).0 (l, omega arith) in
        let y = (w.members (suc j) (omega arith)).0 (omega arith, omega arith) in
        ap (λ c. cond c false (is_on a b p q (suc j))) (one_pair _ _ _ _ (sym x.0 ∙ y.0) (sym x.1 ∙ y.1))

    apart : (i : ℕ) → r.start ≡ suc i → in_one_pair a b i (suc i) ≡ false
    apart i e = two_pairs _ _ _ _ (λ f g.
        let l = w.inside in
        let s = w.some in
        let m = (w.members i (omega arith)).1 (ap (block_at a) e ∙ sym f, ap (block_at b) e ∙ sym g) in
        let low : r.start ≤ i = m.0 in
        omega arith)

    at_start : (s : ℕ) → r.start ≡ s → cond (is_on a b p q 0) 1 0 + steps (begins_on a b p q) s ≡ begun a b p q s + cond (lies_on p q r) 1 0
    at_start zero e =
        let same : lies_on p q r ≡ is_on a b p q 0 = lies_where n a b p q r w ∙ ap (is_on a b p q) e in
        let whole : cond (is_on a b p q 0) 1 0 + 0 ≡ 0 + cond (is_on a b p q 0) 1 0 = omega arith in
        whole ∙ ap (λ c. 0 + cond c 1 0) (sym same)
    at_start (suc i) e =
        let same : lies_on p q r ≡ is_on a b p q (suc i) = lies_where n a b p q r w ∙ ap (is_on a b p q) e in
        let here : begins_on a b p q i ≡ lies_on p q r = ap (λ c. cond c false (is_on a b p q (suc i))) (apart i e) ∙ sym same in
        ap (λ x. cond (is_on a b p q 0) 1 0 + x) (step_passes (begins_on a b p q) i _ here) ∙ grouped _ _ _
      where
        grouped : (x y z : ℕ) → x + (y + z) ≡ x + y + z
        grouped x y z = omega arith

-- How many runs of a pair are listed.
count_pair : (n : ℕ) (a b : Axis) (p q from to : ℕ) (rs : List Run) → AreRunsFrom n a b from to rs → begun a b p q from + length (filter (lies_on p q) rs) ≡ begun a b p q to
count_pair n a b p q from to [] h = let e : from ≡ to = h in let z : begun a b p q from + 0 ≡ begun a b p q from = omega arith in z ∙ ap (begun a b p q) e
count_pair n a b p q from to (r ∷ rs) h =
    let one : begun a b p q (from + r.len) ≡ begun a b p q from + cond (lies_on p q r) 1 0 = subst (λ s. begun a b p q (s + r.len) ≡ begun a b p q s + cond (lies_on p q r) 1 0) h.0 (begun_run n a b p q r h.1) in
    let rest : begun a b p q (from + r.len) + length (filter (lies_on p q) rs) ≡ begun a b p q to = count_pair n a b p q (from + r.len) to rs h.2 in
    joined _ _ _ _ _ _ (front (lies_on p q r) (filter (lies_on p q) rs)) one rest
  where
    front : (c : Bool) (xs : List Run) → length (cond c (r ∷ xs) xs) ≡ cond c 1 0 + length xs
    front true xs = let e : suc (length xs) ≡ 1 + length xs = omega arith in e
    front false xs = let e : length xs ≡ 0 + length xs = omega arith in e

    joined : (x l c k y z : ℕ) → l ≡ c + k → y ≡ x + c → y + k ≡ z → x + l ≡ z
    joined x l c k y z e f g = omega arith

pub pair_count : (n : ℕ) (a b : Axis) (p q : ℕ) (rs : List Run) → AreRuns n a b rs → length (filter (lies_on p q) rs) ≡ begun a b p q n
pair_count n a b p q rs h = let e : 0 + length (filter (lies_on p q) rs) ≡ begun a b p q n = count_pair n a b p q 0 n rs h in (let z : length (filter (lies_on p q) rs) ≡ 0 + length (filter (lies_on p q) rs) = omega arith in z) ∙ e

-- a run of the pair before which so many have begun
pub record IsNth (n : ℕ) (a b : Axis) (p q k : ℕ) (r : Run) : Type 0 where
  pub run : IsRun n a b r
  pub lies : lies_on p q r ≡ true
  pub number : begun a b p q r.start ≡ k

nth_from : (n : ℕ) (a b : Axis) (p q from to : ℕ) (rs : List Run) (k : ℕ) → AreRunsFrom n a b from to rs → k < length (filter (lies_on p q) rs) → IsNth n a b p q (begun a b p q from + k) (get_or (filter (lies_on p q) rs) k no_run)
nth_from n a b p q from to [] k h l = absurd (omega arith)
nth_from n a b p q from to (r ∷ rs) k h l = by_test (λ j m. nth_from n a b p q (from + r.len) to rs j h.2 m) (lies_on p q r) refl k l
  where
    next : (c : Bool) → lies_on p q r ≡ c → begun a b p q (from + r.len) ≡ begun a b p q from + cond c 1 0
    next c e = subst (λ s. begun a b p q (s + r.len) ≡ begun a b p q s + cond (lies_on p q r) 1 0) h.0 (begun_run n a b p q r h.1) ∙ ap (λ d. begun a b p q from + cond d 1 0) e

    front : ((j : ℕ) → j < length (filter (lies_on p q) rs) → IsNth n a b p q (begun a b p q (from + r.len) + j) (get_or (filter (lies_on p q) rs) j no_run)) → lies_on p q r ≡ true → (k : ℕ) → k < length (r ∷ filter (lies_on p q) rs)
        → IsNth n a b p q (begun a b p q from + k) (get_or (r ∷ filter (lies_on p q) rs) k no_run)
    front rest e zero m = record { run = h.1; lies = e; number = ap (begun a b p q) h.0 ∙ omega arith }
    front rest e (suc j) m = subst (λ x. IsNth n a b p q x (get_or (filter (lies_on p q) rs) j no_run)) (let f : begun a b p q (from + r.len) ≡ begun a b p q from + 1 = next true e in omega arith) (rest j (omega arith))

    by_test : ((j : ℕ) → j < length (filter (lies_on p q) rs) → IsNth n a b p q (begun a b p q (from + r.len) + j) (get_or (filter (lies_on p q) rs) j no_run)) → (c : Bool) → lies_on p q r ≡ c → (k : ℕ) → k < length (cond c (r ∷ filter (lies_on p q) rs) (filter (lies_on p q) rs))
        → IsNth n a b p q (begun a b p q from + k) (get_or (cond c (r ∷ filter (lies_on p q) rs) (filter (lies_on p q) rs)) k no_run)
    by_test rest true e k m = front rest e k m
    by_test rest false e k m = subst (λ x. IsNth n a b p q x (get_or (filter (lies_on p q) rs) k no_run)) (let f : begun a b p q (from + r.len) ≡ begun a b p q from + 0 = next false e in omega arith) (rest k m)

pub pair_nth : (n : ℕ) (a b : Axis) (p q : ℕ) (rs : List Run) (k : ℕ) → AreRuns n a b rs → k < length (filter (lies_on p q) rs) → IsNth n a b p q k (get_or (filter (lies_on p q) rs) k no_run)
pair_nth n a b p q rs k h l = subst (λ x. IsNth n a b p q x (get_or (filter (lies_on p q) rs) k no_run)) (let e : 0 + k ≡ k = omega arith in e) (nth_from n a b p q 0 n rs k h l)

-- Where the first run lies on the pair, it is the pair's first.
pub nth_first : (n : ℕ) (a b : Axis) (p q k before : ℕ) (r : Run) → IsNth n a b p q k r → before ≡ cond (is_on a b p q 0) 1 0 → k < before → r.start ≡ 0
nth_first n a b p q k before r w e h = by_start r.start w.number
  where
    most : (c : Bool) → cond c 1 0 ≤ 1
    most true = omega arith
    most false = omega arith

    by_start : (s : ℕ) → begun a b p q s ≡ k → s ≡ 0
    by_start zero f = refl
    by_start (suc i) f = absurd (let m : cond (is_on a b p q 0) 1 0 ≤ 1 = most (is_on a b p q 0) in let g : cond (is_on a b p q 0) 1 0 + steps (begins_on a b p q) i ≡ k = f in omega arith)

-- Else a step passes to it.
pub nth_later : (n : ℕ) (a b : Axis) (p q k before : ℕ) (r : Run) → IsNth n a b p q k r → before ≡ cond (is_on a b p q 0) 1 0 → before ≤ k → IsStep (begins_on a b p q) (suc (k - before)) r.start
nth_later n a b p q k before r w e h = by_start r.start refl
  where
    some : (c : Bool) → c ≡ true → ◌≡◌ {A = ℕ} (cond c 1 0) 1
    some c e = ap (λ d. cond d 1 0) e

    apart : (i : ℕ) → r.start ≡ suc i → in_one_pair a b i (suc i) ≡ false
    apart i e = two_pairs _ _ _ _ (λ f g.
        let l = w.run.inside in
        let s = w.run.some in
        let m = (w.run.members i (omega arith)).1 (ap (block_at a) e ∙ sym f, ap (block_at b) e ∙ sym g) in
        let low : r.start ≤ i = m.0 in
        omega arith)

    by_start : (s : ℕ) → r.start ≡ s → IsStep (begins_on a b p q) (suc (k - before)) s
    by_start zero f = absurd (
        let own : is_on a b p q 0 ≡ true = sym (lies_where n a b p q r w.run ∙ ap (is_on a b p q) f) ∙ w.lies in
        let one : cond (is_on a b p q 0) 1 0 ≡ 1 = some _ own in
        let number : 0 ≡ k = ap (begun a b p q) (sym f) ∙ w.number in
        omega arith)
    by_start (suc i) f =
        let own : is_on a b p q (suc i) ≡ true = sym (lies_where n a b p q r w.run ∙ ap (is_on a b p q) f) ∙ w.lies in
        let here : begins_on a b p q i ≡ true = ap (λ c. cond c false (is_on a b p q (suc i))) (apart i f) ∙ own in
        let number : cond (is_on a b p q 0) 1 0 + steps (begins_on a b p q) i ≡ k = ap (begun a b p q) (sym f) ∙ w.number in
        subst (λ x. IsStep (begins_on a b p q) x (suc i)) (omega arith) (step_here (begins_on a b p q) i here)

-- How many runs of the pair there are: the first or not, and the later ones.
pub begun_all : (n : ℕ) (a b : Axis) (p q : ℕ) → 0 < n → begun a b p q n ≡ cond (is_on a b p q 0) 1 0 + steps (begins_on a b p q) (n - 1)
begun_all zero a b p q h = absurd (omega arith)
begun_all (suc m) a b p q h = let e : m ≡ suc m - 1 = omega arith in ap (λ x. cond (is_on a b p q 0) 1 0 + steps (begins_on a b p q) x) e

-- The run at an index where a run begins.
pub run_there : (n : ℕ) (a b : Axis) (r q : Run) (s : ℕ) → 0 < a.nb → 0 < b.nb → IsRun n a b r → r.start ≡ s → q ≡ run_from n a b s → q ≡ r
run_there n a b r q s ha hb w e f =
    let i = w.inside in
    let l = w.some in
    f ∙ ap (run_from n a b) (sym e) ∙ run_of_start n a b (run_from n a b r.start) r (run_at_start n a b r.start ha hb (omega arith) fresh) w refl
  where
    fresh : IsStart a b r.start
    fresh = record { apart = λ i h t. let l = w.inside in let s = w.some in let m = (w.members i (omega arith)).1 (sym t.0, sym t.1) in let low : r.start ≤ i = m.0 in omega arith }

-- Where some run of the pair is left, there are indices.
pub begun_some : (n : ℕ) (a b : Axis) (p q k : ℕ) → k < begun a b p q n → 0 < n
begun_some zero a b p q k h = absurd (omega arith)
begun_some (suc m) a b p q k h = omega arith

-- What is kept of a pair, as the code reads it.
pub list_kept : (n : ℕ) (a b : Axis) (reach : ℕ) (lists : List (Vec ℕ Global)) (p q : ℕ) (v : Vec ℕ Global) → IsDealt n a b reach (map (λ v. v.items) lists) → p < a.procs → q < b.procs → v ≡ get_or lists (p * b.procs + q) v → AreKept (begins_on a b p q) (n - 1) reach v.items
list_kept n a b reach lists p q v w hp hq e =
    let place : p * b.procs + q < b.procs * a.procs = mul-add-lt p b.procs q a.procs hp hq in
    let count : length lists ≡ a.procs * b.procs = sym (length-map lists (λ v. v.items)) ∙ w.kept.count in
    let read : get_or (map (λ v. v.items) lists) (p * b.procs + q) [] ≡ v.items = get_or-map (λ v. v.items) lists (p * b.procs + q) v [] (omega arith) ∙ ap (λ v. v.items) (sym e) in
    subst (λ ss. AreKept (begins_on a b p q) (n - 1) reach ss) read (pair_kept n a b reach (map (λ v. v.items) lists) p q w hp hq)

-- The first index of a pair's run that isn't the first run, by what is kept,
pub kept_first : (n : ℕ) (a b : Axis) (p q k before held x reach : ℕ) (ss : List ℕ) → AreKept (begins_on a b p q) (n - 1) reach ss → k < begun a b p q n → before ≡ cond (is_on a b p q 0) 1 0 → before ≤ k → held ≡ length ss → x ≡ get_or ss ((k - before) % held) x
    → (rs : List Run) → AreRuns n a b rs → (get_or (filter (lies_on p q) rs) k no_run).start ≡ x + (k - before) / held * reach
kept_first n a b p q k before held x reach ss w l e h f g rs r =
    let all : begun a b p q n ≡ cond (is_on a b p q 0) 1 0 + steps (begins_on a b p q) (n - 1) = begun_all n a b p q (begun_some n a b p q k l) in
    let count : length (filter (lies_on p q) rs) ≡ begun a b p q n = pair_count n a b p q rs r in
    let there : IsStep (begins_on a b p q) (suc (k - before)) (x + (k - before) / held * reach) = kept_start (begins_on a b p q) (n - 1) reach ss (k - before) held x w (omega arith) f g in
    one_step (begins_on a b p q) (suc (k - before)) _ _ (nth_later n a b p q k before _ (pair_nth n a b p q rs k r (omega arith)) e h) there

-- of which there are some.
pub kept_any : (n : ℕ) (a b : Axis) (p q k before reach : ℕ) (ss : List ℕ) → AreKept (begins_on a b p q) (n - 1) reach ss → k < begun a b p q n → before ≡ cond (is_on a b p q 0) 1 0 → before ≤ k → 0 < length ss
kept_any n a b p q k before reach ss w l e h =
    let all : begun a b p q n ≡ cond (is_on a b p q 0) 1 0 + steps (begins_on a b p q) (n - 1) = begun_all n a b p q (begun_some n a b p q k l) in
    kept_some (begins_on a b p q) (n - 1) reach ss (k - before) w (omega arith)

-- The k-th run of the pair.
pub nth_run_of : (n : ℕ) (a b : Axis) (p q k s : ℕ) (r : Run) (rs : List Run) → 0 < a.nb → 0 < b.nb → AreRuns n a b rs → k < begun a b p q n → (get_or (filter (lies_on p q) rs) k no_run).start ≡ s → r ≡ run_from n a b s → slice_get (filter (lies_on p q) rs) k ≡ Some r
nth_run_of n a b p q k s r rs ha hb h l e f =
    let count : length (filter (lies_on p q) rs) ≡ begun a b p q n = pair_count n a b p q rs h in
    let low : k < length (filter (lies_on p q) rs) = omega arith in
    slice_get-get_or (filter (lies_on p q) rs) k no_run low ∙ ap Some (sym (run_there n a b (get_or (filter (lies_on p q) rs) k no_run) r s ha hb (pair_nth n a b p q rs k h low).run e f))

-- One run more of the pair is listed.
pub nth_more : (xs ys zs : List Run) (k : ℕ) (r : Run) → slice_get xs k ≡ Some r → ys ≡ take k xs → zs ≡ ys ++ r ∷ [] → zs ≡ take (k + 1) xs
nth_more xs ys zs k r e f g =
    let low : k < length xs = slice_get_within xs k r e in
    let s : suc k ≡ k + 1 = omega arith in
    g ∙ ap (λ l. l ++ r ∷ []) f ∙ ap (λ x. take k xs ++ x ∷ []) (sym (get_or_from_slice_get xs k r r e)) ∙ sym (take-suc xs k r low) ∙ ap (λ j. take j xs) s

-- The dealt runs that are made.
pub pairs_new : (n : ℕ) (a b : Axis) (reach turn : ℕ) (lists : List (List ℕ)) → IsAxis n a → IsAxis n b → IsLeastCommonMultiple (a.nb * a.procs) (b.nb * b.procs) turn → reach ≤ n - 1 → (reach < n - 1 → reach ≡ turn) → IsPutOut a b reach lists → IsDealt n a b reach lists
pairs_new n a b reach turn lists wa wb m low whole w = record {
  first = wa;
  second = wb;
  within = low;
  repeats = λ l. subst (λ t. IsTurn a b t) (sym (whole l)) (record { positive = m.common.positive; of_a = m.common.of_first; of_b = m.common.of_second });
  kept = w;
}
