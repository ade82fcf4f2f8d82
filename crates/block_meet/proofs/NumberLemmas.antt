-- The numbers of runs: they rise by one where a run begins, and add up over periods.
use Rattle.std.proofs.Common.{◌≡◌, ℕ, zero, suc, ◌+◌, ◌-◌, ◌*◌, ◌/◌, ◌%◌, ◌<◌, ◌≤◌, ◌==◌, ◌&&◌, Bool, true, false, cond, refl, sym, ap, ◌∙◌, subst, arith}
use Rattle.std.proofs.Math.Nat.{add-mul-div_right}
use Rattle.std.proofs.lemmas.Nat.{div-add-mod'}
use Rattle.std.proofs.lemmas.Bool.Decides.{nat_tests}
use Rattle.block_meet.specs.declared.axis.Axis.{Axis}
use Rattle.block_meet.specs.Runs.{block_at, AreTogether}
use Rattle.block_meet.specs.Numbers.{run_number, IsFirstOf}
use Rattle.block_meet.specs.Stretch.{left, stretch}
use Rattle.block_meet.specs.Table.{IsPeriod}
use Rattle.block_meet.proofs.Blocks.{block_le, left_some}
use Rattle.block_meet.proofs.RunLemmas.{IsStart, stretch_together, past_stretch}

-- From one index to the next: the same number in one pair of blocks, else one more.
pub number_stays : (a b : Axis) (i : ℕ) → AreTogether a b i (suc i) → run_number a b (suc i) ≡ run_number a b i
unfolding run_number
number_stays a b i t = same (run_number a b i) (block_at a i) (block_at a (suc i)) (block_at b i) (block_at b (suc i)) t.0 t.1
  where
    same : (x p q r s : ℕ) → p ≡ q → r ≡ s → x + cond ((p == q) && (r == s)) 0 1 ≡ x
    same x p q r s e f = grind (arith, nat_tests)

pub number_steps : (a b : Axis) (i : ℕ) → (AreTogether a b i (suc i) → ⊥) → run_number a b (suc i) ≡ run_number a b i + 1
unfolding run_number
number_steps a b i t = other (run_number a b i) (block_at a i) (block_at a (suc i)) (block_at b i) (block_at b (suc i)) (λ e f. t (e, f))
  where
    other : (x p q r s : ℕ) → (p ≡ q → r ≡ s → ⊥) → x + cond ((p == q) && (r == s)) 0 1 ≡ x + 1
    other x p q r s h = grind (arith, nat_tests)

-- a step by cases
pub number_next : (a b : Axis) (i : ℕ) → (run_number a b i ≤ run_number a b (suc i)) × (run_number a b (suc i) ≤ run_number a b i + 1) × (run_number a b (suc i) ≡ run_number a b i → AreTogether a b i (suc i))
unfolding run_number
number_next a b i = step (run_number a b i) (block_at a i) (block_at a (suc i)) (block_at b i) (block_at b (suc i))
  where
    low : (x : ℕ) (c : Bool) → x ≤ x + cond c 0 1
    low x true = omega arith
    low x false = omega arith

    high : (x : ℕ) (c : Bool) → x + cond c 0 1 ≤ x + 1
    high x true = omega arith
    high x false = omega arith

    first : (x p q r s : ℕ) → x + cond ((p == q) && (r == s)) 0 1 ≡ x → p ≡ q
    first x p q r s h = grind (arith, nat_tests)

    second : (x p q r s : ℕ) → x + cond ((p == q) && (r == s)) 0 1 ≡ x → r ≡ s
    second x p q r s h = grind (arith, nat_tests)

    step : (x p q r s : ℕ) → (x ≤ x + cond ((p == q) && (r == s)) 0 1) × (x + cond ((p == q) && (r == s)) 0 1 ≤ x + 1) × (x + cond ((p == q) && (r == s)) 0 1 ≡ x → (p ≡ q) × (r ≡ s))
    step x p q r s = (low x _, high x _, λ h. (first x p q r s h, second x p q r s h))

-- Numbers come in the order of their indices.
number_after : (a b : Axis) (i d : ℕ) → run_number a b i ≤ run_number a b (i + d)
number_after a b i zero = let e : i ≡ i + 0 = omega arith in subst (λ x. run_number a b i ≤ run_number a b x) e (omega arith)
number_after a b i (suc d) =
    let e : suc (i + d) ≡ i + suc d = omega arith in
    let before : run_number a b i ≤ run_number a b (i + d) = number_after a b i d in
    let next : run_number a b (i + d) ≤ run_number a b (suc (i + d)) = (number_next a b (i + d)).0 in
    subst (λ x. run_number a b i ≤ run_number a b x) e (omega arith)

pub number_le : (a b : Axis) (i j : ℕ) → i ≤ j → run_number a b i ≤ run_number a b j
number_le a b i j h = let e : i + (j - i) ≡ j = omega arith in subst (λ x. run_number a b i ≤ run_number a b x) e (number_after a b i (j - i))

-- No more runs begin than there are indices.
pub number_at_most : (a b : Axis) (i : ℕ) → run_number a b i ≤ i
unfolding run_number
number_at_most a b zero = omega arith
number_at_most a b (suc i) = let before : run_number a b i ≤ i = number_at_most a b i in let next : run_number a b (suc i) ≤ run_number a b i + 1 = (number_next a b i).1 in omega arith

-- Indices with one number are together.
together_after : (a b : Axis) (i d : ℕ) → run_number a b (i + d) ≡ run_number a b i → AreTogether a b i (i + d)
together_after a b i zero h = let e : i ≡ i + 0 = omega arith in (ap (block_at a) e, ap (block_at b) e)
together_after a b i (suc d) h =
    let e : i + suc d ≡ suc (i + d) = omega arith in
    let whole : run_number a b (suc (i + d)) ≡ run_number a b i = ap (run_number a b) (sym e) ∙ h in
    let low : run_number a b i ≤ run_number a b (i + d) = number_after a b i d in
    let next = number_next a b (i + d) in
    let step : run_number a b (i + d) ≤ run_number a b (suc (i + d)) = next.0 in
    let before : AreTogether a b i (i + d) = together_after a b i d (omega arith) in
    let last : AreTogether a b (i + d) (suc (i + d)) = next.2 (omega arith) in
    (before.0 ∙ last.0 ∙ ap (block_at a) (sym e), before.1 ∙ last.1 ∙ ap (block_at b) (sym e))

pub number_together : (a b : Axis) (i j : ℕ) → i ≤ j → run_number a b j ≡ run_number a b i → AreTogether a b i j
number_together a b i j h e = let f : i + (j - i) ≡ j = omega arith in subst (λ x. AreTogether a b i x) f (together_after a b i (j - i) (ap (run_number a b) f ∙ e))

-- Indices that are together have one number.
same_after : (a b : Axis) (i d : ℕ) → 0 < a.nb → 0 < b.nb → AreTogether a b i (i + d) → run_number a b (i + d) ≡ run_number a b i
same_after a b i zero ha hb t = ap (run_number a b) (omega arith)
same_after a b i (suc d) ha hb t =
    let e : i + suc d ≡ suc (i + d) = omega arith in
    let la : block_at a i ≤ block_at a (i + d) = block_le a i (i + d) ha (omega arith) in
    let lb : block_at b i ≤ block_at b (i + d) = block_le b i (i + d) hb (omega arith) in
    let ma : block_at a (i + d) ≤ block_at a (suc (i + d)) = block_le a (i + d) (suc (i + d)) ha (omega arith) in
    let mb : block_at b (i + d) ≤ block_at b (suc (i + d)) = block_le b (i + d) (suc (i + d)) hb (omega arith) in
    let ta : block_at a i ≡ block_at a (suc (i + d)) = t.0 ∙ ap (block_at a) e in
    let tb : block_at b i ≡ block_at b (suc (i + d)) = t.1 ∙ ap (block_at b) e in
    ap (run_number a b) e ∙ number_stays a b (i + d) (between _ _ _ la ma ta, between _ _ _ lb mb tb)
    ∙ same_after a b i d ha hb (first _ _ _ la ma ta, first _ _ _ lb mb tb)
  where
    between : (p q r : ℕ) → p ≤ q → q ≤ r → p ≡ r → q ≡ r
    between p q r h k e = omega arith

    first : (p q r : ℕ) → p ≤ q → q ≤ r → p ≡ r → p ≡ q
    first p q r h k e = omega arith

pub together_number : (a b : Axis) (i j : ℕ) → 0 < a.nb → 0 < b.nb → i ≤ j → AreTogether a b i j → run_number a b j ≡ run_number a b i
together_number a b i j ha hb h t = let f : i + (j - i) ≡ j = omega arith in ap (run_number a b) (sym f) ∙ same_after a b i (j - i) ha hb (subst (λ x. AreTogether a b i x) (sym f) t)

-- The first index of a run is a start.
pub first_is_start : (a b : Axis) (k s : ℕ) → 0 < a.nb → 0 < b.nb → IsFirstOf a b k s → IsStart a b s
first_is_start a b k s ha hb f = record { apart = λ i h t. clash (run_number a b i) (run_number a b s) k (f.before i h) f.its_number (together_number a b i s ha hb (omega arith) t) }
  where
    clash : (x y k : ℕ) → x < k → y ≡ k → y ≡ x → ⊥
    clash x y k h e f = omega arith

-- The first run begins at 0.
pub first_zero : (a b : Axis) → IsFirstOf a b 0 0
unfolding run_number
first_zero a b = record { its_number = refl; before = λ i h. absurd (omega arith) }

-- The next run begins after the stretch of the one before it.
pub first_next : (a b : Axis) (k s : ℕ) → 0 < a.nb → 0 < b.nb → IsFirstOf a b k s → IsFirstOf a b (suc k) (s + stretch a b s)
first_next a b k s ha hb f =
    let xa : 0 < left a s = left_some a s ha in
    let xb : 0 < left b s = left_some b s hb in
    let e : suc (s + stretch a b s - 1) ≡ s + stretch a b s = omega arith in
    let last : run_number a b (s + stretch a b s - 1) ≡ run_number a b s = within (s + stretch a b s - 1) (omega arith) (omega arith) in
    let next = number_next a b (s + stretch a b s - 1) in
    let top : run_number a b (suc (s + stretch a b s - 1)) ≤ run_number a b (s + stretch a b s - 1) + 1 = next.1 in
    let same : run_number a b (suc (s + stretch a b s - 1)) ≡ run_number a b (s + stretch a b s) = ap (run_number a b) e in
    let low : run_number a b s ≤ run_number a b (s + stretch a b s) = number_le a b s (s + stretch a b s) (omega arith) in
    let other : run_number a b (s + stretch a b s) ≡ run_number a b s → ⊥ = λ (g : run_number a b (s + stretch a b s) ≡ run_number a b s). past_stretch a b s (s + stretch a b s) ha hb (omega arith) (number_together a b s (s + stretch a b s) (omega arith) g) in
    let own : run_number a b s ≡ k = f.its_number in
    record {
      its_number = one_more _ _ _ _ _ last top same low other own;
      before = λ i h. earlier i h;
    }
  where
    within : (i : ℕ) → s ≤ i → i < s + stretch a b s → run_number a b i ≡ run_number a b s
    within i low high = together_number a b s i ha hb low (stretch_together a b s i ha hb low high)

    one_more : (x y z w k : ℕ) → x ≡ w → y ≤ x + 1 → y ≡ z → w ≤ z → (z ≡ w → ⊥) → w ≡ k → z ≡ suc k
    one_more x y z w k e t g l o f = grind arith

    earlier : (i : ℕ) → i < s + stretch a b s → run_number a b i < suc k
    earlier i h = by_order i s (run_number a b i) (run_number a b s) k f.its_number (f.before i) (λ l. within i l h)
      where
        by_order : (i s x y k : ℕ) → y ≡ k → (i < s → x < k) → (s ≤ i → x ≡ y) → x < suc k
        by_order i s x y k e g h = grind arith

-- There is one first index.
pub one_first : (a b : Axis) (k s t : ℕ) → IsFirstOf a b k s → IsFirstOf a b k t → s ≡ t
one_first a b k s t f g = by_order s t (λ h. clash _ _ (g.before s h) f.its_number) (λ h. clash _ _ (f.before t h) g.its_number)
  where
    clash : (x k : ℕ) → x < k → x ≡ k → ⊥
    clash x k h e = omega arith

    by_order : (s t : ℕ) → (s < t → ⊥) → (t < s → ⊥) → s ≡ t
    by_order s t h k = grind arith

-- After a period each block is so many blocks further.
pub block_shift : (a : Axis) (p i : ℕ) → 0 < a.nb → p % a.nb ≡ 0 → block_at a (p + i) ≡ block_at a i + p / a.nb
block_shift a p i h e =
    let whole : p / a.nb * a.nb + p % a.nb ≡ p = div-add-mod' p a.nb in
    let place : a.first + (p + i) ≡ (a.first + i) + p / a.nb * a.nb = omega arith in
    ap (λ x. x / a.nb) place ∙ add-mul-div_right (a.first + i) (p / a.nb) h

-- The law of shifting: numbers of runs add up over periods.
pub number_shift : (a b : Axis) (p i : ℕ) → 0 < a.nb → 0 < b.nb → IsPeriod a b p → run_number a b (p + i) ≡ run_number a b p + run_number a b i
unfolding run_number
number_shift a b p zero ha hb w = ap (run_number a b) (let e : p + 0 ≡ p = omega arith in e) ∙ omega arith
number_shift a b p (suc i) ha hb w =
    let e : p + suc i ≡ suc (p + i) = omega arith in
    let s : p + suc i ≡ suc (p + i) = e in
    let xa : block_at a (suc (p + i)) ≡ block_at a (suc i) + p / a.nb = ap (block_at a) (sym e) ∙ block_shift a p (suc i) ha w.of_a in
    let xb : block_at b (suc (p + i)) ≡ block_at b (suc i) + p / b.nb = ap (block_at b) (sym e) ∙ block_shift b p (suc i) hb w.of_b in
    let before : run_number a b (p + i) ≡ run_number a b p + run_number a b i = number_shift a b p i ha hb w in
    ap (run_number a b) e ∙ added _ _ _ _ _ _ _ _ _ _ _ _ _ before (block_shift a p i ha w.of_a) xa (block_shift b p i hb w.of_b) xb
  where
    added : (x y z p q r s p' q' r' s' c d : ℕ) → x ≡ y + z → p' ≡ p + c → q' ≡ q + c → r' ≡ r + d → s' ≡ s + d
        → x + cond ((p' == q') && (r' == s')) 0 1 ≡ y + (z + cond ((p == q) && (r == s)) 0 1)
    added x y z p q r s p' q' r' s' c d h e f g k = grind (arith, nat_tests)

pub number_shifts : (a b : Axis) (p q i : ℕ) → 0 < a.nb → 0 < b.nb → IsPeriod a b p → run_number a b (q * p + i) ≡ q * run_number a b p + run_number a b i
number_shifts a b p zero i ha hb w = ap (run_number a b) (let e : 0 * p + i ≡ i = omega arith in e) ∙ omega arith
number_shifts a b p (suc q) i ha hb w =
    let e : suc q * p + i ≡ p + (q * p + i) = omega arith in
    let one : run_number a b (p + (q * p + i)) ≡ run_number a b p + run_number a b (q * p + i) = number_shift a b p (q * p + i) ha hb w in
    let rest : run_number a b (q * p + i) ≡ q * run_number a b p + run_number a b i = number_shifts a b p q i ha hb w in
    ap (run_number a b) e ∙ one ∙ omega arith

-- So the runs after the first begin again after each period.
pub first_shift : (a b : Axis) (p q k s : ℕ) → 0 < a.nb → 0 < b.nb → IsPeriod a b p → IsFirstOf a b (suc k) s → IsFirstOf a b (q * run_number a b p + suc k) (q * p + s)
first_shift a b p q k s ha hb w f = record {
  its_number = number_shifts a b p q s ha hb w ∙ ap (λ x. q * run_number a b p + x) f.its_number;
  before = λ i h. earlier i h;
}
  where
    low : (i : ℕ) → i ≤ q * p → run_number a b i ≤ q * run_number a b p
    low i h =
        let top : run_number a b i ≤ run_number a b (q * p + 0) = number_le a b i (q * p + 0) (omega arith) in
        let whole : run_number a b (q * p + 0) ≡ q * run_number a b p + 0 = number_shifts a b p q 0 ha hb w ∙ ap (λ x. q * run_number a b p + x) (first_zero a b).its_number in
        omega arith

    high : (i : ℕ) → q * p ≤ i → i < q * p + s → run_number a b i < q * run_number a b p + suc k
    high i l h =
        let e : q * p + (i - q * p) ≡ i = omega arith in
        let whole : run_number a b (q * p + (i - q * p)) ≡ q * run_number a b p + run_number a b (i - q * p) = number_shifts a b p q (i - q * p) ha hb w in
        let same : run_number a b (q * p + (i - q * p)) ≡ run_number a b i = ap (run_number a b) e in
        let inner : run_number a b (i - q * p) < suc k = f.before (i - q * p) (omega arith) in
        omega arith

    earlier : (i : ℕ) → i < q * p + s → run_number a b i < q * run_number a b p + suc k
    earlier i h = by_order i (q * p) (run_number a b i) (q * run_number a b p) k (low i) (λ l. high i l h)
      where
        by_order : (i m x y k : ℕ) → (i ≤ m → x ≤ y) → (m ≤ i → x < y + suc k) → x < y + suc k
        by_order i m x y k g h = grind arith
