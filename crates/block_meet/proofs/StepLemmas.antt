-- Steps that pass a test add up over the periods of the test.
use Rattle.std.proofs.Common.{◌≡◌, ℕ, zero, suc, ◌+◌, ◌-◌, ◌*◌, ◌/◌, ◌%◌, ◌<◌, ◌≤◌, Bool, true, false, cond, inl, inr, nat_le, List, length, get_or, count_by, refl, sym, ap, ◌∙◌, subst, arith}
use Rattle.std.proofs.Math.Nat.{mod-lt, mod-eq_of_lt, div-eq_of_lt}
use Rattle.std.proofs.lemmas.Nat.{div-add-mod'}
use Rattle.std.specs.List.Sorted.{IsPartitionedBy}
use Rattle.std.proofs.lemmas.List.{get_or_read_under, get_or_default}
use Rattle.std.proofs.lemmas.Bool.{cases_lt}
use Rattle.std.proofs.lemmas.Bool.Decides.{nat_tests}
use Rattle.block_meet.specs.Steps.{steps, IsStep, AreSteps}
use Rattle.block_meet.proofs.TableLemmas.{count_front}

-- A step counts at most one.
pub steps_next : (t : ℕ → Bool) (i : ℕ) → (steps t i ≤ steps t (suc i)) × (steps t (suc i) ≤ steps t i + 1)
unfolding steps
steps_next t i = (low (steps t i) (t i), high (steps t i) (t i))
  where
    low : (x : ℕ) (c : Bool) → x ≤ x + cond c 1 0
    low x true = omega arith
    low x false = omega arith

    high : (x : ℕ) (c : Bool) → x + cond c 1 0 ≤ x + 1
    high x true = omega arith
    high x false = omega arith

pub step_passes : (t : ℕ → Bool) (i : ℕ) (c : Bool) → t i ≡ c → steps t (suc i) ≡ steps t i + cond c 1 0
unfolding steps
step_passes t i c e = ap (λ d. steps t i + cond d 1 0) e

steps_after : (t : ℕ → Bool) (i d : ℕ) → steps t i ≤ steps t (i + d)
steps_after t i zero = let e : i ≡ i + 0 = omega arith in subst (λ x. steps t i ≤ steps t x) e (omega arith)
steps_after t i (suc d) =
    let e : suc (i + d) ≡ i + suc d = omega arith in
    let before : steps t i ≤ steps t (i + d) = steps_after t i d in
    let next : steps t (i + d) ≤ steps t (suc (i + d)) = (steps_next t (i + d)).0 in
    subst (λ x. steps t i ≤ steps t x) e (omega arith)

pub steps_le : (t : ℕ → Bool) (i j : ℕ) → i ≤ j → steps t i ≤ steps t j
steps_le t i j h = let e : i + (j - i) ≡ j = omega arith in subst (λ x. steps t i ≤ steps t x) e (steps_after t i (j - i))

pub steps_at_most : (t : ℕ → Bool) (i : ℕ) → steps t i ≤ i
unfolding steps
steps_at_most t zero = omega arith
steps_at_most t (suc i) = let before : steps t i ≤ i = steps_at_most t i in let next : steps t (suc i) ≤ steps t i + 1 = (steps_next t i).1 in omega arith

-- Where no step passes, the count stays.
pub steps_stay : (t : ℕ → Bool) (i d : ℕ) → ((j : ℕ) → i ≤ j → j < i + d → t j ≡ false) → steps t (i + d) ≡ steps t i
steps_stay t i zero f = ap (steps t) (omega arith)
steps_stay t i (suc d) f =
    let e : i + suc d ≡ suc (i + d) = omega arith in
    ap (steps t) e ∙ step_passes t (i + d) false (f (i + d) (omega arith) (omega arith)) ∙ ap (λ x. x + 0) (steps_stay t i d (λ j l h. f j l (omega arith))) ∙ omega arith

-- There is one index of a number.
pub one_step : (t : ℕ → Bool) (k s u : ℕ) → IsStep t k s → IsStep t k u → s ≡ u
one_step t k s u f g = by_order s u (λ h. clash _ _ (g.before s h) f.its_number) (λ h. clash _ _ (f.before u h) g.its_number)
  where
    clash : (x k : ℕ) → x < k → x ≡ k → ⊥
    clash x k h e = omega arith

    by_order : (s u : ℕ) → (s < u → ⊥) → (u < s → ⊥) → s ≡ u
    by_order s u h k = grind arith

-- The index after a step that passes.
pub step_here : (t : ℕ → Bool) (i : ℕ) → t i ≡ true → IsStep t (steps t i + 1) (suc i)
step_here t i e = record { its_number = step_passes t i true e; before = λ j h. let l : steps t j ≤ steps t i = steps_le t j i (omega arith) in omega arith }

-- The law of shifting: over a period of the test the counts add up.
steps_shift : (t : ℕ → Bool) (p i : ℕ) → ((j : ℕ) → t (p + j) ≡ t j) → steps t (p + i) ≡ steps t p + steps t i
unfolding steps
steps_shift t p zero w = ap (steps t) (let e : p + 0 ≡ p = omega arith in e) ∙ omega arith
steps_shift t p (suc i) w =
    let e : p + suc i ≡ suc (p + i) = omega arith in
    ap (steps t) e ∙ step_passes t (p + i) (t i) (w i) ∙ ap (λ x. x + cond (t i) 1 0) (steps_shift t p i w) ∙ grouped (steps t p) (steps t i) (cond (t i) 1 0)
  where
    grouped : (x y z : ℕ) → x + y + z ≡ x + (y + z)
    grouped x y z = omega arith

pub steps_shifts : (t : ℕ → Bool) (p q i : ℕ) → ((j : ℕ) → t (p + j) ≡ t j) → steps t (q * p + i) ≡ q * steps t p + steps t i
steps_shifts t p zero i w = ap (steps t) (let e : 0 * p + i ≡ i = omega arith in e) ∙ omega arith
steps_shifts t p (suc q) i w =
    let e : suc q * p + i ≡ p + (q * p + i) = omega arith in
    let one : steps t (p + (q * p + i)) ≡ steps t p + steps t (q * p + i) = steps_shift t p (q * p + i) w in
    let rest : steps t (q * p + i) ≡ q * steps t p + steps t i = steps_shifts t p q i w in
    ap (steps t) e ∙ one ∙ omega arith

pub steps_none : (t : ℕ → Bool) → steps t 0 ≡ 0
unfolding steps
steps_none t = refl

-- So the indices begin again after each period.
pub step_shift : (t : ℕ → Bool) (p q k s : ℕ) → ((j : ℕ) → t (p + j) ≡ t j) → IsStep t (suc k) s → IsStep t (q * steps t p + suc k) (q * p + s)
step_shift t p q k s w f = record {
  its_number = steps_shifts t p q s w ∙ ap (λ x. q * steps t p + x) f.its_number;
  before = λ i h. earlier i h;
}
  where
    low : (i : ℕ) → i ≤ q * p → steps t i ≤ q * steps t p
    low i h =
        let top : steps t i ≤ steps t (q * p + 0) = steps_le t i (q * p + 0) (omega arith) in
        let whole : steps t (q * p + 0) ≡ q * steps t p + 0 = steps_shifts t p q 0 w ∙ ap (λ x. q * steps t p + x) (steps_none t) in
        omega arith

    high : (i : ℕ) → q * p ≤ i → i < q * p + s → steps t i < q * steps t p + suc k
    high i l h =
        let e : q * p + (i - q * p) ≡ i = omega arith in
        let whole : steps t (q * p + (i - q * p)) ≡ q * steps t p + steps t (i - q * p) = steps_shifts t p q (i - q * p) w in
        let same : steps t (q * p + (i - q * p)) ≡ steps t i = ap (steps t) e in
        let inner : steps t (i - q * p) < suc k = f.before (i - q * p) (omega arith) in
        omega arith

    earlier : (i : ℕ) → i < q * p + s → steps t i < q * steps t p + suc k
    earlier i h = by_order i (q * p) (steps t i) (q * steps t p) k (low i) (λ l. high i l h)
      where
        by_order : (i m x y k : ℕ) → (i ≤ m → x ≤ y) → (m ≤ i → x < y + suc k) → x < y + suc k
        by_order i m x y k g h = grind arith

-- what is kept of the steps to m: those to `reach`, which is a period where steps go further
pub record AreKept (t : ℕ → Bool) (m reach : ℕ) (ss : List ℕ) : Type 0 where
  pub steps : AreSteps t reach ss
  pub within : reach ≤ m
  pub positive : reach < m → 0 < reach
  pub repeats : reach < m → (j : ℕ) → t (reach + j) ≡ t j

-- Where a step passes, some are kept.
pub kept_some : (t : ℕ → Bool) (m reach : ℕ) (ss : List ℕ) (j : ℕ) → AreKept t m reach ss → j < steps t m → 0 < length ss
kept_some t m reach ss j w h =
    elim (cases_lt reach m) [
      | inl l ↦
          let split : m / reach * reach + m % reach ≡ m = div-add-mod' m reach in
          let whole : steps t m ≡ m / reach * steps t reach + steps t (m % reach) = ap (steps t) (sym split) ∙ steps_shifts t reach (m / reach) (m % reach) (w.repeats l) in
          let inside : m % reach < reach = mod-lt m (w.positive l) in
          let rest : steps t (m % reach) ≤ steps t reach = steps_le t (m % reach) reach (omega arith) in
          some (m / reach) (length ss) (steps t reach) (steps t (m % reach)) (steps t m) j w.steps.count whole rest h
      | inr l ↦
          let most : steps t m ≤ steps t reach = steps_le t m reach l in
          let count : length ss ≡ steps t reach = w.steps.count in
          omega arith
    ]
  where
    some : (q c m r x j : ℕ) → c ≡ m → x ≡ q * m + r → r ≤ m → j < x → 0 < c
    some q zero m r x j e f g h = let z : m ≡ 0 = sym e in let y : q * m ≡ 0 = ap (λ v. q * v) z ∙ omega arith in omega arith
    some q (suc c) m r x j e f g h = omega arith

-- The indices of all numbers, by what is kept.
kept_step : (t : ℕ → Bool) (m reach : ℕ) (ss : List ℕ) (j : ℕ) → AreKept t m reach ss → j < steps t m → IsStep t (suc j) (get_or ss (j % length ss) 0 + j / length ss * reach)
kept_step t m reach ss j w h =
    let some : 0 < length ss = kept_some t m reach ss j w h in
    let place : j % length ss < length ss = mod-lt j some in
    let here : IsStep t (suc (j % length ss)) (get_or ss (j % length ss) 0) = w.steps.each (j % length ss) place in
    let split : j / length ss * length ss + j % length ss ≡ j = div-add-mod' j (length ss) in
    elim (cases_lt reach m) [
      | inl l ↦
          let there = step_shift t reach (j / length ss) (j % length ss) _ (w.repeats l) here in
          let number : j / length ss * steps t reach + suc (j % length ss) ≡ suc j = ap (λ c. j / length ss * c + suc (j % length ss)) (sym w.steps.count) ∙ omega arith in
          moved _ _ _ _ number (omega arith) there
      | inr l ↦
          let most : steps t m ≤ steps t reach = steps_le t m reach l in
          let count : length ss ≡ steps t reach = w.steps.count in
          let low : j < length ss = omega arith in
          let same : j % length ss ≡ j = mod-eq_of_lt low in
          let none : j / length ss ≡ 0 = div-eq_of_lt low in
          let gone : j / length ss * reach ≡ 0 = ap (λ q. q * reach) none ∙ omega arith in
          moved _ _ _ _ (omega arith) (omega arith) here
    ]
  where
    moved : (i j s u : ℕ) → i ≡ j → s ≡ u → IsStep t i s → IsStep t j u
    moved i j s u e f w = subst (λ x. IsStep t x u) e (subst (λ x. IsStep t i x) f w)

-- The same as the code reads it.
pub kept_start : (t : ℕ → Bool) (m reach : ℕ) (ss : List ℕ) (j held x : ℕ) → AreKept t m reach ss → j < steps t m → held ≡ length ss → x ≡ get_or ss (j % held) x → IsStep t (suc j) (x + j / held * reach)
kept_start t m reach ss j held x w h e f =
    let some : 0 < length ss = kept_some t m reach ss j w h in
    let place : j % length ss < length ss = mod-lt j some in
    let in_held : j % held < held = subst (λ h. j % h < h) (sym e) place in
    let read : x ≡ get_or ss (j % held) 0 = get_or_read_under ss (j % held) held x 0 f in_held e in
    subst (λ y. IsStep t (suc j) (y + j / held * reach)) (sym read) (subst (λ h. IsStep t (suc j) (get_or ss (j % h) 0 + j / h * reach)) (sym e) (kept_step t m reach ss j w h))

-- The indices rise.
pub steps_rise : (t : ℕ → Bool) (last : ℕ) (ss xs : List ℕ) (i : ℕ) → AreSteps t last ss → xs ≡ ss → IsPartitionedBy (λ s. nat_le s i) xs
steps_rise t last ss xs i w e = subst (IsPartitionedBy (λ s. nat_le s i)) (sym e) (λ j k d l h u. passes j k d l h u)
  where
    passes : (j k d : ℕ) → j ≤ k → k < length ss → nat_le (get_or ss k d) i ≡ true → nat_le (get_or ss j d) i ≡ true
    passes j k d l h u =
        let x : get_or ss k d ≡ get_or ss k 0 = get_or_default ss k d 0 h in
        let y : get_or ss j d ≡ get_or ss j 0 = get_or_default ss j d 0 (omega arith) in
        by_test (get_or ss j d) (get_or ss k d) i (get_or ss j 0) (get_or ss k 0) j k (steps t (get_or ss k 0)) x y l (w.each k h).its_number ((w.each j (omega arith)).before (get_or ss k 0)) u
      where
        by_test : (u v i s r j k x : ℕ) → v ≡ r → u ≡ s → j ≤ k → x ≡ suc k → (r < s → x < suc j) → nat_le v i ≡ true → nat_le u i ≡ true
        by_test u v i s r j k x e f l g h t = grind (arith, nat_tests)

-- How many steps pass up to an index that is reached,
steps_up_to : (t : ℕ → Bool) (reach : ℕ) (ss : List ℕ) (i : ℕ) → AreSteps t reach ss → i ≤ reach → count_by (λ s. nat_le s i) ss ≡ steps t i
steps_up_to t reach ss i w h =
    let top : steps t i ≤ steps t reach = steps_le t i reach h in
    let count : length ss ≡ steps t reach = w.count in
    count_front (λ s. nat_le s i) ss (steps t i) (omega arith) (λ k l. passes k l (omega arith)) (λ k l m. fails k l m)
  where
    passes : (k : ℕ) → k < steps t i → k < length ss → nat_le (get_or ss k 0) i ≡ true
    passes k l m = by_test (get_or ss k 0) i (steps t i) k l (λ o. (w.each k m).before i o)
      where
        by_test : (s i x k : ℕ) → k < x → (i < s → x < suc k) → nat_le s i ≡ true
        by_test s i x k l f = grind (arith, nat_tests)

    fails : (k : ℕ) → steps t i ≤ k → k < length ss → nat_le (get_or ss k 0) i ≡ false
    fails k l m = by_test (get_or ss k 0) i (steps t i) (steps t (get_or ss k 0)) k l (w.each k m).its_number (λ o. steps_le t (get_or ss k 0) i o)
      where
        by_test : (s i x y k : ℕ) → x ≤ k → y ≡ suc k → (s ≤ i → y ≤ x) → nat_le s i ≡ false
        by_test s i x y k l e f = grind (arith, nat_tests)

pub kept_within : (t : ℕ → Bool) (m reach : ℕ) (ss xs : List ℕ) (i up : ℕ) → AreKept t m reach ss → i ≤ reach → xs ≡ ss → up ≡ count_by (λ s. nat_le s i) xs → up ≡ steps t i
kept_within t m reach ss xs i up w h e u = u ∙ ap (count_by (λ s. nat_le s i)) e ∙ steps_up_to t reach ss i w.steps h

-- and after it.
pub kept_after : (t : ℕ → Bool) (m reach : ℕ) (ss xs : List ℕ) (i held up : ℕ) → AreKept t m reach ss → reach < m → held ≡ length ss → xs ≡ ss → up ≡ count_by (λ s. nat_le s (i % reach)) xs → i / reach * held + up ≡ steps t i
kept_after t m reach ss xs i held up w l e f u =
    let split : i / reach * reach + i % reach ≡ i = div-add-mod' i reach in
    let inside : i % reach < reach = mod-lt i (w.positive l) in
    let rest : up ≡ steps t (i % reach) = kept_within t m reach ss xs (i % reach) up w (omega arith) f u in
    ap (λ x. i / reach * x + up) (e ∙ w.steps.count) ∙ ap (λ x. i / reach * steps t reach + x) rest
    ∙ sym (steps_shifts t reach (i / reach) (i % reach) (w.repeats l)) ∙ ap (steps t) split

-- Few are kept.
pub steps_few : (t : ℕ → Bool) (m reach : ℕ) (ss : List ℕ) → AreKept t m reach ss → length ss ≤ m
steps_few t m reach ss w =
    let count : length ss ≡ steps t reach = w.steps.count in
    let most : steps t reach ≤ reach = steps_at_most t reach in
    let low : reach ≤ m = w.within in
    omega arith

-- The product is no greater than the index.
pub product_fits : (t : ℕ → Bool) (m reach : ℕ) (ss : List ℕ) (i held : ℕ) → AreKept t m reach ss → reach < m → held ≡ length ss → i / reach * held ≤ i
product_fits t m reach ss i held w l e =
    let whole : i / reach * held + count_by (λ s. nat_le s (i % reach)) ss ≡ steps t i = kept_after t m reach ss ss i held _ w l e refl refl in
    let most : steps t i ≤ i = steps_at_most t i in
    omega arith
