-- The fold of a list is one, and the functions give it.
use Rattle.std.proofs.Common.{◌≡◌, ◌≢◌, ℕ, zero, suc, ◌<◌, ◌≤◌, Bool, true, false, List, [], ◌∷◌, length, refl, sym, ap, ◌∙◌, subst, arith, inl, inr, ◌⊎◌, ℤ, pos}
use Rattle.std.specs.Prelude.{◌==◌, ◌↔◌, unsigned_abs}
use Rattle.std.proofs.lemmas.Bool.{cases_lt}
use Rattle.std.proofs.lemmas.Bool.Decides.{eqb_tells}
use Rattle.std.proofs.lemmas.List.Sums.{position_or_len_is, fails_before_first, passes_at_first}
use Rattle.fold_ops.specs.declared.held.Held.{Held}
use Rattle.fold_ops.specs.SumLaws.{made}
use Rattle.fold_ops.specs.Tree.{word_at}
use Rattle.fold_ops.specs.Fold.{IsSumFold, IsMaxFold, IsMinFold}
use Rattle.fold_ops.specs.FoldOf.{sum_of, greatest_size, least_size, first_of_size, word_with_place, greatest_of, least_of}

-- ---- the greatest and the least absolute value

up_to_greatest : (ws : List ℤ) (k : ℕ) → k < length ws → unsigned_abs (word_at ws k) ≤ greatest_size ws
up_to_greatest [] k lt = absurd (omega arith)
up_to_greatest (w ∷ ws) zero lt = omega arith
up_to_greatest (w ∷ ws) (suc k) lt = let h : unsigned_abs (word_at ws k) ≤ greatest_size ws = up_to_greatest ws k (omega arith) in omega arith

greatest_up_to : (ws : List ℤ) (m : ℕ) → ((k : ℕ) → k < length ws → unsigned_abs (word_at ws k) ≤ m) → greatest_size ws ≤ m
greatest_up_to [] m all = omega arith
greatest_up_to (w ∷ ws) m all =
    let first : unsigned_abs w ≤ m = all 0 (omega arith) in
    let rest : greatest_size ws ≤ m = greatest_up_to ws m (λ k lt. all (suc k) (omega arith)) in
    omega arith

from_least : (ws : List ℤ) (k : ℕ) → k < length ws → least_size ws ≤ unsigned_abs (word_at ws k)
from_least [] k lt = absurd (omega arith)
from_least (w ∷ []) zero lt = omega arith
from_least (w ∷ []) (suc k) lt = absurd (omega arith)
from_least (w ∷ v ∷ vs) zero lt = omega arith
from_least (w ∷ v ∷ vs) (suc k) lt = let h : least_size (v ∷ vs) ≤ unsigned_abs (word_at (v ∷ vs) k) = from_least (v ∷ vs) k (omega arith) in omega arith

least_from : (ws : List ℤ) (m : ℕ) → 0 < length ws → ((k : ℕ) → k < length ws → m ≤ unsigned_abs (word_at ws k)) → m ≤ least_size ws
least_from [] m some all = absurd (omega arith)
least_from (w ∷ []) m some all = all 0 (omega arith)
least_from (w ∷ v ∷ vs) m some all =
    let first : m ≤ unsigned_abs w = all 0 (omega arith) in
    let rest : m ≤ least_size (v ∷ vs) = least_from (v ∷ vs) m (omega arith) (λ k lt. all (suc k) (omega arith)) in
    omega arith

-- ---- a fold is what the functions give

first_is : (words : List ℤ) (n k : ℕ) → k < length words → unsigned_abs (word_at words k) ≡ n → ((j : ℕ) → j < k → unsigned_abs (word_at words j) ≢ n) → first_of_size n words ≡ k
first_is words n k lt has before =
    position_or_len_is (λ w. unsigned_abs w == n) words k (pos 0) (omega arith) (λ j below. not_there j (before j below)) (λ within. there)
  where
    not_there : (j : ℕ) → unsigned_abs (word_at words j) ≢ n → (unsigned_abs (word_at words j) == n) ≡ false
    not_there j ne = elim (eqb_tells (unsigned_abs (word_at words j)) n) [ inl is ↦ absurd (ne is.1) | inr other ↦ other.0 ]

    there : (unsigned_abs (word_at words k) == n) ≡ true
    there = elim (eqb_tells (unsigned_abs (word_at words k)) n) [ inl is ↦ is.0 | inr other ↦ absurd (other.1 has) ]

as_word : (words : List ℤ) (fold : Held) (k : ℕ) → fold.value ≡ word_at words fold.place → k ≡ fold.place → fold ≡ word_with_place words k
as_word words fold k value same = made fold.value (word_at words k) fold.place k (value ∙ ap (word_at words) (sym same)) (sym same)

pub is_greatest_of : (words : List ℤ) (fold : Held) → IsMaxFold words fold → fold ≡ greatest_of words
unfolding greatest_of
is_greatest_of words fold f =
    let size : ℕ = unsigned_abs fold.value in
    let low : unsigned_abs (word_at words fold.place) ≤ greatest_size words = up_to_greatest words fold.place f.place in
    let high : greatest_size words ≤ unsigned_abs fold.value = greatest_up_to words (unsigned_abs fold.value) f.greatest in
    let own : unsigned_abs fold.value ≡ unsigned_abs (word_at words fold.place) = ap unsigned_abs f.value in
    let is : unsigned_abs (word_at words fold.place) ≡ greatest_size words = omega arith in
    as_word words fold (first_of_size (greatest_size words) words) f.value
    (first_is words (greatest_size words) fold.place f.place is (λ j below same. absurd (let less = f.first j below in omega arith)))

pub is_least_of : (words : List ℤ) (fold : Held) → IsMinFold words fold → fold ≡ least_of words
unfolding least_of
is_least_of words fold f =
    let low : least_size words ≤ unsigned_abs (word_at words fold.place) = from_least words fold.place f.place in
    let some : 0 < length words = let lt = f.place in omega arith in
    let high : unsigned_abs fold.value ≤ least_size words = least_from words (unsigned_abs fold.value) some f.least in
    let own : unsigned_abs fold.value ≡ unsigned_abs (word_at words fold.place) = ap unsigned_abs f.value in
    let is : unsigned_abs (word_at words fold.place) ≡ least_size words = omega arith in
    as_word words fold (first_of_size (least_size words) words) f.value
    (first_is words (least_size words) fold.place f.place is (λ j below same. absurd (let less = f.first j below in omega arith)))

-- ---- and what they give is a fold

greatest_there : (ws : List ℤ) → 0 < length ws → (k : ℕ) × (k < length ws) × (unsigned_abs (word_at ws k) ≡ greatest_size ws)
greatest_there [] some = absurd (omega arith)
greatest_there (w ∷ []) some = (0, omega arith, omega arith)
greatest_there (w ∷ v ∷ vs) some = at (greatest_there (v ∷ vs) (omega arith)) (cases_lt (unsigned_abs w) (greatest_size (v ∷ vs)))
  where
    at : (k : ℕ) × (k < length (v ∷ vs)) × (unsigned_abs (word_at (v ∷ vs) k) ≡ greatest_size (v ∷ vs)) → (unsigned_abs w < greatest_size (v ∷ vs)) ⊎ (greatest_size (v ∷ vs) ≤ unsigned_abs w)
        → (k : ℕ) × (k < length (w ∷ v ∷ vs)) × (unsigned_abs (word_at (w ∷ v ∷ vs) k) ≡ greatest_size (w ∷ v ∷ vs))
    at h (inl after) = let lt = h.1 in let is = h.2 in (suc h.0, omega arith, omega arith)
    at h (inr first) = (0, omega arith, omega arith)

least_there : (ws : List ℤ) → 0 < length ws → (k : ℕ) × (k < length ws) × (unsigned_abs (word_at ws k) ≡ least_size ws)
least_there [] some = absurd (omega arith)
least_there (w ∷ []) some = (0, omega arith, refl)
least_there (w ∷ v ∷ vs) some = at (least_there (v ∷ vs) (omega arith)) (cases_lt (least_size (v ∷ vs)) (unsigned_abs w))
  where
    at : (k : ℕ) × (k < length (v ∷ vs)) × (unsigned_abs (word_at (v ∷ vs) k) ≡ least_size (v ∷ vs)) → (least_size (v ∷ vs) < unsigned_abs w) ⊎ (unsigned_abs w ≤ least_size (v ∷ vs))
        → (k : ℕ) × (k < length (w ∷ v ∷ vs)) × (unsigned_abs (word_at (w ∷ v ∷ vs) k) ≡ least_size (w ∷ v ∷ vs))
    at h (inl after) = let lt = h.1 in let is = h.2 in (suc h.0, omega arith, omega arith)
    at h (inr first) = (0, omega arith, omega arith)

-- the first of a size that is there
pub record IsFirst (words : List ℤ) (n k : ℕ) : Type 0 where
  pub below : k < length words
  pub has : unsigned_abs (word_at words k) ≡ n
  pub before : (j : ℕ) → j < k → unsigned_abs (word_at words j) ≢ n

first_there : (words : List ℤ) (n k : ℕ) → k < length words → unsigned_abs (word_at words k) ≡ n → IsFirst words n (first_of_size n words)
first_there words n k lt has = record { below = below; has = tells _ (passes_at_first (λ w. unsigned_abs w == n) words (pos 0) below); before = λ j less same. clash (fails_before_first (λ w. unsigned_abs w == n) words j (pos 0) less) (equal j same) }
  where
    clash : {b : Bool} → b ≡ false → b ≡ true → ⊥
    clash e f = cc

    equal : (j : ℕ) → unsigned_abs (word_at words j) ≡ n → (unsigned_abs (word_at words j) == n) ≡ true
    equal j same = elim (eqb_tells (unsigned_abs (word_at words j)) n) [ inl is ↦ is.0 | inr other ↦ absurd (other.1 same) ]

    below : first_of_size n words < length words
    below = elim (cases_lt k (first_of_size n words)) [
      | inl less ↦ absurd (clash (fails_before_first (λ w. unsigned_abs w == n) words k (pos 0) less) (equal k has))
      | inr le ↦ omega arith
    ]

    tells : (m : ℕ) → (m == n) ≡ true → m ≡ n
    tells m e = elim (eqb_tells m n) [ inl is ↦ is.1 | inr other ↦ absurd (clash other.0 e) ]

pub greatest_of_is : (words : List ℤ) → 0 < length words → IsMaxFold words (greatest_of words)
unfolding greatest_of
greatest_of_is words some =
    let there = greatest_there words some in
    let first : IsFirst words (greatest_size words) (first_of_size (greatest_size words) words) = first_there words (greatest_size words) there.0 there.1 there.2 in
    record {
      place = first.below;
      value = refl;
      greatest = λ k lt. let most = up_to_greatest words k lt in let has = first.has in omega arith;
      first = λ k less. let most : unsigned_abs (word_at words k) ≤ greatest_size words = up_to_greatest words k (let lt = first.below in omega arith) in let ne = first.before k less in let has = first.has in omega arith;
    }

pub least_of_is : (words : List ℤ) → 0 < length words → IsMinFold words (least_of words)
unfolding least_of
least_of_is words some =
    let there = least_there words some in
    let first : IsFirst words (least_size words) (first_of_size (least_size words) words) = first_there words (least_size words) there.0 there.1 there.2 in
    record {
      place = first.below;
      value = refl;
      least = λ k lt. let most = from_least words k lt in let has = first.has in omega arith;
      first = λ k less. let most : least_size words ≤ unsigned_abs (word_at words k) = from_least words k (let lt = first.below in omega arith) in let ne = first.before k less in let has = first.has in omega arith;
    }

pub sum_iff : (words : List ℤ) (fold : Held) → IsSumFold words fold ↔ (fold.value ≡ sum_of words)
unfolding sum_of
sum_iff words fold = (λ f. f.value, λ is. record { value = is })

pub greatest_iff : (words : List ℤ) (fold : Held) → 0 < length words → IsMaxFold words fold ↔ (fold ≡ greatest_of words)
greatest_iff words fold some = (is_greatest_of words fold, λ same. let P : Held → Type 0 = λ h. IsMaxFold words h in subst P (sym same) (greatest_of_is words some))

pub least_iff : (words : List ℤ) (fold : Held) → 0 < length words → IsMinFold words fold ↔ (fold ≡ least_of words)
least_iff words fold some = (is_least_of words fold, λ same. let P : Held → Type 0 = λ h. IsMinFold words h in subst P (sym same) (least_of_is words some))
