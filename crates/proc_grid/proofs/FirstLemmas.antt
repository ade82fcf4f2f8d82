-- The first answer of numbered tests.
use Rattle.std.proofs.Common.{◌≡◌, ℕ, zero, suc, ◌+◌, ◌-◌, ◌<◌, Option, None, Some, ap, subst, ◌∙◌, refl, ◌⊎◌, inl, inr, arith}
use Rattle.std.specs.Option.{option_or}
use Rattle.proc_grid.specs.FirstOf.{first_of}

-- One more test that doesn't answer.
pub first_of-more : {A : Type 0} (f : ℕ → Option A) (n : ℕ) → first_of f n ≡ None → f n ≡ None → first_of f (suc n) ≡ None
unfolding first_of
first_of-more f n h e = ap (λ o. option_or o (f n)) h ∙ e

-- Where the tests before n don't answer and test n does, its answer is the first of any greater number of tests.
pub first_of-here : {A : Type 0} (f : ℕ → Option A) (n k : ℕ) (x : A) → first_of f n ≡ None → f n ≡ Some x → first_of f (suc n + k) ≡ Some x
unfolding first_of
first_of-here f n zero x h e = subst (λ m. first_of f m ≡ Some x) (let s : suc n ≡ suc n + 0 = omega arith in s) (ap (λ o. option_or o (f n)) h ∙ e)
first_of-here f n (suc k) x h e = subst (λ m. first_of f m ≡ Some x) (let s : suc (suc n + k) ≡ suc n + suc k = omega arith in s) (ap (λ o. option_or o (f (suc n + k))) (first_of-here f n k x h e))

pub first_of-at : {A : Type 0} (f : ℕ → Option A) (k n : ℕ) (x : A) → first_of f k ≡ None → f k ≡ Some x → k < n → first_of f n ≡ Some x
first_of-at f k n x h e l = subst (λ m. first_of f m ≡ Some x) (let s : suc k + (n - suc k) ≡ n = omega arith in s) (first_of-here f k (n - suc k) x h e)

-- Where none answers, each one doesn't.
pub first_of-each : {A : Type 0} (f : ℕ → Option A) (n k : ℕ) → first_of f n ≡ None → k < n → f k ≡ None
unfolding first_of
first_of-each f zero k h l = absurd (omega arith)
first_of-each f (suc n) k h l = let w = split (first_of f n) (f n) h in pick w.1 (λ low. first_of-each f n k w.0 low) (either k n l)
  where
    split : {A : Type 0} (o p : Option A) → option_or o p ≡ None → (o ≡ None) × (p ≡ None)
    split None p h = (refl, h)
    split (Some x) p h = cc

    either : (k n : ℕ) → k < suc n → (k < n) ⊎ (n ≡ k)
    either k n l = grind arith

    pick : f n ≡ None → (k < n → f k ≡ None) → (k < n) ⊎ (n ≡ k) → f k ≡ None
    pick here before (inl low) = before low
    pick here before (inr e) = subst (λ m. f m ≡ None) e here
