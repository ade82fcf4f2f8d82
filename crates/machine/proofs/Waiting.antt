-- What is sent and taken where ranks have done more.
use Rattle.std.proofs.Common.{◌≡◌, ℕ, zero, suc, ◌≤◌, Some, List, [], ◌∷◌, ◌++◌, slice_get, take, drop, sym, refl, ap, ◌∙◌, arith, inl, inr}
use Rattle.std.proofs.lemmas.Bool.Decides.{eqb_tells}
use Rattle.machine.specs.declared.kind.Kind.{Kind}
use Rattle.machine.specs.declared.kind.Kind.TheVariants.{Send, Recv, Local}
use Rattle.machine.specs.Queues.{lens_with, lens_to, takes_from}
use Rattle.machine.proofs.Lists.{get_append}

-- more operations send the same messages, and then perhaps more
pub with_more : (k : Kind) (j : ℕ) (xs ys zs : List ℕ) → xs ≡ ys ++ zs → lens_with k j xs ≡ lens_with k j ys ++ zs
with_more (Send to len) j xs ys zs e = elim (eqb_tells to j) [ inl h ↦ rw h.0 (ap (λ l. len ∷ l) e) | inr h ↦ rw h.0 e ]
with_more (Recv from len) j xs ys zs e = e
with_more Local j xs ys zs e = e

pub sends_more : (j : ℕ) (ks : List Kind) (m n : ℕ) → m ≤ n → (more : List ℕ) × (lens_to j (take n ks) ≡ lens_to j (take m ks) ++ more)
sends_more j [] zero zero h = ([], refl)
sends_more j [] zero (suc n) h = ([], refl)
sends_more j [] (suc m) zero h = ([], refl)
sends_more j [] (suc m) (suc n) h = ([], refl)
sends_more j (k ∷ ks) zero n h = (lens_to j (take n (k ∷ ks)), refl)
sends_more j (k ∷ ks) (suc m) zero h = absurd (omega arith)
sends_more j (k ∷ ks) (suc m) (suc n) h =
    let more = sends_more j ks m n (omega arith) in
    (more.0, with_more k j (lens_to j (take n ks)) (lens_to j (take m ks)) more.0 more.1)

pub takes_more : (i : ℕ) (ks : List Kind) (m n : ℕ) → m ≤ n → takes_from i (take m ks) ≤ takes_from i (take n ks)
takes_more i [] zero n h = omega arith
takes_more i [] (suc m) n h = omega arith
takes_more i (k ∷ ks) zero n h = omega arith
takes_more i (k ∷ ks) (suc m) zero h = absurd (omega arith)
takes_more i (k ∷ ks) (suc m) (suc n) h = let rest = takes_more i ks m n (omega arith) in omega (arith, rest)

-- the first that waits is the one after those that were taken
pub first_after : {X : Type 0} (n : ℕ) (xs : List X) → slice_get (drop n xs) 0 ≡ slice_get xs n
first_after zero xs = refl
first_after (suc n) [] = refl
first_after (suc n) (x ∷ xs) = first_after n xs

-- and it stays the first, whatever is sent after it
pub first_stays : (n : ℕ) (xs ys : List ℕ) (len : ℕ) → slice_get (drop n xs) 0 ≡ Some len → slice_get (drop n (xs ++ ys)) 0 ≡ Some len
first_stays n xs ys len e = first_after n (xs ++ ys) ∙ get_append xs ys n len (sym (first_after n xs) ∙ e)
