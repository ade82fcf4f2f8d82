-- Lists by place.
use Rattle.std.proofs.Common.{◌≡◌, ◌≢◌, ℕ, zero, suc, ◌<◌, ◌≤◌, Some, None, ◌⊎◌, inl, inr, List, [], ◌∷◌, ◌++◌, length, slice_get, set, take, drop, sym, refl, ap, ◌∙◌, arith}

pub get_append : {X : Type 0} (xs ys : List X) (k : ℕ) (x : X) → slice_get xs k ≡ Some x → slice_get (xs ++ ys) k ≡ Some x
get_append [] ys k x e = cc
get_append (y ∷ xs) ys zero x e = e
get_append (y ∷ xs) ys (suc k) x e = get_append xs ys k x e

pub get_end : {X : Type 0} (xs : List X) (x : X) → slice_get (xs ++ x ∷ []) (length xs) ≡ Some x
get_end [] x = refl
get_end (y ∷ xs) x = get_end xs x

pub get_set_same : {X : Type 0} (xs : List X) (k : ℕ) (x v : X) → slice_get xs k ≡ Some x → slice_get (set xs k v) k ≡ Some v
get_set_same [] k x v e = cc
get_set_same (y ∷ xs) zero x v e = refl
get_set_same (y ∷ xs) (suc k) x v e = get_set_same xs k x v e

pub get_set_other : {X : Type 0} (xs : List X) (k j : ℕ) (v : X) → j ≢ k → slice_get (set xs k v) j ≡ slice_get xs j
get_set_other [] k j v ne = refl
get_set_other (y ∷ xs) zero zero v ne = absurd (ne refl)
get_set_other (y ∷ xs) zero (suc j) v ne = refl
get_set_other (y ∷ xs) (suc k) zero v ne = refl
get_set_other (y ∷ xs) (suc k) (suc j) v ne = get_set_other xs k j v (λ e. ne (ap suc e))

-- a write at a place changes only that place
pub get_set : {X : Type 0} (xs : List X) (k j : ℕ) (v : X) → (slice_get (set xs k v) j ≡ slice_get xs j) ⊎ ((j ≡ k) × (slice_get (set xs k v) j ≡ Some v))
get_set [] k j v = inl refl
get_set (y ∷ xs) zero zero v = inr (refl, refl)
get_set (y ∷ xs) zero (suc j) v = inl refl
get_set (y ∷ xs) (suc k) zero v = inl refl
get_set (y ∷ xs) (suc k) (suc j) v = elim (get_set xs k j v) [ inl h ↦ inl h | inr h ↦ inr (ap suc h.0, h.1) ]

pub set_same : {X : Type 0} (xs : List X) (k : ℕ) (x : X) → slice_get xs k ≡ Some x → set xs k x ≡ xs
set_same [] k x e = refl
set_same (y ∷ xs) zero x e = let h : y ≡ x = cc in ap (λ z. z ∷ xs) (sym h)
set_same (y ∷ xs) (suc k) x e = ap (λ l. y ∷ l) (set_same xs k x e)

pub within_get : {X : Type 0} (xs : List X) (k : ℕ) (x : X) → slice_get xs k ≡ Some x → k < length xs
within_get [] k x e = cc
within_get (y ∷ xs) zero x e = omega arith
within_get (y ∷ xs) (suc k) x e = let h = within_get xs k x e in omega (arith, h)

pub get_within : {X : Type 0} (xs : List X) (k : ℕ) → k < length xs → (x : X) × (slice_get xs k ≡ Some x)
get_within [] k h = absurd (omega arith)
get_within (y ∷ xs) zero h = (y, refl)
get_within (y ∷ xs) (suc k) h = get_within xs k (omega arith)

pub get_past : {X : Type 0} (xs : List X) (k : ℕ) → slice_get xs k ≡ None → length xs ≤ k
get_past [] k e = omega arith
get_past (y ∷ xs) zero e = cc
get_past (y ∷ xs) (suc k) e = let h = get_past xs k e in omega (arith, h)

pub drop_at : {X : Type 0} (xs : List X) (k : ℕ) (x : X) → slice_get xs k ≡ Some x → drop k xs ≡ x ∷ drop (suc k) xs
drop_at [] k x e = cc
drop_at (y ∷ xs) zero x e = let h : y ≡ x = cc in ap (λ z. z ∷ xs) h
drop_at (y ∷ xs) (suc k) x e = drop_at xs k x e

pub take_at : {X : Type 0} (xs : List X) (k : ℕ) (x : X) → slice_get xs k ≡ Some x → take (suc k) xs ≡ take k xs ++ x ∷ []
take_at [] k x e = cc
take_at (y ∷ xs) zero x e = let h : y ≡ x = cc in ap (λ z. z ∷ []) h
take_at (y ∷ xs) (suc k) x e = ap (λ l. y ∷ l) (take_at xs k x e)

-- what is at a place of a front is at that place of the whole
pub get_take : {X : Type 0} (xs : List X) (n k : ℕ) (x : X) → slice_get (take n xs) k ≡ Some x → (slice_get xs k ≡ Some x) × (k < n)
get_take [] zero k x e = cc
get_take [] (suc n) k x e = cc
get_take (y ∷ xs) zero k x e = cc
get_take (y ∷ xs) (suc n) zero x e = (e, omega arith)
get_take (y ∷ xs) (suc n) (suc k) x e = let h = get_take xs n k x e in (h.0, omega (arith, h.1))

pub length_take : {X : Type 0} (xs : List X) (n : ℕ) → n ≤ length xs → length (take n xs) ≡ n
length_take [] zero h = refl
length_take [] (suc n) h = absurd (omega arith)
length_take (y ∷ xs) zero h = refl
length_take (y ∷ xs) (suc n) h = ap suc (length_take xs n (omega arith))

-- lists that agree at each place are the same
pub same_places : {X : Type 0} (xs ys : List X) → ((k : ℕ) → slice_get xs k ≡ slice_get ys k) → xs ≡ ys
same_places [] [] h = refl
same_places [] (y ∷ ys) h = let e = h 0 in cc
same_places (x ∷ xs) [] h = let e = h 0 in cc
same_places (x ∷ xs) (y ∷ ys) h = let e : Some x ≡ Some y = h 0 in let head : x ≡ y = cc in ap (λ z. z ∷ xs) head ∙ ap (λ l. y ∷ l) (same_places xs ys (λ k. h (suc k)))
