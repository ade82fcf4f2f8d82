-- Indices that are pushed one by one.
use Rattle.std.proofs.Common.{◌≡◌, ℕ, zero, suc, Bool, true, false, cond, nat_eq, ◌+◌, ◌<◌, ◌≤◌, List, [], ◌∷◌, ◌++◌, length, get_or, refl, sym, ap, subst, ◌∙◌, append-nil, arith, inl, inr}
use Rattle.std.proofs.lemmas.List.{get_or_append_left, length-append, ext_get_or}
use Rattle.std.proofs.lemmas.Bool.{cases_lt, eqb-true}
use Rattle.std.specs.Prelude.{◌⊎◌}
use Rattle.index_tools.specs.Spread.{Spread, owner, below, IsIndexAt}
use Rattle.index_tools.proofs.HomeLemmas.{same_index}
use Rattle.spread_cells.specs.Spreading.{owned}
use Rattle.spread_cells.specs.Owned.{AreOwned}

last_of : (xs : List ℕ) (x : ℕ) → get_or (xs ++ x ∷ []) (length xs) 0 ≡ x
last_of [] x = refl
last_of (y ∷ xs) x = last_of xs x

-- the next index after those that are there
pub owned_more : (s : Spread) (process : ℕ) (xs : List ℕ) (x : ℕ) → AreOwned s process xs → IsIndexAt s process (length xs) x → AreOwned s process (xs ++ x ∷ [])
owned_more s process xs x before now = λ k lt. at k (cases_lt k (length xs)) lt
  where
    P : ℕ → ℕ → Type 0
    P k v = IsIndexAt s process k v

    at : (k : ℕ) → (k < length xs) ⊎ (length xs ≤ k) → k < length (xs ++ x ∷ []) → IsIndexAt s process k (get_or (xs ++ x ∷ []) k 0)
    at k (inl low) lt = let Q : ℕ → Type 0 = P k in subst Q (sym (get_or_append_left xs (x ∷ []) 0 k low)) (before k low)
    at k (inr high) lt =
        let here : length xs ≡ k = omega (arith, length-append xs (x ∷ [])) in
        let R : ℕ → Type 0 = λ n. IsIndexAt s process n (get_or (xs ++ x ∷ []) n 0) in
        let Q : ℕ → Type 0 = P (length xs) in
        subst R here (subst Q (sym (last_of xs x)) now)

-- ---- a list of owned indices is the list of all of them

length_step : (b : Bool) (n : ℕ) (xs : List ℕ) (m : ℕ) → length xs ≡ m → length (xs ++ cond b (n ∷ []) []) ≡ m + cond b 1 0
length_step true n xs m e = length-append xs (n ∷ []) ∙ ap (λ k. k + 1) e
length_step false n xs m e = length-append xs [] ∙ ap (λ k. k + 0) e

pub length-owned : (s : Spread) (process n : ℕ) → length (owned s process n) ≡ below s process n
unfolding owned below
length-owned s process zero = refl
length-owned s process (suc n) = length_step (nat_eq (owner s n) process) n (owned s process n) (below s process n) (length-owned s process n)

owned_step : (s : Spread) (process n : ℕ) (b : Bool) → nat_eq (owner s n) process ≡ b → AreOwned s process (owned s process n) → AreOwned s process (owned s process n ++ cond b (n ∷ []) [])
owned_step s process n true e before =
    owned_more s process (owned s process n) n before (record { owned = eqb-true (owner s n) process e; counted = sym (length-owned s process n) })
owned_step s process n false e before = let P : List ℕ → Type 0 = AreOwned s process in subst P (sym (append-nil (owned s process n))) before

pub owned_are : (s : Spread) (process n : ℕ) → AreOwned s process (owned s process n)
unfolding owned
owned_are s process zero = λ k lt. absurd (omega arith)
owned_are s process (suc n) = owned_step s process n (nat_eq (owner s n) process) refl (owned_are s process n)

-- Owned indices in this number are all of them.
pub owned_all : (s : Spread) (process n : ℕ) (xs : List ℕ) → length xs ≡ below s process n → AreOwned s process xs → xs ≡ owned s process n
owned_all s process n xs count are =
    let same : length xs ≡ length (owned s process n) = count ∙ sym (length-owned s process n) in
    ext_get_or 0 xs (owned s process n) same (λ k lt. same_index s process k (get_or xs k 0) (get_or (owned s process n) k 0) (are k lt) (owned_are s process n k (omega arith)))
