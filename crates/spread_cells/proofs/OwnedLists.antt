-- Lists of owned indices, process by process.
use Rattle.std.proofs.Common.{◌≡◌, ℕ, zero, suc, ◌+◌, ◌^◌, ◌<◌, ◌≤◌, List, [], ◌∷◌, ◌++◌, length, get_or, sym, ap, ◌∙◌, arith}
use Rattle.std.specs.Prelude.{map}
use Rattle.std.specs.Global.{Vec}
use Rattle.std.specs.List.{range_with_len}
use Rattle.std.proofs.lemmas.List.{map-append, length-map}
use Rattle.std.proofs.lemmas.List.FromFn.{map-range_with_len_more, length-map-range_with_len, get_or-map-range_with_len}
use Rattle.index_tools.specs.Spread.{Spread}
use Rattle.index_tools.proofs.HomeLemmas.{below_le}
use Rattle.spread_cells.specs.Spreading.{owned}
use Rattle.spread_cells.specs.Owned.{lists_of, owned_by}
use Rattle.spread_cells.proofs.OwnedLemmas.{length-owned}

-- a list that grows by what the next index gives
pub grown : {X : Type 0} (view : X → List ℕ) (f : ℕ → List ℕ) (xs : List X) (x : X) (k : ℕ) → map view xs ≡ map f (range_with_len 0 k) → view x ≡ f k → map view (xs ++ x ∷ []) ≡ map f (range_with_len 0 (k + 1))
grown view f xs x k before is =
    map-append view xs (x ∷ []) ∙ ap (λ (l : List (List ℕ)). l ++ view x ∷ []) before ∙ ap (λ (t : List ℕ). map f (range_with_len 0 k) ++ t ∷ []) is ∙ sym (map-range_with_len_more f 0 k k (omega arith))

pub lists_more : (s : Spread) (n k : ℕ) (vs : List (Vec ℕ)) (v : Vec ℕ) → lists_of vs ≡ owned_by s n k → v.items ≡ owned s k n → lists_of (vs ++ v ∷ []) ≡ owned_by s n (k + 1)
lists_more s n k vs v before is = grown (λ (w : Vec ℕ). w.items) (λ process. owned s process n) vs v k before is

-- as many as there were indices
pub length_by : {X : Type 0} (view : X → List ℕ) (f : ℕ → List ℕ) (xs : List X) (n : ℕ) → map view xs ≡ map f (range_with_len 0 n) → length xs ≡ n
length_by view f xs n e = sym (length-map xs view) ∙ ap length e ∙ length-map-range_with_len f 0 n

pub lists_length : (s : Spread) (n processes : ℕ) (vs : List (Vec ℕ)) → lists_of vs ≡ owned_by s n processes → length vs ≡ processes
lists_length s n processes vs e = length_by (λ (w : Vec ℕ). w.items) (λ process. owned s process n) vs processes e

pub list_is : (s : Spread) (n processes i : ℕ) (lists : List (List ℕ)) → lists ≡ owned_by s n processes → i < processes → get_or lists i [] ≡ owned s i n
list_is s n processes i lists e lt = ap (λ (l : List (List ℕ)). get_or l i []) e ∙ get_or-map-range_with_len (λ process. owned s process n) 0 processes i i [] lt (omega arith)

-- such a list is no longer than there are indices
pub list_fits : (s : Spread) (n processes i : ℕ) (lists : List (List ℕ)) → lists ≡ owned_by s n processes → i < processes → n ≤ 2 ^ 24 → length (get_or lists i []) ≤ 2 ^ 24
list_fits s n processes i lists e lt fits = omega (arith, ap length (list_is s n processes i lists e lt), length-owned s i n, below_le s i n)
