-- The sum of a matrix is that of its pieces.
use Rattle.std.specs.Prelude.{◌≡◌, ℕ, zero, suc, ◌+◌, ◌*◌, ◌/◌, ◌%◌, ◌<◌, ◌≤◌, max, Bool, true, false, cond, nat_eq, ℤ, pos, ◌+ℤ◌, List, [], ◌∷◌, ◌++◌, length, Option, Some, None, map, slice_get, slice_index_or, ◌⊎◌}
use Rattle.std.specs.List.{range_with_len}
use Rattle.std.proofs.Common.{sym, ap, ap₂, ◌∙◌, refl, arith, inl, inr}
use Rattle.std.proofs.Math.IntN.{+ℤ_idl, +ℤ_idr, +ℤ_assoc, +ℤ_comm}
use Rattle.std.proofs.Math.Nat.{mod-lt}
use Rattle.std.proofs.lemmas.Nat.{div-mul-add, mod-mul-add, div-add-mod'}
use Rattle.std.proofs.lemmas.List.{map-append, nil_from_length}
use Rattle.std.proofs.lemmas.Bool.{eqb-true, eqb-false, cases_lt}
use Rattle.std.proofs.lemmas.List.FromFn.{map-range_with_len_more, fill_by_all}
use Rattle.fold_ops.specs.Fold.{total}
use Rattle.index_tools.specs.Spread.{Spread, owner}
use Rattle.index_tools.specs.Home.{Layout, row_spread, column_spread}
use Rattle.mm_grammar.specs.Matrix.{Matrix}
use Rattle.spread_cells.specs.Spreading.{element, owned, element_at, word_at, array_of, piece_cells}

-- ---- sums over lists

abbrev pub sum_by : {X : Type 0} → (X → ℤ) → List X → ℤ
sum_by f xs = total (map f xs)

pub total-append : (xs ys : List ℤ) → total (xs ++ ys) ≡ total xs +ℤ total ys
total-append [] ys = sym (+ℤ_idl (total ys))
total-append (x ∷ xs) ys = ap (λ (t : ℤ). x +ℤ t) (total-append xs ys) ∙ sym (+ℤ_assoc x (total xs) (total ys))

sum-append : {X : Type 0} (f : X → ℤ) (xs ys : List X) → sum_by f (xs ++ ys) ≡ sum_by f xs +ℤ sum_by f ys
sum-append f xs ys = ap total (map-append f xs ys) ∙ total-append (map f xs) (map f ys)

sum_same : {X : Type 0} (f g : X → ℤ) (xs : List X) → ((x : X) → f x ≡ g x) → sum_by f xs ≡ sum_by g xs
sum_same f g [] e = refl
sum_same f g (x ∷ xs) e = ap₂ (λ (a b : ℤ). a +ℤ b) (e x) (sum_same f g xs e)

no_sum : {X : Type 0} (xs : List X) → sum_by (λ (x : X). pos 0) xs ≡ pos 0
no_sum [] = refl
no_sum (x ∷ xs) = +ℤ_idl (sum_by (λ x. pos 0) xs) ∙ no_sum xs

four : (a b c d : ℤ) → (a +ℤ b) +ℤ (c +ℤ d) ≡ (a +ℤ c) +ℤ (b +ℤ d)
four a b c d =
    +ℤ_assoc a b (c +ℤ d)
    ∙ ap (λ (t : ℤ). a +ℤ t) (sym (+ℤ_assoc b c d) ∙ ap (λ (t : ℤ). t +ℤ d) (+ℤ_comm b c) ∙ +ℤ_assoc c b d)
    ∙ sym (+ℤ_assoc a c (b +ℤ d))

sum_plus : {X : Type 0} (f g : X → ℤ) (xs : List X) → sum_by (λ (x : X). f x +ℤ g x) xs ≡ sum_by f xs +ℤ sum_by g xs
sum_plus f g [] = sym (+ℤ_idl (pos 0))
sum_plus f g (x ∷ xs) = ap (λ (t : ℤ). (f x +ℤ g x) +ℤ t) (sum_plus f g xs) ∙ four (f x) (g x) (sum_by f xs) (sum_by g xs)

exchange : {X Y : Type 0} (f : X → Y → ℤ) (xs : List X) (ys : List Y) → sum_by (λ (x : X). sum_by (f x) ys) xs ≡ sum_by (λ (y : Y). sum_by (λ (x : X). f x y) xs) ys
exchange f [] ys = sym (no_sum ys)
exchange f (x ∷ xs) ys = ap (λ (t : ℤ). sum_by (f x) ys +ℤ t) (exchange f xs ys) ∙ sym (sum_plus (f x) (λ y. sum_by (λ x'. f x' y) xs) ys)

-- ---- sums over numbers

sum_along : (f g : ℕ → ℤ) (a n : ℕ) → ((k : ℕ) → k < a + n → f k ≡ g k) → sum_by f (range_with_len a n) ≡ sum_by g (range_with_len a n)
sum_along f g a zero e = refl
sum_along f g a (suc n) e = ap₂ (λ (x y : ℤ). x +ℤ y) (e a (omega arith)) (sum_along f g (a + 1) n (λ k lt. e k (omega (arith, lt))))

-- one more at the end
pub sum_next : (f : ℕ → ℤ) (n : ℕ) → sum_by f (range_with_len 0 (n + 1)) ≡ sum_by f (range_with_len 0 n) +ℤ f n
sum_next f n =
    ap total (map-range_with_len_more f 0 n n (omega arith)) ∙ total-append (map f (range_with_len 0 n)) (f n ∷ []) ∙ ap (λ (t : ℤ). sum_by f (range_with_len 0 n) +ℤ t) (+ℤ_idr (f n))

-- so many after the first ones
sum_behind : (f : ℕ → ℤ) (a n : ℕ) → sum_by f (range_with_len 0 (a + n)) ≡ sum_by f (range_with_len 0 a) +ℤ sum_by (λ k. f (a + k)) (range_with_len 0 n)
sum_behind f a zero = (let e : a + 0 ≡ a = omega arith in ap (λ n. sum_by f (range_with_len 0 n)) e) ∙ sym (+ℤ_idr (sum_by f (range_with_len 0 a)))
sum_behind f a (suc n) =
    let e : a + suc n ≡ a + n + 1 = omega arith in
    let e' : n + 1 ≡ suc n = omega arith in
    ap (λ n. sum_by f (range_with_len 0 n)) e
    ∙ sum_next f (a + n)
    ∙ ap (λ (t : ℤ). t +ℤ f (a + n)) (sum_behind f a n)
    ∙ +ℤ_assoc (sum_by f (range_with_len 0 a)) (sum_by (λ k. f (a + k)) (range_with_len 0 n)) (f (a + n))
    ∙ ap (λ (t : ℤ). sum_by f (range_with_len 0 a) +ℤ t) (sym (sum_next (λ k. f (a + k)) n) ∙ ap (λ n. sum_by (λ k. f (a + k)) (range_with_len 0 n)) e')

-- row by row
by_rows : (g : ℕ → ℕ → ℤ) (r c : ℕ) → 0 < c → sum_by (λ k. g (k / c) (k % c)) (range_with_len 0 (r * c)) ≡ sum_by (λ p. sum_by (g p) (range_with_len 0 c)) (range_with_len 0 r)
by_rows g zero c some = let e : 0 * c ≡ 0 = omega arith in ap (λ n. sum_by (λ k. g (k / c) (k % c)) (range_with_len 0 n)) e
by_rows g (suc r) c some =
    let f : ℕ → ℤ = λ k. g (k / c) (k % c) in
    let e : suc r * c ≡ r * c + c = omega arith in
    let e' : r + 1 ≡ suc r = omega arith in
    ap (λ n. sum_by f (range_with_len 0 n)) e
    ∙ sum_behind f (r * c) c
    ∙ ap₂ (λ (x y : ℤ). x +ℤ y) (by_rows g r c some)
    (sum_along (λ k. f (r * c + k)) (g r) 0 c (λ k lt. ap₂ g (div-mul-add r c k (omega (arith, lt))) (mod-mul-add r c k (omega (arith, lt)))))
    ∙ sym (sum_next (λ p. sum_by (g p) (range_with_len 0 c)) r)
    ∙ ap (λ n. sum_by (λ p. sum_by (g p) (range_with_len 0 c)) (range_with_len 0 n)) e'

-- ---- each index is owned once

-- the list of one item or of none
sum_if : (f : ℕ → ℤ) (b : Bool) (x : ℕ) → sum_by f (cond b (x ∷ []) []) ≡ cond b (f x) (pos 0)
sum_if f true x = +ℤ_idr (f x)
sum_if f false x = refl

nobody : (a n k : ℕ) (v : ℤ) → k + n ≤ a → sum_by (λ p. cond (nat_eq a p) v (pos 0)) (range_with_len k n) ≡ pos 0
nobody a zero k v le = refl
nobody a (suc n) k v le = at (nat_eq a k) refl (nobody a n (k + 1) v (omega (arith, le)))
  where
    at : (b : Bool) → nat_eq a k ≡ b → sum_by (λ p. cond (nat_eq a p) v (pos 0)) (range_with_len (k + 1) n) ≡ pos 0 → cond b v (pos 0) +ℤ sum_by (λ p. cond (nat_eq a p) v (pos 0)) (range_with_len (k + 1) n) ≡ pos 0
    at true e rest = let same = eqb-true a k e in absurd (omega (arith, same, le))
    at false e rest = +ℤ_idl (sum_by (λ p. cond (nat_eq a p) v (pos 0)) (range_with_len (k + 1) n)) ∙ rest

one_of : (a n : ℕ) (v : ℤ) → a < n → sum_by (λ p. cond (nat_eq a p) v (pos 0)) (range_with_len 0 n) ≡ v
one_of a zero v lt = absurd (omega arith)
one_of a (suc n) v lt =
    let e : suc n ≡ n + 1 = omega arith in
    ap (λ n. sum_by (λ p. cond (nat_eq a p) v (pos 0)) (range_with_len 0 n)) e ∙ sum_next (λ p. cond (nat_eq a p) v (pos 0)) n ∙ at (nat_eq a n) refl (λ low. one_of a n v low)
  where
    at : (b : Bool) → nat_eq a n ≡ b → (a < n → sum_by (λ p. cond (nat_eq a p) v (pos 0)) (range_with_len 0 n) ≡ v) → sum_by (λ p. cond (nat_eq a p) v (pos 0)) (range_with_len 0 n) +ℤ cond b v (pos 0) ≡ v
    at true e rest = let same = eqb-true a n e in ap (λ (t : ℤ). t +ℤ v) (nobody a n 0 v (omega (arith, same))) ∙ +ℤ_idl v
    at false e rest = let other = eqb-false a n e in +ℤ_idr (sum_by (λ p. cond (nat_eq a p) v (pos 0)) (range_with_len 0 n)) ∙ rest (below_it (cases_lt a n) other)
      where
        below_it : (a < n) ⊎ (n ≤ a) → (a ≡ n → ⊥) → a < n
        below_it (inl low) other = low
        below_it (inr high) other = absurd (other (omega (arith, high, lt)))

-- the indices that the processes own, added up process by process
owned_once : (s : Spread) (f : ℕ → ℤ) (n : ℕ) → 0 < s.processes → sum_by (λ p. sum_by f (owned s p n)) (range_with_len 0 s.processes) ≡ sum_by f (range_with_len 0 n)
unfolding owned
owned_once s f zero some = no_sum (range_with_len 0 s.processes)
owned_once s f (suc n) some =
    let e : n + 1 ≡ suc n = omega arith in
    sum_same (λ p. sum_by f (owned s p n ++ cond (nat_eq (owner s n) p) (n ∷ []) [])) (λ p. sum_by f (owned s p n) +ℤ cond (nat_eq (owner s n) p) (f n) (pos 0)) (range_with_len 0 s.processes)
    (λ p. sum-append f (owned s p n) (cond (nat_eq (owner s n) p) (n ∷ []) []) ∙ ap (λ (t : ℤ). sum_by f (owned s p n) +ℤ t) (sum_if f (nat_eq (owner s n) p) n))
    ∙ sum_plus (λ p. sum_by f (owned s p n)) (λ p. cond (nat_eq (owner s n) p) (f n) (pos 0)) (range_with_len 0 s.processes)
    ∙ ap₂ (λ (x y : ℤ). x +ℤ y) (owned_once s f n some) (one_of (owner s n) s.processes (f n) (mod-lt (s.first + n / s.block) some))
    ∙ sym (sum_next f n)
    ∙ ap (λ n. sum_by f (range_with_len 0 n)) e

-- ---- a piece

-- the items of a list one by one; where there are none, one that isn't there
items : {X : Type 0} (h : Option X → ℤ) (xs : List X) → sum_by (λ k. h (slice_get xs k)) (range_with_len 0 (length xs)) ≡ sum_by (λ (x : X). h (Some x)) xs
items h [] = refl
items h (x ∷ xs) =
    let e : length (x ∷ xs) ≡ 1 + length xs = omega arith in
    ap (λ n. sum_by (λ k. h (slice_get (x ∷ xs) k)) (range_with_len 0 n)) e
    ∙ sum_behind (λ k. h (slice_get (x ∷ xs) k)) 1 (length xs)
    ∙ ap₂ (λ (a b : ℤ). a +ℤ b) (+ℤ_idr (h (Some x))) (sum_same (λ k. h (slice_get (x ∷ xs) (1 + k))) (λ k. h (slice_get xs k)) (range_with_len 0 (length xs)) (λ k. ap (λ n. h (slice_get (x ∷ xs) n)) (let e : 1 + k ≡ suc k = omega arith in e)) ∙ items h xs)

one_at_least : {X : Type 0} (h : Option X → ℤ) (xs : List X) → h None ≡ pos 0 → sum_by (λ k. h (slice_get xs k)) (range_with_len 0 (max 1 (length xs))) ≡ sum_by (λ (x : X). h (Some x)) xs
one_at_least h [] none = +ℤ_idr (h None) ∙ none
one_at_least h (x ∷ xs) none = let e : max 1 (length (x ∷ xs)) ≡ length (x ∷ xs) = grind arith in ap (λ n. sum_by (λ k. h (slice_get (x ∷ xs) k)) (range_with_len 0 n)) e ∙ items h (x ∷ xs)

-- the sum of the elements in these rows and columns
abbrev sum_over : Matrix → (rows columns : List ℕ) → ℤ
sum_over m rows columns = sum_by (λ j. sum_by (λ i. element m i j) rows) columns

some_at_least : (n : ℕ) → 0 < max 1 n
some_at_least n = grind arith

piece_sum : (m : Matrix) (rows columns : List ℕ) → total (array_of m rows columns).values ≡ sum_over m rows columns
piece_sum m rows columns =
    let r : ℕ = max 1 (length rows) in
    let c : ℕ = max 1 (length columns) in
    let g : ℕ → ℕ → ℤ = λ b a. element_at m (slice_get rows a) (slice_get columns b) in
    let e : r * c ≡ c * r = grind arith in
    ap (λ n. sum_by (word_at m rows columns) (range_with_len 0 n)) e
    ∙ by_rows g c r (some_at_least (length rows))
    ∙ one_at_least (λ o. sum_by (λ a. element_at m (slice_get rows a) o) (range_with_len 0 r)) columns (nothing_there (range_with_len 0 r))
    ∙ sum_same (λ j. sum_by (λ a. element_at m (slice_get rows a) (Some j)) (range_with_len 0 r)) (λ j. sum_by (λ i. element m i j) rows) columns (λ j. one_at_least (λ o. element_at m o (Some j)) rows refl)
  where
    no_element : (m : Matrix) (o : Option ℕ) → element_at m o None ≡ pos 0
    no_element m (Some i) = refl
    no_element m None = refl

    nothing_there : (ks : List ℕ) → sum_by (λ a. element_at m (slice_get rows a) None) ks ≡ pos 0
    nothing_there ks = sum_same (λ a. element_at m (slice_get rows a) None) (λ a. pos 0) ks (λ a. no_element m (slice_get rows a)) ∙ no_sum ks

-- ---- the whole matrix

no_places : (n c : ℕ) → n ≡ 0 * c → n ≡ 0
no_places n c e = omega (arith, e)

whole_sum : (m : Matrix) (r : ℕ) → m.rows ≡ r → length m.values ≡ r * m.columns → total m.values ≡ sum_over m (range_with_len 0 r) (range_with_len 0 m.columns)
whole_sum m zero rows count = ap total (nil_from_length m.values (no_places (length m.values) m.columns count)) ∙ sym (no_sum (range_with_len 0 m.columns))
whole_sum m (suc r) rows count =
    let n : ℕ = suc r in
    let g : ℕ → ℕ → ℤ = λ j i. element m i j in
    let e : n * m.columns ≡ m.columns * n = grind arith in
    ap total (fill_by_all (λ k. slice_index_or m.values k (pos 0)) m.values (m.columns * n) (pos 0) (count ∙ e) (λ k lt. refl))
    ∙ sum_same (λ k. slice_index_or m.values k (pos 0)) (λ k. g (k / n) (k % n)) (range_with_len 0 (m.columns * n)) (λ k. ap (λ p. slice_index_or m.values p (pos 0)) (sym (div-add-mod' k n)) ∙ ap (λ q. slice_index_or m.values (k / n * q + k % n) (pos 0)) (sym rows))
    ∙ by_rows g m.columns n (omega arith)

-- The sum of a matrix is the sum over all pieces of the sums of their words.
pub pieces_sum : (m : Matrix) (l : Layout) → m.rows ≡ l.rows → m.columns ≡ l.columns → length m.values ≡ m.rows * m.columns → 0 < l.nprow → 0 < l.npcol
    → sum_by (λ k. total (piece_cells m l (k / l.npcol) (k % l.npcol)).values) (range_with_len 0 (l.nprow * l.npcol)) ≡ total m.values
pieces_sum m l rows columns count some some' =
    let mine : ℕ → List ℕ = λ p. owned (row_spread l) p l.rows in
    let across : ℕ → List ℕ = λ q. owned (column_spread l) q l.columns in
    let down : ℕ → ℕ → ℤ = λ p j. sum_by (λ i. element m i j) (mine p) in
    let all : List ℕ = range_with_len 0 l.columns in
    by_rows (λ p q. total (piece_cells m l p q).values) l.nprow l.npcol some'
    ∙ sum_same (λ p. sum_by (λ q. total (piece_cells m l p q).values) (range_with_len 0 l.npcol)) (λ p. sum_by (down p) all) (range_with_len 0 l.nprow)
    (λ p. sum_same (λ q. total (piece_cells m l p q).values) (λ q. sum_by (down p) (across q)) (range_with_len 0 l.npcol) (λ q. piece_sum m (mine p) (across q)) ∙ owned_once (column_spread l) (down p) l.columns some')
    ∙ exchange down (range_with_len 0 l.nprow) all
    ∙ sum_same (λ j. sum_by (λ p. down p j) (range_with_len 0 l.nprow)) (λ j. sum_by (λ i. element m i j) (range_with_len 0 l.rows)) all (λ j. owned_once (row_spread l) (λ i. element m i j) l.rows some)
    ∙ ap₂ (λ r c. sum_over m (range_with_len 0 r) (range_with_len 0 c)) (sym rows) (sym columns)
    ∙ sym (whole_sum m m.rows refl count)
