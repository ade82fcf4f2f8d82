-- What users of local arrays need: local indices keep the order, are distinct, and each is some index's.
use Rattle.std.proofs.Common.{◌≡◌, ℕ, zero, suc, ◌+◌, ◌-◌, ◌*◌, ◌/◌, ◌%◌, ◌<◌, ◌≤◌, Bool, true, false, cond, nat_eq, nat_lt, sym, ap, ◌∙◌, subst, refl, arith}
use Rattle.std.proofs.Math.Nat.{mod-lt}
use Rattle.std.proofs.lemmas.Nat.{div-mul-add, div-add-mod', mul-add-lt, same_from_place}
use Rattle.std.proofs.lemmas.Bool.Decides.{nat_tests}
use Rattle.index_tools.specs.Home.{Layout, IsLayout, HasRoom, Home, home, local_place, local_columns, row_spread, column_spread}
use Rattle.index_tools.specs.Spread.{Spread, owner, below, local, IsIndexAt}
use Rattle.index_tools.proofs.Counts.{distance, owns_block, below_closed}

-- No more indices are owned than there are.
pub below_le : (s : Spread) (p n : ℕ) → below s p n ≤ n
unfolding below
below_le s p zero = omega arith
below_le s p (suc n) = step (below s p n) n (nat_eq (owner s n) p) (below_le s p n)
  where
    step : (x n : ℕ) (c : Bool) → x ≤ n → x + cond c 1 0 ≤ suc n
    step x n true h = omega arith
    step x n false h = omega arith

-- One index more counts for its owner.
pub below_owned : (s : Spread) (p g : ℕ) → owner s g ≡ p → below s p (suc g) ≡ below s p g + 1
unfolding below
below_owned s p g e = ap (λ c. below s p g + cond c 1 0) (same (owner s g) p e)
  where
    same : (x p : ℕ) → x ≡ p → nat_eq x p ≡ true
    same x p e = grind (arith, nat_tests)

below_next : (s : Spread) (p n : ℕ) → below s p n ≤ below s p (suc n)
unfolding below
below_next s p n = grows (below s p n) _
  where
    grows : (x y : ℕ) → x ≤ x + y
    grows x y = omega arith

-- The count grows with the index.
below_after : (s : Spread) (p m k : ℕ) → below s p m ≤ below s p (m + k)
below_after s p m zero = let e : m ≡ m + 0 = omega arith in subst (λ n. below s p m ≤ below s p n) e (omega arith)
below_after s p m (suc k) =
    let e : suc (m + k) ≡ m + suc k = omega arith in
    let before : below s p m ≤ below s p (m + k) = below_after s p m k in
    let next : below s p (m + k) ≤ below s p (suc (m + k)) = below_next s p (m + k) in
    subst (λ n. below s p m ≤ below s p n) e (omega arith)

pub below_monotone : (s : Spread) (p m n : ℕ) → m ≤ n → below s p m ≤ below s p n
below_monotone s p m n h = let e : m + (n - m) ≡ n = omega arith in subst (λ k. below s p m ≤ below s p k) e (below_after s p m (n - m))

-- From an index that the process owns to a greater one the count grows.
pub below_rises : (s : Spread) (p g n : ℕ) → owner s g ≡ p → g < n → below s p g < below s p n
below_rises s p g n e h =
    let one : below s p (suc g) ≡ below s p g + 1 = below_owned s p g e in
    let more : below s p (suc g) ≤ below s p n = below_monotone s p (suc g) n h in
    omega arith

-- The local index is below the local size.
pub local_below : (s : Spread) (g n : ℕ) → g < n → local s g < below s (owner s g) n
local_below s g n h = below_rises s (owner s g) g n refl h

-- Two indices of one process with one local index are one.
pub same_index : (s : Spread) (p l g h : ℕ) → IsIndexAt s p l g → IsIndexAt s p l h → g ≡ h
same_index s p l g h a b = by_order g h (λ o. apart g h a b o) (λ o. apart h g b a o)
  where
    apart : (g h : ℕ) → IsIndexAt s p l g → IsIndexAt s p l h → g < h → ⊥
    apart g h a b o = let rise : below s p g < below s p h = below_rises s p g h a.owned o in let ca = a.counted in let cb = b.counted in omega arith

    by_order : (g h : ℕ) → (g < h → ⊥) → (h < g → ⊥) → g ≡ h
    by_order g h low high = grind arith

-- the index that has so many of the process's indices below it and is the process's own
abbrev pub index_at : Spread → ℕ → ℕ → ℕ
index_at s p l = (l / s.block * s.processes + distance s.first p s.processes) * s.block + l % s.block

pub index_at-is : (s : Spread) (p l : ℕ) → 0 < s.block → s.first < s.processes → p < s.processes → IsIndexAt s p l (index_at s p l)
index_at-is s p l hb hf hp =
    let d : ℕ = distance s.first p s.processes in
    let near : d < s.processes = mod-lt _ (omega arith) in
    let inside : l % s.block < s.block = mod-lt l hb in
    let block : index_at s p l / s.block ≡ l / s.block * s.processes + d = div-mul-add (l / s.block * s.processes + d) s.block (l % s.block) inside in
    record {
      owned = is_process _ p d (ap (λ b. nat_eq ((s.first + b) % s.processes) p) block ∙ owns_block s.first p s.processes (l / s.block) d hf hp near);
      counted = below_closed s p (l / s.block) d (l % s.block) hf hp near (omega arith) ∙ together (l / s.block) s.block d (l % s.block) l (div-add-mod' l s.block);
    }
  where
    is_process : (x p d : ℕ) → nat_eq x p ≡ nat_eq d d → x ≡ p
    is_process x p d e = grind (arith, nat_tests)

    together : (q b d t l : ℕ) → q * b + t ≡ l → q * b + cond (nat_lt d d) b 0 + cond (nat_eq d d) t 0 ≡ l
    together q b d t l e = grind (arith, nat_tests)

-- An index with fewer of the process's indices below it than there are below n is below n.
pub index_below : (s : Spread) (p l g n : ℕ) → IsIndexAt s p l g → l < below s p n → g < n
index_below s p l g n a h = by_order g n (λ o. apart o)
  where
    apart : n ≤ g → ⊥
    apart o = let m : below s p n ≤ below s p g = below_monotone s p n g o in let c = a.counted in omega arith

    by_order : (g n : ℕ) → (n ≤ g → ⊥) → g < n
    by_order g n f = grind arith

-- Every local index below the local size is that of an index below n.
pub index_at-below : (s : Spread) (p l n : ℕ) → 0 < s.block → s.first < s.processes → p < s.processes → l < below s p n → index_at s p l < n
index_at-below s p l n hb hf hp h = index_below s p l (index_at s p l) n (index_at-is s p l hb hf hp) h

-- The same for a number that is known to equal it.
pub index_at-same : (s : Spread) (p l g : ℕ) → 0 < s.block → s.first < s.processes → p < s.processes → g ≡ index_at s p l → IsIndexAt s p l g
index_at-same s p l g hb hf hp e = subst (λ n. IsIndexAt s p l n) (sym e) (index_at-is s p l hb hf hp)

-- An owner is one of the processes.
pub owner_below : (s : Spread) (i : ℕ) → 0 < s.processes → owner s i < s.processes
owner_below s i h = mod-lt _ h

-- In an array of a leading dimension of at least the local rows, a local element's place is in the array.
pub local_place-below : (lld li lj rows columns : ℕ) → li < rows → lj < columns → rows ≤ lld → local_place lld li lj < lld * columns
local_place-below lld li lj rows columns hi hj h = mul-add-lt lj lld li columns hj (omega arith)

-- The home of an element of the matrix is a place of its process's array.
pub home-inside : (m : Layout) (llds : ℕ → ℕ → ℕ) (i j : ℕ) → IsLayout m → HasRoom m llds → i < m.rows → j < m.columns
    → let h = home m llds i j in (h.row < m.nprow) × (h.column < m.npcol) × (h.place < llds h.row h.column * local_columns m h.column)
home-inside m llds i j w r hi hj =
    let p : owner (row_spread m) i < m.nprow = owner_below (row_spread m) i (let c = w.row_source in omega arith) in
    let q : owner (column_spread m) j < m.npcol = owner_below (column_spread m) j (let c = w.column_source in omega arith) in
    (p, q, local_place-below _ _ _ _ _ (local_below (row_spread m) i m.rows hi) (local_below (column_spread m) j m.columns hj) (r.rows_fit _ _ p q))

-- Elements with one home are one element.
pub same_element : (m : Layout) (llds : ℕ → ℕ → ℕ) (i j k l : ℕ) → IsLayout m → HasRoom m llds → i < m.rows → k < m.rows → home m llds i j ≡ home m llds k l → (i ≡ k) × (j ≡ l)
same_element m llds i j k l w r hi hk e =
    let rows : Spread = row_spread m in
    let columns : Spread = column_spread m in
    let p : owner rows i < m.nprow = owner_below rows i (let c = w.row_source in omega arith) in
    let q : owner columns j < m.npcol = owner_below columns j (let c = w.column_source in omega arith) in
    let row : owner rows i ≡ owner rows k = ap (λ (h : Home). h.row) e in
    let column : owner columns j ≡ owner columns l = ap (λ (h : Home). h.column) e in
    let lld : ℕ = llds (owner rows i) (owner columns j) in
    let room : below rows (owner rows i) m.rows ≤ lld = r.rows_fit _ _ p q in
    let low : local rows i < lld = let b = local_below rows i m.rows hi in omega arith in
    let here : below rows (owner rows i) k ≡ local rows k = ap (λ x. below rows x k) row in
    let there : below columns (owner columns j) l ≡ local columns l = ap (λ x. below columns x l) column in
    let high : below rows (owner rows i) k < lld = let b = below_rises rows (owner rows i) k m.rows (sym row) hk in omega arith in
    let place : local columns j * lld + local rows i ≡ local columns l * llds (owner rows k) (owner columns l) + local rows k = ap (λ (h : Home). h.place) e in
    let ld : lld ≡ llds (owner rows k) (owner columns l) = ap (λ x. llds x (owner columns j)) row ∙ ap (λ x. llds (owner rows k) x) column in
    let one : local columns j * lld + local rows i ≡ below columns (owner columns j) l * lld + below rows (owner rows i) k
    = place ∙ ap (λ x. local columns l * x + local rows k) (sym ld) ∙ ap (λ x. x * lld + local rows k) (sym there) ∙ ap (λ x. below columns (owner columns j) l * lld + x) (sym here) in
    let parts : (local columns j ≡ below columns (owner columns j) l) × (local rows i ≡ below rows (owner rows i) k) = same_from_place _ _ _ _ lld low high one in (
      same_index rows (owner rows i) (local rows i) i k (record { owned = refl; counted = refl }) (record { owned = sym row; counted = sym parts.1 }),
      same_index columns (owner columns j) (local columns j) j l (record { owned = refl; counted = refl }) (record { owned = sym column; counted = sym parts.0 }),
    )

-- Each place of local indices below the local sizes is the home of the element that has them.
pub home-of_local : (m : Layout) (llds : ℕ → ℕ → ℕ) (p q li lj : ℕ) → IsLayout m → p < m.nprow → q < m.npcol
    → home m llds (index_at (row_spread m) p li) (index_at (column_spread m) q lj) ≡ record { row = p; column = q; place = local_place (llds p q) li lj }
home-of_local m llds p q li lj w hp hq =
    let a = index_at-is (row_spread m) p li w.row_block w.row_source hp in
    let b = index_at-is (column_spread m) q lj w.column_block w.column_source hq in
    joined _ _ _ _ a.owned b.owned (ap (λ x. below (row_spread m) x (index_at (row_spread m) p li)) a.owned ∙ a.counted) (ap (λ x. below (column_spread m) x (index_at (column_spread m) q lj)) b.owned ∙ b.counted)
  where
    joined : (r c x y : ℕ) → r ≡ p → c ≡ q → x ≡ li → y ≡ lj → (let h : Home = record { row = r; column = c; place = local_place (llds r c) x y } in h) ≡ record { row = p; column = q; place = local_place (llds p q) li lj }
    joined r c x y e f g h = cc
