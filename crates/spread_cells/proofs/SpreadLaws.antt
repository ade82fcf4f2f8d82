-- The local arrays of the pieces spread the matrix: each element stands at its home, and all else is 0.
use Rattle.std.proofs.Common.{◌≡◌, ℕ, zero, suc, ◌+◌, ◌*◌, ◌/◌, ◌%◌, ◌<◌, pos, List, [], ◌∷◌, length, get_or, Option, Some, None, refl, sym, ap, subst, ◌∙◌, arith}
use Rattle.std.specs.Prelude.{max, slice_get}
use Rattle.std.proofs.lemmas.Nat.{div-add-mod'}
use Rattle.std.proofs.lemmas.List.FromFn.{length-map-range_with_len, get_or-map-range_with_len}
use Rattle.index_tools.specs.Spread.{Spread, owner, below, local, IsIndexAt}
use Rattle.index_tools.specs.Home.{Layout, Home, row_spread, column_spread, home}
use Rattle.index_tools.proofs.HomeLemmas.{same_index, local_below, index_below}
use Rattle.mm_grammar.specs.Matrix.{Matrix}
use Rattle.spread_cells.specs.Spreading.{owned, element, element_at, word_at, array_of, piece_rows, piece_columns, piece_cells, IsSpread, SpreadsByHome}
use Rattle.spread_cells.proofs.OwnedLemmas.{length-owned, owned_are}
use Rattle.spread_cells.proofs.PieceLemmas.{word_of_cells}

one_value : (x g : ℕ) → Some x ≡ Some g → x ≡ g
one_value x g e = cc

got : (xs : List ℕ) (k g : ℕ) → slice_get xs k ≡ Some g → (k < length xs) × (get_or xs k 0 ≡ g)
got [] k g e = absurd cc
got (x ∷ xs) zero g e = (omega arith, one_value x g e)
got (x ∷ xs) (suc k) g e = let r = got xs k g e in (omega (arith, r.0), r.1)

gets : (xs : List ℕ) (k : ℕ) → k < length xs → slice_get xs k ≡ Some (get_or xs k 0)
gets [] k lt = absurd (omega arith)
gets (x ∷ xs) zero lt = refl
gets (x ∷ xs) (suc k) lt = gets xs k (omega arith)

-- the owned index with so many of the process's indices below it
get_owned : (s : Spread) (p n k g : ℕ) → IsIndexAt s p k g → k < below s p n → slice_get (owned s p n) k ≡ Some g
get_owned s p n k g is lt =
    let low : k < length (owned s p n) = omega (arith, lt, length-owned s p n) in
    gets (owned s p n) k low ∙ ap (λ x. Some x) (same_index s p k (get_or (owned s p n) k 0) g (owned_are s p n k low) is)

owned_get : (s : Spread) (p n k g : ℕ) → slice_get (owned s p n) k ≡ Some g → IsIndexAt s p k g × (k < below s p n)
owned_get s p n k g e =
    let r = got (owned s p n) k g e in
    let P : ℕ → Type 0 = IsIndexAt s p k in
    (subst P r.1 (owned_are s p n k r.0), omega (arith, r.0, length-owned s p n))

-- an index stands at its own place of its process
at_home : (s : Spread) (p i : ℕ) → owner s i ≡ p → IsIndexAt s p (local s i) i
at_home s p i is = record { owned = is; counted = ap (λ x. below s x i) (sym is) }

home_is : (a b c x y z : ℕ) → a ≡ x → b ≡ y → c ≡ z → (let h : Home = record { row = a; column = b; place = c } in h) ≡ record { row = x; column = y; place = z }
home_is a b c x y z p q r = rw (p, q, r) refl

array_rows : (l : Layout) (p : ℕ) → max 1 (length (owned (row_spread l) p l.rows)) ≡ piece_rows l p
array_rows l p = ap (max 1) (length-owned (row_spread l) p l.rows)

array_columns : (l : Layout) (q : ℕ) → max 1 (length (owned (column_spread l) q l.columns)) ≡ piece_columns l q
array_columns l q = ap (max 1) (length-owned (column_spread l) q l.columns)

within : (n k : ℕ) → k < n → k < max 1 n
within n k lt = grind arith

held_at : (m : Matrix) (l : Layout) (p q i j place : ℕ) → i < l.rows → j < l.columns → home l (λ r c. piece_rows l r) i j ≡ record { row = p; column = q; place = place } → get_or (piece_cells m l p q).values place (pos 0) ≡ element m i j
held_at m l p q i j place low left is =
    let rs : Spread = row_spread l in
    let cs : Spread = column_spread l in
    let rows : List ℕ = owned rs p l.rows in
    let columns : List ℕ = owned cs q l.columns in
    let row : owner rs i ≡ p = ap (λ (h : Home). h.row) is in
    let column : owner cs j ≡ q = ap (λ (h : Home). h.column) is in
    let here : local cs j * piece_rows l (owner rs i) + local rs i ≡ place = ap (λ (h : Home). h.place) is in
    let r : local rs i < below rs p l.rows = let P : ℕ → Type 0 = λ x. local rs i < below rs x l.rows in subst P row (local_below rs i l.rows low) in
    let c : local cs j < below cs q l.columns = let P : ℕ → Type 0 = λ x. local cs j < below cs x l.columns in subst P column (local_below cs j l.columns left) in
    let r' : local rs i < max 1 (length rows) = within (length rows) (local rs i) (omega (arith, r, length-owned rs p l.rows)) in
    let c' : local cs j < max 1 (length columns) = within (length columns) (local cs j) (omega (arith, c, length-owned cs q l.columns)) in
    let spot : place ≡ local cs j * max 1 (length rows) + local rs i = sym here ∙ ap (λ x. local cs j * piece_rows l x + local rs i) row ∙ ap (λ x. local cs j * x + local rs i) (sym (array_rows l p)) in
    ap (λ x. get_or (array_of m rows columns).values x (pos 0)) spot
    ∙ word_of_cells m rows columns (local rs i) (local cs j) r' c'
    ∙ ap (λ o. element_at m o (slice_get columns (local cs j))) (get_owned rs p l.rows (local rs i) i (at_home rs p i row) r)
    ∙ ap (element_at m (Some i)) (get_owned cs q l.columns (local cs j) j (at_home cs q j column) c)

-- where a row and a column stand at a place, it is the home of their element
place_home : (l : Layout) (p q place i j : ℕ) → slice_get (owned (row_spread l) p l.rows) (place % piece_rows l p) ≡ Some i → slice_get (owned (column_spread l) q l.columns) (place / piece_rows l p) ≡ Some j
    → (i < l.rows) × (j < l.columns) × (home l (λ r c. piece_rows l r) i j ≡ record { row = p; column = q; place = place })
place_home l p q place i j row column =
    let rs : Spread = row_spread l in
    let cs : Spread = column_spread l in
    let r = owned_get rs p l.rows (place % piece_rows l p) i row in
    let c = owned_get cs q l.columns (place / piece_rows l p) j column in
    let li : local rs i ≡ place % piece_rows l p = ap (λ x. below rs x i) r.0.owned ∙ r.0.counted in
    let lj : local cs j ≡ place / piece_rows l p = ap (λ x. below cs x j) c.0.owned ∙ c.0.counted in
    let spot : local cs j * piece_rows l (owner rs i) + local rs i ≡ place
    = ap (λ x. local cs j * piece_rows l x + local rs i) r.0.owned ∙ ap (λ x. x * piece_rows l p + local rs i) lj ∙ ap (λ x. place / piece_rows l p * piece_rows l p + x) li ∙ div-add-mod' place (piece_rows l p) in
    (index_below rs p (place % piece_rows l p) i l.rows r.0 r.1, index_below cs q (place / piece_rows l p) j l.columns c.0 c.1, home_is _ _ _ p q place r.0.owned c.0.owned spot)

none_at : (m : Matrix) (o u : Option ℕ) → ((i j : ℕ) → o ≡ Some i → u ≡ Some j → ⊥) → element_at m o u ≡ pos 0
none_at m None u never = refl
none_at m (Some i) None never = refl
none_at m (Some i) (Some j) never = absurd (never i j refl refl)

padding_at : (m : Matrix) (l : Layout) (p q place : ℕ) → place < length (piece_cells m l p q).values → ((i j : ℕ) → i < l.rows → j < l.columns → home l (λ r c. piece_rows l r) i j ≡ record { row = p; column = q; place = place } → ⊥)
    → get_or (piece_cells m l p q).values place (pos 0) ≡ pos 0
padding_at m l p q place lt never =
    let rows : List ℕ = owned (row_spread l) p l.rows in
    let columns : List ℕ = owned (column_spread l) q l.columns in
    let n : ℕ = max 1 (length rows) * max 1 (length columns) in
    let count : length (array_of m rows columns).values ≡ n = length-map-range_with_len (word_at m rows columns) 0 n in
    get_or-map-range_with_len (word_at m rows columns) 0 n place place (pos 0) (omega (arith, lt, count)) (omega arith)
    ∙ ap (λ x. element_at m (slice_get rows (place % x)) (slice_get columns (place / x))) (array_rows l p)
    ∙ none_at m (slice_get rows (place % piece_rows l p)) (slice_get columns (place / piece_rows l p)) (λ i j r c. let h = place_home l p q place i j r c in never i j h.0 h.1 h.2)

-- The local array of a piece spreads the matrix over it.
pub piece_spread : (m : Matrix) (l : Layout) (p q : ℕ) → IsSpread m l p q (piece_cells m l p q).values
piece_spread m l p q = record {
  size = length-map-range_with_len (word_at m (owned (row_spread l) p l.rows) (owned (column_spread l) q l.columns)) 0 (max 1 (length (owned (row_spread l) p l.rows)) * max 1 (length (owned (column_spread l) q l.columns)))
      ∙ ap (λ x. x * max 1 (length (owned (column_spread l) q l.columns))) (array_rows l p) ∙ ap (λ x. piece_rows l p * x) (array_columns l q);
  held = λ i j place low left is. held_at m l p q i j place low left is;
  padding = λ place lt never. padding_at m l p q place lt never;
}

pub by_home : SpreadsByHome
by_home = record { spreads = piece_spread }
