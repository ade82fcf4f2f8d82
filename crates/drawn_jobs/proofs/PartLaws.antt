-- The words of the columns of one process, column by column.
use Rattle.std.specs.Prelude.{◌≡◌, ℕ, zero, suc, ◌+◌, ◌*◌, ◌/◌, ◌%◌, ◌<◌, ◌≤◌, max, Bool, true, false, cond, nat_eq, ℤ, pos, List, [], ◌∷◌, ◌++◌, length, map, take, drop, replicate, ◌-◌, Option, Some, None, slice_get, slice_index_or}
use Rattle.std.specs.List.{range_with_len}
use Rattle.std.proofs.Common.{sym, ap, ap₂, ◌∙◌, refl, arith, inl, inr, append-nil, append_assoc, get_or, length-drop}
use Rattle.std.proofs.lemmas.Nat.{div-mul-add, mod-mul-add}
use Rattle.std.proofs.lemmas.Bool.{cases_lt}
use Rattle.std.proofs.lemmas.List.{map-append, get_or-take, get_or-drop, get_or-map, length-map, length-append, length-take-le, get_or_append_left, get_or-append-add, take_all}
use Rattle.std.proofs.lemmas.List.FromFn.{length-map-range_with_len, map-range_with_len_more, fill_by_all}
use Rattle.std.proofs.lemmas.Option.{slice_get-get_or}
use Rattle.index_tools.specs.Spread.{Spread, owner}
use Rattle.mm_grammar.specs.Matrix.{Matrix}
use Rattle.spread_cells.specs.Spreading.{element, owned, element_at, word_at, array_of}
use Rattle.drawn_jobs.specs.Rows.{words_at}

-- ---- a column as a part of all words

pub column_inside : (rows columns j n : ℕ) → n ≡ rows * columns → j < columns → j * rows + rows ≤ n
column_inside rows columns j n e lt = let le : j * rows + rows ≤ rows * columns = grind arith in omega (arith, e, le)

pub column_long : (vs : List ℤ) (rows j : ℕ) → j * rows + rows ≤ length vs → length (take rows (drop (j * rows) vs)) ≡ rows
column_long vs rows j fits = length-take-le rows (drop (j * rows) vs) (let left = length-drop (j * rows) vs in omega (arith, left, fits))

-- ---- owned indices

-- what holds of each index below n holds of each owned one
low_words : (s : Spread) (p n : ℕ) (f g : ℕ → ℤ) → ((i : ℕ) → i < n → f i ≡ g i) → map f (owned s p n) ≡ map g (owned s p n)
unfolding owned
low_words s p zero f g e = refl
low_words s p (suc n) f g e =
    map-append f (owned s p n) (cond (nat_eq (owner s n) p) (n ∷ []) [])
    ∙ ap₂ (λ (a b : List ℤ). a ++ b) (low_words s p n f g (λ i lt. e i (omega (arith, lt)))) (last (nat_eq (owner s n) p) (e n (omega arith)))
    ∙ sym (map-append g (owned s p n) (cond (nat_eq (owner s n) p) (n ∷ []) []))
  where
    last : (b : Bool) → f n ≡ g n → map f (cond b (n ∷ []) []) ≡ map g (cond b (n ∷ []) [])
    last true same = ap (λ (x : ℤ). x ∷ []) same
    last false same = refl

owned_low : (s : Spread) (p n k : ℕ) → k < length (owned s p n) → get_or (owned s p n) k 0 < n
unfolding owned
owned_low s p zero k lt = absurd (omega (arith, lt))
owned_low s p (suc n) k lt = at (nat_eq (owner s n) p) k lt (owned_low s p n k)
  where
    newest : (b : Bool) (xs : List ℕ) (k : ℕ) → length xs ≤ k → k < length (xs ++ cond b (n ∷ []) []) → get_or (xs ++ cond b (n ∷ []) []) k 0 < suc n
    newest true xs k high lt =
        let count = length-append xs (n ∷ []) in
        let here : k ≡ length xs + 0 = omega (arith, count, high, lt) in
        let is : get_or (xs ++ n ∷ []) k 0 ≡ n = ap (λ i. get_or (xs ++ n ∷ []) i 0) here ∙ get_or-append-add xs (n ∷ []) 0 0 in
        omega (arith, is)
    newest false xs k high lt = let count = length-append xs [] in absurd (omega (arith, count, high, lt))

    at : (b : Bool) (k : ℕ) → k < length (owned s p n ++ cond b (n ∷ []) []) → (k < length (owned s p n) → get_or (owned s p n) k 0 < n) → get_or (owned s p n ++ cond b (n ∷ []) []) k 0 < suc n
    at b k lt before = elim (cases_lt k (length (owned s p n))) as (λ d. get_or (owned s p n ++ cond b (n ∷ []) []) k 0 < suc n) [
      | inl low ↦ let old = get_or_append_left (owned s p n) (cond b (n ∷ []) []) 0 k low in let less = before low in omega (arith, old, less)
      | inr high ↦ newest b (owned s p n) k high lt
    ]

pub column_low : (s : Spread) (p n k : ℕ) (columns : List ℕ) (j : ℕ) → columns ≡ owned s p n → k < length columns → j ≡ get_or columns k 0 → j < n
column_low s p n k columns j e lt is =
    let low = owned_low s p n k (let count = ap length e in omega (arith, lt, count)) in
    let here = is ∙ ap (λ l. get_or l k 0) e in
    omega (arith, low, here)

-- ---- column by column

nothing_yet : (n : ℕ) → 0 * n ≡ 0
nothing_yet n = omega arith

pub part_begins : (m : Matrix) (rows columns : List ℕ) → [] ≡ map (word_at m rows columns) (range_with_len 0 (0 * length rows))
part_begins m rows columns = ap (λ n. map (word_at m rows columns) (range_with_len 0 n)) (sym (nothing_yet (length rows)))

behind : (f : ℕ → ℤ) (a n : ℕ) → map f (range_with_len 0 (a + n)) ≡ map f (range_with_len 0 a) ++ map (λ k. f (a + k)) (range_with_len 0 n)
behind f a zero = (let e : a + 0 ≡ a = omega arith in ap (λ n. map f (range_with_len 0 n)) e) ∙ sym (append-nil (map f (range_with_len 0 a)))
behind f a (suc n) =
    let e : a + suc n ≡ a + n + 1 = omega arith in
    let e' : n + 1 ≡ suc n = omega arith in
    ap (λ n. map f (range_with_len 0 n)) e
    ∙ map-range_with_len_more f 0 (a + n) (a + n) (omega arith)
    ∙ ap (λ l. l ++ f (a + n) ∷ []) (behind f a n)
    ∙ append_assoc (map f (range_with_len 0 a)) (map (λ k. f (a + k)) (range_with_len 0 n)) (f (a + n) ∷ [])
    ∙ ap (λ l. map f (range_with_len 0 a) ++ l) (sym (map-range_with_len_more (λ k. f (a + k)) 0 n n (omega arith)) ∙ ap (λ n. map (λ k. f (a + k)) (range_with_len 0 n)) e')

-- the words of a column of the piece
column_words : (m : Matrix) (rows columns : List ℕ) (b : ℕ) → b < length columns → map (λ i. element m i (get_or columns b 0)) rows ≡ map (λ k. word_at m rows columns (b * length rows + k)) (range_with_len 0 (length rows))
column_words m rows columns b lt =
    fill_by_all (λ k. word_at m rows columns (b * length rows + k)) (map (λ i. element m i (get_or columns b 0)) rows) (length rows) (pos 0) (length-map rows (λ i. element m i (get_or columns b 0)))
    (λ k low. get_or-map (λ i. element m i (get_or columns b 0)) rows k 0 (pos 0) low ∙ sym (word_is m rows columns b k low lt))
  where
    word_is : (m : Matrix) (rows columns : List ℕ) (b k : ℕ) → k < length rows → b < length columns → word_at m rows columns (b * length rows + k) ≡ element m (get_or rows k 0) (get_or columns b 0)
    word_is m rows columns b k low lt =
        let size : max 1 (length rows) ≡ length rows = grind arith in
        let row : (b * length rows + k) % max 1 (length rows) ≡ k = ap (λ n. (b * length rows + k) % n) size ∙ mod-mul-add b (length rows) k low in
        let column : (b * length rows + k) / max 1 (length rows) ≡ b = ap (λ n. (b * length rows + k) / n) size ∙ div-mul-add b (length rows) k low in
        ap₂ (λ (x y : ℕ). element_at m (slice_get rows x) (slice_get columns y)) row column
        ∙ ap₂ (λ (x y : Option ℕ). element_at m x y) (slice_get-get_or rows k 0 low) (slice_get-get_or columns b 0 lt)

pub part_more : (m : Matrix) (rows : List ℕ) (s : Spread) (p : ℕ) (columns : List ℕ) (b j : ℕ) (before column words : List ℤ)
    → before ≡ map (word_at m rows columns) (range_with_len 0 (b * length rows))
    → rows ≡ owned s p m.rows
    → column ≡ take m.rows (drop (j * m.rows) m.values)
    → b < length columns → j ≡ get_or columns b 0
    → words ≡ before ++ words_at column rows
    → words ≡ map (word_at m rows columns) (range_with_len 0 ((b + 1) * length rows))
part_more m rows s p columns b j before column words e are is lt this now =
    let size : b * length rows + length rows ≡ (b + 1) * length rows = grind arith in
    let f : ℕ → ℤ = word_at m rows columns in
    let of_column : words_at column rows ≡ map (λ i. element m i j) rows
    = ap (λ l. map (λ i. slice_index_or column i (pos 0)) l) are
    ∙ low_words s p m.rows (λ i. slice_index_or column i (pos 0)) (λ i. element m i j) (λ i low. ap (λ (c : List ℤ). slice_index_or c i (pos 0)) is ∙ get_or-take m.rows (drop (j * m.rows) m.values) i (pos 0) low ∙ get_or-drop (j * m.rows) m.values i (pos 0))
    ∙ ap (λ l. map (λ i. element m i j) l) (sym are) in
    now
    ∙ ap₂ (λ (x y : List ℤ). x ++ y) e (of_column ∙ ap (λ c. map (λ i. element m i c) rows) this ∙ column_words m rows columns b lt)
    ∙ sym (behind f (b * length rows) (length rows))
    ∙ ap (λ n. map f (range_with_len 0 n)) size

-- ---- the whole array

all_zeros : (f : ℕ → ℤ) (a n : ℕ) → ((k : ℕ) → f k ≡ pos 0) → replicate n (pos 0) ≡ map f (range_with_len a n)
all_zeros f a zero none = refl
all_zeros f a (suc n) none = ap₂ (λ (x : ℤ) (xs : List ℤ). x ∷ xs) (sym (none a)) (all_zeros f (a + 1) n none)

no_element : (m : Matrix) (o : Option ℕ) → element_at m o None ≡ pos 0
no_element m (Some i) = refl
no_element m None = refl

-- only zeros
zeros_alone : (f : ℕ → ℤ) (n size : ℕ) (words : List ℤ) → size ≡ 0 → words ≡ map f (range_with_len 0 size) → ((k : ℕ) → f k ≡ pos 0) → take n words ++ replicate (n - length words) (pos 0) ≡ map f (range_with_len 0 n)
zeros_alone f n size words none e zeros =
    let empty : words ≡ [] = e ∙ ap (λ k. map f (range_with_len 0 k)) none in
    let all : n - 0 ≡ n = omega arith in
    ap (λ (ws : List ℤ). take n ws ++ replicate (n - length ws) (pos 0)) empty ∙ ap (λ (ws : List ℤ). ws ++ replicate (n - 0) (pos 0)) (take_all n [] (omega arith)) ∙ ap (λ k. replicate k (pos 0)) all ∙ all_zeros f 0 n zeros

-- no zeros
words_alone : (f : ℕ → ℤ) (n size : ℕ) (words : List ℤ) → size ≡ n → words ≡ map f (range_with_len 0 size) → take n words ++ replicate (n - length words) (pos 0) ≡ map f (range_with_len 0 n)
words_alone f n size words same e =
    let count : length words ≡ n = ap length e ∙ length-map-range_with_len f 0 size ∙ same in
    let none : n - length words ≡ 0 = omega (arith, count) in
    ap (λ k. take n words ++ replicate k (pos 0)) none ∙ append-nil (take n words) ∙ take_all n words (omega (arith, count)) ∙ e ∙ ap (λ k. map f (range_with_len 0 k)) same

pub filled : (m : Matrix) (rows columns : List ℕ) (words : List ℤ) (n : ℕ) → words ≡ map (word_at m rows columns) (range_with_len 0 (length columns * length rows)) → n ≡ (array_of m rows columns).rows * (array_of m rows columns).columns
    → take n words ++ replicate (n - length words) (pos 0) ≡ (array_of m rows columns).values
filled m [] columns words n e count =
    zeros_alone (word_at m [] columns) n (length columns * 0) words (omega arith) e (λ k. refl) ∙ ap (λ k. map (word_at m [] columns) (range_with_len 0 k)) count
filled m (r ∷ rows) [] words n e count =
    zeros_alone (word_at m (r ∷ rows) []) n (0 * length (r ∷ rows)) words (omega arith) e (λ k. no_element m (slice_get (r ∷ rows) (k % max 1 (length (r ∷ rows))))) ∙ ap (λ k. map (word_at m (r ∷ rows) []) (range_with_len 0 k)) count
filled m (r ∷ rows) (c ∷ columns) words n e count =
    let f : ℕ → ℤ = word_at m (r ∷ rows) (c ∷ columns) in
    words_alone f n (length (c ∷ columns) * length (r ∷ rows)) words (area (length (c ∷ columns)) (length (r ∷ rows)) n (omega arith) (omega arith) count) e ∙ ap (λ k. map f (range_with_len 0 k)) count
  where
    area : (a b n : ℕ) → 1 ≤ a → 1 ≤ b → n ≡ max 1 b * max 1 a → a * b ≡ n
    area a b n ha hb e =
        let ea : max 1 a ≡ a = omega arith in
        let eb : max 1 b ≡ b = omega arith in
        let flip : a * b ≡ b * a = grind arith in
        flip ∙ sym (e ∙ ap₂ (λ (x y : ℕ). x * y) eb ea)
