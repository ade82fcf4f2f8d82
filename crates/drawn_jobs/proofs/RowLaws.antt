-- The rows that a process owns, block by block.
use Rattle.std.specs.Prelude.{◌≡◌, ◌⊎◌, ℕ, zero, suc, ◌+◌, ◌-◌, ◌*◌, ◌/◌, ◌%◌, ◌<◌, ◌≤◌, min, cond, nat_eq, ℤ, pos, List, [], ◌∷◌, ◌++◌, length, take, drop, slice_index_or}
use Rattle.std.specs.List.{range_with_len}
use Rattle.std.proofs.Common.{sym, ap, ◌∙◌, refl, arith, inl, inr, append-nil, append_assoc, get_or, length-drop}
use Rattle.std.proofs.Math.Nat.{div-lt_iff_lt-mul, mod-lt}
use Rattle.std.proofs.lemmas.Nat.{div-mul-add, mod-mul-add, div-add-mod'}
use Rattle.std.proofs.lemmas.Bool.{cases_lt}
use Rattle.std.proofs.lemmas.Bool.Decides.{eqb_tells}
use Rattle.std.proofs.lemmas.List.{map-append, ext_get_or, get_or-take, get_or-drop, length-take-le}
use Rattle.std.proofs.lemmas.List.FromFn.{length-map-range_with_len, get_or-map-range_with_len}
use Rattle.index_tools.specs.Spread.{Spread, spread, owner}
use Rattle.spread_cells.specs.Spreading.{owned}
use Rattle.drawn_jobs.specs.Rows.{words_at}

-- ---- between two indices

owned_next : (s : Spread) (p n : ℕ) → owned s p (suc n) ≡ owned s p n ++ cond (nat_eq (owner s n) p) (n ∷ []) []
unfolding owned
owned_next s p n = refl

gap_of : (s : Spread) (p a k : ℕ) → ((i : ℕ) → a ≤ i → i < a + k → owner s i ≡ p → ⊥) → owned s p (a + k) ≡ owned s p a
gap_of s p a zero none = let e : a + 0 ≡ a = omega arith in ap (owned s p) e
gap_of s p a (suc k) none =
    let e : a + suc k ≡ suc (a + k) = omega arith in
    ap (owned s p) e ∙ owned_next s p (a + k) ∙ not_here (owner s (a + k)) (a + k) (owned s p (a + k)) (none (a + k) (omega arith) (omega arith)) ∙ gap_of s p a k (λ i low high. none i low (omega (arith, high)))
  where
    not_here : (o n : ℕ) (xs : List ℕ) → (o ≡ p → ⊥) → xs ++ cond (nat_eq o p) (n ∷ []) [] ≡ xs
    not_here o n xs other = elim (eqb_tells o p) as (λ d. xs ++ cond (nat_eq o p) (n ∷ []) [] ≡ xs) [
      | inl same ↦ absurd (other same.1)
      | inr two ↦ ap (λ b. xs ++ cond b (n ∷ []) []) two.0 ∙ append-nil xs
    ]

one_more_number : (a k n : ℕ) → a + k ≡ n → range_with_len a (suc k) ≡ range_with_len a k ++ n ∷ []
one_more_number a zero n e = let same : a ≡ n = omega (arith, e) in ap (λ m. m ∷ []) same
one_more_number a (suc k) n e = ap (λ l. a ∷ l) (one_more_number (a + 1) k n (omega (arith, e)))

run_of : (s : Spread) (p a k : ℕ) → ((i : ℕ) → a ≤ i → i < a + k → owner s i ≡ p) → owned s p (a + k) ≡ owned s p a ++ range_with_len a k
run_of s p a zero all = (let e : a + 0 ≡ a = omega arith in ap (owned s p) e) ∙ sym (append-nil (owned s p a))
run_of s p a (suc k) all =
    let e : a + suc k ≡ suc (a + k) = omega arith in
    ap (owned s p) e ∙ owned_next s p (a + k) ∙ here (owner s (a + k)) (a + k) (owned s p (a + k)) (all (a + k) (omega arith) (omega arith))
    ∙ ap (λ l. l ++ (a + k) ∷ []) (run_of s p a k (λ i low high. all i low (omega (arith, high))))
    ∙ append_assoc (owned s p a) (range_with_len a k) ((a + k) ∷ [])
    ∙ ap (λ l. owned s p a ++ l) (sym (one_more_number a k (a + k) refl))
  where
    here : (o n : ℕ) (xs : List ℕ) → o ≡ p → xs ++ cond (nat_eq o p) (n ∷ []) [] ≡ xs ++ n ∷ []
    here o n xs same = elim (eqb_tells o p) as (λ d. xs ++ cond (nat_eq o p) (n ∷ []) [] ≡ xs ++ n ∷ []) [
      | inl one ↦ ap (λ b. xs ++ cond b (n ∷ []) []) one.0
      | inr two ↦ absurd (two.1 same)
    ]

gap : (s : Spread) (p a b : ℕ) → a ≤ b → ((i : ℕ) → a ≤ i → i < b → owner s i ≡ p → ⊥) → owned s p b ≡ owned s p a
gap s p a b le none = let e : b ≡ a + (b - a) = omega arith in ap (owned s p) e ∙ gap_of s p a (b - a) (λ i low high. none i low (omega (arith, high)))

run : (s : Spread) (p a b : ℕ) → a ≤ b → ((i : ℕ) → a ≤ i → i < b → owner s i ≡ p) → owned s p b ≡ owned s p a ++ range_with_len a (b - a)
run s p a b le all = let e : b ≡ a + (b - a) = omega arith in ap (owned s p) e ∙ run_of s p a (b - a) (λ i low high. all i low (omega (arith, high)))

-- ---- who owns what within a turn of all processes

owner_at : (block processes turn r : ℕ) → 0 < block → r < processes * block → owner (spread block 0 processes) (turn * (block * processes) + r) ≡ r / block
owner_at block processes turn r some lt =
    let w : ℕ = r / block in
    let parts : r / block * block + r % block ≡ r = div-add-mod' r block in
    let rest : r % block < block = mod-lt r some in
    let place : turn * (block * processes) + r ≡ (turn * processes + w) * block + r % block = regrouped turn block processes w (r % block) r parts in
    let shown : 0 + (turn * (block * processes) + r) / block ≡ turn * processes + w = let d = ap (λ n. n / block) place ∙ div-mul-add (turn * processes + w) block (r % block) rest in omega (arith, d) in
    ap (λ n. n % processes) shown ∙ mod-mul-add turn processes w ((div-lt_iff_lt-mul some).1 lt)
  where
    regrouped : (t b p w u r : ℕ) → w * b + u ≡ r → t * (b * p) + r ≡ (t * p + w) * b + u
    regrouped t b p w u r e = grind arith

owner_from : (block processes turn i : ℕ) → 0 < block → turn * (block * processes) ≤ i → i < turn * (block * processes) + processes * block → owner (spread block 0 processes) i ≡ (i - turn * (block * processes)) / block
owner_from block processes turn i some low high =
    let e : i ≡ turn * (block * processes) + (i - turn * (block * processes)) = omega arith in
    ap (owner (spread block 0 processes)) e ∙ owner_at block processes turn (i - turn * (block * processes)) some (omega arith)

before_block : (block p r : ℕ) → 0 < block → r < p * block → r / block ≡ p → ⊥
before_block block p r some lt e = let low = (div-lt_iff_lt-mul some).1 lt in omega (arith, low, e)

in_block : (block p r : ℕ) → 0 < block → p * block ≤ r → r < p * block + block → r / block ≡ p
in_block block p r some low high =
    let e : (p + 1) * block ≡ p * block + block = grind arith in
    let below : r / block < p + 1 = (div-lt_iff_lt-mul some).1 (omega (arith, high, e)) in
    at (cases_lt (r / block) p) below
  where
    at : (r / block < p) ⊎ (p ≤ r / block) → r / block < p + 1 → r / block ≡ p
    at (inl less) below = let left = (div-lt_iff_lt-mul some).0 less in absurd (omega (arith, left, low))
    at (inr more) below = omega (arith, more, below)

after_block : (block p r : ℕ) → 0 < block → p * block + block ≤ r → r / block ≡ p → ⊥
after_block block p r some high same =
    let e : (p + 1) * block ≡ p * block + block = grind arith in
    let left = (div-lt_iff_lt-mul some).0 (let lt : r / block < p + 1 = omega (arith, same) in lt) in
    omega (arith, left, e, high)

pub fits_turn : (block processes p : ℕ) → p < processes → p * block + block ≤ processes * block
fits_turn block processes p lt = grind arith

next_turn : (turn size : ℕ) → (turn + 1) * size ≡ turn * size + size
next_turn turn size = grind arith

-- a turn more: one run of indices
pub turn_more : (block processes p n turn start end : ℕ) → 0 < block → p < processes → start ≡ min (turn * (block * processes) + p * block) n → end ≡ min (start + block) n
    → owned (spread block 0 processes) p (min ((turn + 1) * (block * processes)) n) ≡ owned (spread block 0 processes) p (min (turn * (block * processes)) n) ++ range_with_len start (end - start)
turn_more block processes p n turn start end some lt begins ends =
    let s : Spread = spread block 0 processes in
    let base : ℕ = turn * (block * processes) in
    let room = fits_turn block processes p lt in
    let next = next_turn turn (block * processes) in
    let flip : block * processes ≡ processes * block = grind arith in
    gap s p end (min ((turn + 1) * (block * processes)) n) (omega arith)
    (λ i low high same. after_block block p (i - base) some (omega arith) (sym (owner_from block processes turn i some (omega arith) (omega arith)) ∙ same))
    ∙ run s p start end (omega arith)
    (λ i low high. owner_from block processes turn i some (omega arith) (omega arith) ∙ in_block block p (i - base) some (omega arith) (omega arith))
    ∙ ap (λ l. l ++ range_with_len start (end - start)) (gap s p (min base n) start (omega arith)
    (λ i low high same. before_block block p (i - base) some (omega arith) (sym (owner_from block processes turn i some (omega arith) (omega arith)) ∙ same)))

-- ---- the words of a column

abbrev rows_to : (block processes p n : ℕ) → List ℕ
rows_to block processes p n = owned (spread block 0 processes) p n

none_owned : (s : Spread) (p : ℕ) → owned s p 0 ≡ []
unfolding owned
none_owned s p = refl

pub rows_begin : (words column : List ℤ) (block processes p size : ℕ) → words ≡ words ++ words_at column (rows_to block processes p (min (0 * size) (length column)))
rows_begin words column block processes p size =
    let e : min (0 * size) (length column) ≡ 0 = omega arith in
    sym (append-nil words) ∙ ap (λ rows. words ++ words_at column rows) (sym (ap (owned (spread block 0 processes) p) e ∙ none_owned (spread block 0 processes) p))

part_is : (column : List ℤ) (start end : ℕ) → end ≤ length column → start ≤ end → take (end - start) (drop start column) ≡ words_at column (range_with_len start (end - start))
part_is column start end fits le =
    let count : length (take (end - start) (drop start column)) ≡ end - start = length-take-le (end - start) (drop start column) (let left = length-drop start column in omega (arith, left, fits, le)) in
    ext_get_or (pos 0) (take (end - start) (drop start column)) (words_at column (range_with_len start (end - start))) (count ∙ sym (length-map-range_with_len (λ i. slice_index_or column i (pos 0)) start (end - start)))
    (λ k lt. same_word column start (end - start) k (omega (arith, lt, count)))
  where
    same_word : (column : List ℤ) (start n k : ℕ) → k < n → get_or (take n (drop start column)) k (pos 0) ≡ get_or (words_at column (range_with_len start n)) k (pos 0)
    same_word column start n k lt =
        get_or-take n (drop start column) k (pos 0) lt ∙ get_or-drop start column k (pos 0)
        ∙ sym (get_or-map-range_with_len (λ i. slice_index_or column i (pos 0)) start n k (start + k) (pos 0) lt refl)

pub rows_more : (before words column : List ℤ) (block processes p turn start end : ℕ) → words ≡ before ++ words_at column (rows_to block processes p (min (turn * (block * processes)) (length column)))
    → 0 < block → p < processes → start ≡ min (turn * (block * processes) + p * block) (length column) → end ≡ min (start + block) (length column)
    → words ++ take (end - start) (drop start column) ≡ before ++ words_at column (rows_to block processes p (min ((turn + 1) * (block * processes)) (length column)))
rows_more before words column block processes p turn start end e some lt begins ends =
    let rows : List ℕ = rows_to block processes p (min (turn * (block * processes)) (length column)) in
    ap (λ l. l ++ take (end - start) (drop start column)) e
    ∙ append_assoc before (words_at column rows) (take (end - start) (drop start column))
    ∙ ap (λ l. before ++ (words_at column rows ++ l)) (part_is column start end (omega (arith, ends)) (omega (arith, begins, ends)))
    ∙ ap (λ l. before ++ l) (sym (map-append (λ i. slice_index_or column i (pos 0)) rows (range_with_len start (end - start))))
    ∙ ap (λ l. before ++ words_at column l) (sym (turn_more block processes p (length column) turn start end some lt begins ends))

enough : (n size : ℕ) → 0 < size → n ≤ (n + (size - 1)) / size * size
enough n size some = let e = div-add-mod' (n + (size - 1)) size in let rest = mod-lt (n + (size - 1)) some in omega (arith, e, rest)

pub rows_end : (before words column : List ℤ) (block processes p turns : ℕ) → 0 < block * processes → turns ≡ (length column + (block * processes - 1)) / (block * processes)
    → words ≡ before ++ words_at column (rows_to block processes p (min (turns * (block * processes)) (length column)))
    → words ≡ before ++ words_at column (rows_to block processes p (length column))
rows_end before words column block processes p turns some count e =
    let all = enough (length column) (block * processes) some in
    let reached : turns * (block * processes) ≡ (length column + (block * processes - 1)) / (block * processes) * (block * processes) = ap (λ t. t * (block * processes)) count in
    let end : min (turns * (block * processes)) (length column) ≡ length column = omega (arith, all, reached) in
    e ∙ ap (λ n. before ++ words_at column (rows_to block processes p n)) end
