-- Sums of whole numbers that grow by one, or by a column.
use Rattle.std.proofs.Common.{◌≡◌, ℕ, ◌+◌, ◌*◌, ◌^◌, ◌<◌, ◌≤◌, ℤ, pos, List, [], ◌∷◌, ◌++◌, length, get_or, take, sym, ap, ap₂, ◌∙◌, arith, unsigned_abs}
use Rattle.std.specs.Prelude.{FitsSigned, ◌+ℤ◌}
use Rattle.std.specs.Int.{w32, w64}
use Rattle.std.proofs.Math.IntN.{+ℤ_idr}
use Rattle.std.proofs.Math.Seq.{take-add}
use Rattle.std.proofs.lemmas.List.{take_more, take_all}
use Rattle.std.proofs.lemmas.Int.{fits_signed_from_abs}
use Rattle.fold_ops.specs.Fold.{total}
use Rattle.pack_words.specs.LocalCells.{LocalCells, IsLocalCells, column_of}
use Rattle.drawn_jobs.proofs.SpreadSums.{total-append}

total_more : (ws : List ℤ) (w : ℤ) → total (ws ++ w ∷ []) ≡ total ws +ℤ w
total_more ws w = total-append ws (w ∷ []) ∙ ap (λ (t : ℤ). total ws +ℤ t) (+ℤ_idr w)

abs_small : (w : ℤ) → FitsSigned w32 w → unsigned_abs w ≤ 2 ^ 31
abs_small w fits = grind arith

abs_plus : (a b : ℤ) → unsigned_abs (a +ℤ b) ≤ unsigned_abs a + unsigned_abs b
abs_plus a b = grind arith

-- ---- a word more

pub sum_more : (vs : List ℤ) (i : ℕ) (s w : ℤ) → s ≡ total (take i vs) → i < length vs → w ≡ get_or vs i (pos 0) → s +ℤ w ≡ total (take (i + 1) vs)
sum_more vs i s w e lt is =
    ap₂ (λ (a b : ℤ). a +ℤ b) e is ∙ sym (total_more (take i vs) (get_or vs i (pos 0))) ∙ ap total (sym (take_more vs i (pos 0) lt))

-- each word adds at most 2^31 to the size
pub small_more : (n : ℕ) (s w : ℤ) → unsigned_abs s ≤ n * 2 ^ 31 → FitsSigned w32 w → unsigned_abs (s +ℤ w) ≤ (n + 1) * 2 ^ 31
small_more n s w few fits =
    let one = abs_small w fits in
    let both = abs_plus s w in
    omega (arith, few, one, both)

pub fits_more : (n : ℕ) (s w : ℤ) → unsigned_abs s ≤ n * 2 ^ 31 → n ≤ 2 ^ 24 → FitsSigned w32 w → FitsSigned w64 (s +ℤ w)
fits_more n s w few low fits =
    let next = small_more n s w few fits in
    fits_signed_from_abs w64 (s +ℤ w) (omega (arith, next, low))

pub small_by : (i n : ℕ) (s : ℤ) → ((m : ℕ) → n ≤ m * 2 ^ 31 → unsigned_abs s ≤ (m + 1) * 2 ^ 31) → n ≤ i * 2 ^ 31 → unsigned_abs s ≤ (i + 1) * 2 ^ 31
small_by i n s more few = more i few

-- ---- a column more

pub next_column : (j lld : ℕ) → j * lld + lld ≡ (j + 1) * lld
next_column j lld = grind arith

pub column_more : (c : LocalCells) (j : ℕ) (before sum result : ℤ) → before ≡ total (take (j * c.lld) c.words) → sum ≡ total (column_of c j) → result ≡ before +ℤ sum → result ≡ total (take ((j + 1) * c.lld) c.words)
column_more c j before sum result e is now =
    now ∙ ap₂ (λ (a b : ℤ). a +ℤ b) e is ∙ sym (total-append (take (j * c.lld) c.words) (column_of c j)) ∙ ap total (sym (take-add (j * c.lld) c.lld c.words)) ∙ ap (λ n. total (take n c.words)) (next_column j c.lld)

pub column_few : (lld j cols : ℕ) → j < cols → lld * cols ≤ 2 ^ 26 → j * lld ≤ 2 ^ 26
column_few lld j cols lt area = let le : j * lld ≤ lld * cols = grind arith in omega (arith, le, area)

-- ---- two sums

pub both_small : (a b : ℤ) → unsigned_abs (a +ℤ b) ≤ unsigned_abs a + unsigned_abs b
both_small a b = abs_plus a b

pub both_fit : (a b : ℤ) → unsigned_abs a ≤ 2 ^ 62 → unsigned_abs b ≤ 2 ^ 57 → FitsSigned w64 (a +ℤ b)
both_fit a b low more = let both = abs_plus a b in fits_signed_from_abs w64 (a +ℤ b) (omega (arith, both, low, more))

-- ---- an array

pub all_columns : (c : LocalCells) (s : ℤ) → IsLocalCells c → s ≡ total (take (c.cols * c.lld) c.words) → s ≡ total c.words
all_columns c s is e = e ∙ ap total (take_all (c.cols * c.lld) c.words (let flip : c.cols * c.lld ≡ c.lld * c.cols = grind arith in let count = is.count in omega (arith, flip, count)))

pub array_small : (lld cols : ℕ) (s : ℤ) → unsigned_abs s ≤ cols * lld * 2 ^ 31 → lld * cols ≤ 2 ^ 26 → unsigned_abs s ≤ 2 ^ 57
array_small lld cols s few area = let flip : cols * lld ≡ lld * cols = grind arith in omega (arith, few, area, flip)
