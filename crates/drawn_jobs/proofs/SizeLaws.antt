-- How many words the pieces of the job have.
use Rattle.std.specs.Prelude.{◌≡◌, ℕ, zero, suc, ◌+◌, ◌*◌, ◌/◌, ◌%◌, ◌<◌, ◌≤◌, Bool, true, false, cond, nat_eq, nat_lt, max, List, ◌∷◌, map}
use Rattle.std.specs.List.{range_with_len}
use Rattle.std.proofs.Common.{ap, ◌∙◌, arith}
use Rattle.std.proofs.Math.Nat.{mod-lt, mul-le-mul}
use Rattle.std.proofs.lemmas.List.Sums.{sum_by-cons}
use Rattle.index_tools.specs.Spread.{Spread, spread, below}
use Rattle.index_tools.proofs.Counts.{below_formula, distance}
use Rattle.mm_grammar.specs.Matrix.{Matrix}
use Rattle.piece_grammar.specs.Head.{Piece, array_words}
use Rattle.piece_grammar.specs.Pieces.{words_of}
use Rattle.piece_moves.specs.Distribution.{Distribution, head_over}
use Rattle.piece_moves.specs.PieceMove.{words_over}
use Rattle.drawn_jobs.specs.Dealing.{piece_at}
use Rattle.drawn_jobs.specs.Jobs.{first_grid, second_grid}

at_most : (b c : Bool) (n t q : ℕ) → t < n → q + cond b n 0 + cond c t 0 ≤ q + n + n
at_most b c n t q lt = by b c
  where
    by : (b c : Bool) → q + cond b n 0 + cond c t 0 ≤ q + n + n
    by true true = omega arith
    by true false = omega arith
    by false true = omega arith
    by false false = omega arith

-- a process has the blocks of whole turns, and at most two more
few_below : (block processes p n : ℕ) → 0 < block → 0 < processes → p < processes → below (spread block 0 processes) p n ≤ n / block / processes * block + block + block
few_below block processes p n hb hp lt =
    let s : Spread = spread block 0 processes in
    let formula = below_formula s p n hb hp lt in
    let part : n % block < block = mod-lt n hb in
    let most = at_most (nat_lt (distance 0 p processes) (n / block % processes)) (nat_eq (n / block % processes) (distance 0 p processes)) block (n % block) (n / block / processes * block) part in
    omega (arith, formula, most)

below_64_4 : (p n : ℕ) → p < 4 → n ≤ 2000 → below (spread 64 0 4) p n ≤ 576
below_64_4 p n lt few = let most = few_below 64 4 p n (omega arith) (omega arith) lt in omega (arith, most)

below_32_2 : (p n : ℕ) → p < 2 → n ≤ 2000 → below (spread 32 0 2) p n ≤ 1056
below_32_2 p n lt few = let most = few_below 32 2 p n (omega arith) (omega arith) lt in omega (arith, most)

below_32_8 : (p n : ℕ) → p < 8 → n ≤ 2000 → below (spread 32 0 8) p n ≤ 288
below_32_8 p n lt few = let most = few_below 32 8 p n (omega arith) (omega arith) lt in omega (arith, most)

area : (a b x y : ℕ) → a ≤ x → b ≤ y → 1 ≤ x → 1 ≤ y → max 1 a * max 1 b ≤ x * y
area a b x y ha hb hx hy = mul-le-mul (raised a x ha hx) (raised b y hb hy)
  where
    raised : (a x : ℕ) → a ≤ x → 1 ≤ x → max 1 a ≤ x
    raised a x le one = grind arith

-- each piece has at most so many words
abbrev pub IsFew : Distribution → ℕ → Type 0
IsFew d size = (k : ℕ) → k < d.nprow * d.npcol → array_words (head_over d size size k) ≤ 400000

pub first_few : (size : ℕ) → size ≤ 2000 → IsFew first_grid size
unfolding first_grid
first_few size le k lt =
    let rows = below_64_4 (k / 4) size (omega (arith, lt)) le in
    let columns = below_64_4 (k % 4) size (omega arith) le in
    let words = area (below (spread 64 0 4) (k / 4) size) (below (spread 64 0 4) (k % 4) size) 576 576 rows columns (omega arith) (omega arith) in
    omega (arith, words)

pub second_few : (size : ℕ) → size ≤ 2000 → IsFew second_grid size
unfolding second_grid
second_few size le k lt =
    let rows = below_32_2 (k / 8) size (omega (arith, lt)) le in
    let columns = below_32_8 (k % 8) size (omega arith) le in
    let words = area (below (spread 32 0 2) (k / 8) size) (below (spread 32 0 8) (k % 8) size) 1056 288 rows columns (omega arith) (omega arith) in
    omega (arith, words)

words_more : (p : Piece) (ps : List Piece) → words_of (p ∷ ps) ≡ array_words p.head + words_of ps
words_more p ps = sum_by-cons (λ (x : ℕ). x) (array_words p.head) (map (λ (q : Piece). array_words q.head) ps)

-- and so all of them
pub words_few : (d : Distribution) (m : Matrix) (a n : ℕ) → m.columns ≡ m.rows → IsFew d m.rows → a + n ≤ d.nprow * d.npcol → words_of (map (piece_at d m) (range_with_len a n)) ≤ n * 400000
words_few d m a zero square few lt = omega arith
words_few d m a (suc n) square few lt =
    let one = few a (omega (arith, lt)) in
    let here : array_words (head_over d m.rows m.columns a) ≡ array_words (head_over d m.rows m.rows a) = ap (λ c. array_words (head_over d m.rows c a)) square in
    let rest = words_few d m (a + 1) n square few (omega (arith, lt)) in
    let both = words_more (piece_at d m a) (map (piece_at d m) (range_with_len (a + 1) n)) in
    omega (arith, one, here, rest, both)

pub over_few : (d : Distribution) (rows columns size n : ℕ) → rows ≡ size → columns ≡ size → IsFew d size → n ≤ d.nprow * d.npcol → words_over rows columns d n ≤ n * 400000
unfolding words_over
over_few d rows columns size zero m is few lt = omega arith
over_few d rows columns size (suc n) m is few lt =
    let one = few n (omega (arith, lt)) in
    let here : array_words (head_over d rows columns n) ≡ array_words (head_over d size size n) = ap (λ r. array_words (head_over d r columns n)) m ∙ ap (λ c. array_words (head_over d size c n)) is in
    let rest = over_few d rows columns size n m is few (omega (arith, lt)) in
    omega (arith, one, here, rest)
