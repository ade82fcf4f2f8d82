-- Sizes that a local array may have.
use Rattle.std.proofs.Common.{◌≡◌, ℕ, zero, suc, ◌*◌, ◌^◌, ◌<◌, ◌≤◌, ◌||◌, nat_eq, nat_lt, max, Bool, true, false, cond, Some, None, refl, sym, subst, arith}
use Rattle.std.proofs.lemmas.Bool.{le-ltb, eqb-true, eqb-false}
use Rattle.std.proofs.Math.Arith.{lt_of_le-ne}
use Rattle.std.proofs.Math.Dec.{eqb-suc-zero}
use Rattle.index_tools.specs.Spread.{spread, below}
use Rattle.index_tools.proofs.HomeLemmas.{below_le}
use Rattle.pack_words.specs.ArrayRefusal.{array_refusal}
use Rattle.pack_words.specs.declared.array_err.ArrayErr.{ArrayErr}
use Rattle.piece_grammar.specs.Head.{array_columns, array_words}
use Rattle.piece_moves.specs.Distribution.{Distribution, head_over}
use Rattle.piece_moves.specs.PieceMove.{words_over}
use Rattle.piece_moves.proofs.WordCounts.{next_words}

neither : (a b : Bool) → a ≡ false → b ≡ false → (a || b) ≡ false
neither true b h e = h
neither false b h e = e

some : (n : ℕ) → 1 ≤ n → nat_eq n 0 ≡ false
some zero h = absurd (omega arith)
some (suc n) h = eqb-suc-zero n

chosen : (a b : Bool) (x y : ArrayErr) → a ≡ false → b ≡ false → cond a (Some x) (cond b (Some y) None) ≡ None
chosen true b x y h e = cc
chosen false true x y h e = cc
chosen false false x y h e = refl

pub accepted : (lld columns : ℕ) → 1 ≤ lld → lld ≤ 2 ^ 24 → lld * columns ≤ 2 ^ 26 → array_refusal lld columns ≡ None
accepted lld columns low high area = chosen (nat_eq lld 0 || nat_lt (2 ^ 24) lld) (nat_lt (2 ^ 26) (lld * columns)) _ _ (neither (nat_eq lld 0) (nat_lt (2 ^ 24) lld) (some lld low) (le-ltb (2 ^ 24) lld high)) (le-ltb (2 ^ 26) (lld * columns) area)

-- the words of one piece are among those of all
last_or_before : (rows columns : ℕ) (d : Distribution) (k n : ℕ) → k < suc n → (k < n → array_words (head_over d rows columns k) ≤ words_over rows columns d n) → (b : Bool) → nat_eq k n ≡ b → array_words (head_over d rows columns k) ≤ words_over rows columns d (suc n)
last_or_before rows columns d k n lt before true e =
    let same : k ≡ n = eqb-true k n e in
    let last : array_words (head_over d rows columns n) ≤ words_over rows columns d (suc n) = omega (arith, next_words rows columns d n) in
    subst (λ (j : ℕ). array_words (head_over d rows columns j) ≤ words_over rows columns d (suc n)) (sym same) last
last_or_before rows columns d k n lt before false e =
    let low : k ≤ n = omega (arith, lt) in
    let held = before (lt_of_le-ne low (eqb-false k n e)) in
    omega (arith, held, next_words rows columns d n)

pub one_fits : (rows columns : ℕ) (d : Distribution) (k n : ℕ) → k < n → array_words (head_over d rows columns k) ≤ words_over rows columns d n
one_fits rows columns d k zero lt = absurd (omega arith)
one_fits rows columns d k (suc n) lt = last_or_before rows columns d k n lt (one_fits rows columns d k n) (nat_eq k n) refl

at_least : (n : ℕ) → 1 ≤ max 1 n
at_least n = omega arith

no_larger : (n m : ℕ) → n ≤ m → m ≤ 2 ^ 24 → max 1 n ≤ 2 ^ 24
no_larger n m h k = omega arith

-- each piece of a distribution has an array
pub piece_accepted : (rows columns : ℕ) (d : Distribution) (k n : ℕ) → k < n → rows ≤ 2 ^ 24 → words_over rows columns d n ≤ 2 ^ 26 → array_refusal (head_over d rows columns k).lld (array_columns (head_over d rows columns k)) ≡ None
piece_accepted rows columns d k n lt fit few =
    let one = one_fits rows columns d k n lt in
    let held = below_le (spread d.mb 0 d.nprow) (head_over d rows columns k).prow rows in
    accepted (head_over d rows columns k).lld (array_columns (head_over d rows columns k)) (at_least _) (no_larger (below (spread d.mb 0 d.nprow) (head_over d rows columns k).prow rows) rows held fit) (omega (arith, one, few))
