-- One size for every rank.
use Rattle.std.proofs.Common.{◌≡◌, ℕ, zero, suc, ◌+◌, ◌*◌, ◌^◌, ◌<◌, ◌≤◌, ◌∙◌, refl, sym, ap, arith, replicate}
use Rattle.std.specs.Prelude.{slice_index_or}
use Rattle.std.specs.List.{AllByRecursion}
use Rattle.std.proofs.lemmas.List.Sums.{sum_by-cons}
use Rattle.pack_words.specs.GridShapes.{IsSize}
use Rattle.program_meaning.specs.Declarations.{words_in}
use Rattle.line_plans.specs.Fitting.{AreAlike}

pub all_sizes_alike : (n lld cols : ℕ) → 1 ≤ lld → lld ≤ 2 ^ 24 → lld * cols ≤ 2 ^ 26 → AllByRecursion IsSize (replicate n (lld, cols))
all_sizes_alike zero lld cols a b c = tt
all_sizes_alike (suc n) lld cols a b c = (record { lead_above_zero = a; lead_fits = b; area_fits = c }, all_sizes_alike n lld cols a b c)

pub words_alike : (n lld cols : ℕ) → words_in (replicate n (lld, cols)) ≡ n * (lld * cols)
words_alike zero lld cols = let z : 0 ≡ 0 * (lld * cols) = grind arith in z
words_alike (suc n) lld cols = sum_by-cons (λ (size : ℕ × ℕ). size.0 * size.1) (lld, cols) (replicate n (lld, cols)) ∙ ap (λ m. lld * cols + m) (words_alike n lld cols) ∙ more n (lld * cols)
  where
    more : (n area : ℕ) → area + n * area ≡ suc n * area
    more n area = grind arith

one_size : (n r : ℕ) (size : ℕ × ℕ) → r < n → slice_index_or (replicate n size) r (1, 0) ≡ size
one_size zero r size lt = absurd (omega arith)
one_size (suc n) zero size lt = refl
one_size (suc n) (suc r) size lt = one_size n r size (omega arith)

pub are_alike : (n lld cols : ℕ) → AreAlike n (replicate n (lld, cols))
are_alike n lld cols r lt = one_size n r (lld, cols) lt ∙ sym (one_size n 0 (lld, cols) (omega arith))
