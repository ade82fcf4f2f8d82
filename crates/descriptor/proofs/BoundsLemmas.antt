-- Bounds of single entries.
use Rattle.std.proofs.Common.{◌≡◌, ℕ, zero, suc, ◌+◌, ◌-◌, ◌*◌, ◌/◌, ◌^◌, ◌<◌, ◌==◌, ◌||◌, not, nat_lt, List, length, slice_index_or, ◌⊎◌, inl, inr, Bool, true, false, ℤ, pos, negsuc, refl, subst, arith}
use Rattle.std.proofs.lemmas.Bool.Decides.{nat_tests}
use Rattle.descriptor.specs.Bounds.{is_outside, starts_outside, some_below, least_lld, has_bad_lld}

start_left : (n extent whole : ℕ) → (nat_lt n 1 || nat_lt whole (n + extent - 1)) ≡ (nat_lt n 1 || nat_lt (whole + 1 - extent) n)
start_left n extent whole = grind (arith, nat_tests)

-- a start that is at least 1 and at most what is left
pub starts_within : (start : ℤ) (extent whole : ℕ) → starts_outside start (pos extent) (pos whole) ≡ is_outside start 1 (whole + 1 - extent)
unfolding starts_outside is_outside
starts_within (pos n) extent whole = start_left n extent whole
starts_within (negsuc n) extent whole = refl

-- One test that passes is enough.
pub some_below-passes : (test : ℕ → Bool) (k n : ℕ) → k < n → test k ≡ true → some_below test n ≡ true
unfolding some_below
some_below-passes test k zero l h = absurd (omega arith)
some_below-passes test k (suc n) l h = pick (some_below test n) (λ low. some_below-passes test k n low h) (either k n l)
  where
    either : (k n : ℕ) → k < suc n → (k < n) ⊎ (k ≡ n)
    either k n l = grind arith

    second : (a b : Bool) → b ≡ true → (a || b) ≡ true
    second true b h = refl
    second false b h = h

    first : (a b : Bool) → a ≡ true → (a || b) ≡ true
    first true b h = refl
    first false b h = cc

    pick : (a : Bool) → (k < n → a ≡ true) → (k < n) ⊎ (k ≡ n) → (a || test n) ≡ true
    pick a before (inl low) = first a (test n) (before low)
    pick a before (inr e) = second a (test n) (subst (λ m. test m ≡ true) e h)

-- One test more that doesn't pass.
pub some_below-more : (test : ℕ → Bool) (n : ℕ) → some_below test n ≡ false → test n ≡ false → some_below test (n + 1) ≡ false
unfolding some_below
some_below-more test n h e = subst (λ m. some_below test m ≡ false) (let s : suc n ≡ n + 1 = omega arith in s) (neither _ _ h e)
  where
    neither : (a b : Bool) → a ≡ false → b ≡ false → (a || b) ≡ false
    neither true b h e = h
    neither false b h e = e

-- No test passes, so each one doesn't.
pub some_below-each : (test : ℕ → Bool) (k n : ℕ) → some_below test n ≡ false → k < n → test k ≡ false
some_below-each test k n h l = by_test (test k) refl
  where
    apart : {b : Bool} → b ≡ true → b ≡ false → ⊥
    apart f g = cc

    by_test : (b : Bool) → test k ≡ b → test k ≡ false
    by_test true e = absurd (apart (some_below-passes test k n l e) h)
    by_test false e = e

-- the test of one process's leading dimension
abbrev pub bad_at : List ℤ → ℕ → ℕ → ℕ → ℕ → ℕ → ℕ → Bool
bad_at llds rows block source nprow npcol k = is_outside (slice_index_or llds k (pos 0)) (least_lld rows block source nprow (k / npcol)) (2 ^ 24)

-- a list of another length
pub has_bad_lld-length : (llds : List ℤ) (rows block source nprow npcol : ℕ) → (length llds ≡ nprow * npcol → ⊥) → has_bad_lld llds rows block source nprow npcol ≡ true
unfolding has_bad_lld
has_bad_lld-length llds rows block source nprow npcol h = first (length llds) (nprow * npcol) _ h
  where
    first : (a b : ℕ) (c : Bool) → (a ≡ b → ⊥) → (not (a == b) || c) ≡ true
    first a b c h = grind (arith, nat_tests)

-- a leading dimension that is too small or too large
pub has_bad_lld-at : (llds : List ℤ) (rows block source nprow npcol k : ℕ) → k < nprow * npcol → bad_at llds rows block source nprow npcol k ≡ true → has_bad_lld llds rows block source nprow npcol ≡ true
unfolding has_bad_lld
has_bad_lld-at llds rows block source nprow npcol k l h = second _ _ (some_below-passes (bad_at llds rows block source nprow npcol) k (nprow * npcol) l h)
  where
    second : (a b : Bool) → b ≡ true → (a || b) ≡ true
    second true b h = refl
    second false b h = h

-- none
pub has_bad_lld-none : (llds : List ℤ) (rows block source nprow npcol : ℕ) → length llds ≡ nprow * npcol → some_below (bad_at llds rows block source nprow npcol) (nprow * npcol) ≡ false → has_bad_lld llds rows block source nprow npcol ≡ false
unfolding has_bad_lld
has_bad_lld-none llds rows block source nprow npcol size h = neither (length llds) (nprow * npcol) _ size h
  where
    neither : (a b : ℕ) (c : Bool) → a ≡ b → c ≡ false → (not (a == b) || c) ≡ false
    neither a b c e h = grind (arith, nat_tests)
