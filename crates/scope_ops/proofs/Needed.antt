-- The most that a rank's operations use, one operation more.
use Rattle.std.specs.Prelude.{◌≡◌, ℕ, zero, suc, ◌+◌, ◌<◌, ◌≤◌, max, cond, nat_eq, Some, List, [], ◌∷◌, length, take, slice_get}
use Rattle.std.proofs.Common.{ap, ◌∙◌, refl, subst, arith, add-one}
use Rattle.pack_words.specs.declared.rank_op.RankOp.{RankOp}
use Rattle.pack_words.specs.RankOps.{elements_used}
use Rattle.pack_words.specs.GridState.{scratch_needed, rank_steps}
use Rattle.msg_core.specs.Plans.{AllAmongRanks}
use Rattle.pack_words.specs.RankOps.{IsWellMade}
use Rattle.scope_ops.specs.Scratch.{used_by}

needed_suc : (r : ℕ) (xs : List (ℕ × RankOp)) (k : ℕ) → k < length xs → scratch_needed r (take (suc k) xs) ≡ max (scratch_needed r (take k xs)) (used_by r (slice_get xs k))
needed_suc r [] k lt = absurd (omega arith)
needed_suc r (x ∷ xs) zero lt = omega arith
needed_suc r (x ∷ xs) (suc k) lt = let h = needed_suc r xs k (omega arith) in omega (arith, h)

pub needed_more : (r : ℕ) (xs : List (ℕ × RankOp)) (k : ℕ) → k < length xs → scratch_needed r (take (k + 1) xs) ≡ max (scratch_needed r (take k xs)) (used_by r (slice_get xs k))
needed_more r xs k lt = ap (λ n. scratch_needed r (take n xs)) (add-one k) ∙ needed_suc r xs k lt

pub needed_all : (r : ℕ) (xs : List (ℕ × RankOp)) (k : ℕ) → length xs ≤ k → scratch_needed r (take k xs) ≡ scratch_needed r xs
needed_all r [] zero h = refl
needed_all r [] (suc k) h = refl
needed_all r (x ∷ xs) zero h = absurd (omega arith)
needed_all r (x ∷ xs) (suc k) h = ap (λ n. max (cond (nat_eq x.0 r) (elements_used x.1) 0) n) (needed_all r xs k (omega arith))

-- each operation of a plan is well made
pub made_at : (ranks : ℕ) (xs : List (ℕ × RankOp)) (k : ℕ) (x : ℕ × RankOp) → AllAmongRanks rank_steps ranks xs → slice_get xs k ≡ Some x → IsWellMade x.1
made_at ranks [] k x all e = cc
made_at ranks (y ∷ xs) zero x all e = let same : y ≡ x = cc in subst (λ (z : ℕ × RankOp). IsWellMade z.1) same all.0
made_at ranks (y ∷ xs) (suc k) x all e = made_at ranks xs k x all.3 e
