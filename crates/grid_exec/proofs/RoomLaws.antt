-- The room of each rank, one operation more.
use Rattle.std.proofs.Common.{◌≡◌, ℕ, zero, suc, ◌+◌, ◌<◌, ◌≤◌, List, [], ◌∷◌, length, take, refl, sym, ap, subst, ◌∙◌, inl, inr, arith, add-one}
use Rattle.std.specs.Prelude.{◌⊎◌, ◌≢◌, max, cond, nat_eq, Some, slice_get, slice_set, slice_index_or, replicate}
use Rattle.std.proofs.lemmas.Bool.{cases_eq, eq-eqb, ne_eqb}
use Rattle.std.proofs.lemmas.List.{length-set, length-replicate, get_or-replicate, get_or-set_same, get_or-set_other}
use Rattle.pack_words.specs.declared.rank_op.RankOp.{RankOp}
use Rattle.pack_words.specs.RankOps.{IsWellMade, elements_used}
use Rattle.pack_words.specs.GridState.{scratch_needed, rank_steps}
use Rattle.msg_core.specs.Plans.{AllAmongRanks}
use Rattle.grid_exec.specs.Nodes.{AreRooms}

-- what an operation uses of rank r's accumulator
abbrev used_on : ℕ → ℕ × RankOp → ℕ
used_on r x = cond (nat_eq x.0 r) (elements_used x.1) 0

needed_suc : (r : ℕ) (xs : List (ℕ × RankOp)) (k : ℕ) (x : ℕ × RankOp) → slice_get xs k ≡ Some x → scratch_needed r (take (suc k) xs) ≡ max (scratch_needed r (take k xs)) (used_on r x)
needed_suc r [] k x e = cc
needed_suc r (y ∷ xs) zero x e = let same : y ≡ x = cc in subst (λ (z : ℕ × RankOp). max (used_on r y) 0 ≡ max 0 (used_on r z)) same (omega arith)
needed_suc r (y ∷ xs) (suc k) x e = let h = needed_suc r xs k x e in omega (arith, h)

needed_more : (r : ℕ) (xs : List (ℕ × RankOp)) (k : ℕ) (x : ℕ × RankOp) → slice_get xs k ≡ Some x → scratch_needed r (take (k + 1) xs) ≡ max (scratch_needed r (take k xs)) (used_on r x)
needed_more r xs k x e = ap (λ n. scratch_needed r (take n xs)) (add-one k) ∙ needed_suc r xs k x e

needed_all : (r : ℕ) (xs : List (ℕ × RankOp)) (k : ℕ) → length xs ≤ k → scratch_needed r (take k xs) ≡ scratch_needed r xs
needed_all r [] zero h = refl
needed_all r [] (suc k) h = refl
needed_all r (x ∷ xs) zero h = absurd (omega arith)
needed_all r (x ∷ xs) (suc k) h = ap (λ n. max (used_on r x) n) (needed_all r xs k (omega arith))

-- each operation is of one of the plan's ranks
pub rank_among : (ranks : ℕ) (xs : List (ℕ × RankOp)) (k : ℕ) (x : ℕ × RankOp) → AllAmongRanks rank_steps ranks xs → slice_get xs k ≡ Some x → x.0 < ranks
rank_among ranks [] k x all e = cc
rank_among ranks (y ∷ xs) zero x all e = let same : y ≡ x = cc in subst (λ (z : ℕ × RankOp). z.0 < ranks) same all.1
rank_among ranks (y ∷ xs) (suc k) x all e = rank_among ranks xs k x all.3 e

-- each operation is well made
pub made_among : (ranks : ℕ) (xs : List (ℕ × RankOp)) (k : ℕ) (x : ℕ × RankOp) → AllAmongRanks rank_steps ranks xs → slice_get xs k ≡ Some x → IsWellMade x.1
made_among ranks [] k x all e = cc
made_among ranks (y ∷ xs) zero x all e = let same : y ≡ x = cc in subst (λ (z : ℕ × RankOp). IsWellMade z.1) same all.0
made_among ranks (y ∷ xs) (suc k) x all e = made_among ranks xs k x all.3 e

-- no operation uses anything
pub no_rooms : (steps : List (ℕ × RankOp)) (rooms : List ℕ) (ranks : ℕ) → rooms ≡ replicate ranks 0 → AreRooms (take 0 steps) rooms
no_rooms steps rooms ranks e r lt =
    let below : r < ranks = subst (λ n. r < n) (ap length e ∙ length-replicate ranks 0) lt in
    ap (λ (xs : List ℕ). slice_index_or xs r 0) e ∙ get_or-replicate ranks r 0 0 below

-- one operation more
pub room_raised : (steps : List (ℕ × RankOp)) (rooms grown : List ℕ) (k used : ℕ) (x : ℕ × RankOp) → slice_get steps k ≡ Some x → used ≡ elements_used x.1 → x.0 < length rooms → grown ≡ slice_set rooms x.0 (max (slice_index_or rooms x.0 0) used)
    → AreRooms (take k steps) rooms → AreRooms (take (k + 1) steps) grown
room_raised steps rooms grown k used x at is lt e h r inside =
    ap (λ (xs : List ℕ). slice_index_or xs r 0) e ∙ at_rank (cases_eq r x.0) ∙ sym (needed_more r steps k x at)
  where
    raised : List ℕ
    raised = slice_set rooms x.0 (max (slice_index_or rooms x.0 0) used)

    before : slice_index_or rooms r 0 ≡ scratch_needed r (take k steps)
    before = h r (subst (λ n. r < n) (ap length e ∙ length-set rooms x.0 (max (slice_index_or rooms x.0 0) used)) inside)

    at_rank : (r ≡ x.0) ⊎ (r ≢ x.0) → slice_index_or raised r 0 ≡ max (scratch_needed r (take k steps)) (used_on r x)
    at_rank (inl same) =
        let here : slice_index_or raised r 0 ≡ max (slice_index_or rooms x.0 0) used = ap (λ n. slice_index_or raised n 0) same ∙ get_or-set_same rooms x.0 (max (slice_index_or rooms x.0 0) used) 0 lt in
        let mine : used_on r x ≡ used = ap (λ b. cond b (elements_used x.1) 0) (eq-eqb x.0 r (sym same)) ∙ sym is in
        here ∙ ap (λ n. max n used) (ap (λ n. slice_index_or rooms n 0) (sym same) ∙ before) ∙ ap (λ n. max (scratch_needed r (take k steps)) n) (sym mine)
    at_rank (inr other) =
        let there : slice_index_or raised r 0 ≡ slice_index_or rooms r 0 = get_or-set_other rooms x.0 r (max (slice_index_or rooms x.0 0) used) 0 other in
        let none : used_on r x ≡ 0 = ap (λ b. cond b (elements_used x.1) 0) (ne_eqb x.0 r (λ e. other (sym e))) in
        there ∙ before ∙ omega (arith, none)

pub all_rooms : (steps : List (ℕ × RankOp)) (rooms : List ℕ) (k : ℕ) → length steps ≤ k → AreRooms (take k steps) rooms → AreRooms steps rooms
all_rooms steps rooms k le h r lt = h r lt ∙ needed_all r steps k le
