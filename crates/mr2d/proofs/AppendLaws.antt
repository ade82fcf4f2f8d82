-- One more operation of a list stands in the plan.
use Rattle.std.specs.Prelude.{◌≡◌, ℕ, ◌+◌, List, [], ◌∷◌, ◌++◌, length}
use Rattle.std.proofs.Common.{sym, ap, ◌∙◌, subst}
use Rattle.std.proofs.lemmas.List.{append_assoc, length-append}
use Rattle.msg_core.specs.Plans.{PlanView, Lens, no_lens, lens_by, lens_of, waiting_lens, IsInOrder, AllAmongRanks}
use Rattle.msg_core.proofs.GrowingPlans.{lens_end}
use Rattle.pack_words.specs.declared.rank_op.RankOp.{RankOp}
use Rattle.pack_words.specs.RankOps.{rank_kind}
use Rattle.pack_words.specs.GridState.{rank_steps}

pub all_more : (before now next list items rest : List (ℕ × RankOp)) (x : ℕ × RankOp) → items ≡ x ∷ rest → next ≡ now ++ x ∷ [] → now ++ items ≡ before ++ list → next ++ rest ≡ before ++ list
all_more before now next list items rest x a b h = ap (λ xs. xs ++ rest) b ∙ append_assoc now (x ∷ []) rest ∙ ap (λ xs. now ++ xs) (sym a) ∙ h

pub among_more : (ranks more : ℕ) (items rest : List (ℕ × RankOp)) (x : ℕ × RankOp) → items ≡ x ∷ rest → more ≡ ranks → AllAmongRanks rank_steps ranks items → AllAmongRanks rank_steps more rest
among_more ranks more items rest x a e h =
    let k : AllAmongRanks rank_steps ranks (x ∷ rest) = subst (λ (xs : List (ℕ × RankOp)). AllAmongRanks rank_steps ranks xs) a h in
    subst (λ (n : ℕ). AllAmongRanks rank_steps n rest) (sym e) k.3

pub order_more : (now next : PlanView RankOp) (items rest : List (ℕ × RankOp)) (x : ℕ × RankOp) → items ≡ x ∷ rest → next.steps ≡ now.steps ++ x ∷ [] → IsInOrder rank_steps items (waiting_lens rank_steps now) → IsInOrder rank_steps rest (waiting_lens rank_steps next)
order_more now next items rest x a b h =
    let k : IsInOrder rank_steps (x ∷ rest) (waiting_lens rank_steps now) = subst (λ (xs : List (ℕ × RankOp)). IsInOrder rank_steps xs (waiting_lens rank_steps now)) a h in
    let e : lens_of rank_steps next.steps no_lens ≡ lens_by (rank_kind x.1) x.0 (lens_of rank_steps now.steps no_lens) = ap (λ xs. lens_of rank_steps xs no_lens) b ∙ lens_end rank_steps now.steps x no_lens in
    subst (λ (q : Lens). IsInOrder rank_steps rest q) (sym e) k.1

pub length_more : (now next : List (ℕ × RankOp)) (x : ℕ × RankOp) → next ≡ now ++ x ∷ [] → length next ≡ length now + 1
length_more now next x e = ap length e ∙ length-append now (x ∷ [])
