-- Steps of two ranks: each can still be done after the other, and their order doesn't matter.
use Rattle.std.proofs.Common.{◌≡◌, ◌≢◌, ℕ, ◌+◌, ◌≤◌, Bool, true, false, IsTrue, ◌⊎◌, List, [], ◌∷◌, ◌++◌, sym, refl, ap, ◌∙◌, subst, arith, inl, inr}
use Rattle.machine.specs.Machine.{Lists, Done, Rules, step, after, can_step, IsRunFrom}
use Rattle.machine.proofs.Alike.{same_done}
use Rattle.machine.proofs.Pairs.{rank_cases, rank_here, rank_else}
use Rattle.machine.proofs.Confluence.{as_wide, can_still}

pub either : (b : Bool) → (b ≡ true) ⊎ (b ≡ false)
either true = inl refl
either false = inr refl

differ : false ≡ true → ⊥
differ e = cc

pub steps_more : (d : Done) (r i : ℕ) → d i ≤ step d r i
steps_more d r i = elim (rank_cases d r (d r + 1) i) [ inl h ↦ omega (arith, h.1) | inr h ↦ (let s = ap d h.0 in omega (arith, h.1, s)) ]

steps_commute : (d : Done) (a b : ℕ) → a ≢ b → (i : ℕ) → step (step d a) b i ≡ step (step d b) a i
steps_commute d a b ne i =
    let ab = rank_else d a (d a + 1) b (λ e. ne (sym e)) in
    let ba = rank_else d b (d b + 1) a ne in
    elim (rank_cases (step d a) b (step d a b + 1) i) [
      | inl h ↦ elim (rank_cases d a (d a + 1) i) [
        | inl k ↦
            let x = rank_else (step d b) a (step d b a + 1) i k.0 in
            let y = rank_else d b (d b + 1) i h.0 in
            omega (arith, h.1, k.1, x, y)
        | inr k ↦
            let x = ap (step (step d b) a) k.0 ∙ rank_here (step d b) a (step d b a + 1) in
            omega (arith, h.1, k.1, x, ba)
      ]
      | inr h ↦
          let x = rank_else (step d b) a (step d b a + 1) i (λ e. ne (sym e ∙ h.0)) in
          let y = ap (step d b) h.0 ∙ rank_here d b (d b + 1) in
          omega (arith, h.1, x, y, ab)
    ]

-- steps of two ranks commute
pub commute : (d : Done) (a b : ℕ) → a ≢ b → step (step d a) b ≡ step (step d b) a
commute d a b ne = same_done (step (step d a) b) (step (step d b) a) (steps_commute d a b ne)

module _ (lists : Lists) (rules : Rules) where
  -- a step of one rank takes nothing from what another can do, whatever the capacities
  pub still_after : (d : Done) (a b : ℕ) → a ≢ b → IsTrue (can_step lists rules d a) → IsTrue (can_step lists rules (step d b) a)
  still_after d a b ne can = can_still lists rules rules (as_wide rules) d (step d b) a (sym (rank_else d b (d b + 1) a ne)) (steps_more d b) can

pub after_append : (xs ys : List ℕ) (d : Done) → after (xs ++ ys) d ≡ after ys (after xs d)
after_append [] ys d = refl
after_append (x ∷ xs) ys d = after_append xs ys (step d x)

module _ (lists : Lists) (rules : Rules) where
  pub run_append : (xs ys : List ℕ) (d : Done) → IsRunFrom lists rules xs d → IsRunFrom lists rules ys (after xs d) → IsRunFrom lists rules (xs ++ ys) d
  run_append [] ys d a b = b
  run_append (x ∷ xs) ys d a b = (a.0, run_append xs ys (step d x) a.1 b)
