-- The operations of a run are a common order of the lists.
use Rattle.std.proofs.Common.{◌≡◌, ℕ, suc, ◌+◌, true, false, IsTrue, Option, Some, None, List, [], ◌∷◌, ◌++◌, slice_get, drop, sym, refl, ap, ◌∙◌, subst, arith, inl, inr}
use Rattle.std.proofs.lemmas.Bool.Decides.{eqb_tells}
use Rattle.std.proofs.lemmas.List.{append-nil}
use Rattle.std.proofs.Math.ListN.{drop_of_length-le}
use Rattle.machine.specs.declared.kind.Kind.{Kind}
use Rattle.machine.specs.declared.kind.Kind.TheVariants.{Send, Recv, Local}
use Rattle.machine.specs.Queues.{Lens, no_lens, lens_by}
use Rattle.machine.specs.Machine.{IsFed, Lists, Done, none_done, Rules, fitting_rules, takes_first, can_by, can_next, step, after, next, queue, can_step, IsAtEnd, IsRunFrom, IsRun}
use Rattle.machine.specs.Orders.{own, ranks_of, FitsLens, IsOrderFrom, IsOrder, with_next, order_from, order_of}
use Rattle.machine.proofs.Alike.{same_lens}
use Rattle.machine.proofs.Pairs.{rank_cases, rank_else}
use Rattle.machine.proofs.Lists.{drop_at, get_past}
use Rattle.machine.proofs.Confluence.{some_or_none}
use Rattle.machine.proofs.Stepping.{none_fed, queue_step, fed_step}
use Rattle.machine.proofs.Orders.{own_here, own_else, none_waits}

differ : false ≡ true → ⊥
differ e = cc

-- queues of the same lengths
order_same : (xs : List (ℕ × Kind)) (p q : Lens) → ((i j : ℕ) → p i j ≡ q i j) → IsOrderFrom xs p → IsOrderFrom xs q
order_same xs p q same h = subst (λ (x : Lens). IsOrderFrom xs x) (same_lens p q same) h

module _ (lists : Lists) (rules : Rules) (exact : (have want : ℕ) → IsTrue (rules.accepts have want) → have ≡ want) where
  fits_can : (k : Kind) (r : ℕ) (q : Lens) → IsTrue (can_by rules k r q) → FitsLens k r q
  fits_can (Send to len) r q can = tt
  fits_can (Recv from len) r q can = first (slice_get (q from r) 0) can
    where
      first : (m : Option ℕ) → IsTrue (takes_first rules.accepts m len) → m ≡ Some len
      first None h = absurd (differ h)
      first (Some have) h = ap (λ n. Some n) (exact have len h)
  fits_can Local r q can = tt

  next_can : (d : Done) (r : ℕ) (k : Kind) → next lists d r ≡ Some k → IsTrue (can_step lists rules d r) → IsTrue (can_by rules k r (queue lists d))
  next_can d r k e can = ap (λ m. can_next rules m r (queue lists d)) (sym e) ∙ can

  pub run_order : (trace : List ℕ) (d : Done) → IsFed lists d → IsRunFrom lists rules trace d → IsOrderFrom (order_from lists trace d) (queue lists d)
  run_order [] d fed run = tt
  run_order (r ∷ rs) d fed run = elim (some_or_none (next lists d r)) [
    | inl e ↦ absurd (differ (ap (λ m. can_next rules m r (queue lists d)) (sym e) ∙ run.0))
    | inr e ↦
        let can = next_can d r e.0 e.1 run.0 in
        let rest = run_order rs (step d r) (fed_step lists rules d r e.0 e.1 fed can) run.1 in
        subst (λ (m : Option Kind). IsOrderFrom (with_next r m (order_from lists rs (step d r))) (queue lists d)) (sym e.1)
        (fits_can e.0 r (queue lists d) can, order_same (order_from lists rs (step d r)) (queue lists (step d r)) (lens_by e.0 r (queue lists d)) (queue_step lists rules d r e.0 e.1 fed can) rest)
  ]

  -- each rank does its own operations, in its order
  pub run_own : (trace : List ℕ) (d : Done) → IsRunFrom lists rules trace d → (r : ℕ) → own r (order_from lists trace d) ++ drop (after trace d r) (lists r) ≡ drop (d r) (lists r)
  run_own [] d run r = refl
  run_own (x ∷ xs) d run r = elim (some_or_none (next lists d x)) [
    | inl e ↦ absurd (differ (ap (λ m. can_next rules m x (queue lists d)) (sym e) ∙ run.0))
    | inr e ↦
        let tail : List (ℕ × Kind) = order_from lists xs (step d x) in
        let rest = run_own xs (step d x) run.1 r in
        let is : own r (order_from lists (x ∷ xs) d) ≡ own r ((x, e.0) ∷ tail) = ap (λ m. own r (with_next x m tail)) e.1 in
        elim (eqb_tells x r) [
          | inl h ↦
              let now : step d x r ≡ suc (d r) = elim (rank_cases d x (d x + 1) r) [ inl q ↦ absurd (q.0 (sym h.1)) | inr q ↦ (let s = ap d h.1 in omega (arith, q.1, s)) ] in
              let here : slice_get (lists r) (d r) ≡ Some e.0 = ap (λ i. slice_get (lists i) (d i)) (sym h.1) ∙ e.1 in
              ap (λ l. l ++ drop (after xs (step d x) r) (lists r)) (is ∙ own_here r (x, e.0) tail h.1)
              ∙ (ap (λ l. e.0 ∷ l) (rest ∙ ap (λ n. drop n (lists r)) now) ∙ sym (drop_at (lists r) (d r) e.0 here))
          | inr h ↦
              ap (λ l. l ++ drop (after xs (step d x) r) (lists r)) (is ∙ own_else r (x, e.0) tail h.1)
              ∙ (rest ∙ ap (λ n. drop n (lists r)) (rank_else d x (d x + 1) r (λ q. h.1 (sym q))))
        ]
  ]

-- a run of the fitting rules that ends all ranks is a plan with the lists as its ranks' own operations
same_exact : (have want : ℕ) → IsTrue (fitting_rules.accepts have want) → have ≡ want
same_exact have want h = elim (eqb_tells have want) [ inl t ↦ t.1 | inr t ↦ absurd (differ (sym t.0 ∙ h)) ]

pub run_is_order : (lists : Lists) (trace : List ℕ) → IsRun lists fitting_rules trace → IsOrder (order_of lists trace)
run_is_order lists trace run = order_same (order_of lists trace) (queue lists none_done) no_lens (none_waits lists) (run_order lists fitting_rules same_exact trace none_done (none_fed lists) run)

pub run_own_lists : (lists : Lists) (trace : List ℕ) → IsRun lists fitting_rules trace → ((r : ℕ) → IsAtEnd lists (after trace none_done) r) → (r : ℕ) → own r (order_of lists trace) ≡ lists r
run_own_lists lists trace run ends r =
    let all = run_own lists fitting_rules same_exact trace none_done run r in
    let past = get_past (lists r) (after trace none_done r) (ends r) in
    sym (append-nil (own r (order_of lists trace))) ∙ (ap (λ l. own r (order_of lists trace) ++ l) (sym (drop_of_length-le (lists r) past)) ∙ all)
