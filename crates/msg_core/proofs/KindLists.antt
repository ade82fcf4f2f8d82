-- A plan's operations and their kinds.
use Rattle.std.proofs.Common.{◌≡◌, ℕ, zero, suc, ◌+◌, arith, Some, inl, inr, List, [], ◌∷◌, ◌++◌, length, slice_get, sym, refl, ap, ◌∙◌}
use Rattle.std.proofs.lemmas.Bool.Decides.{eqb_tells}
use Rattle.machine.specs.declared.kind.Kind.{Kind}
use Rattle.machine.specs.declared.kind.Kind.TheVariants.{Send, Recv, Local}
use Rattle.machine.specs.Queues.{Lens, lens_by, lens_with, lens_to}
use Rattle.machine.specs.Queues.{takes_from as received}
use Rattle.machine.specs.Orders.{IsOrderFrom, lens_after, messages_of, receives_of}
use Rattle.msg_core.specs.Counts.{send_count, take_count, sends_to, takes_from}
use Rattle.msg_core.specs.declared.node.Step.{Ghosts as StepOf}
use Rattle.msg_core.specs.InOrder.{own}
use Rattle.msg_core.specs.Plans.{IsInOrder, lens_of}
use Rattle.msg_core.specs.Kinds.{kinds_of, lists_of}
use Rattle.machine.proofs.Orders.{own_here, own_else}

module _ {Op : Type 0} (t : StepOf Op) where
  -- the own operations of a rank and their kinds
  pub own_kinds : (steps : List (ℕ × Op)) (r k : ℕ) (o : Op) → slice_get (own r steps) k ≡ Some o → slice_get (lists_of t steps r) k ≡ Some (t.kind_of o)
  own_kinds [] r k o e = cc
  own_kinds (x ∷ xs) r k o e = elim (eqb_tells x.0 r) [
    | inl h ↦ ap (λ l. slice_get l k) (own_here r (x.0, t.kind_of x.1) (kinds_of t xs) h.1) ∙ first (λ j f. own_kinds xs r j o f) k (ap (λ l. slice_get l k) (sym (own_here r x xs h.1)) ∙ e)
    | inr h ↦ ap (λ l. slice_get l k) (own_else r (x.0, t.kind_of x.1) (kinds_of t xs) h.1) ∙ own_kinds xs r k o (ap (λ l. slice_get l k) (sym (own_else r x xs h.1)) ∙ e)
  ]
    where
      first : ((j : ℕ) → slice_get (own r xs) j ≡ Some o → slice_get (lists_of t xs r) j ≡ Some (t.kind_of o)) → (j : ℕ) → slice_get (x.1 ∷ own r xs) j ≡ Some o → slice_get (t.kind_of x.1 ∷ lists_of t xs r) j ≡ Some (t.kind_of o)
      first rest zero f = let same : x.1 ≡ o = cc in ap (λ p. Some (t.kind_of p)) same
      first rest (suc j) f = rest j f

  pub own_long : (steps : List (ℕ × Op)) (r : ℕ) → length (lists_of t steps r) ≡ length (own r steps)
  own_long [] r = refl
  own_long (x ∷ xs) r =
      let rest = own_long xs r in
      elim (eqb_tells x.0 r) [
        | inl h ↦ ap length (own_here r (x.0, t.kind_of x.1) (kinds_of t xs) h.1) ∙ (ap suc rest ∙ ap length (sym (own_here r x xs h.1)))
        | inr h ↦ ap length (own_else r (x.0, t.kind_of x.1) (kinds_of t xs) h.1) ∙ (rest ∙ ap length (sym (own_else r x xs h.1)))
      ]

  pub kinds_long : (steps : List (ℕ × Op)) → length (kinds_of t steps) ≡ length steps
  kinds_long [] = refl
  kinds_long (x ∷ xs) = ap suc (kinds_long xs)

  -- a plan is an order of kinds
  pub order_of : (steps : List (ℕ × Op)) (q : Lens) → IsInOrder t steps q → IsOrderFrom (kinds_of t steps) q
  order_of [] q h = tt
  order_of (x ∷ xs) q h = (h.0, order_of xs (lens_by (t.kind_of x.1) x.0 q) h.1)

  pub kinds_end : (xs : List (ℕ × Op)) (x : ℕ × Op) → kinds_of t (xs ++ x ∷ []) ≡ kinds_of t xs ++ (x.0, t.kind_of x.1) ∷ []
  kinds_end [] x = refl
  kinds_end (y ∷ xs) x = ap (λ l. (y.0, t.kind_of y.1) ∷ l) (kinds_end xs x)

  pub lens_kinds : (xs : List (ℕ × Op)) (q : Lens) → lens_of t xs q ≡ lens_after (kinds_of t xs) q
  lens_kinds [] q = refl
  lens_kinds (x ∷ xs) q = lens_kinds xs (lens_by (t.kind_of x.1) x.0 q)

  -- all sends of a pair are its messages
  pub sends_all : (steps : List (ℕ × Op)) (i j : ℕ) → sends_to t j (length (own i steps)) (own i steps) ≡ messages_of (kinds_of t steps) i j
  sends_all [] i j = refl
  sends_all (x ∷ xs) i j =
      let rest = sends_all xs i j in
      elim (eqb_tells x.0 i) [
        | inl h ↦
            ap (λ os. sends_to t j (length os) os) (own_here i x xs h.1)
            ∙ (ap (λ n. send_count (t.kind_of x.1) j + n) rest ∙ (one (t.kind_of x.1) j (lens_to j (lists_of t xs i)) ∙ ap (λ ks. length (lens_to j ks)) (sym (own_here i (x.0, t.kind_of x.1) (kinds_of t xs) h.1))))
        | inr h ↦ ap (λ os. sends_to t j (length os) os) (own_else i x xs h.1) ∙ (rest ∙ ap (λ ks. length (lens_to j ks)) (sym (own_else i (x.0, t.kind_of x.1) (kinds_of t xs) h.1)))
      ]
    where
      one : (K : Kind) (j : ℕ) (lens : List ℕ) → send_count K j + length lens ≡ length (lens_with K j lens)
      one (Send to len) j lens = elim (eqb_tells to j) [ inl h ↦ rw h.0 (omega arith) | inr h ↦ rw h.0 (omega arith) ]
      one (Recv from len) j lens = omega arith
      one Local j lens = omega arith

  -- and all its receives
  pub takes_all : (steps : List (ℕ × Op)) (i j : ℕ) → takes_from t i (length (own j steps)) (own j steps) ≡ receives_of (kinds_of t steps) i j
  takes_all [] i j = refl
  takes_all (x ∷ xs) i j =
      let rest = takes_all xs i j in
      elim (eqb_tells x.0 j) [
        | inl h ↦
            ap (λ os. takes_from t i (length os) os) (own_here j x xs h.1)
            ∙ (ap (λ n. take_count (t.kind_of x.1) i + n) rest ∙ ap (λ ks. received i ks) (sym (own_here j (x.0, t.kind_of x.1) (kinds_of t xs) h.1)))
        | inr h ↦ ap (λ os. takes_from t i (length os) os) (own_else j x xs h.1) ∙ (rest ∙ ap (λ ks. received i ks) (sym (own_else j (x.0, t.kind_of x.1) (kinds_of t xs) h.1)))
      ]
