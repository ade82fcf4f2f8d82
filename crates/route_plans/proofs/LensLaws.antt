-- The lengths of the messages that wait after steps along edges.
use Rattle.std.proofs.Common.{◌≡◌, ◌≢◌, ℕ, ◌<◌, Some, List, [], ◌∷◌, ◌++◌, drop, take, refl, sym, ap, ◌∙◌, subst, inl, inr, ◌⊎◌}
use Rattle.std.specs.Prelude.{slice_get}
use Rattle.msg_core.specs.Kinds.{Kind}
use Rattle.msg_core.specs.Kinds.{Send, Recv}
use Rattle.msg_core.specs.declared.node.Step.{Ghosts as StepOf}
use Rattle.msg_core.specs.Plans.{Lens, no_lens, lens_by, lens_of, FitsLens, IsInOrder}
use Rattle.msg_core.proofs.Pairs.{at_cases, at_here, at_else}
use Rattle.msg_core.proofs.GrowingPlans.{lens_join}
use Rattle.route_tree.specs.Routes.{IsRoute}
use Rattle.route_laws.specs.Passing.{turned}
use Rattle.route_laws.proofs.Edges.{EachEdge}
use Rattle.route_laws.proofs.DoingLaws.{IsProper, route_proper, turned_proper, each_take}
use Rattle.route_plans.specs.PlanSteps.{plan_passing}
use Rattle.route_plans.specs.PlanPassing.{SameLengths, LeavesLens}

-- a message was sent and taken
abbrev through : Lens → ℕ → ℕ → ℕ → Lens
through q from to len = lens_by (Recv from len) to (lens_by (Send to len) from q)

through_first : (q : Lens) (from to len : ℕ) → q from to ≡ [] → lens_by (Send to len) from q from to ≡ len ∷ []
through_first q from to len none = at_here q from to (q from to ++ len ∷ []) ∙ ap (λ l. l ++ len ∷ []) none

through_same : (q : Lens) (from to len : ℕ) → q from to ≡ [] → (i j : ℕ) → through q from to len i j ≡ q i j
through_same q from to len none i j = at (at_cases (lens_by (Send to len) from q) from to (drop 1 (lens_by (Send to len) from q from to)) i j)
  where
    at : ((through q from to len i j ≡ lens_by (Send to len) from q i j) × ((i ≢ from) ⊎ (j ≢ to))) ⊎ ((i ≡ from) × (j ≡ to) × (through q from to len i j ≡ drop 1 (lens_by (Send to len) from q from to))) → through q from to len i j ≡ q i j
    at (inl other) = other.0 ∙ at_else q from to (q from to ++ len ∷ []) i j other.1
    at (inr same) = same.2 ∙ ap (λ l. drop 1 l) (through_first q from to len none) ∙ sym none ∙ ap (λ k. q k to) (sym same.0) ∙ ap (λ k. q i k) (sym same.1)

-- no message of the edge's pair waits
abbrev pub IsFree : (ℕ → ℕ) → Lens → ℕ × ℕ → Type 0
IsFree rank q e = q (rank e.0) (rank e.1) ≡ []

still_free : (rank : ℕ → ℕ) (q r : Lens) → ((i j : ℕ) → r i j ≡ q i j) → (es : List (ℕ × ℕ)) → EachEdge (IsFree rank q) es → EachEdge (IsFree rank r) es
still_free rank q r same [] free = tt
still_free rank q r same (e ∷ es) free = (same (rank e.0) (rank e.1) ∙ free.0, still_free rank q r same es free.1)

module _ {Op : Type 0} (t : StepOf Op) where
  pub leaves_lens : (rank : ℕ → ℕ) (send receive : ℕ × ℕ → Op) → SameLengths t rank send receive → (es : List (ℕ × ℕ)) (q : Lens) → EachEdge (IsFree rank q) es → LeavesLens t (plan_passing rank send receive es) q
  leaves_lens rank send receive kinds [] q free = record { order = tt; same = λ i j. refl }
  leaves_lens rank send receive kinds (e ∷ es) q free =
      let from : ℕ = rank e.0 in
      let to : ℕ = rank e.1 in
      let n : ℕ = kinds.len e in
      let both : lens_by (t.kind_of (receive e)) (rank e.1) (lens_by (t.kind_of (send e)) (rank e.0) q) ≡ through q (rank e.0) (rank e.1) (kinds.len e)
      = ap (λ k. lens_by k (rank e.1) (lens_by (t.kind_of (send e)) (rank e.0) q)) (kinds.receives e) ∙ ap (λ k. lens_by (Recv (rank e.0) (kinds.len e)) (rank e.1) (lens_by k (rank e.0) q)) (kinds.sends e) in
      let rest = leaves_lens rank send receive kinds es (through q (rank e.0) (rank e.1) (kinds.len e)) (still_free rank q (through q (rank e.0) (rank e.1) (kinds.len e)) (through_same q (rank e.0) (rank e.1) (kinds.len e) free.0) es free.1) in
      let P : Kind → Type 0 = λ k. FitsLens k (rank e.0) q in
      let Q : Kind → Type 0 = λ k. FitsLens k (rank e.1) (lens_by (t.kind_of (send e)) (rank e.0) q) in
      let R : Kind → Type 0 = λ k. slice_get (lens_by k (rank e.0) q (rank e.0) (rank e.1)) 0 ≡ Some (kinds.len e) in
      let O : Lens → Type 0 = λ r. IsInOrder t (plan_passing rank send receive es) r in
      record {
        order = (
          subst P (sym (kinds.sends e)) tt,
          (subst Q (sym (kinds.receives e)) (subst R (sym (kinds.sends e)) (ap (λ l. slice_get l 0) (through_first q (rank e.0) (rank e.1) (kinds.len e) free.0))), subst O (sym both) rest.order),
        );
        same = λ i j. ap (λ r. lens_of t (plan_passing rank send receive es) r i j) both ∙ rest.same i j ∙ through_same q (rank e.0) (rank e.1) (kinds.len e) free.0 i j;
      }

  -- of a route between whose members no message waits
  pub route_leaves : (n source : ℕ) (edges : List (ℕ × ℕ)) → IsRoute n source edges → (rank : ℕ → ℕ) (send receive : ℕ × ℕ → Op) → SameLengths t rank send receive → (q : Lens)
      → ((p r : ℕ) → p < n → r < n → p ≢ r → q (rank p) (rank r) ≡ []) → LeavesLens t (plan_passing rank send receive edges) q × LeavesLens t (plan_passing rank send receive (turned edges)) q
  route_leaves n source edges route rank send receive kinds q free = (
    leaves_lens rank send receive kinds edges q (all_free edges (route_proper n source edges route)),
    leaves_lens rank send receive kinds (turned edges) q (all_free (turned edges) (turned_proper n edges (route_proper n source edges route))),
  )
    where
      all_free : (es : List (ℕ × ℕ)) → EachEdge (IsProper n) es → EachEdge (IsFree rank q) es
      all_free [] all = tt
      all_free (e ∷ es) all = (free e.0 e.1 all.0.0 all.0.1 all.0.2, all_free es all.1)

  -- while a plan goes on along edges, the lengths of waiting messages are those from before
  pub lens_on_way : (steps : List (ℕ × Op)) (rank : ℕ → ℕ) (send receive : ℕ × ℕ → Op) → SameLengths t rank send receive → (es : List (ℕ × ℕ)) → EachEdge (IsFree rank (lens_of t steps no_lens)) es → (i from to : ℕ)
      → lens_of t (steps ++ plan_passing rank send receive (take i es)) no_lens from to ≡ lens_of t steps no_lens from to
  lens_on_way steps rank send receive kinds es free i from to =
      ap (λ q. q from to) (lens_join t steps (plan_passing rank send receive (take i es)) no_lens)
      ∙ (leaves_lens rank send receive kinds (take i es) (lens_of t steps no_lens) (each_take (IsFree rank (lens_of t steps no_lens)) i es free)).same from to
