-- What a desk says of the capacity of a queue.
use Rattle.std.proofs.Common.{◌≡◌, ℕ, ◌≤◌, Option, Some, None, inl, inr, List, length, slice_get, sym, refl, ap, ◌∙◌, arith}
use lib.IntN.{ℤ}
use Rattle.machine.proofs.Lists.{get_within}
use Rattle.msg_core.specs.declared.node.Step.{Ghosts as StepOf}
use Rattle.msg_core.specs.Kinds.{kinds_of}
use Rattle.msg_core.specs.Plans.{AllAmongRanks}
use Rattle.mail_room.specs.Desks.{DeskView, side_at, side_of, capacity_of, AreNewDesks}
use Rattle.rank_runner.specs.Capacity.{occupancy_caps}
use Rattle.rank_runner.proofs.Capacities.{below, beyond_none}

capacity_is : (letters : List (List ℤ)) (c : Option ℕ) (done : ℕ) → capacity_of (side_of letters c done) ≡ c
capacity_is letters (Some c) done = refl
capacity_is letters None done = refl

pub capacity_said : {Op : Type 0} (t : StepOf Op) (ranks : ℕ) (steps : List (ℕ × Op)) (letters : ℕ → ℕ → List (List ℤ)) (desks : List DeskView) (from to : ℕ) (result : Option ℕ)
    → AllAmongRanks t ranks steps → length desks ≡ ranks → AreNewDesks letters (occupancy_caps (kinds_of t steps)) desks
    → ((d : DeskView) → slice_get desks from ≡ Some d → result ≡ capacity_of (side_at d.outs to)) → (length desks ≤ from → result ≡ None) → result ≡ occupancy_caps (kinds_of t steps) from to
capacity_said t ranks steps letters desks from to result among count new some none = elim (below from (length desks)) [
  | inl h ↦
      let d = get_within desks from h in
      let desk = new from d.0 d.1 in
      some d.0 d.1 ∙ (ap capacity_of (desk.outs to) ∙ capacity_is (letters from to) (occupancy_caps (kinds_of t steps) from to) 0)
  | inr h ↦ none h ∙ sym (beyond_none t ranks steps among from to (omega (arith, h, count)))
]
