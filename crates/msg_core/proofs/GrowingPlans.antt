-- Growing plans: doing operations and then others is doing the longer list, and what can be done of the longer list can be done of its parts.
-- The laws of pushes into such a plan stand in Pushing, and are named here too.
use Rattle.std.proofs.Common.{◌≡◌, ℕ, ◌+◌, ◌-◌, ◌<◌, ◌≤◌, inl, inr, List, [], ◌∷◌, ◌++◌, length, map, drop, slice_get, sym, refl, ap, ◌∙◌, subst, arith, length-drop}
use lib.IntN.{ℤ}
use Rattle.std.proofs.lemmas.List.{length-map}
use Rattle.std.proofs.lemmas.List.Sums.{sum_by-append}
use Rattle.msg_core.specs.declared.node.Node.{Ghosts as NodeOf}
use Rattle.msg_core.specs.declared.node.Step.{Ghosts as StepOf}
use Rattle.msg_core.specs.InOrder.{World, start, own, world_by, world_with, after_step, in_order, CanGo}
use Rattle.msg_core.specs.Plans.{Lens, no_lens, lens_by, lens_of, IsInOrder, AllAmongRanks, AllCan, sent_messages, sent_words, message_count, word_count}
pub use Rattle.msg_core.specs.Able.{Lawful, Matches, IsAble}
use Rattle.msg_core.proofs.CanGo.{some_node, all_can_after}
use Rattle.msg_core.proofs.Lists.{within_get}
pub use Rattle.msg_core.proofs.Alone.{step_is}
pub use Rattle.msg_core.proofs.Growing.{lens_end}
pub use Rattle.msg_core.proofs.Matching.{fits_by, finds_by, matches_by}
pub use Rattle.machine.proofs.Orders.{own_here, own_else}
pub use Rattle.machine.proofs.Longer.{own_join, own_end}
pub use Rattle.msg_core.proofs.Pushing.{ok_unless, on_ok, not_full, local_passes, send_passes, recv_passes, push_ok, sent_first}

-- ---- by lengths

module _ {Op : Type 0} (t : StepOf Op) where
  -- the lengths that wait after both
  pub lens_join : (xs ys : List (ℕ × Op)) (q : Lens) → lens_of t (xs ++ ys) q ≡ lens_of t ys (lens_of t xs q)
  lens_join [] ys q = refl
  lens_join (x ∷ xs) ys q = lens_join xs ys (lens_by (t.kind_of x.1) x.0 q)

  -- both are in order where the second are, from the lengths that wait after the first
  pub order_join : (xs ys : List (ℕ × Op)) (q : Lens) → IsInOrder t xs q → IsInOrder t ys (lens_of t xs q) → IsInOrder t (xs ++ ys) q
  order_join [] ys q a b = b
  order_join (x ∷ xs) ys q a b = (a.0, order_join xs ys (lens_by (t.kind_of x.1) x.0 q) a.1 b)

  pub order_first : (xs ys : List (ℕ × Op)) (q : Lens) → IsInOrder t (xs ++ ys) q → IsInOrder t xs q
  order_first [] ys q a = tt
  order_first (x ∷ xs) ys q a = (a.0, order_first xs ys (lens_by (t.kind_of x.1) x.0 q) a.1)

  pub order_then : (xs ys : List (ℕ × Op)) (q : Lens) → IsInOrder t (xs ++ ys) q → IsInOrder t ys (lens_of t xs q)
  order_then [] ys q a = a
  order_then (x ∷ xs) ys q a = order_then xs ys (lens_by (t.kind_of x.1) x.0 q) a.1

  pub among_join : (ranks : ℕ) (xs ys : List (ℕ × Op)) → AllAmongRanks t ranks xs → AllAmongRanks t ranks ys → AllAmongRanks t ranks (xs ++ ys)
  among_join ranks [] ys a b = b
  among_join ranks (x ∷ xs) ys a b = (a.0, a.1, a.2, among_join ranks xs ys a.3 b)

  -- the messages and the words of both
  pub messages_join : (xs ys : List (ℕ × Op)) → message_count t (xs ++ ys) ≡ message_count t xs + message_count t ys
  messages_join xs ys = sum_by-append (λ (x : ℕ × Op). sent_messages (t.kind_of x.1)) xs ys

  pub words_join : (xs ys : List (ℕ × Op)) → word_count t (xs ++ ys) ≡ word_count t xs + word_count t ys
  words_join xs ys = sum_by-append (λ (x : ℕ × Op). sent_words (t.kind_of x.1)) xs ys

-- ---- by memories

-- where no message of the pair waits by the lengths, every one is taken
pub taken_all : {N : Type 0} (w : World N) (q : Lens) → Matches q w → (i j : ℕ) → q i j ≡ [] → w.taken i j ≡ length (w.sent i j)
taken_all w q m i j none =
    let le = (m i j).0 in
    let count : length (map (λ (ws : List ℤ). length ws) (drop (w.taken i j) (w.sent i j))) ≡ 0 = ap (λ (l : List ℕ). length l) (sym (m i j).1 ∙ none) in
    let same : length (map (λ (ws : List ℤ). length ws) (drop (w.taken i j) (w.sent i j))) ≡ length (drop (w.taken i j) (w.sent i j)) = length-map (drop (w.taken i j) (w.sent i j)) (λ (ws : List ℤ). length ws) in
    let rest : length (drop (w.taken i j) (w.sent i j)) ≡ length (w.sent i j) - w.taken i j = length-drop (w.taken i j) (w.sent i j) in
    omega arith

module _ {N Op : Type 0} (t : StepOf Op) (g : NodeOf N Op) where
  -- doing both is doing the first and then the second
  pub in_order_join : (xs ys : List (ℕ × Op)) (w : World N) → in_order t g (xs ++ ys) w ≡ in_order t g ys (in_order t g xs w)
  in_order_join [] ys w = refl
  in_order_join (x ∷ xs) ys w = in_order_join xs ys (after_step t g w x)

  pub can_go_join : (xs ys : List (ℕ × Op)) (w : World N) → CanGo t g xs w → CanGo t g ys (in_order t g xs w) → CanGo t g (xs ++ ys) w
  can_go_join [] ys w a b = b
  can_go_join (x ∷ xs) ys w a b = (a.0, a.1, can_go_join xs ys (after_step t g w x) a.2 b)

  pub can_go_first : (xs ys : List (ℕ × Op)) (w : World N) → CanGo t g (xs ++ ys) w → CanGo t g xs w
  can_go_first [] ys w a = tt
  can_go_first (x ∷ xs) ys w a = (a.0, a.1, can_go_first xs ys (after_step t g w x) a.2)

  pub can_go_then : (xs ys : List (ℕ × Op)) (w : World N) → CanGo t g (xs ++ ys) w → CanGo t g ys (in_order t g xs w)
  can_go_then [] ys w a = a
  can_go_then (x ∷ xs) ys w a = can_go_then xs ys (after_step t g w x) a.2

  pub all_can_join : (nodes : List N) (xs ys : List (ℕ × Op)) → AllCan g nodes xs → AllCan g nodes ys → AllCan g nodes (xs ++ ys)
  all_can_join nodes [] ys a b = b
  all_can_join nodes (x ∷ xs) ys a b = (a.0, all_can_join nodes xs ys a.1 b)

  pub all_can_first : (nodes : List N) (xs ys : List (ℕ × Op)) → AllCan g nodes (xs ++ ys) → AllCan g nodes xs
  all_can_first nodes [] ys a = tt
  all_can_first nodes (x ∷ xs) ys a = (a.0, all_can_first nodes xs ys a.1)

  pub all_can_then : (nodes : List N) (xs ys : List (ℕ × Op)) → AllCan g nodes (xs ++ ys) → AllCan g nodes ys
  all_can_then nodes [] ys a = a
  all_can_then nodes (x ∷ xs) ys a = all_can_then nodes xs ys a.1

  -- what can be done leaves messages of the lengths that wait then
  pub lens_after : Lawful t g → (xs : List (ℕ × Op)) (w : World N) (q : Lens) → CanGo t g xs w → Matches q w → Matches (lens_of t xs q) (in_order t g xs w)
  lens_after laws [] w q can m = m
  lens_after laws (x ∷ xs) w q can m =
      let n = some_node t g (slice_get w.nodes x.0) x.1 can.0 in
      let step = matches_by t g laws (t.kind_of x.1) x.0 x.1 n.0 w q refl n.2 (fits_by t g (t.kind_of x.1) x.0 w q m can.1) m in
      lens_after laws xs (after_step t g w x) (lens_by (t.kind_of x.1) x.0 q) can.2 (subst (λ (u : World N). Matches (lens_by (t.kind_of x.1) x.0 q) u) (sym (step_is t g x w n.0 n.1)) step)

  -- and is in order by the lengths
  pub in_order_from : Lawful t g → (xs : List (ℕ × Op)) (w : World N) (q : Lens) → Matches q w → CanGo t g xs w → IsInOrder t xs q
  in_order_from laws [] w q m can = tt
  in_order_from laws (x ∷ xs) w q m can =
      let n = some_node t g (slice_get w.nodes x.0) x.1 can.0 in
      let fits = fits_by t g (t.kind_of x.1) x.0 w q m can.1 in
      let step = matches_by t g laws (t.kind_of x.1) x.0 x.1 n.0 w q refl n.2 fits m in
      (fits, in_order_from laws xs (after_step t g w x) (lens_by (t.kind_of x.1) x.0 q) (subst (λ (u : World N). Matches (lens_by (t.kind_of x.1) x.0 q) u) (sym (step_is t g x w n.0 n.1)) step) can.2)

  -- operations that the memories can do, in order by the lengths that wait, can be done
  pub can_go : Lawful t g → (xs : List (ℕ × Op)) (w : World N) (q : Lens) → AllCan g w.nodes xs → IsInOrder t xs q → Matches q w → CanGo t g xs w
  can_go laws [] w q all order m = tt
  can_go laws (x ∷ xs) w q all order m =
      let n = some_node t g (slice_get w.nodes x.0) x.1 all.0 in
      let is = step_is t g x w n.0 n.1 in
      let step = matches_by t g laws (t.kind_of x.1) x.0 x.1 n.0 w q refl n.2 order.0 m in
      let next = all_can_after t g laws (t.kind_of x.1) x.0 x.1 n.0 w xs n.1 n.2 all.1 in (
        all.0,
        finds_by t g (t.kind_of x.1) x.0 w q m order.0,
        subst (λ (u : World N). CanGo t g xs u) (sym is) (can_go laws xs (world_by t g (t.kind_of x.1) x.0 x.1 n.0 w) (lens_by (t.kind_of x.1) x.0 q) next order.1 step),
      )

  pub matches_after : Lawful t g → (xs : List (ℕ × Op)) (w : World N) (q : Lens) → AllCan g w.nodes xs → IsInOrder t xs q → Matches q w → Matches (lens_of t xs q) (in_order t g xs w)
  matches_after laws xs w q all order m = lens_after laws xs w q (can_go laws xs w q all order m) m

  -- before the first step no message waits
  pub matches_start : (nodes : List N) → Matches no_lens (start nodes)
  matches_start nodes i j = (omega arith, refl)

  -- the plan's own order can be done
  pub can_in_order : (steps : List (ℕ × Op)) (nodes : List N) → IsAble t g steps nodes → CanGo t g steps (start nodes)
  can_in_order steps nodes able = can_go able.laws steps (start nodes) no_lens able.all able.order (matches_start nodes)

  -- after a plan every message is taken of a pair of which none waits
  pub taken_after_plan : Lawful t g → (steps : List (ℕ × Op)) (nodes : List N) → AllCan g nodes steps → IsInOrder t steps no_lens → (i j : ℕ) → lens_of t steps no_lens i j ≡ []
      → (in_order t g steps (start nodes)).taken i j ≡ length ((in_order t g steps (start nodes)).sent i j)
  taken_after_plan laws steps nodes all order i j none = taken_all (in_order t g steps (start nodes)) (lens_of t steps no_lens) (matches_after laws steps (start nodes) no_lens all order (matches_start nodes)) i j none

  -- each operation that can be done is well made and of a rank that is there
  abbrev pub AllMade : ℕ → List (ℕ × Op) → Type 0
  AllMade ranks [] = Unit {0}
  AllMade ranks (x ∷ xs) = t.well_made x.1 × (x.0 < ranks) × AllMade ranks xs

  pub all_made : ((s : N) (o : Op) → g.can_do s o → t.well_made o) → (nodes : List N) (xs : List (ℕ × Op)) → AllCan g nodes xs → AllMade (length nodes) xs
  all_made made nodes [] can = tt
  all_made made nodes (x ∷ xs) can =
      let n = some_node t g (slice_get nodes x.0) x.1 can.0 in
      (made n.0 x.1 n.2, within_get nodes x.0 n.0 n.1, all_made made nodes xs can.1)
