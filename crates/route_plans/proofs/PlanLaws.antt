-- A plan's steps along edges do what passing along the edges says.
use Rattle.std.proofs.Common.{◌≡◌, ◌≢◌, ℕ, zero, suc, ◌+◌, ◌-◌, ◌<◌, ◌≤◌, ℤ, Option, Some, List, [], ◌∷◌, ◌++◌, length, get_or, set, drop, refl, sym, ap, ◌∙◌, subst, arith, inl, inr, ◌⊎◌, length-append, length-drop, get_or-set_same, get_or-set_other}
use Rattle.std.specs.Prelude.{slice_get, slice_set, nat_eq, nat_lt, if◌then◌else◌, true, false, map}
use Rattle.std.proofs.Math.ListN.{length-set}
use Rattle.std.specs.List.{range_with_len}
use Rattle.std.proofs.lemmas.Bool.Decides.{eqb_tells, leb_tells}
use Rattle.std.proofs.lemmas.List.{drop_all, length-map}
use Rattle.std.proofs.lemmas.Option.{slice_get-get_or}
use Rattle.msg_core.specs.Kinds.{Send, Recv, Local}
use Rattle.msg_core.specs.declared.node.Node.{Ghosts as NodeOf}
use Rattle.msg_core.specs.declared.node.Step.{Ghosts as StepOf}
use Rattle.msg_core.specs.InOrder.{World, queue, waiting, or_none, at_pair, world_by, world_with, after_step, in_order}
use Rattle.msg_core.proofs.Lists.{get_end, get_set_other}
use Rattle.msg_core.proofs.Pairs.{at_cases, at_here, at_else}
use Rattle.route_tree.specs.Routes.{IsRoute}
use Rattle.route_laws.specs.Passing.{along, turned}
use Rattle.route_laws.specs.Doing.{done, both_steps, DoesPass}
use Rattle.route_laws.proofs.Edges.{EachEdge, all_within}
use Rattle.route_laws.proofs.AlongLaws.{along_same, along_steps, turned_within}
use Rattle.route_laws.proofs.BroadcastLaws.{delivered_gives}
use Rattle.msg_core.proofs.GrowingPlans.{in_order_join}
use Rattle.route_laws.proofs.DoingLaws.{IsProper, does_along, done-passing, route_proper, turned_proper}
use Rattle.route_plans.specs.PlanSteps.{own_step, start_step, end_step, plan_passing, plan_each, plan_combine, plan_combine_for_all, plan_barrier}
use Rattle.route_plans.specs.PlanPassing.{memory_of, AreQuiet, IsElseAsBefore, HaveMemories, SendAlong, Delivers, taken_in, loaded, gathered_up, stored_at, stored_by_all}

-- the world after a message was sent and taken
abbrev after_both : {N : Type 0} → World N → ℕ → ℕ → List ℤ → N → World N
after_both w from to ws end = record {
  nodes = slice_set w.nodes to end;
  sent = at_pair w.sent from to (w.sent from to ++ ws ∷ []);
  taken = at_pair w.taken from to (w.taken from to + 1);
}

module _ {N Op : Type 0} (t : StepOf Op) (g : NodeOf N Op) where
  in_order-done : (steps : List (ℕ × Op)) (w : World N) → in_order t g steps w ≡ done (after_step t g) steps w
  in_order-done [] w = refl
  in_order-done (x ∷ xs) w = in_order-done xs (after_step t g w x)

  sent_on : (w : World N) (from to len : ℕ) (o : Op) (a : N) → slice_get w.nodes from ≡ Some a → t.kind_of o ≡ Send to len
      → after_step t g w (from, o) ≡ record w { sent = at_pair w.sent from to (w.sent from to ++ g.message a o ∷ []) }
  sent_on w from to len o a here kind = ap (λ x. world_with t g x from o w) here ∙ ap (λ k. world_by t g k from o a w) kind

  taken_on : (w : World N) (from to len : ℕ) (o : Op) (b : N) (ws : List ℤ) → slice_get w.nodes to ≡ Some b → t.kind_of o ≡ Recv from len → waiting w from to ≡ Some ws
      → after_step t g w (to, o) ≡ record w { nodes = slice_set w.nodes to (g.absorbed b o ws); taken = at_pair w.taken from to (w.taken from to + 1) }
  taken_on w from to len o b ws here kind waits =
      ap (λ x. world_with t g x to o w) here
      ∙ ap (λ k. world_by t g k to o b w) kind
      ∙ ap (λ (x : Option (List ℤ)). record w { nodes = slice_set w.nodes to (g.absorbed b o (or_none x)); taken = at_pair w.taken from to (w.taken from to + 1) }) waits

  both_done : (w : World N) (from to len len' : ℕ) (o o' : Op) (a b : N) → slice_get w.nodes from ≡ Some a → slice_get w.nodes to ≡ Some b
      → t.kind_of o ≡ Send to len → t.kind_of o' ≡ Recv from len' → w.taken from to ≡ length (w.sent from to)
      → after_step t g (after_step t g w (from, o)) (to, o') ≡ after_both w from to (g.message a o) (g.absorbed b o' (g.message a o))
  both_done w from to len len' o o' a b start end sends receives quiet =
      ap (λ v. after_step t g v (to, o')) (sent_on w from to len o a start sends)
      ∙ taken_on (record w { sent = at_pair w.sent from to (w.sent from to ++ g.message a o ∷ []) }) from to len' o' b (g.message a o) end receives
      (ap (λ (xs : List (List ℤ)). slice_get xs (w.taken from to)) (at_here w.sent from to (w.sent from to ++ g.message a o ∷ []))
      ∙ ap (λ k. slice_get (w.sent from to ++ g.message a o ∷ []) k) quiet
      ∙ get_end (w.sent from to) (g.message a o))

-- ---- one edge

-- the memories' quiet members, and all else as before
record IsOnItsWay {N : Type 0} (n : ℕ) (rank : ℕ → ℕ) (before w : World N) : Type 0 where
  quiet : AreQuiet n rank w
  else_as_before : IsElseAsBefore n rank before w

drop_whole : {X : Type 0} (xs : List X) (k : ℕ) → k ≡ length xs → drop k xs ≡ []
drop_whole xs k same = drop_all k xs (omega arith)

quiet_pair : {N : Type 0} (w : World N) (from to : ℕ) (ws : List ℤ) (end : N) (i j : ℕ) → w.taken from to ≡ length (w.sent from to) → w.taken i j ≡ length (w.sent i j)
    → (after_both w from to ws end).taken i j ≡ length ((after_both w from to ws end).sent i j)
quiet_pair {N} w from to ws end i j here there = at (at_cases w.taken from to (w.taken from to + 1) i j)
  where
    at : ((at_pair w.taken from to (w.taken from to + 1) i j ≡ w.taken i j) × ((i ≢ from) ⊎ (j ≢ to))) ⊎ ((i ≡ from) × (j ≡ to) × (at_pair w.taken from to (w.taken from to + 1) i j ≡ w.taken from to + 1))
        → at_pair w.taken from to (w.taken from to + 1) i j ≡ length (at_pair w.sent from to (w.sent from to ++ ws ∷ []) i j)
    at (inl other) = other.0 ∙ there ∙ ap (λ (xs : List (List ℤ)). length xs) (sym (at_else w.sent from to (w.sent from to ++ ws ∷ []) i j other.1))
    at (inr same) =
        let one_more : length (w.sent from to ++ ws ∷ []) ≡ length (w.sent from to) + 1 = length-append (w.sent from to) (ws ∷ []) in
        same.2 ∙ ap (λ k. k + 1) here ∙ sym one_more
        ∙ ap (λ (xs : List (List ℤ)). length xs) (sym (at_here w.sent from to (w.sent from to ++ ws ∷ [])))
        ∙ ap (λ k. length (at_pair w.sent from to (w.sent from to ++ ws ∷ []) k to)) (sym same.0)
        ∙ ap (λ k. length (at_pair w.sent from to (w.sent from to ++ ws ∷ []) i k)) (sym same.1)

queue_stays : {N : Type 0} (w : World N) (from to : ℕ) (ws : List ℤ) (end : N) (i j : ℕ) → w.taken from to ≡ length (w.sent from to) → queue (after_both w from to ws end) i j ≡ queue w i j
queue_stays {N} w from to ws end i j here = at (at_cases w.taken from to (w.taken from to + 1) i j)
  where
    at : ((at_pair w.taken from to (w.taken from to + 1) i j ≡ w.taken i j) × ((i ≢ from) ⊎ (j ≢ to))) ⊎ ((i ≡ from) × (j ≡ to) × (at_pair w.taken from to (w.taken from to + 1) i j ≡ w.taken from to + 1))
        → queue (after_both w from to ws end) i j ≡ queue w i j
    at (inl other) = ap (λ k. drop k (at_pair w.sent from to (w.sent from to ++ ws ∷ []) i j)) other.0 ∙ ap (λ (xs : List (List ℤ)). drop (w.taken i j) xs) (at_else w.sent from to (w.sent from to ++ ws ∷ []) i j other.1)
    at (inr same) =
        let quiet : w.taken i j ≡ length (w.sent i j) = ap (λ k. w.taken k j) same.0 ∙ ap (λ k. w.taken from k) same.1 ∙ here ∙ ap (λ k. length (w.sent k to)) (sym same.0) ∙ ap (λ k. length (w.sent i k)) (sym same.1) in
        drop_whole ((after_both w from to ws end).sent i j) ((after_both w from to ws end).taken i j) (quiet_pair w from to ws end i j here quiet)
        ∙ sym (drop_whole (w.sent i j) (w.taken i j) quiet)

module _ {N Op : Type 0} (t : StepOf Op) (g : NodeOf N Op) where
  act_is : (none : N) (n : ℕ) (rank : ℕ → ℕ) (send receive : ℕ × ℕ → Op) → SendAlong t rank send receive → (w : World N) → AreQuiet n rank w → (from to : ℕ) → from < n → to < n → from ≢ to
      → both_steps (after_step t g) (start_step rank send) (end_step rank receive) w (from, to)
      ≡ after_both w (rank from) (rank to) (g.message (memory_of none rank w from) (send (from, to))) (taken_in g send receive (from, to) (memory_of none rank w from) (memory_of none rank w to))
  act_is none n rank send receive kinds w q from to from_in to_in ne =
      let s = kinds.sends (from, to) in
      let r = kinds.receives (from, to) in
      both_done t g w (rank from) (rank to) s.0 r.0 (send (from, to)) (receive (from, to)) (memory_of none rank w from) (memory_of none rank w to)
      (slice_get-get_or w.nodes (rank from) none (q.within from from_in)) (slice_get-get_or w.nodes (rank to) none (q.within to to_in)) s.1 r.1 (q.quiet from to from_in to_in ne)

  still_quiet : (n : ℕ) (rank : ℕ → ℕ) (w : World N) → AreQuiet n rank w → (from to : ℕ) → from < n → to < n → from ≢ to → (ws : List ℤ) (end : N) → AreQuiet n rank (after_both w (rank from) (rank to) ws end)
  still_quiet n rank w q from to from_in to_in ne ws end = record {
    within = λ p lt. let e : length (set w.nodes (rank to) end) ≡ length w.nodes = length-set w.nodes (rank to) end in let h = q.within p lt in omega arith;
    differ = q.differ;
    quiet = λ i j i_in j_in other. quiet_pair w (rank from) (rank to) ws end (rank i) (rank j) (q.quiet from to from_in to_in ne) (q.quiet i j i_in j_in other);
  }

  still_before : (n : ℕ) (rank : ℕ → ℕ) (before w : World N) → AreQuiet n rank w → IsElseAsBefore n rank before w → (from to : ℕ) → from < n → to < n → from ≢ to → (ws : List ℤ) (end : N)
      → IsElseAsBefore n rank before (after_both w (rank from) (rank to) ws end)
  still_before n rank before w q b from to from_in to_in ne ws end = record {
    count = length-set w.nodes (rank to) end ∙ b.count;
    others = λ r none. get_set_other w.nodes (rank to) r end (λ same. none to to_in (sym same)) ∙ b.others r none;
    queues = λ i j. queue_stays w (rank from) (rank to) ws end i j (q.quiet from to from_in to_in ne) ∙ b.queues i j;
  }

  does_pass : (none : N) (n : ℕ) (rank : ℕ → ℕ) (send receive : ℕ × ℕ → Op) → SendAlong t rank send receive → (before : World N)
      → DoesPass n (IsOnItsWay n rank before) (memory_of none rank) (taken_in g send receive) (both_steps (after_step t g) (start_step rank send) (end_step rank receive))
  does_pass none n rank send receive kinds before = record {
    good = λ w from to from_in to_in ne way.
        let P : World N → Type 0 = IsOnItsWay n rank before in
        subst P (sym (act_is none n rank send receive kinds w way.quiet from to from_in to_in ne)) (record {
          quiet = still_quiet n rank w way.quiet from to from_in to_in ne _ _;
          else_as_before = still_before n rank before w way.quiet way.else_as_before from to from_in to_in ne _ _;
        });
    end = λ w from to from_in to_in ne way.
        ap (λ v. memory_of none rank v to) (act_is none n rank send receive kinds w way.quiet from to from_in to_in ne)
        ∙ get_or-set_same w.nodes (rank to) _ none (let q = way.quiet in q.within to to_in);
    others = λ w from to p from_in to_in ne way p_in other.
        ap (λ v. memory_of none rank v p) (act_is none n rank send receive kinds w way.quiet from to from_in to_in ne)
        ∙ get_or-set_other w.nodes (rank to) (rank p) _ none (let q = way.quiet in q.differ p to p_in to_in other);
  }

  as_passed : (none : N) (n : ℕ) (rank : ℕ → ℕ) (send receive : ℕ × ℕ → Op) → SendAlong t rank send receive → (es : List (ℕ × ℕ)) → EachEdge (IsProper n) es → (w : World N) → AreQuiet n rank w
      → HaveMemories none n rank (along (taken_in g send receive) es (memory_of none rank w)) w (in_order t g (plan_passing rank send receive es) w)
  as_passed none n rank send receive kinds es all w quiet =
      let way : IsOnItsWay n rank w w = record { quiet = quiet; else_as_before = record { count = refl; others = λ r none. refl; queues = λ i j. refl } } in
      let has = does_along n (IsOnItsWay n rank w) (memory_of none rank) (taken_in g send receive) (both_steps (after_step t g) (start_step rank send) (end_step rank receive)) (does_pass none n rank send receive kinds w) es all w way in
      let same : in_order t g (plan_passing rank send receive es) w ≡ done (both_steps (after_step t g) (start_step rank send) (end_step rank receive)) es w
      = in_order-done t g (plan_passing rank send receive es) w ∙ done-passing (after_step t g) (start_step rank send) (end_step rank receive) es w in
      let P : World N → Type 0 = λ v. HaveMemories none n rank (along (taken_in g send receive) es (memory_of none rank w)) w v in
      subst P (sym same) (record { memories = has.holds; quiet = has.good.quiet; else_as_before = has.good.else_as_before })

  -- down a route
  pub passed_down : (none : N) (n source : ℕ) (edges : List (ℕ × ℕ)) → IsRoute n source edges → (rank : ℕ → ℕ) (send receive : ℕ × ℕ → Op) → SendAlong t rank send receive → (w : World N) → AreQuiet n rank w
      → HaveMemories none n rank (along (taken_in g send receive) edges (memory_of none rank w)) w (in_order t g (plan_passing rank send receive edges) w)
  passed_down none n source edges route rank send receive kinds w quiet = as_passed none n rank send receive kinds edges (route_proper n source edges route) w quiet

  -- and up
  pub passed_up : (none : N) (n source : ℕ) (edges : List (ℕ × ℕ)) → IsRoute n source edges → (rank : ℕ → ℕ) (send receive : ℕ × ℕ → Op) → SendAlong t rank send receive → (w : World N) → AreQuiet n rank w
      → HaveMemories none n rank (along (taken_in g send receive) (turned edges) (memory_of none rank w)) w (in_order t g (plan_passing rank send receive (turned edges)) w)
  passed_up none n source edges route rank send receive kinds w quiet = as_passed none n rank send receive kinds (turned edges) (turned_proper n edges (route_proper n source edges route)) w quiet

-- ---- local operations of the members

ltb_tells : (p a : ℕ) → ((nat_lt p a ≡ true) × (p < a)) ⊎ ((nat_lt p a ≡ false) × (a ≤ p))
ltb_tells p a = elim (leb_tells (suc p) a) [ inl is ↦ inl (is.0, let le = is.1 in omega arith) | inr other ↦ inr (other.0, let h = other.1 in omega arith) ]

module _ {N Op : Type 0} (t : StepOf Op) (g : NodeOf N Op) where
  -- the memory of one member is replaced
  abbrev with_memory : World N → ℕ → N → World N
  with_memory w r v = record w { nodes = slice_set w.nodes r v }

  acted_on : (none : N) (n : ℕ) (rank : ℕ → ℕ) (o : ℕ → Op) → ((p : ℕ) → t.kind_of (o p) ≡ Local) → (w : World N) → AreQuiet n rank w → (p : ℕ) → p < n
      → after_step t g w (own_step rank o p) ≡ with_memory w (rank p) (g.acted (memory_of none rank w p) (o p))
  acted_on none n rank o local w q p lt =
      ap (λ x. world_with t g x (rank p) (o p) w) (slice_get-get_or w.nodes (rank p) none (q.within p lt))
      ∙ ap (λ k. world_by t g k (rank p) (o p) (memory_of none rank w p) w) (local p)

  -- one member's memory is v, the others' as before
  abbrev one_else : ℕ → N → (ℕ → N) → ℕ → N
  one_else p v memory q = if nat_eq q p then v else memory q

  acted_one : (none : N) (n : ℕ) (rank : ℕ → ℕ) (o : ℕ → Op) → ((p : ℕ) → t.kind_of (o p) ≡ Local) → (w : World N) → AreQuiet n rank w → (p : ℕ) → p < n
      → HaveMemories none n rank (one_else p (g.acted (memory_of none rank w p) (o p)) (memory_of none rank w)) w (after_step t g w (own_step rank o p))
  acted_one none n rank o local w q p lt =
      let P : World N → Type 0 = λ v. HaveMemories none n rank (one_else p (g.acted (memory_of none rank w p) (o p)) (memory_of none rank w)) w v in
      let v : N = g.acted (memory_of none rank w p) (o p) in
      let size : length (set w.nodes (rank p) (g.acted (memory_of none rank w p) (o p))) ≡ length w.nodes = length-set w.nodes (rank p) (g.acted (memory_of none rank w p) (o p)) in
      subst P (sym (acted_on none n rank o local w q p lt)) (record {
        memories = λ r r_in. elim (eqb_tells r p) [
          | inl is ↦ rw is.0 (ap (λ k. get_or (set w.nodes (rank p) (g.acted (memory_of none rank w p) (o p))) (rank k) none) is.1 ∙ get_or-set_same w.nodes (rank p) (g.acted (memory_of none rank w p) (o p)) none (q.within p lt))
          | inr other ↦ rw other.0 (get_or-set_other w.nodes (rank p) (rank r) (g.acted (memory_of none rank w p) (o p)) none (q.differ r p r_in lt other.1))
        ];
        quiet = record { within = λ r r_in. let h = q.within r r_in in omega arith; differ = q.differ; quiet = q.quiet };
        else_as_before = record { count = size; others = λ r none'. get_set_other w.nodes (rank p) r v (λ same. none' p lt (sym same)); queues = λ i j. refl };
      })

  -- what comes after what came before
  then_have : (none : N) (n : ℕ) (rank : ℕ → ℕ) (memory memory' : ℕ → N) (w v u : World N) → HaveMemories none n rank memory w v → HaveMemories none n rank memory' v u → HaveMemories none n rank memory' w u
  then_have none n rank memory memory' w v u first second = record {
    memories = second.memories;
    quiet = second.quiet;
    else_as_before = record {
      count = second.else_as_before.count ∙ first.else_as_before.count;
      others = λ r none'. second.else_as_before.others r none' ∙ first.else_as_before.others r none';
      queues = λ i j. second.else_as_before.queues i j ∙ first.else_as_before.queues i j;
    };
  }

  have_same : (none : N) (n : ℕ) (rank : ℕ → ℕ) (memory memory' : ℕ → N) (w v : World N) → ((p : ℕ) → p < n → memory p ≡ memory' p) → HaveMemories none n rank memory w v → HaveMemories none n rank memory' w v
  have_same none n rank memory memory' w v same have = record { memories = λ p lt. have.memories p lt ∙ same p lt; quiet = have.quiet; else_as_before = have.else_as_before }

  -- the members from a on have done theirs
  abbrev acted_from : ℕ → (ℕ → Op) → (ℕ → N) → ℕ → N
  acted_from a o memory p = if nat_lt p a then memory p else g.acted (memory p) (o p)

  acted_range : (none : N) (n : ℕ) (rank : ℕ → ℕ) (o : ℕ → Op) → ((p : ℕ) → t.kind_of (o p) ≡ Local) → (a k : ℕ) → a + k ≡ n → (w : World N) → AreQuiet n rank w
      → HaveMemories none n rank (acted_from a o (memory_of none rank w)) w (in_order t g (map (own_step rank o) (range_with_len a k)) w)
  acted_range none n rank o local a zero end w q = record {
    memories = λ p lt. elim (ltb_tells p a) [ inl is ↦ rw is.0 refl | inr other ↦ absurd (let le = other.1 in omega arith) ];
    quiet = q;
    else_as_before = record { count = refl; others = λ r none'. refl; queues = λ i j. refl };
  }
  acted_range none n rank o local a (suc k) end w q =
      let first = acted_one none n rank o local w q a (omega arith) in
      let rest = acted_range none n rank o local (a + 1) k (omega arith) (after_step t g w (own_step rank o a)) first.quiet in
      then_have none n rank (one_else a (g.acted (memory_of none rank w a) (o a)) (memory_of none rank w)) (acted_from a o (memory_of none rank w)) w (after_step t g w (own_step rank o a)) (in_order t g (map (own_step rank o) (range_with_len a (suc k))) w) first
      (have_same none n rank (acted_from (a + 1) o (memory_of none rank (after_step t g w (own_step rank o a)))) (acted_from a o (memory_of none rank w)) (after_step t g w (own_step rank o a)) (in_order t g (map (own_step rank o) (range_with_len a (suc k))) w)
      (λ p lt. ap (λ x. if nat_lt p (a + 1) then x else g.acted x (o p)) (first.memories p lt) ∙ one p (ltb_tells p a) (ltb_tells p (a + 1)) (eqb_tells p a)) rest)
    where
      one : (p : ℕ) → ((nat_lt p a ≡ true) × (p < a)) ⊎ ((nat_lt p a ≡ false) × (a ≤ p)) → ((nat_lt p (a + 1) ≡ true) × (p < a + 1)) ⊎ ((nat_lt p (a + 1) ≡ false) × (a + 1 ≤ p))
          → ((nat_eq p a ≡ true) × (p ≡ a)) ⊎ ((nat_eq p a ≡ false) × (p ≢ a))
          → (if nat_lt p (a + 1) then one_else a (g.acted (memory_of none rank w a) (o a)) (memory_of none rank w) p else g.acted (one_else a (g.acted (memory_of none rank w a) (o a)) (memory_of none rank w) p) (o p)) ≡ acted_from a o (memory_of none rank w) p
      one p (inl x) (inl y) (inl z) = absurd (let lt = x.1 in let e = z.1 in omega arith)
      one p (inl x) (inl y) (inr z) = rw (x.0, y.0, z.0) refl
      one p (inl x) (inr y) z = absurd (let lt = x.1 in let le = y.1 in omega arith)
      one p (inr x) (inl y) (inl z) = rw (x.0, y.0, z.0) (ap (λ k. g.acted (memory_of none rank w k) (o k)) (sym z.1))
      one p (inr x) (inl y) (inr z) = absurd (let le = x.1 in let lt = y.1 in let ne = z.1 in omega arith)
      one p (inr x) (inr y) (inl z) = absurd (let le = y.1 in let e = z.1 in omega arith)
      one p (inr x) (inr y) (inr z) = rw (x.0, y.0, z.0) refl

  -- each member has done its operation
  pub each_acts : (none : N) (n : ℕ) (rank : ℕ → ℕ) (o : ℕ → Op) → ((p : ℕ) → t.kind_of (o p) ≡ Local) → (w : World N) → AreQuiet n rank w
      → HaveMemories none n rank (loaded g o (memory_of none rank w)) w (in_order t g (plan_each rank o n) w)
  each_acts none n rank o local w q =
      have_same none n rank (acted_from 0 o (memory_of none rank w)) (loaded g o (memory_of none rank w)) w (in_order t g (plan_each rank o n) w) (λ p lt. elim (ltb_tells p 0) [ inl is ↦ absurd (let h = is.1 in omega arith) | inr other ↦ rw other.0 refl ]) (acted_range none n rank o local 0 n (omega arith) w q)

-- ---- whole calls

module _ {N Op : Type 0} (t : StepOf Op) (g : NodeOf N Op) where
  -- up after the loads
  up_done : (none : N) (n source : ℕ) (edges : List (ℕ × ℕ)) → IsRoute n source edges → (rank : ℕ → ℕ) (load : ℕ → Op) (send receive : ℕ × ℕ → Op) → ((p : ℕ) → t.kind_of (load p) ≡ Local) → SendAlong t rank send receive
      → (w : World N) → AreQuiet n rank w
      → HaveMemories none n rank (gathered_up g load send receive edges (memory_of none rank w)) w (in_order t g (plan_each rank load n ++ plan_passing rank send receive (turned edges)) w)
  up_done none n source edges route rank load send receive loads kinds w q =
      let w1 : World N = in_order t g (plan_each rank load n) w in
      let first : HaveMemories none n rank (loaded g load (memory_of none rank w)) w (in_order t g (plan_each rank load n) w) = each_acts t g none n rank load loads w q in
      let second = passed_up t g none n source edges route rank send receive kinds (in_order t g (plan_each rank load n) w) first.quiet in
      let P : World N → Type 0 = λ v. HaveMemories none n rank (gathered_up g load send receive edges (memory_of none rank w)) w v in
      subst P (sym (in_order_join t g (plan_each rank load n) (plan_passing rank send receive (turned edges)) w))
      (then_have t g none n rank (loaded g load (memory_of none rank w)) (gathered_up g load send receive edges (memory_of none rank w)) w (in_order t g (plan_each rank load n) w) _ first
      (have_same t g none n rank (along (taken_in g send receive) (turned edges) (memory_of none rank (in_order t g (plan_each rank load n) w))) (gathered_up g load send receive edges (memory_of none rank w)) (in_order t g (plan_each rank load n) w) _
      (along_same n (taken_in g send receive) (turned edges) (turned_within n edges (all_within n source edges route)) (memory_of none rank (in_order t g (plan_each rank load n) w)) (loaded g load (memory_of none rank w)) first.memories)
      second))

  pub combine_done : (none : N) (n source : ℕ) (edges : List (ℕ × ℕ)) → source < n → IsRoute n source edges → (rank : ℕ → ℕ) (load : ℕ → Op) (send receive : ℕ × ℕ → Op) (store : ℕ → Op)
      → ((p : ℕ) → t.kind_of (load p) ≡ Local) → SendAlong t rank send receive → ((p : ℕ) → t.kind_of (store p) ≡ Local) → (w : World N) → AreQuiet n rank w
      → HaveMemories none n rank (stored_at g load send receive store source edges (memory_of none rank w)) w (in_order t g (plan_combine rank load send receive store n source edges) w)
  combine_done none n source edges s_in route rank load send receive store loads kinds stores w q =
      let steps : List (ℕ × Op) = plan_each rank load n ++ plan_passing rank send receive (turned edges) in
      let v : World N = in_order t g (plan_each rank load n ++ plan_passing rank send receive (turned edges)) w in
      let first = up_done none n source edges route rank load send receive loads kinds w q in
      let second = acted_one t g none n rank store stores (in_order t g (plan_each rank load n ++ plan_passing rank send receive (turned edges)) w) first.quiet source s_in in
      let P : World N → Type 0 = λ u. HaveMemories none n rank (stored_at g load send receive store source edges (memory_of none rank w)) w u in
      subst P (sym (in_order_join t g (plan_each rank load n ++ plan_passing rank send receive (turned edges)) (own_step rank store source ∷ []) w))
      (then_have t g none n rank (gathered_up g load send receive edges (memory_of none rank w)) (stored_at g load send receive store source edges (memory_of none rank w)) w (in_order t g (plan_each rank load n ++ plan_passing rank send receive (turned edges)) w) _ first
      (have_same t g none n rank _ (stored_at g load send receive store source edges (memory_of none rank w)) (in_order t g (plan_each rank load n ++ plan_passing rank send receive (turned edges)) w) _
      (λ p lt. elim (eqb_tells p source) [
        | inl is ↦ rw is.0 (ap (λ x. g.acted x (store source)) (first.memories source s_in))
        | inr other ↦ rw other.0 (first.memories p lt)
      ])
      second))

  pub combine_for_all_done : (none : N) (n source : ℕ) (edges : List (ℕ × ℕ)) → IsRoute n source edges → (rank : ℕ → ℕ) (load : ℕ → Op) (send receive send' receive' : ℕ × ℕ → Op) (store : ℕ → Op)
      → ((p : ℕ) → t.kind_of (load p) ≡ Local) → SendAlong t rank send receive → SendAlong t rank send' receive' → ((p : ℕ) → t.kind_of (store p) ≡ Local) → (w : World N) → AreQuiet n rank w
      → HaveMemories none n rank (stored_by_all g load send receive send' receive' store edges (memory_of none rank w)) w (in_order t g (plan_combine_for_all rank load send receive send' receive' store n edges) w)
  combine_for_all_done none n source edges route rank load send receive send' receive' store loads kinds kinds' stores w q =
      let v : World N = in_order t g (plan_each rank load n ++ plan_passing rank send receive (turned edges)) w in
      let u : World N = in_order t g (plan_passing rank send' receive' edges) (in_order t g (plan_each rank load n ++ plan_passing rank send receive (turned edges)) w) in
      let up : ℕ → N = gathered_up g load send receive edges (memory_of none rank w) in
      let down : ℕ → N = along (taken_in g send' receive') edges (gathered_up g load send receive edges (memory_of none rank w)) in
      let first = up_done none n source edges route rank load send receive loads kinds w q in
      let second = passed_down t g none n source edges route rank send' receive' kinds' (in_order t g (plan_each rank load n ++ plan_passing rank send receive (turned edges)) w) first.quiet in
      let second' : HaveMemories none n rank (along (taken_in g send' receive') edges (gathered_up g load send receive edges (memory_of none rank w)))
      (in_order t g (plan_each rank load n ++ plan_passing rank send receive (turned edges)) w) (in_order t g (plan_passing rank send' receive' edges) (in_order t g (plan_each rank load n ++ plan_passing rank send receive (turned edges)) w))
      = have_same t g none n rank _ (along (taken_in g send' receive') edges (gathered_up g load send receive edges (memory_of none rank w))) _ _
      (along_same n (taken_in g send' receive') edges (all_within n source edges route) (memory_of none rank (in_order t g (plan_each rank load n ++ plan_passing rank send receive (turned edges)) w)) (gathered_up g load send receive edges (memory_of none rank w)) first.memories)
      second in
      let third = each_acts t g none n rank store stores (in_order t g (plan_passing rank send' receive' edges) (in_order t g (plan_each rank load n ++ plan_passing rank send receive (turned edges)) w)) second.quiet in
      let third' = have_same t g none n rank _ (stored_by_all g load send receive send' receive' store edges (memory_of none rank w)) _ _ (λ p lt. ap (λ x. g.acted x (store p)) (second'.memories p lt)) third in
      let P : World N → Type 0 = λ x. HaveMemories none n rank (stored_by_all g load send receive send' receive' store edges (memory_of none rank w)) w x in
      subst P (sym (
      in_order_join t g (plan_each rank load n ++ plan_passing rank send receive (turned edges) ++ plan_passing rank send' receive' edges) (plan_each rank store n) w
      ∙ ap (λ x. in_order t g (plan_each rank store n) x) (in_order_join t g (plan_each rank load n ++ plan_passing rank send receive (turned edges)) (plan_passing rank send' receive' edges) w)
      ))
      (then_have t g none n rank (gathered_up g load send receive edges (memory_of none rank w)) _ w (in_order t g (plan_each rank load n ++ plan_passing rank send receive (turned edges)) w) _ first
      (then_have t g none n rank (along (taken_in g send' receive') edges (gathered_up g load send receive edges (memory_of none rank w))) _ _ (in_order t g (plan_passing rank send' receive' edges) (in_order t g (plan_each rank load n ++ plan_passing rank send receive (turned edges)) w)) _ second' third'))

  pub barrier_done : (none : N) (n source : ℕ) (edges : List (ℕ × ℕ)) → IsRoute n source edges → (rank : ℕ → ℕ) (send receive : ℕ × ℕ → Op) → SendAlong t rank send receive → (w : World N) → AreQuiet n rank w
      → HaveMemories none n rank (along (taken_in g send receive) edges (along (taken_in g send receive) (turned edges) (memory_of none rank w))) w (in_order t g (plan_barrier rank send receive edges) w)
  barrier_done none n source edges route rank send receive kinds w q =
      let first = passed_up t g none n source edges route rank send receive kinds w q in
      let second = passed_down t g none n source edges route rank send receive kinds (in_order t g (plan_passing rank send receive (turned edges)) w) first.quiet in
      let second' = have_same t g none n rank _ (along (taken_in g send receive) edges (along (taken_in g send receive) (turned edges) (memory_of none rank w))) _ _
      (along_same n (taken_in g send receive) edges (all_within n source edges route) (memory_of none rank (in_order t g (plan_passing rank send receive (turned edges)) w)) (along (taken_in g send receive) (turned edges) (memory_of none rank w)) first.memories)
      second in
      let P : World N → Type 0 = λ x. HaveMemories none n rank (along (taken_in g send receive) edges (along (taken_in g send receive) (turned edges) (memory_of none rank w))) w x in
      subst P (sym (in_order_join t g (plan_passing rank send receive (turned edges)) (plan_passing rank send receive edges) w))
      (then_have t g none n rank _ _ w (in_order t g (plan_passing rank send receive (turned edges)) w) _ first second')

  -- a broadcast of a message: every member but the source takes in the source's message
  pub broadcast_done : (none : N) (n source : ℕ) (edges : List (ℕ × ℕ)) → IsRoute n source edges → (rank : ℕ → ℕ) (send receive : ℕ × ℕ → Op) → SendAlong t rank send receive
      → (message : ℕ → N → List ℤ) (takes : ℕ → List ℤ → N → N) → Delivers g send receive message takes → (w : World N) → AreQuiet n rank w
      → ((p : ℕ) → p < n → p ≢ source → message p (takes p (message source (memory_of none rank w source)) (memory_of none rank w p)) ≡ message source (memory_of none rank w source))
      → HaveMemories none n rank (λ p. if nat_eq p source then memory_of none rank w source else takes p (message source (memory_of none rank w source)) (memory_of none rank w p)) w
      (in_order t g (plan_passing rank send receive edges) w)
  broadcast_done none n source edges route rank send receive kinds message takes delivers w q back =
      have_same t g none n rank (along (taken_in g send receive) edges (memory_of none rank w)) _ w (in_order t g (plan_passing rank send receive edges) w)
      (λ p lt.
      along_steps n (taken_in g send receive) (λ e start end. takes e.1 (message e.0 start) end)
      (λ e a b. ap (λ ws. g.absorbed b (receive e) ws) (delivers.gives e a) ∙ delivers.takes_in e (message e.0 a) b)
      edges (all_within n source edges route) (memory_of none rank w) (memory_of none rank w) (λ r r_in. refl) p lt
      ∙ delivered_gives n source edges route message takes (memory_of none rank w) back p lt)
      (passed_down t g none n source edges route rank send receive kinds w q)
