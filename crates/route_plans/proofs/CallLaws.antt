-- Whole calls: which members are quiet before them, the lengths that they leave, and what memories can do.
use Rattle.std.proofs.Common.{◌≡◌, ◌≢◌, ℕ, zero, suc, ◌+◌, ◌<◌, ◌≤◌, List, [], ◌∷◌, ◌++◌, length, map, refl, sym, ap, ◌∙◌, subst, arith, IsSomeAnd}
use Rattle.std.specs.Prelude.{slice_get}
use Rattle.std.specs.List.{range_with_len}
use Rattle.msg_core.specs.Kinds.{Kind}
use Rattle.msg_core.specs.Kinds.{Local}
use Rattle.msg_core.specs.declared.node.Node.{Ghosts as NodeOf}
use Rattle.msg_core.specs.declared.node.Step.{Ghosts as StepOf}
use Rattle.msg_core.specs.InOrder.{World}
use Rattle.msg_core.specs.Plans.{PlanView, Lens, no_lens, lens_by, lens_of, FitsLens, IsInOrder, AllCan}
use Rattle.msg_core.proofs.GrowingPlans.{Matches, lens_join, order_join, all_can_join, taken_all}
use Rattle.route_tree.specs.Routes.{IsRoute}
use Rattle.route_laws.specs.Passing.{turned}
use Rattle.route_laws.proofs.Edges.{EachEdge}
use Rattle.route_laws.proofs.DoingLaws.{IsProper, route_proper, turned_proper}
use Rattle.route_plans.specs.PlanSteps.{own_step, plan_passing, plan_each, plan_combine, plan_combine_for_all, plan_barrier}
use Rattle.route_plans.specs.PlanPassing.{AreQuiet, SameLengths, LeavesLens}
use Rattle.route_plans.specs.Members.{rank_in, AreFree}
use Rattle.route_plans.proofs.LensLaws.{route_leaves}

-- different ranks between which no message waits, by the lengths of the messages that wait, are quiet
pub are_quiet : {N : Type 0} (w : World N) (q : Lens) → Matches q w → (n : ℕ) (rank : ℕ → ℕ) → ((p : ℕ) → p < n → rank p < length w.nodes) → ((p r : ℕ) → p < n → r < n → p ≢ r → rank p ≢ rank r)
    → ((p r : ℕ) → p < n → r < n → p ≢ r → q (rank p) (rank r) ≡ []) → AreQuiet n rank w
are_quiet w q m n rank within differ none = record { within = within; differ = differ; quiet = λ p r p_in r_in ne. taken_all w q m (rank p) (rank r) (none p r p_in r_in ne) }

-- ---- lengths

-- no message waits between two members
abbrev pub AreClear : ℕ → (ℕ → ℕ) → Lens → Type 0
AreClear n rank q = (p r : ℕ) → p < n → r < n → p ≢ r → q (rank p) (rank r) ≡ []

module _ {Op : Type 0} (t : StepOf Op) where
  clear_after : (n : ℕ) (rank : ℕ → ℕ) (xs : List (ℕ × Op)) (q : Lens) → LeavesLens t xs q → AreClear n rank q → AreClear n rank (lens_of t xs q)
  clear_after n rank xs q leaves clear p r p_in r_in ne = leaves.same (rank p) (rank r) ∙ clear p r p_in r_in ne

  leaves_join : (xs ys : List (ℕ × Op)) (q : Lens) → LeavesLens t xs q → LeavesLens t ys (lens_of t xs q) → LeavesLens t (xs ++ ys) q
  leaves_join xs ys q first second = record {
    order = order_join t xs ys q first.order second.order;
    same = λ i j. ap (λ (r : Lens). r i j) (lens_join t xs ys q) ∙ second.same i j ∙ first.same i j;
  }

  locals_leave : (rank : ℕ → ℕ) (o : ℕ → Op) → ((p : ℕ) → t.kind_of (o p) ≡ Local) → (a n : ℕ) (q : Lens) → LeavesLens t (map (own_step rank o) (range_with_len a n)) q
  locals_leave rank o local a zero q = record { order = tt; same = λ i j. refl }
  locals_leave rank o local a (suc n) q =
      let rest = locals_leave rank o local (a + 1) n (lens_by (t.kind_of (o a)) (rank a) q) in
      let P : Kind → Type 0 = λ k. FitsLens k (rank a) q in
      record {
        order = (subst P (sym (local a)) tt, rest.order);
        same = λ i j. rest.same i j ∙ ap (λ k. lens_by k (rank a) q i j) (local a);
      }

  -- a combine to one destination, a combine to all, and a barrier
  pub combine_leaves : (n source : ℕ) (edges : List (ℕ × ℕ)) → IsRoute n source edges → (rank : ℕ → ℕ) (load : ℕ → Op) (send receive : ℕ × ℕ → Op) (store : ℕ → Op)
      → ((p : ℕ) → t.kind_of (load p) ≡ Local) → SameLengths t rank send receive → ((p : ℕ) → t.kind_of (store p) ≡ Local) → (q : Lens) → AreClear n rank q
      → LeavesLens t (plan_combine rank load send receive store n source edges) q
  combine_leaves n source edges route rank load send receive store loads kinds stores q clear =
      let xs : List (ℕ × Op) = plan_each rank load n in
      let ys : List (ℕ × Op) = plan_passing rank send receive (turned edges) in
      let first = locals_leave rank load loads 0 n q in
      let second = (route_leaves t n source edges route rank send receive kinds (lens_of t xs q) (clear_after n rank xs q first clear)).1 in
      leaves_join (xs ++ ys) (own_step rank store source ∷ []) q (leaves_join xs ys q first second) (locals_leave rank store stores source 1 (lens_of t (xs ++ ys) q))

  pub combine_for_all_leaves : (n source : ℕ) (edges : List (ℕ × ℕ)) → IsRoute n source edges → (rank : ℕ → ℕ) (load : ℕ → Op) (send receive send' receive' : ℕ × ℕ → Op) (store : ℕ → Op)
      → ((p : ℕ) → t.kind_of (load p) ≡ Local) → SameLengths t rank send receive → SameLengths t rank send' receive' → ((p : ℕ) → t.kind_of (store p) ≡ Local) → (q : Lens) → AreClear n rank q
      → LeavesLens t (plan_combine_for_all rank load send receive send' receive' store n edges) q
  combine_for_all_leaves n source edges route rank load send receive send' receive' store loads kinds kinds' stores q clear =
      let xs : List (ℕ × Op) = plan_each rank load n in
      let ys : List (ℕ × Op) = plan_passing rank send receive (turned edges) in
      let zs : List (ℕ × Op) = plan_passing rank send' receive' edges in
      let first = locals_leave rank load loads 0 n q in
      let second = (route_leaves t n source edges route rank send receive kinds (lens_of t xs q) (clear_after n rank xs q first clear)).1 in
      let both = leaves_join xs ys q first second in
      let third = (route_leaves t n source edges route rank send' receive' kinds' (lens_of t (xs ++ ys) q) (clear_after n rank (xs ++ ys) q both clear)).0 in
      let three = leaves_join (xs ++ ys) zs q both third in
      leaves_join ((xs ++ ys) ++ zs) (plan_each rank store n) q three (locals_leave rank store stores 0 n (lens_of t ((xs ++ ys) ++ zs) q))

  pub barrier_leaves : (n source : ℕ) (edges : List (ℕ × ℕ)) → IsRoute n source edges → (rank : ℕ → ℕ) (send receive : ℕ × ℕ → Op) → SameLengths t rank send receive → (q : Lens) → AreClear n rank q
      → LeavesLens t (plan_barrier rank send receive edges) q
  barrier_leaves n source edges route rank send receive kinds q clear =
      let ys : List (ℕ × Op) = plan_passing rank send receive (turned edges) in
      let first = (route_leaves t n source edges route rank send receive kinds q clear).1 in
      leaves_join ys (plan_passing rank send receive edges) q first (route_leaves t n source edges route rank send receive kinds (lens_of t ys q) (clear_after n rank ys q first clear)).0

-- ---- what the memories can do

module _ {N Op : Type 0} (t : StepOf Op) (g : NodeOf N Op) (nodes : List N) where
  -- the rank's memory can do the operation
  abbrev pub IsAbleTo : ℕ → Op → Type 0
  IsAbleTo r o = IsSomeAnd (slice_get nodes r) (λ a. g.can_do a o)

  range_can : (rank : ℕ → ℕ) (o : ℕ → Op) (n a k : ℕ) → a + k ≤ n → ((p : ℕ) → p < n → IsAbleTo (rank p) (o p)) → AllCan g nodes (map (own_step rank o) (range_with_len a k))
  range_can rank o n a zero le able = tt
  range_can rank o n a (suc k) le able = (able a (omega arith), range_can rank o n (a + 1) k (omega arith) able)

  each_can : (rank : ℕ → ℕ) (o : ℕ → Op) (n : ℕ) → ((p : ℕ) → p < n → IsAbleTo (rank p) (o p)) → AllCan g nodes (plan_each rank o n)
  each_can rank o n able = range_can rank o n 0 n (omega arith) able

  passing_can : (rank : ℕ → ℕ) (send receive : ℕ × ℕ → Op) (n : ℕ) (es : List (ℕ × ℕ)) → EachEdge (IsProper n) es
      → ((e : ℕ × ℕ) → e.0 < n → IsAbleTo (rank e.0) (send e)) → ((e : ℕ × ℕ) → e.1 < n → IsAbleTo (rank e.1) (receive e)) → AllCan g nodes (plan_passing rank send receive es)
  passing_can rank send receive n [] all sends receives = tt
  passing_can rank send receive n (e ∷ es) all sends receives = (sends e all.0.0, (receives e all.0.1, passing_can rank send receive n es all.1 sends receives))

  pub combine_can : (n source : ℕ) (edges : List (ℕ × ℕ)) → source < n → IsRoute n source edges → (rank : ℕ → ℕ) (load : ℕ → Op) (send receive : ℕ × ℕ → Op) (store : ℕ → Op)
      → ((p : ℕ) → p < n → IsAbleTo (rank p) (load p)) → ((e : ℕ × ℕ) → e.0 < n → IsAbleTo (rank e.0) (send e)) → ((e : ℕ × ℕ) → e.1 < n → IsAbleTo (rank e.1) (receive e)) → IsAbleTo (rank source) (store source)
      → AllCan g nodes (plan_combine rank load send receive store n source edges)
  combine_can n source edges s_in route rank load send receive store loads sends receives stores =
      let xs : List (ℕ × Op) = plan_each rank load n in
      let ys : List (ℕ × Op) = plan_passing rank send receive (turned edges) in
      let first = all_can_join t g nodes xs ys (each_can rank load n loads) (passing_can rank send receive n (turned edges) (turned_proper n edges (route_proper n source edges route)) sends receives) in
      all_can_join t g nodes (xs ++ ys) (own_step rank store source ∷ []) first (stores, tt)

  pub combine_for_all_can : (n source : ℕ) (edges : List (ℕ × ℕ)) → IsRoute n source edges → (rank : ℕ → ℕ) (load : ℕ → Op) (send receive send' receive' : ℕ × ℕ → Op) (store : ℕ → Op)
      → ((p : ℕ) → p < n → IsAbleTo (rank p) (load p)) → ((e : ℕ × ℕ) → e.0 < n → IsAbleTo (rank e.0) (send e)) → ((e : ℕ × ℕ) → e.1 < n → IsAbleTo (rank e.1) (receive e))
      → ((e : ℕ × ℕ) → e.0 < n → IsAbleTo (rank e.0) (send' e)) → ((e : ℕ × ℕ) → e.1 < n → IsAbleTo (rank e.1) (receive' e)) → ((p : ℕ) → p < n → IsAbleTo (rank p) (store p))
      → AllCan g nodes (plan_combine_for_all rank load send receive send' receive' store n edges)
  combine_for_all_can n source edges route rank load send receive send' receive' store loads sends receives sends' receives' stores =
      let proper = route_proper n source edges route in
      let xs : List (ℕ × Op) = plan_each rank load n in
      let ys : List (ℕ × Op) = plan_passing rank send receive (turned edges) in
      let zs : List (ℕ × Op) = plan_passing rank send' receive' edges in
      let first = all_can_join t g nodes xs ys (each_can rank load n loads) (passing_can rank send receive n (turned edges) (turned_proper n edges proper) sends receives) in
      let second = all_can_join t g nodes (xs ++ ys) zs first (passing_can rank send' receive' n edges proper sends' receives') in
      all_can_join t g nodes ((xs ++ ys) ++ zs) (plan_each rank store n) second (each_can rank store n stores)

  pub barrier_can : (n source : ℕ) (edges : List (ℕ × ℕ)) → IsRoute n source edges → (rank : ℕ → ℕ) (send receive : ℕ × ℕ → Op)
      → ((e : ℕ × ℕ) → e.0 < n → IsAbleTo (rank e.0) (send e)) → ((e : ℕ × ℕ) → e.1 < n → IsAbleTo (rank e.1) (receive e)) → AllCan g nodes (plan_barrier rank send receive edges)
  barrier_can n source edges route rank send receive sends receives =
      let proper = route_proper n source edges route in
      all_can_join t g nodes (plan_passing rank send receive (turned edges)) (plan_passing rank send receive edges) (passing_can rank send receive n (turned edges) (turned_proper n edges proper) sends receives) (passing_can rank send receive n edges proper sends receives)

-- ---- members that are free stay so while members do local operations

pub free_after_each : {Op : Type 0} (t : StepOf Op) (members : List ℕ) (o : ℕ → Op) → ((k : ℕ) → t.kind_of (o k) ≡ Local) → (n : ℕ) (p q : PlanView Op) → AreFree t members p → q.ranks ≡ p.ranks → q.steps ≡ p.steps ++ plan_each (rank_in members) o n → AreFree t members q
free_after_each {Op} t members o local n p q free ranks steps = record {
  within = λ k lt. let h = free.within k lt in omega arith;
  differ = free.differ;
  free = λ j k j_lt k_lt ne.
      ap (λ (xs : List (ℕ × Op)). lens_of t xs no_lens (rank_in members j) (rank_in members k)) steps
      ∙ ap (λ (q : Lens). q (rank_in members j) (rank_in members k)) (lens_join t p.steps (plan_each (rank_in members) o n) no_lens)
      ∙ (locals_leave t (rank_in members) o local 0 n (lens_of t p.steps no_lens)).same (rank_in members j) (rank_in members k)
      ∙ free.free j k j_lt k_lt ne;
}
