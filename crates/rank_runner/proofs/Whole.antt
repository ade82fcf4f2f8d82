-- Each rank by itself starts soundly and ends where the plan's own order has it.
use Rattle.std.proofs.Common.{◌≡◌, ℕ, zero, suc, ◌<◌, ◌≤◌, Bool, cond, nat_lt, Option, Some, None, inl, inr, List, [], ◌∷◌, length, map, reverse, slice_get, sym, refl, ap, ap₂, ◌∙◌, subst, arith}
use Rattle.std.proofs.lemmas.List.{length-set}
use lib.IntN.{ℤ}
use Rattle.std.proofs.lemmas.Bool.Decides.{eqb_tells}
use Rattle.std.proofs.lemmas.Bool.{lt-ltb}
use Rattle.machine.specs.declared.kind.Kind.{Kind}
use Rattle.machine.specs.declared.kind.Kind.TheVariants.{Send, Recv, Local}
use Rattle.machine.specs.Orders.{messages_of, receives_of, occupancy}
use Rattle.machine.proofs.Orders.{own_here, own_else}
use Rattle.msg_core.specs.declared.node.Node.{Ghosts as NodeOf}
use Rattle.msg_core.specs.declared.node.Step.{Ghosts as StepOf}
use Rattle.msg_core.specs.InOrder.{World, start, own, world_by, world_with, after_step, in_order, letters}
use Rattle.msg_core.specs.Kinds.{kinds_of}
use Rattle.msg_core.specs.OneRank.{first_post}
use Rattle.msg_core.specs.Stages.{IsStage, end_nodes}
use Rattle.msg_core.proofs.EveryRun.{every_run}
use Rattle.msg_core.proofs.OneRank.{is_by_itself}
use Rattle.mail_room.specs.Desks.{DeskView, Capacities, side_of, IsDesk, AreNewDesks}
use Rattle.rank_runner.specs.declared.post.Task.{Task}
use Rattle.rank_runner.specs.Capacity.{occupancy_caps}
use Rattle.rank_runner.specs.Ends.{AreEndDesks}
use Rattle.rank_runner.specs.Posts.{IsSound, end_node, end_desk}
use Rattle.rank_runner.specs.Tasks.{with_op, ops_of, AllTasks}
use Rattle.rank_runner.specs.Seats.{TaskList, first_of, second_of, seat_fate, seat_fates, CanSit}
use Rattle.rank_runner.specs.Outfits.{AreTasks}
use Rattle.rank_runner.proofs.Fates.{AllQueued, Leads, leads}

-- lists by place
get_map : {X Y : Type 0} (f : X → Y) (xs : List X) (k : ℕ) (y : Y) → slice_get (map f xs) k ≡ Some y → (x : X) × (slice_get xs k ≡ Some x) × (y ≡ f x)
get_map f [] k y e = cc
get_map f (x ∷ xs) zero y e = (x, refl, (cc))
get_map f (x ∷ xs) (suc k) y e = get_map f xs k y e

same_get : {X : Type 0} (xs ys : List X) → length xs ≡ length ys → ((k : ℕ) (x : X) → slice_get xs k ≡ Some x → slice_get ys k ≡ Some x) → xs ≡ ys
same_get [] [] n e = refl
same_get [] (y ∷ ys) n e = absurd (omega arith)
same_get (x ∷ xs) [] n e = absurd (omega arith)
same_get (x ∷ xs) (y ∷ ys) n e = let head : Some y ≡ Some x = e 0 x refl in let same : x ≡ y = cc in ap₂ (λ a l. a ∷ l) same (same_get xs ys (omega arith) (λ k z q. e (suc k) z q))

length-mapped : {X Y : Type 0} (f : X → Y) (xs : List X) → length (map f xs) ≡ length xs
length-mapped f [] = refl
length-mapped f (x ∷ xs) = ap suc (length-mapped f xs)

some_same : {X : Type 0} (m : Option X) (a b : X) → m ≡ Some a → m ≡ Some b → a ≡ b
some_same m a b e f = let g : Some a ≡ Some b = sym e ∙ f in cc

shown_some : (k x : ℕ) → 0 < k → cond (nat_lt 0 k) (Some x) None ≡ Some x
shown_some k x h = ap (λ (b : Bool). cond b (Some x) None) (lt-ltb 0 k h)

own_few : {Op : Type 0} (r : ℕ) (xs : List (ℕ × Op)) → length (own r xs) ≤ length xs
own_few r [] = omega arith
own_few r (x ∷ xs) = let rest = own_few r xs in elim (eqb_tells x.0 r) [
  | inl h ↦ let l = ap (λ (os : List _). length os) (own_here r x xs h.1) in omega (arith, l, rest)
  | inr h ↦ let l = ap (λ (os : List _). length os) (own_else r x xs h.1) in omega (arith, l, rest)
]

renumbered : (letters : ℕ → ℕ → List (List ℤ)) (caps : Capacities) (r : ℕ) (put taken put' taken' : ℕ → ℕ) (d : DeskView) → ((j : ℕ) → put j ≡ put' j) → ((i : ℕ) → taken i ≡ taken' i)
    → IsDesk letters caps r put taken d → IsDesk letters caps r put' taken' d
renumbered letters caps r put taken put' taken' d p q desk = record {
  outs = λ j. desk.outs j ∙ ap (λ k. side_of (letters r j) (caps r j) k) (p j);
  ins = λ i. desk.ins i ∙ ap (λ k. side_of (letters i r) (caps i r) k) (q i);
}

module _ {N Op : Type 0} (t : StepOf Op) (g : NodeOf N Op) where
  -- no operation changes the number of memories
  length_by : (K : Kind) (r : ℕ) (o : Op) (n : N) (w : World N) → length (world_by t g K r o n w).nodes ≡ length w.nodes
  length_by (Send to len) r o n w = refl
  length_by (Recv from len) r o n w = length-set w.nodes r _
  length_by Local r o n w = length-set w.nodes r _

  length_with : (m : Option N) (r : ℕ) (o : Op) (w : World N) → length (world_with t g m r o w).nodes ≡ length w.nodes
  length_with (Some n) r o w = length_by (t.kind_of o) r o n w
  length_with None r o w = refl

  pub length_in_order : (xs : List (ℕ × Op)) (w : World N) → length (in_order t g xs w).nodes ≡ length w.nodes
  length_in_order [] w = refl
  length_in_order (x ∷ xs) w = length_in_order xs (after_step t g w x) ∙ length_with (slice_get w.nodes x.0) x.0 x.1 w

  op_more : (m : Option (ℕ × Op)) (x : ℕ × Op) (os : List Op) → m ≡ Some x → with_op m os ≡ x.1 ∷ os
  op_more m x os e = ap (λ p. with_op p os) e

  ops_long : (steps : List (ℕ × Op)) (xs : List Task) → AllTasks t steps xs → length (ops_of steps xs) ≡ length xs
  ops_long steps [] all = refl
  ops_long steps (x ∷ xs) all = ap (λ (os : List Op). length os) (op_more (slice_get steps x.place) all.0.op (ops_of steps xs) all.0.here) ∙ ap suc (ops_long steps xs all.1)

  -- what each place of the fates is
  fates_at : (steps : List (ℕ × Op)) (ns : List N) (tss : List TaskList) (ds : List DeskView) (k : ℕ) (x : N × DeskView) → length tss ≡ length ns → length ds ≡ length ns → slice_get (seat_fates t g steps ns tss ds) k ≡ Some x
      → (n : N) × (ts : TaskList) × (d : DeskView) × (slice_get ns k ≡ Some n) × (slice_get tss k ≡ Some ts) × (slice_get ds k ≡ Some d) × (x ≡ seat_fate t g steps n ts d)
  fates_at steps [] tss ds k x lt ld e = cc
  fates_at steps (n ∷ ns) [] ds k x lt ld e = absurd (omega arith)
  fates_at steps (n ∷ ns) (ts ∷ tss) [] k x lt ld e = absurd (omega arith)
  fates_at steps (n ∷ ns) (ts ∷ tss) (d ∷ ds) zero x lt ld e = (n, ts, d, refl, refl, refl, (cc))
  fates_at steps (n ∷ ns) (ts ∷ tss) (d ∷ ds) (suc k) x lt ld e = fates_at steps ns tss ds k x (omega arith) (omega arith) e

  pub length_fates : (steps : List (ℕ × Op)) (ns : List N) (tss : List TaskList) (ds : List DeskView) → length tss ≡ length ns → length ds ≡ length ns → length (seat_fates t g steps ns tss ds) ≡ length ns
  length_fates steps [] tss ds lt ld = refl
  length_fates steps (n ∷ ns) [] ds lt ld = absurd (omega arith)
  length_fates steps (n ∷ ns) (ts ∷ tss) [] lt ld = absurd (omega arith)
  length_fates steps (n ∷ ns) (ts ∷ tss) (d ∷ ds) lt ld = ap suc (length_fates steps ns tss ds (omega arith) (omega arith))

  module _ (steps : List (ℕ × Op)) (nodes : List N) (stage : IsStage t g steps nodes) where
    abbrev V : ℕ → ℕ → List (List ℤ)
    V = letters t g steps nodes

    abbrev caps : Capacities
    caps = occupancy_caps (kinds_of t steps)

    queued : AllQueued V caps
    queued i j h =
        let all = every_run t g steps nodes stage.able in
        let n = all.letters_count i j in
        (occupancy (kinds_of t steps) i j, shown_some (messages_of (kinds_of t steps) i j) (occupancy (kinds_of t steps) i j) (omega (arith, n, h)))

    led : (r : ℕ) (n : N) (d : DeskView) → slice_get nodes r ≡ Some n → IsDesk V caps r (λ j. 0) (λ i. 0) d → Leads t g V caps r (own r steps) (first_post n) d
    led r n d here desk = leads t g V caps r (own r steps) (first_post n) d queued (is_by_itself t g steps nodes stage.able r n here).sound desk

    pub can_sit : (tss : List TaskList) (ds : List DeskView) → AreTasks t steps 0 (length nodes) tss → AreNewDesks V caps ds → CanSit t g steps nodes tss ds
    can_sit tss ds tasks desks r n ts d hn ht hd =
        let list = tasks.each r ts ht in
        let l = led r n d hn (desks r d hd) in
        record {
          sound = subst (λ (os : List Op). IsSound t g n os d) (sym list.ops) l.sound;
          tasks = list.tasks;
          count = (let a = ops_long steps (reverse ts.items) list.tasks in let b = ap (λ (os : List Op). length os) list.ops in let c = own_few r steps in let f = stage.few in omega (arith, a, b, c, f));
        }

    -- where the ranks end
    pub nodes_end : (tss : List TaskList) (ds : List DeskView) → AreTasks t steps 0 (length nodes) tss → length ds ≡ length nodes → AreNewDesks V caps ds
        → map first_of (seat_fates t g steps nodes tss ds) ≡ end_nodes t g steps nodes
    nodes_end tss ds tasks count desks =
        same_get (map first_of (seat_fates t g steps nodes tss ds)) (end_nodes t g steps nodes)
        (length-mapped first_of (seat_fates t g steps nodes tss ds) ∙ (length_fates steps nodes tss ds tasks.count count ∙ sym (length_in_order steps (start nodes))))
        (λ k m e.
        let x = get_map first_of (seat_fates t g steps nodes tss ds) k m e in
        let f = fates_at steps nodes tss ds k x.0 tasks.count count x.1 in
        let n : N = f.0 in
        let ts : TaskList = f.1 in
        let d : DeskView = f.2 in
        let hn = f.3 in
        let ht = f.4 in
        let hd = f.5 in
        let l = led k n d hn (desks k d hd) in
        let is : m ≡ end_node t g n (own k steps) d = x.2 ∙ (ap first_of f.6 ∙ ap (λ os. end_node t g n os d) (tasks.each k ts ht).ops) in
        (is_by_itself t g steps nodes stage.able k n hn).node ∙ ap (λ p. Some p) (sym (is ∙ l.node)))

    pub desks_end : (tss : List TaskList) (ds : List DeskView) → AreTasks t steps 0 (length nodes) tss → length ds ≡ length nodes → AreNewDesks V caps ds
        → AreEndDesks t g steps nodes (map second_of (seat_fates t g steps nodes tss ds))
    desks_end tss ds tasks count desks = record {
      count = length-mapped second_of (seat_fates t g steps nodes tss ds) ∙ length_fates steps nodes tss ds tasks.count count;
      each = λ k e h.
          let x = get_map second_of (seat_fates t g steps nodes tss ds) k e h in
          let f = fates_at steps nodes tss ds k x.0 tasks.count count x.1 in
          let n : N = f.0 in
          let ts : TaskList = f.1 in
          let d : DeskView = f.2 in
          let hn = f.3 in
          let ht = f.4 in
          let hd = f.5 in
          let l = led k n d hn (desks k d hd) in
          let alone = is_by_itself t g steps nodes stage.able k n hn in
          let is : e ≡ end_desk t g (own k steps) d = x.2 ∙ (ap second_of f.6 ∙ ap (λ os. end_desk t g os d) (tasks.each k ts ht).ops) in
          subst (λ (v : DeskView). IsDesk V caps k (λ j. messages_of (kinds_of t steps) k j) (λ i. receives_of (kinds_of t steps) i k) v) (sym is)
          (renumbered V caps k _ _ _ _ _ alone.put alone.taken l.desk);
    }
