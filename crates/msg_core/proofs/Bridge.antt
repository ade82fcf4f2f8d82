-- The machine with memories steps as the machine of kinds does.
use Rattle.std.proofs.Common.{◌≡◌, ℕ, zero, suc, ◌+◌, true, false, IsTrue, Option, Some, None, List, [], ◌∷◌, ◌++◌, length, map, slice_get, take, sym, refl, ap, ◌∙◌, subst, arith, inl, inr, length-drop}
use lib.IntN.{ℤ}
use Rattle.std.specs.Prelude.{nat_lt}
use Rattle.std.proofs.lemmas.Bool.Decides.{eqb_tells}
use Rattle.std.proofs.lemmas.Option.{slice_get_past}
use Rattle.std.proofs.lemmas.Bool.{lt-ltb}
use Rattle.machine.specs.declared.kind.Kind.{Kind}
use Rattle.machine.specs.declared.kind.Kind.TheVariants.{Send, Recv, Local}
use Rattle.machine.specs.Queues.{Lens, lens_to, takes_from}
use Rattle.machine.specs.Machine as bare
use Rattle.machine.proofs.Waiting.{first_after}
use Rattle.machine.proofs.Stepping.{finds_first, send_sent, send_taken, recv_sent, recv_taken, local_sent, local_taken}
use Rattle.msg_core.specs.declared.node.Node.{Ghosts as NodeOf}
use Rattle.msg_core.specs.declared.node.Step.{Ghosts as StepOf}
use Rattle.msg_core.specs.InOrder.{World, start, own, at_pair, queue, waiting, or_none, world_by, after_step}
use Rattle.msg_core.specs.Plans.{AllCan}
use Rattle.msg_core.specs.Machine.{State, next, step, step_with}
use Rattle.msg_core.specs.Ranks.{next_kind, can_kind}
use Rattle.msg_core.specs.Able.{Lawful}
use Rattle.msg_core.specs.Kinds.{lists_of}
use Rattle.msg_core.proofs.KindLists.{own_kinds, own_long}
use Rattle.msg_core.proofs.Pairs.{at_cases, at_else, at_here}
use Rattle.msg_core.proofs.Lists.{get_past}
use Rattle.msg_core.proofs.Alone.{own_here, own_else, step_is}
use Rattle.msg_core.proofs.CanGo.{some_node, all_can_set}

map_end : (xs : List (List ℤ)) (m : List ℤ) → map length (xs ++ m ∷ []) ≡ map length xs ++ length m ∷ []
map_end [] m = refl
map_end (x ∷ xs) m = ap (λ l. length x ∷ l) (map_end xs m)

map_long : (xs : List (List ℤ)) → length (map length xs) ≡ length xs
map_long [] = refl
map_long (x ∷ xs) = ap suc (map_long xs)

-- a queue isn't empty where it has a first
some_waits : (a : List (List ℤ)) (b : List ℕ) (len : ℕ) → length a ≡ length b → nat_lt 0 (length a) ≡ bare.takes_first bare.any_length (slice_get b 0) len
some_waits [] [] len e = refl
some_waits [] (y ∷ b) len e = absurd (omega (arith, e))
some_waits (x ∷ a) [] len e = absurd (omega (arith, e))
some_waits (x ∷ a) (y ∷ b) len e = lt-ltb 0 (suc (length a)) (omega arith)

differ : false ≡ true → ⊥
differ e = cc

from_length : (xs : List (List ℤ)) (k len : ℕ) → slice_get (map length xs) k ≡ Some len → (ws : List ℤ) × (slice_get xs k ≡ Some ws)
from_length [] k len e = cc
from_length (x ∷ xs) zero len e = (x, refl)
from_length (x ∷ xs) (suc k) len e = from_length xs k len e

module _ {N Op : Type 0} (t : StepOf Op) (g : NodeOf N Op) where
  -- a rank's memory can do its own operations
  pub own_can : (nodes : List N) (steps : List (ℕ × Op)) (r k : ℕ) (o : Op) → AllCan g nodes steps → slice_get (own r steps) k ≡ Some o → (n : N) × (slice_get nodes r ≡ Some n) × g.can_do n o
  own_can nodes [] r k o all e = cc
  own_can nodes (x ∷ xs) r k o all e = elim (eqb_tells x.0 r) [
    | inl h ↦ first (λ j f. own_can nodes xs r j o all.1 f) k (ap (λ l. slice_get l k) (sym (own_here r x xs h.1)) ∙ e) h.1
    | inr h ↦ own_can nodes xs r k o all.1 (ap (λ l. slice_get l k) (sym (own_else r x xs h.1)) ∙ e)
  ]
    where
      first : ((j : ℕ) → slice_get (own r xs) j ≡ Some o → (n : N) × (slice_get nodes r ≡ Some n) × g.can_do n o) → (j : ℕ) → slice_get (x.1 ∷ own r xs) j ≡ Some o → x.0 ≡ r → (n : N) × (slice_get nodes r ≡ Some n) × g.can_do n o
      first rest zero f same =
          let op : x.1 ≡ o = cc in
          let n = some_node t g (slice_get nodes x.0) x.1 all.0 in
          (n.0, ap (λ i. slice_get nodes i) (sym same) ∙ n.1, subst (λ (p : Op). g.can_do n.0 p) op n.2)
      first rest (suc j) f same = rest j f

  module _ (steps : List (ℕ × Op)) where
    -- the messages of each pair have the lengths that the numbers say, and every memory can do its operations
    pub record Agrees (w : World N) (d : bare.Done) : Type 0 where
      pub all : AllCan g w.nodes steps
      pub sent_lens : (i j : ℕ) → map length (w.sent i j) ≡ bare.sent (lists_of t steps) d i j
      pub taken_is : (i j : ℕ) → w.taken i j ≡ bare.taken (lists_of t steps) d i j

    pub agrees_first : (nodes : List N) → AllCan g nodes steps → Agrees (start nodes) bare.none_done
    agrees_first nodes all = record { all = all; sent_lens = λ i j. none_sent j (lists_of t steps i); taken_is = λ i j. none_taken i (lists_of t steps j) }
      where
        none_sent : (j : ℕ) (ks : List Kind) → [] ≡ lens_to j (take 0 ks)
        none_sent j [] = refl
        none_sent j (k ∷ ks) = refl

        none_taken : (i : ℕ) (ks : List Kind) → 0 ≡ takes_from i (take 0 ks)
        none_taken i [] = refl
        none_taken i (k ∷ ks) = refl

    pub agrees_by : Lawful t g → (K : Kind) (r : ℕ) (o : Op) (n : N) (w : World N) (d : bare.Done) → t.kind_of o ≡ K → bare.next (lists_of t steps) d r ≡ Some K → slice_get w.nodes r ≡ Some n → g.can_do n o → Agrees w d → Agrees (world_by t g K r o n w) (bare.step d r)
    agrees_by laws (Send to len) r o n w d kind here node can a =
        let lists : bare.Lists = lists_of t steps in
        let ws : List ℤ = g.message n o in
        record {
          all = a.all;
          sent_lens = λ i j. elim (at_cases w.sent r to (w.sent r to ++ ws ∷ []) i j) [
            | inl h ↦ ap (λ l. map length l) h.0 ∙ (a.sent_lens i j ∙ (sym (at_else (bare.sent lists d) r to (bare.sent lists d r to ++ len ∷ []) i j h.1) ∙ sym (send_sent lists d r to len here i j)))
            | inr h ↦
                ap (λ l. map length l) h.2
                ∙ (map_end (w.sent r to) ws
                ∙ (ap (λ l. l ++ length ws ∷ []) (a.sent_lens r to)
                ∙ (ap (λ c. bare.sent lists d r to ++ c ∷ []) (laws.message_length n o to len can kind)
                ∙ (sym (at_here (bare.sent lists d) r to (bare.sent lists d r to ++ len ∷ []))
                ∙ (ap (λ b. at_pair (bare.sent lists d) r to (bare.sent lists d r to ++ len ∷ []) r b) (sym h.1)
                ∙ (ap (λ c. at_pair (bare.sent lists d) r to (bare.sent lists d r to ++ len ∷ []) c j) (sym h.0) ∙ sym (send_sent lists d r to len here i j)))))))
          ];
          taken_is = λ i j. a.taken_is i j ∙ sym (send_taken lists d r to len here i j);
        }
    agrees_by laws (Recv from len) r o n w d kind here node can a =
        let lists : bare.Lists = lists_of t steps in
        record {
          all = all_can_set t g w.nodes steps r n (g.absorbed n o (or_none (waiting w from r))) node (λ p h. laws.after_absorb n p o (or_none (waiting w from r)) h can) a.all;
          sent_lens = λ i j. a.sent_lens i j ∙ sym (recv_sent lists d r from len here i j);
          taken_is = λ i j. elim (at_cases w.taken from r (w.taken from r + 1) i j) [
            | inl h ↦ h.0 ∙ (a.taken_is i j ∙ (sym (at_else (bare.taken lists d) from r (bare.taken lists d from r + 1) i j h.1) ∙ sym (recv_taken lists d r from len here i j)))
            | inr h ↦
                h.2
                ∙ (ap (λ c. c + 1) (a.taken_is from r)
                ∙ (sym (at_here (bare.taken lists d) from r (bare.taken lists d from r + 1))
                ∙ (ap (λ b. at_pair (bare.taken lists d) from r (bare.taken lists d from r + 1) from b) (sym h.1)
                ∙ (ap (λ c. at_pair (bare.taken lists d) from r (bare.taken lists d from r + 1) c j) (sym h.0) ∙ sym (recv_taken lists d r from len here i j)))))
          ];
        }
    agrees_by laws Local r o n w d kind here node can a = record {
      all = all_can_set t g w.nodes steps r n (g.acted n o) node (λ p h. laws.after_act n p o h can) a.all;
      sent_lens = λ i j. a.sent_lens i j ∙ sym (local_sent (lists_of t steps) d r here i j);
      taken_is = λ i j. a.taken_is i j ∙ sym (local_taken (lists_of t steps) d r here i j);
    }

    -- the queues are as long
    pub queue_long : (w : World N) (d : bare.Done) → Agrees w d → (i j : ℕ) → length (queue w i j) ≡ length (bare.queue (lists_of t steps) d i j)
    queue_long w d a i j =
        let lists : bare.Lists = lists_of t steps in
        let x = length-drop (w.taken i j) (w.sent i j) in
        let y = length-drop (bare.taken lists d i j) (bare.sent lists d i j) in
        let l = sym (map_long (w.sent i j)) ∙ ap length (a.sent_lens i j) in
        let k = a.taken_is i j in
        omega (arith, x, y, l, k)

    -- the kind of a rank's next operation
    pub next_same : (s : State N) (r : ℕ) → next_kind t (next t g steps s r) ≡ bare.next (lists_of t steps) s.done r
    next_same s r = by (next t g steps s r) refl
      where
        by : (m : Option Op) → next t g steps s r ≡ m → next_kind t m ≡ bare.next (lists_of t steps) s.done r
        by None e = sym (slice_get_past (lists_of t steps r) (s.done r) (let p = get_past (own r steps) (s.done r) e in let l = own_long t steps r in omega (arith, p, l)))
        by (Some o) e = sym (own_kinds t steps r (s.done r) o e)

    -- whether it can be done shows in the messages
    pub can_same : (w : World N) (d : bare.Done) → Agrees w d → (m : Option Kind) (r : ℕ) → can_kind m r w.sent w.taken ≡ bare.can_next bare.free_rules m r (bare.queue (lists_of t steps) d)
    can_same w d a None r = refl
    can_same w d a (Some (Send to len)) r = refl
    can_same w d a (Some (Recv from len)) r = some_waits (queue w from r) (bare.queue (lists_of t steps) d from r) len (queue_long w d a from r)
    can_same w d a (Some Local) r = refl

    -- a receive that can be done finds a message
    pub message_there : (rules : bare.Rules) (w : World N) (d : bare.Done) (r from len : ℕ) → Agrees w d → IsTrue (bare.can_by rules (Recv from len) r (bare.queue (lists_of t steps) d)) → (ws : List ℤ) × (waiting w from r ≡ Some ws)
    message_there rules w d r from len a can =
        let lists : bare.Lists = lists_of t steps in
        let found = finds_first rules.accepts (slice_get (bare.queue lists d from r) 0) len can in
        from_length (w.sent from r) (w.taken from r) found.0
        (ap (λ l. slice_get l (w.taken from r)) (a.sent_lens from r) ∙ (ap (λ k. slice_get (bare.sent lists d from r) k) (a.taken_is from r) ∙ (sym (first_after (bare.taken lists d from r) (bare.sent lists d from r)) ∙ found.1)))

    -- a step of a rank that can step
    pub record StepsOn (rules : bare.Rules) (s : State N) (r : ℕ) : Type 0 where
      pub op : Op
      pub here : next t g steps s r ≡ Some op
      pub can : IsTrue (bare.can_by rules (t.kind_of op) r (bare.queue (lists_of t steps) s.done))
      pub agrees : Agrees (step t g steps s r).world (step t g steps s r).done
      pub done : (step t g steps s r).done ≡ bare.step s.done r

    pub steps_on : Lawful t g → (rules : bare.Rules) (s : State N) (r : ℕ) → Agrees s.world s.done → IsTrue (bare.can_step (lists_of t steps) rules s.done r) → StepsOn rules s r
    steps_on laws rules s r a can = by (next t g steps s r) refl
      where
        q : Lens
        q = bare.queue (lists_of t steps) s.done

        by : (m : Option Op) → next t g steps s r ≡ m → StepsOn rules s r
        by None e = absurd (differ (ap (λ m. bare.can_next rules m r q) (ap (λ m. next_kind t m) (sym e) ∙ next_same s r) ∙ can))
        by (Some o) e =
            let n = own_can s.world.nodes steps r (s.done r) o a.all e in
            let is : step t g steps s r ≡ step_with t g steps (Some o) s r = ap (λ m. step_with t g steps m s r) e in
            let world : after_step t g s.world (r, o) ≡ world_by t g (t.kind_of o) r o n.0 s.world = step_is t g (r, o) s.world n.0 n.1 in
            let after' : Agrees (world_by t g (t.kind_of o) r o n.0 s.world) (bare.step s.done r) = agrees_by laws (t.kind_of o) r o n.0 s.world s.done refl (own_kinds t steps r (s.done r) o e) n.1 n.2 a in
            record {
              op = o;
              here = e;
              can = ap (λ m. bare.can_next rules m r q) (ap (λ m. next_kind t m) (sym e) ∙ next_same s r) ∙ can;
              agrees = subst (λ (u : State N). Agrees u.world u.done) (sym is) (subst (λ (w : World N). Agrees w (bare.step s.done r)) (sym world) after');
              done = ap (λ (u : State N). u.done) is;
            }
