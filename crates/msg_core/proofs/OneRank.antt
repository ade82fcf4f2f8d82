-- One rank by itself finds in the plan's own order what its operations need, and ends where that order has it.
use Rattle.std.proofs.Common.{◌≡◌, ◌≢◌, ℕ, ◌+◌, Option, Some, None, inl, inr, List, [], ◌∷◌, ◌++◌, length, slice_get, sym, refl, ap, ◌∙◌, subst, arith, IsSomeAnd, length-append}
use lib.IntN.{ℤ}
use Rattle.std.proofs.lemmas.Bool.Decides.{eqb_tells}
use Rattle.machine.specs.declared.kind.Kind.{Kind}
use Rattle.machine.specs.declared.kind.Kind.TheVariants.{Send, Recv, Local}
use Rattle.machine.specs.Orders.{messages_of, receives_of}
use Rattle.machine.proofs.Alike.{same_done}
use Rattle.msg_core.specs.declared.node.Node.{Ghosts as NodeOf}
use Rattle.msg_core.specs.declared.node.Step.{Ghosts as StepOf}
use Rattle.msg_core.specs.InOrder.{World, start, own, at_rank, at_pair, waiting, or_none, HasLength, world_by, after_step, in_order, letters, CanBy, CanGo}
use Rattle.msg_core.specs.OneRank.{IsByItself, Post, post_in, next_letter, post_by, post_after, FindsBy, IsSound}
use Rattle.msg_core.specs.Able.{IsAble}
use Rattle.msg_core.specs.Kinds.{kinds_of}
use Rattle.msg_core.proofs.Pairs.{at_cases, at_here, rank_here, rank_else}
use Rattle.msg_core.proofs.Lists.{get_end, get_set_same}
use Rattle.msg_core.proofs.CanGo.{some_node}
use Rattle.msg_core.proofs.Alone.{own_here, own_else, step_is, sent_else, taken_else, node_else, in_order_keeps, all_sent, all_taken}
use Rattle.msg_core.proofs.KindLists.{sends_all, takes_all}
use Rattle.msg_core.proofs.GrowingPlans.{can_in_order}

some_same : {X : Type 0} (m : Option X) (a b : X) → m ≡ Some a → m ≡ Some b → a ≡ b
some_same m a b e f = let g : Some a ≡ Some b = sym e ∙ f in cc

some_words : (m : Option (List ℤ)) (len : ℕ) → IsSomeAnd m (HasLength len) → (ws : List ℤ) × (m ≡ Some ws) × (length ws ≡ len)
some_words (Some ws) len h = (ws, refl, h)
some_words None len h = absurd h

-- one message more of a row, and one taken more of a column
row_more : (f : ℕ → ℕ → List (List ℤ)) (r to : ℕ) (ws : List ℤ) (j : ℕ) → length (at_pair f r to (f r to ++ ws ∷ []) r j) ≡ at_rank (λ k. length (f r k)) to (length (f r to) + 1) j
row_more f r to ws j = elim (at_cases f r to (f r to ++ ws ∷ []) r j) [
  | inl h ↦ elim h.1 [
    | inl q ↦ absurd (q refl)
    | inr q ↦ ap (λ (l : List (List ℤ)). length l) h.0 ∙ sym (rank_else (λ k. length (f r k)) to (length (f r to) + 1) j q)
  ]
  | inr h ↦ ap (λ (l : List (List ℤ)). length l) h.2 ∙ (length-append (f r to) (ws ∷ []) ∙ (sym (rank_here (λ k. length (f r k)) to (length (f r to) + 1)) ∙ ap (λ b. at_rank (λ k. length (f r k)) to (length (f r to) + 1) b) (sym h.1)))
]

column_more : (f : ℕ → ℕ → ℕ) (from r i : ℕ) → at_pair f from r (f from r + 1) i r ≡ at_rank (λ k. f k r) from (f from r + 1) i
column_more f from r i = elim (at_cases f from r (f from r + 1) i r) [
  | inl h ↦ elim h.1 [
    | inl q ↦ h.0 ∙ sym (rank_else (λ k. f k r) from (f from r + 1) i q)
    | inr q ↦ absurd (q refl)
  ]
  | inr h ↦ h.2 ∙ (sym (rank_here (λ k. f k r) from (f from r + 1)) ∙ ap (λ b. at_rank (λ k. f k r) from (f from r + 1) b) (sym h.0))
]

module _ {N Op : Type 0} (t : StepOf Op) (g : NodeOf N Op) where
  -- another rank's operation
  post_else : (K : Kind) (s : ℕ) (o : Op) (m : N) (w : World N) (r : ℕ) (n : N) → r ≢ s → post_in (world_by t g K s o m w) r n ≡ post_in w r n
  post_else K s o m w r n ne =
      ap (λ (f : ℕ → ℕ). record { node = n; put = f; taken = λ i. (world_by t g K s o m w).taken i r }) (same_done (λ j. length ((world_by t g K s o m w).sent r j)) (λ j. length (w.sent r j)) (λ j. ap (λ (l : List (List ℤ)). length l) (sent_else t g K s o m w r j ne)))
      ∙ ap (λ (f : ℕ → ℕ). record { node = n; put = λ j. length (w.sent r j); taken = f }) (same_done (λ i. (world_by t g K s o m w).taken i r) (λ i. w.taken i r) (λ i. taken_else t g K s o m w i r ne))

  -- the rank's own, where V has all that is sent
  record OwnStep (K : Kind) (r : ℕ) (o : Op) (n : N) (w : World N) (V : ℕ → ℕ → List (List ℤ)) : Type 0 where
    pub finds : FindsBy t g V r K o (post_in w r n)
    pub node : slice_get (world_by t g K r o n w).nodes r ≡ Some (post_by t g V r K o (post_in w r n)).node
    pub post : post_in (world_by t g K r o n w) r (post_by t g V r K o (post_in w r n)).node ≡ post_by t g V r K o (post_in w r n)

  own_step : (K : Kind) (r : ℕ) (o : Op) (n : N) (w : World N) (V : ℕ → ℕ → List (List ℤ)) → ((i j k : ℕ) (ws : List ℤ) → slice_get ((world_by t g K r o n w).sent i j) k ≡ Some ws → slice_get (V i j) k ≡ Some ws)
      → slice_get w.nodes r ≡ Some n → CanBy t g K r w → OwnStep K r o n w V
  own_step (Send to len) r o n w V ext here can =
      let ws : List ℤ = g.message n o in
      record {
        finds = ext r to (length (w.sent r to)) ws (ap (λ l. slice_get l (length (w.sent r to))) (at_here w.sent r to (w.sent r to ++ ws ∷ [])) ∙ get_end (w.sent r to) ws);
        node = here;
        post = ap (λ (f : ℕ → ℕ). record { node = n; put = f; taken = λ i. w.taken i r }) (same_done (λ j. length (at_pair w.sent r to (w.sent r to ++ ws ∷ []) r j)) (at_rank (λ j. length (w.sent r j)) to (length (w.sent r to) + 1)) (row_more w.sent r to ws));
      }
  own_step (Recv from len) r o n w V ext here can =
      let got = some_words (waiting w from r) len can in
      let next : slice_get (V from r) (w.taken from r) ≡ Some got.0 = ext from r (w.taken from r) got.0 got.1 in
      let Q : Option (List ℤ) → Type 0 = λ m. IsSomeAnd m (HasLength len) in
      record {
        finds = subst Q (sym next) got.2;
        node = get_set_same w.nodes r n (g.absorbed n o (or_none (waiting w from r))) here ∙ ap (λ m. Some (g.absorbed n o (or_none m))) (got.1 ∙ sym next);
        post = ap (λ (f : ℕ → ℕ). record { node = (post_by t g V r (Recv from len) o (post_in w r n)).node; put = λ j. length (w.sent r j); taken = f }) (same_done (λ i. at_pair w.taken from r (w.taken from r + 1) i r) (at_rank (λ i. w.taken i r) from (w.taken from r + 1)) (column_more w.taken from r));
      }
  own_step Local r o n w V ext here can = record { finds = tt; node = get_set_same w.nodes r n (g.acted n o) here; post = refl }

  -- from any moment of the run in order on
  pub record Follows (xs : List (ℕ × Op)) (w : World N) (r : ℕ) (n : N) (os : List Op) (V : ℕ → ℕ → List (List ℤ)) : Type 0 where
    pub sound : IsSound t g V r os (post_in w r n)
    pub last : N
    pub node : slice_get (in_order t g xs w).nodes r ≡ Some last
    pub ends : post_after t g V r os (post_in w r n) ≡ post_in (in_order t g xs w) r last

  follows_own : (x : ℕ × Op) (xs : List (ℕ × Op)) (w : World N) (r : ℕ) (n : N) → CanGo t g (x ∷ xs) w → slice_get w.nodes r ≡ Some n → x.0 ≡ r
      → ((m : N) → slice_get (after_step t g w x).nodes r ≡ Some m → Follows xs (after_step t g w x) r m (own r xs) (in_order t g xs (after_step t g w x)).sent) → Follows (x ∷ xs) w r n (x.1 ∷ own r xs) (in_order t g (x ∷ xs) w).sent
  follows_own x xs w r n can here same rest =
      let o : Op = x.1 in
      let K : Kind = t.kind_of x.1 in
      let w' : World N = after_step t g w x in
      let V : ℕ → ℕ → List (List ℤ) = (in_order t g xs (after_step t g w x)).sent in
      let at : slice_get w.nodes x.0 ≡ Some n = ap (λ i. slice_get w.nodes i) same ∙ here in
      let is : after_step t g w x ≡ world_by t g (t.kind_of x.1) r x.1 n w = step_is t g x w n at ∙ ap (λ i. world_by t g (t.kind_of x.1) i x.1 n w) same in
      let known = some_node t g (slice_get w.nodes x.0) x.1 can.0 in
      let able : g.can_do n x.1 = subst (λ (m : N). g.can_do m x.1) (some_same (slice_get w.nodes x.0) known.0 n known.1 at) known.2 in
      let step = own_step K r o n w V (λ i j k ws e. in_order_keeps t g xs w' i j k ws can.2 (ap (λ (u : World N). slice_get (u.sent i j) k) is ∙ e)) here (subst (λ (i : ℕ). CanBy t g K i w) same can.1) in
      let p : Post N = post_by t g V r K o (post_in w r n) in
      let more = rest p.node (ap (λ (u : World N). slice_get u.nodes r) is ∙ step.node) in
      let post : post_in (after_step t g w x) r p.node ≡ p = ap (λ (u : World N). post_in u r p.node) is ∙ step.post in
      record {
        sound = (able, step.finds, subst (λ (q : Post N). IsSound t g V r (own r xs) q) post more.sound);
        last = more.last;
        node = more.node;
        ends = ap (λ q. post_after t g V r (own r xs) q) (sym post) ∙ more.ends;
      }

  pub follows : (xs : List (ℕ × Op)) (w : World N) (r : ℕ) (n : N) → CanGo t g xs w → slice_get w.nodes r ≡ Some n → Follows xs w r n (own r xs) (in_order t g xs w).sent
  follows [] w r n can here = record { sound = tt; last = n; node = here; ends = refl }
  follows (x ∷ xs) w r n can here =
      let V : ℕ → ℕ → List (List ℤ) = (in_order t g xs (after_step t g w x)).sent in
      elim (eqb_tells x.0 r) [
        | inl h ↦ subst (λ (os : List Op). Follows (x ∷ xs) w r n os V) (sym (own_here r x xs h.1)) (follows_own x xs w r n can here h.1 (λ m e. follows xs (after_step t g w x) r m can.2 e))
        | inr h ↦
            let known = some_node t g (slice_get w.nodes x.0) x.1 can.0 in
            let other : r ≢ x.0 = λ q. h.1 (sym q) in
            let is : after_step t g w x ≡ world_by t g (t.kind_of x.1) x.0 x.1 known.0 w = step_is t g x w known.0 known.1 in
            let post : post_in (after_step t g w x) r n ≡ post_in w r n = ap (λ (u : World N). post_in u r n) is ∙ post_else (t.kind_of x.1) x.0 x.1 known.0 w r n other in
            let more = follows xs (after_step t g w x) r n can.2 (ap (λ (u : World N). slice_get u.nodes r) is ∙ (node_else t g (t.kind_of x.1) x.0 x.1 known.0 w r other ∙ here)) in
            subst (λ (os : List Op). Follows (x ∷ xs) w r n os V) (sym (own_else r x xs h.1)) record {
              sound = subst (λ (q : Post N). IsSound t g V r (own r xs) q) post more.sound;
              last = more.last;
              node = more.node;
              ends = ap (λ q. post_after t g V r (own r xs) q) (sym post) ∙ more.ends;
            }
      ]

  -- each rank of a plan that its memories can do
  pub is_by_itself : (steps : List (ℕ × Op)) (nodes : List N) → IsAble t g steps nodes → (r : ℕ) (n : N) → slice_get nodes r ≡ Some n → IsByItself t g steps nodes r n
  is_by_itself steps nodes able r n here =
      let can = can_in_order t g steps nodes able in
      let f = follows steps (start nodes) r n can here in
      let sent : (j : ℕ) → length (letters t g steps nodes r j) ≡ messages_of (kinds_of t steps) r j = λ j. (let a = all_sent t g steps (start nodes) r j can in let b = sends_all t steps r j in omega (arith, a, b)) in
      let taken : (i : ℕ) → (in_order t g steps (start nodes)).taken i r ≡ receives_of (kinds_of t steps) i r = λ i. (let a = all_taken t g steps (start nodes) i r can in let b = takes_all t steps i r in omega (arith, a, b)) in
      record {
        sound = f.sound;
        node = f.node ∙ ap (λ (p : Post N). Some p.node) (sym f.ends);
        put = λ j. ap (λ (p : Post N). p.put j) f.ends ∙ sent j;
        taken = λ i. ap (λ (p : Post N). p.taken i) f.ends ∙ taken i;
      }
