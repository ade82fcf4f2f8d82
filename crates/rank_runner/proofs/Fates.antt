-- A rank's desk and its operations by themselves stand to each other as the plan's own order has it.
use Rattle.std.proofs.Common.{◌≡◌, ◌≢◌, ℕ, ◌+◌, ◌<◌, Option, Some, None, inl, inr, List, [], ◌∷◌, length, slice_get, set, sym, refl, ap, ◌∙◌, subst, arith, IsSomeAnd}
use lib.IntN.{ℤ}
use Rattle.machine.specs.declared.kind.Kind.{Kind}
use Rattle.machine.specs.declared.kind.Kind.TheVariants.{Send, Recv, Local}
use Rattle.machine.specs.Changes.{at_rank}
use Rattle.machine.proofs.Lists.{get_set_same, get_set_other, within_get}
use Rattle.machine.proofs.Pairs.{rank_cases}
use Rattle.msg_core.specs.declared.node.Node.{Ghosts as NodeOf}
use Rattle.msg_core.specs.declared.node.Step.{Ghosts as StepOf}
use Rattle.msg_core.specs.InOrder.{or_none, HasLength}
use Rattle.msg_core.specs.OneRank.{Post as Numbers, post_by, post_after, FindsBy}
use Rattle.msg_core.specs.OneRank as alone
use Rattle.mail_room.specs.declared.seen.Side.{Side}
use Rattle.mail_room.specs.Mail.{side, one_more, IsNext}
use Rattle.mail_room.specs.Desks.{DeskView, Capacities, flat, side_at, one_more_at, after_put, after_take, side_of, IsDesk}
use Rattle.rank_runner.specs.Posts.{letter_of, next_letter, node_after, desk_after, Agrees, IsSound, end_node, end_desk}

flat_some : (o : Option (Option Side)) (s : Side) → flat o ≡ Some s → o ≡ Some (Some s)
flat_some (Some p) s e = ap (λ q. Some q) e
flat_some None s e = cc

side_same : (sides : List (Option Side)) (k : ℕ) (s : Side) → side_at sides k ≡ Some s → side_at (one_more_at sides k) k ≡ Some (one_more s)
side_same sides k s e = let P : Option Side → Type 0 = λ o. flat (slice_get (set sides k (elim o [ Some v ↦ Some (one_more v) | None ↦ None ])) k) ≡ Some (one_more s) in
    subst P (sym e) (ap flat (get_set_same sides k (Some s) (Some (one_more s)) (flat_some (slice_get sides k) s e)))

side_other : (sides : List (Option Side)) (k j : ℕ) → j ≢ k → side_at (one_more_at sides k) j ≡ side_at sides j
side_other sides k j ne = ap flat (get_set_other sides k j _ ne)

-- each pair that has messages has a queue
abbrev pub AllQueued : (ℕ → ℕ → List (List ℤ)) → Capacities → Type 0
AllQueued letters caps = (i j : ℕ) → 0 < length (letters i j) → (c : ℕ) × (caps i j ≡ Some c)

module _ (letters : ℕ → ℕ → List (List ℤ)) (caps : Capacities) (r : ℕ) where
  put_desk : (put taken : ℕ → ℕ) (d : DeskView) (to c : ℕ) → caps r to ≡ Some c → IsDesk letters caps r put taken d → IsDesk letters caps r (at_rank put to (put to + 1)) taken (after_put d to)
  put_desk put taken d to c e desk =
      let s : Side = side (letters r to) c (put to) in
      let there : side_at d.outs to ≡ Some s = desk.outs to ∙ ap (λ m. side_of (letters r to) m (put to)) e in
      let more : Some (one_more s) ≡ side_of (letters r to) (caps r to) (put to + 1) = ap (λ m. side_of (letters r to) m (put to + 1)) (sym e) in
      record {
        outs = λ j. elim (rank_cases put to (put to + 1) j) [
          | inl h ↦ side_other d.outs to j h.0 ∙ (desk.outs j ∙ ap (λ k. side_of (letters r j) (caps r j) k) (sym h.1))
          | inr h ↦
              ap (λ k. side_at (one_more_at d.outs to) k) h.0
              ∙ (side_same d.outs to s there ∙ (more ∙ (ap (λ i. side_of (letters r i) (caps r i) (put to + 1)) (sym h.0) ∙ ap (λ k. side_of (letters r j) (caps r j) k) (sym h.1))))
        ];
        ins = desk.ins;
      }

  take_desk : (put taken : ℕ → ℕ) (d : DeskView) (from c : ℕ) → caps from r ≡ Some c → IsDesk letters caps r put taken d → IsDesk letters caps r put (at_rank taken from (taken from + 1)) (after_take d from)
  take_desk put taken d from c e desk =
      let s : Side = side (letters from r) c (taken from) in
      let there : side_at d.ins from ≡ Some s = desk.ins from ∙ ap (λ m. side_of (letters from r) m (taken from)) e in
      let more : Some (one_more s) ≡ side_of (letters from r) (caps from r) (taken from + 1) = ap (λ m. side_of (letters from r) m (taken from + 1)) (sym e) in
      record {
        outs = desk.outs;
        ins = λ i. elim (rank_cases taken from (taken from + 1) i) [
          | inl h ↦ side_other d.ins from i h.0 ∙ (desk.ins i ∙ ap (λ k. side_of (letters i r) (caps i r) k) (sym h.1))
          | inr h ↦
              ap (λ k. side_at (one_more_at d.ins from) k) h.0
              ∙ (side_same d.ins from s there ∙ (more ∙ (ap (λ j. side_of (letters j r) (caps j r) (taken from + 1)) (sym h.0) ∙ ap (λ k. side_of (letters i r) (caps i r) k) (sym h.1))))
        ];
      }

some_words : (m : Option (List ℤ)) (len : ℕ) → IsSomeAnd m (HasLength len) → (ws : List ℤ) × (m ≡ Some ws) × (length ws ≡ len)
some_words (Some ws) len h = (ws, refl, h)
some_words None len h = absurd h

length_some : (xs : List (List ℤ)) (k : ℕ) (ws : List ℤ) → slice_get xs k ≡ Some ws → 0 < length xs
length_some xs k ws e = let h = within_get xs k ws e in omega arith

module _ {N Op : Type 0} (t : StepOf Op) (g : NodeOf N Op) (letters : ℕ → ℕ → List (List ℤ)) (caps : Capacities) (r : ℕ) where
  -- an operation of that kind
  record Goes (K : Kind) (o : Op) (p : Numbers N) (d : DeskView) : Type 0 where
    pub agrees : Agrees t g K p.node o d
    pub node : node_after t g K p.node o d ≡ (post_by t g letters r K o p).node
    pub desk : IsDesk letters caps r (post_by t g letters r K o p).put (post_by t g letters r K o p).taken (desk_after t g K d)

  goes : (K : Kind) (o : Op) (p : Numbers N) (d : DeskView) → AllQueued letters caps → FindsBy t g letters r K o p → IsDesk letters caps r p.put p.taken d → Goes K o p d
  goes (Send to len) o p d queued find desk =
      let c = queued r to (length_some (letters r to) (p.put to) (g.message p.node o) find) in
      let there : side_at d.outs to ≡ Some (side (letters r to) c.0 (p.put to)) = desk.outs to ∙ ap (λ m. side_of (letters r to) m (p.put to)) c.1 in
      let P : Option Side → Type 0 = λ m. IsSomeAnd m (λ s. IsNext s (g.message p.node o)) in
      record { agrees = subst P (sym there) find; node = refl; desk = put_desk letters caps r p.put p.taken d to c.0 c.1 desk }
  goes (Recv from len) o p d queued find desk =
      let got = some_words (slice_get (letters from r) (p.taken from)) len find in
      let c = queued from r (length_some (letters from r) (p.taken from) got.0 got.1) in
      let there : side_at d.ins from ≡ Some (side (letters from r) c.0 (p.taken from)) = desk.ins from ∙ ap (λ m. side_of (letters from r) m (p.taken from)) c.1 in
      let letter : next_letter d from ≡ got.0 = ap letter_of there ∙ ap or_none got.1 in
      let P : Option Side → Type 0 = λ m. IsSomeAnd m (λ s. IsNext s (next_letter d from)) in
      record {
        agrees = (subst P (sym there) (got.1 ∙ ap (λ l. Some l) (sym letter)), ap (λ (l : List ℤ). length l) letter ∙ got.2);
        node = ap (λ l. g.absorbed p.node o l) (letter ∙ sym (ap or_none got.1));
        desk = take_desk letters caps r p.put p.taken d from c.0 c.1 desk;
      }
  goes Local o p d queued find desk = record { agrees = tt; node = refl; desk = desk }

  -- all its operations
  pub record Leads (os : List Op) (p : Numbers N) (d : DeskView) : Type 0 where
    pub sound : IsSound t g p.node os d
    pub node : end_node t g p.node os d ≡ (post_after t g letters r os p).node
    pub desk : IsDesk letters caps r (post_after t g letters r os p).put (post_after t g letters r os p).taken (end_desk t g os d)

  pub leads : (os : List Op) (p : Numbers N) (d : DeskView) → AllQueued letters caps → alone.IsSound t g letters r os p → IsDesk letters caps r p.put p.taken d → Leads os p d
  leads [] p d queued h desk = record { sound = tt; node = refl; desk = desk }
  leads (o ∷ os) p d queued h desk =
      let s = goes (t.kind_of o) o p d queued h.1 desk in
      let q : Numbers N = post_by t g letters r (t.kind_of o) o p in
      let e : DeskView = desk_after t g (t.kind_of o) d in
      let more = leads os q e queued h.2 s.desk in
      record {
        sound = (h.0, s.agrees, subst (λ (n : N). IsSound t g n os e) (sym s.node) more.sound);
        node = ap (λ n. end_node t g n os e) s.node ∙ more.node;
        desk = more.desk;
      }
