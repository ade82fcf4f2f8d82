-- One operation, by the lengths that wait and by the messages that wait.
use Rattle.std.proofs.Common.{◌≡◌, ℕ, zero, suc, ◌+◌, ◌<◌, ◌≤◌, Some, None, inl, inr, List, [], ◌∷◌, ◌++◌, length, map, slice_get, drop, sym, refl, ap, ◌∙◌, arith, IsSomeAnd, add-one, length-append}
use lib.IntN.{ℤ}
use Rattle.machine.specs.declared.kind.Kind.{Kind}
use Rattle.machine.specs.declared.kind.Kind.TheVariants.{Send, Recv, Local}
use Rattle.msg_core.specs.declared.node.Node.{Ghosts as NodeOf}
use Rattle.msg_core.specs.declared.node.Step.{Ghosts as StepOf}
use Rattle.msg_core.specs.InOrder.{World, at_pair, or_none, waiting, HasLength, world_by, CanBy}
use Rattle.msg_core.specs.Plans.{Lens, lens_by, FitsLens}
use Rattle.msg_core.specs.Able.{Lawful, Matches}
use Rattle.msg_core.proofs.Pairs.{at_cases, at_else, at_here}

drop_snoc : (xs : List (List ℤ)) (k : ℕ) (m : List ℤ) → k ≤ length xs → map length (drop k (xs ++ m ∷ [])) ≡ map length (drop k xs) ++ length m ∷ []
drop_snoc xs zero m h = map_snoc xs m where
  map_snoc : (xs : List (List ℤ)) (m : List ℤ) → map length (xs ++ m ∷ []) ≡ map length xs ++ length m ∷ []
  map_snoc [] m = refl
  map_snoc (x ∷ xs) m = ap (λ l. length x ∷ l) (map_snoc xs m)
drop_snoc [] (suc k) m h = absurd (omega arith)
drop_snoc (x ∷ xs) (suc k) m h = drop_snoc xs k m (omega arith)

drop_one : (xs : List (List ℤ)) (k : ℕ) → map length (drop (suc k) xs) ≡ drop 1 (map length (drop k xs))
drop_one [] zero = refl
drop_one [] (suc k) = refl
drop_one (x ∷ xs) zero = refl
drop_one (x ∷ xs) (suc k) = drop_one xs k

first_waits : (xs : List (List ℤ)) (k len : ℕ) → slice_get (map length (drop k xs)) 0 ≡ Some len → IsSomeAnd (slice_get xs k) (HasLength len) × (k < length xs)
first_waits [] zero len e = cc
first_waits [] (suc k) len e = cc
first_waits (x ∷ xs) zero len e = ((cc), omega arith)
first_waits (x ∷ xs) (suc k) len e = let h = first_waits xs k len e in (h.0, omega (arith, h.1))

waits_first : (xs : List (List ℤ)) (k len : ℕ) → IsSomeAnd (slice_get xs k) (HasLength len) → slice_get (map length (drop k xs)) 0 ≡ Some len
waits_first [] zero len h = absurd h
waits_first [] (suc k) len h = absurd h
waits_first (x ∷ xs) zero len h = ap (λ n. Some n) h
waits_first (x ∷ xs) (suc k) len h = waits_first xs k len h

module _ {N Op : Type 0} (t : StepOf Op) (g : NodeOf N Op) where
  -- a receive finds its message where its length is the first that waits, and the other way round
  pub finds_by : (K : Kind) (r : ℕ) (w : World N) (q : Lens) → Matches q w → FitsLens K r q → CanBy t g K r w
  finds_by (Send to len) r w q m fits = tt
  finds_by (Recv from len) r w q m fits = (first_waits (w.sent from r) (w.taken from r) len (ap (λ l. slice_get l 0) (sym (m from r).1) ∙ fits)).0
  finds_by Local r w q m fits = tt

  pub fits_by : (K : Kind) (r : ℕ) (w : World N) (q : Lens) → Matches q w → CanBy t g K r w → FitsLens K r q
  fits_by (Send to len) r w q m can = tt
  fits_by (Recv from len) r w q m can = ap (λ l. slice_get l 0) (m from r).1 ∙ waits_first (w.sent from r) (w.taken from r) len can
  fits_by Local r w q m can = tt

  -- after the operation the lengths are again those of the messages
  pub matches_by : Lawful t g → (K : Kind) (r : ℕ) (o : Op) (n : N) (w : World N) (q : Lens) → t.kind_of o ≡ K → g.can_do n o → FitsLens K r q → Matches q w → Matches (lens_by K r q) (world_by t g K r o n w)
  matches_by laws (Send to len) r o n w q kind can fits m i j =
      let ws : List ℤ = g.message n o in
      let sent : List (List ℤ) = w.sent r to ++ ws ∷ [] in
      elim (at_cases w.sent r to sent i j) [
        | inl h ↦ (
          rw h.0 (m i j).0,
          at_else q r to (q r to ++ len ∷ []) i j h.1 ∙ ((m i j).1 ∙ ap (λ l. map length (drop (w.taken i j) l)) (sym h.0)),
        )
        | inr h ↦
            let old = m r to in
            let at : w.taken i j ≡ w.taken r to = ap (λ a. w.taken a j) h.0 ∙ ap (λ b. w.taken r b) h.1 in
            let long : length sent ≡ length (w.sent r to) + 1 = length-append (w.sent r to) (ws ∷ []) in
            let value : at_pair q r to (q r to ++ len ∷ []) i j ≡ q r to ++ len ∷ [] = ap (λ a. at_pair q r to (q r to ++ len ∷ []) a j) h.0 ∙ (ap (λ b. at_pair q r to (q r to ++ len ∷ []) r b) h.1 ∙ at_here q r to (q r to ++ len ∷ [])) in (
              rw h.2 (omega (arith, old.0, at, long)),
              value ∙ (ap (λ l. l ++ len ∷ []) old.1 ∙ (ap (λ k. map length (drop (w.taken r to) (w.sent r to)) ++ k ∷ []) (sym (laws.message_length n o to len can kind))
                  ∙ (sym (drop_snoc (w.sent r to) (w.taken r to) ws old.0) ∙ (ap (λ k. map length (drop k sent)) (sym at) ∙ ap (λ l. map length (drop (w.taken i j) l)) (sym h.2))))),
            )
      ]
  matches_by laws (Recv from len) r o n w q kind can fits m i j =
      let old = m from r in
      let waits = first_waits (w.sent from r) (w.taken from r) len (ap (λ l. slice_get l 0) (sym old.1) ∙ fits) in
      let count : ℕ = w.taken from r + 1 in
      elim (at_cases w.taken from r count i j) [
        | inl h ↦ (
          rw h.0 (m i j).0,
          at_else q from r (drop 1 (q from r)) i j h.1 ∙ ((m i j).1 ∙ ap (λ k. map length (drop k (w.sent i j))) (sym h.0)),
        )
        | inr h ↦
            let sent : w.sent i j ≡ w.sent from r = ap (λ a. w.sent a j) h.0 ∙ ap (λ b. w.sent from b) h.1 in
            let value : at_pair q from r (drop 1 (q from r)) i j ≡ drop 1 (q from r) = ap (λ a. at_pair q from r (drop 1 (q from r)) a j) h.0 ∙ (ap (λ b. at_pair q from r (drop 1 (q from r)) from b) h.1 ∙ at_here q from r (drop 1 (q from r))) in (
              rw (h.2, sent) (omega (arith, waits.1)),
              value ∙ (ap (λ l. drop 1 l) old.1 ∙ (sym (drop_one (w.sent from r) (w.taken from r)) ∙ (ap (λ k. map length (drop k (w.sent from r))) (sym (add-one (w.taken from r)))
                  ∙ (ap (λ k. map length (drop k (w.sent from r))) (sym h.2) ∙ ap (λ l. map length (drop (at_pair w.taken from r count i j) l)) (sym sent))))),
            )
      ]
  matches_by laws Local r o n w q kind can fits m i j = m i j
