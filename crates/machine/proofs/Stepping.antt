-- What one step does to the queues.
use Rattle.std.proofs.Common.{◌≡◌, ◌≢◌, ℕ, zero, suc, ◌+◌, ◌≤◌, ◌<◌, true, false, IsTrue, Option, Some, None, List, [], ◌∷◌, ◌++◌, length, slice_get, take, drop, sym, refl, ap, ◌∙◌, arith, inl, inr, add-one, length-append}
use Rattle.std.proofs.lemmas.Bool.Decides.{eqb_tells}
use Rattle.std.proofs.lemmas.List.{append-nil, drop-append-le}
use Rattle.machine.specs.declared.kind.Kind.{Kind}
use Rattle.machine.specs.declared.kind.Kind.TheVariants.{Send, Recv, Local}
use Rattle.machine.specs.Changes.{at_pair}
use Rattle.machine.specs.Queues.{Lens, lens_by, lens_with, lens_to, take_count, takes_from}
use Rattle.machine.specs.Machine.{Lists, Done, none_done, Rules, takes_first, can_by, can_next, step, after, next, sent, taken, queue, IsFed, IsRunFrom}
use Rattle.machine.proofs.Pairs.{at_cases, at_else, at_here, rank_cases, rank_here}
use Rattle.machine.proofs.Lists.{take_at, within_get}
use Rattle.machine.proofs.Waiting.{with_more, first_after}

-- one operation more
pub lens_end : (j : ℕ) (ks : List Kind) (k : Kind) → lens_to j (ks ++ k ∷ []) ≡ lens_to j ks ++ lens_with k j []
lens_end j [] k = refl
lens_end j (x ∷ ks) k = with_more x j (lens_to j (ks ++ k ∷ [])) (lens_to j ks) (lens_with k j []) (lens_end j ks k)

pub takes_end : (i : ℕ) (ks : List Kind) (k : Kind) → takes_from i (ks ++ k ∷ []) ≡ takes_from i ks + take_count k i
takes_end i [] k = omega arith
takes_end i (x ∷ ks) k = let rest = takes_end i ks k in omega (arith, rest)

pub lens_one : (to len j : ℕ) → to ≡ j → lens_with (Send to len) j [] ≡ len ∷ []
lens_one to len j e = elim (eqb_tells to j) [ inl h ↦ rw h.0 refl | inr h ↦ absurd (h.1 e) ]

pub lens_none : (to len j : ℕ) → to ≢ j → lens_with (Send to len) j [] ≡ []
lens_none to len j n = elim (eqb_tells to j) [ inl h ↦ absurd (n h.1) | inr h ↦ rw h.0 refl ]

pub drop_next : {X : Type 0} (n : ℕ) (xs : List X) → drop (suc n) xs ≡ drop 1 (drop n xs)
drop_next zero xs = refl
drop_next (suc n) [] = refl
drop_next (suc n) (x ∷ xs) = drop_next n xs

differ : false ≡ true → ⊥
differ e = cc

-- a receive that can be done finds a message
pub finds_first : (accepts : ℕ → ℕ → _) (m : Option ℕ) (want : ℕ) → IsTrue (takes_first accepts m want) → (have : ℕ) × (m ≡ Some have)
finds_first accepts None want can = absurd (differ can)
finds_first accepts (Some have) want can = (have, refl)

module _ (lists : Lists) where
  pub none_fed : IsFed lists none_done
  none_fed = record { fed = λ i j. (let z = takes_none (lists j) i in omega (arith, z)) }
    where
      takes_none : (ks : List Kind) (i : ℕ) → takes_from i (take 0 ks) ≡ 0
      takes_none [] i = refl
      takes_none (k ∷ ks) i = refl

  module _ (d : Done) (r : ℕ) (k : Kind) (here : next lists d r ≡ Some k) where
    more : take (step d r r) (lists r) ≡ take (d r) (lists r) ++ k ∷ []
    more = ap (λ n. take n (lists r)) (rank_here d r (d r + 1) ∙ add-one (d r)) ∙ take_at (lists r) (d r) k here

    sent_here : (j : ℕ) → sent lists (step d r) r j ≡ sent lists d r j ++ lens_with k j []
    sent_here j = ap (λ ks. lens_to j ks) more ∙ lens_end j (take (d r) (lists r)) k

    sent_else : (i j : ℕ) → i ≢ r → sent lists (step d r) i j ≡ sent lists d i j
    sent_else i j n = elim (rank_cases d r (d r + 1) i) [ inl h ↦ ap (λ c. lens_to j (take c (lists i))) h.1 | inr h ↦ absurd (n h.0) ]

    taken_here : (i : ℕ) → taken lists (step d r) i r ≡ taken lists d i r + take_count k i
    taken_here i = ap (λ ks. takes_from i ks) more ∙ takes_end i (take (d r) (lists r)) k

    taken_else : (i j : ℕ) → j ≢ r → taken lists (step d r) i j ≡ taken lists d i j
    taken_else i j n = elim (rank_cases d r (d r + 1) j) [ inl h ↦ ap (λ c. takes_from i (take c (lists j))) h.1 | inr h ↦ absurd (n h.0) ]

  -- a send adds to its pair, and takes nothing
  pub send_sent : (d : Done) (r to len : ℕ) → next lists d r ≡ Some (Send to len) → (i j : ℕ) → sent lists (step d r) i j ≡ at_pair (sent lists d) r to (sent lists d r to ++ len ∷ []) i j
  send_sent d r to len here i j = elim (eqb_tells i r) [
    | inl e ↦
        ap (λ a. sent lists (step d r) a j) e.1
        ∙ (sent_here d r (Send to len) here j
        ∙ (elim (eqb_tells j to) [
          | inl f ↦ ap (λ l. sent lists d r j ++ l) (lens_one to len j (sym f.1)) ∙ (ap (λ b. sent lists d r b ++ len ∷ []) f.1 ∙ (sym (at_here (sent lists d) r to (sent lists d r to ++ len ∷ [])) ∙ ap (λ b. at_pair (sent lists d) r to (sent lists d r to ++ len ∷ []) r b) (sym f.1)))
          | inr f ↦ ap (λ l. sent lists d r j ++ l) (lens_none to len j (λ q. f.1 (sym q))) ∙ (append-nil (sent lists d r j) ∙ sym (at_else (sent lists d) r to (sent lists d r to ++ len ∷ []) r j (inr f.1)))
        ] ∙ ap (λ a. at_pair (sent lists d) r to (sent lists d r to ++ len ∷ []) a j) (sym e.1)))
    | inr e ↦ sent_else d r (Send to len) here i j e.1 ∙ sym (at_else (sent lists d) r to (sent lists d r to ++ len ∷ []) i j (inl e.1))
  ]

  taken_kept : (d : Done) (r : ℕ) (k : Kind) → next lists d r ≡ Some k → ((i : ℕ) → take_count k i ≡ 0) → (i j : ℕ) → taken lists (step d r) i j ≡ taken lists d i j
  taken_kept d r k here none i j = elim (eqb_tells j r) [
    | inl e ↦ (let a = ap (λ b. taken lists (step d r) i b) e.1 in let b = taken_here d r k here i in let c = ap (λ b. taken lists d i b) e.1 in let z = none i in omega (arith, a, b, c, z))
    | inr e ↦ taken_else d r k here i j e.1
  ]

  sent_kept : (d : Done) (r : ℕ) (k : Kind) → next lists d r ≡ Some k → ((j : ℕ) → lens_with k j [] ≡ []) → (i j : ℕ) → sent lists (step d r) i j ≡ sent lists d i j
  sent_kept d r k here none i j = elim (eqb_tells i r) [
    | inl e ↦ ap (λ a. sent lists (step d r) a j) e.1 ∙ (sent_here d r k here j ∙ (ap (λ l. sent lists d r j ++ l) (none j) ∙ (append-nil (sent lists d r j) ∙ ap (λ a. sent lists d a j) (sym e.1))))
    | inr e ↦ sent_else d r k here i j e.1
  ]

  pub send_taken : (d : Done) (r to len : ℕ) → next lists d r ≡ Some (Send to len) → (i j : ℕ) → taken lists (step d r) i j ≡ taken lists d i j
  send_taken d r to len here = taken_kept d r (Send to len) here (λ i. refl)

  -- a receive takes from its pair, and sends nothing
  pub recv_sent : (d : Done) (r from len : ℕ) → next lists d r ≡ Some (Recv from len) → (i j : ℕ) → sent lists (step d r) i j ≡ sent lists d i j
  recv_sent d r from len here = sent_kept d r (Recv from len) here (λ j. refl)

  pub recv_taken : (d : Done) (r from len : ℕ) → next lists d r ≡ Some (Recv from len) → (i j : ℕ) → taken lists (step d r) i j ≡ at_pair (taken lists d) from r (taken lists d from r + 1) i j
  recv_taken d r from len here i j = elim (eqb_tells j r) [
    | inl e ↦ elim (at_cases (taken lists d) from r (taken lists d from r + 1) i j) [
      | inl h ↦
          let other : from ≢ i = elim h.1 [ inl n ↦ (λ s. n (sym s)) | inr n ↦ absurd (n e.1) ] in
          let none : take_count (Recv from len) i ≡ 0 = count_none other in
          let a = ap (λ b. taken lists (step d r) i b) e.1 in let b = taken_here d r (Recv from len) here i in let c = ap (λ b. taken lists d i b) e.1 in let x = h.0 in omega (arith, a, b, c, x, none)
      | inr h ↦
          let one : take_count (Recv from len) i ≡ 1 = count_one (sym h.0) in
          let a = ap (λ b. taken lists (step d r) i b) e.1 in let b = taken_here d r (Recv from len) here i in let c = ap (λ a. taken lists d a r) h.0 in let x = h.2 in omega (arith, a, b, c, x, one)
    ]
    | inr e ↦ taken_else d r (Recv from len) here i j e.1 ∙ sym (at_else (taken lists d) from r (taken lists d from r + 1) i j (inr e.1))
  ]
    where
      count_one : from ≡ i → take_count (Recv from len) i ≡ 1
      count_one e = elim (eqb_tells from i) [ inl h ↦ rw h.0 refl | inr h ↦ absurd (h.1 e) ]

      count_none : from ≢ i → take_count (Recv from len) i ≡ 0
      count_none n = elim (eqb_tells from i) [ inl h ↦ absurd (n h.1) | inr h ↦ rw h.0 refl ]

  -- a local operation does neither
  pub local_sent : (d : Done) (r : ℕ) → next lists d r ≡ Some Local → (i j : ℕ) → sent lists (step d r) i j ≡ sent lists d i j
  local_sent d r here = sent_kept d r Local here (λ j. refl)

  pub local_taken : (d : Done) (r : ℕ) → next lists d r ≡ Some Local → (i j : ℕ) → taken lists (step d r) i j ≡ taken lists d i j
  local_taken d r here = taken_kept d r Local here (λ i. refl)

  -- what a step does to one pair
  record Steps (k : Kind) (d : Done) (r i j : ℕ) : Type 0 where
    pub fed : taken lists (step d r) i j ≤ length (sent lists (step d r) i j)
    pub queue : queue lists (step d r) i j ≡ lens_by k r (queue lists d) i j

  -- neither number of the pair changes
  stays : (k : Kind) (d : Done) (r i j : ℕ) → IsFed lists d → sent lists (step d r) i j ≡ sent lists d i j → taken lists (step d r) i j ≡ taken lists d i j → lens_by k r (queue lists d) i j ≡ queue lists d i j → Steps k d r i j
  stays k d r i j f s t e = record {
    fed = (let old = f.fed i j in let l = ap length s in omega (arith, old, l, t));
    queue = ap (λ l. drop (taken lists (step d r) i j) l) s ∙ (ap (λ n. drop n (sent lists d i j)) t ∙ sym e);
  }

  steps_by : (rules : Rules) (k : Kind) (d : Done) (r : ℕ) → next lists d r ≡ Some k → IsFed lists d → IsTrue (can_by rules k r (queue lists d)) → (i j : ℕ) → Steps k d r i j
  steps_by rules Local d r here f can i j = stays Local d r i j f (local_sent d r here i j) (local_taken d r here i j) refl
  steps_by rules (Send to len) d r here f can i j =
      let q : Lens = queue lists d in
      let grown = send_sent d r to len here i j in
      let kept = send_taken d r to len here i j in
      let all : List ℕ = sent lists d r to ++ len ∷ [] in
      elim (at_cases (sent lists d) r to all i j) [
        | inl h ↦ stays (Send to len) d r i j f (grown ∙ h.0) kept (at_else q r to (q r to ++ len ∷ []) i j h.1)
        | inr h ↦
            let old = f.fed r to in
            let same : taken lists d i j ≡ taken lists d r to = ap (λ a. taken lists d a j) h.0 ∙ ap (λ b. taken lists d r b) h.1 in
            let value : at_pair q r to (q r to ++ len ∷ []) i j ≡ q r to ++ len ∷ [] = ap (λ a. at_pair q r to (q r to ++ len ∷ []) a j) h.0 ∙ (ap (λ b. at_pair q r to (q r to ++ len ∷ []) r b) h.1 ∙ at_here q r to (q r to ++ len ∷ [])) in
            let long = ap length (grown ∙ h.2) in
            let longer = length-append (sent lists d r to) (len ∷ []) in
            record {
              fed = omega (arith, kept, same, old, long, longer);
              queue = ap (λ l. drop (taken lists (step d r) i j) l) (grown ∙ h.2) ∙ (ap (λ n. drop n all) (kept ∙ same) ∙ (drop-append-le (taken lists d r to) (sent lists d r to) (len ∷ []) old ∙ sym value));
            }
      ]
  steps_by rules (Recv from len) d r here f can i j =
      let q : Lens = queue lists d in
      let kept = recv_sent d r from len here i j in
      let more = recv_taken d r from len here i j in
      let count : ℕ = taken lists d from r + 1 in
      elim (at_cases (taken lists d) from r count i j) [
        | inl h ↦ stays (Recv from len) d r i j f kept (more ∙ h.0) (at_else q from r (drop 1 (q from r)) i j h.1)
        | inr h ↦
            let found = finds_first rules.accepts (slice_get (q from r) 0) len can in
            let low : taken lists d from r < length (sent lists d from r) = within_get (sent lists d from r) (taken lists d from r) found.0 (sym (first_after (taken lists d from r) (sent lists d from r)) ∙ found.1) in
            let same : sent lists d i j ≡ sent lists d from r = ap (λ a. sent lists d a j) h.0 ∙ ap (λ b. sent lists d from b) h.1 in
            let value : at_pair q from r (drop 1 (q from r)) i j ≡ drop 1 (q from r) = ap (λ a. at_pair q from r (drop 1 (q from r)) a j) h.0 ∙ (ap (λ b. at_pair q from r (drop 1 (q from r)) from b) h.1 ∙ at_here q from r (drop 1 (q from r))) in
            let long = ap length (kept ∙ same) in
            let x = h.2 in
            record {
              fed = omega (arith, low, more, x, long);
              queue = ap (λ n. drop n (sent lists (step d r) i j)) (more ∙ (x ∙ add-one (taken lists d from r))) ∙ (ap (λ l. drop (suc (taken lists d from r)) l) (kept ∙ same) ∙ (drop_next (taken lists d from r) (sent lists d from r) ∙ sym value));
            }
      ]

  -- a step of a rank that can step keeps every queue fed, and changes the queues as its operation does
  pub queue_step : (rules : Rules) (d : Done) (r : ℕ) (k : Kind) → next lists d r ≡ Some k → IsFed lists d → IsTrue (can_by rules k r (queue lists d)) → (i j : ℕ) → queue lists (step d r) i j ≡ lens_by k r (queue lists d) i j
  queue_step rules d r k here f can i j = (steps_by rules k d r here f can i j).queue

  pub fed_step : (rules : Rules) (d : Done) (r : ℕ) (k : Kind) → next lists d r ≡ Some k → IsFed lists d → IsTrue (can_by rules k r (queue lists d)) → IsFed lists (step d r)
  fed_step rules d r k here f can = record { fed = λ i j. (steps_by rules k d r here f can i j).fed }

  -- and along a run
  feeds : (rules : Rules) (d : Done) (r : ℕ) (m : Option Kind) → next lists d r ≡ m → IsFed lists d → IsTrue (can_next rules m r (queue lists d)) → IsFed lists (step d r)
  feeds rules d r None e fed can = absurd (differ can)
  feeds rules d r (Some k) e fed can = fed_step rules d r k e fed can

  pub run_fed : (rules : Rules) (trace : List ℕ) (d : Done) → IsFed lists d → IsRunFrom lists rules trace d → IsFed lists (after trace d)
  run_fed rules [] d fed run = fed
  run_fed rules (r ∷ rs) d fed run = run_fed rules rs (step d r) (feeds rules d r (next lists d r) refl fed run.0) run.1
