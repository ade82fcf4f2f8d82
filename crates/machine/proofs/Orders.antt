-- A common order is a run, so every run ends as it does.
use Rattle.std.proofs.Common.{◌≡◌, ◌≢◌, ℕ, zero, suc, ◌+◌, ◌≤◌, ◌<◌, true, IsTrue, Option, Some, None, ◌⊎◌, List, [], ◌∷◌, ◌++◌, length, slice_get, take, drop, sym, refl, ap, ◌∙◌, arith, inl, inr, add-one, length-append}
use Rattle.std.proofs.lemmas.Bool.{lt-ltb}
use Rattle.std.proofs.lemmas.Bool.Decides.{eqb_tells}
use Rattle.std.proofs.lemmas.Option.{slice_get_past}
use Rattle.machine.specs.declared.kind.Kind.{Kind}
use Rattle.machine.specs.declared.kind.Kind.TheVariants.{Send, Recv, Local}
use Rattle.machine.specs.Queues.{Lens, no_lens, lens_by, lens_to}
use Rattle.machine.specs.Machine.{IsFed, Lists, Done, none_done, Rules, has_room, takes_first, can_by, can_next, step, after, next, taken, queue, can_step, IsAtEnd, IsStuck, IsRunFrom, IsRun, IsWholeRun, IsReachable}
use Rattle.machine.specs.Endings.{EndsAt, EndsAll}
use Rattle.machine.specs.Orders.{own, own_lists, ranks_of, FitsLens, IsOrderFrom, IsOrder, occupancy_from, HoldsAtLeast, AreEnough}
use Rattle.machine.proofs.Alike.{same_lens}
use Rattle.machine.proofs.Pairs.{at_here, rank_cases, rank_here}
use Rattle.machine.proofs.Waiting.{first_after}
use Rattle.machine.proofs.Stepping.{drop_next, none_fed, queue_step, fed_step}
use Rattle.machine.proofs.Turns.{turns, turn_here, turn_else, done_by_turns}
use Rattle.machine.proofs.Endings.{ends_at, never_stuck, long_or_on}

-- the operations of a rank, where the first is its own, and where it is another's
pub own_here : {Op : Type 0} (r : ℕ) (x : ℕ × Op) (xs : List (ℕ × Op)) → x.0 ≡ r → own r (x ∷ xs) ≡ x.1 ∷ own r xs
own_here r x xs e = elim (eqb_tells x.0 r) [ inl h ↦ rw h.0 refl | inr h ↦ absurd (h.1 e) ]

pub own_else : {Op : Type 0} (r : ℕ) (x : ℕ × Op) (xs : List (ℕ × Op)) → x.0 ≢ r → own r (x ∷ xs) ≡ own r xs
own_else r x xs n = elim (eqb_tells x.0 r) [ inl h ↦ absurd (n h.1) | inr h ↦ rw h.0 refl ]

-- a rank has a turn for each of its operations
pub turns_own : (order : List (ℕ × Kind)) (r : ℕ) → turns r (ranks_of order) ≡ length (own r order)
turns_own [] r = refl
turns_own (x ∷ xs) r =
    let rest = turns_own xs r in
    elim (eqb_tells x.0 r) [
      | inl e ↦ (let t = turn_here r x.0 (ranks_of xs) e.1 in let l = ap length (own_here r x xs e.1) in omega (arith, rest, t, l))
      | inr e ↦ (let t = turn_else r x.0 (ranks_of xs) e.1 in let l = ap length (own_else r x xs e.1) in omega (arith, rest, t, l))
    ]

pub ranks_length : (order : List (ℕ × Kind)) → length (ranks_of order) ≡ length order
ranks_length [] = refl
ranks_length (x ∷ xs) = ap suc (ranks_length xs)

-- the same queues, the same queues after a step
pub lens_same : (k : Kind) (r : ℕ) (p q : Lens) → ((i j : ℕ) → p i j ≡ q i j) → (i j : ℕ) → lens_by k r p i j ≡ lens_by k r q i j
lens_same k r p q h i j = ap (λ (x : Lens). lens_by k r x i j) (same_lens p q h)

holds_less : (cap : Option ℕ) (m n : ℕ) → m ≤ n → HoldsAtLeast cap n → HoldsAtLeast cap m
holds_less None m n l h = tt
holds_less (Some cap) m n l h = omega arith

room_below : (cap : Option ℕ) (m n : ℕ) → m < n → HoldsAtLeast cap n → has_room cap m ≡ true
room_below None m n l h = refl
room_below (Some cap) m n l h = lt-ltb m cap (omega arith)

most_there : (xs : List (ℕ × Kind)) (q : Lens) (i j : ℕ) → length (q i j) ≤ occupancy_from xs q i j
most_there [] q i j = omega arith
most_there (x ∷ xs) q i j = omega arith

none_sent : (j n : ℕ) (ks : List Kind) → drop n (lens_to j (take 0 ks)) ≡ []
none_sent j zero [] = refl
none_sent j zero (k ∷ ks) = refl
none_sent j (suc n) [] = refl
none_sent j (suc n) (k ∷ ks) = refl

-- before the first step nothing waits
pub none_waits : (lists : Lists) (i j : ℕ) → queue lists none_done i j ≡ []
none_waits lists i j = none_sent j (taken lists none_done i j) (lists i)

module _ (lists : Lists) (rules : Rules) (accepts : (len : ℕ) → rules.accepts len len ≡ true) where
  -- what the order needs at a step, it finds
  can_first : (k : Kind) (r : ℕ) (xs : List (ℕ × Kind)) (p q : Lens) → ((i j : ℕ) → p i j ≡ q i j) → FitsLens k r q → ((i j : ℕ) → HoldsAtLeast (rules.capacity i j) (occupancy_from xs (lens_by k r q) i j)) → IsTrue (can_by rules k r p)
  can_first (Send to len) r xs p q same fits enough =
      let there = most_there xs (lens_by (Send to len) r q) r to in
      let grown = ap length (at_here q r to (q r to ++ len ∷ [])) in
      let longer = length-append (q r to) (len ∷ []) in
      let s = ap length (same r to) in
      room_below (rules.capacity r to) (length (p r to)) (occupancy_from xs (lens_by (Send to len) r q) r to) (omega (arith, there, grown, longer, s)) (enough r to)
  can_first (Recv from len) r xs p q same fits enough = ap (λ m. takes_first rules.accepts m len) (ap (λ l. slice_get l 0) (same from r) ∙ fits) ∙ accepts len
  can_first Local r xs p q same fits enough = refl

  -- the rest of an order is a run, where each rank has the rest's operations left
  order_runs : (xs : List (ℕ × Kind)) (d : Done) (q : Lens) → ((r : ℕ) → drop (d r) (lists r) ≡ own r xs) → ((i j : ℕ) → queue lists d i j ≡ q i j) → IsFed lists d → IsOrderFrom xs q → ((i j : ℕ) → HoldsAtLeast (rules.capacity i j) (occupancy_from xs q i j)) → IsRunFrom lists rules (ranks_of xs) d
  order_runs [] d q rest same fed order enough = tt
  order_runs (x ∷ xs) d q rest same fed order enough =
      let r : ℕ = x.0 in
      let k : Kind = x.1 in
      let here : next lists d r ≡ Some k = sym (first_after (d r) (lists r)) ∙ ap (λ l. slice_get l 0) (rest r ∙ own_here r x xs refl) in
      let enough' : (i j : ℕ) → HoldsAtLeast (rules.capacity i j) (occupancy_from xs (lens_by k r q) i j) = λ i j. holds_less (rules.capacity i j) (occupancy_from xs (lens_by k r q) i j) (occupancy_from (x ∷ xs) q i j) (omega arith) (enough i j) in
      let can : IsTrue (can_by rules k r (queue lists d)) = can_first k r xs (queue lists d) q same order.0 enough' in (
        ap (λ m. can_next rules m r (queue lists d)) here ∙ can,
        order_runs xs (step d r) (lens_by k r q)
            (λ i. elim (rank_cases d r (d r + 1) i) [
              | inl h ↦ ap (λ n. drop n (lists i)) h.1 ∙ (rest i ∙ own_else i x xs (λ e. h.0 (sym e)))
              | inr h ↦ ap (λ a. drop (step d r a) (lists a)) h.0 ∙ (ap (λ n. drop n (lists r)) (rank_here d r (d r + 1) ∙ add-one (d r)) ∙ (drop_next (d r) (lists r) ∙ (ap (λ l. drop 1 l) (rest r ∙ own_here r x xs refl) ∙ ap (λ a. own a xs) (sym h.0))))
            ])
            (λ i j. queue_step lists rules d r k here fed can i j ∙ lens_same k r (queue lists d) q same i j)
            (fed_step lists rules d r k here fed can) order.1 enough',
      )

module _ (order : List (ℕ × Kind)) (rules : Rules) (can : IsOrder order) (enough : AreEnough order rules) where
  -- the order itself is a run, in which every rank comes to its end
  order_run : IsRun (own_lists order) rules (ranks_of order)
  order_run = order_runs (own_lists order) rules enough.accepts order none_done no_lens (λ r. refl) (none_waits (own_lists order)) (none_fed (own_lists order)) can enough.capacity

  order_done : (r : ℕ) → after (ranks_of order) none_done r ≡ length (own r order)
  order_done r = (let a = done_by_turns (ranks_of order) none_done r in let b = turns_own order r in omega (arith, a, b))

  order_at_end : (r : ℕ) → IsAtEnd (own_lists order) (after (ranks_of order) none_done) r
  order_at_end r = slice_get_past (own r order) (after (ranks_of order) none_done r) (let e = order_done r in omega (arith, e))

  pub order_whole : IsWholeRun (own_lists order) rules (ranks_of order)
  order_whole = (order_run, λ r. ap (λ m. can_next rules m r (queue (own_lists order) (after (ranks_of order) none_done))) (order_at_end r))

  -- every run that can't be continued has the order's length and ends all ranks, and no run is longer
  pub order_ends : EndsAt (own_lists order) rules (λ r. length (own r order)) (length order)
  order_ends =
      let e = ends_at (own_lists order) rules (ranks_of order) order_whole in
      let l = ranks_length order in
      record {
        not_beyond = λ trace run r. (let b = e.not_beyond trace run r in let s = order_done r in omega (arith, b, s));
        no_longer = λ trace run. (let b = e.no_longer trace run in omega (arith, b, l));
        there = λ trace all r. e.there trace all r ∙ order_done r;
        as_long = λ trace all. e.as_long trace all ∙ l;
        over = λ trace run long. e.over trace run (long ∙ sym l);
      }

  pub order_ends_all : EndsAll (own_lists order) rules
  order_ends_all trace all r = slice_get_past (own r order) (after trace none_done r) (let e = order_ends.there trace all r in omega (arith, e))

  pub order_not_stuck : (d : Done) → IsReachable (own_lists order) rules d → IsStuck (own_lists order) rules d → ⊥
  order_not_stuck = never_stuck (own_lists order) rules order_ends_all

  -- until the order's length some rank can step
  pub order_goes_on : (trace : List ℕ) → IsRun (own_lists order) rules trace → (length trace ≡ length order) ⊎ ((r : ℕ) × (can_step (own_lists order) rules (after trace none_done) r ≡ true))
  order_goes_on trace run = elim (long_or_on (own_lists order) rules trace (ranks_of order) run order_whole) [ inl long ↦ inl (long ∙ ranks_length order) | inr on ↦ inr on ]
