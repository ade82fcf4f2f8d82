-- The rows of a plan's occupancies say the capacity of each pair's queue.
use Rattle.std.proofs.Common.{◌≡◌, ◌≢◌, ℕ, zero, suc, ◌<◌, ◌≤◌, max, Bool, true, false, cond, nat_lt, Option, Some, None, ◌⊎◌, inl, inr, List, [], ◌∷◌, ◌++◌, length, slice_get, get_or, sym, refl, ap, ◌∙◌, subst, arith}
use Rattle.std.proofs.lemmas.List.{length-append}
use Rattle.std.proofs.lemmas.Bool.Decides.{eqb_tells}
use Rattle.std.proofs.lemmas.Bool.{lt-ltb}
use Rattle.std.proofs.Common.{All}
use Rattle.std.proofs.lemmas.List.Elements.{All-append, All-cons, All-nil}
use Rattle.machine.specs.declared.kind.Kind.{Kind}
use Rattle.machine.specs.declared.kind.Kind.TheVariants.{Send, Recv, Local}
use Rattle.machine.specs.Queues.{Lens, no_lens, lens_to, lens_with, lens_by, IsAmongRanks}
use Rattle.machine.specs.Orders.{own, messages_of, occupancy, occupancy_from}
use Rattle.machine.proofs.Orders.{own_here, own_else}
use Rattle.machine.proofs.Lists.{within_get}
use Rattle.machine.proofs.Pairs.{at_here}
use Rattle.machine.specs.Changes.{at_pair}
use Rattle.msg_core.specs.declared.node.Step.{Ghosts as StepOf}
use Rattle.msg_core.specs.Kinds.{kinds_of}
use Rattle.msg_core.specs.PairRows.{row_of, rows_to, rows_from, pair_rows}
use Rattle.msg_core.specs.Plans.{AllAmongRanks}
use Rattle.mail_room.specs.Desks.{or_else, row_at, capacities, AreRows}
use Rattle.rank_runner.specs.Capacity.{occupancy_caps}

or_none : (c : Option ℕ) → or_else c None ≡ c
or_none (Some x) = refl
or_none None = refl

or_parts : (a b c : Option ℕ) → or_else a (or_else b c) ≡ or_else (or_else a b) c
or_parts (Some x) b c = refl
or_parts None b c = refl

said_join : (xs ys : List (ℕ × ℕ × ℕ)) (i j : ℕ) → capacities (xs ++ ys) i j ≡ or_else (capacities ys i j) (capacities xs i j)
said_join [] ys i j = sym (or_none (capacities ys i j))
said_join (x ∷ xs) ys i j = ap (λ c. or_else c (row_at x i j)) (said_join xs ys i j) ∙ sym (or_parts (capacities ys i j) (capacities xs i j) (row_at x i j))

said_here : (i j x : ℕ) → row_at (i, j, x) i j ≡ Some x
said_here i j x = elim (eqb_tells i i) [
  | inl h ↦ elim (eqb_tells j j) [ inl k ↦ rw (h.0, k.0) refl | inr k ↦ absurd (k.1 refl) ]
  | inr h ↦ absurd (h.1 refl)
]

said_from : (a b x i j : ℕ) → a ≢ i → row_at (a, b, x) i j ≡ None
said_from a b x i j ne = elim (eqb_tells a i) [ inl h ↦ absurd (ne h.1) | inr h ↦ rw h.0 refl ]

said_to : (a b x i j : ℕ) → b ≢ j → row_at (a, b, x) i j ≡ None
said_to a b x i j ne = elim (eqb_tells b j) [
  | inl h ↦ absurd (ne h.1)
  | inr h ↦ elim (eqb_tells a i) [ inl k ↦ rw (k.0, h.0) refl | inr k ↦ rw k.0 refl ]
]

said_one : (b : Bool) (row : ℕ × ℕ × ℕ) (i j : ℕ) → capacities (cond b (row ∷ []) []) i j ≡ cond b (row_at row i j) None
said_one true row i j = refl
said_one false row i j = refl

none_either : (b : Bool) (c : Option ℕ) → c ≡ None → cond b c None ≡ None
none_either true c e = e
none_either false c e = refl

less : (n i : ℕ) → i < suc n → n ≢ i → i < n
less zero zero h ne = absurd (ne refl)
less zero (suc i) h ne = absurd (omega arith)
less (suc n) zero h ne = omega arith
less (suc n) (suc i) h ne = let k = less n i (omega arith) (λ q. ne (ap suc q)) in omega (arith, k)

pub below : (i n : ℕ) → (i < n) ⊎ (n ≤ i)
below i zero = inr (omega arith)
below zero (suc n) = inl (omega arith)
below (suc i) (suc n) = elim (below i n) [ inl h ↦ inl (omega (arith, h)) | inr h ↦ inr (omega (arith, h)) ]

-- a number that can't be positive
beyond : (k : ℕ) → (0 < k → ⊥) → k ≡ 0
beyond zero none = refl
beyond (suc k) none = absurd (none (omega arith))

module _ (m f : ℕ → ℕ → ℕ) where
  -- what is said of a pair
  abbrev shown : ℕ → ℕ → Option ℕ
  shown i j = cond (nat_lt 0 (m i j)) (Some (f i j)) None

  row_shown : (i j : ℕ) → capacities (row_of m f i j) i j ≡ shown i j
  row_shown i j = said_one (nat_lt 0 (m i j)) (i, j, f i j) i j ∙ ap (λ c. cond (nat_lt 0 (m i j)) c None) (said_here i j (f i j))

  row_from : (a b i j : ℕ) → a ≢ i → capacities (row_of m f a b) i j ≡ None
  row_from a b i j ne = said_one (nat_lt 0 (m a b)) (a, b, f a b) i j ∙ none_either (nat_lt 0 (m a b)) (row_at (a, b, f a b) i j) (said_from a b (f a b) i j ne)

  row_to : (a b i j : ℕ) → b ≢ j → capacities (row_of m f a b) i j ≡ None
  row_to a b i j ne = said_one (nat_lt 0 (m a b)) (a, b, f a b) i j ∙ none_either (nat_lt 0 (m a b)) (row_at (a, b, f a b) i j) (said_to a b (f a b) i j ne)

  -- nothing, and then nothing
  none_join : (xs ys : List (ℕ × ℕ × ℕ)) (i j : ℕ) → capacities xs i j ≡ None → capacities ys i j ≡ None → capacities (xs ++ ys) i j ≡ None
  none_join xs ys i j a b = said_join xs ys i j ∙ (ap (λ c. or_else c (capacities xs i j)) b ∙ a)

  to_from : (a n i j : ℕ) → a ≢ i → capacities (rows_to m f a n) i j ≡ None
  to_from a zero i j ne = refl
  to_from a (suc n) i j ne = none_join (rows_to m f a n) (row_of m f a n) i j (to_from a n i j ne) (row_from a n i j ne)

  to_past : (a n i j : ℕ) → n ≤ j → capacities (rows_to m f a n) i j ≡ None
  to_past a zero i j h = refl
  to_past a (suc n) i j h = none_join (rows_to m f a n) (row_of m f a n) i j (to_past a n i j (omega arith)) (row_to a n i j (λ q. absurd (omega (arith, q))))

  to_here : (n i j : ℕ) → j < n → capacities (rows_to m f i n) i j ≡ shown i j
  to_here zero i j h = absurd (omega arith)
  to_here (suc n) i j h = said_join (rows_to m f i n) (row_of m f i n) i j ∙ elim (eqb_tells n j) [
    | inl q ↦
        let row : capacities (row_of m f i n) i j ≡ shown i j = ap (λ b. capacities (row_of m f i b) i j) q.1 ∙ row_shown i j in
        ap (λ c. or_else c (capacities (rows_to m f i n) i j)) row ∙ (ap (λ c. or_else (shown i j) c) (to_past i n i j (omega (arith, q.1))) ∙ or_none (shown i j))
    | inr q ↦ ap (λ c. or_else c (capacities (rows_to m f i n) i j)) (row_to i n i j q.1) ∙ to_here n i j (less n j h q.1)
  ]

  from_past : (ranks n i j : ℕ) → n ≤ i → capacities (rows_from m f ranks n) i j ≡ None
  from_past ranks zero i j h = refl
  from_past ranks (suc n) i j h = none_join (rows_from m f ranks n) (rows_to m f n ranks) i j (from_past ranks n i j (omega arith)) (to_from n ranks i j (λ q. absurd (omega (arith, q))))

  from_wide : (ranks n i j : ℕ) → ranks ≤ j → capacities (rows_from m f ranks n) i j ≡ None
  from_wide ranks zero i j h = refl
  from_wide ranks (suc n) i j h = none_join (rows_from m f ranks n) (rows_to m f n ranks) i j (from_wide ranks n i j h) (to_past n ranks i j h)

  from_here : (ranks n i j : ℕ) → i < n → j < ranks → capacities (rows_from m f ranks n) i j ≡ shown i j
  from_here ranks zero i j h k = absurd (omega arith)
  from_here ranks (suc n) i j h k = said_join (rows_from m f ranks n) (rows_to m f n ranks) i j ∙ elim (eqb_tells n i) [
    | inl q ↦
        let row : capacities (rows_to m f n ranks) i j ≡ shown i j = ap (λ a. capacities (rows_to m f a ranks) i j) q.1 ∙ to_here ranks i j k in
        ap (λ c. or_else c (capacities (rows_from m f ranks n) i j)) row ∙ (ap (λ c. or_else (shown i j) c) (from_past ranks n i j (omega (arith, q.1))) ∙ or_none (shown i j))
    | inr q ↦ ap (λ c. or_else c (capacities (rows_from m f ranks n) i j)) (to_from n ranks i j q.1) ∙ from_here ranks n i j (less n i h q.1) k
  ]

  none_shown : (i j : ℕ) → m i j ≡ 0 → shown i j ≡ None
  none_shown i j e = ap (λ k. cond (nat_lt 0 k) (Some (f i j)) None) e

  -- of all ranks, where no pair beyond has a message
  pub rows_say : (ranks i j : ℕ) → (0 < m i j → (i < ranks) × (j < ranks)) → capacities (pair_rows m f ranks) i j ≡ shown i j
  rows_say ranks i j among = elim (below i ranks) [
    | inl h ↦ elim (below j ranks) [ inl k ↦ from_here ranks ranks i j h k | inr k ↦ from_wide ranks ranks i j k ∙ sym (none_shown i j (beyond (m i j) (λ p. let q = among p in omega (arith, q.1)))) ]
    | inr h ↦ from_past ranks ranks i j h ∙ sym (none_shown i j (beyond (m i j) (λ p. let q = among p in omega (arith, q.0))))
  ]

-- a message of the pair waits at some time
least : (xs : List (ℕ × Kind)) (q : Lens) (i j : ℕ) → length (q i j) ≤ occupancy_from xs q i j
least [] q i j = omega arith
least (x ∷ xs) q i j = omega arith

at_least : (a b : ℕ) → 0 < b → 0 < max a b
at_least a b h = omega (arith, h)

holds_one : (x : ℕ × Kind) (xs : List (ℕ × Kind)) (q : Lens) (i j : ℕ) (k : Kind) → x.1 ≡ k → x.0 ≡ i → ((r : Lens) → 0 < length (lens_to j (own i xs)) → 0 < occupancy_from xs r i j)
    → 0 < length (lens_with k j (lens_to j (own i xs))) → 0 < occupancy_from (x ∷ xs) q i j
holds_one x xs q i j (Send to len) ek ei rest h = elim (eqb_tells to j) [
  | inl e ↦
      let after : Lens = lens_by x.1 x.0 q in
      let is : lens_by x.1 x.0 q i j ≡ q i j ++ len ∷ [] = ap (λ k. lens_by k x.0 q i j) ek ∙ (ap (λ a. lens_by (Send to len) a q i j) ei ∙ (ap (λ b. at_pair q i to (q i to ++ len ∷ []) i b) (sym e.1) ∙ (at_here q i to (q i to ++ len ∷ []) ∙ ap (λ b. q i b ++ len ∷ []) e.1))) in
      let one : 0 < length (lens_by x.1 x.0 q i j) = omega (arith, ap (λ (l : List ℕ). length l) is, length-append (q i j) (len ∷ [])) in
      at_least (length (q i j)) (occupancy_from xs after i j) (let l = least xs after i j in omega (arith, l, one))
  | inr e ↦ at_least (length (q i j)) (occupancy_from xs (lens_by x.1 x.0 q) i j) (rest (lens_by x.1 x.0 q) (subst (λ (b : Bool). 0 < length (cond b (len ∷ lens_to j (own i xs)) (lens_to j (own i xs)))) e.0 h))
]
holds_one x xs q i j (Recv from len) ek ei rest h = at_least (length (q i j)) (occupancy_from xs (lens_by x.1 x.0 q) i j) (rest (lens_by x.1 x.0 q) h)
holds_one x xs q i j Local ek ei rest h = at_least (length (q i j)) (occupancy_from xs (lens_by x.1 x.0 q) i j) (rest (lens_by x.1 x.0 q) h)

holds_some : (xs : List (ℕ × Kind)) (q : Lens) (i j : ℕ) → 0 < length (lens_to j (own i xs)) → 0 < occupancy_from xs q i j
holds_some [] q i j h = absurd (omega arith)
holds_some (x ∷ xs) q i j h = elim (eqb_tells x.0 i) [
  | inl e ↦ holds_one x xs q i j x.1 refl e.1 (λ r p. holds_some xs r i j p) (subst (λ (os : List Kind). 0 < length (lens_to j os)) (own_here i x xs e.1) h)
  | inr e ↦ at_least (length (q i j)) (occupancy_from xs (lens_by x.1 x.0 q) i j) (holds_some xs (lens_by x.1 x.0 q) i j (subst (λ (os : List Kind). 0 < length (lens_to j os)) (own_else i x xs e.1) h))
]

-- only the plan's ranks have messages
module _ {Op : Type 0} (t : StepOf Op) (ranks : ℕ) where
  among_one : (k : Kind) (j : ℕ) (rest : List ℕ) → IsAmongRanks k ranks → (0 < length rest → j < ranks) → 0 < length (lens_with k j rest) → j < ranks
  among_one (Send to len) j rest below more h = elim (eqb_tells to j) [
    | inl e ↦ omega (arith, below, e.1)
    | inr e ↦ more (subst (λ (b : Bool). 0 < length (cond b (len ∷ rest) rest)) e.0 h)
  ]
  among_one (Recv from len) j rest below more h = more h
  among_one Local j rest below more h = more h

  pub among : (steps : List (ℕ × Op)) (i j : ℕ) → AllAmongRanks t ranks steps → 0 < messages_of (kinds_of t steps) i j → (i < ranks) × (j < ranks)
  among [] i j all h = absurd (omega arith)
  among (x ∷ xs) i j all h =
      let y : ℕ × Kind = (x.0, t.kind_of x.1) in
      elim (eqb_tells x.0 i) [
        | inl e ↦
            let mine : 0 < length (lens_with (t.kind_of x.1) j (lens_to j (own i (kinds_of t xs)))) = subst (λ (os : List Kind). 0 < length (lens_to j os)) (own_here i y (kinds_of t xs) e.1) h in (
              omega (arith, all.1, e.1),
              among_one (t.kind_of x.1) j (lens_to j (own i (kinds_of t xs))) all.2 (λ p. (among xs i j all.3 p).1) mine,
            )
        | inr e ↦ among xs i j all.3 (subst (λ (os : List Kind). 0 < length (lens_to j os)) (own_else i y (kinds_of t xs) e.1) h)
      ]

  -- the rows of a plan's occupancies
  pub said : (steps : List (ℕ × Op)) → AllAmongRanks t ranks steps → (i j : ℕ)
      → capacities (pair_rows (messages_of (kinds_of t steps)) (occupancy (kinds_of t steps)) ranks) i j ≡ occupancy_caps (kinds_of t steps) i j
  said steps all i j = rows_say (messages_of (kinds_of t steps)) (occupancy (kinds_of t steps)) ranks i j (λ h. among steps i j all h)

  -- as functions
  pub said_all : (steps : List (ℕ × Op)) → AllAmongRanks t ranks steps → capacities (pair_rows (messages_of (kinds_of t steps)) (occupancy (kinds_of t steps)) ranks) ≡ occupancy_caps (kinds_of t steps)
  said_all steps all = λ k i j. said steps all i j k

  -- a rank that isn't there has no queue
  pub beyond_none : (steps : List (ℕ × Op)) → AllAmongRanks t ranks steps → (i j : ℕ) → ranks ≤ i → occupancy_caps (kinds_of t steps) i j ≡ None
  beyond_none steps all i j past =
      none_shown (messages_of (kinds_of t steps)) (occupancy (kinds_of t steps)) i j (beyond (messages_of (kinds_of t steps) i j) (λ h. let a = among steps i j all h in omega (arith, a.0, past)))

get_is : {X : Type 0} (xs : List X) (k : ℕ) (x d : X) → slice_get xs k ≡ Some x → get_or xs k d ≡ x
get_is [] k x d e = cc
get_is (y ∷ xs) zero x d e = cc
get_is (y ∷ xs) (suc k) x d e = get_is xs k x d e

-- a row is of two of the ranks, and has room
module _ (m f : ℕ → ℕ → ℕ) (ranks : ℕ) (positive : (i j : ℕ) → 0 < m i j → 0 < f i j) where
  abbrev Fits : ℕ × ℕ × ℕ → Type 0
  Fits row = (row.0 < ranks) × (row.1 < ranks) × (0 < row.2)

  one_fits : (k : ℕ) (row : ℕ × ℕ × ℕ) → (0 < k → Fits row) → All Fits (cond (nat_lt 0 k) (row ∷ []) [])
  one_fits zero row fits = All-nil Fits
  one_fits (suc k) row fits =
      let P : Bool → Type 0 = λ b. All Fits (cond b (row ∷ []) []) in
      subst P (sym (lt-ltb 0 (suc k) (omega arith))) (All-cons Fits row [] (fits (omega arith)) (All-nil Fits))

  to_fits : (a n : ℕ) → a < ranks → n ≤ ranks → All Fits (rows_to m f a n)
  to_fits a zero ha hn = All-nil Fits
  to_fits a (suc n) ha hn = All-append Fits (rows_to m f a n) (row_of m f a n) (to_fits a n ha (omega arith)) (one_fits (m a n) (a, n, f a n) (λ p. (ha, omega arith, positive a n p)))

  from_fits : (n : ℕ) → n ≤ ranks → All Fits (rows_from m f ranks n)
  from_fits zero hn = All-nil Fits
  from_fits (suc n) hn = All-append Fits (rows_from m f ranks n) (rows_to m f n ranks) (from_fits n (omega arith)) (to_fits n ranks (omega arith) (omega arith))

  pub rows_fit : AreRows ranks (pair_rows m f ranks)
  rows_fit k row e =
      let here = from_fits ranks (omega arith) k row (within_get (pair_rows m f ranks) k row e) in
      subst Fits (get_is (pair_rows m f ranks) k row row e) here

-- the rows of occupancies
pub occupancy_rows : (kinds : List (ℕ × Kind)) (ranks : ℕ) → AreRows ranks (pair_rows (messages_of kinds) (occupancy kinds) ranks)
occupancy_rows kinds ranks = rows_fit (messages_of kinds) (occupancy kinds) ranks (λ i j h. holds_some kinds no_lens i j h)
