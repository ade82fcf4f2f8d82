-- A common order of the operations of all ranks.
use Rattle.std.specs.Prelude.{◌≡◌, ◌≤◌, ◌+◌, ℕ, max, cond, nat_eq, true, Option, Some, None, List, [], ◌∷◌, ◌++◌, length, map, slice_get}
use Rattle.machine.specs.declared.kind.Kind.{Kind}
use Rattle.machine.specs.declared.kind.Kind.TheVariants.{Send, Recv, Local}
use Rattle.machine.specs.Changes.{at_pair}
use Rattle.machine.specs.Queues.{Lens, no_lens, lens_by, lens_to, takes_from, wants_from}
use Rattle.machine.specs.Machine.{Lists, Done, none_done, Rules, step, next}

-- the operations of one rank, in their order
abbrev pub own : {Op : Type 0} → ℕ → List (ℕ × Op) → List Op
own r [] = []
own r (x ∷ xs) = cond (nat_eq x.0 r) (x.1 ∷ own r xs) (own r xs)

abbrev pub own_lists : List (ℕ × Kind) → Lists
own_lists order r = own r order

abbrev pub rank_of : ℕ × Kind → ℕ
rank_of x = x.0

-- the ranks, in the order in which they step
abbrev pub ranks_of : List (ℕ × Kind) → List ℕ
ranks_of order = map rank_of order

-- a receive finds its length first
abbrev pub FitsLens : Kind → ℕ → Lens → Type 0
FitsLens (Send to len) r q = Unit {0}
FitsLens (Recv from len) r q = slice_get (q from r) 0 ≡ Some len
FitsLens Local r q = Unit {0}

-- the operations can be done in their order, from queues of these lengths on
abbrev pub IsOrderFrom : List (ℕ × Kind) → Lens → Type 0
IsOrderFrom [] q = Unit {0}
IsOrderFrom (x ∷ xs) q = FitsLens x.1 x.0 q × IsOrderFrom xs (lens_by x.1 x.0 q)

abbrev pub IsOrder : List (ℕ × Kind) → Type 0
IsOrder order = IsOrderFrom order no_lens

-- the lengths that wait after the operations
abbrev pub lens_after : List (ℕ × Kind) → Lens → Lens
lens_after [] q = q
lens_after (x ∷ xs) q = lens_after xs (lens_by x.1 x.0 q)

-- how many messages the operations send from rank i to rank j
abbrev pub messages_of : List (ℕ × Kind) → ℕ → ℕ → ℕ
messages_of order i j = length (lens_to j (own i order))

-- and how many of them rank j receives
abbrev pub receives_of : List (ℕ × Kind) → ℕ → ℕ → ℕ
receives_of order i j = takes_from i (own j order)

-- rank r does an operation of that kind: how many messages are sent then
abbrev pub messages_by : Kind → ℕ → (ℕ → ℕ → ℕ) → ℕ → ℕ → ℕ
messages_by (Send to len) r m = at_pair m r to (m r to + 1)
messages_by (Recv from len) r m = m
messages_by Local r m = m

-- the greatest length of the pair's queue on the way
abbrev pub occupancy_from : List (ℕ × Kind) → Lens → ℕ → ℕ → ℕ
occupancy_from [] q i j = length (q i j)
occupancy_from (x ∷ xs) q i j = max (length (q i j)) (occupancy_from xs (lens_by x.1 x.0 q) i j)

abbrev pub occupancy : List (ℕ × Kind) → ℕ → ℕ → ℕ
occupancy order = occupancy_from order no_lens

-- the capacity is at least n
abbrev pub HoldsAtLeast : Option ℕ → ℕ → Type 0
HoldsAtLeast None n = Unit {0}
HoldsAtLeast (Some cap) n = n ≤ cap

-- each queue holds what the order needs, and a receive takes a message of its own length
pub record AreEnough (order : List (ℕ × Kind)) (rules : Rules) : Type 0 where
  pub capacity : (from to : ℕ) → HoldsAtLeast (rules.capacity from to) (occupancy order from to)
  pub accepts : (len : ℕ) → rules.accepts len len ≡ true

abbrev pub with_next : ℕ → Option Kind → List (ℕ × Kind) → List (ℕ × Kind)
with_next r None xs = xs
with_next r (Some k) xs = (r, k) ∷ xs

-- the operations of a run, in the order in which it does them
abbrev pub order_from : Lists → List ℕ → Done → List (ℕ × Kind)
order_from lists [] d = []
order_from lists (r ∷ rs) d = with_next r (next lists d r) (order_from lists rs (step d r))

abbrev pub order_of : Lists → List ℕ → List (ℕ × Kind)
order_of lists trace = order_from lists trace none_done

-- what each rank wants from another is sent by that one first
abbrev pub AreMatched : Lists → Type 0
AreMatched lists = (i j : ℕ) → (rest : List ℕ) × (lens_to j (lists i) ≡ wants_from i (lists j) ++ rest)
