-- The machine: the ranks do their operations, each in its own order, as the queues between them allow.
-- Who can step depends only on kinds and lengths, so a state is how many of its operations each rank has done: what was sent and what was taken follows.
use Rattle.std.specs.Prelude.{◌≡◌, ◌≤◌, ℕ, ◌+◌, Bool, true, false, IsTrue, nat_lt, nat_eq, Option, Some, None, List, [], ◌∷◌, length, slice_get, take, drop}
use Rattle.machine.specs.declared.kind.Kind.{Kind}
use Rattle.machine.specs.declared.kind.Kind.TheVariants.{Send, Recv, Local}
use Rattle.machine.specs.Changes.{at_rank}
use Rattle.machine.specs.Queues.{Lens, lens_to, takes_from}

-- each rank's operations, in its order
abbrev pub Lists : Type 0
Lists = ℕ → List Kind

-- how many of its operations each rank has done
abbrev pub Done : Type 0
Done = ℕ → ℕ

abbrev pub none_done : Done
none_done r = 0

-- how many messages each pair's queue holds at most (None: any number), and whether a message of one length is taken by a receive of another
pub record Rules : Type 0 where
  pub capacity : ℕ → ℕ → Option ℕ
  pub accepts : ℕ → ℕ → Bool

abbrev pub unbounded : ℕ → ℕ → Option ℕ
unbounded from to = None

abbrev pub any_length : ℕ → ℕ → Bool
any_length have want = true

abbrev pub same_length : ℕ → ℕ → Bool
same_length have want = nat_eq have want

-- sends never wait, and a receive takes any message
abbrev pub free_rules : Rules
free_rules = record { capacity = unbounded; accepts = any_length }

-- sends never wait, and a receive takes only a message of its own length
abbrev pub fitting_rules : Rules
fitting_rules = record { capacity = unbounded; accepts = same_length }

abbrev pub has_room : Option ℕ → ℕ → Bool
has_room None n = true
has_room (Some cap) n = nat_lt n cap

-- whether a receive of that length takes the first message that waits, if there is one
abbrev pub takes_first : (ℕ → ℕ → Bool) → Option ℕ → ℕ → Bool
takes_first accepts None want = false
takes_first accepts (Some have) want = accepts have want

-- whether rank r can do an operation of that kind, where messages of these lengths wait
abbrev pub can_by : Rules → Kind → ℕ → Lens → Bool
can_by rules (Send to len) r q = has_room (rules.capacity r to) (length (q r to))
can_by rules (Recv from len) r q = takes_first rules.accepts (slice_get (q from r) 0) len
can_by rules Local r q = true

abbrev pub can_next : Rules → Option Kind → ℕ → Lens → Bool
can_next rules None r q = false
can_next rules (Some k) r q = can_by rules k r q

-- rank r does its next operation
abbrev pub step : Done → ℕ → Done
step d r = at_rank d r (d r + 1)

-- the ranks step one after the other
abbrev pub after : List ℕ → Done → Done
after [] d = d
after (r ∷ rs) d = after rs (step d r)

module _ (lists : Lists) where
  -- the next operation of rank r
  abbrev pub next : Done → ℕ → Option Kind
  next d r = slice_get (lists r) (d r)

  -- the lengths of the messages that rank i has sent to rank j
  abbrev pub sent : Done → ℕ → ℕ → List ℕ
  sent d i j = lens_to j (take (d i) (lists i))

  -- how many messages of rank i rank j has taken
  abbrev pub taken : Done → ℕ → ℕ → ℕ
  taken d i j = takes_from i (take (d j) (lists j))

  -- the lengths that wait
  abbrev pub queue : Done → Lens
  queue d i j = drop (taken d i j) (sent d i j)

  -- no rank has taken more than was sent to it
  pub record IsFed (d : Done) : Type 0 where
    pub fed : (i j : ℕ) → taken d i j ≤ length (sent d i j)

  abbrev pub can_step : Rules → Done → ℕ → Bool
  can_step rules d r = can_next rules (next d r) r (queue d)

  abbrev pub IsAtEnd : Done → ℕ → Type 0
  IsAtEnd d r = next d r ≡ None

  -- no rank can step
  abbrev pub IsOver : Rules → Done → Type 0
  IsOver rules d = (r : ℕ) → can_step rules d r ≡ false

  -- some rank is not at its end, and no rank can step
  abbrev pub IsStuck : Rules → Done → Type 0
  IsStuck rules d = ((r : ℕ) × ¬ IsAtEnd d r) × IsOver rules d

  -- each rank can step at its turn
  abbrev pub IsRunFrom : Rules → List ℕ → Done → Type 0
  IsRunFrom rules [] d = Unit {0}
  IsRunFrom rules (r ∷ rs) d = IsTrue (can_step rules d r) × IsRunFrom rules rs (step d r)

  abbrev pub IsRun : Rules → List ℕ → Type 0
  IsRun rules trace = IsRunFrom rules trace none_done

  -- a run that can't be continued
  abbrev pub IsWholeRun : Rules → List ℕ → Type 0
  IsWholeRun rules trace = IsRun rules trace × IsOver rules (after trace none_done)

  -- a run leads from the start to these numbers
  abbrev pub IsReachable : Rules → Done → Type 0
  IsReachable rules d = (trace : List ℕ) × IsRun rules trace × (after trace none_done ≡ d)

-- the second rules allow what the first do: each queue has room where it had, and each receive takes what it took
pub record IsWider (rules wide : Rules) : Type 0 where
  pub room : (from to n : ℕ) → IsTrue (has_room (rules.capacity from to) n) → IsTrue (has_room (wide.capacity from to) n)
  pub takes : (have want : ℕ) → IsTrue (rules.accepts have want) → IsTrue (wide.accepts have want)
