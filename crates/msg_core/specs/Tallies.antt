-- What is counted of each pair along a plan.
-- (Bookkeeping inside this crate: no clause of a public call cites it.)
use Rattle.std.specs.Prelude.{◌≡◌, ◌<◌, ◌≤◌, ◌+◌, ◌*◌, ℕ, max, Some, List, [], ◌∷◌, length, slice_get}
use Rattle.machine.specs.declared.kind.Kind.{Kind}
use Rattle.machine.specs.Queues.{Lens, lens_by}
use Rattle.msg_core.specs.declared.tally.Tally.{Tally}
use Rattle.msg_core.specs.declared.tally.Figure.{Figure}
use Rattle.msg_core.specs.declared.tally.Figure.TheVariants.{Messages, Occupancy}

-- so many messages were sent, so many wait, and so many waited at most; no more than n were sent
pub record IsTally (t : Tally) (n messages waits most : ℕ) : Type 0 where
  pub sent_is : t.sent ≡ messages
  pub waits_is : t.waits ≡ waits
  pub most_is : t.most ≡ most
  pub below : waits ≤ most
  pub within : most ≤ messages
  pub few : messages ≤ n

-- for each pair of 64 ranks
pub record AreTallies (all : List Tally) (n : ℕ) (messages : ℕ → ℕ → ℕ) (q : Lens) (most : ℕ → ℕ → ℕ) : Type 0 where
  pub pairs : (from to : ℕ) → from < 64 → to < 64 → (t : Tally) × (slice_get all (from * 64 + to) ≡ Some t) × IsTally t n (messages from to) (length (q from to)) (most from to)

-- nothing is counted yet
abbrev pub AllZero : List Tally → Type 0
AllZero [] = Unit {0}
AllZero (t ∷ ts) = IsTally t 0 0 0 0 × AllZero ts

-- the most that waited, where rank r does one more operation
abbrev pub most_by : Kind → ℕ → Lens → (ℕ → ℕ → ℕ) → ℕ → ℕ → ℕ
most_by k r q most i j = max (most i j) (length (lens_by k r q i j))

-- the number that a table shows of a pair
abbrev pub shown : Figure → ℕ → ℕ → ℕ
shown Messages messages most = messages
shown Occupancy messages most = most

abbrev pub figure_of : Figure → (ℕ → ℕ → ℕ) → (ℕ → ℕ → ℕ) → ℕ → ℕ → ℕ
figure_of figure messages most from to = shown figure (messages from to) (most from to)
