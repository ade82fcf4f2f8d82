-- The runs of pairs of processes.
use Rattle.std.specs.Prelude.{◌≡◌, ℕ, suc, ◌+◌, ◌-◌, ◌*◌, ◌%◌, ◌<◌, ◌≤◌, ◌==◌, ◌&&◌, Bool, false, if◌then◌else◌, List, [], map, length, get_or, Vec}
use Rattle.std.specs.Global.{Global}
use Rattle.index_tools.specs.Spread.{owner}
use Rattle.block_meet.specs.declared.axis.Axis.{Axis}
use Rattle.block_meet.specs.declared.axis.Run.{Run}
use Rattle.block_meet.specs.Runs.{IsAxis, spread_of}
use Rattle.block_meet.specs.Numbers.{in_one_pair}
use Rattle.block_meet.specs.Steps.{AreSteps, begun_from}

-- whether a run lies on process p in A and on process q in B
abbrev pub lies_on : ℕ → ℕ → Run → Bool
lies_on p q r = (r.pa == p) && (r.pb == q)

-- dealt runs as callers see them: of the first n indices of these axes
pub record Dealt : Type 0 where
  pub n : ℕ
  pub a : Axis
  pub b : Axis

-- whether the i-th index lies on process p in A and on process q in B
abbrev pub is_on : Axis → Axis → ℕ → ℕ → ℕ → Bool
is_on a b p q i = (owner (spread_of a) (a.first + i) == p) && (owner (spread_of b) (b.first + i) == q)

-- whether a run of the pair begins at the index after i: a block changes on the way there, and it lies on the pair
abbrev pub begins_on : Axis → Axis → ℕ → ℕ → ℕ → Bool
begins_on a b p q i = if in_one_pair a b i (suc i) then false else is_on a b p q (suc i)

-- how many runs of the pair begin before an index
abbrev pub begun : Axis → Axis → ℕ → ℕ → ℕ → ℕ
begun a b p q i = begun_from (is_on a b p q 0) (begins_on a b p q) i

-- after so many indices the blocks of A and of B begin as before, on the same processes
pub record IsTurn (a b : Axis) (turn : ℕ) : Type 0 where
  pub positive : 0 < turn
  pub of_a : turn % (a.nb * a.procs) ≡ 0
  pub of_b : turn % (b.nb * b.procs) ≡ 0

-- the indices in the lists
abbrev pub lists_of : Vec (Vec ℕ Global) Global → List (List ℕ)
lists_of v = map (λ list. list.items) v.items

-- Each pair of processes has its list: the first indices of its runs that begin from index 1 to `reach`.
pub record IsPutOut (a b : Axis) (reach : ℕ) (lists : List (List ℕ)) : Type 0 where
  pub count : length lists ≡ a.procs * b.procs
  pub each : (p q : ℕ) → p < a.procs → q < b.procs → AreSteps (begins_on a b p q) reach (get_or lists (p * b.procs + q) [])

-- What is kept of the runs of the first n indices. Where indices lie after `reach`, it is a turn.
pub record IsDealt (n : ℕ) (a b : Axis) (reach : ℕ) (lists : List (List ℕ)) : Type 0 where
  pub first : IsAxis n a
  pub second : IsAxis n b
  pub within : reach ≤ n - 1
  pub repeats : reach < n - 1 → IsTurn a b reach
  pub kept : IsPutOut a b reach lists
