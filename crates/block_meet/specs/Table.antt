-- What a table of runs keeps.
use Rattle.std.specs.Prelude.{◌≡◌, ℕ, suc, ◌-◌, ◌*◌, ◌%◌, ◌<◌, ◌≤◌, List, length, get_or}
use Rattle.index_tools.specs.Multiples.{IsLeastCommonMultiple}
use Rattle.block_meet.specs.declared.axis.Axis.{Axis}
use Rattle.block_meet.specs.Runs.{IsAxis}
use Rattle.block_meet.specs.Numbers.{run_number, IsFirstOf}

-- A table as callers see it: of the first n indices, with the first indices of the runs that are kept.
pub record Table : Type 0 where
  pub n : ℕ
  pub a : Axis
  pub b : Axis
  pub kept : List ℕ

-- after so many indices the blocks of A and of B begin as before
pub record IsPeriod (a b : Axis) (p : ℕ) : Type 0 where
  pub positive : 0 < p
  pub of_a : p % a.nb ≡ 0
  pub of_b : p % b.nb ≡ 0

-- the first indices of the runs 1, 2 and so on, as far as `last`
pub record AreStarts (a b : Axis) (last : ℕ) (starts : List ℕ) : Type 0 where
  pub count : length starts ≡ run_number a b last
  pub each : (k : ℕ) → k < length starts → IsFirstOf a b (suc k) (get_or starts k 0)

-- The runs 1, 2 and so on are kept that begin at `reach` or before. Where indices lie after it, it is a period.
pub record IsTable (n : ℕ) (a b : Axis) (reach : ℕ) (starts : List ℕ) : Type 0 where
  pub first : IsAxis n a
  pub second : IsAxis n b
  pub within : reach ≤ n - 1
  pub repeats : reach < n - 1 → IsPeriod a b reach
  pub short : (p : ℕ) → IsLeastCommonMultiple (a.nb * a.procs) (b.nb * b.procs) p → reach ≤ p
  pub kept : AreStarts a b reach starts
