-- The error of a file that isn't read.
use Rattle.std.specs.Prelude.{◌≡◌, ℕ, List}
use Rattle.mm_text.specs.declared.matrix.LoadErr.{LoadErr}
use Rattle.mm_text.specs.declared.matrix.LoadErr.TheVariants as load
use Rattle.grid_exec.specs.declared.err.ExecErr.{ExecErr}
use Rattle.grid_exec.specs.declared.err.ExecErr.TheVariants as err

-- it names the file and the cause; want of memory is told as such
abbrev pub IsUnreadErr : ExecErr → List ℕ → LoadErr → Type 0
IsUnreadErr e name load.NoMemory = e ≡ err.NoMemory
IsUnreadErr (err.Load n cause) name other = (n ≡ name) × (cause ≡ other)
IsUnreadErr (err.Bad line fault) name other = ⊥
IsUnreadErr err.NoMemory name other = ⊥
