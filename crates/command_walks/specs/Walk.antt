-- A command as a walk over the files: what it reads, one file after the other, and where that ends.
use Rattle.std.specs.Prelude.{◌≡◌, ℕ, ◌^◌, nat_le, if◌then◌else◌, List, Option, Some, None}
use Rattle.std.specs.FinMap.{get}
use Rattle.store_io.specs.Outside.{Files, IsEither}
use Rattle.tool_lines.specs.Texts.{missing, too_many_words}
use Rattle.save_list.specs.Save.{Save}
use Rattle.command_walks.specs.Answer.{Answer, refused, done}
use Rattle.command_walks.specs.declared.status.Status.{Status}
use Rattle.command_walks.specs.declared.status.Status.TheVariants as status

pub data Walk : Type 0 where
  -- reads the file of this name, and goes on with its bytes
  Reads : (name : List ℕ) → (next : List ℕ → Walk) → Walk
  -- is refused with this line and status
  Refuses : (line : List ℕ) → Status → Walk
  -- saves these files in their order, and has this output
  Ends : List Save → (output : List ℕ) → Walk

-- a job goes on where it has at most 2^26 words, and is refused above that
unfoldable pub within_limit : (words : ℕ) → Walk → Walk
within_limit words next = if nat_le words (2 ^ 26) then next else Refuses (too_many_words words) status.Refused

-- a file that isn't held ends a walk
abbrev pub held_answer : (name : List ℕ) → Option (List ℕ) → (List ℕ → Answer) → Answer
held_answer name None next = refused (missing name) status.Store
held_answer name (Some bytes) next = next bytes

-- where a walk over these files ends
abbrev pub answer : Walk → Files → Answer
answer (Reads name next) files = held_answer name (get files name) (λ bytes. answer (next bytes) files)
answer (Refuses line status) files = refused line status
answer (Ends saves output) files = done saves output

-- A walk over these files comes to this one: whatever it reads before is held.
abbrev pub Comes : Walk → Files → Walk → Type 0
Comes (Reads name next) files here = IsEither (Reads name next ≡ here) ((bytes : List ℕ) × (get files name ≡ Some bytes) × Comes (next bytes) files here)
Comes (Refuses line status) files here = Refuses line status ≡ here
Comes (Ends saves output) files here = Ends saves output ≡ here

-- a file that the walk needs: it comes to where it reads this one
pub record Needs (walk : Walk) (files : Files) (name : List ℕ) : Type 0 where
  pub next : List ℕ → Walk
  pub comes : Comes walk files (Reads name next)
