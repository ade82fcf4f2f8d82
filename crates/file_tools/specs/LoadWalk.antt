-- What `load` does: it reads no file, saves none, and tells its job's numbers and sum.
use Rattle.std.specs.Prelude.{ℕ, ℤ, pos, negsuc, List, [], ◌∷◌, codes}
use Rattle.std.specs.Fmt.{decimal, signed_decimal}
use Rattle.line_text.specs.Lines.{ended}
use Rattle.tool_lines.specs.Texts.{joined}
use Rattle.command_walks.specs.Walk.{Walk, Ends}
use Rattle.drawn_jobs.specs.Jobs.{job_meets, job_messages, job_copies, drawn_sum}

abbrev pub job_line : (seed size meets messages copies : ℕ) → (sum : ℤ) → List ℕ
job_line seed size meets messages copies sum = ended (joined (
    codes "load " ∷ decimal seed ∷ codes " " ∷ decimal size ∷ codes " meets " ∷ decimal meets ∷ codes " messages " ∷ decimal messages ∷ codes " copies " ∷ decimal copies
    ∷ codes " sum " ∷ signed_decimal sum ∷ []))

unfoldable pub load_output : (seed size : ℕ) → List ℕ
load_output seed size = job_line seed size (job_meets size) (job_messages size) (job_copies size) (drawn_sum seed size)

unfoldable pub load_walk : (seed size : ℕ) → Walk
load_walk seed size = Ends [] (load_output seed size)

-- what stands before the digits of a sum
unfoldable pub sum_label : ℤ → List ℕ
sum_label (pos n) = codes " sum "
sum_label (negsuc n) = codes " sum -"
