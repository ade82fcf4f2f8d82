-- The end of `load`.
use Rattle.std.proofs.Common.{◌≡◌, ℕ, ℤ, pos, negsuc, IsTrue, List, [], ◌∷◌, ◌++◌, Some, Result, Ok, Err, refl, sym, ap, subst, ◌∙◌, unsigned_abs, arith}
use Rattle.std.specs.Prelude.{codes, ◌<ℤ◌, ◌≤ℤ◌}
use Rattle.std.specs.Fmt.{decimal, signed_decimal}
use Rattle.std.proofs.lemmas.Int.{ints}
use Rattle.store_io.specs.Outside.{Outside, Poured}
use Rattle.store_io.specs.declared.sink.SinkErr.{SinkErr}
use Rattle.line_text.specs.Lines.{ended}
use Rattle.tool_lines.specs.Texts.{joined, output_fault}
use Rattle.tool_lines.specs.Saying.{SaysFront, Says, Tells}
use Rattle.save_list.specs.Save.{Save, save}
use Rattle.save_list.specs.Saving.{opened, HasSaved}
use Rattle.command_walks.specs.Walk.{Walk, Ends}
use Rattle.command_walks.specs.Outcome.{IsDone, FailsAtOutput}
use Rattle.command_walks.specs.Following.{StopsWith, IsTold, IsLost, Prints}
use Rattle.command_walks.specs.declared.status.Status.TheVariants as status
use Rattle.command_walks.proofs.EndLaws.{all_done, output_lost}
use Rattle.command_walks.proofs.GoingOn.{wants_memory}
use Rattle.drawn_jobs.specs.Jobs.{job_meets, job_messages, job_copies, drawn_sum, IsLoaded}
use Rattle.drawn_jobs.specs.declared.job.Loaded.{Loaded}
use Rattle.file_tools.specs.LoadWalk.{job_line, load_output, load_walk, sum_label}
use Rattle.file_tools.specs.Troubles.{Stops}
use Rattle.file_tools.specs.declared.trouble.Trouble.TheVariants as trouble

pub below_zero : (z : ℤ) → z <ℤ pos 0 → codes " sum -" ≡ sum_label z
unfolding sum_label
below_zero (pos n) lt = absurd (omega (arith, ints))
below_zero (negsuc n) lt = refl

pub from_zero : (z : ℤ) → pos 0 ≤ℤ z → codes " sum " ≡ sum_label z
unfolding sum_label
from_zero (pos n) le = refl
from_zero (negsuc n) le = absurd (omega (arith, ints))

-- the label and the digits are the label and the number
sum_parts : (z : ℤ) → sum_label z ++ (decimal (unsigned_abs z) ++ []) ≡ codes " sum " ++ (signed_decimal z ++ [])
unfolding sum_label
sum_parts (pos n) = refl
sum_parts (negsuc n) = refl

-- the parts that are told, and the line
abbrev pub job_parts : (seed size meets messages copies digits : ℕ) → (label : List ℕ) → List (List ℕ)
job_parts seed size meets messages copies digits label =
    codes "load " ∷ decimal seed ∷ codes " " ∷ decimal size ∷ codes " meets " ∷ decimal meets ∷ codes " messages " ∷ decimal messages ∷ codes " copies " ∷ decimal copies ∷ label ∷ decimal digits ∷ []

line_is : (seed size meets messages copies : ℕ) (z : ℤ) (label : List ℕ) → label ≡ sum_label z → ended (joined (job_parts seed size meets messages copies (unsigned_abs z) label)) ≡ job_line seed size meets messages copies z
line_is seed size meets messages copies z label is =
    let parts : List ℕ → List ℕ = λ rest. ended (codes "load " ++ (decimal seed ++ (codes " " ++ (decimal size ++ (codes " meets " ++ (decimal meets ++ (codes " messages " ++ (decimal messages ++ (codes " copies " ++ (decimal copies ++ rest)))))))))) in
    ap (λ (l : List ℕ). parts (l ++ (decimal (unsigned_abs z) ++ []))) is ∙ ap parts (sum_parts z)

pub job_prints : {X : Type 0} (said : Result X SinkErr) (seed size meets messages copies : ℕ) (z : ℤ) (label : List ℕ) (before after : Poured) → label ≡ sum_label z
    → (IsTrue before.told → Says said before after (ended (joined (job_parts seed size meets messages copies (unsigned_abs z) label)))) → Tells said before after → Prints said (job_line seed size meets messages copies z) before after
job_prints (Ok x) seed size meets messages copies z label before after is gained tells = record { gained = λ told. gained told ∙ ap (λ (t : List ℕ). before.bytes ++ t) (line_is seed size meets messages copies z label is); poured = tells.faults }
job_prints (Err e) seed size meets messages copies z label before after is gained tells = record { gained = λ told. subst (SaysFront before after) (line_is seed size meets messages copies z label is) (gained told); poured = tells.faults }

-- the line of a job that was done
output_is : (seed size : ℕ) (l : Loaded) → IsLoaded seed size l → job_line seed size l.meets l.messages l.copies l.sum ≡ load_output seed size
unfolding load_output
output_is seed size l is =
    ap (λ (n : ℕ). job_line seed size n l.messages l.copies l.sum) is.meets ∙ ap (λ (n : ℕ). job_line seed size (job_meets size) n l.copies l.sum) is.messages
    ∙ ap (λ (n : ℕ). job_line seed size (job_meets size) (job_messages size) n l.sum) is.copies ∙ ap (job_line seed size (job_meets size) (job_messages size) (job_copies size)) is.sum

-- nothing is saved where there is nothing to save
nothing : ℕ → Save
nothing k = save [] []

none_saved : (store : Outside) → HasSaved nothing 0 store store
unfolding opened
none_saved store = record { told = refl; files = λ tells. refl; opens = refl; counts = record { faults = refl; misses = refl } }

pub told_end : (seed size : ℕ) (l : Loaded) (before after : Poured) → IsLoaded seed size l → IsTold (job_line seed size l.meets l.messages l.copies l.sum) before after → (store : Outside) → IsDone (load_walk seed size) (Some []) [] store store before after
unfolding load_walk
told_end seed size l before after is told store = subst (λ (output : List ℕ). IsDone (Ends [] output) (Some []) [] store store before after) (output_is seed size l is) (all_done nothing 0 (job_line seed size l.meets l.messages l.copies l.sum) (Some []) refl store store before after (none_saved store) told)

pub lost_end : (seed size : ℕ) (l : Loaded) (before after : Poured) → IsLoaded seed size l → IsLost (job_line seed size l.meets l.messages l.copies l.sum) before after → (store : Outside) → FailsAtOutput (load_walk seed size) (Some []) output_fault store store before after
unfolding load_walk
lost_end seed size l before after is lost store = subst (λ (output : List ℕ). FailsAtOutput (Ends [] output) (Some []) output_fault store store before after) (output_is seed size l is) (output_lost nothing 0 (job_line seed size l.meets l.messages l.copies l.sum) (Some []) refl store store before after (none_saved store) lost)

pub load_stops : (seed size : ℕ) (store : Outside) → Stops trouble.NoMemory (load_walk seed size) (Some []) store store
load_stops seed size store = wants_memory (load_walk seed size) (Some []) store
