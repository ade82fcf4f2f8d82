-- The end of `run`: what it saves, and what it prints.
use Rattle.std.proofs.Common.{◌≡◌, ℕ, ◌<◌, IsTrue, List, [], ◌++◌, length, None, Result, Ok, Err, refl, sym, ap, ap₂, subst, ◌∙◌}
use Rattle.std.proofs.lemmas.List.FromFn.{fill_by_all}
use Rattle.store_io.specs.Outside.{Outside, Poured, SameCounts}
use Rattle.tool_lines.specs.Texts.{store_fault, output_fault}
use Rattle.tool_lines.specs.Saying.{SaysFront, SaysWell, SaysFailed}
use Rattle.save_list.specs.Save.{Save, save, numbered}
use Rattle.save_list.specs.Saving.{HasSaved, FailsAtSave}
use Rattle.text_io.specs.Reading.{OnlyReads}
use Rattle.mm_text.specs.Loading.{Refuses as IsUnread, Because}
use Rattle.mm_text.specs.declared.matrix.LoadErr.{LoadErr}
use Rattle.mm_text.specs.declared.matrix.LoadErr.TheVariants as load
use Rattle.pack_words.specs.LocalCells.{LocalCells}
use Rattle.grid_lang.specs.declared.line.Numbered.{Numbered}
use Rattle.program_meaning.specs.ProgramState.{ProgramState, begun}
use Rattle.program_meaning.specs.WithFiles.{Reaches, IsReadAt}
use Rattle.program_results.specs.EndsView.{EndsView, FinishedView, finished_saves, finished_output, save_of}
use Rattle.program_results.specs.Laws.{finished_in}
use Rattle.program_results.proofs.ResultLaws.{are_results}
use Rattle.grid_exec.specs.JobView.{JobView, arrays_after}
use Rattle.grid_exec.specs.Jobs.{IsJobOf}
use Rattle.grid_exec.specs.Answers.{IsProgramAnswer}
use Rattle.grid_exec.specs.Reading.{HasPlanCause}
use Rattle.grid_exec.specs.declared.err.ExecErr.{ExecErr}
use Rattle.grid_exec.specs.declared.err.ExecErr.TheVariants as exec
use Rattle.command_walks.specs.Walk.{Walk, Ends}
use Rattle.command_walks.specs.Outcome.{IsDone, FailsAtOutput}
use Rattle.command_walks.specs.Following.{ReadsOn, StopsWith, load_status, load_line}
use Rattle.command_walks.specs.declared.status.Status.TheVariants as status
use Rattle.command_walks.proofs.WalkLaws.{untouched}
use Rattle.command_walks.proofs.ReadingLaws.{reads_on}
use Rattle.command_walks.proofs.EndLaws.{all_done, output_lost, save_failed}
use Rattle.program_walks.specs.ProgramWalks.{results_walk, ran_walk}
use Rattle.program_walks.proofs.RunLaws.{program_comes, load_stops, refused_stops}
use Rattle.file_tools.specs.Causes.{of_load, of_exec}
use Rattle.file_tools.specs.Troubles.{Follows, Stops}
use Rattle.file_tools.specs.declared.trouble.Trouble.{Trouble}
use Rattle.file_tools.proofs.FollowLaws.{follows_by}
use Rattle.file_tools.specs.declared.trouble.Trouble.TheVariants as trouble

-- the saves by their numbers are all saves
all_saves : (f : FinishedView) → numbered (save_of f) (length (finished_saves f)) ≡ finished_saves f
all_saves f = sym (fill_by_all (save_of f) (finished_saves f) (length (finished_saves f)) (save [] []) refl (λ k lt. refl))

-- the store failed at a save
pub result_stops : (f : FinishedView) (k : ℕ) (name : List ℕ) (old new : Outside) → k < length (finished_saves f) → name ≡ (save_of f k).name → FailsAtSave (save_of f) k old new → Stops (trouble.Failed name) (Ends (finished_saves f) (finished_output f)) None old new
result_stops f k name old new lt is fails =
    let P : List Save → Type 0 = λ saves. StopsWith status.Store (store_fault name) (Ends saves (finished_output f)) None old new in
    subst P (all_saves f) (subst (λ (n : List ℕ). StopsWith status.Store (store_fault n) (Ends (numbered (save_of f) (length (finished_saves f))) (finished_output f)) None old new) (sym is)
    (save_failed (save_of f) (length (finished_saves f)) (finished_output f) None tt k old new lt fails))

-- all is saved and printed
pub results_told : (f : FinishedView) (old new : Outside) (before after : Poured) → HasSaved (save_of f) (length (finished_saves f)) old new → (IsTrue before.told → after.bytes ≡ before.bytes ++ finished_output f) → SaysWell before after
    → IsDone (Ends (finished_saves f) (finished_output f)) None [] old new before after
results_told f old new before after all said well =
    subst (λ (saves : List Save). IsDone (Ends saves (finished_output f)) None [] old new before after) (all_saves f)
    (all_done (save_of f) (length (finished_saves f)) (finished_output f) None tt old new before after all (record { gained = said; poured = well.faults }))

-- all is saved, and the output failed
pub results_lost : (f : FinishedView) (old new : Outside) (before after : Poured) → HasSaved (save_of f) (length (finished_saves f)) old new → (IsTrue before.told → SaysFront before after (finished_output f)) → SaysFailed before after
    → FailsAtOutput (Ends (finished_saves f) (finished_output f)) None output_fault old new before after
results_lost f old new before after all said failed =
    subst (λ (saves : List Save). FailsAtOutput (Ends saves (finished_output f)) None output_fault old new before after) (all_saves f)
    (output_lost (save_of f) (length (finished_saves f)) (finished_output f) None tt old new before after all (record { gained = said; poured = failed.faults }))

-- what a job gives is what the program's lines say
job_walk : (job : JobView) (s : ProgramState) (program : List Numbered) (f : FinishedView) → IsJobOf job s program → f ≡ record { ends = job.ends; arrays = arrays_after job } → Ends (finished_saves f) (finished_output f) ≡ results_walk program s
unfolding results_walk
job_walk job s program f is same =
    let whole : f ≡ finished_in s program = same ∙ ap₂ (λ (e : EndsView) (a : List (List LocalCells)). record { ends = e; arrays = a }) is.ends is.arrays in
    ap (λ (g : FinishedView). Ends (finished_saves g) (finished_output g)) whole ∙ ap₂ Ends (are_results s program).saves (are_results s program).output

pub job_follows : {X : Type 0} (r : Result X Trouble) (job : JobView) (s : ProgramState) (program : List Numbered) (f : FinishedView) (old new : Outside) (before after : Poured) → IsJobOf job s program → f ≡ record { ends = job.ends; arrays = arrays_after job }
    → Follows r (Ends (finished_saves f) (finished_output f)) None old new before after → Follows r (results_walk program s) None old new before after
job_follows r job s program f old new before after is same = subst (λ (w : Walk). Follows r w None old new before after) (job_walk job s program f is same)

-- a program that was planned goes on
pub planned_on : {X : Type 0} (r : Result X Trouble) (name : List ℕ) (s : ProgramState) (program : List Numbered) (old mid new : Outside) (before after : Poured) → Reaches old (begun 0) program s → ReadsOn old mid
    → Follows r (results_walk program s) None mid new before after → Follows r (ran_walk name program) None old new before after
planned_on r name s program old mid new before after reached on then = follows_by r (ran_walk name program) (results_walk program s) None old mid new before after (λ told. program_comes old told name s program reached) on then

-- a file that it loads wasn't read
pub file_stops : (e : LoadErr) (name : List ℕ) (program : List Numbered) (file : List ℕ) (old new : Outside) → IsReadAt old program file → (IsTrue old.told → IsUnread e old.files file) → Because e old new → OnlyReads old new → Stops (of_load file e) (ran_walk name program) None old new
file_stops e name program file old new at is why same = by e (load_stops e name program file None old new at is why same)
  where
    by : (f : LoadErr) → StopsWith (load_status f) (load_line file f) (ran_walk name program) None old new → Stops (of_load file f) (ran_walk name program) None old new
    by load.Missing h = h
    by load.Failed h = h
    by (load.Mm error) h = h
    by load.NoMemory h = h

-- a job that follows the results of its program follows the program
pub planned_follows : {X : Type 0} (r : Result X Trouble) (name : List ℕ) (program : List Numbered) (job : JobView) (old mid new : Outside) (before after : Poured) → IsProgramAnswer (Ok job) old program → SameCounts old mid → OnlyReads old mid
    → ((s : ProgramState) (lines : List Numbered) → IsJobOf job s lines → Follows r (results_walk lines s) None mid new before after) → Follows r (ran_walk name program) None old new before after
planned_follows r name program job old mid new before after answer counts same ran = planned_on r name answer.0 program old mid new before after answer.1 (reads_on old mid counts same) (ran answer.0 program answer.2)

-- a program that wasn't planned
pub plan_stops : (e : ExecErr) (name : List ℕ) (program : List Numbered) (old new : Outside) → IsProgramAnswer (Err e) old program → HasPlanCause {X = JobView} (Err e) old new → OnlyReads old new → Stops (of_exec name e) (ran_walk name program) None old new
plan_stops (exec.Bad line fault) name program old new answer counts same = refused_stops name program line fault None old new answer counts same
plan_stops (exec.Load file e) name program old new answer why same = file_stops e name program file old new answer.0 answer.1 why same
plan_stops exec.NoMemory name program old new answer counts same = λ pour. record { untouched = untouched old new same; counts = counts; silent = refl; line_is = refl }
