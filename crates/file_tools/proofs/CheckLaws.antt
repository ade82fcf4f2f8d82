-- The end of `check`.
use Rattle.std.proofs.Common.{◌≡◌, ℕ, IsTrue, List, [], ◌++◌, Some, Result, Ok, Err, refl, sym, ap, subst, ◌∙◌}
use Rattle.store_io.specs.Outside.{Outside, Poured}
use Rattle.store_io.specs.declared.sink.SinkErr.{SinkErr}
use Rattle.line_text.specs.Formats.{Refusal}
use Rattle.grid_lang.specs.declared.line.Numbered.{Numbered}
use Rattle.program_meaning.specs.declared.fault.ExecFault.{ExecFault}
use Rattle.program_meaning.specs.ProgramState.{ProgramState}
use Rattle.program_meaning.specs.Programs.{program_done, no_loads}
use Rattle.grid_exec.specs.Checking.{IsChecked}
use Rattle.grid_exec.specs.declared.err.ExecErr.{ExecErr}
use Rattle.grid_exec.specs.declared.err.ExecErr.TheVariants as exec
use Rattle.grid_exec.specs.declared.summary.Summary.{Summary}
use Rattle.line_text.specs.Lines.{ended}
use Rattle.tool_lines.specs.Texts.{joined, at_line, output_fault}
use Rattle.save_list.specs.Save.{Save, save}
use Rattle.save_list.specs.Saving.{opened, HasSaved}
use Rattle.tool_lines.specs.Saying.{SaysFront, Says, Tells}
use Rattle.command_walks.specs.Walk.{Walk, Ends}
use Rattle.command_walks.specs.Outcome.{IsDone, FailsAtOutput}
use Rattle.command_walks.specs.Following.{StopsWith, IsTold, IsLost, Prints}
use Rattle.command_walks.specs.declared.status.Status.TheVariants as status
use Rattle.command_walks.proofs.EndLaws.{all_done, output_lost}
use Rattle.command_walks.proofs.GoingOn.{wants_memory}
use Rattle.program_walks.specs.ProgramTexts.{exec_fault_text, summary_text}
use Rattle.program_walks.specs.ProgramWalks.{checked_walk}
use Rattle.program_walks.proofs.CheckLaws.{numbers_end, check_stops as refused_stops, summary_parts, summary_is}
use Rattle.file_tools.specs.Causes.{of_exec}
use Rattle.file_tools.specs.Troubles.{Stops}

-- nothing is saved where there is nothing to save
nothing : ℕ → Save
nothing k = save [] []

none_saved : (store : Outside) → HasSaved nothing 0 store store
unfolding opened
none_saved store = record { told = refl; files = λ tells. refl; opens = refl; counts = record { faults = refl; misses = refl } }

abbrev numbers : Summary → List ℕ
numbers sum = summary_text sum.ranks sum.operations sum.messages sum.words

-- a program that was checked ends so
accepted : (name : List ℕ) (program : List Numbered) (sum : Summary) → IsChecked (Ok sum) (program_done no_loads program) → checked_walk name program ≡ Ends [] (numbers sum)
accepted name program sum is = by (program_done no_loads program) refl is
  where
    by : (r : Result ProgramState (Refusal ExecFault)) → program_done no_loads program ≡ r → IsChecked (Ok sum) r → checked_walk name program ≡ Ends [] (numbers sum)
    by (Ok s) e same = numbers_end name program s e ∙ ap (λ (x : Summary). Ends [] (numbers x)) (sym same)
    by (Err r) e no_way = absurd no_way

pub told_end : (name : List ℕ) (program : List Numbered) (sum : Summary) (before after : Poured) → IsChecked (Ok sum) (program_done no_loads program) → IsTold (numbers sum) before after → (store : Outside)
    → IsDone (checked_walk name program) (Some []) [] store store before after
told_end name program sum before after is told store = subst (λ (w : Walk). IsDone w (Some []) [] store store before after) (sym (accepted name program sum is)) (all_done nothing 0 (numbers sum) (Some []) refl store store before after (none_saved store) told)

pub lost_end : (name : List ℕ) (program : List Numbered) (sum : Summary) (before after : Poured) → IsChecked (Ok sum) (program_done no_loads program) → IsLost (numbers sum) before after → (store : Outside)
    → FailsAtOutput (checked_walk name program) (Some []) output_fault store store before after
lost_end name program sum before after is lost store = subst (λ (w : Walk). FailsAtOutput w (Some []) output_fault store store before after) (sym (accepted name program sum is)) (output_lost nothing 0 (numbers sum) (Some []) refl store store before after (none_saved store) lost)

-- a line that is refused
pub check_stops : (name : List ℕ) (program : List Numbered) (e : ExecErr) → IsChecked (Err e) (program_done no_loads program) → (store : Outside) → Stops (of_exec name e) (checked_walk name program) (Some []) store store
check_stops name program (exec.Bad line fault) is store = by (program_done no_loads program) refl is
  where
    by : (r : Result ProgramState (Refusal ExecFault)) → program_done no_loads program ≡ r → IsChecked (Err (exec.Bad line fault)) r → StopsWith status.Refused (at_line name line (exec_fault_text fault)) (checked_walk name program) (Some []) store store
    by (Ok s) e no_way = absurd no_way
    by (Err r) e same =
        let P : ℕ → Type 0 = λ n. StopsWith status.Refused (at_line name n (exec_fault_text fault)) (checked_walk name program) (Some []) store store in
        let Q : ExecFault → Type 0 = λ f. StopsWith status.Refused (at_line name r.line (exec_fault_text f)) (checked_walk name program) (Some []) store store in
        subst P (sym same.0) (subst Q (sym same.1) (refused_stops name program r (Some []) store e))
check_stops name program (exec.Load file error) is store = absurd is
check_stops name program exec.NoMemory is store = wants_memory (checked_walk name program) (Some []) store

-- what telling the numbers leaves
pub numbers_print : {X : Type 0} (said : Result X SinkErr) (r o m w : ℕ) (before after : Poured) → (IsTrue before.told → Says said before after (ended (joined (summary_parts r o m w)))) → Tells said before after → Prints said (summary_text r o m w) before after
numbers_print (Ok x) r o m w before after gained tells = record { gained = λ told. gained told ∙ ap (λ (t : List ℕ). before.bytes ++ t) (summary_is r o m w); poured = tells.faults }
numbers_print (Err e) r o m w before after gained tells = record { gained = λ told. subst (SaysFront before after) (summary_is r o m w) (gained told); poured = tells.faults }
