-- The end of a command: its saves, and its output.
use Rattle.std.proofs.Common.{◌≡◌, ℕ, ◌<◌, IsTrue, List, [], ◌++◌, Some, refl, sym, subst}
use Rattle.store_io.specs.Outside.{Outside, Poured}
use Rattle.tool_lines.specs.Texts.{store_fault, output_fault}
use Rattle.tool_lines.specs.Saying.{SaysFront, SaysWell, SaysFailed}
use Rattle.save_list.specs.Save.{Save, numbered, names_of}
use Rattle.save_list.specs.Saving.{HasSaved, FailsAtSave}
use Rattle.command_walks.specs.Walk.{Ends}
use Rattle.command_walks.specs.Outcome.{IsDone, FailsAtOutput}
use Rattle.command_walks.specs.Following.{StopsWith}
use Rattle.command_walks.specs.declared.status.Status.TheVariants as status
use Rattle.command_walks.proofs.EndLaws.{all_done, output_lost, nothing_told, save_failed}
use Rattle.file_tools.specs.Troubles.{Stops}
use Rattle.file_tools.specs.declared.trouble.Trouble.TheVariants as trouble

pub save_stops : (save_at : ℕ → Save) (count : ℕ) (output : List ℕ) (k : ℕ) (name : List ℕ) (old new : Outside) → k < count → name ≡ (save_at k).name → FailsAtSave save_at k old new → Stops (trouble.Failed name) (Ends (numbered save_at count) output) (Some (names_of (numbered save_at count))) old new
save_stops save_at count output k name old new lt is fails =
    subst (λ (n : List ℕ). StopsWith status.Store (store_fault n) (Ends (numbered save_at count) output) (Some (names_of (numbered save_at count))) old new) (sym is) (save_failed save_at count output (Some (names_of (numbered save_at count))) refl k old new lt fails)

pub nothing_more : (save_at : ℕ → Save) (count : ℕ) (old new : Outside) → HasSaved save_at count old new → (pour : Poured) → IsDone (Ends (numbered save_at count) []) (Some (names_of (numbered save_at count))) [] old new pour pour
nothing_more save_at count old new all pour = all_done save_at count [] (Some (names_of (numbered save_at count))) refl old new pour pour all (nothing_told pour)

pub told_line : (save_at : ℕ → Save) (count : ℕ) (output : List ℕ) (old new : Outside) (before after : Poured) → HasSaved save_at count old new → (IsTrue before.told → after.bytes ≡ before.bytes ++ output) → SaysWell before after
    → IsDone (Ends (numbered save_at count) output) (Some (names_of (numbered save_at count))) [] old new before after
told_line save_at count output old new before after all said well = all_done save_at count output (Some (names_of (numbered save_at count))) refl old new before after all (record { gained = said; poured = well.faults })

pub lost_line : (save_at : ℕ → Save) (count : ℕ) (output : List ℕ) (old new : Outside) (before after : Poured) → HasSaved save_at count old new → (IsTrue before.told → SaysFront before after output) → SaysFailed before after
    → FailsAtOutput (Ends (numbered save_at count) output) (Some (names_of (numbered save_at count))) output_fault old new before after
lost_line save_at count output old new before after all said failed = output_lost save_at count output (Some (names_of (numbered save_at count))) refl old new before after all (record { gained = said; poured = failed.faults })
