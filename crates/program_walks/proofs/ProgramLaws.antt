-- A program that was read is the one that the walk reads.
use Rattle.std.proofs.Common.{◌≡◌, ℕ, IsTrue, List, Option, Ok, Err, refl, sym, ap, subst, ◌∙◌, inl, inr}
use Rattle.store_io.specs.Outside.{Outside, Files, SameCounts}
use Rattle.text_io.specs.Reading.{OnlyReads}
use Rattle.line_text.specs.Formats.{read_text}
use Rattle.line_text.specs.FaultTables.{step_faults}
use Rattle.line_text.specs.FormatMeaning.{Leads, IsAccepted}
use Rattle.line_text.specs.FormatLaws.{IsReading}
use Rattle.line_text.proofs.FormatReadings.{reading}
use Rattle.line_text.proofs.FormatLaws.{by_steps}
use Rattle.grid_lang.specs.declared.fault.LangFault.{LangFault}
use Rattle.grid_lang.specs.declared.line.Numbered.{Numbered}
use Rattle.grid_lang.specs.Programs.{grid_format}
use Rattle.grid_lang.specs.Answers.{fault_at}
use Rattle.program_file.specs.ProgramFiles.{IsRead, IsUnread, Because}
use Rattle.program_file.specs.declared.reading.ProgramErr.{ProgramErr}
use Rattle.program_file.specs.declared.reading.ProgramErr.TheVariants.{Missing, Failed, Bad, NoMemory}
use Rattle.tool_lines.specs.Texts.{at_line}
use Rattle.command_walks.specs.Answer.{refused}
use Rattle.command_walks.specs.Walk as walk
use Rattle.command_walks.specs.Walk.{Walk, answer, Comes, Needs}
use Rattle.command_walks.specs.Following.{ReadsOn, StopsWith}
use Rattle.command_walks.specs.declared.status.Status.TheVariants as status
use Rattle.command_walks.proofs.WalkLaws.{comes_here, missing_answer, untouched}
use Rattle.command_walks.proofs.ReadingLaws as reads
use Rattle.program_walks.specs.ProgramTexts.{lang_fault_text}
use Rattle.program_walks.specs.ProgramWalks.{with_program, program_walk}
use Rattle.program_walks.specs.Following.{program_status, program_line}

laws : IsReading grid_format (step_faults grid_format) (Leads grid_format) (IsAccepted grid_format (Leads grid_format))
laws = reading grid_format (step_faults grid_format) (Leads grid_format) (IsAccepted grid_format (Leads grid_format)) (by_steps grid_format)

-- the walk comes past a program that was read
pub program_comes : (name : List ℕ) (next : List Numbered → Walk) (files : Files) (program : List Numbered) → IsRead (Ok program) files name → Comes (program_walk name next) files (next program)
unfolding program_walk
program_comes name next files program (bytes, held, text) =
    let here : Comes (with_program name (read_text grid_format bytes) next) files (next program)
    = subst (λ r. Comes (with_program name r next) files (next program)) (sym (laws.reads bytes program text)) (comes_here (next program) files) in
    inr (bytes, held, here)

-- its file is needed
program_needed : (name : List ℕ) (next : List Numbered → Walk) (files : Files) → Needs (program_walk name next) files name
unfolding program_walk
program_needed name next files = record { next = _; comes = inl refl }

-- a text of no program decides
bad_answer : (name : List ℕ) (next : List Numbered → Walk) (files : Files) (line : ℕ) (what : LangFault) → IsUnread (Bad line what) files name → answer (program_walk name next) files ≡ refused (at_line name line (lang_fault_text what)) status.Refused
unfolding program_walk
bad_answer name next files line what (bytes, held, fault) =
    ap (λ o. walk.held_answer name o (λ b. answer (with_program name (read_text grid_format b) next) files)) held
    ∙ ap (λ r. answer (with_program name r next) files) (laws.finds bytes (fault_at line what) fault)

-- the walk stops where no program was read
pub program_stops : (e : ProgramErr) (name : List ℕ) (next : List Numbered → Walk) (names : Option (List (List ℕ))) (old new : Outside) → (IsTrue old.told → IsUnread e old.files name) → Because e old new → OnlyReads old new
    → StopsWith (program_status e) (program_line name e) (program_walk name next) names old new
program_stops Missing name next names old new none why same pour = inl (record {
  name = name;
  needed = λ told. program_needed name next old.files;
  why = inl (record { missed = why; line_is = refl; answered = λ told. missing_answer (program_walk name next) old.files name (program_needed name next old.files) (none told) });
  untouched = untouched old new same;
  silent = refl;
})
program_stops Failed name next names old new free why same pour = inl (record {
  name = name;
  needed = λ told. program_needed name next old.files;
  why = inr (record { failed = why; line_is = refl });
  untouched = untouched old new same;
  silent = refl;
})
program_stops (Bad line what) name next names old new bad why same pour = record {
  answered = λ told. bad_answer name next old.files line what (bad told);
  untouched = untouched old new same;
  counts = why;
  silent = refl;
}
program_stops NoMemory name next names old new free why same pour = record {
  untouched = untouched old new same;
  counts = why;
  silent = refl;
  line_is = refl;
}

-- reading goes on
pub reads_on : (old new : Outside) → SameCounts old new → OnlyReads old new → ReadsOn old new
reads_on = reads.reads_on
