-- The reading of a text is exactly what the text is.
use Rattle.std.proofs.Common.{◌≡◌, ℕ, List, Result, Ok, Err}
use Rattle.std.specs.Prelude.{IfOk, IfErr}
use Rattle.line_text.specs.Formats.{Refusal, read_text}
use Rattle.line_text.specs.FaultTables.{step_faults}
use Rattle.line_text.specs.FormatMeaning.{Leads, IsAccepted}
use Rattle.line_text.specs.FormatLaws.{IsReading}
use Rattle.line_text.proofs.FormatReadings.{reading}
use Rattle.line_text.proofs.FormatLaws.{by_steps, decided, first}
use Rattle.grid_lang.specs.declared.fault.LangFault.{LangFault}
use Rattle.grid_lang.specs.declared.fault.LangErr.{LangErr}
use Rattle.grid_lang.specs.declared.fault.LangErr.TheVariants.{Bad, NoMemory}
use Rattle.grid_lang.specs.declared.line.Numbered.{Numbered}
use Rattle.grid_lang.specs.Programs.{grid_format, IsProgramText, IsProgramFault, AreDecided, AreFirst}
use Rattle.grid_lang.specs.Answers.{fault_at, IsRead, TellsFault, IsProgramOr, IsFaultOr}

laws : IsReading grid_format (step_faults grid_format) (Leads grid_format) (IsAccepted grid_format (Leads grid_format))
laws = reading grid_format (step_faults grid_format) (Leads grid_format) (IsAccepted grid_format (Leads grid_format)) (by_steps grid_format)

pub ok_of : (text : List ℕ) (r : Result (List Numbered) LangErr) → IsRead (read_text grid_format text) r → IfOk r (λ program. IsProgramText text program)
ok_of text (Ok program) is = laws.accepts text program is
ok_of text (Err e) is = tt

pub bad_of : (text : List ℕ) (r : Result (List Numbered) LangErr) → IsRead (read_text grid_format text) r → IfErr r (λ e. TellsFault text e)
bad_of text (Ok program) is = tt
bad_of text (Err (Bad n what)) is = laws.refuses text (fault_at n what) is
bad_of text (Err NoMemory) is = tt

abbrev Answer : Type 0
Answer = Result (List Numbered) (Refusal LangFault)

same_program : (x : Answer) (p q : List Numbered) → x ≡ Ok p → x ≡ Ok q → p ≡ q
same_program x p q a b = cc

same_fault : (x : Answer) (r s : Refusal LangFault) → x ≡ Err r → x ≡ Err s → r ≡ s
same_fault x r s a b = cc

not_both : (x : Answer) (p : List Numbered) (r : Refusal LangFault) → x ≡ Ok p → x ≡ Err r → ⊥
not_both x p r a b = cc

pub program_of : (text : List ℕ) (r : Result (List Numbered) LangErr) → IsRead (read_text grid_format text) r → (program : List Numbered) → IsProgramText text program → IsProgramOr r program
program_of text (Ok p) is program so = same_program (read_text grid_format text) p program is (laws.reads text program so)
program_of text (Err (Bad n what)) is program so = not_both (read_text grid_format text) program (fault_at n what) (laws.reads text program so) is
program_of text (Err NoMemory) is program so = tt

pub fault_of : (text : List ℕ) (r : Result (List Numbered) LangErr) → IsRead (read_text grid_format text) r → (refusal : Refusal LangFault) → IsProgramFault text refusal → IsFaultOr r refusal
fault_of text (Ok p) is refusal so = not_both (read_text grid_format text) p refusal is (laws.finds text refusal so)
fault_of text (Err (Bad n what)) is refusal so = same_fault (read_text grid_format text) (fault_at n what) refusal is (laws.finds text refusal so)
fault_of text (Err NoMemory) is refusal so = tt

-- Told exactly once, at the first bad line.
pub once : AreDecided
once = decided grid_format (step_faults grid_format) (Leads grid_format) (IsAccepted grid_format (Leads grid_format)) (by_steps grid_format)

pub at_first : AreFirst
at_first = first grid_format (step_faults grid_format) (Leads grid_format) (IsAccepted grid_format (Leads grid_format)) (by_steps grid_format)
