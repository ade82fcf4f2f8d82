-- What `check` leaves: the numbers of a program, or the first line that is refused.
use Rattle.std.proofs.Common.{◌≡◌, ℕ, IsTrue, List, [], ◌∷◌, ◌++◌, Option, Some, Result, Ok, Err, refl, sym, ap, subst, ◌∙◌, append_assoc, append-nil}
use Rattle.std.specs.Prelude.{codes}
use Rattle.std.specs.Fmt.{decimal}
use Rattle.store_io.specs.Outside.{Outside}
use Rattle.line_text.specs.Formats.{Refusal}
use Rattle.line_text.specs.Lines.{ended}
use Rattle.grid_lang.specs.declared.line.Numbered.{Numbered}
use Rattle.program_meaning.specs.declared.fault.ExecFault.{ExecFault}
use Rattle.program_meaning.specs.ProgramState.{ProgramState}
use Rattle.program_meaning.specs.Programs.{program_done, no_loads}
use Rattle.tool_lines.specs.Texts.{at_line, joined}
use Rattle.command_walks.specs.Walk.{Walk, Refuses, Ends, answer}
use Rattle.command_walks.specs.Following.{StopsWith}
use Rattle.command_walks.specs.declared.status.Status.TheVariants as status
use Rattle.program_walks.specs.ProgramTexts.{exec_fault_text, number_line, summary_text, numbers_text}
use Rattle.program_walks.specs.ProgramWalks.{with_check, checked_walk}

-- where a program is accepted, its numbers end the walk
pub numbers_end : (name : List ℕ) (program : List Numbered) (s : ProgramState) → program_done no_loads program ≡ Ok s → checked_walk name program ≡ Ends [] (numbers_text s)
unfolding checked_walk
numbers_end name program s e = ap (with_check name) e

-- where a line is refused, it is told
pub check_stops : (name : List ℕ) (program : List Numbered) (r : Refusal ExecFault) (names : Option (List (List ℕ))) (old : Outside) → program_done no_loads program ≡ Err r
    → StopsWith status.Refused (at_line name r.line (exec_fault_text r.fault)) (checked_walk name program) names old old
unfolding checked_walk
check_stops name program r names old e pour = record {
  answered = λ told. ap (λ (x : Result ProgramState (Refusal ExecFault)). answer (with_check name x) old.files) e;
  untouched = record { files = refl; opens = refl };
  counts = record { faults = refl; misses = refl };
  silent = refl;
}

-- the four lines, as one line in parts
abbrev pub summary_parts : (r o m w : ℕ) → List (List ℕ)
summary_parts r o m w = codes "ranks " ∷ decimal r ∷ (10 ∷ codes "operations ") ∷ decimal o ∷ (10 ∷ codes "messages ") ∷ decimal m ∷ (10 ∷ codes "words ") ∷ decimal w ∷ []

next_line : (what n rest lines : List ℕ) → rest ++ 10 ∷ [] ≡ lines → (what ++ (n ++ 10 ∷ rest)) ++ 10 ∷ [] ≡ ended (what ++ n) ++ lines
next_line what n rest lines e =
    let parted : (what ++ (n ++ 10 ∷ rest)) ++ 10 ∷ [] ≡ what ++ (n ++ (10 ∷ rest ++ 10 ∷ [])) = append_assoc what (n ++ 10 ∷ rest) (10 ∷ []) ∙ ap (λ (t : List ℕ). what ++ t) (append_assoc n (10 ∷ rest) (10 ∷ [])) in
    let joint : ended (what ++ n) ++ lines ≡ what ++ (n ++ 10 ∷ lines) = append_assoc (what ++ n) (10 ∷ []) lines ∙ append_assoc what n (10 ∷ lines) in
    parted ∙ ap (λ (t : List ℕ). what ++ (n ++ 10 ∷ t)) e ∙ sym joint

four_lines : (a r b o c m d w : List ℕ) → (a ++ (r ++ 10 ∷ (b ++ (o ++ 10 ∷ (c ++ (m ++ 10 ∷ (d ++ (w ++ [])))))))) ++ 10 ∷ [] ≡ ended (a ++ r) ++ (ended (b ++ o) ++ (ended (c ++ m) ++ ended (d ++ w)))
four_lines a r b o c m d w =
    next_line a r (b ++ (o ++ 10 ∷ (c ++ (m ++ 10 ∷ (d ++ (w ++ [])))))) (ended (b ++ o) ++ (ended (c ++ m) ++ ended (d ++ w)))
    (next_line b o (c ++ (m ++ 10 ∷ (d ++ (w ++ [])))) (ended (c ++ m) ++ ended (d ++ w))
    (next_line c m (d ++ (w ++ [])) (ended (d ++ w)) (ap (λ (t : List ℕ). (d ++ t) ++ 10 ∷ []) (append-nil w))))

pub summary_is : (r o m w : ℕ) → ended (joined (summary_parts r o m w)) ≡ summary_text r o m w
unfolding summary_text
summary_is r o m w = four_lines (codes "ranks ") (decimal r) (codes "operations ") (decimal o) (codes "messages ") (decimal m) (codes "words ") (decimal w)
