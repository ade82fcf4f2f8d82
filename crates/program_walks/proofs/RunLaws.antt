-- What `run` leaves where a line of its program can't be done, and where it comes to when all are.
use Rattle.std.proofs.Common.{◌≡◌, ℕ, IsTrue, List, [], ◌∷◌, ◌++◌, Option, Some, Result, Ok, Err, refl, sym, ap, subst, ◌∙◌, append-nil, inl, inr}
use Rattle.store_io.specs.Outside.{Outside, Files, Poured, SameCounts}
use Rattle.text_io.specs.Reading.{OnlyReads}
use Rattle.mm_grammar.specs.Matrix.{Matrix as Cells}
use Rattle.mm_text.specs.Loading.{Refuses as IsUnread, Because}
use Rattle.mm_text.specs.declared.matrix.LoadErr.{LoadErr}
use Rattle.mm_text.specs.declared.matrix.LoadErr.TheVariants as load
use Rattle.grid_lang.specs.declared.line.Line.{Line}
use Rattle.grid_lang.specs.declared.line.Line.TheVariants.{Load}
use Rattle.grid_lang.specs.declared.line.Numbered.{Numbered}
use Rattle.program_meaning.specs.declared.fault.ExecFault.{ExecFault}
use Rattle.program_meaning.specs.ProgramState.{ProgramState, begun}
use Rattle.program_meaning.specs.Declarations.{load_line as line_loaded}
use Rattle.program_meaning.specs.WithFiles.{LineGives, Reaches, IsRefusedAt, IsReadAt}
use Rattle.tool_lines.specs.Texts.{at_line}
use Rattle.command_walks.specs.Walk.{Walk, Refuses, answer, Comes}
use Rattle.command_walks.specs.Answer.{refused}
use Rattle.command_walks.specs.ReadingWalks.{matrix_walk}
use Rattle.command_walks.specs.Following.{ReadsOn, StopsWith, load_status, load_line}
use Rattle.command_walks.specs.declared.status.Status.{Status}
use Rattle.command_walks.specs.declared.status.Status.TheVariants as status
use Rattle.command_walks.proofs.WalkLaws.{comes_here, comes_on, comes_answer, untouched}
use Rattle.command_walks.proofs.ReadingLaws.{matrix_stops}
use Rattle.command_walks.proofs.GoingOn.{leaves_on}
use Rattle.program_walks.specs.ProgramTexts.{exec_fault_text}
use Rattle.program_walks.specs.ProgramWalks.{with_state, line_walk, lines_walk, ran_walk, results_walk}
use Rattle.program_walks.proofs.LineLaws.{line_comes, lines_come}

-- all lines are done: the walk comes to the results
pub all_come : (store : Outside) → IsTrue store.told → (name : List ℕ) (s t : ProgramState) (lines : List Numbered) (next : ProgramState → Walk) → Reaches store s lines t → Comes (lines_walk name s lines next) store.files (next t)
unfolding lines_walk
all_come store told name s t lines next h =
    subst (λ (ls : List Numbered). Comes (lines_walk name s ls next) store.files (next t)) (append-nil lines) (lines_come store told name s t lines [] next h)

pub program_comes : (store : Outside) → IsTrue store.told → (name : List ℕ) (t : ProgramState) (program : List Numbered) → Reaches store (begun 0) program t → Comes (ran_walk name program) store.files (results_walk program t)
unfolding ran_walk
program_comes store told name t program h = all_come store told name (begun 0) t program (results_walk program) h

-- the walk comes to a line after others
line_reached : (store : Outside) → IsTrue store.told → (name : List ℕ) (program before after : List Numbered) (l : Numbered) (s : ProgramState) → program ≡ before ++ l ∷ after → Reaches store (begun 0) before s
    → Comes (ran_walk name program) store.files (line_walk name l.number s l.line (λ t. lines_walk name t after (results_walk program)))
unfolding ran_walk lines_walk
line_reached store told name program before after l s whole reached =
    subst (λ (ls : List Numbered). Comes (lines_walk name (begun 0) ls (results_walk program)) store.files (line_walk name l.number s l.line (λ t. lines_walk name t after (results_walk program)))) (sym whole)
    (lines_come store told name (begun 0) s before (l ∷ after) (results_walk program) reached)

-- a line is refused
refusal_reached : (store : Outside) → IsTrue store.told → (name : List ℕ) (program : List Numbered) (number : ℕ) (fault : ExecFault) → IsRefusedAt store program number fault
    → Comes (ran_walk name program) store.files (Refuses (at_line name number (exec_fault_text fault)) status.Refused)
refusal_reached store told name program number fault h =
    let go : ProgramState → Walk = λ t. lines_walk name t h.after (results_walk program) in
    let there : Comes (ran_walk name program) store.files (Refuses (at_line name h.line.number (exec_fault_text fault)) status.Refused)
    = comes_on (ran_walk name program) store.files (line_walk name h.line.number h.state h.line.line go) (Refuses (at_line name h.line.number (exec_fault_text fault)) status.Refused)
    (line_reached store told name program h.before h.after h.line h.state h.whole h.reached)
    (line_comes store told name h.line.number h.state h.line.line (Err fault) go h.refused) in
    subst (λ (n : ℕ). Comes (ran_walk name program) store.files (Refuses (at_line name n (exec_fault_text fault)) status.Refused)) (sym h.number_is) there

pub refused_stops : (name : List ℕ) (program : List Numbered) (number : ℕ) (fault : ExecFault) (names : Option (List (List ℕ))) (old new : Outside) → IsRefusedAt old program number fault → SameCounts old new → OnlyReads old new
    → StopsWith status.Refused (at_line name number (exec_fault_text fault)) (ran_walk name program) names old new
refused_stops name program number fault names old new h counts same pour = record {
  answered = λ told. comes_answer (ran_walk name program) old.files (Refuses (at_line name number (exec_fault_text fault)) status.Refused) (refusal_reached old told name program number fault h);
  untouched = untouched old new same;
  counts = counts;
  silent = refl;
}

-- a LOAD line reads its file
load_reached : (store : Outside) → IsTrue store.told → (name : List ℕ) (program : List Numbered) (file : List ℕ) → (h : IsReadAt store program file)
    → Comes (ran_walk name program) store.files (matrix_walk file (λ m. with_state name h.line.number (line_loaded (Some m) h.array h.state) (λ t. lines_walk name t h.after (results_walk program))))
load_reached store told name program file h =
    let go : ProgramState → Walk = λ t. lines_walk name t h.after (results_walk program) in
    subst (λ (l : Line). Comes (ran_walk name program) store.files (line_walk name h.line.number h.state l go)) h.is (line_reached store told name program h.before h.after h.line h.state h.whole h.reached)

no_words : (e : LoadErr) → load_status e ≡ status.Words → ⊥
no_words load.Missing e = cc
no_words load.Failed e = cc
no_words (load.Mm x) e = cc
no_words load.NoMemory e = cc

stays : (old : Outside) → ReadsOn old old
stays old = record { told = refl; files = refl; opens = refl; counts = record { faults = refl; misses = refl } }

pub load_stops : (e : LoadErr) (name : List ℕ) (program : List Numbered) (file : List ℕ) (names : Option (List (List ℕ))) (old new : Outside) → IsReadAt old program file → (IsTrue old.told → IsUnread e old.files file) → Because e old new → OnlyReads old new
    → StopsWith (load_status e) (load_line file e) (ran_walk name program) names old new
load_stops e name program file names old new h unread why same pour =
    let next : Cells → Walk = λ m. with_state name h.line.number (line_loaded (Some m) h.array h.state) (λ t. lines_walk name t h.after (results_walk program)) in
    leaves_on (load_status e) (no_words e) (ran_walk name program) (matrix_walk file next) names (load_line file e) old old new pour pour (λ told. load_reached old told name program file h) (stays old) (matrix_stops e file next names old new unread why same pour)
