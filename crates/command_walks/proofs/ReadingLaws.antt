-- What was read is what the walk reads.
use Rattle.std.proofs.Common.{◌≡◌, ℕ, IsTrue, List, Ok, refl, sym, ap, subst, ◌∙◌, inl, inr, Option}
use Rattle.store_io.specs.Outside.{Outside, Files, SameCounts}
use Rattle.text_io.specs.Reading.{OnlyReads}
use Rattle.mm_grammar.specs.Matrix.{Matrix}
use Rattle.mm_grammar.specs.Width.{width32}
use Rattle.mm_grammar.specs.Reading.{read_text}
use Rattle.mm_grammar.proofs.Laws.{reading}
use Rattle.mm_reader.specs.Views.{fault_of, refusal_of}
use Rattle.mm_text.specs.Loading.{matrix_of, Refuses, Because, Loads}
use Rattle.mm_text.specs.declared.cells.Whole.{Whole}
use Rattle.mm_reader.specs.declared.fault.MmErr.{MmErr}
use Rattle.mm_text.specs.declared.matrix.LoadErr.{LoadErr}
use Rattle.mm_text.specs.declared.matrix.LoadErr.TheVariants as load
use Rattle.command_walks.specs.Answer.{refused}
use Rattle.tool_lines.specs.Texts.{at_line}
use Rattle.tool_lines.specs.FaultTexts.{matrix_fault_text}
use Rattle.command_walks.specs.Walk as walk
use Rattle.command_walks.specs.Walk.{Walk, answer, Comes, Needs}
use Rattle.command_walks.specs.ReadingWalks.{with_matrix, matrix_walk}
use Rattle.command_walks.specs.Following.{ReadsOn, StopsWith, load_status, load_line}
use Rattle.command_walks.specs.declared.status.Status.TheVariants as status
use Rattle.command_walks.proofs.WalkLaws.{comes_here, missing_answer, untouched}

-- ---- a matrix

-- the walk comes past a matrix that was read
pub matrix_comes : (name : List ℕ) (next : Matrix → Walk) (files : Files) (w : Whole) → Loads (Ok w) files name → Comes (matrix_walk name next) files (next (matrix_of w))
unfolding matrix_walk
matrix_comes name next files w (bytes, held, text) =
    let here : Comes (with_matrix name (read_text width32 bytes) next) files (next (matrix_of w))
    = subst (λ r. Comes (with_matrix name r next) files (next (matrix_of w))) (sym ((reading width32).reads bytes (matrix_of w) text)) (comes_here (next (matrix_of w)) files) in
    inr (bytes, held, here)

-- its file is needed
matrix_needed : (name : List ℕ) (next : Matrix → Walk) (files : Files) → Needs (matrix_walk name next) files name
unfolding matrix_walk
matrix_needed name next files = record { next = _; comes = inl refl }

-- a text of no matrix decides
bad_answer : (name : List ℕ) (next : Matrix → Walk) (files : Files) (e : MmErr) → Refuses (load.Mm e) files name → answer (matrix_walk name next) files ≡ refused (at_line name e.line (matrix_fault_text (fault_of e.what))) status.Refused
unfolding matrix_walk
bad_answer name next files e (bytes, held, fault) =
    ap (λ o. walk.held_answer name o (λ b. answer (with_matrix name (read_text width32 b) next) files)) held
    ∙ ap (λ r. answer (with_matrix name r next) files) ((reading width32).finds bytes (refusal_of e) fault)

-- the walk stops where no matrix was read
pub matrix_stops : (e : LoadErr) (name : List ℕ) (next : Matrix → Walk) (names : Option (List (List ℕ))) (old new : Outside) → (IsTrue old.told → Refuses e old.files name) → Because e old new → OnlyReads old new → StopsWith (load_status e) (load_line name e) (matrix_walk name next) names old new
matrix_stops load.Missing name next names old new none why same pour = inl (record {
  name = name;
  needed = λ told. matrix_needed name next old.files;
  why = inl (record { missed = why; line_is = refl; answered = λ told. missing_answer (matrix_walk name next) old.files name (matrix_needed name next old.files) (none told) });
  untouched = untouched old new same;
  silent = refl;
})
matrix_stops load.Failed name next names old new free why same pour = inl (record {
  name = name;
  needed = λ told. matrix_needed name next old.files;
  why = inr (record { failed = why; line_is = refl });
  untouched = untouched old new same;
  silent = refl;
})
matrix_stops (load.Mm e) name next names old new bad why same pour = record {
  answered = λ told. bad_answer name next old.files e (bad told);
  untouched = untouched old new same;
  counts = why;
  silent = refl;
}
matrix_stops load.NoMemory name next names old new free why same pour = record {
  untouched = untouched old new same;
  counts = why;
  silent = refl;
  line_is = refl;
}

-- reading goes on
pub reads_on : (old new : Outside) → SameCounts old new → OnlyReads old new → ReadsOn old new
reads_on old new counts same = record { told = same.told; files = same.files; opens = same.opens; counts = counts }
