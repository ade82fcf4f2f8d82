-- A LOAD line and its file.
use Rattle.std.proofs.Common.{◌≡◌, ℕ, List, Some, Result, Ok, Err, refl, sym, ap, subst, ◌∙◌}
use Rattle.std.specs.Prelude.{Bool, IsTrue}
use Rattle.store_io.specs.Outside.{Outside, Files}
use Rattle.text_io.specs.Reading.{OnlyReads}
use Rattle.mm_text.specs.Loading.{Loads, Refuses, matrix_of}
use Rattle.mm_text.specs.declared.cells.Whole.{Whole}
use Rattle.mm_text.specs.declared.matrix.LoadErr.{LoadErr}
use Rattle.mm_text.specs.declared.matrix.LoadErr.TheVariants as load
use Rattle.msg_core.specs.Plans.{PlanView}
use Rattle.pack_words.specs.declared.rank_op.RankOp.{RankOp}
use Rattle.grid_lang.specs.declared.line.Line.TheVariants as line
use Rattle.program_meaning.specs.declared.fault.ExecFault.{ExecFault}
use Rattle.program_meaning.specs.ProgramState.{ProgramState}
use Rattle.program_meaning.specs.Declarations.{load_line}
use Rattle.program_meaning.specs.WithFiles.{HoldsMatrix, LineGives}
use Rattle.line_plans.specs.declared.halt.Halt.{Halt}
use Rattle.line_plans.specs.declared.halt.Halt.TheVariants.{Fault, NoMemory}
use Rattle.grid_exec.specs.declared.err.ExecErr.{ExecErr}
use Rattle.grid_exec.specs.declared.err.ExecErr.TheVariants as err
use Rattle.grid_exec.specs.declared.held.Held.{Held}
use Rattle.grid_exec.specs.Planning.{stop_of}
use Rattle.grid_exec.specs.Reading.{standing, IsHeld, IsOfFile, IsUnread, IsLineFilled}
use Rattle.grid_exec.specs.Unread.{IsUnreadErr}

-- what the store holds now it held before
held_before : (before old : Outside) (file name : List ℕ) (w : Whole) → OnlyReads before old → name ≡ file → (IsTrue old.told → Loads (Ok w) old.files name) → HoldsMatrix before file (matrix_of w)
held_before before old file name w reads e h = λ told.
    subst (λ (f : Files). Loads (Ok w) f file) reads.files (subst (λ (n : List ℕ). Loads (Ok w) old.files n) e (h (subst IsTrue (sym reads.told) told)))

refused_before : (before old : Outside) (file name : List ℕ) (e : LoadErr) → OnlyReads before old → name ≡ file → (IsTrue old.told → Refuses e old.files name) → IsTrue before.told → Refuses e before.files file
refused_before before old file name e reads same h told =
    subst (λ (f : Files). Refuses e f file) reads.files (subst (λ (n : List ℕ). Refuses e old.files n) same (h (subst IsTrue (sym reads.told) told)))

pub load_done : (before old : Outside) (number array : ℕ) (file name : List ℕ) (w : Whole) (h : Held) (p : PlanView RankOp) (s : ProgramState) → OnlyReads before old → name ≡ file → (IsTrue old.told → Loads (Ok w) old.files name)
    → IsHeld (Ok h) p (load_line (Some (matrix_of w)) array s) → IsLineFilled (Ok h) before (record { number = number; line = line.Load array file }) p s
load_done before old number array file name w h p s reads e loads held =
    (matrix_of w, held_before before old file name w reads e loads, step (load_line (Some (matrix_of w)) array s) refl held)
  where
    step : (r : Result ProgramState ExecFault) → load_line (Some (matrix_of w)) array s ≡ r → IsHeld (Ok h) p r → load_line (Some (matrix_of w)) array s ≡ Ok (standing h p)
    step (Ok t) at k = at ∙ ap (λ (x : ProgramState). let q : Result ProgramState ExecFault = Ok x in q) k
    step (Err f) at k = absurd k

pub load_stopped : (before old : Outside) (number array : ℕ) (file name : List ℕ) (w : Whole) (halt : Halt) (e : ExecErr) (p : PlanView RankOp) (s : ProgramState) → OnlyReads before old → name ≡ file → (IsTrue old.told → Loads (Ok w) old.files name)
    → IsHeld (Err halt) p (load_line (Some (matrix_of w)) array s) → e ≡ stop_of number halt → IsLineFilled (Err e) before (record { number = number; line = line.Load array file }) p s
load_stopped before old number array file name w halt e p s reads same loads held is =
    subst (λ (x : ExecErr). IsLineFilled (Err x) before (record { number = number; line = line.Load array file }) p s) (sym is) (by_halt halt held)
  where
    step : (f : ExecFault) (r : Result ProgramState ExecFault) → load_line (Some (matrix_of w)) array s ≡ r → IsHeld (Err (Fault f)) p r → load_line (Some (matrix_of w)) array s ≡ Err f
    step f (Ok t) at k = absurd k
    step f (Err g) at k = at ∙ ap (λ (x : ExecFault). let q : Result ProgramState ExecFault = Err x in q) (sym k)

    by_halt : (x : Halt) → IsHeld (Err x) p (load_line (Some (matrix_of w)) array s) → IsLineFilled (Err (stop_of number x)) before (record { number = number; line = line.Load array file }) p s
    by_halt (Fault f) k = (refl, (matrix_of w, held_before before old file name w reads same loads, step f (load_line (Some (matrix_of w)) array s) refl k))
    by_halt NoMemory k = tt

pub load_unread : (before old : Outside) (number array : ℕ) (file name text : List ℕ) (cause : LoadErr) (e : ExecErr) (p : PlanView RankOp) (s : ProgramState) → OnlyReads before old → name ≡ file → text ≡ file → (IsTrue old.told → Refuses cause old.files name)
    → IsUnreadErr e text cause → IsLineFilled (Err e) before (record { number = number; line = line.Load array file }) p s
load_unread before old number array file name text cause e p s reads same said refuses is = step cause e refuses is
  where
    told : (c c' : LoadErr) → c' ≡ c → (IsTrue old.told → Refuses c old.files name) → IsTrue before.told → Refuses c' before.files file
    told c c' at h = refused_before before old file name c' reads same (λ t. subst (λ (x : LoadErr). Refuses x old.files name) (sym at) (h t))

    made : (c c' : LoadErr) (n : List ℕ) → IsOfFile c → c' ≡ c → n ≡ text → (IsTrue old.told → Refuses c old.files name) → IsUnread before (line.Load array file) n c'
    made c c' n of_file at named h = record {
      array = array;
      is = ap (λ (x : List ℕ). line.Load array x) (sym (named ∙ said));
      why = λ t. subst (λ (x : List ℕ). Refuses c' before.files x) (sym (named ∙ said)) (told c c' at h t);
      of_file = subst IsOfFile (sym at) of_file;
    }

    step : (c : LoadErr) (x : ExecErr) → (IsTrue old.told → Refuses c old.files name) → IsUnreadErr x text c → IsLineFilled (Err x) before (record { number = number; line = line.Load array file }) p s
    step load.NoMemory x h k = subst (λ (y : ExecErr). IsLineFilled (Err y) before (record { number = number; line = line.Load array file }) p s) (sym k) tt
    step load.Missing (err.Load n c') h k = made load.Missing c' n tt k.1 k.0 h
    step load.Missing (err.Bad n f) h k = absurd k
    step load.Missing err.NoMemory h k = absurd k
    step load.Failed (err.Load n c') h k = made load.Failed c' n tt k.1 k.0 h
    step load.Failed (err.Bad n f) h k = absurd k
    step load.Failed err.NoMemory h k = absurd k
    step (load.Mm m) (err.Load n c') h k = made (load.Mm m) c' n tt k.1 k.0 h
    step (load.Mm m) (err.Bad n f) h k = absurd k
    step (load.Mm m) err.NoMemory h k = absurd k
