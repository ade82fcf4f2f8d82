-- A program, line by line.
use Rattle.std.proofs.Common.{◌≡◌, ℕ, suc, ◌+◌, ◌<◌, List, [], ◌∷◌, length, Ok, Err, refl, ap, ◌∙◌, arith}
use Rattle.line_text.specs.Lines.{lines}
use Rattle.line_text.specs.Formats.{read_bytes, read_text}
use Rattle.line_text.proofs.FormatTexts.{none_left, line_taken, line_refused}
use Rattle.grid_lang.specs.declared.fault.LangFault.{LangFault}
use Rattle.grid_lang.specs.declared.line.Numbered.{Numbered}
use Rattle.grid_lang.specs.Programs.{State, step, finish, grid_format}
use Rattle.grid_lang.specs.Answers.{fault_at}

-- reading what is left from here is reading the whole
pub record IsReadTo (text : List ℕ) (n : ℕ) (state : State) (left : List ℕ) : Type 0 where
  pub same : read_text grid_format text ≡ read_bytes grid_format n state left

pub begins : (text : List ℕ) → IsReadTo text 1 grid_format.start text
begins text = record { same = refl }

pub taken : (text left line behind : List ℕ) (n : ℕ) (state next : State) → IsReadTo text n state left → lines left ≡ line ∷ lines behind → step n state line ≡ Ok next → IsReadTo text (n + 1) next behind
taken text left line behind n state next is cut e =
    let one : suc n ≡ n + 1 = omega arith in
    record { same = is.same ∙ line_taken grid_format n state next line left behind cut e ∙ ap (λ (i : ℕ). read_bytes grid_format i next behind) one }

pub refused : (text left line behind : List ℕ) (n : ℕ) (state : State) (what : LangFault) → IsReadTo text n state left → lines left ≡ line ∷ lines behind → step n state line ≡ Err what → read_text grid_format text ≡ Err (fault_at n what)
refused text left line behind n state what is cut e = is.same ∙ line_refused grid_format n state line left behind what cut e

at_line_ok : (text left : List ℕ) (n : ℕ) (state : State) (program : List Numbered) → lines left ≡ [] → finish state ≡ Ok program → read_bytes grid_format n state left ≡ Ok program
at_line_ok text left n state program none e = none_left grid_format n state left none ∙ rw e refl

pub ended : (text left : List ℕ) (n : ℕ) (state : State) (program : List Numbered) → IsReadTo text n state left → lines left ≡ [] → finish state ≡ Ok program → read_text grid_format text ≡ Ok program
ended text left n state program is none e = is.same ∙ at_line_ok text left n state program none e

at_line_err : (left : List ℕ) (n : ℕ) (state : State) (what : LangFault) → lines left ≡ [] → finish state ≡ Err what → read_bytes grid_format n state left ≡ Err (fault_at n what)
at_line_err left n state what none e = none_left grid_format n state left none ∙ rw e refl

pub too_early : (text left : List ℕ) (n : ℕ) (state : State) (what : LangFault) → IsReadTo text n state left → lines left ≡ [] → finish state ≡ Err what → read_text grid_format text ≡ Err (fault_at n what)
too_early text left n state what is none e = is.same ∙ at_line_err left n state what none e

pub fewer : (left line behind : List ℕ) → lines left ≡ line ∷ lines behind → length (lines behind) < length (lines left)
fewer left line behind e = rw e (omega arith)
