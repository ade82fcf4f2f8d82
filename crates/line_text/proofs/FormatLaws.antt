-- Told exactly once, and at the first bad line.
use Rattle.std.proofs.Common.{◌≡◌, suc, List, [], ◌∷◌, ◌++◌, length, Result, Ok, Err, refl, sym, subst, ◌∙◌, arith, append_assoc, append-nil}
use Rattle.std.specs.Prelude.{◌⊎◌}
use mathlib.Core.Logic.{inl, inr}
use Rattle.line_text.specs.Formats.{Format, Refusal, read_all}
use Rattle.line_text.specs.FaultTables.{FaultTable, step_faults}
use Rattle.line_text.specs.FormatMeaning.{Leads, IsAccepted, FailsAtLine, IsRefused}
use Rattle.line_text.specs.FormatLaws.{Describes, IsDecided, IsFirst}
use Rattle.line_text.proofs.FormatSteps.{leads_append}
use Rattle.line_text.proofs.FormatReadings.{Tells, tells, read_accepted, read_refused}
use Rattle.line_text.proofs.Answers.{ok_is, err_is}

-- The steps of a format describe it, where it has no words of its own.
pub by_steps : {State Line Value Fault : Type 0} (format : Format State Line Value Fault) → Describes format (step_faults format) (Leads format) (IsAccepted format (Leads format))
by_steps format = record {
  at_start = refl;
  goes_on = λ before state next line leads e. leads_append format 1 (suc (length before)) format.start state next before (line ∷ []) leads (omega arith) (next, e, refl);
  leads = λ before state leads. leads;
  ends = λ all value is. is;
  ended = λ all value is. is;
  of_line = λ n state line. refl;
  of_end = λ state. refl;
}

one_of : {State Line Value Fault : Type 0} (faults : FaultTable State Line Fault) (Stands : List Line → State → Type 0) (Text : List Line → Value → Type 0) (all : List Line) (r : Result Value (Refusal Fault)) → Tells faults Stands Text all r
    → ((v : Value) × Text all v) ⊎ ((f : Refusal Fault) × IsRefused faults Stands all f)
one_of faults Stands Text all (Ok v) is = inl (v, is)
one_of faults Stands Text all (Err r) is = inr (r, is)

clash : {State Line Value Fault : Type 0} (format : Format State Line Value Fault) (faults : FaultTable State Line Fault) (Stands : List Line → State → Type 0) (Text : List Line → Value → Type 0) → Describes format faults Stands Text
    → (all : List Line) (v : Value) (r : Refusal Fault) → Text all v → IsRefused faults Stands all r → ⊥
clash {Value = Value} {Fault = Fault} format faults Stands Text d all v r a b =
    let both : ◌≡◌ {A = Result Value (Refusal Fault)} (Ok v) (Err r) = sym (read_accepted format faults Stands Text d all v a) ∙ read_refused format faults Stands Text d all r b in
    absurd cc

pub decided : {State Line Value Fault : Type 0} (format : Format State Line Value Fault) (faults : FaultTable State Line Fault) (Stands : List Line → State → Type 0) (Text : List Line → Value → Type 0) → Describes format faults Stands Text
    → IsDecided format faults Stands Text
decided format faults Stands Text d = record {
  either = λ bytes. one_of faults Stands Text (format.lines_of bytes) (read_all format (format.lines_of bytes)) (tells format faults Stands Text d (format.lines_of bytes));
  one_value = λ bytes v w a b. ok_is v w (sym (read_accepted format faults Stands Text d (format.lines_of bytes) v a) ∙ read_accepted format faults Stands Text d (format.lines_of bytes) w b);
  one_fault = λ bytes r s a b. err_is r s (sym (read_refused format faults Stands Text d (format.lines_of bytes) r a) ∙ read_refused format faults Stands Text d (format.lines_of bytes) s b);
  not_both = λ bytes. clash format faults Stands Text d (format.lines_of bytes);
}

stays_bad : {State Line Fault : Type 0} (faults : FaultTable State Line Fault) (Stands : List Line → State → Type 0) (all before more : List Line) (state : State) (fault : Fault) → Stands before state
    → (bad : FailsAtLine faults all before state fault) → IsRefused faults Stands ((before ++ bad.line ∷ []) ++ more) (record { line = suc (length before); fault = fault })
stays_bad faults Stands all before more state fault stand bad = record {
  before = before;
  state = state;
  stand = stand;
  number = refl;
  next = inl (record { line = bad.line; behind = more; whole = append_assoc before (bad.line ∷ []) more; fails = bad.fails });
}

-- two lists of one length that both begin a list are one
same_front : {Line : Type 0} (xs ys us vs : List Line) → xs ++ us ≡ ys ++ vs → length xs ≡ length ys → xs ≡ ys
same_front [] [] us vs e l = refl
same_front [] (y ∷ ys) us vs e l = absurd (omega arith)
same_front (x ∷ xs) [] us vs e l = absurd (omega arith)
same_front (x ∷ xs) (y ∷ ys) us vs e l =
    let first : x ≡ y = cc in
    let rest : xs ++ us ≡ ys ++ vs = cc in
    let more : xs ≡ ys = same_front xs ys us vs rest (omega arith) in
    cc

was_taken : {State Line Fault : Type 0} (faults : FaultTable State Line Fault) (Stands : List Line → State → Type 0) (all front behind : List Line) (r : Refusal Fault) (is : IsRefused faults Stands all r)
    → all ≡ front ++ behind → suc (length front) ≡ r.line → (end : List Line) → all ≡ is.before ++ end → (state : State) × Stands front state
was_taken faults Stands all front behind r is cut number end whole =
    let n : r.line ≡ suc (length is.before) = is.number in
    let same : is.before ≡ front = same_front is.before front end behind (sym whole ∙ cut) (omega arith) in
    (is.state, subst (λ ls. Stands ls is.state) same is.stand)

taken_before : {State Line Fault : Type 0} (faults : FaultTable State Line Fault) (Stands : List Line → State → Type 0) (all front behind : List Line) (r : Refusal Fault) (is : IsRefused faults Stands all r)
    → all ≡ front ++ behind → suc (length front) ≡ r.line → (state : State) × Stands front state
taken_before faults Stands all front behind r is cut number =
    elim is.next [
      | inl bad ↦ was_taken faults Stands all front behind r is cut number (bad.line ∷ bad.behind) bad.whole
      | inr bad ↦ was_taken faults Stands all front behind r is cut number [] (bad.whole ∙ sym (append-nil is.before))
    ]

pub first : {State Line Value Fault : Type 0} (format : Format State Line Value Fault) (faults : FaultTable State Line Fault) (Stands : List Line → State → Type 0) (Text : List Line → Value → Type 0) → Describes format faults Stands Text
    → IsFirst faults Stands Text
first format faults Stands Text d = record {
  stays = stays_bad faults Stands;
  stops = λ all before more state fault v stand bad text.
      clash format faults Stands Text d ((before ++ bad.line ∷ []) ++ more) v (record { line = suc (length before); fault = fault }) text (stays_bad faults Stands all before more state fault stand bad);
  end_stops = λ all before state fault v stand bad text.
      clash format faults Stands Text d all v (record { line = suc (length before); fault = fault }) text (record { before = before; state = state; stand = stand; number = refl; next = inr bad });
  taken = λ all front behind r is cut number. taken_before faults Stands all front behind r is cut number;
}
