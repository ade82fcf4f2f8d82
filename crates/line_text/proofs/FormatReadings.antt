-- What is read is so, and what is so is read.
use Rattle.std.proofs.Common.{◌≡◌, ℕ, suc, ◌+◌, List, [], ◌∷◌, ◌++◌, length, Some, Result, Ok, Err, refl, sym, ap, subst, ◌∙◌, arith, append_assoc, append-nil}
use mathlib.Core.Logic.{inl, inr}
use Rattle.std.proofs.lemmas.List.{length-append}
use Rattle.line_text.specs.Formats.{Format, Refusal, refused_at, and_then, read_on, read_all}
use Rattle.line_text.specs.FaultTables.{FaultTable, fault_of}
use Rattle.line_text.specs.FormatMeaning.{IsRefused}
use Rattle.line_text.specs.FormatLaws.{Describes, IsReading}
use Rattle.line_text.proofs.FormatSteps.{at_end, at_next, on_fault, passes_from}

-- what an answer says of all lines
abbrev pub Tells : {State Line Value Fault : Type 0} → FaultTable State Line Fault → (List Line → State → Type 0) → (List Line → Value → Type 0) → List Line → Result Value (Refusal Fault) → Type 0
Tells faults Stands Text all (Ok v) = Text all v
Tells faults Stands Text all (Err r) = IsRefused faults Stands all r

-- an answer with a fault
refused_by : {A Fault : Type 0} (r : Result A Fault) (fault : Fault) → fault_of r ≡ Some fault → r ≡ Err fault
refused_by (Ok a) fault e = absurd cc
refused_by (Err other) fault e = cc

told_end : {State Line Value Fault : Type 0} (format : Format State Line Value Fault) (faults : FaultTable State Line Fault) (Stands : List Line → State → Type 0) (Text : List Line → Value → Type 0) → Describes format faults Stands Text
    → (before : List Line) (n : ℕ) (state : State) → Stands before state → n ≡ suc (length before) → (r : Result Value Fault) → format.finish state ≡ r → Tells faults Stands Text before (refused_at n r)
told_end format faults Stands Text d before n state stand number (Ok v) e = d.ends before v (record { state = state; stand = stand; ends = e })
told_end format faults Stands Text d before n state stand number (Err fault) e =
    record { before = before; state = state; stand = stand; number = number; next = inr (record { whole = refl; fails = sym (d.of_end state) ∙ ap fault_of e }) }

-- From lines that lead to a state, what is read on says what all the lines are.
told : {State Line Value Fault : Type 0} (format : Format State Line Value Fault) (faults : FaultTable State Line Fault) (Stands : List Line → State → Type 0) (Text : List Line → Value → Type 0) → Describes format faults Stands Text
    → (left before : List Line) (n : ℕ) (state : State) → Stands before state → n ≡ suc (length before) → Tells faults Stands Text (before ++ left) (read_on format n state left)
told {Value = Value} {Fault = Fault} format faults Stands Text d [] before n state stand number =
    subst (λ (r : Result Value (Refusal Fault)). Tells faults Stands Text (before ++ []) r) (sym (at_end format n state))
    (subst (λ ls. Tells faults Stands Text ls (refused_at n (format.finish state))) (sym (append-nil before)) (told_end format faults Stands Text d before n state stand number (format.finish state) refl))
told {State = State} {Line = Line} {Value = Value} {Fault = Fault} format faults Stands Text d (line ∷ left) before n state stand number =
    subst (λ (r : Result Value (Refusal Fault)). Tells faults Stands Text (before ++ line ∷ left) r) (sym (at_next format n state line left))
    (elim (format.step n state line) as (λ (r : Result State Fault). format.step n state line ≡ r → Tells faults Stands Text (before ++ line ∷ left) (and_then (refused_at n r) (λ next. read_on format (suc n) next left))) [
      | Ok next ↦ λ e. subst (λ ls. Tells faults Stands Text ls (read_on format (suc n) next left)) (append_assoc before (line ∷ []) left)
          (told format faults Stands Text d left (before ++ line ∷ []) (suc n) next (d.goes_on before state next line stand (subst (λ i. format.step i state line ≡ Ok next) number e))
          (let long : length (before ++ line ∷ []) ≡ length before + 1 = length-append before (line ∷ []) in omega arith))
      | Err fault ↦ λ e. record {
        before = before;
        state = state;
        stand = stand;
        number = number;
        next = inl (record { line = line; behind = left; whole = refl; fails = subst (λ i. faults.of_line i state line ≡ Some fault) number (sym (d.of_line n state line) ∙ ap fault_of e) });
      }
    ] refl)

pub tells : {State Line Value Fault : Type 0} (format : Format State Line Value Fault) (faults : FaultTable State Line Fault) (Stands : List Line → State → Type 0) (Text : List Line → Value → Type 0) → Describes format faults Stands Text
    → (all : List Line) → Tells faults Stands Text all (read_all format all)
tells format faults Stands Text d all = told format faults Stands Text d all [] 1 format.start d.at_start refl

-- Reading passes lines that lead to a state.
passes : {State Line Value Fault : Type 0} (format : Format State Line Value Fault) (faults : FaultTable State Line Fault) (Stands : List Line → State → Type 0) (Text : List Line → Value → Type 0) → Describes format faults Stands Text
    → (taken left : List Line) (state : State) → Stands taken state → read_all format (taken ++ left) ≡ read_on format (suc (length taken)) state left
passes format faults Stands Text d taken left state stand = passes_from format 1 (suc (length taken)) format.start state taken left (d.leads taken state stand) (omega arith)

pub read_accepted : {State Line Value Fault : Type 0} (format : Format State Line Value Fault) (faults : FaultTable State Line Fault) (Stands : List Line → State → Type 0) (Text : List Line → Value → Type 0) → Describes format faults Stands Text
    → (all : List Line) (v : Value) → Text all v → read_all format all ≡ Ok v
read_accepted format faults Stands Text d all v text =
    let a = d.ended all v text in
    ap (λ ls. read_all format ls) (sym (append-nil all))
    ∙ passes format faults Stands Text d all [] a.state a.stand
    ∙ at_end format (suc (length all)) a.state
    ∙ ap (λ r. refused_at (suc (length all)) r) a.ends

numbered : {Value Fault : Type 0} (n : ℕ) (r : Refusal Fault) → r.line ≡ n → let gave : Result Value (Refusal Fault) = Err (record { line = n; fault = r.fault }) in gave ≡ Err r
numbered {Value = Value} {Fault = Fault} n r e = let put : ℕ → Result Value (Refusal Fault) = λ i. Err (record { line = i; fault = r.fault }) in ap put (sym e)

pub read_refused : {State Line Value Fault : Type 0} (format : Format State Line Value Fault) (faults : FaultTable State Line Fault) (Stands : List Line → State → Type 0) (Text : List Line → Value → Type 0) → Describes format faults Stands Text
    → (all : List Line) (r : Refusal Fault) → IsRefused faults Stands all r → read_all format all ≡ Err r
read_refused format faults Stands Text d all r is =
    elim is.next [
      | inl bad ↦ ap (λ ls. read_all format ls) bad.whole
          ∙ passes format faults Stands Text d is.before (bad.line ∷ bad.behind) is.state is.stand
          ∙ on_fault format (suc (length is.before)) is.state bad.line bad.behind r.fault (refused_by (format.step (suc (length is.before)) is.state bad.line) r.fault (d.of_line (suc (length is.before)) is.state bad.line ∙ bad.fails))
          ∙ numbered (suc (length is.before)) r is.number
      | inr bad ↦ ap (λ ls. read_all format ls) (bad.whole ∙ sym (append-nil is.before))
          ∙ passes format faults Stands Text d is.before [] is.state is.stand
          ∙ at_end format (suc (length is.before)) is.state
          ∙ ap (λ x. refused_at (suc (length is.before)) x) (refused_by (format.finish is.state) r.fault (d.of_end is.state ∙ bad.fails))
          ∙ numbered (suc (length is.before)) r is.number
    ]

pub reading : {State Line Value Fault : Type 0} (format : Format State Line Value Fault) (faults : FaultTable State Line Fault) (Stands : List Line → State → Type 0) (Text : List Line → Value → Type 0) → Describes format faults Stands Text
    → IsReading format faults Stands Text
reading format faults Stands Text d = record {
  accepts = λ bytes v e. subst (λ r. Tells faults Stands Text (format.lines_of bytes) r) e (tells format faults Stands Text d (format.lines_of bytes));
  refuses = λ bytes r e. subst (λ x. Tells faults Stands Text (format.lines_of bytes) x) e (tells format faults Stands Text d (format.lines_of bytes));
  reads = λ bytes. read_accepted format faults Stands Text d (format.lines_of bytes);
  finds = λ bytes. read_refused format faults Stands Text d (format.lines_of bytes);
}
