-- Lines that are taken one after the other.
use Rattle.std.proofs.Common.{◌≡◌, ℕ, suc, ◌+◌, List, [], ◌∷◌, ◌++◌, length, Ok, Err, refl, sym, ap, subst, ◌∙◌, arith}
use Rattle.line_text.specs.Formats.{Format, refused_at, and_then, read_on}
use Rattle.line_text.specs.FormatMeaning.{LeadsFrom}

-- the end, a line that is taken, and one that isn't
pub at_end : {State Line Value Fault : Type 0} (format : Format State Line Value Fault) (n : ℕ) (state : State) → read_on format n state [] ≡ refused_at n (format.finish state)
unfolding read_on
at_end format n state = refl

pub at_next : {State Line Value Fault : Type 0} (format : Format State Line Value Fault) (n : ℕ) (state : State) (line : Line) (more : List Line)
    → read_on format n state (line ∷ more) ≡ and_then (refused_at n (format.step n state line)) (λ next. read_on format (suc n) next more)
unfolding read_on
at_next format n state line more = refl

pub on_step : {State Line Value Fault : Type 0} (format : Format State Line Value Fault) (n : ℕ) (state next : State) (line : Line) (more : List Line) → format.step n state line ≡ Ok next
    → read_on format n state (line ∷ more) ≡ read_on format (suc n) next more
unfolding read_on
on_step format n state next line more e = rw e refl

pub on_fault : {State Line Value Fault : Type 0} (format : Format State Line Value Fault) (n : ℕ) (state : State) (line : Line) (more : List Line) (fault : Fault) → format.step n state line ≡ Err fault
    → read_on format n state (line ∷ more) ≡ Err (record { line = n; fault = fault })
unfolding read_on
on_fault format n state line more fault e = rw e refl

same_number : {State Line Value Fault : Type 0} (format : Format State Line Value Fault) (n k : ℕ) (state last : State) (left : List Line) → k ≡ n → state ≡ last → read_on format n state left ≡ read_on format k last left
same_number format n k state last left e same = ap (λ i. read_on format i state left) (sym e) ∙ ap (λ s. read_on format k s left) same

-- Reading passes lines that are taken.
pub passes_from : {State Line Value Fault : Type 0} (format : Format State Line Value Fault) (n k : ℕ) (state last : State) (taken left : List Line) → LeadsFrom format n state taken last → k ≡ n + length taken
    → read_on format n state (taken ++ left) ≡ read_on format k last left
passes_from format n k state last [] left leads e = same_number format n k state last left (omega arith) leads
passes_from format n k state last (line ∷ taken) left leads e =
    on_step format n state leads.0 line (taken ++ left) leads.1 ∙ passes_from format (suc n) k leads.0 last taken left leads.2 (omega arith)

-- Lines that are taken, and lines that are taken behind them, are taken together.
pub leads_append : {State Line Value Fault : Type 0} (format : Format State Line Value Fault) (n k : ℕ) (state middle last : State) (front behind : List Line) → LeadsFrom format n state front middle → k ≡ n + length front
    → LeadsFrom format k middle behind last → LeadsFrom format n state (front ++ behind) last
leads_append format n k state middle last [] behind first e second =
    let same : k ≡ n = omega arith in
    subst (λ s. LeadsFrom format n s behind last) (sym first) (subst (λ i. LeadsFrom format i middle behind last) same second)
leads_append format n k state middle last (line ∷ front) behind first e second =
    (first.0, first.1, leads_append format (suc n) k first.0 middle last front behind first.2 (omega arith) second)
