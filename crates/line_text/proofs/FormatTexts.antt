-- What a reader stands on that goes through bytes line by line.
use Rattle.std.proofs.Common.{◌≡◌, ℕ, suc, List, [], ◌∷◌, Ok, Err, ap, ◌∙◌}
use Rattle.line_text.specs.Formats.{Format, refused_at, read_on, read_bytes}
use Rattle.line_text.proofs.FormatSteps.{at_end, on_step, on_fault}

-- no line is left
pub none_left : {State Line Value Fault : Type 0} (format : Format State Line Value Fault) (n : ℕ) (state : State) (bytes : List ℕ) → format.lines_of bytes ≡ [] → read_bytes format n state bytes ≡ refused_at n (format.finish state)
none_left format n state bytes e = ap (λ ls. read_on format n state ls) e ∙ at_end format n state

-- a line that is taken, and one that isn't
pub line_taken : {State Line Value Fault : Type 0} (format : Format State Line Value Fault) (n : ℕ) (state next : State) (line : Line) (bytes rest : List ℕ) → format.lines_of bytes ≡ line ∷ format.lines_of rest → format.step n state line ≡ Ok next
    → read_bytes format n state bytes ≡ read_bytes format (suc n) next rest
line_taken format n state next line bytes rest e is = ap (λ ls. read_on format n state ls) e ∙ on_step format n state next line (format.lines_of rest) is

pub line_refused : {State Line Value Fault : Type 0} (format : Format State Line Value Fault) (n : ℕ) (state : State) (line : Line) (bytes rest : List ℕ) (fault : Fault) → format.lines_of bytes ≡ line ∷ format.lines_of rest
    → format.step n state line ≡ Err fault → read_bytes format n state bytes ≡ Err (record { line = n; fault = fault })
line_refused format n state line bytes rest fault e is = ap (λ ls. read_on format n state ls) e ∙ on_fault format n state line (format.lines_of rest) fault is
