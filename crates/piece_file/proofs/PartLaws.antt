-- The parts of a piece, by what the step of a line gives.
use Rattle.std.proofs.Common.{◌≡◌, ℕ, suc, ◌^◌, ◌≤◌, true, false, List, [], ◌∷◌, Some, Result, Ok, Err, refl, sym, ap, ◌∙◌}
use Rattle.std.specs.Prelude.{IfOk, OnOk}
use Rattle.mm_grammar.specs.Width.{width32}
use Rattle.mm_grammar.specs.Faults.{Fault as MatrixFault}
use Rattle.mm_grammar.specs.FileLines.{Line, line_fault}
use Rattle.mm_grammar.specs.Place as at
use Rattle.mm_reader.proofs.WayLaws as mm
use Rattle.mm_reader.specs.Taking.{HasFault, IsTaken, TakesNext}
use Rattle.mm_reader.specs.ReaderView.{ReaderView, line_of, lines_left}
use Rattle.piece_grammar.specs.Faults.{Fault, Mm}
use Rattle.piece_grammar.specs.Turn.{Turn}
use Rattle.piece_grammar.specs.Place.{Place, AtBanner, AtDesc, Behind}
use Rattle.line_text.specs.Formats as formats
use Rattle.piece_grammar.specs.PieceReading.{step, at_end, read_on}
use Rattle.store_io.specs.Outside.{Outside}
use Rattle.text_io.specs.declared.halt.Halt.{Halt}
use Rattle.text_io.specs.declared.halt.Halt.TheVariants.{Bad, Failed, Memory}
use Rattle.piece_file.specs.FaultView.{fault_view}
use Rattle.piece_file.specs.Halting.{Halts, Makes, stepped, halted, Passes}
use Rattle.piece_file.specs.declared.fault.PieceFault.{PieceFault}
use Rattle.piece_file.specs.declared.fault.Refusal.{Refusal}

-- a line that can't stand at its place, one that can, and an end that comes too early
pub bad_line : (turn : Turn) (n : ℕ) (place : Place) (line : Line) (lines rest : List Line) (fault : Fault) → lines ≡ line ∷ rest → step turn place line ≡ Err fault → read_on turn n place lines ≡ Err (record { line = n; fault = fault })
unfolding formats.read_on
bad_line turn n place line lines rest fault whole e = rw (whole, e) refl

pub good_line : (turn : Turn) (n m : ℕ) (place next : Place) (line : Line) (lines rest : List Line) → lines ≡ line ∷ rest → m ≡ suc n → step turn place line ≡ Ok next → read_on turn n place lines ≡ read_on turn m next rest
unfolding formats.read_on
good_line turn n m place next line lines rest whole number e = rw (whole, e) (ap (λ (k : ℕ). read_on turn k next rest) (sym number))

pub bad_end : (turn : Turn) (n : ℕ) (place : Place) (lines : List Line) (fault : Fault) → lines ≡ [] → at_end place ≡ Err fault → read_on turn n place lines ≡ Err (record { line = n; fault = fault })
unfolding formats.read_on
bad_end turn n place lines fault none e = rw (none, e) refl

-- ---- a line that is too long, or too far on in the file

own_stops : (turn : Turn) (place : Place) (line : Line) (fault : MatrixFault) → line_fault true line ≡ Some fault → step turn place line ≡ Err (Mm fault)
unfolding step
own_stops turn AtBanner line fault e = rw (mm.own_stops width32 at.AtBanner line fault e) refl
own_stops turn AtDesc line fault e = rw (mm.own_fault false line fault e) refl
own_stops turn (Behind head place) line fault e = rw (mm.own_stops width32 place line fault e) refl

pub fault_stops : (n k : ℕ) (lines : List Line) (fault : MatrixFault) → HasFault lines fault → k ≡ n → (turn : Turn) (place : Place) → read_on turn n place lines ≡ Err (record { line = k; fault = Mm fault })
fault_stops n k lines fault h same turn place =
    bad_line turn n place h.line lines h.more (Mm fault) h.whole (own_stops turn place h.line fault h.fails) ∙ ap (λ (i : ℕ). Err (record { line = i; fault = Mm fault })) (sym same)

pub end_stops : (n k : ℕ) (lines : List Line) (fault : Fault) → lines ≡ [] → k ≡ n → (turn : Turn) (place : Place) → at_end place ≡ Err fault → read_on turn n place lines ≡ Err (record { line = k; fault = fault })
end_stops n k lines fault none same turn place e = bad_end turn n place lines fault none e ∙ ap (λ (i : ℕ). Err (record { line = i; fault = fault })) (sym same)

-- ---- a line that was taken, by what is seen of its text

here : {X : Type 0} (behind : X → Place) (r : Result X PieceFault) (turn : Turn) (place : Place) (text : List ℕ) (v : ReaderView) → text ≡ v.text → v.before ≤ 2 ^ 30 → Makes behind r turn place text → step turn place (line_of v.text v.before) ≡ stepped behind r
here behind r turn place text v same near makes = ap (λ (t : List ℕ). step turn place (line_of t v.before)) (sym same) ∙ makes v.before near

-- a part of one line, by the step of its line
pub part : {X : Type 0} (behind : X → Place) (r : Result X PieceFault) (turn : Turn) (place : Place) (old new : ReaderView) (before after : Outside) (text : List ℕ) (line : ℕ) → TakesNext old new before after → text ≡ new.text
    → Makes behind r turn place text → line ≡ old.number → Passes behind (halted line r) turn place old new before after
part behind (Ok x) turn place old new before after text line t same makes number =
    (λ told. good_line turn old.number new.number place (behind x) (line_of new.text new.before) (lines_left old before) (lines_left new after) (t.line told) t.taken.number (here behind (Ok x) turn place text new same t.taken.near makes), t.same)
part behind (Err what) turn place old new before after text line t same makes number = (
  λ told. bad_line turn old.number place (line_of new.text new.before) (lines_left old before) (lines_left new after) (fault_view what) (t.line told) (here behind (Err what) turn place text new same t.taken.near makes)
      ∙ ap (λ (n : ℕ). Err (record { line = n; fault = fault_view what })) (sym number),
  t.same,
)

pub part_moves : {X : Type 0} (r : Result X PieceFault) (old new : ReaderView) (before after : Outside) (line : ℕ) → TakesNext old new before after → OnOk (halted line r) (IsTaken old new)
part_moves (Ok x) old new before after line t = t.taken
part_moves (Err what) old new before after line t = tt

pub part_holds : {X : Type 0} (P : X → Type 0) (line : ℕ) (r : Result X PieceFault) → IfOk r P → IfOk (halted line r) P
part_holds P line (Ok x) is = is
part_holds P line (Err what) is = tt

-- ---- parts one after another

-- what halts after a part that was passed halts before it
pub halts_then : (halt : Halt Refusal) (turn : Turn) (n m : ℕ) (place next : Place) (lines rest : List Line) → read_on turn n place lines ≡ read_on turn m next rest → Halts halt turn m next rest → Halts halt turn n place lines
halts_then (Bad r) turn n m place next lines rest e s = e ∙ s
halts_then Failed turn n m place next lines rest e s = tt
halts_then Memory turn n m place next lines rest e s = tt
