-- The parts of a piece describe its format: all laws of formats hold of it.
use Rattle.std.proofs.Common.{◌≡◌, ◌+◌, ◌^◌, ◌≤◌, Bool, true, false, cond, ℤ, List, ◌∷◌, length, Result, Ok, Err, refl, sym, ap, subst, ◌∙◌, arith}
use Rattle.std.proofs.lemmas.Bool.{eq-eqb}
use Rattle.line_text.specs.FormatMeaning as meaning
use Rattle.line_text.specs.FormatLaws.{Describes}
use Rattle.line_text.proofs.Answers.{ok_is}
use Rattle.line_text.proofs.FormatReadings as readings
use Rattle.line_text.proofs.FormatLaws as laws
use Rattle.mm_grammar.specs.Width.{width32}
use Rattle.mm_grammar.specs.Matrix.{Matrix}
use Rattle.mm_grammar.specs.Faults.{Fault as MatrixFault, TooFew}
use Rattle.mm_grammar.specs.FileLines.{Line}
use Rattle.mm_grammar.specs.Symmetry.{General}
use Rattle.mm_grammar.specs.Parts.{Header, wanted}
use Rattle.mm_grammar.specs.MatrixText.{IsBannerLine, IsAccepted, matrix_of}
use Rattle.mm_grammar.specs.Place as at
use Rattle.mm_grammar.specs.MatrixFault as matrix
use Rattle.mm_grammar.specs.Reading as matrix_reading
use Rattle.mm_grammar.proofs.Steps as matrix_steps
use Rattle.mm_grammar.proofs.Laws as matrix_laws
use Rattle.piece_grammar.specs.Head.{Head, Piece, array_of, array_columns, array_words}
use Rattle.piece_grammar.specs.Turn.{Turn, HasTurn}
use Rattle.piece_grammar.specs.PieceText.{IsPiece, IsPieceAt}
use Rattle.piece_grammar.specs.Place.{Place, AtBanner, AtDesc, Behind}
use Rattle.piece_grammar.specs.FaultTable.{piece_faults}
use Rattle.piece_grammar.specs.PieceReading.{ended_array, at_end, piece_format}
use Rattle.piece_grammar.specs.PieceFault.{HasArray, Stands, LeadsTo, IsReading, IsDecided, IsFirst}
use Rattle.piece_grammar.proofs.Steps.{leads_on, banner_step, desc_step_on, carried}
use Rattle.piece_grammar.proofs.Table.{line_fails, end_fails}

-- ---- lines that stand in the parts are taken

parts : (turn : Turn) (head : Head) (banner : Line) (rest : List Line) (place : at.Place) → IsBannerLine General banner → matrix.LeadsTo width32 (banner ∷ rest) place → HasArray turn head place
    → meaning.LeadsFrom (piece_format turn) 3 (Behind head (at.AtSize General)) rest (Behind head place)
parts turn head banner rest place is stand a =
    let l = matrix_laws.leads width32 (banner ∷ rest) place stand in
    let first : l.0 ≡ at.AtSize General = ok_is l.0 (at.AtSize General) (sym l.1 ∙ matrix_steps.banner_step width32 General banner is) in
    subst (λ (p : at.Place). meaning.LeadsFrom (piece_format turn) 3 (Behind head p) rest (Behind head place)) first (carried turn head rest 2 3 l.0 place l.2 a).1

leads : (turn : Turn) (before : List Line) (place : Place) → LeadsTo turn before place → meaning.Leads (piece_format turn) before place
leads turn before AtBanner stand = subst (λ (ls : List Line). meaning.Leads (piece_format turn) ls AtBanner) (sym stand) refl
leads turn before AtDesc b = subst (λ (ls : List Line). meaning.Leads (piece_format turn) ls AtDesc) (sym b.whole) (AtDesc, banner_step turn b.banner b.is_banner, refl)
leads turn before (Behind head place) s =
    subst (λ (ls : List Line). meaning.Leads (piece_format turn) ls (Behind head place)) (sym s.whole)
    (AtDesc, banner_step turn s.banner s.is_banner, (Behind head (at.AtSize General), desc_step_on turn head s.desc s.is_desc s.row s.column s.agrees, parts turn head s.banner s.rest place s.is_banner s.leads s.array))

-- ---- the end

-- the array of a file that is at its end
whole_array : (head : Head) (r : Result Matrix MatrixFault) (p : Piece) → ended_array head r ≡ Ok p → (m : Matrix) × (r ≡ Ok m) × (p ≡ record { head = head; words = m.values })
whole_array head (Ok m) p e = (m, refl, sym (ok_is (record { head = head; words = m.values }) p e))
whole_array head (Err fault) p e = absurd cc

stored_matrix : (header : Header) (stored : List ℤ) (t : Bool) (m : Matrix) → cond t (Ok (matrix_of header stored)) (Err (TooFew (length stored) (wanted header))) ≡ Ok m → m ≡ matrix_of header stored
stored_matrix header stored true m e = sym (ok_is (matrix_of header stored) m e)
stored_matrix header stored false m e = absurd cc

-- it has the size of the head's, and there is room for it
sized : (turn : Turn) (head : Head) (place : at.Place) (m : Matrix) → HasArray turn head place → matrix_reading.at_end place ≡ Ok m → (m.rows ≡ head.lld) × (m.columns ≡ array_columns head) × (turn.before + array_words head ≤ 2 ^ 26)
unfolding matrix_reading.at_end
sized turn head at.AtBanner m a e = absurd cc
sized turn head (at.AtSize kind) m a e = absurd cc
sized turn head (at.AtValues header stored) m a e =
    let same : m ≡ matrix_of header stored = stored_matrix header stored _ m e in
    (ap (λ (x : Matrix). x.rows) same ∙ a.0, ap (λ (x : Matrix). x.columns) same ∙ a.1, a.2)

same_array : (head : Head) (m : Matrix) → m.rows ≡ head.lld → m.columns ≡ array_columns head → m ≡ array_of (record { head = head; words = m.values })
same_array head m rows columns = rw (← rows, ← columns) refl

piece_end : (turn : Turn) (before : List Line) (head : Head) (place : at.Place) (p : Piece) → Stands turn before head place → ended_array head (matrix_reading.at_end place) ≡ Ok p → IsPieceAt turn before p
piece_end turn before head place p s e =
    let w = whole_array head (matrix_reading.at_end place) p e in
    let k = sized turn head place w.0 s.array w.1 in
    subst (λ (x : Piece). IsPieceAt turn before x) (sym w.2)
    (record {
      piece = record {
        banner = s.banner;
        desc = s.desc;
        rest = s.rest;
        whole = s.whole;
        is_banner = s.is_banner;
        is_desc = s.is_desc;
        array = subst (λ (m : Matrix). IsAccepted width32 (s.banner ∷ s.rest) m) (same_array head w.0 k.0 k.1) (matrix_laws.ends_as width32 (s.banner ∷ s.rest) place w.0 s.leads w.1);
      };
      turn_is = record { row = s.row; column = s.column; agrees = s.agrees; few = k.2 };
    })

ends_as : (turn : Turn) (before : List Line) (place : Place) (p : Piece) → LeadsTo turn before place → at_end place ≡ Ok p → IsPieceAt turn before p
unfolding at_end
ends_as turn before AtBanner p stand e = absurd cc
ends_as turn before AtDesc p stand e = absurd cc
ends_as turn before (Behind head place) p stand e = piece_end turn before head place p stand e

-- where all values are there
stored_end : (head : Head) (header : Header) (stored : List ℤ) → length stored ≡ wanted header → at_end (Behind head (at.AtValues header stored)) ≡ Ok (record { head = head; words = (matrix_of header stored).values })
unfolding at_end matrix_reading.at_end
stored_end head header stored e = rw (eq-eqb _ _ e) refl

abbrev piece_of : Head → List ℤ → Piece
piece_of head words = record { head = head; words = words }

ended : (turn : Turn) (all : List Line) (p : Piece) → IsPieceAt turn all p → meaning.IsAccepted (piece_format turn) (LeadsTo turn) all p
ended turn all p a =
    let i : IsPiece all p = a.piece in
    let t : HasTurn turn p.head = a.turn_is in
    let m : IsAccepted width32 (i.banner ∷ i.rest) (array_of p) = i.array in
    let some : length m.stored ≤ wanted m.header = let c : length m.stored ≡ wanted m.header = m.parts.count in omega arith in
    let rows : m.header.rows ≡ p.head.lld = sym (ap (λ (x : Matrix). x.rows) m.matrix) in
    let columns : m.header.columns ≡ array_columns p.head = sym (ap (λ (x : Matrix). x.columns) m.matrix) in
    let values : (matrix_of m.header m.stored).values ≡ p.words = sym (ap (λ (x : Matrix). x.values) m.matrix) in
    record {
      state = Behind p.head (at.AtValues m.header m.stored);
      stand = record {
        banner = i.banner;
        desc = i.desc;
        rest = i.rest;
        whole = i.whole;
        is_banner = i.is_banner;
        is_desc = i.is_desc;
        row = t.row;
        column = t.column;
        agrees = t.agrees;
        leads = record { body = m.parts.body; opens = m.parts.opens; holds = m.parts.holds; count = some };
        array = (rows, columns, t.few);
      };
      ends = stored_end p.head m.header m.stored m.parts.count ∙ ap (λ (ws : List ℤ). Ok (piece_of p.head ws)) values;
    }

-- ---- so all laws hold

pub describes : (turn : Turn) → Describes (piece_format turn) (piece_faults turn) (LeadsTo turn) (IsPieceAt turn)
describes turn = record {
  at_start = refl;
  goes_on = λ before place next line stand e. leads_on turn before place line next stand e;
  leads = leads turn;
  ends = λ all p a. ends_as turn all a.state p a.stand a.ends;
  ended = ended turn;
  of_line = λ n place line. line_fails turn place line;
  of_end = end_fails;
}

pub reading : (turn : Turn) → IsReading turn
reading turn = readings.reading (piece_format turn) (piece_faults turn) (LeadsTo turn) (IsPieceAt turn) (describes turn)

pub decided : (turn : Turn) → IsDecided turn
decided turn = laws.decided (piece_format turn) (piece_faults turn) (LeadsTo turn) (IsPieceAt turn) (describes turn)

pub first : (turn : Turn) → IsFirst turn
first turn = laws.first (piece_format turn) (piece_faults turn) (LeadsTo turn) (IsPieceAt turn) (describes turn)
