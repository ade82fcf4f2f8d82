-- The parts of a matrix file describe its format: all laws of formats hold of it.
use Rattle.std.proofs.Common.{◌≡◌, ℕ, suc, ◌+◌, ◌≤◌, Bool, true, false, cond, ℤ, List, [], ◌∷◌, ◌++◌, length, Ok, Err, refl, sym, ap, subst, ◌∙◌, append_assoc, append-nil, arith, nat_eq}
use mathlib.Core.Logic.{inl, inr}
use Rattle.std.specs.List.{AllByRecursion}
use Rattle.std.proofs.lemmas.Bool.{eqb-true}
use Rattle.std.proofs.lemmas.List.{length-append}
use Rattle.line_text.specs.FormatMeaning as meaning
use Rattle.line_text.specs.FormatLaws.{Describes}
use Rattle.line_text.proofs.FormatSteps.{leads_append}
use Rattle.line_text.proofs.FormatReadings as readings
use Rattle.line_text.proofs.FormatLaws as laws
use Rattle.mm_grammar.specs.Width.{Width}
use Rattle.mm_grammar.specs.Matrix.{Matrix}
use Rattle.mm_grammar.specs.Faults.{TooFew}
use Rattle.mm_grammar.specs.FileLines.{Line}
use Rattle.mm_grammar.specs.Symmetry.{Symmetry}
use Rattle.mm_grammar.specs.Parts.{Header, wanted}
use Rattle.mm_grammar.specs.MatrixText.{IsBetweenLine, HoldsValues, Opens, IsAccepted, matrix_of}
use Rattle.mm_grammar.specs.Place.{Place, AtBanner, AtSize, AtValues}
use Rattle.mm_grammar.specs.FaultTable.{matrix_faults}
use Rattle.mm_grammar.specs.MatrixFault.{Holds, LeadsTo, IsReading, IsDecided, IsFirst}
use Rattle.mm_grammar.specs.Reading.{at_end, matrix_format, read_on}
use Rattle.mm_grammar.proofs.Steps.{ok_is, leads_on, banner_step, between_step, size_step, blank_step, value_step, stored_end}
use Rattle.mm_grammar.proofs.Table.{line_fails, end_fails}

-- ---- lines that stand in the parts are taken

between : (width : Width) (kind : Symmetry) (lines : List Line) (n : ℕ) → AllByRecursion IsBetweenLine lines → meaning.LeadsFrom (matrix_format width) n (AtSize kind) lines (AtSize kind)
between width kind [] n all = refl
between width kind (line ∷ more) n all = (AtSize kind, between_step width kind line all.0, between width kind more (suc n) all.1)

values : (width : Width) (header : Header) (body : List Line) (old vs : List ℤ) (n : ℕ) → HoldsValues width header body vs → length old + length vs ≤ wanted header
    → meaning.LeadsFrom (matrix_format width) n (AtValues header old) body (AtValues header (old ++ vs))
values width header [] old vs n holds most = ap (λ (us : List ℤ). AtValues header us) (sym (ap (λ (us : List ℤ). old ++ us) holds ∙ append-nil old))
values width header (line ∷ body) old vs n (inl blank) most = (AtValues header old, blank_step width header old line blank.0, values width header body old vs (suc n) blank.1 most)
values width header (line ∷ body) old vs n (inr value) most =
    let long : length vs ≡ suc (length value.1) = ap (λ (us : List ℤ). length us) value.2 in
    let longer : length (old ++ value.0 ∷ []) ≡ length old + 1 = length-append old (value.0 ∷ []) in
    let same : (old ++ value.0 ∷ []) ++ value.1 ≡ old ++ vs = append_assoc old (value.0 ∷ []) value.1 ∙ ap (λ (us : List ℤ). old ++ us) (sym value.2) in (
      AtValues header (old ++ value.0 ∷ []),
      value_step width header old value.0 line value.3 (omega arith),
      subst (λ (us : List ℤ). meaning.LeadsFrom (matrix_format width) (suc n) (AtValues header (old ++ value.0 ∷ [])) body (AtValues header us)) same
          (values width header body (old ++ value.0 ∷ []) value.1 (suc n) value.4 (omega arith)),
    )

opened : (width : Width) (all : List Line) (header : Header) (stored : List ℤ) (body : List Line) → Opens width all header body → HoldsValues width header body stored → length stored ≤ wanted header
    → meaning.Leads (matrix_format width) all (AtValues header stored)
opened width all header stored body o holds most =
    subst (λ (ls : List Line). meaning.Leads (matrix_format width) ls (AtValues header stored)) (sym o.whole) (
      AtSize header.symmetry,
      banner_step width header.symmetry o.banner o.is_banner,
      leads_append (matrix_format width) 2 (2 + length o.between) (AtSize header.symmetry) (AtSize header.symmetry) (AtValues header stored) o.between (o.size ∷ body)
          (between width header.symmetry o.between 2 o.are_between) refl
          (AtValues header [], size_step width header o.size o.is_size_line, values width header body [] stored (suc (2 + length o.between)) holds (omega arith)),
    )

pub leads : (width : Width) (before : List Line) (place : Place) → LeadsTo width before place → meaning.Leads (matrix_format width) before place
leads width before AtBanner stand = subst (λ (ls : List Line). meaning.Leads (matrix_format width) ls AtBanner) (sym stand) refl
leads width before (AtSize kind) b =
    subst (λ (ls : List Line). meaning.Leads (matrix_format width) ls (AtSize kind)) (sym b.whole) (AtSize kind, banner_step width kind b.banner b.is_banner, between width kind b.between 2 b.are_between)
leads width before (AtValues header stored) h = opened width before header stored h.body h.opens h.holds h.count

-- ---- the end

all_stored : (width : Width) (all : List Line) (header : Header) (stored : List ℤ) (m : Matrix) → Holds width all header stored → (t : Bool) → nat_eq (length stored) (wanted header) ≡ t
    → cond t (Ok (matrix_of header stored)) (Err (TooFew (length stored) (wanted header))) ≡ Ok m → IsAccepted width all m
all_stored width all header stored m h true t e = record {
  header = header;
  stored = stored;
  parts = record { body = h.body; opens = h.opens; holds = h.holds; count = eqb-true _ _ t };
  matrix = sym (ok_is (matrix_of header stored) m e);
}
all_stored width all header stored m h false t e = absurd cc

pub ends_as : (width : Width) (all : List Line) (place : Place) (m : Matrix) → LeadsTo width all place → at_end place ≡ Ok m → IsAccepted width all m
unfolding at_end
ends_as width all AtBanner m stand e = absurd cc
ends_as width all (AtSize kind) m stand e = absurd cc
ends_as width all (AtValues header stored) m stand e = all_stored width all header stored m stand _ refl e

ended : (width : Width) (all : List Line) (m : Matrix) → IsAccepted width all m → meaning.IsAccepted (matrix_format width) (LeadsTo width) all m
ended width all m a =
    let some : length a.stored ≤ wanted a.header = let c : length a.stored ≡ wanted a.header = a.parts.count in omega arith in
    record {
      state = AtValues a.header a.stored;
      stand = record { body = a.parts.body; opens = a.parts.opens; holds = a.parts.holds; count = some };
      ends = stored_end a.header a.stored a.parts.count ∙ ap (λ (n : Matrix). Ok n) (sym a.matrix);
    }

-- ---- so all laws hold

pub describes : (width : Width) → Describes (matrix_format width) (matrix_faults width) (LeadsTo width) (IsAccepted width)
describes width = record {
  at_start = refl;
  goes_on = λ before place next line stand e. leads_on width before place line next stand e;
  leads = leads width;
  ends = λ all m a. ends_as width all a.state m a.stand a.ends;
  ended = ended width;
  of_line = λ n place line. line_fails width place line;
  of_end = end_fails;
}

pub read_accepted : (width : Width) (all : List Line) (m : Matrix) → IsAccepted width all m → read_on width 1 AtBanner all ≡ Ok m
read_accepted width = readings.read_accepted (matrix_format width) (matrix_faults width) (LeadsTo width) (IsAccepted width) (describes width)

pub reading : (width : Width) → IsReading width
reading width = readings.reading (matrix_format width) (matrix_faults width) (LeadsTo width) (IsAccepted width) (describes width)

pub decided : (width : Width) → IsDecided width
decided width = laws.decided (matrix_format width) (matrix_faults width) (LeadsTo width) (IsAccepted width) (describes width)

pub first : (width : Width) → IsFirst width
first width = laws.first (matrix_format width) (matrix_faults width) (LeadsTo width) (IsAccepted width) (describes width)
