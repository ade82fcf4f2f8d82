-- What a line that is taken makes of the lines before it, and which lines are taken.
use Rattle.std.proofs.Common.{◌≡◌, ℕ, suc, ◌+◌, ◌^◌, ◌&&◌, Bool, true, false, not, cond, ℤ, List, [], ◌∷◌, ◌++◌, Option, Some, None, Result, Ok, Err, refl, sym, ap, subst, ◌∙◌, nat_eq, nat_lt}
use Rattle.std.specs.Option.{option_map}
use Rattle.std.specs.Result.{result_ok}
use Rattle.std.proofs.lemmas.Bool.{eqb-true, eq-eqb, and_parts, ltb-false, le-ltb, not-false}
use Rattle.line_text.specs.Words.{words}
use Rattle.line_text.specs.FormatMeaning.{LeadsFrom}
use Rattle.mm_grammar.specs.Width.{width32}
use Rattle.mm_grammar.specs.Faults.{Fault as MatrixFault, TooMany, Symmetry as SymmetryFault}
use Rattle.mm_grammar.specs.FileLines.{Line, line_fault}
use Rattle.mm_grammar.specs.Symmetry.{Symmetry, General, Symmetric, SkewSymmetric}
use Rattle.mm_grammar.specs.Parts.{Header, wanted, banner_of, size_words, value_words}
use Rattle.mm_grammar.specs.MatrixText.{IsBannerLine}
use Rattle.mm_grammar.specs.Place as at
use Rattle.mm_grammar.specs.Reading as matrix_reading
use Rattle.mm_grammar.proofs.Steps as matrix_steps
use Rattle.piece_grammar.specs.Head.{Head, array_columns, array_words}
use Rattle.piece_grammar.specs.Desc.{Desc, desc_of, desc_of_head, head_of, is_off_grid, desc_info}
use Rattle.piece_grammar.specs.Faults.{Fault, Mm, Shape, TooLarge}
use Rattle.piece_grammar.specs.Turn.{Turn, Agrees}
use Rattle.piece_grammar.specs.PieceText.{IsDescLine}
use Rattle.piece_grammar.specs.Place.{Place, AtBanner, AtDesc, Behind}
use Rattle.piece_grammar.specs.FaultTable.{when, first_fault, names_another, desc_rows, size_at, array_rows}
use Rattle.piece_grammar.specs.PieceFault.{HasBanner, HasArray, Stands, LeadsTo}
use Rattle.piece_grammar.specs.PieceReading.{passed, desc_step, step, piece_format}
use Rattle.line_text.proofs.Answers.{ok_is, unless_ok}
use Rattle.piece_grammar.proofs.Heads.{agreed, agrees_on, here, is_here, when_none, rows_passed, none_met}
use Rattle.piece_grammar.proofs.GoodHeads.{tested}

-- what a step that was taken says
passed_ok : (more : List (Option Fault)) (place : at.Place → Place) (r : Result at.Place MatrixFault) (p : Place) → passed more place r ≡ Ok p → (q : at.Place) × (r ≡ Ok q) × (first_fault more ≡ None) × (p ≡ place q)
passed_ok more place (Ok q) p e = let u = unless_ok (first_fault more) (Ok (place q)) p e in (q, refl, u.0, sym (ok_is (place q) p u.1))
passed_ok more place (Err fault) p e = absurd cc

-- the banner
general_named : (r : Result Symmetry MatrixFault) (kind : Symmetry) → r ≡ Ok kind → names_another r ≡ false → r ≡ Ok General
general_named (Ok General) kind e n = refl
general_named (Ok Symmetric) kind e n = absurd cc
general_named (Ok SkewSymmetric) kind e n = absurd cc
general_named (Err fault) kind e n = absurd cc

banner_taken : (line : Line) (q : at.Place) → matrix_reading.step width32 at.AtBanner line ≡ Ok q → names_another (banner_of line.text) ≡ false → IsBannerLine General line
unfolding matrix_reading.step
banner_taken line q e n =
    let p = unless_ok (line_fault false line) (matrix_reading.then_at at.AtSize (banner_of line.text)) q e in
    let k = matrix_steps.then_ok at.AtSize (banner_of line.text) q p.1 in
    record { fits = p.0; names = general_named (banner_of line.text) k.0 k.1 n }

from_banner : (turn : Turn) (before : List Line) (line : Line) (p : Place) → before ≡ [] → step turn AtBanner line ≡ Ok p → LeadsTo turn (before ++ line ∷ []) p
unfolding step
from_banner turn before line p none e =
    let q = passed_ok (when (names_another (banner_of line.text)) (Mm SymmetryFault) ∷ []) (λ (x : at.Place). AtDesc) (matrix_reading.step width32 at.AtBanner line) p e in
    let n = when_none (names_another (banner_of line.text)) (Mm SymmetryFault) [] q.2 in
    subst (λ (place : Place). LeadsTo turn (before ++ line ∷ []) place) (sym q.3)
    (record { banner = line; whole = ap (λ (ls : List Line). ls ++ line ∷ []) none; is_banner = banner_taken line q.0 q.1 n.0 })

-- the head's line
mapped_none : (o : Option MatrixFault) → option_map Mm o ≡ None → o ≡ None
mapped_none None e = refl
mapped_none (Some fault) e = absurd cc

desc_taken : (turn : Turn) (before : List Line) (line : Line) (o : Option Desc) (p : Place) → HasBanner before → line_fault false line ≡ None → desc_of line.text ≡ o → desc_step turn o ≡ Ok p → LeadsTo turn (before ++ line ∷ []) p
desc_taken turn before line None p b fits is e = absurd cc
desc_taken turn before line (Some d) p b fits is e =
    let u = unless_ok (first_fault (desc_rows turn (Some d))) (Ok (Behind (head_of d) (at.AtSize General))) p e in
    let r = rows_passed turn d u.0 in
    let same : d ≡ desc_of_head (head_of d) = (tested.passed d r.on_grid r.good).1 in
    let place = here turn d r.place in
    subst (λ (q : Place). LeadsTo turn (before ++ line ∷ []) q) (ok_is (Behind (head_of d) (at.AtSize General)) p u.1)
    (record {
      banner = b.banner;
      desc = line;
      rest = [];
      whole = ap (λ (ls : List Line). ls ++ line ∷ []) b.whole;
      is_banner = b.is_banner;
      is_desc = record {
        fits = fits;
        says = is ∙ ap (λ (x : Desc). Some x) same;
        on_grid = subst (λ (x : Desc). is_off_grid x ≡ false) same r.on_grid;
        good = subst (λ (x : Desc). desc_info x ≡ None) same r.good;
      };
      row = place.0;
      column = place.1;
      agrees = agreed turn.first d r.agrees;
      leads = record { banner = b.banner; between = []; whole = refl; is_banner = b.is_banner; are_between = tt };
      array = tt;
    })

-- the rows of a size are met by none, exactly where it is that of the head
size_kept : (turn : Turn) (head : Head) (size : Header) (stored : List ℤ) → first_fault (array_rows turn head (Some size)) ≡ None → HasArray turn head (at.AtValues size stored)
size_kept turn head size stored none =
    let a = when_none (not (nat_eq size.rows head.lld && nat_eq size.columns (array_columns head))) (Shape size.rows size.columns head.lld (array_columns head)) _ none in
    let b = when_none (nat_lt (2 ^ 26) (turn.before + array_words head)) (TooLarge (turn.before + array_words head)) [] a.1 in
    let c = and_parts (nat_eq size.rows head.lld) (nat_eq size.columns (array_columns head)) (not-false _ a.0) in
    (eqb-true size.rows head.lld c.0, eqb-true size.columns (array_columns head) c.1, ltb-false (2 ^ 26) (turn.before + array_words head) b.0)

size_fits : (turn : Turn) (head : Head) (size : Header) (stored : List ℤ) → HasArray turn head (at.AtValues size stored) → first_fault (array_rows turn head (Some size)) ≡ None
size_fits turn head size stored a =
    let few : nat_lt (2 ^ 26) (turn.before + array_words head) ≡ false = le-ltb _ _ a.2 in
    rw (eq-eqb size.rows head.lld a.0, eq-eqb size.columns (array_columns head) a.1, few) refl

-- A line that the array's file takes keeps its size that of the head, and was so before, exactly where no row of a size is met.
abbrev Keeps : Turn → Head → (place next : at.Place) → Option Header → Type 0
Keeps turn head place next size =
    (HasArray turn head place → first_fault (array_rows turn head size) ≡ None → HasArray turn head next)
    × (HasArray turn head next → HasArray turn head place × (first_fault (array_rows turn head size) ≡ None))

at_size : (turn : Turn) (head : Head) (kind : Symmetry) (ws : List (List ℕ)) (t : Bool) (q : at.Place)
    → cond t (Ok (at.AtSize kind)) (matrix_reading.then_at (λ header. at.AtValues header []) (size_words width32 kind ws)) ≡ Ok q → Keeps turn head (at.AtSize kind) q (cond t None (result_ok (size_words width32 kind ws)))
at_size turn head kind ws true q e = ((λ a none. subst (λ (p : at.Place). HasArray turn head p) (ok_is (at.AtSize kind) q e) tt), (λ a. (tt, refl)))
at_size turn head kind ws false q e =
    let k = matrix_steps.then_ok (λ (header : Header). at.AtValues header []) (size_words width32 kind ws) q e in
    subst (λ (r : Result Header MatrixFault). Keeps turn head (at.AtSize kind) q (result_ok r)) (sym k.1)
    (subst (λ (p : at.Place). Keeps turn head (at.AtSize kind) p (Some k.0)) (sym k.2) ((λ a none. size_kept turn head k.0 [] none), (λ a. (tt, size_fits turn head k.0 [] a))))

at_values : (header : Header) (stored : List ℤ) (ws : List (List ℕ)) (blank full : Bool) (q : at.Place)
    → cond blank (Ok (at.AtValues header stored)) (cond full (Err (TooMany (wanted header))) (matrix_reading.then_at (λ v. at.AtValues header (stored ++ v ∷ [])) (value_words width32 header.symmetry ws))) ≡ Ok q
    → (vs : List ℤ) × (q ≡ at.AtValues header vs)
at_values header stored ws true full q e = (stored, sym (ok_is (at.AtValues header stored) q e))
at_values header stored ws false true q e = absurd cc
at_values header stored ws false false q e = let k = matrix_steps.then_ok (λ (v : ℤ). at.AtValues header (stored ++ v ∷ [])) (value_words width32 header.symmetry ws) q e in (stored ++ k.0 ∷ [], k.2)

array_kept : (turn : Turn) (head : Head) (place : at.Place) (line : Line) (q : at.Place) → matrix_reading.step width32 place line ≡ Ok q → Keeps turn head place q (size_at place line.text)
unfolding matrix_reading.step
array_kept turn head at.AtBanner line q e =
    let p = unless_ok (line_fault false line) (matrix_reading.then_at at.AtSize (banner_of line.text)) q e in
    let k = matrix_steps.then_ok at.AtSize (banner_of line.text) q p.1 in
    subst (λ (x : at.Place). Keeps turn head at.AtBanner x None) (sym k.2) ((λ a none. tt), (λ a. (tt, refl)))
array_kept turn head (at.AtSize kind) line q e = let p = unless_ok _ _ q e in at_size turn head kind (words line.text) _ q p.1
array_kept turn head (at.AtValues header stored) line q e =
    let p = unless_ok _ _ q e in
    let k = at_values header stored (words line.text) _ _ q p.1 in
    subst (λ (x : at.Place). Keeps turn head (at.AtValues header stored) x None) (sym k.1) ((λ a none. a), (λ a. (a, refl)))

from_part : (turn : Turn) (before : List Line) (head : Head) (place : at.Place) (line : Line) (p : Place) → Stands turn before head place → step turn (Behind head place) line ≡ Ok p → LeadsTo turn (before ++ line ∷ []) p
unfolding step
from_part turn before head place line p s e =
    let q = passed_ok (array_rows turn head (size_at place line.text)) (Behind head) (matrix_reading.step width32 place line) p e in
    subst (λ (x : Place). LeadsTo turn (before ++ line ∷ []) x) (sym q.3)
    (record {
      banner = s.banner;
      desc = s.desc;
      rest = s.rest ++ line ∷ [];
      whole = ap (λ (ls : List Line). ls ++ line ∷ []) s.whole;
      is_banner = s.is_banner;
      is_desc = s.is_desc;
      row = s.row;
      column = s.column;
      agrees = s.agrees;
      leads = matrix_steps.leads_on width32 (s.banner ∷ s.rest) place line q.0 s.leads q.1;
      array = (array_kept turn head place line q.0 q.1).0 s.array q.2;
    })

-- The lines up to one that was taken stand in the parts, and lead to the place after it.
pub leads_on : (turn : Turn) (before : List Line) (place : Place) (line : Line) (p : Place) → LeadsTo turn before place → step turn place line ≡ Ok p → LeadsTo turn (before ++ line ∷ []) p
unfolding step
leads_on turn before AtBanner line p stand e = from_banner turn before line p stand e
leads_on turn before AtDesc line p stand e =
    let u = unless_ok (option_map Mm (line_fault false line)) (desc_step turn (desc_of line.text)) p e in
    desc_taken turn before line (desc_of line.text) p stand (mapped_none (line_fault false line) u.0) refl u.1
leads_on turn before (Behind head place) line p stand e = from_part turn before head place line p stand e

-- ---- lines that stand in the parts are taken

pub banner_step : (turn : Turn) (line : Line) → IsBannerLine General line → step turn AtBanner line ≡ Ok AtDesc
unfolding step matrix_reading.step
banner_step turn line is = rw (is.fits, is.names) refl

pub desc_step_on : (turn : Turn) (head : Head) (line : Line) → IsDescLine head line → head.prow ≡ turn.prow → head.pcol ≡ turn.pcol → Agrees turn.first head → step turn AtDesc line ≡ Ok (Behind head (at.AtSize General))
unfolding step
desc_step_on turn head line is row column agrees =
    let none : first_fault (desc_rows turn (Some (desc_of_head head))) ≡ None = none_met turn (desc_of_head head) (record { on_grid = is.on_grid; agrees = agrees_on turn.first head agrees; good = is.good; place = is_here turn head row column }) in
    rw (is.fits, is.says, none) refl

step_on : (turn : Turn) (head : Head) (place q : at.Place) (line : Line) → matrix_reading.step width32 place line ≡ Ok q → first_fault (array_rows turn head (size_at place line.text)) ≡ None → step turn (Behind head place) line ≡ Ok (Behind head q)
unfolding step
step_on turn head place q line e none = rw (e, none) refl

-- Lines that the array's file takes are taken here too, where its size is that of the head after them.
pub carried : (turn : Turn) (head : Head) (lines : List Line) (n k : ℕ) (place last : at.Place) → LeadsFrom (matrix_reading.matrix_format width32) n place lines last → HasArray turn head last
    → HasArray turn head place × LeadsFrom (piece_format turn) k (Behind head place) lines (Behind head last)
carried turn head [] n k place last e a = (subst (λ (p : at.Place). HasArray turn head p) (sym e) a, ap (Behind head) e)
carried turn head (line ∷ lines) n k place last l a =
    let rest = carried turn head lines (suc n) (suc k) l.0 last l.2 a in
    let here = (array_kept turn head place line l.0 l.1).1 rest.0 in
    (here.0, (Behind head l.0, step_on turn head place l.0 line l.1 here.1, rest.1))
