-- What a line that is taken makes of the lines before it, and which lines are taken.
use Rattle.std.proofs.Common.{◌≡◌, ◌≢◌, ℕ, ◌+◌, ◌<◌, ◌≤◌, Bool, true, false, cond, ℤ, List, [], ◌∷◌, ◌++◌, ◌||◌, length, Option, Some, None, Result, Ok, Err, refl, sym, ap, subst, ◌∙◌, append_assoc, append-nil, arith, nat_eq}
use mathlib.Core.Logic.{inl, inr}
use Rattle.std.proofs.lemmas.Bool.{eqb-false, ne_eqb, eq-eqb, or_parts}
use Rattle.std.proofs.lemmas.List.{length-append}
use Rattle.line_text.specs.Words.{words}
use Rattle.line_text.specs.Numbers.{unsigned_number}
use Rattle.mm_grammar.specs.Width.{Width}
use Rattle.mm_grammar.specs.Faults.{Fault, Size, TooMany}
use Rattle.mm_grammar.specs.FileLines.{Line, line_fault}
use Rattle.mm_grammar.specs.Symmetry.{Symmetry}
use Rattle.mm_grammar.specs.Parts.{Header, wanted, no_words, is_blank_line, is_comment, banner_of, is_size, header_of, size_words, value_words}
use Rattle.mm_grammar.specs.MatrixText.{IsBannerLine, IsBetweenLine, IsSizeLine, IsValueLine, IsBlankLine, HoldsValues, Opens, matrix_of}
use Rattle.mm_grammar.specs.Place.{Place, AtBanner, AtSize, AtValues}
use Rattle.line_text.proofs.Fronts.{all_append}
pub use Rattle.line_text.proofs.Answers.{ok_is, unless_ok}
use Rattle.mm_grammar.specs.Reading.{then_at, step, at_end}
use Rattle.mm_grammar.specs.MatrixFault.{Begins, Holds, LeadsTo}

-- what a step that was taken says
pub then_ok : {X : Type 0} (f : X → Place) (r : Result X Fault) (p : Place) → then_at f r ≡ Ok p → (x : X) × (r ≡ Ok x) × (p ≡ f x)
then_ok f (Ok x) p e = (x, refl, sym (ok_is (f x) p e))
then_ok f (Err fault) p e = absurd cc

-- a size line keeps the banner's symmetry and the limits
chosen : (width : Width) (t : Bool) (given header : Header) → is_size width given ≡ t → cond t (Ok given) (Err Size) ≡ Ok header → (header.symmetry ≡ given.symmetry) × (is_size width header ≡ true)
chosen width true given header is e = subst (λ (h : Header). (h.symmetry ≡ given.symmetry) × (is_size width h ≡ true)) (ok_is given header e) (refl, is)
chosen width false given header is e = absurd cc

header_given : (width : Width) (kind : Symmetry) (m n : Option ℕ) (header : Header) → header_of width kind m n ≡ Ok header → (header.symmetry ≡ kind) × (is_size width header ≡ true)
header_given width kind (Some m) (Some n) header e = chosen width _ (record { symmetry = kind; rows = m; columns = n }) header refl e
header_given width kind (Some m) None header e = absurd cc
header_given width kind None n header e = absurd cc

pub size_given : (width : Width) (kind : Symmetry) (ws : List (List ℕ)) (header : Header) → size_words width kind ws ≡ Ok header → (header.symmetry ≡ kind) × (is_size width header ≡ true)
unfolding size_words
size_given width kind [] header e = absurd cc
size_given width kind (m ∷ []) header e = absurd cc
size_given width kind (m ∷ n ∷ []) header e = header_given width kind (unsigned_number m) (unsigned_number n) header e
size_given width kind (m ∷ n ∷ w ∷ ws) header e = absurd cc

pub size_kind : (width : Width) (kind : Symmetry) (ws : List (List ℕ)) (header : Header) → size_words width kind ws ≡ Ok header → header.symmetry ≡ kind
size_kind width kind ws header e = (size_given width kind ws header e).0

-- a line that gives a size, or a value, isn't blank
pub size_not_blank : (width : Width) (kind : Symmetry) (ws : List (List ℕ)) (header : Header) → size_words width kind ws ≡ Ok header → no_words ws ≡ false
unfolding size_words
size_not_blank width kind [] header e = absurd cc
size_not_blank width kind (w ∷ ws) header e = refl

pub value_not_blank : (width : Width) (kind : Symmetry) (ws : List (List ℕ)) (v : ℤ) → value_words width kind ws ≡ Ok v → no_words ws ≡ false
unfolding value_words
value_not_blank width kind [] v e = absurd cc
value_not_blank width kind (w ∷ ws) v e = refl

-- lines of values, one behind another
pub values_more : (width : Width) (header : Header) (lines more : List Line) (vs ws : List ℤ) → HoldsValues width header lines vs → HoldsValues width header more ws → HoldsValues width header (lines ++ more) (vs ++ ws)
values_more width header [] more vs ws first then = subst (λ (us : List ℤ). HoldsValues width header more (us ++ ws)) (sym first) then
values_more width header (line ∷ lines) more vs ws (inl blank) then = inl (blank.0, values_more width header lines more vs ws blank.1 then)
values_more width header (line ∷ lines) more vs ws (inr value) then =
    inr (value.0, value.1 ++ ws, ap (λ (us : List ℤ). us ++ ws) value.2, value.3, values_more width header lines more value.1 ws value.4 then)

-- the banner was taken
from_banner : (width : Width) (before : List Line) (line : Line) (next : Place) → before ≡ [] → step width AtBanner line ≡ Ok next → LeadsTo width (before ++ line ∷ []) next
unfolding step
from_banner width before line next none e =
    let p = unless_ok (line_fault false line) _ next e in
    let q = then_ok AtSize (banner_of line.text) next p.1 in
    subst (λ (place : Place). LeadsTo width (before ++ line ∷ []) place) (sym q.2)
    (record { banner = line; between = []; whole = ap (λ (ls : List Line). ls ++ line ∷ []) none; is_banner = record { fits = p.0; names = q.1 }; are_between = tt })

-- the size line, or a line between, was taken
from_size : (width : Width) (before : List Line) (kind : Symmetry) (line : Line) (next : Place) → Begins before kind → (t : Bool) → (is_comment line.text || is_blank_line line.text) ≡ t
    → line_fault (is_comment line.text) line ≡ None → cond t (Ok (AtSize kind)) (then_at (λ header. AtValues header []) (size_words width kind (words line.text))) ≡ Ok next → LeadsTo width (before ++ line ∷ []) next
from_size width before kind line next b true t fits e =
    subst (λ (place : Place). LeadsTo width (before ++ line ∷ []) place) (ok_is (AtSize kind) next e)
    (record {
      banner = b.banner;
      between = b.between ++ line ∷ [];
      whole = ap (λ (ls : List Line). ls ++ line ∷ []) b.whole;
      is_banner = b.is_banner;
      are_between = all_append IsBetweenLine b.between (line ∷ []) b.are_between (record { fits = fits; says_nothing = t }, tt);
    })
from_size width before kind line next b false t fits e =
    let q = then_ok (λ (header : Header). AtValues header []) (size_words width kind (words line.text)) next e in
    let same : q.0.symmetry ≡ kind = size_kind width kind (words line.text) q.0 q.1 in
    let parts = or_parts (is_comment line.text) (is_blank_line line.text) t in
    subst (λ (place : Place). LeadsTo width (before ++ line ∷ []) place) (sym q.2)
    (record {
      body = [];
      opens = record {
        banner = b.banner;
        between = b.between;
        size = line;
        whole = ap (λ (ls : List Line). ls ++ line ∷ []) b.whole;
        is_banner = subst (λ (s : Symmetry). IsBannerLine s b.banner) (sym same) b.is_banner;
        are_between = b.are_between;
        is_size_line = record {
          fits = subst (λ (free : Bool). line_fault free line ≡ None) parts.0 fits;
          no_comment = parts.0;
          gives = subst (λ (s : Symmetry). size_words width s (words line.text) ≡ Ok q.0) (sym same) q.1;
        };
      };
      holds = refl;
      count = omega arith;
    })

-- lines behind the size line
pub opens_more : (width : Width) (before more : List Line) (header : Header) (body : List Line) → Opens width before header body → Opens width (before ++ more) header (body ++ more)
opens_more width before more header body o = record {
  banner = o.banner;
  between = o.between;
  size = o.size;
  whole = ap (λ (ls : List Line). ls ++ more) o.whole ∙ ap (λ (ls : List Line). o.banner ∷ ls) (append_assoc o.between (o.size ∷ body) more);
  is_banner = o.is_banner;
  are_between = o.are_between;
  is_size_line = o.is_size_line;
}

holds_more : (width : Width) (before : List Line) (header : Header) (stored more : List ℤ) (line : Line) → Holds width before header stored → HoldsValues width header (line ∷ []) more → length (stored ++ more) ≤ wanted header
    → Holds width (before ++ line ∷ []) header (stored ++ more)
holds_more width before header stored more line h then count = record {
  body = h.body ++ line ∷ [];
  opens = opens_more width before (line ∷ []) header h.body h.opens;
  holds = values_more width header h.body (line ∷ []) stored more h.holds then;
  count = count;
}

-- a value was taken
from_value : (width : Width) (before : List Line) (header : Header) (stored : List ℤ) (line : Line) (next : Place) → Holds width before header stored → line_fault false line ≡ None → (t : Bool) → nat_eq (length stored) (wanted header) ≡ t
    → cond t (Err (TooMany (wanted header))) (then_at (λ v. AtValues header (stored ++ v ∷ [])) (value_words width header.symmetry (words line.text))) ≡ Ok next → LeadsTo width (before ++ line ∷ []) next
from_value width before header stored line next h fits true t e = absurd cc
from_value width before header stored line next h fits false t e =
    let q = then_ok (λ (v : ℤ). AtValues header (stored ++ v ∷ [])) (value_words width header.symmetry (words line.text)) next e in
    let other : length stored ≢ wanted header = eqb-false _ _ t in
    let most : length stored ≤ wanted header = h.count in
    let long : length (stored ++ q.0 ∷ []) ≡ length stored + 1 = length-append stored (q.0 ∷ []) in
    subst (λ (place : Place). LeadsTo width (before ++ line ∷ []) place) (sym q.2)
    (holds_more width before header stored (q.0 ∷ []) line h (inr (q.0, [], refl, record { fits = fits; gives = q.1 }, refl)) (omega (arith, other)))

from_values : (width : Width) (before : List Line) (header : Header) (stored : List ℤ) (line : Line) (next : Place) → Holds width before header stored → line_fault false line ≡ None → (t : Bool) → is_blank_line line.text ≡ t
    → cond t (Ok (AtValues header stored)) (cond (nat_eq (length stored) (wanted header)) (Err (TooMany (wanted header))) (then_at (λ v. AtValues header (stored ++ v ∷ [])) (value_words width header.symmetry (words line.text)))) ≡ Ok next
    → LeadsTo width (before ++ line ∷ []) next
from_values width before header stored line next h fits true t e =
    let is : LeadsTo width (before ++ line ∷ []) (AtValues header (stored ++ [])) = holds_more width before header stored [] line h (inl (record { fits = fits; blank = t }, refl)) (rw append-nil h.count) in
    let same : AtValues header (stored ++ []) ≡ next = ap (λ (vs : List ℤ). AtValues header vs) (append-nil stored) ∙ ok_is (AtValues header stored) next e in
    subst (λ (place : Place). LeadsTo width (before ++ line ∷ []) place) same is
from_values width before header stored line next h fits false t e = from_value width before header stored line next h fits _ refl e

-- The lines up to one that was taken stand in the parts, and lead to the place behind it.
pub leads_on : (width : Width) (before : List Line) (place : Place) (line : Line) (next : Place) → LeadsTo width before place → step width place line ≡ Ok next → LeadsTo width (before ++ line ∷ []) next
unfolding step
leads_on width before AtBanner line next stand e = from_banner width before line next stand e
leads_on width before (AtSize kind) line next stand e = let p = unless_ok _ _ next e in from_size width before kind line next stand _ refl p.0 p.1
leads_on width before (AtValues header stored) line next stand e = let p = unless_ok _ _ next e in from_values width before header stored line next stand p.0 _ refl p.1

-- ---- each kind of line is taken at its place

pub banner_step : (width : Width) (kind : Symmetry) (line : Line) → IsBannerLine kind line → step width AtBanner line ≡ Ok (AtSize kind)
unfolding step
banner_step width kind line is = rw (is.fits, is.names) refl

pub between_step : (width : Width) (kind : Symmetry) (line : Line) → IsBetweenLine line → step width (AtSize kind) line ≡ Ok (AtSize kind)
unfolding step
between_step width kind line is = rw (is.fits, is.says_nothing) refl

pub size_step : (width : Width) (header : Header) (line : Line) → IsSizeLine width header line → step width (AtSize header.symmetry) line ≡ Ok (AtValues header [])
unfolding step
size_step width header line is =
    let words_there : is_blank_line line.text ≡ false = size_not_blank width header.symmetry (words line.text) header is.gives in
    rw (is.no_comment, is.fits, words_there, is.gives) refl

pub blank_step : (width : Width) (header : Header) (stored : List ℤ) (line : Line) → IsBlankLine line → step width (AtValues header stored) line ≡ Ok (AtValues header stored)
unfolding step
blank_step width header stored line is = rw (is.fits, is.blank) refl

pub value_step : (width : Width) (header : Header) (stored : List ℤ) (v : ℤ) (line : Line) → IsValueLine width header v line → length stored < wanted header → step width (AtValues header stored) line ≡ Ok (AtValues header (stored ++ v ∷ []))
unfolding step
value_step width header stored v line is less =
    let words_there : is_blank_line line.text ≡ false = value_not_blank width header.symmetry (words line.text) v is.gives in
    let other : nat_eq (length stored) (wanted header) ≡ false = ne_eqb _ _ (λ same. omega (arith, same)) in
    rw (is.fits, words_there, other, is.gives) refl

-- and the end, where all values are there
pub stored_end : (header : Header) (stored : List ℤ) → length stored ≡ wanted header → at_end (AtValues header stored) ≡ Ok (matrix_of header stored)
unfolding at_end
stored_end header stored e = rw (eq-eqb _ _ e) refl
