-- Whole lines that stand in the parts go on to a matrix file.
use Rattle.std.proofs.Common.{◌≡◌, ℕ, zero, suc, ◌+◌, ◌-◌, ◌*◌, ◌^◌, ◌<◌, ◌≤◌, Bool, true, false, cond, ℤ, pos, List, [], ◌∷◌, ◌++◌, length, codes, Ok, replicate, refl, sym, ap, subst, ◌∙◌, append_assoc, append-nil, arith, nat_eq}
use mathlib.Core.Logic.{inr}
use Rattle.std.specs.List.{AllByRecursion, flat_map}
use Rattle.std.proofs.lemmas.Bool.{le-leb, lt-ltb, eq-eqb}
use Rattle.std.proofs.lemmas.List.{length-append, length-replicate}
use Rattle.line_text.specs.Lines.{before_first_line, whole_lines, ended, text_of_lines, IsLine}
use Rattle.line_text.specs.Words.{words, parts, not_empty}
use Rattle.line_text.specs.Numbers.{digits_number, unsigned_number, signed_number}
use Rattle.line_text.proofs.WholeLineLaws.{join_whole_lines, whole_written}
use Rattle.mm_grammar.specs.Width.{Width, bound, most}
use Rattle.mm_grammar.specs.Matrix.{Matrix}
use Rattle.mm_grammar.specs.FileLines.{Line, file_lines, line_behind, lines_behind}
use Rattle.mm_grammar.specs.Symmetry.{Symmetry, General, Symmetric, SkewSymmetric}
use Rattle.mm_grammar.specs.Parts.{Header, wanted, size_words, value_words}
use Rattle.mm_grammar.specs.MatrixText.{HoldsValues, Opens, IsMatrixText, matrix_of}
use Rattle.mm_grammar.specs.Place.{Place, AtBanner, AtSize, AtValues}
use Rattle.mm_grammar.specs.Reading.{step}
use Rattle.mm_grammar.specs.PlainText.{banner_line}
use Rattle.mm_grammar.specs.MatrixFault.{Holds, LeadsTo}
use Rattle.mm_grammar.specs.GoingOn.{EndsLine, GoesOn}
use Rattle.mm_grammar.proofs.Limits.{some_value}
use Rattle.mm_grammar.proofs.PlainLaws.{banner_text, banner_long, is_banner}
use Rattle.mm_grammar.proofs.Steps.{leads_on, opens_more, values_more, banner_step, size_step}
use Rattle.mm_grammar.proofs.Written.{placed, lines_placed, text_line, written_fits}

-- ---- the lines of a file that goes on

in_front : (b : ℕ) (t : Bool) (ls rest : List (List ℕ)) → 0 < length ls → cond t ((b ∷ []) ∷ (ls ++ rest)) (before_first_line b (ls ++ rest)) ≡ cond t ((b ∷ []) ∷ ls) (before_first_line b ls) ++ rest
in_front b true ls rest some = refl
in_front b false [] rest some = absurd (omega arith)
in_front b false (line ∷ ls) rest some = refl

a_line : (b : ℕ) (t : Bool) (ls : List (List ℕ)) → 0 < length (cond t ((b ∷ []) ∷ ls) (before_first_line b ls))
a_line b true ls = omega arith
a_line b false [] = omega arith
a_line b false (line ∷ ls) = omega arith

whole_more : (front more : List ℕ) → EndsLine front → whole_lines (front ++ more) ≡ whole_lines front ++ whole_lines more
unfolding whole_lines EndsLine
whole_more [] more ends = refl
whole_more (b ∷ []) more ends = rw (eq-eqb b 10 ends) refl
whole_more (b ∷ c ∷ bs) more ends =
    ap (λ (ls : List (List ℕ)). cond (nat_eq b 10) ((b ∷ []) ∷ ls) (before_first_line b ls)) (whole_more (c ∷ bs) more ends)
    ∙ in_front b (nat_eq b 10) (whole_lines (c ∷ bs)) (whole_lines more) (a_line c (nat_eq c 10) (whole_lines bs))

ends : (bs : List ℕ) → EndsLine (ended bs)
unfolding EndsLine
ends [] = refl
ends (b ∷ []) = refl
ends (b ∷ c ∷ bs) = ends (c ∷ bs)

ends_line : (front line : List ℕ) → EndsLine (front ++ ended line)
ends_line front line = subst EndsLine (append_assoc front line (10 ∷ [])) (ends (front ++ line))

behind_more : (n k : ℕ) (xs ys : List (List ℕ)) → k ≡ n + length (flat_map (λ line. line) xs) → lines_behind n (xs ++ ys) ≡ lines_behind n xs ++ lines_behind k ys
unfolding lines_behind
behind_more n k [] ys e = ap (λ (i : ℕ). lines_behind i ys) (let same : n ≡ k = omega arith in same)
behind_more n k (x ∷ xs) ys e =
    let long : length (x ++ flat_map (λ line. line) xs) ≡ length x + length (flat_map (λ line. line) xs) = length-append x (flat_map (λ line. line) xs) in
    ap (λ (ls : List Line). line_behind n x ∷ ls) (behind_more (n + length x) k xs ys (omega arith))

more_lines : (front : List ℕ) (texts : List (List ℕ)) → EndsLine front → AllByRecursion IsLine texts → file_lines (front ++ text_of_lines texts) ≡ file_lines front ++ placed (length front) texts
more_lines front texts ends all =
    let joined : length (flat_map (λ line. line) (whole_lines front)) ≡ length front = ap (λ (bs : List ℕ). length bs) (join_whole_lines front) in
    ap (lines_behind 0) (whole_more front (text_of_lines texts) ends)
    ∙ behind_more 0 (length front) (whole_lines front) (whole_lines (text_of_lines texts)) (omega arith)
    ∙ ap (λ (ls : List (List ℕ)). file_lines front ++ lines_behind (length front) ls) (whole_written texts all)
    ∙ ap (λ (ls : List Line). file_lines front ++ ls) (lines_placed (length front) texts all)

-- ---- values of 0

zero_lines : (k : ℕ) → AllByRecursion IsLine (replicate k (codes "0"))
zero_lines zero = tt
zero_lines (suc k) = (text_line (codes "0") refl, zero_lines k)

zero_read : (width : Width) (kind : Symmetry) → value_words width kind (words (codes "0")) ≡ Ok (pos 0)
unfolding value_words parts not_empty signed_number digits_number
zero_read width General = rw (lt-ltb 0 (bound width) (some_value width)) refl
zero_read width Symmetric = rw (lt-ltb 0 (bound width) (some_value width)) refl
zero_read width SkewSymmetric = rw (lt-ltb 0 (bound width) (some_value width)) refl

zeros_hold : (width : Width) (header : Header) (at k : ℕ) → at + 2 * k ≤ 2 ^ 30 → HoldsValues width header (placed at (replicate k (codes "0"))) (replicate k (pos 0))
zeros_hold width header at zero fits = refl
zeros_hold width header at (suc k) fits =
    inr (pos 0, replicate k (pos 0), refl, record { fits = written_fits (codes "0") (at + 2) refl (omega arith) (omega arith); gives = zero_read width header.symmetry }, zeros_hold width header (at + 2) k (omega arith))

-- ---- from each place

abbrev CanGoOn : Width → List ℕ → Type 0
CanGoOn width front = (rest : List ℕ) × (m : Matrix) × IsMatrixText width (front ++ rest) m

values_go_on : (width : Width) (front : List ℕ) (header : Header) (stored : List ℤ) → EndsLine front → Holds width (file_lines front) header stored → length front + 2 * (wanted header - length stored) ≤ 2 ^ 30 → CanGoOn width front
values_go_on width front header stored ends h few =
    let k : ℕ = wanted header - length stored in
    let some : length stored ≤ wanted header = h.count in
    let a : length (stored ++ replicate k (pos 0)) ≡ length stored + length (replicate k (pos 0)) = length-append stored (replicate k (pos 0)) in
    let b : length (replicate k (pos 0)) ≡ k = length-replicate k (pos 0) in
    let more : List Line = placed (length front) (replicate k (codes "0")) in (
      text_of_lines (replicate k (codes "0")),
      matrix_of header (stored ++ replicate k (pos 0)),
      record {
        header = header;
        stored = stored ++ replicate k (pos 0);
        parts = record {
          body = h.body ++ more;
          opens = subst (λ (ls : List Line). Opens width ls header (h.body ++ more)) (sym (more_lines front (replicate k (codes "0")) ends (zero_lines k))) (opens_more width (file_lines front) more header h.body h.opens);
          holds = values_more width header h.body more stored (replicate k (pos 0)) h.holds (zeros_hold width header (length front) k few);
          count = omega arith;
        };
        matrix = refl;
      },
    )

-- a line more
line_taken : (width : Width) (front line : List ℕ) (place next : Place) → EndsLine front → IsLine line → LeadsTo width (file_lines front) place
    → step width place (record { text = line; upto = length front + length (ended line) }) ≡ Ok next → LeadsTo width (file_lines (front ++ ended line)) next
line_taken width front line place next ends is stand taken =
    subst (λ (ls : List Line). LeadsTo width ls next) (sym (ap (λ (bs : List ℕ). file_lines (front ++ bs)) (sym (append-nil (ended line))) ∙ more_lines front (line ∷ []) ends (is, tt))) (leads_on width (file_lines front) place (record { text = line; upto = length front + length (ended line) }) next stand taken)

with_line : (width : Width) (front line : List ℕ) → CanGoOn width (front ++ ended line) → CanGoOn width front
with_line width front line c = (ended line ++ c.0, c.1, subst (λ (bs : List ℕ). IsMatrixText width bs c.1) (append_assoc front (ended line) c.0) c.2)

abbrev empty : Symmetry → Header
empty kind = record { symmetry = kind; rows = 0; columns = 0 }

empty_wants : (kind : Symmetry) → wanted (empty kind) ≡ 0
empty_wants General = refl
empty_wants Symmetric = refl
empty_wants SkewSymmetric = refl

size_read : (width : Width) (kind : Symmetry) → size_words width kind (words (codes "0 0")) ≡ Ok (empty kind)
unfolding size_words parts not_empty unsigned_number digits_number
size_read width General = rw (le-leb 0 (most width) (omega arith)) refl
size_read width Symmetric = rw (le-leb 0 (most width) (omega arith)) refl
size_read width SkewSymmetric = rw (le-leb 0 (most width) (omega arith)) refl

size_goes_on : (width : Width) (front : List ℕ) (kind : Symmetry) → EndsLine front → LeadsTo width (file_lines front) (AtSize kind) → length front + 4 ≤ 2 ^ 30 → CanGoOn width front
size_goes_on width front kind ends stand few =
    let line : List ℕ = codes "0 0" in
    let taken = size_step width (empty kind) (record { text = line; upto = length front + 4 }) (record { fits = written_fits line (length front + 4) refl (omega arith) few; no_comment = refl; gives = size_read width kind }) in
    let there : LeadsTo width (file_lines (front ++ ended line)) (AtValues (empty kind) []) = line_taken width front line (AtSize kind) (AtValues (empty kind) []) ends (text_line line refl) stand taken in
    let long : length (front ++ ended line) ≡ length front + 4 = length-append front (ended line) in
    let none : wanted (empty kind) ≡ 0 = empty_wants kind in
    with_line width front line (values_go_on width (front ++ ended line) (empty kind) [] (ends_line front line) there (omega arith))

banner_goes_on : (width : Width) (front : List ℕ) → EndsLine front → LeadsTo width (file_lines front) AtBanner → length front + 48 ≤ 2 ^ 30 → CanGoOn width front
banner_goes_on width front ends stand few =
    let n : length banner_line ≡ 43 = banner_long in
    let e : length (ended banner_line) ≡ length banner_line + 1 = length-append banner_line (10 ∷ []) in
    let long : length (front ++ ended banner_line) ≡ length front + length (ended banner_line) = length-append front (ended banner_line) in
    let taken = banner_step width General (record { text = banner_line; upto = length front + length (ended banner_line) }) (is_banner (length front + length (ended banner_line)) (omega arith)) in
    let there : LeadsTo width (file_lines (front ++ ended banner_line)) (AtSize General) = line_taken width front banner_line AtBanner (AtSize General) ends (text_line banner_line banner_text) stand taken in
    with_line width front banner_line (size_goes_on width (front ++ ended banner_line) General (ends_line front banner_line) there (omega arith))

pub goes_on : (width : Width) → GoesOn width
goes_on width front AtBanner ends stand few = banner_goes_on width front ends stand few
goes_on width front (AtSize kind) ends stand few = size_goes_on width front kind ends stand few
goes_on width front (AtValues header stored) ends stand few = values_go_on width front header stored ends stand few
