-- What a line makes of its place in a piece, by what it makes of it in the array's file.
use Rattle.std.proofs.Common.{◌≡◌, ℕ, ◌^◌, ◌≤◌, Bool, true, false, cond, List, [], length, Option, Some, None, Result, Ok, Err, refl, sym, ap, ◌∙◌}
use Rattle.std.specs.Result.{result_ok}
use Rattle.std.specs.List.{list_all}
use Rattle.std.proofs.lemmas.Bool.{le-ltb}
use Rattle.line_text.specs.Words.{words}
use Rattle.mm_grammar.specs.Width.{width32}
use Rattle.mm_grammar.specs.Faults.{Fault as MatrixFault, NotText, Symmetry as SymmetryFault}
use Rattle.mm_grammar.specs.FileLines.{Line, line_fault, is_text_byte}
use Rattle.mm_grammar.specs.Symmetry.{Symmetry, General}
use Rattle.mm_grammar.specs.Parts.{Header, banner_of, size_words}
use Rattle.mm_grammar.specs.Place as at
use Rattle.mm_grammar.specs.Reading as matrix
use Rattle.mm_grammar.proofs.Steps as matrix_steps
use Rattle.mm_reader.specs.ReaderView.{line_of}
use Rattle.piece_grammar.specs.Head.{Head}
use Rattle.piece_grammar.specs.Desc.{Desc, desc_of, head_of}
use Rattle.piece_grammar.specs.Faults.{Fault, Mm, DescLine}
use Rattle.piece_grammar.specs.Turn.{Turn}
use Rattle.piece_grammar.specs.Place.{AtBanner, AtDesc, Behind}
use Rattle.piece_grammar.specs.FaultTable.{first_fault, is_another, desc_rows, size_at, array_rows}
use Rattle.piece_grammar.specs.PieceReading.{step}
use Rattle.piece_file.specs.HeadView.{head_view}
use Rattle.piece_file.specs.FaultView.{fault_view}
use Rattle.piece_file.specs.Asking.{Finds}
use Rattle.piece_file.specs.Halting.{Makes, behind_head}
use Rattle.piece_file.specs.declared.head.Head.{Head as InCode}
use Rattle.piece_file.specs.declared.fault.PieceFault.{PieceFault}

-- ---- the banner

named : (line : Line) (kind : Symmetry) → matrix.step width32 at.AtBanner line ≡ Ok (at.AtSize kind) → banner_of line.text ≡ Ok kind
unfolding matrix.step
named line kind e =
    let p = matrix_steps.unless_ok (line_fault false line) (matrix.then_at at.AtSize (banner_of line.text)) (at.AtSize kind) e in
    let k = matrix_steps.then_ok at.AtSize (banner_of line.text) (at.AtSize kind) p.1 in
    k.1 ∙ ap (λ (s : Symmetry). Ok s) (kind_is k.0 kind (sym k.2))
  where
    kind_is : (j k : Symmetry) → at.AtSize j ≡ at.AtSize k → j ≡ k
    kind_is j k e = cc

pub banner_general : (turn : Turn) (line : Line) → matrix.step width32 at.AtBanner line ≡ Ok (at.AtSize General) → step turn AtBanner line ≡ Ok AtDesc
unfolding step
banner_general turn line e = rw (e, named line General e) refl

pub banner_another : (turn : Turn) (line : Line) (kind : Symmetry) → is_another kind ≡ true → matrix.step width32 at.AtBanner line ≡ Ok (at.AtSize kind) → step turn AtBanner line ≡ Err (Mm SymmetryFault)
unfolding step
banner_another turn line kind is e = rw (e, named line kind e, is) refl

pub banner_bad : (turn : Turn) (line : Line) (fault : MatrixFault) → matrix.step width32 at.AtBanner line ≡ Err fault → step turn AtBanner line ≡ Err (Mm fault)
unfolding step
banner_bad turn line fault e = rw e refl

-- ---- the head's line

bad_text : (text : List ℕ) (upto : ℕ) → length text ≤ 1024 → upto ≤ 2 ^ 30 → list_all is_text_byte text ≡ false → line_fault false (line_of text upto) ≡ Some NotText
unfolding line_fault
bad_text text upto short near is = rw (le-ltb (2 ^ 30) upto near, le-ltb 1024 (length text) short, is) refl

good_text : (text : List ℕ) (upto : ℕ) → length text ≤ 1024 → upto ≤ 2 ^ 30 → list_all is_text_byte text ≡ true → line_fault false (line_of text upto) ≡ None
unfolding line_fault
good_text text upto short near is = rw (le-ltb (2 ^ 30) upto near, le-ltb 1024 (length text) short, is) refl

pub desc_no_text : (turn : Turn) (text : List ℕ) (upto : ℕ) → length text ≤ 1024 → list_all is_text_byte text ≡ false → upto ≤ 2 ^ 30 → step turn AtDesc (line_of text upto) ≡ Err (Mm NotText)
unfolding step
desc_no_text turn text upto short is near = rw (bad_text text upto short near is) refl

pub desc_no_form : (turn : Turn) (text : List ℕ) (upto : ℕ) → length text ≤ 1024 → list_all is_text_byte text ≡ true → None ≡ desc_of text → upto ≤ 2 ^ 30 → step turn AtDesc (line_of text upto) ≡ Err DescLine
unfolding step
desc_no_form turn text upto short is none near = let e : desc_of text ≡ None = sym none in rw (good_text text upto short near is, e) refl

desc_bad : (turn : Turn) (text : List ℕ) (upto : ℕ) (d : Desc) (fault : Fault) → length text ≤ 1024 → list_all is_text_byte text ≡ true → Some d ≡ desc_of text → first_fault (desc_rows turn (Some d)) ≡ Some fault → upto ≤ 2 ^ 30
    → step turn AtDesc (line_of text upto) ≡ Err fault
unfolding step
desc_bad turn text upto d fault short is some met near = let e : desc_of text ≡ Some d = sym some in rw (good_text text upto short near is, e, met) refl

desc_good : (turn : Turn) (text : List ℕ) (upto : ℕ) (d : Desc) (h : Head) → length text ≤ 1024 → list_all is_text_byte text ≡ true → Some d ≡ desc_of text → first_fault (desc_rows turn (Some d)) ≡ None → h ≡ head_of d → upto ≤ 2 ^ 30
    → step turn AtDesc (line_of text upto) ≡ Ok (Behind h (at.AtSize General))
unfolding step
desc_good turn text upto d h short is some none same near = let e : desc_of text ≡ Some d = sym some in let s : head_of d ≡ h = sym same in rw (good_text text upto short near is, e, none, s) refl

-- the line has the form of such lines, and the check of its numbers decides
pub head_makes : (turn : Turn) (text : List ℕ) (d : Desc) (found : Result InCode PieceFault) → length text ≤ 1024 → list_all is_text_byte text ≡ true → Some d ≡ desc_of text → Finds found turn d → Makes behind_head found turn AtDesc text
head_makes turn text d (Ok head) short is some finds = λ upto near. desc_good turn text upto d (head_view head) short is some finds.1 finds.0 near
head_makes turn text d (Err fault) short is some finds = λ upto near. desc_bad turn text upto d (fault_view fault) short is some finds near

-- ---- the size line

abbrev reached : at.Place → Result at.Place MatrixFault
reached place = Ok place

no_size_is : (kind : Symmetry) (header : Header) → reached (at.AtSize kind) ≡ reached (at.AtValues header []) → ⊥
no_size_is kind header e = cc

same_header : (a b : Header) → reached (at.AtValues a []) ≡ reached (at.AtValues b []) → a ≡ b
same_header a b e = cc

-- a line that gives no size, and one that gives this one
between_gives : (kind : Symmetry) (ws : List (List ℕ)) (t : Bool) → cond t (Ok (at.AtSize kind)) (matrix.then_at (λ header. at.AtValues header []) (size_words width32 kind ws)) ≡ reached (at.AtSize kind) → cond t None (result_ok (size_words width32 kind ws)) ≡ None
between_gives kind ws true e = refl
between_gives kind ws false e = let k = matrix_steps.then_ok (λ (header : Header). at.AtValues header []) (size_words width32 kind ws) (at.AtSize kind) e in absurd (no_size_is kind k.0 (ap reached k.2))

size_gives : (kind : Symmetry) (header : Header) (ws : List (List ℕ)) (t : Bool) → cond t (Ok (at.AtSize kind)) (matrix.then_at (λ h. at.AtValues h []) (size_words width32 kind ws)) ≡ reached (at.AtValues header [])
    → cond t None (result_ok (size_words width32 kind ws)) ≡ Some header
size_gives kind header ws true e = absurd (no_size_is kind header e)
size_gives kind header ws false e =
    let k = matrix_steps.then_ok (λ (h : Header). at.AtValues h []) (size_words width32 kind ws) (at.AtValues header []) e in
    let same : k.0 ≡ header = same_header k.0 header (ap reached (sym k.2)) in
    ap (λ (r : Result Header MatrixFault). result_ok r) k.1 ∙ ap (λ (h : Header). Some h) same

between_size : (kind : Symmetry) (line : Line) → matrix.step width32 (at.AtSize kind) line ≡ Ok (at.AtSize kind) → size_at (at.AtSize kind) line.text ≡ None
unfolding matrix.step
between_size kind line e = let p = matrix_steps.unless_ok _ _ (at.AtSize kind) e in between_gives kind (words line.text) _ p.1

line_size : (kind : Symmetry) (header : Header) (line : Line) → matrix.step width32 (at.AtSize kind) line ≡ Ok (at.AtValues header []) → size_at (at.AtSize kind) line.text ≡ Some header
unfolding matrix.step
line_size kind header line e = let p = matrix_steps.unless_ok _ _ (at.AtValues header []) e in size_gives kind header (words line.text) _ p.1

step_at : (turn : Turn) (head : Head) (kind : Symmetry) (line : Line) (next : at.Place) (size : Option Header) → matrix.step width32 (at.AtSize kind) line ≡ Ok next → size_at (at.AtSize kind) line.text ≡ size → first_fault (array_rows turn head size) ≡ None
    → step turn (Behind head (at.AtSize kind)) line ≡ Ok (Behind head next)
unfolding step
step_at turn head kind line next size e is none = rw (e, is, none) refl

pub between_taken : (turn : Turn) (head : Head) (kind : Symmetry) (line : Line) → matrix.step width32 (at.AtSize kind) line ≡ Ok (at.AtSize kind) → step turn (Behind head (at.AtSize kind)) line ≡ Ok (Behind head (at.AtSize kind))
between_taken turn head kind line e = step_at turn head kind line (at.AtSize kind) None e (between_size kind line e) refl

pub size_taken : (turn : Turn) (head : Head) (kind : Symmetry) (header : Header) (line : Line) → matrix.step width32 (at.AtSize kind) line ≡ Ok (at.AtValues header []) → first_fault (array_rows turn head (Some header)) ≡ None
    → step turn (Behind head (at.AtSize kind)) line ≡ Ok (Behind head (at.AtValues header []))
size_taken turn head kind header line e none = step_at turn head kind line (at.AtValues header []) (Some header) e (line_size kind header line e) none

pub size_refused : (turn : Turn) (head : Head) (kind : Symmetry) (header : Header) (line : Line) (fault : Fault) → matrix.step width32 (at.AtSize kind) line ≡ Ok (at.AtValues header []) → first_fault (array_rows turn head (Some header)) ≡ Some fault
    → step turn (Behind head (at.AtSize kind)) line ≡ Err fault
unfolding step
size_refused turn head kind header line fault e met = rw (e, line_size kind header line e, met) refl

pub size_bad : (turn : Turn) (head : Head) (place : at.Place) (line : Line) (fault : MatrixFault) → matrix.step width32 place line ≡ Err fault → step turn (Behind head place) line ≡ Err (Mm fault)
unfolding step
size_bad turn head place line fault e = rw e refl
