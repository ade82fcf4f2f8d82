-- A line is refused by the first row of the table that it meets.
use Rattle.std.proofs.Common.{◌≡◌, ℕ, Bool, true, false, not, cond, ℤ, List, [], ◌∷◌, ◌++◌, ◌&&◌, ◌||◌, length, get_or, Option, Some, None, is_none, Result, Ok, Err, is_err, refl, ap, ◌∙◌, arith, bytes_eq, codes, nat_eq}
use Rattle.std.specs.List.{list_all}
use Rattle.std.specs.Str.{str_eq_ignore_ascii_case}
use Rattle.std.proofs.lemmas.Bool.{ne_eqb}
use Rattle.line_text.specs.Words.{words}
use Rattle.line_text.specs.Numbers.{unsigned_number}
use Rattle.mm_grammar.specs.Width.{Width}
use Rattle.mm_grammar.specs.Faults.{Fault, FileLong, LineLong, NotText, Banner, Field, Symmetry as SymmetryFault, Size, TooMany, Value, Range, TooFew}
use Rattle.mm_grammar.specs.FileLines.{Line, is_text_byte, line_fault}
use Rattle.mm_grammar.specs.Symmetry.{Symmetry, symmetry_named}
use Rattle.mm_grammar.specs.Parts.{Header, wanted, no_words, is_blank_line, is_comment, starts_blank, symmetry_or_fault, banner_words, header_of, size_words, may_store, ranged, value_words}
use Rattle.mm_grammar.specs.Place.{Place, AtBanner, AtSize, AtValues}
use Rattle.line_text.specs.FaultTables.{when, first_fault, unless_fault, fault_of}
use Rattle.mm_grammar.specs.Reading.{then_at, step, at_end}
use Rattle.mm_grammar.specs.Matrix.{Matrix}
use Rattle.mm_grammar.specs.MatrixText.{matrix_of}
use Rattle.mm_grammar.specs.FaultTable.{is_matrix_file, is_integer_array, one_integer, is_out_of_range, rows_at, rows, end_fault}

-- the rows of every line
every_line : (a b c : Bool) (next : Result Place Fault) (more : List (Option Fault)) → fault_of next ≡ first_fault more
    → fault_of (unless_fault (cond a (Some FileLong) (cond b (Some LineLong) (cond c None (Some NotText)))) next) ≡ first_fault (when a FileLong ∷ when b LineLong ∷ when (not c) NotText ∷ more)
every_line true b c next more e = refl
every_line false true c next more e = refl
every_line false false false next more e = refl
every_line false false true next more e = e

-- those of the banner
named : (o : Option Symmetry) → fault_of (then_at AtSize (symmetry_or_fault o)) ≡ first_fault (when (is_none o) SymmetryFault ∷ [])
named (Some kind) = refl
named None = refl

five : (x y u v : Bool) (o : Option Symmetry)
    → fault_of (then_at AtSize (cond (x && y) (cond (u && v) (symmetry_or_fault o) (Err Field)) (Err Banner))) ≡ first_fault (when (not (x && y)) Banner ∷ when (not (u && v)) Field ∷ when (is_none o) SymmetryFault ∷ [])
five true true true true o = named o
five true true true false o = refl
five true true false v o = refl
five true false u v o = refl
five false y u v o = refl

banner_rows : (late : Bool) (ws : List (List ℕ))
    → fault_of (then_at AtSize (cond late (Err Banner) (banner_words ws))) ≡ first_fault (when (not (is_matrix_file late ws)) Banner ∷ when (not (is_integer_array ws)) Field ∷ when (is_none (symmetry_named (get_or ws 4 []))) SymmetryFault ∷ [])
unfolding banner_words is_matrix_file is_integer_array
banner_rows true ws = refl
banner_rows false [] = refl
banner_rows false (a ∷ []) = refl
banner_rows false (a ∷ b ∷ []) = refl
banner_rows false (a ∷ b ∷ c ∷ []) = refl
banner_rows false (a ∷ b ∷ c ∷ d ∷ []) = refl
banner_rows false (a ∷ b ∷ c ∷ d ∷ e ∷ []) =
    five (bytes_eq a (codes "%%MatrixMarket")) (str_eq_ignore_ascii_case b (codes "matrix")) (str_eq_ignore_ascii_case c (codes "array")) (str_eq_ignore_ascii_case d (codes "integer")) (symmetry_named e)
banner_rows false (a ∷ b ∷ c ∷ d ∷ e ∷ f ∷ ws) =
    let more : nat_eq (length (a ∷ b ∷ c ∷ d ∷ e ∷ f ∷ ws)) 5 ≡ false = ne_eqb _ _ (λ same. omega (arith, same)) in
    rw more refl

-- that of the size line
is_the_size_fault : Result Header Fault → Type 0
is_the_size_fault r = fault_of r ≡ first_fault (when (is_err r) Size ∷ [])

sized : (header : Header) (t : Bool) → is_the_size_fault (cond t (Ok header) (Err Size))
unfolding is_the_size_fault
sized header true = refl
sized header false = refl

header_fault : (width : Width) (kind : Symmetry) (m n : Option ℕ) → is_the_size_fault (header_of width kind m n)
unfolding is_the_size_fault
header_fault width kind (Some m) (Some n) = sized (record { symmetry = kind; rows = m; columns = n }) _
header_fault width kind (Some m) None = refl
header_fault width kind None n = refl

size_fault : (width : Width) (kind : Symmetry) (ws : List (List ℕ)) → is_the_size_fault (size_words width kind ws)
unfolding size_words is_the_size_fault
size_fault width kind [] = refl
size_fault width kind (m ∷ []) = refl
size_fault width kind (m ∷ n ∷ []) = header_fault width kind (unsigned_number m) (unsigned_number n)
size_fault width kind (m ∷ n ∷ w ∷ ws) = refl

size_next : (r : Result Header Fault) → is_the_size_fault r → fault_of (then_at (λ header. AtValues header []) r) ≡ first_fault (when (is_err r) Size ∷ [])
unfolding is_the_size_fault
size_next (Ok header) e = refl
size_next (Err fault) e = e

size_rows : (kind : Symmetry) (t : Bool) (r : Result Header Fault) → is_the_size_fault r
    → fault_of (cond t (Ok (AtSize kind)) (then_at (λ header. AtValues header []) r)) ≡ first_fault (when (not t && is_err r) Size ∷ [])
size_rows kind true r e = refl
size_rows kind false r e = size_next r e

-- those of a value line
value_is : (width : Width) (kind : Symmetry) (ws : List (List ℕ)) → value_words width kind ws ≡ ranged width kind (one_integer ws)
unfolding value_words
value_is width kind [] = refl
value_is width kind (w ∷ []) = refl
value_is width kind (w ∷ x ∷ ws) = refl

in_range : (place : ℤ → Place) (v : ℤ) (t : Bool) → fault_of (then_at place (cond t (Ok v) (Err Range))) ≡ first_fault (when (not t) Range ∷ [])
in_range place v true = refl
in_range place v false = refl

value_next : (width : Width) (kind : Symmetry) (place : ℤ → Place) (o : Option ℤ) → fault_of (then_at place (ranged width kind o)) ≡ first_fault (when (is_none o) Value ∷ when (is_out_of_range width kind o) Range ∷ [])
value_next width kind place (Some v) = in_range place v (may_store width kind v)
value_next width kind place None = refl

value_rows : (width : Width) (header : Header) (stored : List ℤ) (ws : List (List ℕ)) (full : Bool)
    → fault_of (cond (no_words ws) (Ok (AtValues header stored)) (cond full (Err (TooMany (wanted header))) (then_at (λ v. AtValues header (stored ++ v ∷ [])) (value_words width header.symmetry ws))))
    ≡ first_fault (when (not (no_words ws) && full) (TooMany (wanted header)) ∷ when (not (no_words ws) && is_none (one_integer ws)) Value ∷ when (is_out_of_range width header.symmetry (one_integer ws)) Range ∷ [])
value_rows width header stored [] full = refl
value_rows width header stored (w ∷ ws) true = refl
value_rows width header stored (w ∷ ws) false =
    ap (λ (r : Result ℤ Fault). fault_of (then_at (λ (v : ℤ). AtValues header (stored ++ v ∷ [])) r)) (value_is width header.symmetry (w ∷ ws))
    ∙ value_next width header.symmetry (λ (v : ℤ). AtValues header (stored ++ v ∷ [])) (one_integer (w ∷ ws))

pub line_fails : (width : Width) (place : Place) (line : Line) → fault_of (step width place line) ≡ first_fault (rows width place line)
unfolding step line_fault
line_fails width AtBanner line = every_line _ _ (list_all is_text_byte line.text) _ (rows_at width AtBanner line.text) (banner_rows (starts_blank line.text) (words line.text))
line_fails width (AtSize kind) line =
    every_line _ _ (is_comment line.text || list_all is_text_byte line.text) _ (rows_at width (AtSize kind) line.text)
    (size_rows kind (is_comment line.text || is_blank_line line.text) (size_words width kind (words line.text)) (size_fault width kind (words line.text)))
line_fails width (AtValues header stored) line =
    every_line _ _ (list_all is_text_byte line.text) _ (rows_at width (AtValues header stored) line.text) (value_rows width header stored (words line.text) (nat_eq (length stored) (wanted header)))

-- the file's end
too_few : (t : Bool) (m : Matrix) (fault : Fault) → fault_of (cond t (Ok m) (Err fault)) ≡ cond t None (Some fault)
too_few true m fault = refl
too_few false m fault = refl

pub end_fails : (place : Place) → fault_of (at_end place) ≡ end_fault place
unfolding at_end
end_fails AtBanner = refl
end_fails (AtSize kind) = refl
end_fails (AtValues header stored) = too_few _ (matrix_of header stored) (TooFew (length stored) (wanted header))
