-- The matrix of an accepted text keeps the limits: its size, the number of its values and their range.
use Rattle.std.proofs.Common.{◌≡◌, ℕ, zero, suc, ◌+◌, ◌*◌, ◌^◌, ◌<◌, Bool, true, false, cond, ℤ, pos, negsuc, neg_ℤ, List, [], ◌∷◌, ◌++◌, map, length, get_or, Option, Some, None, Ok, Err, refl, sym, ap, subst, ◌∙◌, arith, nat_le, nat_lt, nat_eq}
use mathlib.Core.Logic.{inl, inr}
use Rattle.std.specs.List.{AllByRecursion, flat_map}
use Rattle.std.proofs.lemmas.Bool.{eqb-true, leb-true, ltb-true, lt-ltb, and_parts}
use Rattle.std.proofs.lemmas.List.{length-append, length-map}
use Rattle.line_text.specs.Words.{words}
use Rattle.line_text.specs.Numbers.{signed_number}
use Rattle.line_text.proofs.Fronts.{all_append}
use Rattle.mm_grammar.specs.Width.{Width, width32, width64, bound, most, is_in_range, has_negative}
use Rattle.mm_grammar.specs.Matrix.{Matrix, IsMatrix}
use Rattle.mm_grammar.specs.Faults.{Range}
use Rattle.mm_grammar.specs.FileLines.{Line}
use Rattle.mm_grammar.specs.Symmetry.{Symmetry, General, Symmetric, SkewSymmetric}
use Rattle.mm_grammar.specs.Expansion.{below, by_columns, stored_at, symmetric_element, skew_element, expanded}
use Rattle.mm_grammar.specs.Parts.{Header, wanted, is_square, is_size, may_store, ranged, value_words}
use Rattle.mm_grammar.specs.MatrixText.{HoldsValues, IsAccepted, matrix_of}
use Rattle.mm_grammar.proofs.Steps.{ok_is, size_given}

-- each width has the value 0
pub some_value : (width : Width) → 0 < bound width
some_value width32 = omega arith
some_value width64 = omega arith

-- what a value line has passed
kept : (width : Width) (kind : Symmetry) (z v : ℤ) (t : Bool) → may_store width kind z ≡ t → cond t (Ok z) (Err Range) ≡ Ok v → may_store width kind v ≡ true
kept width kind z v true is e = subst (λ (x : ℤ). may_store width kind x ≡ true) (ok_is z v e) is
kept width kind z v false is e = absurd cc

number_passed : (width : Width) (kind : Symmetry) (o : Option ℤ) (v : ℤ) → ranged width kind o ≡ Ok v → may_store width kind v ≡ true
number_passed width kind (Some z) v e = kept width kind z v _ refl e
number_passed width kind None v e = absurd cc

pub value_passed : (width : Width) (kind : Symmetry) (ws : List (List ℕ)) (v : ℤ) → value_words width kind ws ≡ Ok v → may_store width kind v ≡ true
unfolding value_words
value_passed width kind [] v e = absurd cc
value_passed width kind (w ∷ []) v e = number_passed width kind (signed_number w) v e
value_passed width kind (w ∷ x ∷ ws) v e = absurd cc

-- every stored value may be stored
stored_fit : (width : Width) (header : Header) (lines : List Line) (stored : List ℤ) → HoldsValues width header lines stored → AllByRecursion (λ v. may_store width header.symmetry v ≡ true) stored
stored_fit width header [] stored e = subst (λ (vs : List ℤ). AllByRecursion (λ v. may_store width header.symmetry v ≡ true) vs) (sym e) tt
stored_fit width header (line ∷ lines) stored (inl blank) = stored_fit width header lines stored blank.1
stored_fit width header (line ∷ lines) stored (inr value) =
    subst (λ (vs : List ℤ). AllByRecursion (λ v. may_store width header.symmetry v ≡ true) vs) (sym value.2)
    (value_passed width header.symmetry (words line.text) value.0 value.3.gives, stored_fit width header lines value.1 value.4)

-- how many elements there are
below_long : (n : ℕ) → length (below n) ≡ n
below_long zero = refl
below_long (suc n) = let h : length (below n) ≡ n = below_long n in let a : length (below n ++ n ∷ []) ≡ length (below n) + 1 = length-append (below n) (n ∷ []) in omega arith

columns_long : (element : ℕ → ℕ → ℤ) (is js : List ℕ) → length (flat_map (λ j. map (λ i. element i j) is) js) ≡ length js * length is
columns_long element is [] = omega arith
columns_long element is (j ∷ js) =
    let a : length (map (λ i. element i j) is ++ flat_map (λ k. map (λ i. element i k) is) js) ≡ length (map (λ i. element i j) is) + length (flat_map (λ k. map (λ i. element i k) is) js) = length-append (map (λ i. element i j) is) (flat_map (λ k. map (λ i. element i k) is) js) in
    let b : length (map (λ i. element i j) is) ≡ length is = length-map is (λ i. element i j) in
    let c : length (flat_map (λ k. map (λ i. element i k) is) js) ≡ length js * length is = columns_long element is js in
    omega arith

by_columns_long : (rows columns : ℕ) (element : ℕ → ℕ → ℤ) → length (by_columns rows columns element) ≡ rows * columns
by_columns_long rows columns element =
    let a : length (by_columns rows columns element) ≡ length (below columns) * length (below rows) = columns_long element (below rows) (below columns) in
    a ∙ rw (below_long rows, below_long columns) (omega arith)

-- what holds of each element
all_map : (P : ℤ → Type 0) (f : ℕ → ℤ) (is : List ℕ) → ((i : ℕ) → P (f i)) → AllByRecursion P (map f is)
all_map P f [] each = tt
all_map P f (i ∷ is) each = (each i, all_map P f is each)

all_columns : (P : ℤ → Type 0) (element : ℕ → ℕ → ℤ) (is js : List ℕ) → ((i j : ℕ) → P (element i j)) → AllByRecursion P (flat_map (λ j. map (λ i. element i j) is) js)
all_columns P element is [] each = tt
all_columns P element is (j ∷ js) each =
    all_append P (map (λ i. element i j) is) (flat_map (λ k. map (λ i. element i k) is) js) (all_map P (λ i. element i j) is (λ i. each i j)) (all_columns P element is js each)

at_place : (P : ℤ → Type 0) (d : ℤ) (vs : List ℤ) (k : ℕ) → P d → AllByRecursion P vs → P (get_or vs k d)
at_place P d [] k other all = other
at_place P d (v ∷ vs) zero other all = all.0
at_place P d (v ∷ vs) (suc k) other all = at_place P d vs k other all.1

-- a value with a negative, and this negative
has_range : (width : Width) (v : ℤ) → has_negative width v ≡ true → is_in_range width v ≡ true
has_range width (pos n) e = e
has_range width (negsuc n) e = let h : n + 1 < bound width = ltb-true (n + 1) (bound width) e in lt-ltb n (bound width) (omega arith)

negative_range : (width : Width) (v : ℤ) → has_negative width v ≡ true → is_in_range width (neg_ℤ v) ≡ true
negative_range width (pos zero) e = e
negative_range width (pos (suc n)) e = let h : suc n < bound width = ltb-true (suc n) (bound width) e in lt-ltb n (bound width) (omega arith)
negative_range width (negsuc n) e = let h : n + 1 < bound width = ltb-true (n + 1) (bound width) e in lt-ltb (suc n) (bound width) (omega arith)

either_way : (P : ℤ → Type 0) (b : Bool) (x y : ℤ) → P x → P y → P (cond b x y)
either_way P true x y p q = p
either_way P false x y p q = q

element_fits : (width : Width) (n : ℕ) (stored : List ℤ) → 0 < bound width → AllByRecursion (λ v. is_in_range width v ≡ true) stored → (i j : ℕ) → is_in_range width (symmetric_element n stored i j) ≡ true
element_fits width n stored some all i j =
    either_way (λ v. is_in_range width v ≡ true) (nat_le j i) (stored_at 0 n stored i j) (stored_at 0 n stored j i)
    (at_place (λ v. is_in_range width v ≡ true) (pos 0) stored _ (lt-ltb 0 (bound width) some) all) (at_place (λ v. is_in_range width v ≡ true) (pos 0) stored _ (lt-ltb 0 (bound width) some) all)

skew_fits : (width : Width) (n : ℕ) (stored : List ℤ) → 0 < bound width → AllByRecursion (λ v. has_negative width v ≡ true) stored → (i j : ℕ) → is_in_range width (skew_element n stored i j) ≡ true
skew_fits width n stored some all i j =
    let zero_fits : has_negative width (pos 0) ≡ true = lt-ltb 0 (bound width) some in
    let one : has_negative width (stored_at 1 n stored i j) ≡ true = at_place (λ v. has_negative width v ≡ true) (pos 0) stored _ zero_fits all in
    let other : has_negative width (stored_at 1 n stored j i) ≡ true = at_place (λ v. has_negative width v ≡ true) (pos 0) stored _ zero_fits all in
    either_way (λ v. is_in_range width v ≡ true) (nat_lt j i) (stored_at 1 n stored i j) (cond (nat_eq i j) (pos 0) (neg_ℤ (stored_at 1 n stored j i)))
    (has_range width (stored_at 1 n stored i j) one)
    (either_way (λ v. is_in_range width v ≡ true) (nat_eq i j) (pos 0) (neg_ℤ (stored_at 1 n stored j i)) (lt-ltb 0 (bound width) some) (negative_range width (stored_at 1 n stored j i) other))

-- the elements of stored values
expanded_long : (width : Width) (kind : Symmetry) (rows columns : ℕ) (stored : List ℤ) → is_square kind rows columns ≡ true → length stored ≡ wanted (record { symmetry = kind; rows = rows; columns = columns }) → length (expanded kind columns stored) ≡ rows * columns
unfolding expanded
expanded_long width General rows columns stored square count = count
expanded_long width Symmetric rows columns stored square count = by_columns_long columns columns (symmetric_element columns stored) ∙ ap (λ (n : ℕ). n * columns) (sym (eqb-true rows columns square))
expanded_long width SkewSymmetric rows columns stored square count = by_columns_long columns columns (skew_element columns stored) ∙ ap (λ (n : ℕ). n * columns) (sym (eqb-true rows columns square))

expanded_fit : (width : Width) (kind : Symmetry) (columns : ℕ) (stored : List ℤ) → 0 < bound width → AllByRecursion (λ v. may_store width kind v ≡ true) stored → AllByRecursion (λ v. is_in_range width v ≡ true) (expanded kind columns stored)
unfolding expanded
expanded_fit width General columns stored some all = all
expanded_fit width Symmetric columns stored some all =
    all_columns (λ v. is_in_range width v ≡ true) (symmetric_element columns stored) (below columns) (below columns) (element_fits width columns stored some all)
expanded_fit width SkewSymmetric columns stored some all =
    all_columns (λ v. is_in_range width v ≡ true) (skew_element columns stored) (below columns) (below columns) (skew_fits width columns stored some all)

matrix_fits : (width : Width) (header : Header) (stored : List ℤ) → 0 < bound width → is_size width header ≡ true → AllByRecursion (λ v. may_store width header.symmetry v ≡ true) stored → length stored ≡ wanted header → IsMatrix width (matrix_of header stored)
matrix_fits width header stored some size all count =
    let a = and_parts _ (is_square header.symmetry header.rows header.columns) size in
    let b = and_parts _ (nat_le (header.rows * header.columns) (most width)) a.0 in
    let c = and_parts (nat_le header.rows (2 ^ 24)) (nat_le header.columns (2 ^ 24)) b.0 in
    record {
      rows_fit = leb-true _ _ c.0;
      columns_fit = leb-true _ _ c.1;
      area_fits = leb-true _ _ b.1;
      count = expanded_long width header.symmetry header.rows header.columns stored a.1 count;
      each = expanded_fit width header.symmetry header.columns stored some all;
    }

-- A matrix that a text gives is within the limits of files.
pub accepted_fits : (width : Width) (lines : List Line) (m : Matrix) → IsAccepted width lines m → IsMatrix width m
accepted_fits width lines m a =
    subst (λ (n : Matrix). IsMatrix width n) (sym a.matrix)
    (matrix_fits width a.header a.stored (some_value width)
    (size_given width a.header.symmetry (words a.parts.opens.size.text) a.header a.parts.opens.is_size_line.gives).1
    (stored_fit width a.header a.parts.body a.stored a.parts.holds) a.parts.count)
