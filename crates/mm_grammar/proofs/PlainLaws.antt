-- The plain text of a matrix is a text of this matrix.
use Rattle.std.proofs.Common.{◌≡◌, ℕ, suc, ◌+◌, ◌-◌, ◌*◌, ◌^◌, ◌<◌, ◌≤◌, true, false, ℤ, pos, negsuc, List, [], ◌∷◌, ◌++◌, map, length, Ok, refl, sym, ap, subst, ◌∙◌, arith}
use mathlib.Core.Logic.{inr}
use lib.Signed.{mag}
use Rattle.std.specs.List.{AllByRecursion, list_all}
use Rattle.std.specs.Fmt.{decimal, signed_decimal}
use Rattle.std.proofs.lemmas.Fmt.{decimal_nonempty, length-decimal-le, length_signed_le}
use Rattle.std.proofs.lemmas.Bool.{ne_eqb, le-leb, ltb-true}
use Rattle.std.proofs.lemmas.List.{length-append}
use Rattle.line_text.specs.Lines.{ended, text_of_lines, IsLine}
use Rattle.line_text.specs.Words.{words, parts, not_empty}
use Rattle.line_text.proofs.WordLaws.{words_one, words_more}
use Rattle.line_text.proofs.NumberLaws.{unsigned_number_decimal, signed_number_decimal}
use Rattle.mm_grammar.specs.Width.{Width, width32, width64, bound, most, is_in_range}
use Rattle.mm_grammar.specs.Matrix.{Matrix, IsMatrix}
use Rattle.mm_grammar.specs.FileLines.{Line, is_text_byte}
use Rattle.mm_grammar.specs.Symmetry.{General, symmetry_named}
use Rattle.mm_grammar.specs.Expansion.{expanded}
use Rattle.mm_grammar.specs.Parts.{Header, is_comment, banner_of, banner_words, size_words, value_words}
use Rattle.mm_grammar.specs.MatrixText.{HoldsValues, IsBannerLine, IsAccepted, IsMatrixText}
use Rattle.mm_grammar.specs.PlainText.{banner_line, size_line, cell_lines, plain_text}
use Rattle.mm_grammar.proofs.Written.{AreDigits, decimal_digits, digits_text, decimal_word, signed_text, signed_word, text_line, text_append, placed, file_placed, written_fits}

-- the header of a matrix whose values are all stored
abbrev general : Matrix → Header
general m = record { symmetry = General; rows = m.rows; columns = m.columns }

-- a value in range is no larger than the width
mag_in_range : (width : Width) (z : ℤ) → is_in_range width z ≡ true → mag z < bound width
mag_in_range width (pos n) is = ltb-true _ _ is
mag_in_range width (negsuc n) is = ltb-true _ _ is

within : (width : Width) → bound width ≤ 2 ^ 63
within width32 = omega arith
within width64 = omega arith

mag_fits : (width : Width) (z : ℤ) → is_in_range width z ≡ true → mag z < 2 ^ 63
mag_fits width z is = let less : mag z < bound width = mag_in_range width z is in let most : bound width ≤ 2 ^ 63 = within width in omega arith

size_short : (m n : ℕ) → m ≤ 2 ^ 24 → n ≤ 2 ^ 24 → length (size_line m n) ≤ 17
size_short m n a b =
    let p : length (decimal m) ≤ 8 = length-decimal-le 8 m (omega arith) (omega arith) (omega arith) in
    let q : length (decimal n) ≤ 8 = length-decimal-le 8 n (omega arith) (omega arith) (omega arith) in
    let r : length (size_line m n) ≡ length (decimal m) + suc (length (decimal n)) = length-append (decimal m) (32 ∷ decimal n) in
    omega arith

size_text : (m n : ℕ) → m ≤ 2 ^ 24 → n ≤ 2 ^ 24 → list_all is_text_byte (size_line m n) ≡ true
size_text m n a b = text_append (decimal m) (32 ∷ decimal n) (digits_text (decimal m) (decimal_digits m (omega arith))) (digits_text (decimal n) (decimal_digits n (omega arith)))

no_percent : (ds more : List ℕ) → AreDigits ds → 0 < length ds → is_comment (ds ++ more) ≡ false
no_percent [] more all some = absurd (omega arith)
no_percent (d ∷ ds) more all some = let low : 48 ≤ d = all.0.0 in ne_eqb d 37 (λ e. omega (arith, e))

size_of : (width : Width) (m n : ℕ) → m ≤ 2 ^ 24 → n ≤ 2 ^ 24 → m * n ≤ most width → size_words width General (words (size_line m n)) ≡ Ok (record { symmetry = General; rows = m; columns = n })
unfolding size_words
size_of width m n a b area =
    let split : words (size_line m n) ≡ decimal m ∷ decimal n ∷ [] = words_more (decimal m) (decimal n) (decimal_word m (omega arith)) ∙ ap (λ (ws : List (List ℕ)). decimal m ∷ ws) (words_one (decimal n) (decimal_word n (omega arith))) in
    rw (split, unsigned_number_decimal m (omega arith), unsigned_number_decimal n (omega arith), le-leb _ _ a, le-leb _ _ b, le-leb _ _ area) refl

value_of : (width : Width) (z : ℤ) → mag z < 2 ^ 63 → is_in_range width z ≡ true → value_words width General (words (signed_decimal z)) ≡ Ok z
unfolding value_words
value_of width z fits is = rw (words_one (signed_decimal z) (signed_word z fits), signed_number_decimal z fits, is) refl

text_length : (line : List ℕ) (lines : List (List ℕ)) → length (text_of_lines (line ∷ lines)) ≡ length line + 1 + length (text_of_lines lines)
text_length line lines = length-append (ended line) (text_of_lines lines) ∙ ap (λ (n : ℕ). n + length (text_of_lines lines)) (length-append line (10 ∷ []))

values_hold : (width : Width) (m : Matrix) (at : ℕ) (vs : List ℤ) → AllByRecursion (λ v. is_in_range width v ≡ true) vs → at + length (text_of_lines (map signed_decimal vs)) ≤ 2 ^ 30
    → HoldsValues width (general m) (placed at (map signed_decimal vs)) vs
values_hold width m at [] all upto = refl
values_hold width m at (v ∷ vs) all upto =
    let fits : mag v < 2 ^ 63 = mag_fits width v all.0 in
    let short : length (signed_decimal v) ≤ 20 = length_signed_le 19 v (omega arith) fits in
    let end : length (ended (signed_decimal v)) ≡ length (signed_decimal v) + 1 = length-append (signed_decimal v) (10 ∷ []) in
    let long : length (text_of_lines (map signed_decimal (v ∷ vs))) ≡ length (signed_decimal v) + 1 + length (text_of_lines (map signed_decimal vs)) = text_length (signed_decimal v) (map signed_decimal vs) in
    inr (
      v,
      vs,
      refl,
      record { fits = written_fits (signed_decimal v) (at + length (ended (signed_decimal v))) (signed_text v fits) (omega arith) (omega arith); gives = value_of width v fits all.0 },
      values_hold width m (at + length (ended (signed_decimal v))) vs all.1 (omega arith),
    )

values_lines : (width : Width) (vs : List ℤ) → AllByRecursion (λ v. is_in_range width v ≡ true) vs → AllByRecursion IsLine (map signed_decimal vs)
values_lines width [] all = tt
values_lines width (v ∷ vs) all = (text_line (signed_decimal v) (signed_text v (mag_fits width v all.0)), values_lines width vs all.1)

pub cells_are_lines : (width : Width) (m : Matrix) → IsMatrix width m → AllByRecursion IsLine (cell_lines m)
cells_are_lines width m is = (text_line (size_line m.rows m.columns) (size_text m.rows m.columns is.rows_fit is.columns_fit), values_lines width m.values is.each)

pub banner_text : list_all is_text_byte banner_line ≡ true
unfolding banner_line
banner_text = refl

pub banner_long : length banner_line ≡ 43
unfolding banner_line
banner_long = refl

banner_says : banner_of banner_line ≡ Ok General
unfolding banner_line banner_words symmetry_named parts not_empty
banner_says = refl

pub is_banner : (upto : ℕ) → upto ≤ 2 ^ 30 → IsBannerLine General (record { text = banner_line; upto = upto })
is_banner upto few = let n : length banner_line ≡ 43 = banner_long in record { fits = written_fits banner_line upto banner_text (omega arith) few; names = banner_says }

abbrev pub banner_at : Line
banner_at = record { text = banner_line; upto = 0 + length (ended banner_line) }

-- The banner, and behind it the size and the values wherever they stand in a file, are a text of the matrix.
pub cells_accepted : (width : Width) (m : Matrix) (at : ℕ) → IsMatrix width m → at + length (text_of_lines (cell_lines m)) ≤ 2 ^ 30 → IsAccepted width (banner_at ∷ placed at (cell_lines m)) m
unfolding expanded
cells_accepted width m at is upto =
    let size : List ℕ = size_line m.rows m.columns in
    let text : list_all is_text_byte size ≡ true = size_text m.rows m.columns is.rows_fit is.columns_fit in
    let short : length size ≤ 17 = size_short m.rows m.columns is.rows_fit is.columns_fit in
    let end : length (ended size) ≡ length size + 1 = length-append size (10 ∷ []) in
    let long : length (text_of_lines (cell_lines m)) ≡ length size + 1 + length (text_of_lines (map signed_decimal m.values)) = text_length size (map signed_decimal m.values) in
    let rows : m.rows ≤ 2 ^ 24 = is.rows_fit in
    record {
      header = general m;
      stored = m.values;
      parts = record {
        body = placed (at + length (ended size)) (map signed_decimal m.values);
        opens = record {
          banner = banner_at;
          between = [];
          size = record { text = size; upto = at + length (ended size) };
          whole = refl;
          is_banner = is_banner (0 + length (ended banner_line)) (let b : length (ended banner_line) ≡ length banner_line + 1 = length-append banner_line (10 ∷ []) in let n : length banner_line ≡ 43 = banner_long in omega arith);
          are_between = tt;
          is_size_line = record {
            fits = written_fits size (at + length (ended size)) text (omega arith) (omega arith);
            no_comment = no_percent (decimal m.rows) (32 ∷ decimal m.columns) (decimal_digits m.rows (omega arith)) (decimal_nonempty m.rows (omega arith));
            gives = size_of width m.rows m.columns is.rows_fit is.columns_fit is.area_fits;
          };
        };
        holds = values_hold width m (at + length (ended size)) m.values is.each (omega arith);
        count = is.count;
      };
      matrix = refl;
    }

-- how long the values' lines are, each of at most k + 1 bytes and its end
values_short : (width : Width) (k : ℕ) (vs : List ℤ) → bound width < 10 ^ k → AllByRecursion (λ v. is_in_range width v ≡ true) vs → length (text_of_lines (map signed_decimal vs)) ≤ length vs * (k + 2)
values_short width k [] small all = omega arith
values_short width k (v ∷ vs) small all =
    let less : mag v < bound width = mag_in_range width v all.0 in
    let one : length (signed_decimal v) ≤ k + 1 = length_signed_le k v (omega arith) (mag_fits width v all.0) in
    let long : length (text_of_lines (map signed_decimal (v ∷ vs))) ≡ length (signed_decimal v) + 1 + length (text_of_lines (map signed_decimal vs)) = text_length (signed_decimal v) (map signed_decimal vs) in
    let more : length (text_of_lines (map signed_decimal vs)) ≤ length vs * (k + 2) = values_short width k vs small all.1 in
    omega arith

cells_within : (width : Width) (k : ℕ) (m : Matrix) → bound width < 10 ^ k → IsMatrix width m → length (text_of_lines (cell_lines m)) ≤ 18 + m.rows * m.columns * (k + 2)
cells_within width k m small is =
    let a : length (text_of_lines (cell_lines m)) ≡ length (size_line m.rows m.columns) + 1 + length (text_of_lines (map signed_decimal m.values)) = text_length (size_line m.rows m.columns) (map signed_decimal m.values) in
    let short : length (size_line m.rows m.columns) ≤ 17 = size_short m.rows m.columns is.rows_fit is.columns_fit in
    let more : length (text_of_lines (map signed_decimal m.values)) ≤ m.rows * m.columns * (k + 2) = subst (λ (n : ℕ). length (text_of_lines (map signed_decimal m.values)) ≤ n * (k + 2)) is.count (values_short width k m.values small is.each) in
    omega arith

-- they leave room in a file
pub cells_short : (width : Width) (m : Matrix) → IsMatrix width m → length (text_of_lines (cell_lines m)) ≤ 2 ^ 30 - 200
cells_short width32 m is =
    let area : m.rows * m.columns ≤ 2 ^ 26 = is.area_fits in
    let short : length (text_of_lines (cell_lines m)) ≤ 18 + m.rows * m.columns * 12 = cells_within width32 10 m (omega arith) is in
    omega arith
cells_short width64 m is =
    let area : m.rows * m.columns ≤ 2 ^ 25 = is.area_fits in
    let short : length (text_of_lines (cell_lines m)) ≤ 18 + m.rows * m.columns * 21 = cells_within width64 19 m (omega arith) is in
    omega arith

-- The plain text of a matrix is a text of this matrix.
pub plain_accepted : (width : Width) (m : Matrix) → IsMatrix width m → IsMatrixText width (plain_text m) m
unfolding plain_text
plain_accepted width m is =
    let short : length (text_of_lines (cell_lines m)) ≤ 2 ^ 30 - 200 = cells_short width m is in
    let b : length (ended banner_line) ≡ length banner_line + 1 = length-append banner_line (10 ∷ []) in
    let n : length banner_line ≡ 43 = banner_long in
    subst (λ (ls : List Line). IsAccepted width ls m) (sym (file_placed (banner_line ∷ cell_lines m) (text_line banner_line banner_text, cells_are_lines width m is)))
    (cells_accepted width m (0 + length (ended banner_line)) is (omega arith))
