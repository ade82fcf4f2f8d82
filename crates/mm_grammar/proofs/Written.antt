-- Lines that are written: digits, and their places in a file.
use Rattle.std.proofs.Common.{◌≡◌, ◌≢◌, ℕ, suc, ◌+◌, ◌^◌, ◌<◌, ◌≤◌, true, false, ℤ, pos, negsuc, List, [], ◌∷◌, ◌++◌, map, length, None, refl, ap, subst, ◌∙◌, arith, nat_le, nat_lt}
use lib.Signed.{mag}
use Rattle.std.specs.List.{AllByRecursion, list_all}
use Rattle.std.specs.Fmt.{decimal, signed_decimal}
use Rattle.std.specs.Str.{all_ascii_digits}
use Rattle.std.proofs.lemmas.Fmt.{digits_decimal, decimal_nonempty}
use Rattle.std.proofs.lemmas.Bool.{ne_eqb, leb-true, le-leb, le-ltb, and_parts}
use Rattle.line_text.specs.Lines.{without_end, without_return, ended, text_of_lines, IsLine}
use Rattle.line_text.specs.Words.{is_blank, IsWord}
use Rattle.line_text.proofs.NumberLaws.{own}
use Rattle.line_text.proofs.LineLaws.{without_return_none}
use Rattle.line_text.proofs.WholeLineLaws.{no_end, without_end_run, whole_written}
use Rattle.mm_grammar.specs.FileLines.{Line, file_lines, lines_behind, is_text_byte, line_fault}

-- digits alone
abbrev pub AreDigits : List ℕ → Type 0
AreDigits ds = AllByRecursion (λ b. (48 ≤ b) × (b ≤ 57)) ds

are_digits : (ds : List ℕ) → all_ascii_digits ds ≡ true → AreDigits ds
are_digits [] all = tt
are_digits (d ∷ ds) all =
    let p = and_parts _ (all_ascii_digits ds) all in
    let q = and_parts (nat_le 48 d) (nat_le d 57) p.0 in
    ((leb-true 48 d q.0, leb-true d 57 q.1), are_digits ds p.1)

pub decimal_digits : (n : ℕ) → n < 2 ^ 64 → AreDigits (decimal n)
decimal_digits n fits = are_digits (decimal n) (digits_decimal own n fits)

digit_is_text : (b : ℕ) → 48 ≤ b → b ≤ 57 → is_text_byte b ≡ true
digit_is_text b low high = rw (ne_eqb b 9 (λ e. omega (arith, e)), le-leb 32 b (omega arith), le-leb b 126 (omega arith)) refl

digit_no_blank : (b : ℕ) → 48 ≤ b → b ≤ 57 → is_blank b ≡ false
digit_no_blank b low high = rw (ne_eqb b 32 (λ e. omega (arith, e)), ne_eqb b 9 (λ e. omega (arith, e))) refl

pub digits_text : (ds : List ℕ) → AreDigits ds → list_all is_text_byte ds ≡ true
digits_text [] all = refl
digits_text (d ∷ ds) all = rw (digit_is_text d all.0.0 all.0.1, digits_text ds all.1) refl

no_blanks : (ds : List ℕ) → AreDigits ds → AllByRecursion (λ c. is_blank c ≡ false) ds
no_blanks [] all = tt
no_blanks (d ∷ ds) all = (digit_no_blank d all.0.0 all.0.1, no_blanks ds all.1)

digits_word : (ds : List ℕ) → AreDigits ds → 0 < length ds → IsWord ds
unfolding IsWord
digits_word [] all some = absurd (omega arith)
digits_word (d ∷ ds) all some = no_blanks (d ∷ ds) all

pub decimal_word : (n : ℕ) → n < 2 ^ 64 → IsWord (decimal n)
decimal_word n fits = digits_word (decimal n) (decimal_digits n fits) (decimal_nonempty n fits)

-- a number with its sign
pub signed_text : (z : ℤ) → mag z < 2 ^ 63 → list_all is_text_byte (signed_decimal z) ≡ true
signed_text (pos n) fits = digits_text (decimal n) (decimal_digits n (omega arith))
signed_text (negsuc n) fits = digits_text (decimal (suc n)) (decimal_digits (suc n) (omega arith))

pub signed_word : (z : ℤ) → mag z < 2 ^ 63 → IsWord (signed_decimal z)
unfolding IsWord
signed_word (pos n) fits = decimal_word n (omega arith)
signed_word (negsuc n) fits = (refl, no_blanks (decimal (suc n)) (decimal_digits (suc n) (omega arith)))

-- text alone is no line end
no_line_end : (b : ℕ) → is_text_byte b ≡ true → (b ≢ 10) × (b ≢ 13)
no_line_end b is = ((λ e. let h : is_text_byte 10 ≡ true = subst (λ (c : ℕ). is_text_byte c ≡ true) e is in absurd cc), (λ e. let h : is_text_byte 13 ≡ true = subst (λ (c : ℕ). is_text_byte c ≡ true) e is in absurd cc))

pub text_line : (line : List ℕ) → list_all is_text_byte line ≡ true → IsLine line
text_line [] is = tt
text_line (b ∷ bs) is = let p = and_parts (is_text_byte b) (list_all is_text_byte bs) is in (no_line_end b p.0, text_line bs p.1)

pub text_append : (a b : List ℕ) → list_all is_text_byte a ≡ true → list_all is_text_byte b ≡ true → list_all is_text_byte (a ++ b) ≡ true
text_append [] b x y = y
text_append (c ∷ a) b x y = let p = and_parts (is_text_byte c) (list_all is_text_byte a) x in rw (p.0, text_append a b p.1 y) refl

-- written lines, each with its place in the file
abbrev pub placed : ℕ → List (List ℕ) → List Line
placed at [] = []
placed at (line ∷ lines) = record { text = line; upto = at + length (ended line) } ∷ placed (at + length (ended line)) lines

pub lines_placed : (at : ℕ) (lines : List (List ℕ)) → AllByRecursion IsLine lines → lines_behind at (map ended lines) ≡ placed at lines
unfolding lines_behind
lines_placed at [] all = refl
lines_placed at (line ∷ lines) all =
    let bare : without_return (without_end (ended line)) ≡ line = ap without_return (without_end_run line (no_end line all.0)) ∙ without_return_none line all.0 in
    rw (bare, lines_placed (at + length (ended line)) lines all.1) refl

-- The lines of a file that is written line by line.
pub file_placed : (lines : List (List ℕ)) → AllByRecursion IsLine lines → file_lines (text_of_lines lines) ≡ placed 0 lines
file_placed lines all = ap (lines_behind 0) (whole_written lines all) ∙ lines_placed 0 lines all

-- a written line has no fault of its own
pub written_fits : (text : List ℕ) (upto : ℕ) → list_all is_text_byte text ≡ true → length text ≤ 1024 → upto ≤ 2 ^ 30 → line_fault false (record { text = text; upto = upto }) ≡ None
unfolding line_fault
written_fits text upto is short front =
    let a : nat_lt (2 ^ 30) upto ≡ false = le-ltb _ _ front in
    let b : nat_lt 1024 (length text) ≡ false = le-ltb _ _ short in
    rw (a, b, is) refl
