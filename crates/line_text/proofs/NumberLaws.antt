-- The decimal text of a number is read as this number.
use Rattle.std.proofs.Common.{◌≡◌, ◌≢◌, ℕ, suc, ◌^◌, ◌<◌, true, ℤ, pos, negsuc, List, [], ◌∷◌, length, get_or, Some, refl, ap, ◌∙◌, arith, rules}
use Rattle.std.specs.Prelude.{neg_ℤ}
use lib.Signed.{mag}
use Rattle.std.specs.Fmt.{decimal, signed_decimal}
use Rattle.std.specs.Str.{all_ascii_digits}
use Rattle.std.specs.Str.Parse.{digits_value}
use Rattle.std.specs.Option.{option_map}
use Rattle.std.proofs.lemmas.Fmt.{digits_decimal, digits_value-decimal, decimal_nonempty}
use Rattle.std.proofs.lemmas.Str.Parse.{IsNumeralModel, numerals_by_value, not_in_digits}
use Rattle.std.proofs.lemmas.Bool.{ne_eqb}
use Rattle.line_text.specs.Numbers.{digits_number, unsigned_number, signed_number}

-- the model of numerals that the definitions here use
pub own : IsNumeralModel (λ ds. all_ascii_digits ds ≡ true) (digits_value 10)
own = numerals_by_value _ (search rules)

numeral_is : (ds : List ℕ) → 0 < length ds → all_ascii_digits ds ≡ true → digits_number ds ≡ Some (digits_value 10 ds)
unfolding digits_number
numeral_is [] some all = absurd (omega arith)
numeral_is (b ∷ bs) some all = rw all refl

-- digits alone
pub digits_number_decimal : (n : ℕ) → n < 2 ^ 64 → digits_number (decimal n) ≡ Some n
digits_number_decimal n fits =
    numeral_is (decimal n) (decimal_nonempty n fits) (digits_decimal own n fits) ∙ ap (λ (m : ℕ). Some m) (digits_value-decimal own n fits)

no_plus : (ds : List ℕ) → get_or ds 0 0 ≢ 43 → unsigned_number ds ≡ digits_number ds
unfolding unsigned_number digits_number
no_plus [] ne = refl
no_plus (b ∷ bs) ne = rw (ne_eqb b 43 ne) refl

first_digit_is_no : (n c : ℕ) → n < 2 ^ 64 → c < 48 → get_or (decimal n) 0 0 ≢ c
first_digit_is_no n c fits low = not_in_digits own (decimal n) c (digits_decimal own n fits) (λ r. omega (arith, r.0)) 0 (decimal_nonempty n fits)

-- digits behind a plus or none
pub unsigned_number_decimal : (n : ℕ) → n < 2 ^ 64 → unsigned_number (decimal n) ≡ Some n
unsigned_number_decimal n fits = no_plus (decimal n) (first_digit_is_no n 43 fits (omega arith)) ∙ digits_number_decimal n fits

no_sign : (ds : List ℕ) → get_or ds 0 0 ≢ 43 → get_or ds 0 0 ≢ 45 → signed_number ds ≡ option_map (λ n. pos n) (digits_number ds)
unfolding signed_number digits_number
no_sign [] plus minus = refl
no_sign (b ∷ bs) plus minus = rw (ne_eqb b 45 minus, ne_eqb b 43 plus) refl

behind_minus : (ds : List ℕ) → signed_number (45 ∷ ds) ≡ option_map (λ n. neg_ℤ (pos n)) (digits_number ds)
unfolding signed_number
behind_minus ds = refl

-- digits behind a sign or none
pub signed_number_decimal : (z : ℤ) → mag z < 2 ^ 63 → signed_number (signed_decimal z) ≡ Some z
signed_number_decimal (pos n) fits =
    no_sign (decimal n) (first_digit_is_no n 43 (omega arith) (omega arith)) (first_digit_is_no n 45 (omega arith) (omega arith)) ∙ ap (option_map (λ m. pos m)) (digits_number_decimal n (omega arith))
signed_number_decimal (negsuc n) fits = behind_minus (decimal (suc n)) ∙ ap (option_map (λ m. neg_ℤ (pos m))) (digits_number_decimal (suc n) (omega arith))
