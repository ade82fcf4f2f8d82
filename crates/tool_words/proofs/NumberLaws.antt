-- Numbers among the words, read as the code reads them.
use Rattle.std.proofs.Common.{◌≡◌, ℕ, subst, ◌^◌, ◌<◌, ◌≤◌, Bool, true, false, ◌&&◌, cond, nat_le, List, [], ◌∷◌, length, Option, Some, None, Result, Ok, Err, refl, sym, ap, ◌∙◌, arith, rules}
use Rattle.std.specs.Str.{all_ascii_digits}
use Rattle.std.specs.Str.Parse.{digits_value, ParsesUnsigned}
use Rattle.std.proofs.lemmas.Str.Parse.{IsNumeralModel, numerals_by_value, parse_digits}
use Rattle.std.proofs.lemmas.Bool.{le-leb, lt-leb, leb-true, cases_lt}
use Rattle.std.proofs.lemmas.Bool.Decides.{nat_tests}
use mathlib.Core.Logic.{◌⊎◌, inl, inr}
use Rattle.line_text.specs.Numbers.{digits_number}
use Rattle.tool_words.specs.CommandWords.{number_within}

-- digits, as std's `parse` reads them
own : IsNumeralModel (λ ds. all_ascii_digits ds ≡ true) (digits_value 10)
own = numerals_by_value _ (search rules)

-- more than 20 bytes are no number
pub number_long : (low high : ℕ) (ds : List ℕ) → 20 < length ds → number_within low high ds ≡ None
unfolding number_within
number_long low high ds long = rw (lt-leb (length ds) 20 long) refl

-- what `digits_number` gives
digits_none : (ds : List ℕ) → all_ascii_digits ds ≡ false → digits_number ds ≡ None
unfolding digits_number
digits_none [] unlike = refl
digits_none (d ∷ ds) unlike = rw unlike refl

digits_some : (ds : List ℕ) → 0 < length ds → all_ascii_digits ds ≡ true → digits_number ds ≡ Some (digits_value 10 ds)
unfolding digits_number
digits_some [] some all = absurd (omega arith)
digits_some (d ∷ ds) some all = rw all refl

digits_empty : (ds : List ℕ) → length ds ≤ 0 → digits_number ds ≡ None
unfolding digits_number
digits_empty [] none = refl
digits_empty (d ∷ ds) none = absurd (omega arith)

-- at most 20 bytes
number_from_none : (low high : ℕ) (ds : List ℕ) → length ds ≤ 20 → digits_number ds ≡ None → number_within low high ds ≡ None
unfolding number_within
number_from_none low high ds short e = rw (le-leb (length ds) 20 short, e) refl

number_from_some : (low high n : ℕ) (ds : List ℕ) → length ds ≤ 20 → digits_number ds ≡ Some n → number_within low high ds ≡ cond (nat_le low n && nat_le n high) (Some n) None
unfolding number_within
number_from_some low high n ds short e = rw (le-leb (length ds) 20 short, e) refl

pub number_unlike : (low high : ℕ) (ds : List ℕ) → length ds ≤ 20 → all_ascii_digits ds ≡ false → number_within low high ds ≡ None
number_unlike low high ds short unlike = number_from_none low high ds short (digits_none ds unlike)

pub number_parsed : {E : Type 0} (low high n : ℕ) (ds : List ℕ) (r : Result ℕ E) → r ≡ Ok n → length ds ≤ 20 → all_ascii_digits ds ≡ true → ParsesUnsigned 64 10 ds r → number_within low high ds ≡ cond (nat_le low n && nat_le n high) (Some n) None
number_parsed {E} low high n ds r is short all h =
    let k = parse_digits own {E = E} 64 ds (Ok n) (subst (λ (t : Result ℕ E). ParsesUnsigned 64 10 ds t) is h) all in
    number_from_some low high n ds short (digits_some ds k.0.0 all ∙ ap (λ (m : ℕ). Some m) (sym k.1))

over : (low high n : ℕ) → high < n → cond {A = Option ℕ} (nat_le low n && nat_le n high) (Some n) None ≡ None
over low high n past = grind (arith, nat_tests)

not_within : (low high : ℕ) (ds : List ℕ) → length ds ≤ 20 → all_ascii_digits ds ≡ true → 0 < length ds → high < digits_value 10 ds → number_within low high ds ≡ None
not_within low high ds short all some past = number_from_some low high _ ds short (digits_some ds some all) ∙ over low high _ past

refused_past : (n high : ℕ) → high < 2 ^ 64 → ¬ (n < 2 ^ 64) → (n < 2 ^ 64) ⊎ (2 ^ 64 ≤ n) → high < n
refused_past n high fits refused (inl l) = absurd (refused l)
refused_past n high fits refused (inr l) = omega arith

unparsed : (low high : ℕ) (ds : List ℕ) → length ds ≤ 20 → all_ascii_digits ds ≡ true → high < 2 ^ 64 → ¬ ((0 < length ds) × (digits_value 10 ds < 2 ^ 64)) → (length ds ≤ 0) ⊎ (0 < length ds) → number_within low high ds ≡ None
unparsed low high ds short all fits refused (inl none) = number_from_none low high ds short (digits_empty ds none)
unparsed low high ds short all fits refused (inr some) = not_within low high ds short all some (refused_past (digits_value 10 ds) high fits (λ l. refused (some, l)) (cases_lt (digits_value 10 ds) (2 ^ 64)))

pub number_unparsed : {E : Type 0} (low high : ℕ) (ds : List ℕ) (r : Result ℕ E) (e : E) → r ≡ Err e → length ds ≤ 20 → all_ascii_digits ds ≡ true → high < 2 ^ 64 → ParsesUnsigned 64 10 ds r → number_within low high ds ≡ None
number_unparsed {E} low high ds r e is short all fits h =
    unparsed low high ds short all (omega arith) (parse_digits own {E = E} 64 ds (Err e) (subst (λ (t : Result ℕ E). ParsesUnsigned 64 10 ds t) is h) all) (elim (cases_lt 0 (length ds)) [ inl l ↦ inr l | inr r ↦ inl r ])

-- a number that is read lies within the bounds
tested : (low high m n : ℕ) (b c : Bool) → nat_le low m ≡ b → nat_le m high ≡ c → cond (nat_le low m && nat_le m high) (Some m) None ≡ Some n → (low ≤ n) × (n ≤ high)
tested low high m n true true e f h =
    let is : Some m ≡ Some n = rw (e, f) at h in
    let same : m ≡ n = cc in
    (subst (λ (t : ℕ). low ≤ t) same (leb-true low m e), subst (λ (t : ℕ). t ≤ high) same (leb-true m high f))
tested low high m n true false e f h = let is : None ≡ Some n = rw (e, f) at h in absurd cc
tested low high m n false c e f h = let is : None ≡ Some n = rw e at h in absurd cc

bounded : (low high n : ℕ) (o : Option ℕ) (b : Bool) (text : List ℕ) → digits_number text ≡ o → nat_le (length text) 20 ≡ b → number_within low high text ≡ Some n → (low ≤ n) × (n ≤ high)
unfolding number_within
bounded low high n o false text e f h = let is : None ≡ Some n = rw f at h in absurd cc
bounded low high n None true text e f h = let is : None ≡ Some n = rw (f, e) at h in absurd cc
bounded low high n (Some m) true text e f h = tested low high m n (nat_le low m) (nat_le m high) refl refl (rw (f, e) at h)

pub number_bounds : (low high n : ℕ) (text : List ℕ) → number_within low high text ≡ Some n → (low ≤ n) × (n ≤ high)
number_bounds low high n text h = bounded low high n (digits_number text) (nat_le (length text) 20) text refl refl h

pub number_fits : (low high n : ℕ) (text : List ℕ) → Some n ≡ number_within low high text → n ≤ high
number_fits low high n text h = (number_bounds low high n text (sym h)).1
