-- Decimal numbers in texts.
use Rattle.std.specs.Prelude.{ℕ, ℤ, pos, neg_ℤ, List, [], ◌∷◌, Option, Some, None, ◌==◌, if◌then◌else◌}
use Rattle.std.specs.Str.{all_ascii_digits}
use Rattle.std.specs.Option.{option_map}
use Rattle.std.specs.Str.Parse.{digits_value}

-- the number that one or more digits write; leading zeros count for nothing
unfoldable pub digits_number : List ℕ → Option ℕ
digits_number [] = None
digits_number (b ∷ bs) = if all_ascii_digits (b ∷ bs) then Some (digits_value 10 (b ∷ bs)) else None

-- the number that one or more digits write, with one plus (43) in front or none
unfoldable pub unsigned_number : List ℕ → Option ℕ
unsigned_number [] = None
unsigned_number (b ∷ bs) = if b == 43 then digits_number bs else digits_number (b ∷ bs)

-- the number that one or more digits write, with one plus (43) or minus (45) in front or none
unfoldable pub signed_number : List ℕ → Option ℤ
signed_number [] = None
signed_number (b ∷ bs) =
    if b == 45 then option_map (λ n. neg_ℤ (pos n)) (digits_number bs)
    else (if b == 43 then option_map (λ n. pos n) (digits_number bs) else option_map (λ n. pos n) (digits_number (b ∷ bs)))
