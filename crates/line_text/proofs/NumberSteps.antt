-- Numbers, digit by digit, up to a cap.
use Rattle.std.proofs.Common.{◌≡◌, ℕ, ◌+◌, ◌-◌, ◌*◌, ◌<◌, ◌≤◌, true, min, List, [], ◌∷◌, length, drop, get_or, ◌&&◌, nat_le, refl, sym, ap, ◌∙◌, arith}
use Rattle.std.specs.List.{list_all}
use Rattle.std.proofs.lemmas.Str.{digit_value_digit}
use Rattle.std.specs.Str.{all_ascii_digits}
use Rattle.std.specs.Str.Parse.{digits_value, digits_value_after}
use Rattle.std.specs.Char.{digit_value, is_ascii_digit}
use Rattle.std.proofs.lemmas.Bool.{and_parts, leb-true}
use Rattle.std.proofs.lemmas.List.{drop_more, drop_all}

-- the same digits behind numbers that are the same up to the cap
capped_after : (cap m n : ℕ) (ds : List ℕ) → min m cap ≡ min n cap → min (digits_value_after 10 m ds) cap ≡ min (digits_value_after 10 n ds) cap
capped_after cap m n [] e = e
capped_after cap m n (d ∷ ds) e = capped_after cap (m * 10 + digit_value d) (n * 10 + digit_value d) ds (omega (arith, e))

ascii_digit : (d : ℕ) → 48 ≤ d → d ≤ 57 → digit_value d ≡ d - 48
ascii_digit d low high = let e : digit_value d + 48 ≡ d = digit_value_digit d (low, high) in omega arith

-- bytes that are digits, one by one
pub digits_by_all : (ds : List ℕ) → list_all is_ascii_digit ds ≡ all_ascii_digits ds
digits_by_all [] = refl
digits_by_all (d ∷ ds) = ap (λ r. is_ascii_digit d && r) (digits_by_all ds)

first_digit : (d : ℕ) (ds : List ℕ) → all_ascii_digits (d ∷ ds) ≡ true → (digit_value d ≡ d - 48) × (all_ascii_digits ds ≡ true)
first_digit d ds all =
    let p = and_parts (is_ascii_digit d) (all_ascii_digits ds) all in
    let q = and_parts (nat_le 48 d) (nat_le d 57) p.0 in
    (ascii_digit d (leb-true 48 d q.0) (leb-true d 57 q.1), p.1)

one_more : (cap m n d v : ℕ) (ds : List ℕ) → all_ascii_digits (d ∷ ds) ≡ true → n ≡ min (m * 10 + (d - 48)) cap → min (digits_value_after 10 m (d ∷ ds)) cap ≡ v
    → (min (digits_value_after 10 n ds) cap ≡ v) × (all_ascii_digits ds ≡ true)
one_more cap m n d v ds all is e =
    let p = first_digit d ds all in
    let same : digits_value_after 10 m (d ∷ ds) ≡ digits_value_after 10 (m * 10 + (d - 48)) ds = ap (λ x. digits_value_after 10 (m * 10 + x) ds) p.0 in
    let near : min n cap ≡ min (m * 10 + (d - 48)) cap = omega arith in
    (capped_after cap n (m * 10 + (d - 48)) ds near ∙ sym (ap (λ x. min x cap) same) ∙ e, p.1)

-- what a loop over digits keeps: behind the number so far, the digits that are left give what is wanted up to the cap
pub record IsOn (cap number v : ℕ) (digits : List ℕ) : Type 0 where
  pub small : number ≤ cap
  pub gives : min (digits_value_after 10 number digits) cap ≡ v
  pub all : all_ascii_digits digits ≡ true

pub capped_start : (cap : ℕ) (ds : List ℕ) → all_ascii_digits ds ≡ true → IsOn cap 0 (min (digits_value 10 ds) cap) (drop 0 ds)
capped_start cap ds all = record { small = omega arith; gives = refl; all = all }

pub capped_more : (cap m n v i : ℕ) (ds : List ℕ) → i < length ds → IsOn cap m v (drop i ds) → n ≡ min (m * 10 + (get_or ds i 0 - 48)) cap → IsOn cap n v (drop (i + 1) ds)
capped_more cap m n v i ds lt on is =
    let cut : drop i ds ≡ get_or ds i 0 ∷ drop (i + 1) ds = drop_more ds i 0 lt in
    let all : all_ascii_digits (get_or ds i 0 ∷ drop (i + 1) ds) ≡ true = ap all_ascii_digits (sym cut) ∙ on.all in
    let gives : min (digits_value_after 10 m (get_or ds i 0 ∷ drop (i + 1) ds)) cap ≡ v = ap (λ bs. min (digits_value_after 10 m bs) cap) (sym cut) ∙ on.gives in
    let p = one_more cap m n (get_or ds i 0) v (drop (i + 1) ds) all is gives in
    record { small = omega arith; gives = p.0; all = p.1 }

pub capped_all : (cap m v i : ℕ) (ds : List ℕ) → length ds ≤ i → IsOn cap m v (drop i ds) → m ≡ v
capped_all cap m v i ds le on =
    let small : m ≤ cap = on.small in
    let gives : min m cap ≡ v = ap (λ bs. min (digits_value_after 10 m bs) cap) (sym (drop_all i ds le)) ∙ on.gives in
    omega arith
