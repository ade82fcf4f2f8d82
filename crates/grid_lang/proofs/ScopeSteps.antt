-- Scopes and destinations.
use Rattle.std.proofs.Common.{◌≡◌, ℕ, zero, suc, ◌^◌, ◌<◌, ◌≤◌, min, ℤ, pos, negsuc, List, Option, Some, None, Ok, Err, refl, ap, arith}
use Rattle.std.specs.Prelude.{◌≤ℤ◌, ◌<ℤ◌, unsigned_abs, ◌≢◌}
use Rattle.std.specs.Option.{option_map}
use Rattle.std.proofs.lemmas.Bool.{le-ltb, lt-ltb}
use Rattle.std.proofs.lemmas.Int.{ints}
use Rattle.line_text.specs.Formats.{and_then}
use Rattle.grid_lang.specs.declared.fault.LangFault.TheVariants.{Number}
use Rattle.grid_lang.specs.WordKinds.{small_number, integer, number}
use Rattle.grid_lang.specs.Kinds.{first, column_of}

capped : (cap n m : ℕ) → Some m ≡ option_map (λ x. min x cap) (Some n) → m ≡ min n cap
capped cap n m e = cc

pub no_digits : (o : Option ℕ) → None ≡ option_map (λ x. min x (2 ^ 31)) o → None ≡ small_number o
no_digits None e = refl
no_digits (Some n) e = absurd cc

pub small : (o : Option ℕ) (m : ℕ) → Some m ≡ option_map (λ x. min x (2 ^ 31)) o → m < 2 ^ 31 → Some m ≡ small_number o
small None m e less = absurd cc
small (Some n) m e less =
    let c : m ≡ min n (2 ^ 31) = capped (2 ^ 31) n m e in
    let same : m ≡ n = omega arith in
    rw (lt-ltb n (2 ^ 31) (omega arith)) (ap (λ (k : ℕ). Some k) same)

pub large : (o : Option ℕ) (m : ℕ) → Some m ≡ option_map (λ x. min x (2 ^ 31)) o → 2 ^ 31 ≤ m → None ≡ small_number o
large None m e more = absurd cc
large (Some n) m e more =
    let c : m ≡ min n (2 ^ 31) = capped (2 ^ 31) n m e in
    rw (le-ltb n (2 ^ 31) (omega arith)) refl

-- `rdest` of at least 0, -1, and below
pub one_place : (row : ℤ) (ws : List (List ℕ)) → pos 0 ≤ℤ row → column_of row ws ≡ and_then (first number ws) (λ c. Ok (Some (unsigned_abs row, c.0), c.1))
one_place (pos n) ws least = refl
one_place (negsuc n) ws least = absurd (omega (arith, ints))

pub every_place : (row : ℤ) (ws : List (List ℕ)) → row ≡ negsuc 0 → column_of row ws ≡ and_then (first integer ws) (λ c. Ok (None, c.1))
every_place row ws e = rw e refl

pub bad_place : (row : ℤ) (ws : List (List ℕ)) → row <ℤ pos 0 → row ≢ negsuc 0 → column_of row ws ≡ Err Number
bad_place (pos n) ws less other = absurd (omega (arith, ints))
bad_place (negsuc zero) ws less other = absurd (other refl)
bad_place (negsuc (suc k)) ws less other = refl
