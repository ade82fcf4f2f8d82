-- The two desks of a room of two ranks.
use Rattle.std.proofs.Common.{◌≡◌, Some, List, [], ◌∷◌, ◌++◌, length, slice_get, ap, ◌∙◌, arith}
use Rattle.std.proofs.lemmas.List.{length-append}

-- of a list of two
pub first_of_two : {X : Type 0} (ds d1 d0 : List X) (a b : X) → length ds ≡ 2 → ds ≡ d1 ++ b ∷ [] → d1 ≡ d0 ++ a ∷ [] → (slice_get ds 0 ≡ Some a) × (slice_get ds 1 ≡ Some b)
first_of_two ds d1 [] a b two e f = let is : ds ≡ a ∷ b ∷ [] = e ∙ ap (λ l. l ++ b ∷ []) f in (ap (λ l. slice_get l 0) is, ap (λ l. slice_get l 1) is)
first_of_two ds d1 (x ∷ d0) a b two e f =
    let l = ap (λ (l : List _). length l) (e ∙ ap (λ l. l ++ b ∷ []) f) in
    let m = length-append ((x ∷ d0) ++ a ∷ []) (b ∷ []) in
    let n = length-append (x ∷ d0) (a ∷ []) in
    absurd (omega (arith, two, l, m, n))
