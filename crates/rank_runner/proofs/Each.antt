-- What holds of each element, of the whole list.
use Rattle.std.proofs.Common.{◌≡◌, ℕ, suc, ◌<◌, List, [], ◌∷◌, All, length, map, get_or, set, refl, ap, ap₂, sym, ◌∙◌, arith}
use Rattle.std.proofs.lemmas.List.{map-set, set-get_or}

pub map_each : {A B : Type 0} (f h : A → B) (xs ys : List A) → length ys ≡ length xs → ((i : ℕ) (d : A) → i < length xs → f (get_or ys i d) ≡ h (get_or xs i d)) → map f ys ≡ map h xs
map_each f h [] [] n e = refl
map_each f h [] (y ∷ ys) n e = absurd (omega arith)
map_each f h (x ∷ xs) [] n e = absurd (omega arith)
map_each f h (x ∷ xs) (y ∷ ys) n e = ap₂ (λ a l. a ∷ l) (e 0 x (omega arith)) (map_each f h xs ys (omega arith) (λ i d k. e (suc i) d (omega arith)))

pub map_all : {A B : Type 0} (f h : A → B) (xs : List A) → All (λ x. f x ≡ h x) xs → map f xs ≡ map h xs
map_all f h xs all = map_each f h xs xs refl all

-- an element whose value under f stays
pub set_kept : {A B : Type 0} (f : A → B) (xs : List A) (i : ℕ) (x y : A) → x ≡ get_or xs i x → f y ≡ f x → map f (set xs i y) ≡ map f xs
set_kept f xs i x y here same = map-set f xs i y ∙ (ap (λ z. set (map f xs) i z) same ∙ (sym (map-set f xs i x) ∙ ap (λ l. map f l) (ap (λ z. set xs i z) here ∙ set-get_or xs i x)))
