-- Laws of lists that are gathered item by item.
use Rattle.std.proofs.Common.{◌≡◌, ℕ, zero, suc, ◌+◌, ◌<◌, List, [], ◌∷◌, ◌++◌, Some, length, take, drop, get_or, slice_get, refl, sym, ap, subst, ◌∙◌, append_assoc, append-nil, arith}
use Rattle.std.specs.Prelude.{map}
use Rattle.std.specs.List.{flat_map, AllByRecursion}
use Rattle.std.proofs.lemmas.Grind.{flat_map-append}
use Rattle.std.proofs.lemmas.List.{take_more, map-append}

-- what the next item adds
pub flat_next : {A B : Type 0} (f : A → List B) (xs : List A) (k : ℕ) (x : A) → k < length xs → x ≡ get_or xs k x → flat_map f (take (k + 1) xs) ≡ flat_map f (take k xs) ++ f x
flat_next f xs k x lt is =
    ap (flat_map f) (take_more xs k x lt ∙ ap (λ y. take k xs ++ y ∷ []) (sym is))
    ∙ flat_map-append f (take k xs) (x ∷ []) ∙ ap (λ t. flat_map f (take k xs) ++ t) (append-nil (f x))

pub map_next : {A B : Type 0} (f : A → B) (xs : List A) (k : ℕ) (x : A) → k < length xs → x ≡ get_or xs k x → map f (take (k + 1) xs) ≡ map f (take k xs) ++ f x ∷ []
map_next f xs k x lt is =
    ap (map f) (take_more xs k x lt ∙ ap (λ y. take k xs ++ y ∷ []) (sym is))
    ∙ map-append f (take k xs) (x ∷ [])

pub flat_cut : {A B : Type 0} (f : A → List B) (xs : List A) (k : ℕ) → flat_map f (take k xs) ++ flat_map f (drop k xs) ≡ flat_map f xs
flat_cut f xs zero = refl
flat_cut f [] (suc k) = refl
flat_cut f (x ∷ xs) (suc k) = append_assoc (f x) (flat_map f (take k xs)) (flat_map f (drop k xs)) ∙ ap (λ t. f x ++ t) (flat_cut f xs k)

pub map_flat : {A B C : Type 0} (f : B → C) (g : A → List B) (xs : List A) → map f (flat_map g xs) ≡ flat_map (λ x. map f (g x)) xs
map_flat f g [] = refl
map_flat f g (x ∷ xs) = map-append f (g x) (flat_map g xs) ∙ ap (λ t. map f (g x) ++ t) (map_flat f g xs)

pub flat_flat : {A B C : Type 0} (f : B → List C) (g : A → List B) (xs : List A) → flat_map f (flat_map g xs) ≡ flat_map (λ x. flat_map f (g x)) xs
flat_flat f g [] = refl
flat_flat f g (x ∷ xs) = flat_map-append f (g x) (flat_map g xs) ∙ ap (λ t. flat_map f (g x) ++ t) (flat_flat f g xs)

pub flat_same : {A B : Type 0} (f g : A → List B) (xs : List A) → ((x : A) → f x ≡ g x) → flat_map f xs ≡ flat_map g xs
flat_same f g [] h = refl
flat_same f g (x ∷ xs) h = ap (λ t. t ++ flat_map f xs) (h x) ∙ ap (λ t. g x ++ t) (flat_same f g xs h)

pub map_map : {A B C : Type 0} (f : B → C) (g : A → B) (xs : List A) → map f (map g xs) ≡ map (λ x. f (g x)) xs
map_map f g [] = refl
map_map f g (x ∷ xs) = ap (λ t. f (g x) ∷ t) (map_map f g xs)

-- an item that is there
pub is_there : {A : Type 0} (xs : List A) (k : ℕ) (x : A) → k < length xs → x ≡ get_or xs k x → slice_get xs k ≡ Some x
is_there [] k x lt is = absurd (omega arith)
is_there (y ∷ ys) zero x lt is = ap Some (sym is)
is_there (y ∷ ys) (suc k) x lt is = is_there ys k x (omega arith) is

pub each_is : {A : Type 0} (P : A → Type 0) (xs : List A) (k : ℕ) (x : A) → AllByRecursion P xs → slice_get xs k ≡ Some x → P x
each_is P [] k x all is = cc
each_is P (y ∷ ys) zero x all is = let same : y ≡ x = cc in subst P same all.0
each_is P (y ∷ ys) (suc k) x all is = each_is P ys k x all.1 is
