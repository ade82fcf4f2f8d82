-- One more of a list.
use Rattle.std.specs.Prelude.{◌≡◌, ℕ, zero, suc, ◌+◌, ◌<◌, Some, List, [], ◌∷◌, ◌++◌, length, take, slice_get, slice_index_or}
use Rattle.std.specs.List.{AllByRecursion}
use Rattle.std.proofs.Common.{arith, subst, sym, ap, ◌∙◌}
use Rattle.std.proofs.lemmas.List.{length-append}
use Rattle.pack_words.specs.declared.cut.Cut.{Cut}
use Rattle.pack_words.specs.declared.region.Region.{Region}
use Rattle.pack_words.specs.Packing.{AreApart, AllApart, IsAlike, AllAlike, region_spots, spots}

pub all_take : {X : Type 0} (P : X → Type 0) (xs : List X) (k : ℕ) (d : X) → k < length xs → AllByRecursion P (take k xs) → P (slice_index_or xs k d) → AllByRecursion P (take (k + 1) xs)
all_take P [] k d lt all here = absurd (omega arith)
all_take P (x ∷ xs) zero d lt all here = subst (λ (n : ℕ). AllByRecursion P (take n (x ∷ xs))) (let e : suc zero ≡ zero + 1 = omega arith in e) (here, tt)
all_take P (x ∷ xs) (suc k) d lt all here = subst (λ (n : ℕ). AllByRecursion P (take n (x ∷ xs))) (let e : suc (k + 1) ≡ suc k + 1 = omega arith in e) (all.0, all_take P xs k d (omega arith) all.1 here)

-- one more region that shares no place with those before it
pub apart_take : (rs : List Region) (k : ℕ) (d : Region) → k < length rs → AllApart (take k rs) → AllByRecursion (λ r. AreApart r (slice_index_or rs k d)) (take k rs) → AllApart (take (k + 1) rs)
apart_take [] k d lt apart here = absurd (omega arith)
apart_take (r ∷ rs) zero d lt apart here = subst (λ (n : ℕ). AllApart (take n (r ∷ rs))) (let e : suc zero ≡ zero + 1 = omega arith in e) (tt, tt)
apart_take (r ∷ rs) (suc k) d lt apart here =
    let first = all_take (AreApart r) rs k d (omega arith) apart.0 here.0 in
    let rest = apart_take rs k d (omega arith) apart.1 here.1 in
    subst (λ (n : ℕ). AllApart (take n (r ∷ rs))) (let e : suc (k + 1) ≡ suc k + 1 = omega arith in e) (first, rest)

-- one more pair of like regions
pub alike_take : (rs ts : List Region) (k : ℕ) (d : Region) → k < length rs → k < length ts → AllAlike (take k rs) (take k ts) → IsAlike (slice_index_or rs k d) (slice_index_or ts k d) → AllAlike (take (k + 1) rs) (take (k + 1) ts)
alike_take [] ts k d lt lu all here = absurd (omega arith)
alike_take (r ∷ rs) [] k d lt lu all here = absurd (omega arith)
alike_take (r ∷ rs) (t ∷ ts) zero d lt lu all here = subst (λ (n : ℕ). AllAlike (take n (r ∷ rs)) (take n (t ∷ ts))) (let e : suc zero ≡ zero + 1 = omega arith in e) (here, tt)
alike_take (r ∷ rs) (t ∷ ts) (suc k) d lt lu all here = subst (λ (n : ℕ). AllAlike (take n (r ∷ rs)) (take n (t ∷ ts))) (let e : suc (k + 1) ≡ suc k + 1 = omega arith in e) (all.0, alike_take rs ts k d (omega arith) (omega arith) all.1 here)

-- what holds of all holds of one, and of all with one more
pub all_get : {X : Type 0} (P : X → Type 0) (xs : List X) (k : ℕ) (x : X) → slice_get xs k ≡ Some x → AllByRecursion P xs → P x
all_get P [] k x here all = absurd cc
all_get P (y ∷ xs) zero x here all = subst P (let e : y ≡ x = cc in e) all.0
all_get P (y ∷ xs) (suc k) x here all = all_get P xs k x here all.1

pub all_after_one : {X : Type 0} (P : X → Type 0) (xs : List X) (x : X) → AllByRecursion P xs → P x → AllByRecursion P (xs ++ x ∷ [])
all_after_one P [] x all here = (here, tt)
all_after_one P (y ∷ xs) x all here = (all.0, all_after_one P xs x all.1 here)

-- what is still to come of a list, one less: all hold once the rest holds
pub all_left : {X : Type 0} (P : X → Type 0) (all walk next : List X) (x : X) → walk ≡ x ∷ next → (AllByRecursion P walk → AllByRecursion P all) → P x → AllByRecursion P next → AllByRecursion P all
all_left P all walk next x e f here rest = f (subst (AllByRecursion P) (sym e) (here, rest))

pub all_of_none : {X : Type 0} (P : X → Type 0) (all walk : List X) → walk ≡ [] → (AllByRecursion P walk → AllByRecursion P all) → AllByRecursion P all
all_of_none P all walk e f = f (subst (AllByRecursion P) (sym e) tt)

pub spots_left : (cut : Cut) (walk next : List Region) (r : Region) → walk ≡ r ∷ next → length (spots cut walk) ≡ length (region_spots cut r) + length (spots cut next)
unfolding spots
spots_left cut walk next r e = ap (λ rs. length (spots cut rs)) e ∙ length-append (region_spots cut r) (spots cut next)

pub spots_of_none : (cut : Cut) (walk : List Region) → walk ≡ [] → length (spots cut walk) ≡ 0
unfolding spots
spots_of_none cut walk e = ap (λ rs. length (spots cut rs)) e
