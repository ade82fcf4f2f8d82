-- What is left of a copy.
use Rattle.std.specs.Prelude.{◌≡◌, suc, List, [], ◌∷◌, length}
use Rattle.std.proofs.Common.{sym, ap, subst, ◌∙◌, refl, arith}
use Rattle.pack_words.specs.declared.cut.Cut.{Cut}
use Rattle.pack_words.specs.declared.region.Region.{Region}
use Rattle.pack_words.specs.LocalCells.{LocalCells, IsLocalCells}
use Rattle.pack_words.specs.Packing.{region_spots, spots, words_at, with_words, IsAlike, AllAlike, AllInCut, AllInArray}
use Rattle.pack_words.proofs.CopyLaws.{alike_region, copying_goes_on}
use Rattle.pack_words.proofs.Going.{all_in_array_after}

-- after the rest is copied too, all is copied; and the rest can be copied
pub record IsLeft (cut : Cut) (from first : LocalCells) (sources targets : List Region) (to : LocalCells) (before after : List Region) : Type 0 where
  pub left : with_words to (spots cut after) (words_at from (spots cut before)) ≡ with_words first (spots cut targets) (words_at from (spots cut sources))
  pub limits : IsLocalCells to
  pub alike : AllAlike before after
  pub in_cut : AllInCut cut before
  pub in_from : AllInArray from before
  pub in_to : AllInArray to after

left_after : (cut : Cut) (from to : LocalCells) (r t : Region) (rs ts : List Region) → IsAlike r t
    → with_words (with_words to (region_spots cut t) (words_at from (region_spots cut r))) (spots cut ts) (words_at from (spots cut rs)) ≡ with_words to (spots cut (t ∷ ts)) (words_at from (spots cut (r ∷ rs)))
unfolding spots
left_after cut from to r t rs ts alike = copying_goes_on from to (region_spots cut r) (spots cut rs) (region_spots cut t) (spots cut ts) (alike_region cut r t alike)

-- one region more is copied
one_less : (cut : Cut) (from first : LocalCells) (sources targets : List Region) (to next : LocalCells) (r t : Region) (rs ts : List Region) → IsLeft cut from first sources targets to (r ∷ rs) (t ∷ ts)
    → next ≡ with_words to (region_spots cut t) (words_at from (region_spots cut r)) → IsLocalCells next → IsLeft cut from first sources targets next rs ts
one_less cut from first sources targets to next r t rs ts is e limits = record {
  left = ap (λ a. with_words a (spots cut ts) (words_at from (spots cut rs))) e ∙ left_after cut from to r t rs ts is.alike.0 ∙ is.left;
  limits = limits;
  alike = is.alike.1;
  in_cut = is.in_cut.1;
  in_from = is.in_from.1;
  in_to = subst (λ (a : LocalCells). AllInArray a ts) (sym e) (all_in_array_after to (region_spots cut t) (words_at from (region_spots cut r)) ts is.in_to.1);
}

-- the same by what a walk says of its next region
pub less : (cut : Cut) (from first : LocalCells) (sources targets : List Region) (to : LocalCells) (before after : List Region) (next : LocalCells) (r t : Region) (rs ts : List Region) → IsLeft cut from first sources targets to before after → before ≡ r ∷ rs → after ≡ t ∷ ts
    → next ≡ with_words to (region_spots cut t) (words_at from (region_spots cut r)) → IsLocalCells next → IsLeft cut from first sources targets next rs ts
less cut from first sources targets to before after next r t rs ts is e f =
    one_less cut from first sources targets to next r t rs ts (subst (λ (xs : List Region). IsLeft cut from first sources targets to (r ∷ rs) xs) f (subst (λ (xs : List Region). IsLeft cut from first sources targets to xs after) e is))

no_words : (cut : Cut) (from to : LocalCells) (before after : List Region) → AllAlike before after → before ≡ [] → with_words to (spots cut after) (words_at from (spots cut before)) ≡ to
unfolding spots
no_words cut from to [] [] is e = refl
no_words cut from to [] (t ∷ ts) is e = absurd is
no_words cut from to (r ∷ rs) after is e = let n : suc (length rs) ≡ 0 = ap length e in absurd (omega arith)

-- nothing is left
pub all_copied : (cut : Cut) (from first : LocalCells) (sources targets : List Region) (to : LocalCells) (before after : List Region) → IsLeft cut from first sources targets to before after → before ≡ []
    → to ≡ with_words first (spots cut targets) (words_at from (spots cut sources))
all_copied cut from first sources targets to before after is e = sym (no_words cut from to before after is.alike e) ∙ is.left
