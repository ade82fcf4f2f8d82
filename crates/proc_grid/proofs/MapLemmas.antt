-- Maps that are not refused make grids.
use Rattle.std.proofs.Common.{◌≡◌, ℕ, suc, ◌+◌, ◌-◌, ◌*◌, ◌/◌, ◌%◌, ◌<◌, ◌≤◌, ◌==◌, Bool, true, false, cond, nat_eq, nat_le, List, [], ◌∷◌, ◌++◌, length, take, slice_set, slice_index, Option, None, Some, MatchOption, sym, ap, ◌∙◌, subst, refl, arith}
use Rattle.std.specs.List.{list_any}
use Rattle.std.proofs.Math.Nat.{mod-lt, mul-le-mul_right}
use Rattle.std.proofs.lemmas.Nat.{div_below}
use Rattle.std.proofs.lemmas.Bool.Decides.{nat_tests}
use Rattle.std.proofs.lemmas.List.{get_or-take, length-take-le, take_more, take_more_set, take_all}
use Rattle.std.proofs.lemmas.List.Folds.{list_any_at}
use Rattle.proc_grid.specs.FirstOf.{first_of}
use Rattle.proc_grid.specs.Refusals.{FitsShape, place_refusal, mapped_grid}
use Rattle.proc_grid.specs.declared.grid_err.GridErr.{GridErr}
use Rattle.proc_grid.specs.declared.grid_err.GridErr.TheVariants.{NoProcess, Twice}
use Rattle.proc_grid.specs.Grid.{Grid, IsGrid, rank_at}
use Rattle.proc_grid.proofs.FirstLemmas.{first_of-more, first_of-at, first_of-each}
use Rattle.proc_grid.proofs.GridLemmas.{number-grid_by, length-grid_by, rank_at-grid_by}

-- A map's entry of each place is in the map.
pub entry-below : (lead nprow npcol size k : ℕ) → 0 < npcol → nprow ≤ lead → lead * (npcol - 1) + nprow ≤ size → k < nprow * npcol → k % npcol * lead + k / npcol < size
entry-below lead nprow npcol size k hc hl hs h =
    let column : k % npcol < npcol = mod-lt k hc in
    let row : k / npcol < nprow = div_below k npcol nprow hc h in
    let most : k % npcol * lead ≤ (npcol - 1) * lead = mul-le-mul_right lead (let l : k % npcol ≤ npcol - 1 = omega arith in l) in
    omega arith

-- the answer at the first bad place
pub refused_at : (ranks : ℕ) (xs : List ℕ) (n k : ℕ) (e : GridErr) (P : Type 0) (Q : GridErr → Type 0) → first_of (place_refusal ranks xs) k ≡ None → place_refusal ranks xs k ≡ Some e → k < n → Q e → MatchOption (first_of (place_refusal ranks xs) n) P Q
refused_at ranks xs n k e P Q h f l q = subst (λ o. MatchOption o P Q) (sym (first_of-at (place_refusal ranks xs) k n e h f l)) q

pub accepted : (ranks : ℕ) (xs : List ℕ) (n : ℕ) (P : Type 0) (Q : GridErr → Type 0) → first_of (place_refusal ranks xs) n ≡ None → P → MatchOption (first_of (place_refusal ranks xs) n) P Q
accepted ranks xs n P Q h p = subst (λ o. MatchOption o P Q) (sym h) p

-- a number that is no rank
pub no_process : (ranks : ℕ) (xs : List ℕ) (k rank : ℕ) → rank ≡ slice_index xs k → ranks ≤ rank → place_refusal ranks xs k ≡ Some (NoProcess rank)
no_process ranks xs k rank e h = subst (λ r. place_refusal ranks xs k ≡ Some (NoProcess r)) (sym e) (chosen (nat_le ranks (slice_index xs k)) _ _ (tests _ _ (subst (λ r. ranks ≤ r) e h)))
  where
    tests : (a b : ℕ) → a ≤ b → nat_le a b ≡ true
    tests a b h = grind (arith, nat_tests)

    chosen : (b : Bool) (x y : Option GridErr) → b ≡ true → cond b x y ≡ x
    chosen true x y h = refl
    chosen false x y h = cc

-- a rank at an earlier place, or at none
pub earlier : (ranks : ℕ) (xs : List ℕ) (k rank : ℕ) → rank ≡ slice_index xs k → rank < ranks → place_refusal ranks xs k ≡ cond (list_any (λ r. r == rank) (take k xs)) (Some (Twice rank)) None
earlier ranks xs k rank e h = chosen (nat_le ranks (slice_index xs k)) _ _ (tests _ _ (subst (λ r. r < ranks) e h)) ∙ ap (λ r. cond (list_any (λ s. s == r) (take k xs)) (Some (Twice r)) None) (sym e)
  where
    tests : (a b : ℕ) → b < a → nat_le a b ≡ false
    tests a b h = grind (arith, nat_tests)

    chosen : (b : Bool) (x y : Option GridErr) → b ≡ false → cond b x y ≡ y
    chosen true x y h = cc
    chosen false x y h = refl

-- A place without refusal has one of the ranks, and no earlier place has it.
pub record IsGood (ranks : ℕ) (xs : List ℕ) (k : ℕ) : Type 0 where
  pub below : slice_index xs k < ranks
  pub new : (j : ℕ) → j < k → slice_index xs j ≡ slice_index xs k → ⊥

pub good_place : (ranks : ℕ) (xs : List ℕ) (k : ℕ) → k < length xs → place_refusal ranks xs k ≡ None → IsGood ranks xs k
good_place ranks xs k h e = by_rank (nat_le ranks (slice_index xs k)) refl
  where
    above : (a b : ℕ) → nat_le a b ≡ true → a ≤ b
    above a b h = grind (arith, nat_tests)

    under : (a b : ℕ) → nat_le a b ≡ false → b < a
    under a b h = grind (arith, nat_tests)

    tests : (a b : ℕ) → a ≡ b → nat_eq a b ≡ true
    tests a b h = grind (arith, nat_tests)

    some : {A : Type 0} (o : Option A) (x : A) → o ≡ None → o ≡ Some x → ⊥
    some o x f g = cc

    found : (b : Bool) → b ≡ true → cond b (Some (Twice (slice_index xs k))) None ≡ None → ⊥
    found true f g = cc
    found false f g = cc

    by_rank : (b : Bool) → nat_le ranks (slice_index xs k) ≡ b → IsGood ranks xs k
    by_rank true f = absurd (some (place_refusal ranks xs k) (NoProcess (slice_index xs k)) e (no_process ranks xs k (slice_index xs k) refl (above _ _ f)))
    by_rank false f = record {
      below = under _ _ f;
      new = λ j l same. found (list_any (λ r. r == slice_index xs k) (take k xs)) (list_any_at (λ r. r == slice_index xs k) (take k xs) j 0 (let size : length (take k xs) ≡ k = length-take-le k xs (omega arith) in omega arith) (tests _ _ (get_or-take k xs j 0 l ∙ same))) (sym (earlier ranks xs k (slice_index xs k) refl (under _ _ f)) ∙ e);
    }

-- A list of the right length without a bad place is a grid.
pub mapped_list-is : (ranks nprow npcol : ℕ) (xs : List ℕ) → FitsShape ranks nprow npcol → length xs ≡ nprow * npcol → first_of (place_refusal ranks xs) (nprow * npcol) ≡ None → IsGrid (record { nprow = nprow; npcol = npcol; ranks = xs })
mapped_list-is ranks nprow npcol xs f size h =
    let places = f.places in
    let few = f.few_ranks in
    record {
      some_rows = f.some_rows;
      few_rows = f.few_rows;
      some_columns = f.some_columns;
      few_columns = f.few_columns;
      filled = size;
      few = omega arith;
      ranks_below = λ k l. let b = (good k l).below in omega arith;
      distinct = λ j k hj hk e. by_order j k (λ o. (good k hk).new j o e) (λ o. (good j hj).new k o (sym e));
    }
  where
    good : (k : ℕ) → k < length xs → IsGood ranks xs k
    good k l = good_place ranks xs k l (first_of-each (place_refusal ranks xs) (nprow * npcol) k h (subst (λ n. k < n) size l))

    by_order : (j k : ℕ) → (j < k → ⊥) → (k < j → ⊥) → j ≡ k
    by_order j k low high = grind arith

-- One entry more is read.
pub read_more : (xs places : List ℕ) (k rank : ℕ) → k < length places → k < length xs → rank ≡ slice_index xs k → take k places ≡ take k xs → take (k + 1) (slice_set places k rank) ≡ take (k + 1) xs
read_more xs places k rank hp hx e h = take_more_set places k rank hp ∙ ap (λ ys. ys ++ rank ∷ []) h ∙ ap (λ r. take k xs ++ r ∷ []) e ∙ sym (take_more xs k 0 hx)

-- All entries are read.
pub read_all : (xs places : List ℕ) (k : ℕ) → length places ≤ k → length xs ≤ k → take k places ≡ take k xs → places ≡ xs
read_all xs places k hp hx h = sym (take_all k places hp) ∙ h ∙ take_all k xs hx

-- The entry of a map for a place with a number of the row-major order.
pub mapped_entry : (usermap : List ℕ) (lead nprow npcol k rank : ℕ) → k < nprow * npcol → rank ≡ slice_index usermap (k % npcol * lead + k / npcol) → rank ≡ slice_index (mapped_grid usermap lead nprow npcol).ranks k
mapped_entry usermap lead nprow npcol k rank h e = e ∙ sym (number-grid_by nprow npcol (λ p q. slice_index usermap (q * lead + p)) k h)

pub length-mapped_grid : (usermap : List ℕ) (lead nprow npcol : ℕ) → length (mapped_grid usermap lead nprow npcol).ranks ≡ nprow * npcol
length-mapped_grid usermap lead nprow npcol = length-grid_by nprow npcol (λ p q. slice_index usermap (q * lead + p))

-- a rank that stands at an earlier place
pub twice : (ranks : ℕ) (xs : List ℕ) (k rank : ℕ) → rank ≡ slice_index xs k → rank < ranks → list_any (λ r. r == rank) (take k xs) ≡ true → place_refusal ranks xs k ≡ Some (Twice rank)
twice ranks xs k rank e h f = earlier ranks xs k rank e h ∙ ap (λ b. cond b (Some (Twice rank)) None) f

-- a good place
pub no_refusal : (ranks : ℕ) (xs : List ℕ) (k rank : ℕ) → rank ≡ slice_index xs k → rank < ranks → list_any (λ r. r == rank) (take k xs) ≡ false → place_refusal ranks xs k ≡ None
no_refusal ranks xs k rank e h f = earlier ranks xs k rank e h ∙ ap (λ b. cond b (Some (Twice rank)) None) f

-- No answer so far, and none at k.
pub good_more : (ranks : ℕ) (xs : List ℕ) (k rank : ℕ) → first_of (place_refusal ranks xs) k ≡ None → rank ≡ slice_index xs k → rank < ranks → list_any (λ r. r == rank) (take k xs) ≡ false → first_of (place_refusal ranks xs) (k + 1) ≡ None
good_more ranks xs k rank good e h f = subst (λ n. first_of (place_refusal ranks xs) n ≡ None) (let s : suc k ≡ k + 1 = omega arith in s) (first_of-more (place_refusal ranks xs) k good (no_refusal ranks xs k rank e h f))

-- A map without a bad place is a grid.
pub mapped_grid-is : (ranks : ℕ) (usermap : List ℕ) (lead nprow npcol : ℕ) (g : Grid) → FitsShape ranks nprow npcol → first_of (place_refusal ranks (mapped_grid usermap lead nprow npcol).ranks) (nprow * npcol) ≡ None → g ≡ mapped_grid usermap lead nprow npcol → IsGrid g
mapped_grid-is ranks usermap lead nprow npcol g f h e = subst IsGrid (sym e) (mapped_list-is ranks nprow npcol (mapped_grid usermap lead nprow npcol).ranks f (length-mapped_grid usermap lead nprow npcol) h)

-- The rank at each place of a mapped grid is the map's.
pub mapped_places : (ranks : ℕ) (usermap : List ℕ) (lead nprow npcol : ℕ) (g : Grid) → FitsShape ranks nprow npcol → first_of (place_refusal ranks (mapped_grid usermap lead nprow npcol).ranks) (nprow * npcol) ≡ None → g ≡ mapped_grid usermap lead nprow npcol → (p q : ℕ) → p < nprow → q < npcol → rank_at g p q ≡ Some (slice_index usermap (q * lead + p))
mapped_places ranks usermap lead nprow npcol g f h e p q hp hq = ap (λ x. rank_at x p q) e ∙ rank_at-grid_by nprow npcol (λ p q. slice_index usermap (q * lead + p)) p q (mapped_grid-is ranks usermap lead nprow npcol (mapped_grid usermap lead nprow npcol) f h refl) hp hq

-- Each rank of a map without a bad place is one of the world's.
pub mapped_below : (ranks : ℕ) (usermap : List ℕ) (lead nprow npcol : ℕ) (g : Grid) → first_of (place_refusal ranks (mapped_grid usermap lead nprow npcol).ranks) (nprow * npcol) ≡ None → g ≡ mapped_grid usermap lead nprow npcol → (k : ℕ) → k < length g.ranks → slice_index g.ranks k < ranks
mapped_below ranks usermap lead nprow npcol g h e = subst (λ (x : Grid). (k : ℕ) → k < length x.ranks → slice_index x.ranks k < ranks) (sym e) (λ k l. (good_place ranks xs k l (first_of-each (place_refusal ranks xs) (nprow * npcol) k h (let size = length-mapped_grid usermap lead nprow npcol in omega arith))).below)
  where
    xs : List ℕ
    xs = (mapped_grid usermap lead nprow npcol).ranks
