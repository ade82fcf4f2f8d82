-- Memories that are made one array and one rank after the other.
use Rattle.std.specs.Prelude.{◌≡◌, ℕ, zero, suc, ◌+◌, ◌*◌, ◌≤◌, Option, Some, None, IfSome, List, [], ◌∷◌, ◌++◌, length, map, slice_get, slice_index_or}
use Rattle.std.specs.List.{range_with_len}
use Rattle.std.proofs.Common.{sym, ap, ◌∙◌, refl, arith}
use Rattle.std.proofs.lemmas.List.{length-map, map-append}
use Rattle.std.proofs.lemmas.List.FromFn.{length-map-range_with_len, get_or-map-range_with_len, map-range_with_len_more}
use Rattle.std.proofs.lemmas.Option.{slice_get-get_or, slice_get_within}
use Rattle.pack_words.specs.declared.rank_op.RankOp.{RankOp}
use Rattle.pack_words.specs.LocalCells.{LocalCells, IsLocalCells}
use Rattle.pack_words.specs.RankOps.{RankState}
use Rattle.pack_words.specs.GridState.{HasRoom, scratch_needed, arrays_held}
use Rattle.pack_words.specs.GridShapes.{ShapesView, shape_of, measure_of, whole_measure, measures_of, HasShapes}
use Rattle.pack_words.specs.GridPlans.{first_grid}

pub measure_made : (c : LocalCells) (size : ℕ × ℕ) → c.lld ≡ size.0 → c.cols ≡ size.1 → IsLocalCells c → measure_of c ≡ whole_measure size
measure_made c size lead columns is =
    let m : ℕ → ℕ → ℕ → ℕ × ℕ × ℕ = λ x y z. (x, y, z) in
    ap (λ (x : ℕ). m x c.cols (length c.words)) lead ∙ (ap (λ (y : ℕ). m size.0 y (length c.words)) columns ∙ ap (λ (z : ℕ). m size.0 size.1 z) (is.count ∙ ap (λ x. x * c.cols) lead ∙ ap (λ y. size.0 * y) columns))

-- the measures of a rank's arrays
abbrev pub wanted : ShapesView → ℕ → ℕ → List (ℕ × ℕ × ℕ)
wanted v r n = map (λ a. whole_measure (shape_of v r a)) (range_with_len 0 n)

pub one_array : (v : ShapesView) (r a : ℕ) (cs new : List LocalCells) (c : LocalCells) → measures_of cs ≡ wanted v r a → new ≡ cs ++ c ∷ [] → measure_of c ≡ whole_measure (shape_of v r a) → measures_of new ≡ wanted v r (a + 1)
one_array v r a cs new c is more here =
    ap measures_of more ∙ map-append measure_of cs (c ∷ []) ∙ ap (λ ms. ms ++ measure_of c ∷ []) is ∙ ap (λ m. wanted v r a ++ m ∷ []) here
    ∙ sym (map-range_with_len_more (λ k. whole_measure (shape_of v r k)) 0 a a (omega arith))

-- what a rank has
abbrev pub measures_in : RankState → List (ℕ × ℕ × ℕ)
measures_in n = measures_of n.arrays

abbrev pub held_in : RankState → ℕ
held_in n = length n.held

pub one_rank : {Y : Type 0} (f : RankState → Y) (g : ℕ → Y) (k : ℕ) (ns new : List RankState) (n : RankState) → map f ns ≡ map g (range_with_len 0 k) → new ≡ ns ++ n ∷ [] → f n ≡ g k → map f new ≡ map g (range_with_len 0 (k + 1))
one_rank f g k ns new n is more here =
    ap (map f) more ∙ map-append f ns (n ∷ []) ∙ ap (λ ys. ys ++ f n ∷ []) is ∙ ap (λ y. map g (range_with_len 0 k) ++ y ∷ []) here ∙ sym (map-range_with_len_more g 0 k k (omega arith))

twice : (ns : List RankState) → map measures_of (map arrays_held ns) ≡ map measures_in ns
twice [] = refl
twice (n ∷ ns) = ap (λ l. measures_in n ∷ l) (twice ns)

pub all_shaped : (v : ShapesView) (ns : List RankState) → map measures_in ns ≡ map (λ r. wanted v r v.count) (range_with_len 0 v.ranks) → HasShapes v (first_grid ns)
all_shaped v ns is = record {
  ranks_are = length-map ns arrays_held ∙ sym (length-map ns measures_in) ∙ ap (λ (l : List (List (ℕ × ℕ × ℕ))). length l) is ∙ length-map-range_with_len (λ r. wanted v r v.count) 0 v.ranks;
  each = λ r a lr la.
      ap (λ (l : List (List (ℕ × ℕ × ℕ))). slice_get (slice_index_or l r []) a) (twice ns ∙ is)
      ∙ ap (λ ms. slice_get ms a) (get_or-map-range_with_len (λ k. wanted v k v.count) 0 v.ranks r r [] lr (omega arith))
      ∙ slice_get-get_or (wanted v r v.count) a (0, 0, 0) (let l = length-map-range_with_len (λ k. whole_measure (shape_of v r k)) 0 v.count in omega arith)
      ∙ ap (λ m. Some m) (get_or-map-range_with_len (λ k. whole_measure (shape_of v r k)) 0 v.count a a (0, 0, 0) la (omega arith));
}

held_at : (ns : List RankState) (r : ℕ) (n : RankState) → slice_get ns r ≡ Some n → slice_index_or (map held_in ns) r 0 ≡ held_in n
held_at [] r n e = cc
held_at (m ∷ ns) zero n e = let same : m ≡ n = cc in ap held_in same
held_at (m ∷ ns) (suc r) n e = held_at ns r n e

pub all_room : (xs : List (ℕ × RankOp)) (ranks : ℕ) (ns : List RankState) → map held_in ns ≡ map (λ r. scratch_needed r xs) (range_with_len 0 ranks) → HasRoom xs ns
all_room xs ranks ns is = record { each = λ r. at r (slice_get ns r) refl }
  where
    at : (r : ℕ) (m : Option RankState) → slice_get ns r ≡ m → IfSome m (λ n. scratch_needed r xs ≤ length n.held)
    at r None e = tt
    at r (Some n) e =
        let long : length ns ≡ ranks = sym (length-map ns held_in) ∙ ap (λ (l : List ℕ). length l) is ∙ length-map-range_with_len (λ k. scratch_needed k xs) 0 ranks in
        let low = slice_get_within ns r n e in
        let same : held_in n ≡ scratch_needed r xs = sym (held_at ns r n e) ∙ ap (λ (l : List ℕ). slice_index_or l r 0) is ∙ get_or-map-range_with_len (λ k. scratch_needed k xs) 0 ranks r r 0 (omega arith) (omega arith) in
        omega arith

-- operations that use no accumulator have room
pub no_scratch : (xs : List (ℕ × RankOp)) (ns : List RankState) → ((r : ℕ) → scratch_needed r xs ≡ 0) → HasRoom xs ns
no_scratch xs ns none = record { each = λ r. at (scratch_needed r xs) (none r) (slice_get ns r) }
  where
    at : (n : ℕ) → n ≡ 0 → (m : Option RankState) → IfSome m (λ s. n ≤ length s.held)
    at n e None = tt
    at n e (Some s) = omega arith
