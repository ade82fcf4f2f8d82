-- The memories of all ranks.
use Rattle.std.proofs.Common.{◌≡◌, ℕ, ◌+◌, ◌<◌, ◌≤◌, List, [], ◌∷◌, ◌++◌, length, map, Option, Some, None, Vec, Global, refl, sym, ap, subst, ◌∙◌, inl, inr, arith, length-append}
use Rattle.std.specs.Prelude.{◌⊎◌, slice_get, slice_index_or, IfSome}
use Rattle.std.proofs.lemmas.List.{length-map}
use Rattle.std.proofs.lemmas.Option.{slice_get_within}
use Rattle.pack_words.specs.declared.rank_op.RankOp.{RankOp}
use Rattle.pack_words.specs.LocalCells.{LocalCells}
use Rattle.pack_words.specs.RankOps.{RankState}
use Rattle.pack_words.specs.GridState.{HasRoom, arrays_held, scratch_needed}
use Rattle.array_contents.specs.Contents.{arrays_of}
use Rattle.line_plans.proofs.ArrayLaws.{get_front, get_last}
use Rattle.grid_exec.specs.Nodes.{AreRooms, HaveRoom}

pub no_nodes : (steps : List (ℕ × RankOp)) → HaveRoom steps []
no_nodes steps r n e = absurd cc

arrays_more : (nodes : List RankState) (node : RankState) → map arrays_held (nodes ++ node ∷ []) ≡ map arrays_held nodes ++ arrays_held node ∷ []
arrays_more [] node = refl
arrays_more (x ∷ nodes) node = ap (λ (xs : List (List LocalCells)). arrays_held x ∷ xs) (arrays_more nodes node)

yielded_more : (ranks : List (Vec LocalCells Global)) (mine : Vec LocalCells Global) → arrays_of (ranks ++ mine ∷ []) ≡ arrays_of ranks ++ mine.items ∷ []
yielded_more [] mine = refl
yielded_more (x ∷ ranks) mine = ap (λ (xs : List (List LocalCells)). x.items ∷ xs) (yielded_more ranks mine)

pub count_is : (nodes : List RankState) (ranks : List (Vec LocalCells Global)) → map arrays_held nodes ≡ arrays_of ranks → length nodes ≡ length ranks
count_is nodes ranks h = sym (length-map nodes arrays_held) ∙ ap length h ∙ length-map ranks (λ (v : Vec LocalCells Global). v.items)

last_or_before : (a count : ℕ) → a < count + 1 → (a < count) ⊎ (a ≡ count)
last_or_before a count lt = grind arith

pub one_more_held : (nodes grown : List RankState) (node : RankState) (ranks : List (Vec LocalCells Global)) (mine : Vec LocalCells Global) → grown ≡ nodes ++ node ∷ [] → arrays_held node ≡ mine.items → map arrays_held nodes ≡ arrays_of ranks
    → map arrays_held grown ≡ arrays_of (ranks ++ mine ∷ [])
one_more_held nodes grown node ranks mine e same h =
    ap (map arrays_held) e ∙ arrays_more nodes node ∙ ap (λ (xs : List (List LocalCells)). xs ++ arrays_held node ∷ []) h ∙ ap (λ (x : List LocalCells). arrays_of ranks ++ x ∷ []) same ∙ sym (yielded_more ranks mine)

pub one_more_room : (steps : List (ℕ × RankOp)) (rooms : List ℕ) (nodes grown : List RankState) (node : RankState) (rank : ℕ) → grown ≡ nodes ++ node ∷ [] → rank ≡ length nodes → HaveRoom steps nodes
    → AreRooms steps rooms → rank < length rooms → length node.held ≡ slice_index_or rooms rank 0 → HaveRoom steps grown
one_more_room steps rooms nodes grown node rank e at h rooms_are inside held = subst (λ (ns : List RankState). HaveRoom steps ns) (sym e) all
  where
    room : scratch_needed rank steps ≤ length node.held
    room = let needed = rooms_are rank inside in omega (arith, needed, held)

    all : HaveRoom steps (nodes ++ node ∷ [])
    all r n get =
        let lt = slice_get_within (nodes ++ node ∷ []) r n get in
        let long = length-append nodes (node ∷ []) in
        step (last_or_before r (length nodes) (let z : r < length nodes + 1 = omega arith in z))
      where
        step : (r < length nodes) ⊎ (r ≡ length nodes) → scratch_needed r steps ≤ length n.held
        step (inl before) = h r n (sym (get_front nodes node r before) ∙ get)
        step (inr last) =
            let same : node ≡ n = let k : Some node ≡ Some n = sym (get_last nodes node r last) ∙ get in cc in
            subst (λ (x : RankState). scratch_needed r steps ≤ length x.held) same (subst (λ k. scratch_needed k steps ≤ length node.held) (at ∙ sym last) room)

pub room_for_all : (steps : List (ℕ × RankOp)) (nodes : List RankState) → HaveRoom steps nodes → HasRoom steps nodes
room_for_all steps nodes h = record { each = λ r. step r (slice_get nodes r) refl }
  where
    step : (r : ℕ) (o : Option RankState) → slice_get nodes r ≡ o → IfSome o (λ n. scratch_needed r steps ≤ length n.held)
    step r None e = tt
    step r (Some n) e = h r n e
