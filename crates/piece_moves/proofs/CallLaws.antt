-- What a move asks of a plan without operations.
use Rattle.std.proofs.Common.{◌≡◌, ℕ, zero, suc, ◌+◌, ◌*◌, ◌%◌, ◌<◌, max, Bool, true, false, cond, nat_lt, pos, List, [], ◌∷◌, length, get_or, Some, refl, sym, ap, ap₂, subst, ◌∙◌, arith}
use Rattle.std.specs.Prelude.{map, slice_get, slice_index_or}
use Rattle.std.specs.List.{range_with_len}
use Rattle.std.proofs.lemmas.Nat.{mod-mul-add, mul-add-lt}
use Rattle.std.proofs.lemmas.Bool.{lt-ltb}
use Rattle.std.proofs.lemmas.List.FromFn.{get_or-map-range_with_len}
use Rattle.proc_grid.specs.Grid.{Grid, place_number}
use Rattle.proc_grid.specs.Held.{context_at}
use Rattle.proc_grid.specs.Refusals.{dealt_grid}
use Rattle.proc_grid.specs.declared.world.Order.TheVariants.{R}
use Rattle.proc_grid.proofs.GridLemmas.{slice_index-grid_by}
use Rattle.index_tools.specs.Home.{local_columns}
use Rattle.descriptor.specs.Bounds.{part}
use Rattle.descriptor.specs.declared.moves.MrArgs.{MrArgs}
use Rattle.pack_words.specs.declared.rank_op.RankOp.{RankOp}
use Rattle.pack_words.specs.LocalCells.{LocalCells, zeros}
use Rattle.pack_words.specs.RankOps.{RankState}
use Rattle.pack_words.specs.GridState.{arrays_held, rank_steps}
use Rattle.pack_words.specs.GridShapes.{ShapesView, shape_of, measure_of, measures_of, whole_measure}
use Rattle.msg_core.specs.Plans.{PlanView, waiting_lens, lens_of, no_lens}
use Rattle.piece_grammar.specs.Head.{Head, Piece, layout_of, array_columns}
use Rattle.mr2d.specs.Homes.{HasShape, rank_of}
use Rattle.mr2d.specs.Calls.{spread_array, CanPlan, CanCall}
use Rattle.piece_moves.specs.Distribution.{Distribution, layout_over, head_over}
use Rattle.piece_moves.specs.PieceMove.{first_of, ranks_for, spread_from, spread_to, llds_from, llds_to, args_for, array_of, zeros_for, held_before}
use Rattle.piece_moves.specs.Planning.{IsPrepared, contexts_of}
use Rattle.piece_moves.proofs.TurnLaws.{IsAt, piece_at}

-- the rank at a place of a grid that is dealt out by rows
pub dealt_at : (nprow npcol p q : ℕ) → p < nprow → q < npcol → rank_of (dealt_grid R nprow npcol) p q ≡ place_number npcol p q
dealt_at nprow npcol p q hp hq = slice_index-grid_by nprow npcol (λ i j. i * npcol + j) p q hp hq

-- a size by an array of it
size_is : (s : ℕ × ℕ) (c : LocalCells) → Some (measure_of c) ≡ Some (whole_measure s) → s ≡ (c.lld, c.cols)
size_is (x, y) c e =
    let same : measure_of c ≡ whole_measure (x, y) = cc in
    let a : c.lld ≡ x = ap (λ (t : ℕ × ℕ × ℕ). t.0) same in
    let b : c.cols ≡ y = ap (λ (t : ℕ × ℕ × ℕ). t.1) same in
    rw (a, b) refl

module _ (ps : List Piece) (d : Distribution) (args : MrArgs) (contexts : List Grid) (v : ShapesView) (nodes : List RankState) (is : IsPrepared ps d args contexts v nodes) where
  -- the sizes of the two arrays of rank r
  measures_at : (r : ℕ) → r < v.ranks → slice_index_or (map measures_of (map arrays_held nodes)) r [] ≡ measures_of (held_before ps d r)
  measures_at r lt =
      let far : r < ranks_for (first_of ps) d = omega (arith, lt, is.ranks_are) in
      ap (λ (arrays : List (List LocalCells)). slice_index_or (map measures_of arrays) r []) is.arrays_are
      ∙ along (range_with_len 0 (ranks_for (first_of ps) d)) r
      ∙ by_range r far
    where
      along : (ks : List ℕ) (j : ℕ) → get_or (map measures_of (map (held_before ps d) ks)) j [] ≡ get_or (map (λ k. measures_of (held_before ps d k)) ks) j []
      along [] j = refl
      along (k ∷ ks) zero = refl
      along (k ∷ ks) (suc j) = along ks j

      by_range : (j : ℕ) → j < ranks_for (first_of ps) d → get_or (map (λ k. measures_of (held_before ps d k)) (range_with_len 0 (ranks_for (first_of ps) d))) j [] ≡ measures_of (held_before ps d j)
      by_range j below = get_or-map-range_with_len (λ k. measures_of (held_before ps d k)) 0 (ranks_for (first_of ps) d) j j [] below (omega arith)

  source_size : (r : ℕ) → r < v.ranks → shape_of v r 0 ≡ ((slice_index_or (map array_of ps) r (zeros 1 0)).lld, (slice_index_or (map array_of ps) r (zeros 1 0)).cols)
  source_size r lt = size_is (shape_of v r 0) (slice_index_or (map array_of ps) r (zeros 1 0)) (sym (ap (λ ms. slice_get ms 0) (measures_at r lt)) ∙ is.shapes.each r 0 lt (let t = is.two in omega arith))

  target_size : (r : ℕ) → r < v.ranks → shape_of v r 1 ≡ ((zeros_for (first_of ps) d r).lld, (zeros_for (first_of ps) d r).cols)
  target_size r lt = size_is (shape_of v r 1) (zeros_for (first_of ps) d r) (sym (ap (λ ms. slice_get ms 1) (measures_at r lt)) ∙ is.shapes.each r 1 lt (let t = is.two in omega arith))

at_map : {X Y : Type 0} (f : X → Y) (xs : List X) (k : ℕ) (x : X) (y : Y) → k < length xs → get_or (map f xs) k y ≡ f (get_or xs k x)
at_map f [] k x y lt = absurd (omega arith)
at_map f (z ∷ zs) zero x y lt = refl
at_map f (z ∷ zs) (suc k) x y lt = at_map f zs k x y (omega arith)

-- a place's number
number_below : (nprow npcol p q : ℕ) → p < nprow → q < npcol → p * npcol + q < nprow * npcol
number_below nprow npcol p q hp hq = let lt = mul-add-lt p npcol q nprow hp hq in omega arith

columns_at : (first p : Piece) (k q : ℕ) → IsAt (layout_of first.head) k p → k % first.head.npcol ≡ q → array_columns p.head ≡ max 1 (local_columns (layout_of first.head) q)
columns_at first p k q at e = ap (λ l. max 1 (local_columns l p.head.pcol)) at.layout ∙ ap (λ j. max 1 (local_columns (layout_of first.head) j)) (at.column ∙ e)

-- every process of the pieces' grid has its piece
has_source : (ps : List Piece) (d : Distribution) (args : MrArgs) (contexts : List Grid) (v : ShapesView) (nodes : List RankState) → IsPrepared ps d args contexts v nodes → HasShape (spread_array 0 (spread_from ps) (dealt_grid R (first_of ps).nprow (first_of ps).npcol)) v
has_source [] d args contexts v nodes is = absurd is.turns.all
has_source (first ∷ more) d args contexts v nodes is =
    let h : Head = first.head in
    record {
      array = let t = is.two in omega arith;
      ranks = λ p q hp hq. (let at = dealt_at h.nprow h.npcol p q hp hq in let below = number_below h.nprow h.npcol p q hp hq in let r = is.ranks_are in omega arith);
      sizes = λ p q hp hq.
          (let k : ℕ = p * h.npcol + q in
          let below = number_below h.nprow h.npcol p q hp hq in
          let all : length (first ∷ more) ≡ h.nprow * h.npcol = is.turns.all in
          let low : k < length (first ∷ more) = omega (arith, all, below) in
          let far : k < v.ranks = let r = is.ranks_are in omega (arith, below, r) in
          let at = piece_at first more first is.turns k low in
          let here : Piece = get_or (first ∷ more) k first in
          let cells : get_or (map array_of (first ∷ more)) k (zeros 1 0) ≡ array_of here = at_map array_of (first ∷ more) k first (zeros 1 0) low in
          let lead : get_or (llds_from (first ∷ more)) k (pos 0) ≡ pos here.head.lld = at_map (λ (p : Piece). pos p.head.lld) (first ∷ more) k first (pos 0) low in
          ap (λ r. shape_of v r 0) (dealt_at h.nprow h.npcol p q hp hq) ∙ source_size (first ∷ more) d args contexts v nodes is k far
          ∙ ap (λ (c : LocalCells). (c.lld, c.cols)) cells
          ∙ ap₂ (λ (x y : ℕ). (x, y)) (sym (ap part lead)) (columns_at first here k q at (mod-mul-add p h.npcol q hq)));
    }

-- every process of the other grid has an array of its size
zeros_at : (h : Head) (d : Distribution) (k : ℕ) → k < d.nprow * d.npcol → zeros_for h d k ≡ zeros (head_over d h.m h.n k).lld (array_columns (head_over d h.m h.n k))
zeros_at h d k lt = by (nat_lt k (d.nprow * d.npcol)) (lt-ltb k (d.nprow * d.npcol) lt)
  where
    by : (b : Bool) → b ≡ true → cond b (zeros (head_over d h.m h.n k).lld (array_columns (head_over d h.m h.n k))) (zeros 1 0) ≡ zeros (head_over d h.m h.n k).lld (array_columns (head_over d h.m h.n k))
    by true e = refl
    by false e = absurd cc

has_target : (ps : List Piece) (d : Distribution) (args : MrArgs) (contexts : List Grid) (v : ShapesView) (nodes : List RankState) → IsPrepared ps d args contexts v nodes → HasShape (spread_array 1 (spread_to (first_of ps) d) (dealt_grid R d.nprow d.npcol)) v
has_target ps d args contexts v nodes is =
    let h : Head = first_of ps in
    record {
      array = let t = is.two in omega arith;
      ranks = λ p q hp hq. (let at = dealt_at d.nprow d.npcol p q hp hq in let below = number_below d.nprow d.npcol p q hp hq in let r = is.ranks_are in omega arith);
      sizes = λ p q hp hq.
          (let k : ℕ = p * d.npcol + q in
          let below = number_below d.nprow d.npcol p q hp hq in
          let far : k < v.ranks = let r = is.ranks_are in omega (arith, below, r) in
          let lead : get_or (llds_to h d) k (pos 0) ≡ pos (head_over d h.m h.n k).lld = get_or-map-range_with_len (λ j. pos (head_over d h.m h.n j).lld) 0 (d.nprow * d.npcol) k k (pos 0) below (omega arith) in
          ap (λ r. shape_of v r 1) (dealt_at d.nprow d.npcol p q hp hq) ∙ target_size ps d args contexts v nodes is k far
          ∙ ap (λ (c : LocalCells). (c.lld, c.cols)) (zeros_at h d k below)
          ∙ ap₂ (λ (x y : ℕ). (x, y)) (sym (ap part lead)) (ap (λ j. max 1 (local_columns (layout_over d h.m h.n) j)) (mod-mul-add p d.npcol q hq)));
    }

-- without operations no message waits
pub quiet_at : (plan : PlanView RankOp) → plan.steps ≡ [] → (from to : ℕ) → waiting_lens rank_steps plan from to ≡ []
quiet_at plan none from to = ap (λ (xs : List (ℕ × RankOp)). lens_of rank_steps xs no_lens from to) none

-- the condition of the call
pub same_some : (x y : Grid) → Some x ≡ Some y → x ≡ y
same_some x y e = cc

pub can_call : (ps : List Piece) (d : Distribution) (args : MrArgs) (contexts : List Grid) (v : ShapesView) (nodes : List RankState) (plan : PlanView RankOp) → IsPrepared ps d args contexts v nodes → plan.ranks ≡ v.ranks → plan.steps ≡ [] → CanCall contexts args v plan
can_call ps d args contexts v nodes plan is ranks none a b at_a at_b =
    let grid_a : Grid = dealt_grid R (first_of ps).nprow (first_of ps).npcol in
    let grid_b : Grid = dealt_grid R d.nprow d.npcol in
    let P : MrArgs → List Grid → Type 0 = λ x gs. context_at gs x.desca.desc.ctxt ≡ Some a in
    let Q : MrArgs → List Grid → Type 0 = λ x gs. context_at gs x.descb.desc.ctxt ≡ Some b in
    let here_a : grid_a ≡ a = same_some grid_a a (subst (λ x. P x (contexts_of ps d)) is.args_are (subst (P args) is.contexts_are at_a)) in
    let here_b : grid_b ≡ b = same_some grid_b b (subst (λ x. Q x (contexts_of ps d)) is.args_are (subst (Q args) is.contexts_are at_b)) in
    let lens : ℕ → ℕ → List ℕ = waiting_lens rank_steps plan in
    let C : MrArgs → Grid → Grid → Type 0 = λ x g h. CanPlan x g h v plan.ranks lens in
    let base : C (args_for ps d) grid_a grid_b = record {
      ranks_are = sym ranks;
      source = has_source ps d args contexts v nodes is;
      target = has_target ps d args contexts v nodes is;
      quiet = λ p q r t hp hq hr ht. quiet_at plan none (rank_of grid_a p q) (rank_of grid_b r t);
    } in
    subst (λ x. C x a b) (sym is.args_are) (subst (λ g. C (args_for ps d) g b) here_a (subst (λ h. C (args_for ps d) grid_a h) here_b base))
