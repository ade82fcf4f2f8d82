-- What a planned move of pieces is, by what PIGEMR2D answers.
use Rattle.std.proofs.Common.{◌≡◌, ℕ, ◌*◌, ◌^◌, ◌<◌, ◌≤◌, List, [], ◌∷◌, ◌++◌, length, Option, Some, None, refl, sym, ap, subst, ◌∙◌, arith}
use Rattle.std.specs.Prelude.{slice_get, IfSome, map}
use Rattle.std.specs.List.{range_with_len}
use Rattle.std.proofs.Math.Nat.{le-mul_of_pos_right, one-le-mul}
use Rattle.std.proofs.lemmas.List.{length-map}
use Rattle.proc_grid.specs.Grid.{Grid}
use Rattle.proc_grid.specs.Held.{context_at}
use Rattle.proc_grid.specs.Refusals.{dealt_grid}
use Rattle.proc_grid.specs.declared.world.Order.TheVariants.{R}
use Rattle.descriptor.specs.declared.moves.MrArgs.{MrArgs}
use Rattle.descriptor.specs.declared.moves.Moved.{Moved}
use Rattle.pack_words.specs.declared.shape.Shape.TheVariants.{Ge}
use Rattle.pack_words.specs.declared.rank_op.RankOp.{RankOp}
use Rattle.pack_words.specs.RankOps.{RankState}
use Rattle.pack_words.specs.GridState.{HasRoom, arrays_held, rank_steps, scratch_needed}
use Rattle.pack_words.specs.GridShapes.{ShapesView, HasShapes}
use Rattle.pack_words.specs.GridPlans.{first_grid}
use Rattle.piece_moves.specs.Sizes.{size_in}
use Rattle.piece_moves.proofs.ListLaws.{paired, nodes_len}
use Rattle.msg_core.specs.Plans.{PlanView, word_count}
use Rattle.block_meet.specs.Runs.{IsAxis}
use Rattle.block_meet.specs.Meets.{rows_of, columns_of}
use Rattle.block_meet.proofs.ExistLemmas.{all_runs}
use Rattle.piece_grammar.specs.Head.{Head, Piece, IsHead}
use Rattle.piece_file.specs.Gathering.{AreTurns}
use Rattle.mr2d.specs.Sides.{side_of}
use Rattle.mr2d.specs.Moves.{Move}
use Rattle.mr2d.specs.Calls.{move_of, IsMoved, IsAppended}
use Rattle.piece_moves.specs.Distribution.{Distribution}
use Rattle.piece_moves.specs.DistributionView.{distribution_view}
use Rattle.piece_moves.specs.declared.distribution.Distribution.{Distribution as InCode}
use Rattle.piece_moves.specs.PieceMove.{first_of, ranks_for, args_for, move_for, move_words, array_of, zeros_for}
use Rattle.move_numbers.specs.MoveNumbers.{move_messages, move_copies, AreTouching}
use Rattle.move_numbers.specs.MoveNumbers.{move_words as words_between}
use Rattle.piece_moves.specs.Numbers.{meets_of_whole, numbers_for}
use Rattle.piece_moves.specs.Planning.{IsPrepared, IsDistribution, contexts_of}
use Rattle.piece_moves.proofs.CallLaws.{same_some}
use Rattle.piece_moves.proofs.MeetCounts.{meets_counted}
use Rattle.move_numbers.proofs.MoveCounts.{messages_are, copies_are, words_are}
use Rattle.piece_moves.proofs.WordBound.{words_few}

-- as many memories as ranks
pub nodes_are : (ps : List Piece) (d : Distribution) (args : MrArgs) (contexts : List Grid) (v : ShapesView) (nodes : List RankState) → IsPrepared ps d args contexts v nodes → length nodes ≡ v.ranks
nodes_are ps d args contexts v nodes is = sym (length-map nodes arrays_held) ∙ is.shapes.ranks_are

-- the head of the first piece
pub head_is : (ps : List Piece) → AreTurns ps → IsHead (first_of ps)
head_is [] is = absurd is.all
head_is (first ∷ more) is = is.turns.0

numbers_are : (a b c x y z : ℕ) → a ≡ x → b ≡ y → c ≡ z → (let m : Moved = record { meets = a; messages = b; copies = c } in m) ≡ record { meets = x; messages = y; copies = z }
numbers_are a b c x y z e f g = rw (e, f, g) refl

module _ (ps : List Piece) (d : Distribution) (args : MrArgs) (contexts : List Grid) (v : ShapesView) (nodes : List RankState) (is : IsPrepared ps d args contexts v nodes) (before after : PlanView RankOp) (moved : Moved) (done : IsMoved contexts v Ge args before after moved) where
  pub appended : IsAppended v (move_for ps d) before after moved
  appended =
      let grid_a : Grid = dealt_grid R (first_of ps).nprow (first_of ps).npcol in
      let grid_b : Grid = dealt_grid R d.nprow d.npcol in
      let P : MrArgs → List Grid → Type 0 = λ x gs. context_at gs x.desca.desc.ctxt ≡ Some done.a in
      let Q : MrArgs → List Grid → Type 0 = λ x gs. context_at gs x.descb.desc.ctxt ≡ Some done.b in
      let here_a : grid_a ≡ done.a = same_some grid_a done.a (subst (λ x. P x (contexts_of ps d)) is.args_are (subst (P args) is.contexts_are done.a_is)) in
      let here_b : grid_b ≡ done.b = same_some grid_b done.b (subst (λ x. Q x (contexts_of ps d)) is.args_are (subst (Q args) is.contexts_are done.b_is)) in
      let I : MrArgs → Grid → Grid → Type 0 = λ x g h. IsAppended v (move_of Ge x g h) before after moved in
      subst (λ x. I x grid_a grid_b) is.args_are (subst (λ g. I args g grid_b) (sym here_a) (subst (λ h. I args done.a h) (sym here_b) done.appended))

  -- no operation uses the accumulator
  pub has_room : before.steps ≡ [] → HasRoom after.steps nodes
  has_room none = record { each = λ r. by r (slice_get nodes r) }
    where
      by : (r : ℕ) (o : Option RankState) → IfSome o (λ n. scratch_needed r after.steps ≤ length n.held)
      by r None = tt
      by r (Some n) = let same : scratch_needed r after.steps ≡ 0 = appended.scratch r ∙ ap (scratch_needed r) none in omega (arith, same)

  -- its messages have no more words than the job
  pub few_words : before.steps ≡ [] → word_count rank_steps after.steps ≤ 67108864
  few_words none =
      let mv : Move = move_for ps d in
      let touching : AreTouching mv before.ranks appended.meets = record { all = appended.all; each = appended.touching } in
      let sent = words_are mv before.ranks appended.meets touching in
      let bound : words_between mv before.ranks ≤ (first_of ps).m * (first_of ps).n = words_few mv before.ranks in
      let empty : word_count rank_steps before.steps ≡ 0 = ap (word_count rank_steps) none in
      let grows = appended.grows.words_are in
      let few = is.few in
      omega (arith, grows, sent, bound, empty, few)

  pub numbered : before.ranks ≡ ranks_for (first_of ps) d → moved ≡ numbers_for ps d
  numbered ranks =
      let mv : Move = move_for ps d in
      let h : Head = first_of ps in
      let head : IsHead h = head_is ps is.turns in
      let touching : AreTouching mv before.ranks appended.meets = record { all = appended.all; each = appended.touching } in
      let ra : IsAxis mv.cut.m (rows_of (side_of mv.a) mv.ia) = record { block = head.some_row_block; block_fits = head.row_block_fits; processes = head.few_rows; source = head.row_source; within = (let f = head.rows_fit in omega (arith, f)) } in
      let ca : IsAxis mv.cut.n (columns_of (side_of mv.a) mv.ja) = record { block = head.some_column_block; block_fits = head.column_block_fits; processes = head.few_columns; source = head.column_source; within = (let f = head.columns_fit in omega (arith, f)) } in
      let rb : IsAxis mv.cut.m (rows_of (side_of mv.b) mv.ib) = record { block = is.to.row_block; block_fits = is.to.row_block_fits; processes = is.to.few_rows; source = is.to.rows; within = (let f = head.rows_fit in omega (arith, f)) } in
      let cb : IsAxis mv.cut.n (columns_of (side_of mv.b) mv.jb) = record { block = is.to.column_block; block_fits = is.to.column_block_fits; processes = is.to.few_columns; source = is.to.columns; within = (let f = head.columns_fit in omega (arith, f)) } in
      let rs = all_runs mv.cut.m (rows_of (side_of mv.a) mv.ia) (rows_of (side_of mv.b) mv.ib) ra rb in
      let cs = all_runs mv.cut.n (columns_of (side_of mv.a) mv.ja) (columns_of (side_of mv.b) mv.jb) ca cb in
      numbers_are moved.meets moved.messages moved.copies (meets_of_whole mv) (move_messages mv (ranks_for h d)) (move_copies mv (ranks_for h d))
      (appended.number rs.0 cs.0 rs.1 cs.1 ∙ meets_counted mv.cut.m mv.cut.n _ _ _ _ rs.0 cs.0 ra rb ca cb rs.1 cs.1)
      (appended.messages ∙ messages_are mv before.ranks appended.meets touching ∙ ap (move_messages mv) ranks)
      (appended.copies ∙ copies_are mv before.ranks appended.meets touching ∙ ap (move_copies mv) ranks)

-- ---- before the plan

pub is_distribution : (t : InCode) → IsDistribution (distribution_view t)
is_distribution t =
    let tall : t.nprow ≤ t.nprow * t.npcol = le-mul_of_pos_right t.nprow t.columns in
    let wide : t.npcol ≤ t.npcol * t.nprow = le-mul_of_pos_right t.npcol t.rows in
    let few = t.grid in
    record {
      rows = t.rows;
      few_rows = omega (arith, tall, few);
      columns = t.columns;
      few_columns = omega (arith, wide, few);
      grid = t.grid;
      row_block = t.row_block;
      row_block_fits = t.row_block_fits;
      column_block = t.column_block;
      column_block_fits = t.column_block_fits;
    }

pub ranks_bound : (ps : List Piece) (d : Distribution) (args : MrArgs) (contexts : List Grid) (v : ShapesView) (nodes : List RankState) → IsPrepared ps d args contexts v nodes → (0 < v.ranks) × (v.ranks ≤ 64)
ranks_bound ps d args contexts v nodes is =
    let head : IsHead (first_of ps) = head_is ps is.turns in
    let low : 1 ≤ d.nprow * d.npcol = one-le-mul is.to.rows is.to.columns in
    let few = head.few in
    let grid = is.to.grid in
    let ranks = is.ranks_are in
    (omega (arith, low, ranks), omega (arith, few, grid, ranks))

pub pieces_fit : (ps : List Piece) (d : Distribution) → AreTurns ps → length ps ≤ ranks_for (first_of ps) d
pieces_fit [] d is = absurd is.all
pieces_fit (first ∷ more) d is = let all : length (first ∷ more) ≡ first.head.nprow * first.head.npcol = is.all in omega (arith, all)

pub prepared : (ps : List Piece) (d : Distribution) (args : MrArgs) (contexts : List Grid) (v : ShapesView) (nodes : List RankState) (h : Head) (ranks : ℕ) → h ≡ first_of ps → ranks ≡ ranks_for h d → AreTurns ps → IsDistribution d → move_words ps d ≤ 2 ^ 26 → args ≡ args_for ps d
    → contexts ≡ dealt_grid R 1 ranks ∷ dealt_grid R h.nprow h.npcol ∷ dealt_grid R d.nprow d.npcol ∷ [] → map arrays_held nodes ≡ map (paired (map array_of ps) (zeros_for h d)) (range_with_len 0 ranks)
    → v ≡ record { ranks = length nodes; count = 2; sizes = map (size_in 0) nodes ++ map (size_in 1) nodes } → HasShapes v (first_grid nodes) → IsPrepared ps d args contexts v nodes
prepared ps d args contexts v nodes h ranks first count turns to few args_are contexts_are arrays_are sizes shapes = record {
  turns = turns;
  to = to;
  few = few;
  args_are = args_are;
  contexts_are = contexts_are ∙ ap (λ (n : ℕ). dealt_grid R 1 n ∷ dealt_grid R h.nprow h.npcol ∷ dealt_grid R d.nprow d.npcol ∷ []) count
      ∙ ap (λ (k : Head). dealt_grid R 1 (ranks_for k d) ∷ dealt_grid R k.nprow k.npcol ∷ dealt_grid R d.nprow d.npcol ∷ []) first;
  arrays_are = arrays_are ∙ ap (λ (n : ℕ). map (paired (map array_of ps) (zeros_for h d)) (range_with_len 0 n)) count
      ∙ ap (λ (k : Head). map (paired (map array_of ps) (zeros_for k d)) (range_with_len 0 (ranks_for k d))) first;
  ranks_are = ap (λ (w : ShapesView). w.ranks) sizes ∙ nodes_len nodes (paired (map array_of ps) (zeros_for h d)) ranks arrays_are ∙ count ∙ ap (λ (k : Head). ranks_for k d) first;
  two = ap (λ (w : ShapesView). w.count) sizes;
  shapes = shapes;
}
