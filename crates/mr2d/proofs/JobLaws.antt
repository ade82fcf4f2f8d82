-- What a job's operations are to the move of its arguments.
use Rattle.std.specs.Prelude.{◌≡◌, ◌≢◌, ℕ, ◌+◌, ◌-◌, ◌≤◌, List, [], count_by, Result, Ok, Err, IfOk, OnErr}
use Rattle.block_meet.specs.declared.axis.Axis.{Axis}
use Rattle.block_meet.specs.declared.side.Side.{Side}
use Rattle.block_meet.specs.declared.side.Sub.{Sub}
use Rattle.block_meet.specs.Runs.{AreRuns}
use Rattle.std.proofs.Common.{sym, ap, ◌∙◌, subst, refl, arith}
use Rattle.msg_core.specs.Plans.{PlanView, Lens, waiting_lens}
use Rattle.proc_grid.specs.Grid.{Grid}
use Rattle.descriptor.specs.Bounds.{part}
use Rattle.descriptor.specs.declared.moves.MrArgs.{MrArgs}
use Rattle.descriptor.specs.declared.moves.Moved.{Moved}
use Rattle.pack_words.specs.declared.cut.Cut.{Cut}
use Rattle.pack_words.specs.declared.shape.Shape.{Shape}
use Rattle.pack_words.specs.declared.rank_op.RankOp.{RankOp}
use Rattle.pack_words.specs.GridState.{GridState, rank_steps}
use Rattle.pack_words.specs.GridShapes.{ShapesView, IsShapes, HasShapes}
use Rattle.pack_words.specs.GridPlans.{IsOf}
use Rattle.block_meet.specs.declared.axis.Run.{Run}
use Rattle.block_meet.specs.Pairs.{Dealt}
use Rattle.block_meet.specs.Meets.{rows_of, columns_of, rectangles, touches}
use Rattle.block_meet.proofs.ExistLemmas.{all_runs}
use Rattle.block_meet.proofs.SumLemmas.{sum_over_pairs}
use Rattle.mr2d.specs.Moves.{Move, IsMove}
use Rattle.mr2d.specs.Sides.{side_of}
use Rattle.mr2d.specs.Homes.{rank_of}
use Rattle.mr2d.specs.Plans.{Rectangles, pairs, sends, stays, operations, AreAllMeets, CanMove}
use Rattle.mr2d.specs.Between.{meets_by, AreRowRuns, AreColumnRuns}
use Rattle.mr2d.specs.Jobs.{AreRunsOf, IsAppendable, IsJobDone}
use Rattle.mr2d.specs.Calls.{spread_array, move_of, IsReady, CanPlan, IsAppended}
use Rattle.mr2d.proofs.PlanLaws.{operations_reach}
use Rattle.mr2d.proofs.TargetLaws.{are_targets}
use Rattle.mr2d.proofs.BetweenLaws.{all_meets}
use Rattle.mr2d.proofs.ArgLaws.{is_move, row_axis_a, column_axis_a, row_axis_b, column_axis_b}
use Rattle.mr2d.proofs.CallLaws.{can_append}
use Rattle.mr2d.proofs.GrowLaws.{grown}
use Rattle.mr2d.proofs.FewLaws.{few_moves}
use Rattle.mr2d.proofs.UsedLaws.{uses_no_more, all_touching}
use Rattle.mr2d.proofs.ShapeLaws.{have_arrays, blank_arrays, blank_shapes, blank_count, none_waits}

-- the runs of a move's rows and columns, as they are dealt
abbrev pub dealt_rows : Move → Dealt
dealt_rows mv = record { n = mv.cut.m; a = rows_of (side_of mv.a) mv.ia; b = rows_of (side_of mv.b) mv.ib }

abbrev pub dealt_columns : Move → Dealt
dealt_columns mv = record { n = mv.cut.n; a = columns_of (side_of mv.a) mv.ja; b = columns_of (side_of mv.b) mv.jb }

module _ (shape : Shape) (args : MrArgs) (a b : Grid) (p : IsReady args a b) (other : args.a ≢ args.b) where
  move : Move
  move = move_of shape args a b

  moves : IsMove (move_of shape args a b)
  moves = is_move shape args a b p other

  some_rows : (rs : List Run) × AreRowRuns (move_of shape args a b) rs
  some_rows = all_runs (part args.m) _ _ (row_axis_a shape args a b p) (row_axis_b shape args a b p)

  some_columns : (cs : List Run) × AreColumnRuns (move_of shape args a b) cs
  some_columns = all_runs (part args.n) _ _ (column_axis_a shape args a b p) (column_axis_b shape args a b p)

  -- messages and copies are at most the meets
  few_moved : (ranks : ℕ) (rs cs : List Run) → AreRowRuns (move_of shape args a b) rs → AreColumnRuns (move_of shape args a b) cs → (moved : Moved)
      → moved.messages ≡ count_by (λ p. sends (meets_by (move_of shape args a b).cut a b rs cs) p.0 p.1) (pairs ranks) → moved.copies ≡ count_by (λ p. stays (meets_by (move_of shape args a b).cut a b rs cs) p.0 p.1) (pairs ranks)
      → moved.meets ≡ count_by (touches (move_of shape args a b).cut) (rectangles rs cs) → moved.messages + moved.copies ≤ moved.meets
  few_moved ranks rs cs h k moved e f g =
      let mv : Move = move_of shape args a b in
      let few = few_moves mv.cut a b (rows_of (side_of mv.a) mv.ia) (rows_of (side_of mv.b) mv.ib) (columns_of (side_of mv.a) mv.ja) (columns_of (side_of mv.b) mv.jb) rs cs ranks p.grid_a p.grid_b refl refl refl refl in
      let all = sum_over_pairs mv.cut (rows_of (side_of mv.a) mv.ia) (rows_of (side_of mv.b) mv.ib) (columns_of (side_of mv.a) mv.ja) (columns_of (side_of mv.b) mv.jb) rs cs (row_axis_a shape args a b p) (row_axis_b shape args a b p) (column_axis_a shape args a b p) (column_axis_b shape args a b p) h k in
      omega arith

  -- they can be appended
  pub appendable : (v : ShapesView) (ranks : ℕ) (lens : Lens) → IsShapes v → CanPlan args a b v ranks lens → (cut : Cut) (rows columns : Dealt) → cut ≡ (move_of shape args a b).cut → rows ≡ dealt_rows (move_of shape args a b) → columns ≡ dealt_columns (move_of shape args a b) → IsAppendable args.a args.b cut a b rows columns ranks lens
  appendable v ranks lens is can cut rows columns cut_is rows_are columns_are =
      let mv : Move = move_of shape args a b in
      let rs = some_rows in
      let cs = some_columns in
      let meets = all_meets mv ranks rs.0 cs.0 moves rs.1 cs.1 in
      let g : GridState = record { arrays = blank_arrays v; waits = λ f t. [] } in
      let shaped : HasShapes v g = blank_shapes v (λ f t. []) in
      let done = can_append mv ranks (meets_by mv.cut a b rs.0 cs.0) (blank_arrays v) lens moves meets (blank_count v ∙ can.ranks_are) (have_arrays mv.a v g is can.source shaped) (have_arrays mv.b v g is can.target shaped) can.quiet in
      subst (λ (x : Cut). IsAppendable args.a args.b x a b rows columns ranks lens) (sym cut_is)
      (subst (λ (x : Dealt). IsAppendable args.a args.b mv.cut a b x columns ranks lens) (sym rows_are)
      (subst (λ (x : Dealt). IsAppendable args.a args.b mv.cut a b (dealt_rows mv) x ranks lens) (sym columns_are)
      (record { row_runs = rs.0; column_runs = cs.0; rows_are = rs.1; columns_are = cs.1; order = done.0; among = done.1 })))

  -- each state of the plan can have the move
  can_move : (v : ShapesView) (before : PlanView RankOp) → IsShapes v → CanPlan args a b v before.ranks (waiting_lens rank_steps before) → (s : GridState) → IsOf v before s → CanMove (move_of shape args a b) before.ranks s
  can_move v before is can s of = record {
    ranks_are = of.shaped.ranks_are ∙ can.ranks_are;
    source = have_arrays (spread_array args.a args.desca a) v s is can.source of.shaped;
    target = have_arrays (spread_array args.b args.descb b) v s is can.target of.shaped;
    quiet = λ p q r t hp hq hr ht. none_waits (s.waits (rank_of a p q) (rank_of b r t)) (sym (of.lens_are (rank_of a p q) (rank_of b r t)) ∙ can.quiet p q r t hp hq hr ht);
  }

  -- and then the plan has the move
  pub appended : (v : ShapesView) (before after : PlanView RankOp) (moved : Moved) → IsShapes v → CanPlan args a b v before.ranks (waiting_lens rank_steps before) → (cut : Cut) (rows columns : Dealt) → cut ≡ (move_of shape args a b).cut → rows ≡ dealt_rows (move_of shape args a b) → columns ≡ dealt_columns (move_of shape args a b)
      → IsJobDone args.a args.b cut a b rows columns before after moved
      → ((rs cs : List Run) → AreRowRuns (move_of shape args a b) rs → AreColumnRuns (move_of shape args a b) cs → moved.meets ≡ count_by (touches (move_of shape args a b).cut) (rectangles rs cs))
      → IsAppended v (move_of shape args a b) before after moved
  appended v before after moved is can cut rows columns cut_is rows_are columns_are done number =
      let mv : Move = move_of shape args a b in
      let d : IsJobDone args.a args.b mv.cut a b (dealt_rows mv) (dealt_columns mv) before after moved =
      subst (λ (x : Dealt). IsJobDone args.a args.b mv.cut a b (dealt_rows mv) x before after moved) columns_are
      (subst (λ (x : Dealt). IsJobDone args.a args.b mv.cut a b x columns before after moved) rows_are
      (subst (λ (x : Cut). IsJobDone args.a args.b x a b rows columns before after moved) cut_is done)) in
      let rs = some_rows in
      let cs = some_columns in
      let meets : Rectangles = meets_by mv.cut a b rs.0 cs.0 in
      let all : AreAllMeets mv before.ranks meets = all_meets mv before.ranks rs.0 cs.0 moves rs.1 cs.1 in
      record {
        appends = record {
          added = operations mv meets before.ranks;
          ranks_are = d.ranks;
          steps_are = d.steps rs.0 cs.0 rs.1 cs.1;
          means = record { means = λ wd s shows of room. operations_reach mv before.ranks meets moves all wd s shows (can_move v before is can s of) };
        };
        targets = λ s of. are_targets mv before.ranks meets s moves (can_move v before is can s of) all;
        meets = meets;
        all = all;
        touching = all_touching mv.cut a b rs.0 cs.0;
        added_are = refl;
        messages = d.messages rs.0 cs.0 rs.1 cs.1;
        copies = d.copies rs.0 cs.0 rs.1 cs.1;
        few = few_moved before.ranks rs.0 cs.0 rs.1 cs.1 moved (d.messages rs.0 cs.0 rs.1 cs.1) (d.copies rs.0 cs.0 rs.1 cs.1) (number rs.0 cs.0 rs.1 cs.1);
        grows = grown mv before.ranks meets before after moved.messages moved.copies (d.steps rs.0 cs.0 rs.1 cs.1) (d.messages rs.0 cs.0 rs.1 cs.1) (d.copies rs.0 cs.0 rs.1 cs.1);
        scratch = λ r. uses_no_more r mv.a.array mv.b.array mv.cut meets (pairs before.ranks) before.steps after.steps (d.steps rs.0 cs.0 rs.1 cs.1);
        number = number;
      }

  -- runs of the move are those of the job
  pub row_runs : (rows : Dealt) (rs : List Run) → rows ≡ dealt_rows (move_of shape args a b) → AreRowRuns (move_of shape args a b) rs → AreRunsOf rows rs
  row_runs rows rs e h = subst (λ (x : Dealt). AreRunsOf x rs) (sym e) h

  pub column_runs : (columns : Dealt) (cs : List Run) → columns ≡ dealt_columns (move_of shape args a b) → AreColumnRuns (move_of shape args a b) cs → AreRunsOf columns cs
  column_runs columns cs e h = subst (λ (x : Dealt). AreRunsOf x cs) (sym e) h

-- the part that is moved, as the meets take it
abbrev pub sub_is : Shape → MrArgs → Sub
sub_is shape args = record { cut = record { shape = shape; m = part args.m; n = part args.n }; ia = part args.ia - 1; ja = part args.ja - 1; ib = part args.ib - 1; jb = part args.jb - 1 }

-- the runs of the rows and of the columns
pub rows_dealt : (shape : Shape) (args : MrArgs) (a b : Grid) (x y : Side) (s : Sub) (p q : Axis) (d : Dealt) → x ≡ side_of (spread_array 0 args.desca a) → y ≡ side_of (spread_array 0 args.descb b) → s ≡ sub_is shape args → p ≡ rows_of x s.ia → q ≡ rows_of y s.ib → d ≡ record { n = s.cut.m; a = p; b = q } → d ≡ dealt_rows (move_of shape args a b)
rows_dealt shape args a b x y s p q d ex ey es ep eq ed =
    let fp : p ≡ rows_of (side_of (spread_array 0 args.desca a)) (part args.ia - 1) = ep ∙ ap (λ z. rows_of z s.ia) ex ∙ ap (λ (z : Sub). rows_of (side_of (spread_array 0 args.desca a)) z.ia) es in
    let fq : q ≡ rows_of (side_of (spread_array 0 args.descb b)) (part args.ib - 1) = eq ∙ ap (λ z. rows_of z s.ib) ey ∙ ap (λ (z : Sub). rows_of (side_of (spread_array 0 args.descb b)) z.ib) es in
    ed ∙ joined s.cut.m (part args.m) p q _ _ (ap (λ (z : Sub). z.cut.m) es) fp fq
  where
    joined : (n m : ℕ) (p q v w : Axis) → n ≡ m → p ≡ v → q ≡ w → (let z : Dealt = record { n = n; a = p; b = q } in z) ≡ record { n = m; a = v; b = w }
    joined n m p q v w e f g = cc

pub columns_dealt : (shape : Shape) (args : MrArgs) (a b : Grid) (x y : Side) (s : Sub) (p q : Axis) (d : Dealt) → x ≡ side_of (spread_array 0 args.desca a) → y ≡ side_of (spread_array 0 args.descb b) → s ≡ sub_is shape args → p ≡ columns_of x s.ja → q ≡ columns_of y s.jb → d ≡ record { n = s.cut.n; a = p; b = q } → d ≡ dealt_columns (move_of shape args a b)
columns_dealt shape args a b x y s p q d ex ey es ep eq ed =
    let fp : p ≡ columns_of (side_of (spread_array 0 args.desca a)) (part args.ja - 1) = ep ∙ ap (λ z. columns_of z s.ja) ex ∙ ap (λ (z : Sub). columns_of (side_of (spread_array 0 args.desca a)) z.ja) es in
    let fq : q ≡ columns_of (side_of (spread_array 0 args.descb b)) (part args.jb - 1) = eq ∙ ap (λ z. columns_of z s.jb) ey ∙ ap (λ (z : Sub). columns_of (side_of (spread_array 0 args.descb b)) z.jb) es in
    ed ∙ joined s.cut.n (part args.n) p q _ _ (ap (λ (z : Sub). z.cut.n) es) fp fq
  where
    joined : (n m : ℕ) (p q v w : Axis) → n ≡ m → p ≡ v → q ≡ w → (let z : Dealt = record { n = n; a = p; b = q } in z) ≡ record { n = m; a = v; b = w }
    joined n m p q v w e f g = cc

-- the number of all meets
pub number_of : (shape : Shape) (args : MrArgs) (a b : Grid) (x y : Side) (s : Sub) (n : ℕ) → x ≡ side_of (spread_array 0 args.desca a) → y ≡ side_of (spread_array 0 args.descb b) → s ≡ sub_is shape args
    → ((rs cs : List Run) → AreRuns s.cut.m (rows_of x s.ia) (rows_of y s.ib) rs → AreRuns s.cut.n (columns_of x s.ja) (columns_of y s.jb) cs → n ≡ count_by (touches s.cut) (rectangles rs cs))
    → (rs cs : List Run) → AreRowRuns (move_of shape args a b) rs → AreColumnRuns (move_of shape args a b) cs → n ≡ count_by (touches (move_of shape args a b).cut) (rectangles rs cs)
number_of shape args a b x y s n ex ey es h =
    let u : Side = side_of (spread_array 0 args.desca a) in
    let v : Side = side_of (spread_array 0 args.descb b) in
    subst (λ (z : Sub). (rs cs : List Run) → AreRuns z.cut.m (rows_of u z.ia) (rows_of v z.ib) rs → AreRuns z.cut.n (columns_of u z.ja) (columns_of v z.jb) cs → n ≡ count_by (touches z.cut) (rectangles rs cs)) es
    (subst (λ (z : Side). (rs cs : List Run) → AreRuns s.cut.m (rows_of u s.ia) (rows_of z s.ib) rs → AreRuns s.cut.n (columns_of u s.ja) (columns_of z s.jb) cs → n ≡ count_by (touches s.cut) (rectangles rs cs)) ey
    (subst (λ (z : Side). (rs cs : List Run) → AreRuns s.cut.m (rows_of z s.ia) (rows_of y s.ib) rs → AreRuns s.cut.n (columns_of z s.ja) (columns_of y s.jb) cs → n ≡ count_by (touches s.cut) (rectangles rs cs)) ex h))

-- two clauses on one Ok
pub both_ok : {T E : Type 0} (r : Result T E) (P Q R : T → Type 0) → IfOk r P → IfOk r Q → ((x : T) → P x → Q x → R x) → IfOk r R
both_ok (Ok x) P Q R p q f = f x p q
both_ok (Err e) P Q R p q f = tt

-- what holds on an Ok and on an Err
pub either_way : {T E : Type 0} (r : Result T E) (P : T → Type 0) (A : Type 0) → IfOk r P → ((x : T) → P x → A) → OnErr r A → A
either_way (Ok x) P A p f h = f x p
either_way (Err e) P A p f h = h
