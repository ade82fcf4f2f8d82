-- A plan without operations has room for a move of pieces.
use Rattle.std.proofs.Common.{◌≡◌, ℕ, ◌+◌, ◌*◌, ◌^◌, ◌<◌, ◌≤◌, ◌==◌, Bool, true, false, cond, List, [], ◌∷◌, length, refl, ap, subst, arith}
use Rattle.std.specs.Prelude.{map}
use Rattle.std.specs.List.{range_with_len, flat_map}
use Rattle.std.proofs.Math.Nat.{mul-le-mul}
use Rattle.std.proofs.lemmas.List.{length-append}
use Rattle.std.proofs.lemmas.List.Concat.{length-flat_map}
use Rattle.std.proofs.lemmas.List.Sums.{sum_by-le}
use Rattle.std.proofs.lemmas.List.FromFn.{length-range_with_len, length-map-range_with_len}
use Rattle.proc_grid.specs.Grid.{Grid}
use Rattle.proc_grid.specs.Refusals.{dealt_grid}
use Rattle.proc_grid.specs.declared.world.Order.TheVariants.{R}
use Rattle.descriptor.specs.declared.moves.MrArgs.{MrArgs}
use Rattle.pack_words.specs.declared.cut.Cut.{Cut}
use Rattle.pack_words.specs.declared.shape.Shape.TheVariants.{Ge}
use Rattle.pack_words.specs.declared.rank_op.RankOp.{RankOp}
use Rattle.pack_words.specs.declared.rank_op.RankOp.TheVariants.{Get}
use Rattle.pack_words.specs.RankOps.{RankState}
use Rattle.pack_words.specs.GridShapes.{ShapesView}
use Rattle.msg_core.specs.Plans.{PlanView}
use Rattle.block_meet.specs.declared.side.Meet.{Meet}
use Rattle.block_meet.specs.Runs.{IsAxis}
use Rattle.block_meet.specs.Meets.{rows_of, columns_of}
use Rattle.block_meet.proofs.ExistLemmas.{all_runs}
use Rattle.mr2d.specs.Sides.{side_of}
use Rattle.mr2d.specs.Moves.{Move}
use Rattle.mr2d.specs.Plans.{Rectangles, pairs, gives, takes, all_gives, all_takes, operations}
use Rattle.mr2d.specs.Pairs.{parts_of_b}
use Rattle.mr2d.specs.Between.{meets_by}
use Rattle.mr2d.specs.Calls.{IsTooLong}
use Rattle.piece_grammar.specs.Head.{Head, Piece, IsHead}
use Rattle.piece_moves.specs.Distribution.{Distribution}
use Rattle.piece_moves.specs.PieceMove.{first_of, args_for, move_for}
use Rattle.piece_moves.specs.Planning.{IsPrepared, contexts_of}
use Rattle.piece_moves.proofs.PlannedLaws.{head_is, ranks_bound}

-- lists of at most m items each
pub joined_few : {X A : Type 0} (f : X → List A) (xs : List X) (m : ℕ) → ((x : X) → length (f x) ≤ m) → length (flat_map f xs) ≤ length xs * m
joined_few f xs m each = let sum = sum_by-le (λ x. length (f x)) m xs (λ k d lt. each _) in omega (arith, length-flat_map f xs, sum)

pairs_few : (ranks : ℕ) → ranks ≤ 64 → length (pairs ranks) ≤ 4096
pairs_few ranks few =
    let row = joined_few {X = ℕ} {A = ℕ × ℕ} (λ from. map (λ to. (from, to)) (range_with_len 0 ranks)) (range_with_len 0 ranks) ranks (λ from. (let count = length-map-range_with_len {X = ℕ × ℕ} (λ to. (from, to)) 0 ranks in omega (arith, count))) in
    let count : length (range_with_len 0 ranks) ≡ ranks = length-range_with_len 0 ranks in
    let long : length (range_with_len 0 ranks) ≤ 64 = omega (arith, count, few) in
    let all : length (range_with_len 0 ranks) * ranks ≤ 64 * 64 = mul-le-mul long few in
    omega (arith, row, all)

gives_one : (a b : ℕ) (cut : Cut) (from to : ℕ) (ms : List Meet) → length (gives a b cut from to ms) ≤ 1
gives_one a b cut from to [] = omega arith
gives_one a b cut from to (t ∷ ts) = omega arith

takes_one : (b : ℕ) (cut : Cut) (from to : ℕ) (ms : List Meet) → length (takes b cut from to ms) ≤ 1
takes_one b cut from to [] = omega arith
takes_one b cut from to (t ∷ ts) = by (from == to)
  where
    by : (same : Bool) → length {A = ℕ × RankOp} (cond same [] ((to, Get from b (parts_of_b (t ∷ ts)) cut) ∷ [])) ≤ 1
    by true = omega arith
    by false = omega arith

-- at most two operations for each pair of ranks
pub operations_few : (mv : Move) (meets : Rectangles) (ranks : ℕ) → ranks ≤ 64 → length (operations mv meets ranks) ≤ 8192
operations_few mv meets ranks few =
    let ps : List (ℕ × ℕ) = pairs ranks in
    let count : length ps ≤ 4096 = pairs_few ranks few in
    let given = joined_few (λ (p : ℕ × ℕ). gives mv.a.array mv.b.array mv.cut p.0 p.1 (meets p.0 p.1)) ps 1 (λ p. gives_one mv.a.array mv.b.array mv.cut p.0 p.1 (meets p.0 p.1)) in
    let taken = joined_few (λ (p : ℕ × ℕ). takes mv.b.array mv.cut p.0 p.1 (meets p.0 p.1)) ps 1 (λ p. takes_one mv.b.array mv.cut p.0 p.1 (meets p.0 p.1)) in
    omega (arith, count, given, taken, length-append (all_gives mv.a.array mv.b.array mv.cut meets ps) (all_takes mv.b.array mv.cut meets ps))

-- no more than 2^20 operations
pub short : (ps : List Piece) (d : Distribution) (args : MrArgs) (contexts : List Grid) (v : ShapesView) (nodes : List RankState) → IsPrepared ps d args contexts v nodes → (plan : PlanView RankOp) → plan.ranks ≡ v.ranks → plan.steps ≡ [] → ¬ IsTooLong contexts Ge args plan
short ps d args contexts v nodes is plan ranks none long =
    let h : Head = first_of ps in
    let head : IsHead h = head_is ps is.turns in
    let mv : Move = move_for ps d in
    let grid_a : Grid = dealt_grid R h.nprow h.npcol in
    let grid_b : Grid = dealt_grid R d.nprow d.npcol in
    let P : MrArgs → List Grid → Type 0 = λ x gs. IsTooLong gs Ge x plan in
    let here : P (args_for ps d) (contexts_of ps d) = subst (λ x. P x (contexts_of ps d)) is.args_are (subst (P args) is.contexts_are long) in
    let ra : IsAxis mv.cut.m (rows_of (side_of mv.a) mv.ia) = record { block = head.some_row_block; block_fits = head.row_block_fits; processes = head.few_rows; source = head.row_source; within = (let f = head.rows_fit in omega (arith, f)) } in
    let ca : IsAxis mv.cut.n (columns_of (side_of mv.a) mv.ja) = record { block = head.some_column_block; block_fits = head.column_block_fits; processes = head.few_columns; source = head.column_source; within = (let f = head.columns_fit in omega (arith, f)) } in
    let rb : IsAxis mv.cut.m (rows_of (side_of mv.b) mv.ib) = record { block = is.to.row_block; block_fits = is.to.row_block_fits; processes = is.to.few_rows; source = is.to.rows; within = (let f = head.rows_fit in omega (arith, f)) } in
    let cb : IsAxis mv.cut.n (columns_of (side_of mv.b) mv.jb) = record { block = is.to.column_block; block_fits = is.to.column_block_fits; processes = is.to.few_columns; source = is.to.columns; within = (let f = head.columns_fit in omega (arith, f)) } in
    let rs = all_runs mv.cut.m (rows_of (side_of mv.a) mv.ia) (rows_of (side_of mv.b) mv.ib) ra rb in
    let cs = all_runs mv.cut.n (columns_of (side_of mv.a) mv.ja) (columns_of (side_of mv.b) mv.jb) ca cb in
    let more : 2 ^ 20 < length plan.steps + length (operations mv (meets_by mv.cut grid_a grid_b rs.0 cs.0) plan.ranks) = here.long grid_a grid_b refl refl rs.0 cs.0 rs.1 cs.1 in
    let most = (ranks_bound ps d args contexts v nodes is).1 in
    let few = operations_few mv (meets_by mv.cut grid_a grid_b rs.0 cs.0) plan.ranks (omega (arith, ranks, most)) in
    let empty : length plan.steps ≡ 0 = ap length none in
    absurd (omega (arith, more, few, empty))
