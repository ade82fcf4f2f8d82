-- A move that was planned for prepared memories can be run, and its run leaves the arrays of the plain move.
use Rattle.std.proofs.Common.{◌≡◌, List, [], refl, ap, subst, ◌∙◌}
use Rattle.std.specs.Prelude.{map}
use Rattle.proc_grid.specs.Grid.{Grid}
use Rattle.proc_grid.specs.Refusals.{dealt_grid}
use Rattle.proc_grid.specs.declared.world.Order.TheVariants.{R}
use Rattle.descriptor.specs.declared.moves.MrArgs.{MrArgs}
use Rattle.pack_words.specs.declared.shape.Shape.TheVariants.{Ge}
use Rattle.pack_words.specs.declared.rank_op.RankOp.{RankOp}
use Rattle.pack_words.specs.LocalCells.{LocalCells}
use Rattle.pack_words.specs.RankOps.{RankState}
use Rattle.pack_words.specs.GridState.{GridState, HasRoom, arrays_held, rank_steps, rank_nodes}
use Rattle.pack_words.specs.GridShapes.{ShapesView}
use Rattle.pack_words.specs.GridPlans.{Appends, PlanMeans}
use Rattle.pack_words.proofs.Kept.{plan_begins, plan_goes_on, plan_runs}
use Rattle.msg_core.specs.Plans.{PlanView, AllCan}
use Rattle.msg_core.specs.Stages.{end_nodes}
use Rattle.piece_grammar.specs.Head.{Piece}
use Rattle.mr2d.specs.Moves.{plain_move}
use Rattle.mr2d.specs.Calls.{AppendsMove}
use Rattle.piece_moves.specs.Distribution.{Distribution}
use Rattle.piece_moves.specs.PieceMove.{first_of, args_for, move_for, state_after}
use Rattle.piece_moves.specs.Planning.{IsPrepared, contexts_of}

module _ (ps : List Piece) (d : Distribution) (args : MrArgs) (contexts : List Grid) (v : ShapesView) (nodes : List RankState) (is : IsPrepared ps d args contexts v nodes) (before after : PlanView RankOp) (none : before.steps ≡ []) (appends : AppendsMove contexts Ge args v before after) where
  adds : Appends v before after (plain_move (move_for ps d))
  adds =
      let P : MrArgs → List Grid → Type 0 = λ x gs. AppendsMove gs Ge x v before after in
      let here : P (args_for ps d) (contexts_of ps d) = subst (λ x. P x (contexts_of ps d)) is.args_are (subst (P args) is.contexts_are appends) in
      here (dealt_grid R (first_of ps).nprow (first_of ps).npcol) (dealt_grid R d.nprow d.npcol) refl refl

  means : PlanMeans v after (plain_move (move_for ps d))
  means = plan_goes_on v before after (λ s. s) (plain_move (move_for ps d)) (plan_begins v before none) adds

  pub runs : HasRoom after.steps nodes → AllCan rank_nodes nodes after.steps × (map arrays_held (end_nodes rank_steps rank_nodes after.steps nodes) ≡ (state_after ps d).arrays)
  runs room =
      let done = plan_runs v after (plain_move (move_for ps d)) nodes means is.shapes room in
      let first : (arrays : List (List LocalCells)) → GridState = λ arrays. record { arrays = arrays; waits = λ from to. [] } in
      (done.0, done.1 ∙ ap (λ (arrays : List (List LocalCells)). (plain_move (move_for ps d) (first arrays)).arrays) is.arrays_are)
