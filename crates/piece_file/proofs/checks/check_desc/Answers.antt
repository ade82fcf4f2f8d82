-- The head is the one that is asked for.
use Rattle.std.proofs.Common.{sym, ◌∙◌}
use Rattle.piece_file.specs.HeadView.{head_view}
use Rattle.piece_file.specs.Asking.{desc_view, turn_view}
use Rattle.piece_file.proofs.CheckSteps.{finds_head}
use Rattle.piece_file.proofs.checks.check_desc.Goals as goal

pub returns : goal.returns
returns c =
    finds_head (turn_view c.args.turn.now) (desc_view c.args.desc.now) (head_view c.head_of-head.result) (sym c.off_grid.ensures ∙ c.if-off_grid.false) (sym c.differs_from_first.ensures ∙ c.if-differs_from_first.false)
    (sym c.in_default.is ∙ c.entry_info.ensures) (sym c.elsewhere.ensures ∙ c.if-elsewhere.false) c.head_of-head.ensures
