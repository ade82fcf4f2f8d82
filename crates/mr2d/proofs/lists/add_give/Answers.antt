-- The operation stands where there are rectangles.
use Rattle.std.proofs.Common.{◌≡◌, List, [], ◌∷◌, ◌++◌, length, filter, sym, ap, ◌∙◌}
use Rattle.std.proofs.lemmas.List.{length-map}
use Rattle.block_meet.specs.declared.side.Meet.{Meet}
use Rattle.block_meet.specs.Meets.{rectangles, touches}
use Rattle.pack_words.specs.declared.rank_op.RankOp.{RankOp}
use Rattle.mr2d.specs.Pairs.{part_of_a}
use Rattle.mr2d.specs.Plans.{gives}
use Rattle.mr2d.proofs.GiveLaws.{untrue, gives_some}
use Rattle.mr2d.proofs.lists.add_give.Goals as goal

pub returns : goal.returns
returns c = λ rs cs h k.
    let job = c.args.job.now in
    let ms = filter (touches job.cut) (rectangles c.in_ok-runs.runs.rows.items c.in_ok-runs.runs.columns.items) in
    let some : length ms ≡ 0 → ⊥ = λ e. untrue (c.if-is_empty.ensures.1 (ap length c.in_ok-from_regions.ensures ∙ length-map ms part_of_a ∙ e)) in
    c.in_ok-push.ensures.items
    ∙ ap (λ (op : RankOp). c.args.ops.now.items ++ (c.args.from, op) ∷ []) c.in_ok-op.ensures
    ∙ ap (λ xs. c.args.ops.now.items ++ xs) (sym (gives_some job.a job.b job.cut c.args.from c.args.to ms some))
    ∙ ap (λ (ts : List Meet). c.args.ops.now.items ++ gives job.a job.b job.cut c.args.from c.args.to ts) (c.in_ok-runs.ensures.meets rs cs h k)
