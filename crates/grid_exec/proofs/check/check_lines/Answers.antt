use Rattle.std.proofs.Common.{sym}
use Rattle.program_meaning.specs.ProgramState.{begun}
use Rattle.line_plans.specs.Standing.{state_of}
use Rattle.grid_exec.proofs.LaterLines.{may_begin}
use Rattle.grid_exec.proofs.Beginnings.{begun_of, begun_exact, begun_is}
use Rattle.grid_exec.proofs.CheckSteps.{rest_is, checked_front, checked_end_ok, checked_end_err}
use Rattle.grid_exec.proofs.check.check_lines.Goals as goal

pub check_front-requires : goal.check_front-requires
check_front-requires c = record { known = may_begin c.in-Ok.declared c.args.ranks c.args.lines.now c.in-Ok.ensures c.requires.sound }

pub returns-in-Err : goal.returns-in-Err
returns-in-Err c =
    checked_front c.in-Ok-new.plan c.args.ranks (state_of c.in-Ok.declared c.in-Ok-new.plan (begun c.args.ranks).state) c.args.lines.now c.in-Err.e (begun_is c.in-Ok.declared c.in-Ok-new.plan c.args.ranks c.in-Ok.ensures c.in-Ok-new.ensures.1)
    (c.in-Err.ensures.done (begun c.args.ranks).state (begun_of c.in-Ok.declared c.in-Ok-new.plan c.args.ranks c.in-Ok.ensures c.in-Ok-new.ensures.1) (begun_exact c.in-Ok.declared c.args.ranks c.in-Ok.ensures))

pub returns-in-Ok-plan_exchanges : goal.returns-in-Ok-plan_exchanges
returns-in-Ok-plan_exchanges c =
    let w = c.in-Ok-check_front.ensures.done (begun c.args.ranks).state (begun_of c.in-Ok.declared c.in-Ok-new.plan c.args.ranks c.in-Ok.ensures c.in-Ok-new.ensures.1) (begun_exact c.in-Ok.declared c.args.ranks c.in-Ok.ensures) in
    checked_end_ok c.in-Ok-check_front.front.0 c.in-Ok-new.plan c.plan_exchanges.new.plan c.args.ranks c.args.lines.now c.in-Ok-check_front.front.1 (state_of c.in-Ok.declared c.in-Ok-new.plan (begun c.args.ranks).state) w c.in-Ok-check_front.ensures.inside
    (begun_is c.in-Ok.declared c.in-Ok-new.plan c.args.ranks c.in-Ok.ensures c.in-Ok-new.ensures.1) c.in-Ok-plan_exchanges.field-0 c.summary.result (c.in-Ok-plan_exchanges.ensures.done w.state w.of_plan) c.summary.ensures

pub returns : goal.returns
returns c =
    let w = c.in-Ok-check_front.ensures.done (begun c.args.ranks).state (begun_of c.in-Ok.declared c.in-Ok-new.plan c.args.ranks c.in-Ok.ensures c.in-Ok-new.ensures.1) (begun_exact c.in-Ok.declared c.args.ranks c.in-Ok.ensures) in
    checked_end_err c.in-Ok-check_front.front.0 c.in-Ok-new.plan c.plan_exchanges.new.plan c.args.ranks c.args.lines.now c.in-Ok-check_front.front.1 (state_of c.in-Ok.declared c.in-Ok-new.plan (begun c.args.ranks).state) w c.in-Ok-check_front.ensures.inside
    (begun_is c.in-Ok.declared c.in-Ok-new.plan c.args.ranks c.in-Ok.ensures c.in-Ok-new.ensures.1) c.in-Err-plan_exchanges.e (c.in-Err-plan_exchanges.ensures.done w.state w.of_plan)
