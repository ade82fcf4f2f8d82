use Rattle.std.proofs.Common.{◌≡◌, ◌∙◌, drop, take, length, ◌-◌, List, Ok, Err, refl, sym, ap, subst}
use Rattle.grid_lang.specs.declared.line.Numbered.{Numbered}
use Rattle.pack_words.specs.GridShapes.{ShapesView}
use Rattle.program_meaning.specs.Programs.{lines_done, no_loads}
use Rattle.grid_exec.specs.declared.planning.Planned.{Planned}
use Rattle.grid_exec.specs.Holding.{resting}
use Rattle.grid_exec.specs.Planning.{IsPlanned}
use Rattle.grid_exec.specs.Reading.{standing}
use Rattle.grid_exec.proofs.LaterLines.{may_begin}
use Rattle.grid_exec.proofs.Beginnings.{rests}
use Rattle.grid_exec.proofs.CheckSteps.{rest_is}
use Rattle.grid_exec.proofs.EndLaws.{planned_end, planned_stop, planned_cause, asks_all}
use Rattle.grid_exec.proofs.planning.plan_lines.Goals as goal

pub fill_lines-requires-clause-known : goal.fill_lines-requires-clause-known
fill_lines-requires-clause-known g c = may_begin c.in-Ok.held.declared c.args.ranks c.args.lines.now c.in-Ok.ensures.begun c.requires.sound

pub returns-in-Ok-plan_exchanges-clause-done : goal.returns-in-Ok-plan_exchanges-clause-done
returns-in-Ok-plan_exchanges-clause-done g c =
    let h = c.in-Ok-fill_lines.front.0 in
    let p = c.in-Ok-new.plan in
    let q = c.plan_exchanges.new.plan in
    let of = rests c.in-Ok-fill_lines.front.0.declared.shapes p c.in-Ok-fill_lines.front.0.contents c.in-Ok-new.ensures.1 c.in-Ok-fill_lines.front.0.holds.shaped in
    planned_end (g.S.Store.state c.args.store.now) c.in-Ok.held h c.args.ranks c.in-Ok-fill_lines.front.1 p q c.args.lines.now c.in-Ok.ensures.begun c.in-Ok.ensures.none c.in-Ok-new.ensures.1 c.in-Ok-fill_lines.ensures.done c.in-Ok-fill_lines.ensures.later
    (record { held = c.in-Ok-fill_lines.front.0; plan = c.plan_exchanges.new.plan }) refl refl
    (c.in-Ok-plan_exchanges.ensures.ranks ∙ c.in-Ok-new.ensures.0 ∙ sym (c.in-Ok-fill_lines.ensures.ranks ∙ ap (λ (v : ShapesView). v.ranks) c.in-Ok.ensures.begun.shapes))
    (lines_done no_loads (standing h p) (drop c.in-Ok-fill_lines.front.1 c.args.lines.now)) refl
    (subst (λ (ls : List Numbered). IsPlanned (Ok tt) h.declared p q (resting h.contents) (lines_done no_loads (standing h p) ls)) (rest_is c.args.lines.now c.in-Ok-fill_lines.front.1) (c.in-Ok-plan_exchanges.ensures.done (resting h.contents) of))

pub returns-in-Ok-plan_exchanges-clause-asks : goal.returns-in-Ok-plan_exchanges-clause-asks
returns-in-Ok-plan_exchanges-clause-asks g c = asks_all c.in-Ok-fill_lines.front.0.declared c.args.lines.now c.in-Ok-fill_lines.front.1 c.in-Ok-fill_lines.ensures.front c.in-Ok-fill_lines.ensures.known c.in-Ok-fill_lines.ensures.later

pub returns-in-Err-plan_exchanges-clause-done : goal.returns-in-Err-plan_exchanges-clause-done
returns-in-Err-plan_exchanges-clause-done g c =
    let h = c.in-Ok-fill_lines.front.0 in
    let p = c.in-Ok-new.plan in
    let q = c.plan_exchanges.new.plan in
    let of = rests c.in-Ok-fill_lines.front.0.declared.shapes p c.in-Ok-fill_lines.front.0.contents c.in-Ok-new.ensures.1 c.in-Ok-fill_lines.front.0.holds.shaped in
    planned_stop (g.S.Store.state c.args.store.now) c.in-Ok.held h c.args.ranks c.in-Ok-fill_lines.front.1 p q c.args.lines.now c.in-Ok.ensures.begun c.in-Ok.ensures.none c.in-Ok-new.ensures.1 c.in-Ok-fill_lines.ensures.done c.in-Ok-fill_lines.ensures.later
    c.in-Err-plan_exchanges.e (lines_done no_loads (standing h p) (drop c.in-Ok-fill_lines.front.1 c.args.lines.now)) refl
    (subst (λ (ls : List Numbered). IsPlanned (Err c.in-Err-plan_exchanges.e) h.declared p q (resting h.contents) (lines_done no_loads (standing h p) ls)) (rest_is c.args.lines.now c.in-Ok-fill_lines.front.1) (c.in-Err-plan_exchanges.ensures.done (resting h.contents) of))

pub returns-in-Err-plan_exchanges-clause-cause : goal.returns-in-Err-plan_exchanges-clause-cause
returns-in-Err-plan_exchanges-clause-cause g c =
    let of = rests c.in-Ok-fill_lines.front.0.declared.shapes c.in-Ok-new.plan c.in-Ok-fill_lines.front.0.contents c.in-Ok-new.ensures.1 c.in-Ok-fill_lines.front.0.holds.shaped in
    planned_cause Planned (g.S.Store.state c.args.store.now) (g.S.Store.state c.fill_lines.new.store) c.in-Ok-fill_lines.front.0.declared c.in-Ok-new.plan c.plan_exchanges.new.plan (resting c.in-Ok-fill_lines.front.0.contents) _ c.in-Err-plan_exchanges.e (c.in-Err-plan_exchanges.ensures.done (resting c.in-Ok-fill_lines.front.0.contents) of) c.in-Ok-fill_lines.ensures.cause
