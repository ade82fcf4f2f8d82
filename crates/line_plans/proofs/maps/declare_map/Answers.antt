use Rattle.std.proofs.Common.{◌≡◌, ℕ, ◌*◌, List, length, map, Result, Ok, Err, sym, ap, subst, ◌∙◌, arith}
use Rattle.std.specs.Prelude.{IfSome, IfNone}
use Rattle.std.specs.List.{range_with_len}
use Rattle.proc_grid.specs.Grid.{Grid}
use Rattle.proc_grid.specs.Refusals.{map_refusal, mapped_grid}
use Rattle.proc_grid.specs.declared.grid_err.GridErr.{GridErr}
use Rattle.proc_grid.specs.declared.grid_err.GridErr.TheVariants as grid_err
use Rattle.line_plans.specs.declared.grown.Grown.{Grown}
use Rattle.line_plans.specs.declared.halt.Halt.{Halt}
use Rattle.program_meaning.specs.Declarations.{map_line}
use Rattle.line_plans.specs.Maps.{column_entry}
use Rattle.line_plans.specs.Standing.{state_of, IsGrown}
use Rattle.line_plans.proofs.SoundLaws.{grid_made}
use Rattle.line_plans.proofs.MapLines.{map_ok, map_refused}
use Rattle.line_plans.proofs.maps.declare_map.Goals as goal

pub returns-in-Ok-gridmap-clause-done : goal.returns-in-Ok-gridmap-clause-done
returns-in-Ok-gridmap-clause-done c = λ p state is exact.
    let listed : c.as_slice-listed.result.now ≡ c.args.ranks.now = c.as_slice-listed.ensures in
    let whole : length c.args.ranks.now ≡ c.args.nprow * c.args.npcol = c.requires.whole in
    let world = c.world_of-world.ensures in
    let turned : c.deref.result.now ≡ map (column_entry c.args.ranks.now c.args.nprow c.args.npcol) (range_with_len 0 (c.args.nprow * c.args.npcol)) =
    c.deref.ensures.value ∙ c.in-Ok.ensures ∙ ap (λ (l : List ℕ). map (column_entry l c.args.nprow c.args.npcol) (range_with_len 0 (c.args.nprow * c.args.npcol))) listed in
    map_ok c.args.declared.shapes.ranks c.args.ranks.now c.args.nprow c.args.npcol c.deref.result.now whole turned p (state_of c.args.declared p state) c.with_grid.result c.in-Ok-gridmap.ctx
    (subst (λ n. IfSome (map_refusal n c.deref.result.now c.args.nprow c.args.nprow c.args.npcol) (λ e. (let x : Result Grid GridErr = Ok c.in-Ok-gridmap.ctx in x) ≡ Err e)) world c.in-Ok-gridmap.ensures.refused)
    (subst (λ n. IfNone (map_refusal n c.deref.result.now c.args.nprow c.args.nprow c.args.npcol) (c.in-Ok-gridmap.ctx ≡ mapped_grid c.deref.result.now c.args.nprow c.args.nprow c.args.npcol)) world c.in-Ok-gridmap.ensures.made)
    (grid_made c.args.declared p state c.in-Ok-gridmap.ctx c.with_grid.result is exact c.with_grid.ensures.ok c.with_grid.ensures.sizes c.with_grid.ensures.err)

pub returns-in-Err-clause-done : goal.returns-in-Err-clause-done
returns-in-Err-clause-done c = λ p state is exact.
    let listed : c.as_slice-listed.result.now ≡ c.args.ranks.now = c.as_slice-listed.ensures in
    let whole : length c.args.ranks.now ≡ c.args.nprow * c.args.npcol = c.requires.whole in
    let world = c.world_of-world.ensures in
    let turned : c.deref.result.now ≡ map (column_entry c.args.ranks.now c.args.nprow c.args.npcol) (range_with_len 0 (c.args.nprow * c.args.npcol)) =
    c.deref.ensures.value ∙ c.in-Ok.ensures ∙ ap (λ (l : List ℕ). map (column_entry l c.args.nprow c.args.npcol) (range_with_len 0 (c.args.nprow * c.args.npcol))) listed in
    subst (λ (h : Halt). IsGrown (let r : Result Grown Halt = Err h in r) p state (map_line c.args.nprow c.args.npcol c.args.ranks.now (state_of c.args.declared p state))) (sym c.grid_halt.ensures)
    (map_refused c.args.declared.shapes.ranks c.args.ranks.now c.args.nprow c.args.npcol c.deref.result.now whole turned p (state_of c.args.declared p state) c.in-Err.e
    (subst (λ n. IfSome (map_refusal n c.deref.result.now c.args.nprow c.args.nprow c.args.npcol) (λ x. (let y : Result Grid GridErr = Err c.in-Err.e in y) ≡ Err x)) world c.in-Err.ensures.refused)
    (subst (λ n. IfNone (map_refusal n c.deref.result.now c.args.nprow c.args.nprow c.args.npcol) (c.in-Err.e ≡ grid_err.NoMemory)) world c.in-Err.ensures.made))
