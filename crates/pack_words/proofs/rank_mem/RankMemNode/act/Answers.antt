-- The accumulator is loaded.
use Rattle.std.proofs.Common.{◌≡◌, ◌*◌, List, length, slice_index_or, sym, ap, ◌∙◌, rules}
use Rattle.std.proofs.lemmas.List.{with_items_is}
use Rattle.fold_ops.specs.declared.held.Held.{Held}
use Rattle.pack_words.specs.declared.rank_op.RankOp.TheVariants.{LoadAcc}
use Rattle.pack_words.specs.LocalCells.{LocalCells, zeros}
use Rattle.pack_words.specs.WholeRegions.{whole_words}
use Rattle.pack_words.specs.Accumulators.{loaded_with}
use Rattle.pack_words.specs.RankOps.{RankState, rank_acted}
use Rattle.pack_words.proofs.rank_mem.RankMemNode.act.Goals as goal

pub returns-in-LoadAcc : goal.returns-in-LoadAcc
returns-in-LoadAcc c =
    let with_held : List Held → RankState = λ hs. record { arrays = c.self.inside.arrays.items; held = hs } in
    let r = c.in-LoadAcc.region in
    let loaded : List LocalCells → List Held → List Held = λ cs hs. loaded_with (whole_words r (slice_index_or cs c.in-LoadAcc.array (zeros 1 0))) c.in-LoadAcc.place (r.rows * r.cols) hs in
    let as_long : length c.load.new.held ≡ c.self.inside.held.len = search rules in
    ap with_held (with_items_is c.self.inside.held c.load.new.held as_long ∙ c.load.ensures ∙ ap (λ cs. loaded cs c.deref_mut-in-LoadAcc.result.now) c.deref.ensures.value ∙ ap (loaded c.self.inside.arrays.items) c.deref_mut-in-LoadAcc.ensures.value)
    ∙ ap (λ (s : RankState). rank_acted s (LoadAcc c.in-LoadAcc.array c.in-LoadAcc.region c.in-LoadAcc.place)) c.self.view_is
    ∙ ap (rank_acted c.args.self.now) (sym c.in-LoadAcc.is)
