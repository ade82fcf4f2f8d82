use Rattle.std.proofs.Common.{Bool, ap, sym, ◌∙◌}
use Rattle.std.specs.Prelude.{is_some}
use Rattle.store_io.specs.MemState.{MemState}
use Rattle.store_io.specs.MemSteps.{with_piece}
use Rattle.store_io.specs.MemView.{mem_view}
use Rattle.store_io.proofs.EntryLaws.{fails_kept}
use Rattle.store_io.proofs.MemLaws.{same_mem, grown, output_stays, left_kept, input_kept}
use Rattle.store_io.proofs.mem_store.MemStore.append.Goals as goal

pub returns : goal.returns
returns c =
    let keeps = c.grow-content.ensures.keeps in
    let is = c.self.invariant in
    same_mem (grown _ _ c.self.inside.entries.items _ c.in-Some.entry c.grow-content.result c.args.piece.now c.in-Some.is keeps is.entries is.output c.grow-content.ensures.holds) (left_kept _ _ c.self.inside.input keeps is.input)
    (output_stays _ _ _ c.in-Some.entry c.in-Some.is keeps is.output) (input_kept _ _ c.self.inside.input keeps is.input) (fails_kept _ _ _ keeps is.fails) c.grow-content.ensures.room
    ∙ ap (λ (r : Bool). record (with_piece (mem_view c.self.inside) c.args.piece.now) { outside = record (with_piece (mem_view c.self.inside) c.args.piece.now).outside { writing = r } }) (sym (ap is_some c.in-Some.is))
    ∙ ap (λ (s : MemState). with_piece s c.args.piece.now) c.self.view_is
