use Rattle.std.proofs.Common.{◌≡◌, ◌<◌, false, ap, sym, subst, ◌∙◌, arith}
use Rattle.std.specs.Prelude.{is_some}
use Rattle.store_io.specs.MemState.{MemState}
use Rattle.store_io.specs.MemSteps.{with_file, with_output}
use Rattle.store_io.specs.Heap.{Keeps}
use Rattle.store_io.specs.declared.entries.Entry.{Entry}
use Rattle.store_io.proofs.EntryLaws.{fails_kept, names_kept, entries_kept, keeps_then}
use Rattle.store_io.proofs.MemLaws.{same_mem, begun, left_kept, input_kept, is_input_kept}
use Rattle.store_io.proofs.mem_store.MemStore.begin.Goals as goal

pub returns : goal.returns
returns c =
    let is = c.self.invariant in
    let keeps : Keeps c.self.inside.heap c.add-content.new.self = keeps_then _ _ _ c.add-name.ensures.keeps c.add-content.ensures.keeps in
    let at = c.add-content.ensures.keeps c.add-name.result c.add-name.ensures.part in
    let e : Entry = record { name = c.add-name.result; content = c.add-content.result } in
    let closed : is_some c.self.inside.output ≡ false = ap (λ (s : MemState). s.outside.writing) c.self.view_is ∙ c.requires.closed in
    same_mem (begun _ _ c.self.inside.entries.items c.self.inside.output e c.args.name.now c.args.content.now keeps is.entries closed (at.1 ∙ c.add-name.ensures.holds) c.add-content.ensures.holds)
    (left_kept _ _ c.self.inside.input keeps is.input) (at.1 ∙ c.add-name.ensures.holds) (input_kept _ _ c.self.inside.input keeps is.input) (fails_kept _ _ _ keeps is.fails)
    (omega (arith, c.add-name.ensures.room, c.add-content.ensures.room)) ∙ ap (λ (s : MemState). with_output (with_file s c.args.name.now c.args.content.now) c.args.name.now) c.self.view_is

pub invariant_of-self : goal.invariant_of-self
invariant_of-self c =
    let is = c.self.invariant in
    let room : 0 < c.self.inside.unused = subst (λ (s : MemState). 0 < s.entries) (sym c.self.view_is) c.requires.room.entry in
    let keeps : Keeps c.self.inside.heap c.add-content.new.self = keeps_then _ _ _ c.add-name.ensures.keeps c.add-content.ensures.keeps in
    let at = c.add-content.ensures.keeps c.add-name.result c.add-name.ensures.part in
    record {
      entries = entries_kept _ _ _ keeps is.entries;
      output = record { entry = record { name = at.0; content = c.add-content.ensures.part }; last = c.add-content.ensures.last };
      input = is_input_kept _ _ _ keeps is.input;
      fails = names_kept _ _ _ keeps is.fails;
      places = omega (arith, is.places, room);
    }
