use Rattle.std.proofs.Common.{◌-◌, ◌∷◌, ◌++◌, [], length, ap, ◌∙◌}
use Rattle.store_io.specs.MemState.{MemState}
use Rattle.store_io.specs.declared.fails.FailEntry.{FailEntry}
use Rattle.store_io.specs.Heap.{IsPart}
use Rattle.store_io.proofs.EntryLaws.{names_kept, names_more, entries_kept}
use Rattle.store_io.proofs.MemLaws.{same_mem, files_stay, fails_more, output_kept, left_kept, input_kept, is_input_kept, is_output_kept}
use Rattle.store_io.proofs.mem_store.MemStore.add_fail.Goals as goal

pub returns-clause-set : goal.returns-clause-set
returns-clause-set c =
    let is = c.self.invariant in
    let keeps = c.lay-name.ensures.keeps in
    let e : FailEntry = record { kind = c.args.kind; name = c.lay-name.result; nth = c.args.nth } in
    same_mem (files_stay _ _ c.self.inside.entries.items c.self.inside.output keeps is.entries is.output) (left_kept _ _ c.self.inside.input keeps is.input) (output_kept _ _ c.self.inside.output keeps is.output)
    (input_kept _ _ c.self.inside.input keeps is.input) (fails_more _ _ _ c.self.inside.fails.items e c.args.name.now keeps is.fails c.lay-name.ensures.holds c.push.ensures.items) c.lay-name.ensures.room
    ∙ ap (λ (s : MemState). record s { fails = s.fails ++ record { kind = c.args.kind; name = c.args.name.now; nth = c.args.nth } ∷ []; room = s.room - length c.args.name.now }) c.self.view_is

pub invariant_of-self : goal.invariant_of-self
invariant_of-self c =
    let is = c.self.invariant in
    let keeps = c.lay-name.ensures.keeps in
    let e : FailEntry = record { kind = c.args.kind; name = c.lay-name.result; nth = c.args.nth } in
    record {
      entries = entries_kept _ _ _ keeps is.entries;
      output = is_output_kept _ _ _ keeps c.lay-name.ensures.main is.output;
      input = is_input_kept _ _ _ keeps is.input;
      fails = rw c.push.ensures.items (names_more (IsPart c.lay-name.new.self) c.self.inside.fails.items e (names_kept _ _ _ keeps is.fails) c.lay-name.ensures.part);
      places = is.places;
    }
