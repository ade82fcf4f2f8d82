use Rattle.std.proofs.Common.{◌≢◌, ◌<◌, IsTrue, List, ap, sym, subst, ◌∙◌, arith}
use Rattle.std.specs.Prelude.{is_some}
use Rattle.std.specs.FinMap.{empty}
use Rattle.store_io.specs.MemState.{MemState}
use Rattle.store_io.specs.MemSteps.{with_file}
use Rattle.store_io.specs.Heap.{Keeps}
use Rattle.store_io.specs.Entries.{output_of, files_of, with_output}
use Rattle.store_io.specs.declared.entries.Entry.{Entry}
use Rattle.store_io.proofs.EntryLaws.{fails_kept, names_kept, entries_kept, entries_more, keeps_then}
use Rattle.store_io.proofs.MemLaws.{same_mem, laid, output_kept, left_kept, input_kept, is_input_kept, is_output_kept}
use Rattle.store_io.proofs.mem_store.MemStore.lay.Goals as goal

pub returns : goal.returns
returns c =
    let is = c.self.invariant in
    let keeps : Keeps c.self.inside.heap c.lay-content.new.self = keeps_then _ _ _ c.lay-name.ensures.keeps c.lay-content.ensures.keeps in
    let at = c.lay-content.ensures.keeps c.lay-name.result c.lay-name.ensures.part in
    let e : Entry = record { name = c.lay-name.result; content = c.lay-content.result } in
    let other : IsTrue (is_some c.self.inside.output) → output_of c.self.inside.heap c.self.inside.output ≢ c.args.name.now
    = subst (λ (s : MemState). IsTrue s.outside.writing → s.outside.output ≢ c.args.name.now) (sym c.self.view_is) c.requires.other in
    same_mem (ap (λ (es : List Entry). with_output c.lay-content.new.self c.self.inside.output (files_of empty c.lay-content.new.self es)) c.push_reserved.ensures.items
    ∙ laid _ _ c.self.inside.entries.items c.self.inside.output e c.args.name.now c.args.content.now keeps is.entries is.output (at.1 ∙ c.lay-name.ensures.holds) c.lay-content.ensures.holds other)
    (left_kept _ _ c.self.inside.input keeps is.input) (output_kept _ _ c.self.inside.output keeps is.output) (input_kept _ _ c.self.inside.input keeps is.input) (fails_kept _ _ _ keeps is.fails)
    (omega (arith, c.lay-name.ensures.room, c.lay-content.ensures.room)) ∙ ap (λ (s : MemState). with_file s c.args.name.now c.args.content.now) c.self.view_is

pub invariant_of-self : goal.invariant_of-self
invariant_of-self c =
    let is = c.self.invariant in
    let room : 0 < c.self.inside.unused = subst (λ (s : MemState). 0 < s.entries) (sym c.self.view_is) c.requires.room.entry in
    let keeps : Keeps c.self.inside.heap c.lay-content.new.self = keeps_then _ _ _ c.lay-name.ensures.keeps c.lay-content.ensures.keeps in
    let at = c.lay-content.ensures.keeps c.lay-name.result c.lay-name.ensures.part in
    let e : Entry = record { name = c.lay-name.result; content = c.lay-content.result } in
    record {
      entries = rw c.push_reserved.ensures.items (entries_more c.lay-content.new.self c.self.inside.entries.items e (entries_kept _ _ _ keeps is.entries) (record { name = at.0; content = c.lay-content.ensures.part }));
      output = is_output_kept _ _ _ keeps (c.lay-content.ensures.main ∙ c.lay-name.ensures.main) is.output;
      input = is_input_kept _ _ _ keeps is.input;
      fails = names_kept _ _ _ keeps is.fails;
      places = omega (arith, is.places, room, c.push_reserved.ensures.len, c.push_reserved.ensures.capacity);
    }
