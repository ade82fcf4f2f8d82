use Rattle.std.proofs.Common.{◌≡◌, ◌≤◌, ◌++◌, Bool, List, ℕ, length, take, drop, refl, ap, sym, ◌∙◌, arith}
use Rattle.std.proofs.lemmas.Grind.{common_steps}
use Rattle.std.proofs.lemmas.List.{take_at, take-append-drop}
use Rattle.std.specs.Prelude.{is_some}
use Rattle.store_io.specs.MemState.{MemState}
use Rattle.store_io.specs.MemSteps.{with_left}
use Rattle.store_io.specs.MemView.{mem_view}
use Rattle.store_io.specs.Heap.{part_of}
use Rattle.store_io.specs.Entries.{left_of, input_of}
use Rattle.store_io.proofs.MemLaws.{same_mem, rest_left}
use Rattle.store_io.proofs.mem_store.MemStore.take.Goals as goal

pub returns-clause-taken : goal.returns-clause-taken
returns-clause-taken c =
    let count : c.min-count.result ≤ length (part_of c.self.inside.heap c.in-Some.input.left) = grind (arith, common_steps) in
    let len : length c.copy_from_slice.new.self ≡ c.min-count.result = grind (arith, common_steps) in
    let copied : c.copy_from_slice.new.self ≡ take c.min-count.result (left_of c.self.inside.heap c.self.inside.input)
    = c.copy_from_slice.ensures.after ∙ ap (take c.min-count.result) (c.part-left.ensures ∙ ap (left_of c.self.inside.heap) (sym c.in-Some.is)) in
    ap (λ (s : MemState). s.outside.left) (sym c.self.view_is) ∙ sym (take-append-drop c.min-count.result (left_of c.self.inside.heap c.self.inside.input))
    ∙ ap (λ (s : List ℕ). s ++ drop c.min-count.result (left_of c.self.inside.heap c.self.inside.input)) (sym copied ∙ sym (take_at c.copy_from_slice.new.self (drop c.min-count.result c.args.room.now) c.min-count.result len))
    ∙ ap (λ (s : List ℕ). take c.min-count.result (c.copy_from_slice.new.self ++ drop c.min-count.result c.args.room.now) ++ s) (sym (rest_left c.self.inside.heap c.self.inside.input c.in-Some.input c.min-count.result c.in-Some.is c.self.invariant.input count))

pub returns-clause-rest : goal.returns-clause-rest
returns-clause-rest c =
    let count : c.min-count.result ≤ length (part_of c.self.inside.heap c.in-Some.input.left) = grind (arith, common_steps) in
    same_mem refl (rest_left c.self.inside.heap c.self.inside.input c.in-Some.input c.min-count.result c.in-Some.is c.self.invariant.input count) refl (ap (input_of c.self.inside.heap) (sym c.in-Some.is)) refl refl
    ∙ ap (λ (r : Bool). record (with_left (mem_view c.self.inside) (drop c.min-count.result (mem_view c.self.inside).outside.left)) { outside = record (with_left (mem_view c.self.inside) (drop c.min-count.result (mem_view c.self.inside).outside.left)).outside { reading = r } }) (sym (ap is_some c.in-Some.is))
    ∙ ap (λ (s : MemState). with_left s (drop c.min-count.result s.outside.left)) c.self.view_is
