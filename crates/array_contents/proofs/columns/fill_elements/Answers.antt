-- One element more.
use Rattle.std.proofs.Common.{◌≡◌, ℤ, pos, ◌+ℤ◌, ◌*ℤ◌, length, slice_index_or, ap, ◌∙◌, arith, rules, FitsSigned, to_z, of_z, to_z-of_z}
use Rattle.std.specs.Int.{int_wrap, w32}
use Rattle.std.proofs.lemmas.List.{length-set}
use Rattle.array_contents.proofs.ColumnLaws.{one_filled}
use Rattle.array_contents.proofs.columns.fill_elements.Goals as goal

pub loop-k-preserved : goal.loop-k-preserved
loop-k-preserved c =
    let f = c.args.filling.now in
    let v : ℤ = c.stepped.result in
    let rows = c.args.rows.now in
    let fit-a : FitsSigned w32 f.a = search rules in
    let fit-b : FitsSigned w32 f.b = search rules in
    let fit-c : FitsSigned w32 f.c = search rules in
    let fit-v : FitsSigned w32 v = search rules in
    let fit-first : FitsSigned w32 c.stepped-first.result = search rules in
    let first : c.stepped-first.result ≡ int_wrap w32 (f.a +ℤ (f.c *ℤ pos c.args.j)) =
    c.stepped-first.ensures ∙ ap (λ x. int_wrap w32 (x +ℤ (to_z w32 (of_z w32 f.c) *ℤ pos c.args.j))) (to_z-of_z fit-a) ∙ ap (λ x. int_wrap w32 (f.a +ℤ (x *ℤ pos c.args.j))) (to_z-of_z fit-c) in
    let word : to_z w32 (of_z w32 v) ≡ int_wrap w32 (c.stepped-first.result +ℤ (f.b *ℤ pos (slice_index_or rows c.loop-k.k 0))) =
    to_z-of_z fit-v ∙ c.stepped.ensures
    ∙ ap (λ x. int_wrap w32 (x +ℤ (to_z w32 (of_z w32 f.b) *ℤ pos (slice_index_or rows c.loop-k.k 0)))) (to_z-of_z fit-first)
    ∙ ap (λ x. int_wrap w32 (c.stepped-first.result +ℤ (x *ℤ pos (slice_index_or rows c.loop-k.k 0)))) (to_z-of_z fit-b) in
    record {
      done = one_filled f rows c.args.j c.loop-k.k 0 c.stepped-first.result (to_z w32 (of_z w32 v)) c.loop-k.words (omega arith) (omega (arith, c.requires, c.loop-k.invariant.long)) first word ∙ c.loop-k.invariant.done;
      long = length-set c.loop-k.words c.loop-k.k (to_z w32 (of_z w32 v)) ∙ c.loop-k.invariant.long;
    }
