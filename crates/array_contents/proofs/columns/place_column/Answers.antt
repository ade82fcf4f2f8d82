-- One word more.
use Rattle.std.proofs.Common.{◌≡◌, ℤ, pos, ◌+ℤ◌, ◌*ℤ◌, length, ap, sym, ◌∙◌, arith, rules, FitsSigned, to_z, of_z, to_z-of_z}
use Rattle.std.specs.Int.{int_wrap, w32}
use Rattle.std.proofs.lemmas.List.{length-set}
use Rattle.array_contents.specs.Columns.{placed_word}
use Rattle.array_contents.proofs.PassLaws.{pass_done}
use Rattle.array_contents.proofs.ColumnLaws.{one_placed, placed_any}
use Rattle.array_contents.proofs.columns.place_column.Goals as goal

pub loop-i-preserved : goal.loop-i-preserved
loop-i-preserved c =
    let f = c.args.filling.now in
    let v : ℤ = c.stepped-in-loop-i.result in
    let k = c.loop-i.i in
    let fit-a : FitsSigned w32 f.a = search rules in
    let fit-b : FitsSigned w32 f.b = search rules in
    let fit-c : FitsSigned w32 f.c = search rules in
    let fit-d : FitsSigned w32 f.d = search rules in
    let fit-v : FitsSigned w32 v = search rules in
    let fit-inner : FitsSigned w32 c.stepped.result = search rules in
    let fit-first : FitsSigned w32 c.stepped-first.result = search rules in
    let inner : c.stepped.result ≡ int_wrap w32 (f.a +ℤ (f.c *ℤ pos c.args.j)) =
    c.stepped.ensures ∙ ap (λ x. int_wrap w32 (x +ℤ (to_z w32 (of_z w32 f.c) *ℤ pos c.args.j))) (to_z-of_z fit-a) ∙ ap (λ x. int_wrap w32 (f.a +ℤ (x *ℤ pos c.args.j))) (to_z-of_z fit-c) in
    let first : c.stepped-first.result ≡ int_wrap w32 (c.stepped.result +ℤ (f.d *ℤ pos c.args.rank)) =
    c.stepped-first.ensures ∙ ap (λ x. int_wrap w32 (x +ℤ (to_z w32 (of_z w32 f.d) *ℤ pos c.args.rank))) (to_z-of_z fit-inner) ∙ ap (λ x. int_wrap w32 (c.stepped.result +ℤ (x *ℤ pos c.args.rank))) (to_z-of_z fit-d) in
    let word : to_z w32 (of_z w32 v) ≡ int_wrap w32 (c.stepped-first.result +ℤ (f.b *ℤ pos k)) =
    to_z-of_z fit-v ∙ c.stepped-in-loop-i.ensures ∙ ap (λ x. int_wrap w32 (x +ℤ (to_z w32 (of_z w32 f.b) *ℤ pos k))) (to_z-of_z fit-first) ∙ ap (λ x. int_wrap w32 (c.stepped-first.result +ℤ (x *ℤ pos k))) (to_z-of_z fit-b) in
    record {
      done = one_placed f c.args.rank c.args.j k c.stepped.result c.stepped-first.result (to_z w32 (of_z w32 v)) c.loop-i.words (omega (arith, c.loop-i.invariant.long)) inner first word ∙ c.loop-i.invariant.done;
      long = length-set c.loop-i.words k (to_z w32 (of_z w32 v)) ∙ c.loop-i.invariant.long;
    }

pub returns : goal.returns
returns c =
    let f = placed_word c.args.filling.now c.args.rank c.args.j in
    λ before long.
    placed_any c.args.filling.now c.args.rank c.args.j c.args.words.now c.loop-i.words before (sym (pass_done f c.loop-i.words c.loop-i.i (omega (arith, c.loop-i.invariant.long, c.requires))) ∙ c.loop-i.invariant.done) long
