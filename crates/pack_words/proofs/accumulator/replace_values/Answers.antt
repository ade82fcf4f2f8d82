-- One more element is put in.
use Rattle.std.proofs.Common.{ℕ, ℤ, pos, ap, arith, rules, slice_index_or, FitsSigned, to_z, of_z, to_z-of_z}
use Rattle.std.specs.Int.{w32}
use Rattle.fold_ops.specs.declared.held.Held.{Held}
use Rattle.pack_words.specs.Accumulators.{value_at, no_held}
use Rattle.pack_words.proofs.Replacing.{replaced_more}
use Rattle.pack_words.proofs.accumulator.replace_values.Goals as goal

pub loop-k-preserved : goal.loop-k-preserved
loop-k-preserved c =
    let k = c.loop-k.k in
    let f : ℕ → Held = value_at c.args.words.now in
    let other : ℤ → Held = λ v. record { value = v; place = 0 } in
    let value : ℤ = slice_index_or c.args.words.now k (pos 0) in
    let value_fits : FitsSigned w32 value = search rules in
    replaced_more f c.args.held.now c.loop-k.held k (other (to_z w32 (of_z w32 value))) no_held (omega arith) c.loop-k.invariant (ap other (to_z-of_z value_fits))
