-- One more element is joined.
use Rattle.std.proofs.Common.{◌≡◌, ℕ, ℤ, pos, ap, ◌∙◌, arith, rules, slice_index_or, FitsSigned, to_z, of_z, to_z-of_z}
use Rattle.std.specs.Int.{w32}
use Rattle.fold_ops.specs.declared.held.Held.{Held}
use Rattle.fold_ops.specs.Join.{sum_joined}
use Rattle.pack_words.specs.Accumulators.{value_at, no_held}
use Rattle.pack_words.proofs.Replacing.{replaced_more, read_behind}
use Rattle.pack_words.proofs.accumulator.add_values.Goals as goal

pub loop-k-preserved : goal.loop-k-preserved
loop-k-preserved c =
    let k = c.loop-k.k in
    let f : ℕ → Held = λ k. sum_joined (slice_index_or c.args.held.now k no_held) (value_at c.args.words.now k) in
    let other : ℤ → Held = λ v. record { value = v; place = 0 } in
    let value : ℤ = slice_index_or c.args.words.now k (pos 0) in
    let value_fits : FitsSigned w32 value = search rules in
    let read = read_behind f c.args.held.now c.loop-k.held k no_held no_held (omega arith) c.loop-k.invariant in
    let same : c.join.result ≡ f k =
    c.join.ensures
    ∙ ap (λ (h : Held). sum_joined h (other (to_z w32 (of_z w32 value)))) read
    ∙ ap (λ (v : ℤ). sum_joined (slice_index_or c.args.held.now k no_held) (other v)) (to_z-of_z value_fits) in
    replaced_more f c.args.held.now c.loop-k.held k c.join.result no_held (omega arith) c.loop-k.invariant same
