-- One more element is put in.
use Rattle.std.proofs.Common.{◌≡◌, ◌+◌, ℕ, ℤ, pos, ap, ◌∙◌, arith, rules, slice_index_or, FitsSigned, to_z, of_z, to_z-of_z}
use Rattle.std.specs.Int.{w32}
use Rattle.fold_ops.specs.declared.held.Held.{Held}
use Rattle.pack_words.specs.Accumulators.{held_at, no_held}
use Rattle.pack_words.proofs.Replacing.{replaced_more}
use Rattle.pack_words.proofs.accumulator.replace_pairs.Goals as goal

pub loop-k-preserved : goal.loop-k-preserved
loop-k-preserved c =
    let k = c.loop-k.k in
    let f : ℕ → Held = held_at c.args.words.now c.args.len in
    let other : ℤ → ℕ → Held = λ v p. record { value = v; place = p } in
    let value : ℤ = slice_index_or c.args.words.now k (pos 0) in
    let place : ℤ = slice_index_or c.args.words.now (c.args.len + k) (pos 0) in
    let value_fits : FitsSigned w32 value = search rules in
    let place_fits : FitsSigned w32 place = search rules in
    let same : other (to_z w32 (of_z w32 value)) c.cast_unsigned.result ≡ f k =
    ap (λ (v : ℤ). other v c.cast_unsigned.result) (to_z-of_z value_fits)
    ∙ ap (λ (p : ℕ). other value p) (c.cast_unsigned.ensures ∙ ap (of_z w32) (to_z-of_z place_fits)) in
    replaced_more f c.args.held.now c.loop-k.held k (other (to_z w32 (of_z w32 value)) c.cast_unsigned.result) no_held (omega arith) c.loop-k.invariant same
