-- One more element is loaded.
use Rattle.std.proofs.Common.{◌≡◌, ◌+◌, ◌%◌, ℕ, ℤ, pos, sym, ap, ◌∙◌, arith, rules, slice_index_or, FitsSigned, to_z, of_z, to_z-of_z}
use Rattle.std.specs.Int.{w32, int_wrap}
use Rattle.std.proofs.lemmas.Int.{int_wrap_fits}
use Rattle.fold_ops.specs.declared.held.Held.{Held}
use Rattle.pack_words.specs.LocalCells.{word_at}
use Rattle.pack_words.specs.WholeRegions.{whole_words}
use Rattle.pack_words.specs.Accumulators.{no_held}
use Rattle.pack_words.proofs.Replacing.{replaced_more}
use Rattle.pack_words.proofs.WholeLaws.{nth_word}
use Rattle.pack_words.proofs.elements.load_elements.Goals as goal

pub loop-k-preserved : goal.loop-k-preserved
loop-k-preserved c =
    let k = c.loop-k.k in
    let r = c.args.region.now in
    let a = c.args.array.now in
    let other : ℤ → Held = λ v. record { value = v; place = c.args.place } in
    let row = c.nth_place-i.ensures.row in
    let column = c.nth_place-i.ensures.column in
    let low = c.nth_place-i.ensures.row_within in
    let left = c.nth_place-i.ensures.column_within in
    let x : ℤ = c.get-value.result in
    let fits : FitsSigned w32 x = search rules in
    let word : x ≡ slice_index_or (whole_words r a) k (pos 0) =
    c.get-value.ensures ∙ ap (λ (i : ℕ). word_at a i c.nth_place-i.result.1) row ∙ ap (λ (j : ℕ). word_at a (r.li + k % r.rows) j) column
    ∙ sym (nth_word r a k (omega arith) (omega arith) (omega arith)) in
    replaced_more (λ k. other (int_wrap w32 (slice_index_or (whole_words r a) k (pos 0)))) c.args.held.now c.loop-k.held k (other (to_z w32 (of_z w32 x))) no_held (omega arith) c.loop-k.invariant
    (ap other (to_z-of_z fits ∙ sym (int_wrap_fits w32 x fits) ∙ ap (int_wrap w32) word))
