-- One more element is stored.
use Rattle.std.proofs.Common.{◌≡◌, ◌+◌, ◌*◌, ◌%◌, ◌/◌, ℕ, ℤ, pos, List, [], ◌∷◌, length, map, take, sym, ap, ◌∙◌, subst, arith, rules, slice_index_or, FitsSigned, to_z-of_z}
use Rattle.std.specs.Int.{w32}
use Rattle.std.proofs.lemmas.List.{length-map, length-take, get_or-map, get_or-take}
use Rattle.fold_ops.specs.declared.held.Held.{Held}
use Rattle.pack_words.specs.LocalCells.{LocalCells, with_word}
use Rattle.pack_words.specs.Packing.{IsInArray, spots, with_words}
use Rattle.pack_words.specs.WholeRegions.{whole_cut}
use Rattle.pack_words.specs.Accumulators.{no_held}
use Rattle.pack_words.specs.Coordinates.{written_word}
use Rattle.pack_words.proofs.Going.{in_array_after}
use Rattle.pack_words.proofs.WholeLaws.{one_more_word, all_words}
use Rattle.pack_words.proofs.elements.store_elements.Goals as goal

pub loop-k-preserved : goal.loop-k-preserved
loop-k-preserved c =
    let k = c.loop-k.k in
    let r = c.args.region.now in
    let n : ℕ = r.rows * r.cols in
    let hs : List Held = c.args.held.now in
    let ws : List ℤ = map (written_word c.args.written.now) (take n hs) in
    let size : length (take n hs) ≡ n = let e = length-take n hs in omega arith in
    let long : length ws ≡ n = length-map (take n hs) (written_word c.args.written.now) ∙ size in
    let row = c.nth_place-i.ensures.row in
    let column = c.nth_place-i.ensures.column in
    let low = c.nth_place-i.ensures.row_within in
    let left = c.nth_place-i.ensures.column_within in
    let word : c.word_of.result ≡ slice_index_or ws k (pos 0) =
    c.word_of.ensures
    ∙ ap (written_word c.args.written.now) (sym (get_or-take n hs k no_held (omega arith)))
    ∙ sym (get_or-map (written_word c.args.written.now) (take n hs) k no_held (pos 0) (omega arith)) in
    let before : LocalCells = c.loop-k.array in
    let fits : FitsSigned w32 c.word_of.result = search rules in
    let after : c.set.new.self ≡ with_words c.args.array.now (take (k + 1) (spots (whole_cut r) (r ∷ []))) (take (k + 1) ws) =
    c.set.ensures.after
    ∙ ap (λ (x : ℤ). with_word before c.nth_place-i.result.0 c.nth_place-i.result.1 x) (to_z-of_z fits)
    ∙ ap (λ (i : ℕ). with_word before i c.nth_place-i.result.1 c.word_of.result) row
    ∙ ap (λ (j : ℕ). with_word before (r.li + k % r.rows) j c.word_of.result) column
    ∙ ap (λ (x : ℤ). with_word before (r.li + k % r.rows) (r.lj + k / r.rows) x) word
    ∙ ap (λ (b : LocalCells). with_word b (r.li + k % r.rows) (r.lj + k / r.rows) (slice_index_or ws k (pos 0))) c.loop-k.invariant.array
    ∙ sym (one_more_word r c.args.array.now ws k long (omega arith) (omega arith) (omega arith)) in
    record {
      array = after;
      limits = c.set.ensures.array;
      inside = subst (λ (a : LocalCells). IsInArray a r) (sym after) (in_array_after c.args.array.now (take (k + 1) (spots (whole_cut r) (r ∷ []))) (take (k + 1) ws) r c.requires.array);
    }

pub returns : goal.returns
returns c =
    let r = c.args.region.now in
    let n : ℕ = r.rows * r.cols in
    let hs : List Held = c.args.held.now in
    let size : length (take n hs) ≡ n = let e = length-take n hs in omega arith in
    let long : length (map (written_word c.args.written.now) (take n hs)) ≡ n = length-map (take n hs) (written_word c.args.written.now) ∙ size in
    c.loop-k.invariant.array ∙ all_words r c.args.array.now (map (written_word c.args.written.now) (take n hs)) c.loop-k.k long (omega arith)
