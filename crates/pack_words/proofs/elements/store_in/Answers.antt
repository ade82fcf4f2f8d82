-- A write leaves the sizes of all arrays.
use Rattle.std.proofs.Common.{◌≡◌, ◌*◌, ℤ, List, [], ◌∷◌, map, take, slice_index_or, slice_set, ap, ◌∙◌}
use Rattle.std.proofs.lemmas.List.{get_or_default}
use Rattle.pack_words.specs.LocalCells.{LocalCells, zeros}
use Rattle.pack_words.specs.Packing.{spots}
use Rattle.pack_words.specs.RankOps.{size_of}
use Rattle.pack_words.specs.WholeRegions.{whole_cut, with_whole_words}
use Rattle.pack_words.specs.Coordinates.{written_word}
use Rattle.pack_words.specs.RankLaws.{sizes_written}
use Rattle.pack_words.proofs.WholeLaws.{array_within}
use Rattle.pack_words.proofs.elements.store_in.Goals as goal

pub returns-clause-sizes : goal.returns-clause-sizes
returns-clause-sizes c =
    let r = c.args.region.now in
    let ws : List ℤ = map (written_word c.args.written.now) (take (r.rows * r.cols) c.args.held.now) in
    let here : slice_index_or c.args.arrays.now c.args.array c.index-arrays-array-2.result ≡ slice_index_or c.args.arrays.now c.args.array (zeros 1 0) = get_or_default c.args.arrays.now c.args.array c.index-arrays-array-2.result (zeros 1 0) (array_within c.args.arrays.now c.args.array (r ∷ []) c.requires.array) in
    ap (λ (a : LocalCells). map size_of (slice_set c.args.arrays.now c.args.array a)) (c.store_elements.ensures ∙ ap (with_whole_words r ws) here)
    ∙ sizes_written c.args.arrays.now c.args.array (spots (whole_cut r) (r ∷ [])) ws
