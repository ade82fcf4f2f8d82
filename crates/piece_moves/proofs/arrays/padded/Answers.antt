use Rattle.std.proofs.Common.{◌≡◌, ◌≤◌, [], ◌∷◌, ◌++◌, length, ap, ◌∙◌, arith}
use Rattle.pack_words.specs.LocalCells.{LocalCells, zeros}
use Rattle.piece_moves.proofs.ListLaws.{whole_list, padded_more}
use Rattle.piece_moves.proofs.arrays.padded.Goals as goal

pub loop-r-init : goal.loop-r-init
loop-r-init c = let count : length c.args.arrays.items ≡ c.len-r.result = omega (arith, c.len-r.ensures) in whole_list c.args.arrays.items c.len-r.result (zeros 1 0) count

pub loop-r-preserved : goal.loop-r-preserved
loop-r-preserved c =
    let low : length c.args.arrays.items ≤ c.loop-r.r = omega (arith, c.len-r.ensures, c.loop-r.auto.r) in
    c.in_ok-push.ensures.items ∙ ap (λ (x : LocalCells). c.loop-r.arrays.items ++ x ∷ []) c.in_ok-zeros_of.ensures ∙ padded_more c.args.arrays.items c.loop-r.arrays.items c.loop-r.r (zeros 1 0) low c.loop-r.invariant
