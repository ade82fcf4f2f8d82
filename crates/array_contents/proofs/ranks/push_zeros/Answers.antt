-- One rank more has its array.
use Rattle.std.proofs.Common.{◌≡◌, ◌<◌, ◌++◌, ℕ, List, [], ◌∷◌, length, ap, ◌∙◌, arith, slice_index_or}
use Rattle.std.specs.Global.{Vec}
use Rattle.std.proofs.lemmas.List.{length-set}
use Rattle.pack_words.specs.LocalCells.{LocalCells, zeros}
use Rattle.array_contents.proofs.RoomLaws.{zeros_more}
use Rattle.array_contents.proofs.ranks.push_zeros.Goals as goal

pub loop-rank-preserved : goal.loop-rank-preserved
loop-rank-preserved c =
    let sizes : List (ℕ × ℕ) = c.args.sizes.now in
    let k : ℕ = c.loop-rank.rank in
    let mine : Vec LocalCells = c.index_mut.result.now in
    let size : ℕ × ℕ = slice_index_or sizes k (0, 0) in
    record {
      done = zeros_more sizes c.loop-rank.ranks.items k (0, 0) mine c.push.new.self (omega arith) (omega (arith, c.loop-rank.invariant.long))
          (c.in_ok-push.ensures.items ∙ ap (λ (a : LocalCells). mine.items ++ a ∷ []) c.in_ok-array.ensures ∙ ap (λ (v : Vec LocalCells). v.items ++ zeros size.0 size.1 ∷ []) c.index_mut.ensures.value)
          ∙ c.loop-rank.invariant.done;
      long = length-set c.loop-rank.ranks.items k c.push.new.self ∙ c.loop-rank.invariant.long;
    }
