-- Each number is the one at its place.
use Rattle.std.proofs.Common.{◌≡◌, ℕ, pos, length, slice_index_or, FitsSigned, to_z, of_z, to_z-of_z, rules}
use Rattle.std.specs.Int.{w32}
use Rattle.piece_file.proofs.DescLineSteps.{eleven_held}
use Rattle.piece_file.proofs.desc_line.numbered.Goals as goal

pub returns : goal.returns
returns c =
    let ns = c.args.numbers in
    let long : length ns ≡ 11 = search rules in
    let at : (k : ℕ) → FitsSigned w32 (slice_index_or ns k (pos 0)) → to_z w32 (of_z w32 (slice_index_or ns k (pos 0))) ≡ slice_index_or ns k (pos 0) = λ k fits. to_z-of_z fits in
    eleven_held ns _ _ _ _ _ _ _ _ _ _ _ long (at 0 (search rules)) (at 1 (search rules)) (at 2 (search rules)) (at 3 (search rules)) (at 4 (search rules)) (at 5 (search rules)) (at 6 (search rules)) (at 7 (search rules)) (at 8 (search rules))
    (at 9 (search rules)) (at 10 (search rules))
