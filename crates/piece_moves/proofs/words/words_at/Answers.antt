use Rattle.std.proofs.Common.{◌≤◌, ◌^◌, arith}
use Rattle.piece_moves.proofs.WordCounts.{product_fits}
use Rattle.piece_moves.proofs.words.words_at.Goals as goal

pub returns-clause-bound : goal.returns-clause-bound
returns-clause-bound c =
    let a : c.from.result ≤ 2 ^ 24 = omega arith in
    let b : c.from-2.result ≤ 2 ^ 24 = omega arith in
    product_fits c.from.result c.from-2.result a b
