use Rattle.std.proofs.Common.{◌≡◌, ◌*◌, length}
use Rattle.std.specs.Prelude.{map}
use Rattle.std.specs.List.{range_with_len}
use Rattle.index_tools.specs.Spread.{spread}
use Rattle.mm_text.specs.Loading.{matrix_of}
use Rattle.spread_cells.specs.Spreading.{owned, word_at}
use Rattle.drawn_jobs.proofs.dealing.part_words.Given as goal

abbrev pub invariant-loop-j : goal.invariant-loop-j
invariant-loop-j l =
    let rows = owned (spread l.to.mb 0 l.to.nprow) l.p l.whole.rows in
    record { words : l.words.items ≡ map (word_at (matrix_of l.whole) rows l.columns) (range_with_len 0 (l.j-index * length rows)) }
