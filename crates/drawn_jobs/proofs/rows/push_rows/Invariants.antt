use Rattle.std.proofs.Common.{◌≡◌, ◌*◌, ◌++◌, length}
use Rattle.std.specs.Prelude.{min}
use Rattle.index_tools.specs.Spread.{spread}
use Rattle.spread_cells.specs.Spreading.{owned}
use Rattle.drawn_jobs.specs.Rows.{words_at}
use Rattle.drawn_jobs.proofs.rows.push_rows.Given as goal

abbrev pub invariant-loop-turn : goal.invariant-loop-turn
invariant-loop-turn l = record { words : l.words.items ≡ l.fn.words.items ++ words_at l.column (owned (spread l.to.mb 0 l.to.nprow) l.p (min (l.turn * (l.to.mb * l.to.nprow)) (length l.column))) }
