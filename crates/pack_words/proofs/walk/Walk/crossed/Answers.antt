-- A walk begins at the first rectangle.
use Rattle.pack_words.proofs.Walking.{from_start}
use Rattle.pack_words.proofs.walk.Walk.crossed.Goals as goal

pub returns : goal.returns
returns c = from_start c.args.by.now c.args.rows.now c.args.cols.now
