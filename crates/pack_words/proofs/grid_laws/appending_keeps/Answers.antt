-- The law.
use Rattle.pack_words.proofs.Kept.{appends_keeps}
use Rattle.pack_words.proofs.grid_laws.appending_keeps.Goals as goal

pub returns : goal.returns
returns c = appends_keeps
