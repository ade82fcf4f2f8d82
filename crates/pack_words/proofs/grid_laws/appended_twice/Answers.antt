-- The law.
use Rattle.pack_words.proofs.Kept.{appends_both}
use Rattle.pack_words.proofs.grid_laws.appended_twice.Goals as goal

pub returns : goal.returns
returns c = appends_both
