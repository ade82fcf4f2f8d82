-- The law of what is left out.
use Rattle.pack_words.proofs.Untouched.{product_stays}
use Rattle.pack_words.proofs.product_laws.nothing_is_lost.Goals as goal

pub returns : goal.returns
returns c = product_stays
