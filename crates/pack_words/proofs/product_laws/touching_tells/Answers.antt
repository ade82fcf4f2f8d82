-- The law of the corner.
use Rattle.pack_words.proofs.Untouched.{corner_tells}
use Rattle.pack_words.proofs.product_laws.touching_tells.Goals as goal

pub returns : goal.returns
returns c = corner_tells
