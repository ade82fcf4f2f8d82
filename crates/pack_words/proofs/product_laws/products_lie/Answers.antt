-- The law of products.
use Rattle.pack_words.proofs.Crossing.{product_lies}
use Rattle.pack_words.proofs.product_laws.products_lie.Goals as goal

pub returns : goal.returns
returns c = product_lies
