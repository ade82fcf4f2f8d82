-- The product of the bits is the product modulo 2^32.
use Rattle.std.proofs.Common.{arith, rules}
use Rattle.array_contents.proofs.Wrapping.{product_is}
use Rattle.array_contents.proofs.columns.product.Goals as goal

pub returns : goal.returns
returns c = product_is c.args.step c.cast_signed.result c.args.index (search rules) (search rules) (search rules) c.cast_signed.ensures
