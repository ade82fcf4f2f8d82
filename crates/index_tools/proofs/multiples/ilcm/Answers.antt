use Rattle.std.proofs.Common.{arith}
use Rattle.index_tools.proofs.MultiplesLemmas.{least_from_gcd-same}
use Rattle.index_tools.proofs.multiples.ilcm.Goals as goal

pub returns : goal.returns
returns c = least_from_gcd-same c.args.m c.args.n c.greatest_common_divisor.result _ c.requires.first c.requires.second c.greatest_common_divisor.ensures.positive c.greatest_common_divisor.ensures.greatest c.greatest_common_divisor.ensures.scales (grind arith)
