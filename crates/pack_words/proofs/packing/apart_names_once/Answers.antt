-- The law of regions that do not overlap.
use Rattle.pack_words.proofs.Once.{named_once}
use Rattle.pack_words.proofs.packing.apart_names_once.Goals as goal

pub returns : goal.returns
returns c = named_once
