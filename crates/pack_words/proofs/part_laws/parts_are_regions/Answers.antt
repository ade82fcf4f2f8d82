-- The laws.
use Rattle.std.proofs.Common.{ap}
use Rattle.pack_words.specs.Packing.{words_at, with_words}
use Rattle.pack_words.proofs.PartLaws.{part_is_region, part_once}
use Rattle.pack_words.proofs.part_laws.parts_are_regions.Goals as goal

pub returns : goal.returns
returns c = record {
  packs = λ cut i j cells. ap (λ ss. words_at cells ss) (part_is_region cut i j);
  unpacks = λ cut i j ws cells. ap (λ ss. with_words cells ss ws) (part_is_region cut i j);
  once = part_once;
}
