-- The laws.
use Rattle.pack_words.proofs.PartLaws.{part_read_back}
use Rattle.pack_words.proofs.ByPlace.{part_assigned, part_given}
use Rattle.pack_words.proofs.part_laws.parts_by_place.Goals as goal

pub returns : goal.returns
returns c = record { assigned = part_assigned; given = part_given; read = part_read_back }
