-- The law of copies.
use Rattle.pack_words.proofs.Assigning.{is_copied}
use Rattle.pack_words.proofs.packing.unpack_after_pack.Goals as goal

pub returns : goal.returns
returns c = is_copied
