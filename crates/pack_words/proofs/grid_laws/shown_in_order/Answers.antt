-- The law.
use Rattle.pack_words.proofs.Shown as shown
use Rattle.pack_words.proofs.grid_laws.shown_in_order.Goals as goal

pub returns : goal.returns
returns c = shown.shown_in_order
