-- The laws.
use Rattle.pack_words.proofs.Kept.{plan_begins, plan_goes_on}
use Rattle.pack_words.proofs.grid_laws.plans_mean_their_lines.Goals as goal

pub returns : goal.returns
returns c = record { none = plan_begins; more = plan_goes_on }
