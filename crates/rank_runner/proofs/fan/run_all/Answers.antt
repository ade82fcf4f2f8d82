use Rattle.rank_runner.proofs.Each.{map_each}
use Rattle.rank_runner.proofs.fan.run_all.Goals as goal

pub returns : goal.returns
returns g c = map_each _ _ _ _ c.run_each.auto.workers (λ i d h. c.run_each.ensures i d h)
