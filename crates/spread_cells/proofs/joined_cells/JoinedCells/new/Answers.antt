-- The joined matrix is the one that these arrays spread.
use Rattle.spread_cells.proofs.JoiningLaws.{joins_by_home}
use Rattle.spread_cells.proofs.joined_cells.JoinedCells.new.Goals as goal

pub returns-in_err-rows-clause-by_home : goal.returns-in_err-rows-clause-by_home
returns-in_err-rows-clause-by_home c = joins_by_home _ _

pub returns-in_err-columns-clause-by_home : goal.returns-in_err-columns-clause-by_home
returns-in_err-columns-clause-by_home c = joins_by_home _ _

pub returns-clause-by_home : goal.returns-clause-by_home
returns-clause-by_home c = joins_by_home _ _
