-- The plan is empty before, and means one line after.
use Rattle.scope_tests.proofs.Quiet.{after_one}
use Rattle.scope_tests.proofs.joint.plan_joint.Goals as goal

pub returns-in_ok-igsum2d-in-Sum-clause-means : goal.returns-in_ok-igsum2d-in-Sum-clause-means
returns-in_ok-igsum2d-in-Sum-clause-means c = after_one _ _ _ _ c.requires.empty c.in_ok-igsum2d-in-Sum.ensures.ok.appends

pub returns-in_ok-igamx2d-in-Greatest-clause-means : goal.returns-in_ok-igamx2d-in-Greatest-clause-means
returns-in_ok-igamx2d-in-Greatest-clause-means c = after_one _ _ _ _ c.requires.empty c.in_ok-igamx2d-in-Greatest.ensures.ok.appends

pub returns-in_ok-igamn2d-in-Least-clause-means : goal.returns-in_ok-igamn2d-in-Least-clause-means
returns-in_ok-igamn2d-in-Least-clause-means c = after_one _ _ _ _ c.requires.empty c.in_ok-igamn2d-in-Least.ensures.ok.appends

pub returns-in_ok-igebs2d-in-Broadcast-clause-means : goal.returns-in_ok-igebs2d-in-Broadcast-clause-means
returns-in_ok-igebs2d-in-Broadcast-clause-means c = after_one _ _ _ _ c.requires.empty c.in_ok-igebs2d-in-Broadcast.ensures.ok.appends

pub returns-in_ok-itrbs2d-in-Trapezoid-clause-means : goal.returns-in_ok-itrbs2d-in-Trapezoid-clause-means
returns-in_ok-itrbs2d-in-Trapezoid-clause-means c = after_one _ _ _ _ c.requires.empty c.in_ok-itrbs2d-in-Trapezoid.ensures.ok.appends

pub returns-in_ok-barrier-in-Barrier-clause-means : goal.returns-in_ok-barrier-in-Barrier-clause-means
returns-in_ok-barrier-in-Barrier-clause-means c = after_one _ _ _ _ c.requires.empty c.in_ok-barrier-in-Barrier.ensures.ok.appends
