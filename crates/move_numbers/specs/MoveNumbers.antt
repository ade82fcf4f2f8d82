-- How many messages, copies and words a move has, by the elements that it moves.
use Rattle.std.specs.Prelude.{ℕ, ◌==◌, ◌&&◌, Bool, IsTrue, not, nat_lt, cond, count_by, sum_by}
use Rattle.std.specs.List.{AllByRecursion}
use Rattle.block_meet.specs.Meets.{touches}
use Rattle.mr2d.specs.Moves.{Move, home_a, home_b, elements}
use Rattle.mr2d.specs.Plans.{Rectangles, pairs, AreAllMeets}

-- the selected elements that go from one rank to another, or stay on one
abbrev pub goes : Move → ℕ × ℕ → ℕ × ℕ → Bool
goes mv p e = (home_a mv e.0 e.1).rank == p.0 && (home_b mv e.0 e.1).rank == p.1

abbrev pub going : Move → ℕ × ℕ → ℕ
going mv p = count_by (goes mv p) (elements mv.cut)

-- one message for each ordered pair of different ranks of which some go from the one to the other
unfoldable pub move_messages : Move → ℕ → ℕ
move_messages mv ranks = count_by (λ p. nat_lt 0 (going mv p) && not (p.0 == p.1)) (pairs ranks)

-- one copy for each rank on which some stay
unfoldable pub move_copies : Move → ℕ → ℕ
move_copies mv ranks = count_by (λ p. nat_lt 0 (going mv p) && (p.0 == p.1)) (pairs ranks)

-- the words of all messages: the elements that change their rank
unfoldable pub move_words : Move → ℕ → ℕ
move_words mv ranks = sum_by (λ p. cond (p.0 == p.1) 0 (going mv p)) (pairs ranks)

-- the rectangles of every pair of so many ranks, each with a selected element
pub record AreTouching (mv : Move) (ranks : ℕ) (meets : Rectangles) : Type 0 where
  pub all : AreAllMeets mv ranks meets
  pub each : (from to : ℕ) → AllByRecursion (λ t. IsTrue (touches mv.cut t)) (meets from to)
