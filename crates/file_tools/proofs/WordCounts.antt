-- The words of a job.
use Rattle.std.proofs.Common.{◌≡◌, ℕ, suc, ◌+◌, refl}
use Rattle.piece_moves.specs.PieceMove.{words_over}
use Rattle.file_tools.specs.Target.{Target}
use Rattle.file_tools.specs.SplitWalk.{words_of, words_before}

pub no_words : (s : Target) (rows columns : ℕ) → words_before s rows columns 0 ≡ 0
unfolding words_over
no_words s rows columns = refl

pub next_words : (s : Target) (rows columns k : ℕ) → words_before s rows columns (suc k) ≡ words_before s rows columns k + words_of s rows columns k
unfolding words_over
next_words s rows columns k = refl
