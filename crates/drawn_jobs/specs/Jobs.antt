-- The job of a seed and a size: a drawn matrix goes from one grid to another and back, into a third array.
use Rattle.std.specs.Prelude.{◌≡◌, ℕ, ◌+◌, ◌*◌, ℤ}
use Rattle.mm_grammar.specs.Matrix.{Matrix}
use Rattle.fold_ops.specs.Fold.{total}
use Rattle.mr2d.specs.Moves.{Move}
use Rattle.descriptor.specs.declared.moves.Moved.{Moved}
use Rattle.move_numbers.specs.MoveNumbers.{move_messages, move_copies}
use Rattle.piece_moves.specs.Distribution.{Distribution}
use Rattle.piece_moves.specs.Numbers.{meets_of_whole}
use Rattle.drawn_jobs.specs.Drawing.{drawn_words}
use Rattle.drawn_jobs.specs.Moving.{dealt_array, move_between}
use Rattle.drawn_jobs.specs.declared.job.Loaded.{Loaded}

-- the drawn matrix, whose words by columns are the drawn numbers
abbrev pub drawn_matrix : (seed size : ℕ) → Matrix
drawn_matrix seed size = record { rows = size; columns = size; values = drawn_words seed (size * size) }

-- the sum of the drawn numbers themselves, as a whole number
unfoldable pub drawn_sum : (seed size : ℕ) → ℤ
drawn_sum seed size = total (drawn_words seed (size * size))

-- 4 by 4 processes in blocks of 64 by 64, and 2 by 8 processes in blocks of 32 by 32
unfoldable pub first_grid : Distribution
first_grid = record { nprow = 4; npcol = 4; mb = 64; nb = 64 }

unfoldable pub second_grid : Distribution
second_grid = record { nprow = 2; npcol = 8; mb = 32; nb = 32 }

-- from array 0 to array 1, and from there to array 2
abbrev pub move_there : (size : ℕ) → Move
move_there size = move_between size (dealt_array 0 first_grid size) (dealt_array 1 second_grid size)

abbrev pub move_back : (size : ℕ) → Move
move_back size = move_between size (dealt_array 1 second_grid size) (dealt_array 2 first_grid size)

-- the numbers of a move among the 16 ranks
abbrev pub numbers_of : Move → Moved
numbers_of mv = record { meets = meets_of_whole mv; messages = move_messages mv 16; copies = move_copies mv 16 }

-- those of both moves, added
unfoldable pub job_meets : (size : ℕ) → ℕ
job_meets size = meets_of_whole (move_there size) + meets_of_whole (move_back size)

unfoldable pub job_messages : (size : ℕ) → ℕ
job_messages size = move_messages (move_there size) 16 + move_messages (move_back size) 16

unfoldable pub job_copies : (size : ℕ) → ℕ
job_copies size = move_copies (move_there size) 16 + move_copies (move_back size) 16

-- what the job tells
pub record IsLoaded (seed size : ℕ) (l : Loaded) : Type 0 where
  pub meets : l.meets ≡ job_meets size
  pub messages : l.messages ≡ job_messages size
  pub copies : l.copies ≡ job_copies size
  pub sum : l.sum ≡ drawn_sum seed size
