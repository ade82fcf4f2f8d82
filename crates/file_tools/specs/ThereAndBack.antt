-- A split, and then a join of its pieces.
use Rattle.std.specs.Prelude.{◌≡◌, ℕ, ◌^◌, ◌≤◌, List, [], ◌∷◌, Some}
use Rattle.std.specs.FinMap.{get}
use Rattle.store_io.specs.Outside.{Files}
use Rattle.mm_grammar.specs.Matrix.{Matrix}
use Rattle.mm_grammar.specs.Width.{width32}
use Rattle.mm_grammar.specs.MatrixText.{IsMatrixText}
use Rattle.mm_grammar.specs.PlainText.{plain_text}
use Rattle.tool_words.specs.Within.{IsTarget}
use Rattle.file_tools.specs.Target.{Target}
use Rattle.save_list.specs.Save.{save, saved}
use Rattle.command_walks.specs.Answer.{done}
use Rattle.command_walks.specs.Walk.{answer}
use Rattle.file_tools.specs.SplitWalk.{job_words, saves_of, split_walk}
use Rattle.file_tools.specs.JoinWalk.{join_walk}

-- Where the input is a text of a matrix, and the job is within the limit: a split saves the pieces, and a join of the files
-- that are there then saves the plain text of the matrix. The input may have any text of it, and any name.
pub record GivesBack (files : Files) (input output : List ℕ) (t : Target) (m : Matrix) : Type 0 where
  pub there : answer (split_walk input t) files ≡ done (saves_of t m) []
  pub back : answer (join_walk t.prefix output) (saved (saves_of t m) files) ≡ done (save output (plain_text m) ∷ []) []

pub record SplitsAndJoins : Type 0 where
  pub gives : (files : Files) (input output bytes : List ℕ) (t : Target) (m : Matrix) → IsTarget t.nprow t.npcol t.mb t.nb
      → get files input ≡ Some bytes → IsMatrixText width32 bytes m → job_words t m.rows m.columns ≤ 2 ^ 26 → GivesBack files input output t m
