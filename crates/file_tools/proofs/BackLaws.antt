-- A split, and then a join of its pieces, gives the plain text of the matrix back.
use Rattle.std.proofs.Common.{◌≡◌, ℕ, suc, ◌-◌, ◌*◌, ◌^◌, ◌≤◌, List, [], ◌∷◌, Some, refl, sym, ap, ◌∙◌, arith}
use Rattle.std.specs.Prelude.{map}
use Rattle.std.specs.List.{range_with_len}
use Rattle.std.specs.FinMap.{get}
use Rattle.std.proofs.Math.Nat.{one-le-mul}
use Rattle.store_io.specs.Outside.{Files}
use Rattle.pack_words.specs.LocalCells.{LocalCells}
use Rattle.mm_grammar.specs.Matrix.{Matrix, IsMatrix}
use Rattle.mm_grammar.specs.Width.{width32}
use Rattle.mm_grammar.specs.MatrixText.{IsMatrixText}
use Rattle.mm_grammar.specs.PlainText.{plain_text}
use Rattle.mm_grammar.specs.Reading.{read_text}
use Rattle.mm_grammar.specs.FileLines.{file_lines}
use Rattle.mm_grammar.proofs.Laws.{reading}
use Rattle.mm_grammar.proofs.Limits.{accepted_fits}
use Rattle.spread_cells.specs.Joining.{joined}
use Rattle.spread_cells.proofs.BackLaws.{joins_back}
use Rattle.piece_grammar.specs.Head.{Piece}
use Rattle.tool_words.specs.Within.{IsTarget}
use Rattle.file_tools.specs.Target.{Target}
use Rattle.save_list.specs.Save.{save, saved}
use Rattle.command_walks.specs.Answer.{done}
use Rattle.command_walks.specs.Walk as walk
use Rattle.command_walks.specs.Walk.{Walk, answer}
use Rattle.command_walks.specs.ReadingWalks.{with_matrix, matrix_walk, pieces_walk}
use Rattle.file_tools.specs.SplitWalk.{layout_of, words_before, job_words, saves_of, job_walk, split_walk}
use Rattle.piece_moves.specs.PieceMove.{array_of}
use Rattle.file_tools.specs.JoinWalk.{whole_of, join_words, whole_walk, join_walk}
use Rattle.file_tools.specs.ThereAndBack.{GivesBack, SplitsAndJoins}
use Rattle.command_walks.proofs.WalkLaws.{comes_answer}
use Rattle.command_walks.proofs.GatheringLaws.{pieces_come}
use Rattle.file_tools.proofs.SplitPieces.{piece_of, pieces_from, words_are, gathered}
use Rattle.command_walks.proofs.LimitLaws.{within}

-- ---- there

read_answer : (name bytes : List ℕ) (next : Matrix → Walk) (files : Files) (m : Matrix) → get files name ≡ Some bytes → IsMatrixText width32 bytes m → answer (matrix_walk name next) files ≡ answer (next m) files
unfolding matrix_walk
read_answer name bytes next files m held text =
    ap (λ o. walk.held_answer name o (λ b. answer (with_matrix name (read_text width32 b) next) files)) held
    ∙ ap (λ r. answer (with_matrix name r next) files) ((reading width32).reads bytes m text)

there : (files : Files) (input bytes : List ℕ) (t : Target) (m : Matrix) → get files input ≡ Some bytes → IsMatrixText width32 bytes m → job_words t m.rows m.columns ≤ 2 ^ 26 → answer (split_walk input t) files ≡ done (saves_of t m) []
there files input bytes t m held text small =
    read_answer input bytes (job_walk t) files m held text ∙ ap (λ (w : Walk). answer w files) (within (job_words t m.rows m.columns) _ small)

-- ---- back

map_both : (f : ℕ → Piece) (g : Piece → LocalCells) (ks : List ℕ) → map g (map f ks) ≡ map (λ k. g (f k)) ks
map_both f g [] = refl
map_both f g (k ∷ ks) = ap (λ (cs : List LocalCells). g (f k) ∷ cs) (map_both f g ks)

whole_is : (t : Target) (m : Matrix) (j : ℕ) → IsTarget t.nprow t.npcol t.mb t.nb → t.nprow * t.npcol ≡ suc j → IsMatrix width32 m → whole_of (pieces_from t m 0 (suc j)) ≡ m
whole_is t m j is all whole =
    let l = layout_of t m.rows m.columns in
    ap (joined l) (map_both (piece_of t m) array_of (range_with_len 0 (suc j)) ∙ ap (λ (n : ℕ). map (λ k. array_of (piece_of t m k)) (range_with_len 0 n)) (sym all))
    ∙ joins_back.back m l (record { layout = record { row_block = is.row_block; column_block = is.column_block; row_source = is.rows; column_source = is.columns }; rows = refl; columns = refl; count = whole.count })

small_join : (t : Target) (m : Matrix) (j : ℕ) → t.nprow * t.npcol ≡ suc j → job_words t m.rows m.columns ≤ 2 ^ 26 → join_words (pieces_from t m 0 (suc j)) ≤ 2 ^ 26
small_join t m j all small =
    let same : words_before t m.rows m.columns (t.nprow * t.npcol) ≡ words_before t m.rows m.columns (suc j) = ap (words_before t m.rows m.columns) all in
    omega (arith, small, words_are t m (suc j), same)

back_by : (files : Files) (output : List ℕ) (t : Target) (m : Matrix) (j : ℕ) → IsTarget t.nprow t.npcol t.mb t.nb → t.nprow * t.npcol ≡ suc j → IsMatrix width32 m → job_words t m.rows m.columns ≤ 2 ^ 26
    → answer (join_walk t.prefix output) (saved (saves_of t m) files) ≡ done (save output (plain_text m) ∷ []) []
back_by files output t m j is all whole small =
    let after : Files = saved (saves_of t m) files in
    let ps : List Piece = pieces_from t m 0 (suc j) in
    comes_answer (pieces_walk t.prefix (whole_walk output)) after (whole_walk output ps) (pieces_come t.prefix (whole_walk output) after ps (gathered t m files is whole small j all))
    ∙ ap (λ (w : Walk). answer w after) (within (join_words ps) _ (small_join t m j all small))
    ∙ ap (λ (n : Matrix). done (save output (plain_text n) ∷ []) []) (whole_is t m j is all whole)

gives_back : (files : Files) (input output bytes : List ℕ) (t : Target) (m : Matrix) → IsTarget t.nprow t.npcol t.mb t.nb → get files input ≡ Some bytes → IsMatrixText width32 bytes m → IsMatrix width32 m → job_words t m.rows m.columns ≤ 2 ^ 26
    → GivesBack files input output t m
gives_back files input output bytes t m is held text whole small =
    let some : 1 ≤ t.nprow * t.npcol = one-le-mul is.rows is.columns in
    let all : t.nprow * t.npcol ≡ suc (t.nprow * t.npcol - 1) = omega (arith, some) in
    record { there = there files input bytes t m held text small; back = back_by files output t m (t.nprow * t.npcol - 1) is all whole small }

pub splits_and_joins : SplitsAndJoins
splits_and_joins = record {
  gives = λ files input output bytes t m is held text small. gives_back files input output bytes t m is held text (accepted_fits width32 (file_lines bytes) m text) small;
}
