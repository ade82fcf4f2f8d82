-- What the ranks hold after the move.
use Rattle.std.proofs.Common.{◌≡◌, ℕ, List, [], length, get_or, ap, ◌∙◌, arith}
use Rattle.std.specs.Prelude.{map}
use Rattle.std.specs.List.{range_with_len}
use Rattle.std.proofs.lemmas.List.{length-set}
use Rattle.std.proofs.lemmas.List.FromFn.{length-map-range_with_len, get_or-map-range_with_len}
use Rattle.pack_words.specs.LocalCells.{LocalCells}
use Rattle.pack_words.specs.RankOps.{RankState}
use Rattle.pack_words.specs.GridState.{arrays_held}
use Rattle.piece_grammar.specs.Head.{Piece}
use Rattle.mr2d.specs.Moves.{moved_rank, moved_for, every_pair}
use Rattle.piece_moves.specs.Distribution.{Distribution}
use Rattle.piece_moves.specs.PieceMove.{first_of, ranks_for, move_for, held_before, state_after}
use Rattle.piece_moves.specs.Sizes.{HoldTwo}
use Rattle.piece_moves.proofs.ListLaws.{two_by, nodes_len}

-- after the move each rank has two arrays, as before
pub moved_two : (ps : List Piece) (d : Distribution) (nodes : List RankState) → map arrays_held nodes ≡ (state_after ps d).arrays → HoldTwo nodes
unfolding moved_for
moved_two ps d nodes e =
    let ranks : ℕ = ranks_for (first_of ps) d in
    let arrays : List (List LocalCells) = map (held_before ps d) (range_with_len 0 ranks) in
    let count : length arrays ≡ ranks = length-map-range_with_len (held_before ps d) 0 ranks in
    two_by nodes (moved_rank every_pair (move_for ps d) arrays) 0 (length arrays) e (λ k low lt.
    length-set (get_or arrays k []) 1 _ ∙ ap length (get_or-map-range_with_len (held_before ps d) 0 ranks k k [] (omega (arith, lt, count)) (omega arith)))

pub moved_count : (ps : List Piece) (d : Distribution) (nodes : List RankState) → map arrays_held nodes ≡ (state_after ps d).arrays → length nodes ≡ ranks_for (first_of ps) d
unfolding moved_for
moved_count ps d nodes e =
    let ranks : ℕ = ranks_for (first_of ps) d in
    let arrays : List (List LocalCells) = map (held_before ps d) (range_with_len 0 ranks) in
    nodes_len nodes (moved_rank every_pair (move_for ps d) arrays) (length arrays) e ∙ length-map-range_with_len (held_before ps d) 0 ranks
