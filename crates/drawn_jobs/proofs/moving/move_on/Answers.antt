use Rattle.std.proofs.Common.{◌≡◌, List, ap, ◌∙◌}
use Rattle.std.specs.Prelude.{map}
use Rattle.pack_words.specs.GridState.{arrays_held}
use Rattle.piece_grammar.specs.Head.{Piece}
use Rattle.piece_file.specs.HeadView.{head_view}
use Rattle.piece_file.specs.PieceView.{piece_view}
use Rattle.piece_file.specs.declared.piece.Piece.{Piece as Held}
use Rattle.piece_moves.specs.Distribution.{Distribution}
use Rattle.piece_moves.specs.DistributionView.{distribution_view}
use Rattle.piece_moves.specs.PieceMove.{first_of}
use Rattle.piece_moves.proofs.PlannedLaws.{is_distribution}
use Rattle.drawn_jobs.proofs.AfterLaws.{have_pieces, moved_pieces}
use Rattle.drawn_jobs.proofs.moving.move_on.Goals as goal

pub pieces_from-requires-clause-sizes : goal.pieces_from-requires-clause-sizes
pieces_from-requires-clause-sizes c =
    let ps : List Piece = map piece_view c.args.pieces.items in
    let d : Distribution = distribution_view c.args.to.now in
    let first : head_view c.first_head-first.result ≡ first_of ps = c.first_head-first.ensures.view ∙ ap (λ (hs : List Held). first_of (map piece_view hs)) c.deref.ensures.value in
    have_pieces ps d (head_view c.first_head-first.result) (map arrays_held c.in_ok-moved.moved.nodes.items) c.requires.turns (is_distribution c.args.to.now) c.requires.few first c.in_ok-moved.ensures.arrays

pub returns-clause-pieces : goal.returns-clause-pieces
returns-clause-pieces c =
    let ps : List Piece = map piece_view c.args.pieces.items in
    let d : Distribution = distribution_view c.args.to.now in
    let first : head_view c.first_head-first.result ≡ first_of ps = c.first_head-first.ensures.view ∙ ap (λ (hs : List Held). first_of (map piece_view hs)) c.deref.ensures.value in
    c.in_ok-pieces.ensures ∙ moved_pieces ps d (head_view c.first_head-first.result) (map arrays_held c.in_ok-moved.moved.nodes.items) c.requires.turns (is_distribution c.args.to.now) c.requires.few first c.in_ok-moved.ensures.arrays
