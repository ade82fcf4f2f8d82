-- One piece more was read.
use Rattle.std.proofs.Common.{◌≡◌, ◌+◌, ◌∷◌, ◌++◌, [], List, IsTrue, map, refl, sym, ap, subst, ◌∙◌, arith}
use Rattle.std.proofs.lemmas.Grind.{common_steps}
use Rattle.std.proofs.lemmas.List.{map-append}
use Rattle.store_io.specs.Outside.{Outside, Files}
use Rattle.piece_grammar.specs.Head as grammar
use Rattle.piece_grammar.specs.Turn.{Turn}
use Rattle.piece_grammar.specs.Pieces.{turn_behind, words_of, AreFew, AreHeld, HoldsPiece}
use Rattle.piece_file.specs.PieceView.{piece_view}
use Rattle.piece_file.specs.Asking.{turn_view}
use Rattle.piece_file.specs.Gathering.{held_in, HaveTurns, AreWithin}
use Rattle.piece_file.specs.declared.piece.Piece.{Piece}
use Rattle.piece_file.proofs.GatherSteps.{turns_more, words_are, turn_room, within_more, held_turn, IsEndedBehind, ended_more}
use Rattle.piece_file.proofs.gathering.gather_pieces.Goals as goal

pub loop-turn-preserved : goal.loop-turn-preserved
loop-turn-preserved g c =
    let read : List grammar.Piece = map piece_view c.loop-turn.pieces.items in
    let p : grammar.Piece = piece_view c.in_ok-piece.piece in
    let turn : Turn = turn_view c.in-Some.turn in
    let before : Outside = g.S.Store.state c.loop-turn.store in
    let after : Outside = g.S.Store.state c.read_turn.new.store in
    let is : turn ≡ turn_behind read = c.in-Some.ensures.0 ∙ ap (λ (ps : List Piece). turn_behind (map piece_view ps)) c.deref.ensures.value in
    let few : AreFew read = subst (λ (ps : List Piece). AreFew (map piece_view ps)) c.deref.ensures.value c.in-Some.ensures.1 in
    let grown : map piece_view c.push.new.self.items ≡ read ++ p ∷ [] = ap (map piece_view) c.in-Ok.ensures.items ∙ map-append piece_view c.loop-turn.pieces.items (c.in_ok-piece.piece ∷ []) in
    let room : turn.before ≡ c.loop-turn.words = turn_room read turn c.loop-turn.words is c.loop-turn.invariant.words in
    let size : c.array_size-words.result ≡ grammar.array_words p.head = c.array_size-words.ensures in
    record {
      turns = subst (λ (ps : List grammar.Piece). HaveTurns [] ps) (sym grown) (turns_more read turn p is c.loop-turn.invariant.turns c.in_ok-piece.ensures.is_head c.in_ok-piece.ensures.has_turn);
      within = subst (λ (ps : List grammar.Piece). AreWithin ps) (sym grown) (within_more read p few c.in_ok-piece.ensures.is_head);
      words = words_are read p c.loop-turn.words (c.loop-turn.words + c.array_size-words.result) c.array_size-words.result c.loop-turn.invariant.words size refl ∙ ap words_of (sym grown);
      few = omega (arith, room, size, c.in_ok-piece.ensures.has_turn.few);
      same = grind (arith, common_steps);
      held = λ told.
          let still : IsTrue before.told = grind (arith, common_steps) in
          let holds : HoldsPiece (held_in (g.S.Store.state c.args.store.now).files) c.args.prefix.now turn p = subst (λ (files : Files). HoldsPiece (held_in files) c.args.prefix.now turn p) c.loop-turn.invariant.same.files (c.in_ok-piece.ensures.loads still) in
          subst (λ (ps : List grammar.Piece). AreHeld (held_in (g.S.Store.state c.args.store.now).files) c.args.prefix.now ps) (sym grown) (held_turn (held_in (g.S.Store.state c.args.store.now).files) c.args.prefix.now read turn p is (c.loop-turn.invariant.held told) holds);
      ended = λ told.
          let still : IsTrue before.told = grind (arith, common_steps) in
          subst (λ (ps : List grammar.Piece). IsEndedBehind ps after.left) (sym grown) (ended_more read p after.left (c.in_ok-piece.ensures.ended still));
    }
