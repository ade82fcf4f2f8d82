use Rattle.std.proofs.Common.{◌+◌, ◌^◌, ◌≤◌, ℕ, List, [], ◌∷◌, Some, refl, subst, arith}
use Rattle.std.specs.Prelude.{map}
use Rattle.store_io.specs.Outside.{Poured}
use Rattle.mm_grammar.specs.PlainText.{plain_text}
use Rattle.piece_file.specs.PieceView.{piece_view}
use Rattle.save_list.specs.Save.{save}
use Rattle.command_walks.specs.Walk.{Ends}
use Rattle.file_tools.specs.Troubles.{Follows}
use Rattle.file_tools.specs.JoinWalk.{join_words, whole_of}
use Rattle.command_walks.proofs.LimitLaws.{large_stops}
use Rattle.file_tools.proofs.FollowLaws.{small_follows}
use Rattle.file_tools.proofs.JoinLaws.{count_is, arrays_hold, cells_are_whole}
use Rattle.file_tools.proofs.join.join_whole.Goals as goal

pub returns-then-words-gt-LIMIT : goal.returns-then-words-gt-LIMIT
returns-then-words-gt-LIMIT g c =
    let count = count_is c.args.pieces.items c.deref.result.now c.deref-2.result.now c.layout_by_first-layout.result c.pieces_words.result c.whole_words.result c.deref.ensures.value c.deref-2.ensures.value c.layout_by_first-layout.ensures c.pieces_words.ensures.words c.whole_words.ensures.words in
    large_stops (c.pieces_words.result + c.whole_words.result) (join_words (map piece_view c.args.pieces.items)) _ (Some (c.args.output ∷ [])) (g.S.Store.state c.args.store.now) count c.if-words-gt-LIMIT.true

pub new-requires : goal.new-requires
new-requires g c =
    arrays_hold c.args.pieces.items c.deref.result.now c.args.pieces.items c.layout_by_first-layout.result c.in_ok-arrays.arrays.items c.deref-3.result.now c.deref.ensures.value refl c.layout_by_first-layout.ensures c.requires c.in_ok-arrays.ensures c.deref-3.ensures.value

pub returns : goal.returns
returns g c =
    let count = count_is c.args.pieces.items c.deref.result.now c.deref-2.result.now c.layout_by_first-layout.result c.pieces_words.result c.whole_words.result c.deref.ensures.value c.deref-2.ensures.value c.layout_by_first-layout.ensures c.pieces_words.ensures.words c.whole_words.ensures.words in
    let small : c.pieces_words.result + c.whole_words.result ≤ 2 ^ 26 = omega (arith, c.if-words-gt-LIMIT.false) in
    let whole = cells_are_whole c.args.pieces.items c.deref.result.now c.layout_by_first-layout.result c.in_ok-arrays.arrays.items c.deref-3.result.now c.in_ok-cells.cells c.deref.ensures.value c.layout_by_first-layout.ensures c.in_ok-arrays.ensures c.deref-3.ensures.value c.in_ok-cells.ensures.made in
    let old = g.S.Store.state c.args.store.now in
    let new = g.S.Store.state c.save_to_end.new.store in
    small_follows c.save_to_end.result (c.pieces_words.result + c.whole_words.result) (join_words (map piece_view c.args.pieces.items)) (Ends (save c.args.output (plain_text (whole_of (map piece_view c.args.pieces.items))) ∷ []) []) (Some (c.args.output ∷ [])) old new count small
    (subst (λ (text : List ℕ). (pour : Poured) → Follows c.save_to_end.result (Ends (save c.args.output text ∷ []) []) (Some (c.args.output ∷ [])) old new pour pour) whole c.save_to_end.ensures)
