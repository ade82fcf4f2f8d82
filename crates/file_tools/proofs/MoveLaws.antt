-- What a move saves and tells.
use Rattle.std.proofs.Common.{◌≡◌, ℕ, ◌*◌, ◌^◌, ◌<◌, ◌≤◌, List, Some, Result, refl, sym, ap, subst, ◌∙◌}
use Rattle.std.specs.Prelude.{map}
use Rattle.std.specs.List.{range_with_len}
use Rattle.store_io.specs.Outside.{Outside, Poured}
use Rattle.descriptor.specs.declared.moves.Moved.{Moved}
use Rattle.pack_words.specs.RankOps.{RankState}
use Rattle.pack_words.specs.GridState.{arrays_held}
use Rattle.piece_grammar.specs.Head.{Head, Piece}
use Rattle.piece_file.specs.PieceView.{piece_view}
use Rattle.piece_file.specs.declared.piece.Piece.{Piece as InCode}
use Rattle.piece_moves.specs.Distribution.{Distribution}
use Rattle.piece_moves.specs.PieceMove.{first_of, state_after, move_words}
use Rattle.piece_moves.specs.Numbers.{numbers_for}
use Rattle.piece_moves.specs.MoveRuns.{AreMoved}
use Rattle.save_list.specs.Save.{names_of}
use Rattle.save_list.proofs.SavedLaws.{names_by}
use Rattle.command_walks.specs.Walk.{Ends}
use Rattle.command_walks.proofs.LimitLaws.{large_stops}
use Rattle.file_tools.specs.Target.{Target}
use Rattle.file_tools.specs.TargetView.{target_view}
use Rattle.file_tools.specs.declared.target.Target.{Target as Held}
use Rattle.file_tools.specs.SplitWalk.{distribution_of, name_of, piece_names}
use Rattle.file_tools.specs.MoveWalk.{save_moved, saves_moved, numbers_line, end_walk, moved_walk}
use Rattle.file_tools.specs.Troubles.{Follows, Stops}
use Rattle.file_tools.specs.declared.trouble.Trouble.{Trouble}
use Rattle.file_tools.specs.declared.trouble.Trouble.TheVariants as trouble
use Rattle.file_tools.proofs.FollowLaws.{small_by, ends_by}

-- what saves the moved pieces and tells the numbers comes to the end of the walk
pub ends_so : {X : Type 0} (r : Result X Trouble) (t : Target) (ps : List Piece) (h : Head) (moved : Moved) (nodes : List RankState) (old new : Outside) (before after : Poured) → h ≡ first_of ps → AreMoved ps (distribution_of t) moved nodes
    → Follows r (Ends (saves_moved t h.m h.n (map arrays_held nodes)) (numbers_line moved)) (Some (names_of (saves_moved t h.m h.n (map arrays_held nodes)))) old new before after → Follows r (end_walk t ps) (Some (piece_names t)) old new before after
ends_so r t ps h moved nodes old new before after first are =
    ends_by r (saves_moved t h.m h.n (map arrays_held nodes)) (saves_moved t (first_of ps).m (first_of ps).n (state_after ps (distribution_of t)).arrays) (numbers_line moved) (numbers_line (numbers_for ps (distribution_of t))) (piece_names t) old new before after
    (ap (λ (k : Head). saves_moved t k.m k.n (map arrays_held nodes)) first ∙ ap (saves_moved t (first_of ps).m (first_of ps).n) are.arrays)
    (names_by (save_moved t h.m h.n (map arrays_held nodes)) (name_of t) (range_with_len 0 (t.nprow * t.npcol)) (λ k. refl)) (ap numbers_line are.numbers_are)

-- the words that were counted are those of the move
pub count_is : (items now : List InCode) (d : Distribution) (n : ℕ) → now ≡ items → n ≡ move_words (map piece_view now) d → n ≡ move_words (map piece_view items) d
count_is items now d n here count = count ∙ ap (λ (hs : List InCode). move_words (map piece_view hs) d) here

-- a move above the limit stops
pub stops_so : (t : Held) (items now : List InCode) (d : Distribution) (words : ℕ) (old : Outside) → now ≡ items → d ≡ distribution_of (target_view t) → words ≡ move_words (map piece_view now) d → 2 ^ 26 < words → Stops (trouble.TooMany words) (moved_walk (target_view t) (map piece_view items)) (Some (piece_names (target_view t))) old old
stops_so t items now d words old here there count large =
    large_stops words (move_words (map piece_view items) (distribution_of (target_view t))) _ (Some (piece_names (target_view t))) old (count_is items now d words here count ∙ ap (move_words (map piece_view items)) there) large

-- a move within the limit comes to its end
pub goes_on : {X : Type 0} (r : Result X Trouble) (s t : Held) (ps : List Piece) (d : Distribution) (moved : Moved) (nodes : List RankState) (words : ℕ) (old new : Outside) (before after : Poured) → s ≡ t → d ≡ distribution_of (target_view t) → words ≡ move_words ps d → words ≤ 2 ^ 26
    → AreMoved ps d moved nodes → (AreMoved ps (distribution_of (target_view s)) moved nodes → Follows r (end_walk (target_view s) ps) (Some (piece_names (target_view s))) old new before after)
    → Follows r (moved_walk (target_view t) ps) (Some (piece_names (target_view t))) old new before after
goes_on r s t ps d moved nodes words old new before after here there count small are then =
    let same : d ≡ distribution_of (target_view s) = there ∙ ap (λ (x : Held). distribution_of (target_view x)) (sym here) in
    small_by r words (move_words ps (distribution_of (target_view t))) (end_walk (target_view t) ps) (Some (piece_names (target_view t))) old new before after (count ∙ ap (move_words ps) there) small
    (subst (λ (x : Held). Follows r (end_walk (target_view x) ps) (Some (piece_names (target_view x))) old new before after) here (then (subst (λ (e : Distribution). AreMoved ps e moved nodes) same are)))
