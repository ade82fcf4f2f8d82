-- Pieces that have their turns hold the whole matrix.
use Rattle.std.proofs.Common.{◌≡◌, ℕ, zero, suc, ◌+◌, ◌*◌, ◌/◌, ◌%◌, ◌<◌, ◌≤◌, List, [], ◌∷◌, ◌++◌, length, get_or, refl, sym, ap, subst, ◌∙◌, arith}
use Rattle.std.specs.Prelude.{map}
use Rattle.std.proofs.lemmas.List.{length-append, length-map}
use Rattle.index_tools.specs.Home.{Layout, local_rows, local_columns}
use Rattle.pack_words.specs.LocalCells.{LocalCells, zeros}
use Rattle.piece_grammar.specs.Head.{Piece, IsHead, layout_of, array_columns}
use Rattle.piece_file.specs.Gathering.{HaveTurns, AreTurns}
use Rattle.spread_cells.specs.Joining.{HoldsSpread}
use Rattle.spread_cells.proofs.JoiningLaws.{holds_spread}
use Rattle.piece_moves.specs.PieceMove.{array_of}
use Rattle.drawn_jobs.specs.Dealing.{layout_by}

-- the array of a piece has room for the part of process k
record HasPart (l : Layout) (k : ℕ) (p : Piece) : Type 0 where
  rows : local_rows l (k / l.npcol) ≤ p.head.lld
  columns : local_columns l (k % l.npcol) ≤ array_columns p.head

part_of : (l : Layout) (p : Piece) (k : ℕ) → IsHead p.head → p.head.prow ≡ k / l.npcol → p.head.pcol ≡ k % l.npcol → layout_of p.head ≡ l → HasPart l k p
part_of l p k is row column agrees =
    let rows : local_rows (layout_of p.head) p.head.prow ≡ local_rows l (k / l.npcol) = ap (λ m. local_rows m p.head.prow) agrees ∙ ap (local_rows l) row in
    let columns : local_columns (layout_of p.head) p.head.pcol ≡ local_columns l (k % l.npcol) = ap (λ m. local_columns m p.head.pcol) agrees ∙ ap (local_columns l) column in
    record { rows = omega (arith, is.lead, rows); columns = omega (arith, columns) }

parts_behind : (first : Piece) (before ps : List Piece) (d : Piece) → HaveTurns (first ∷ before) ps → (k : ℕ) → k < length ps → HasPart (layout_of first.head) (suc (length before) + k) (get_or ps k d)
parts_behind first before [] d turns k lt = absurd (omega arith)
parts_behind first before (p ∷ more) d turns zero lt =
    let here : suc (length before) ≡ suc (length before) + 0 = omega arith in
    subst (λ n. HasPart (layout_of first.head) n p) here (part_of (layout_of first.head) p (suc (length before)) turns.0 turns.1.row turns.1.column turns.1.agrees)
parts_behind first before (p ∷ more) d turns (suc k) lt =
    let here : suc (length (before ++ p ∷ [])) + k ≡ suc (length before) + suc k = omega (arith, length-append before (p ∷ [])) in
    subst (λ n. HasPart (layout_of first.head) n (get_or more k d)) here (parts_behind first (before ++ p ∷ []) more d turns.2 k (omega arith))

zero_div : (n : ℕ) → 0 < n → 0 / n ≡ 0
zero_div n some = omega arith

zero_mod : (n : ℕ) → 0 < n → 0 % n ≡ 0
zero_mod n some = omega arith

all_parts : (first : Piece) (more : List Piece) (d : Piece) → HaveTurns [] (first ∷ more) → (k : ℕ) → k < length (first ∷ more) → HasPart (layout_of first.head) k (get_or (first ∷ more) k d)
all_parts first more d turns zero lt =
    let some : 0 < first.head.npcol = let s = turns.0.some_columns in omega arith in
    part_of (layout_of first.head) first 0 turns.0 (turns.1.row ∙ sym (zero_div first.head.npcol some)) (turns.1.column ∙ sym (zero_mod first.head.npcol some)) refl
all_parts first more d turns (suc k) lt =
    let here : suc 0 + k ≡ suc k = omega arith in
    subst (λ n. HasPart (layout_of first.head) n (get_or more k d)) here (parts_behind first [] more d turns.2 k (omega arith))

array_at : (ps : List Piece) (k : ℕ) (d : Piece) → k < length ps → get_or (map array_of ps) k (zeros 1 0) ≡ array_of (get_or ps k d)
array_at [] k d lt = absurd (omega arith)
array_at (p ∷ ps) zero d lt = refl
array_at (p ∷ ps) (suc k) d lt = array_at ps k d (omega arith)

-- The arrays of such pieces are those of all processes, each with room for its part.
pub turns_hold : (ps : List Piece) → AreTurns ps → HoldsSpread (layout_by ps) (map array_of ps)
turns_hold [] turns = absurd turns.all
turns_hold (first ∷ more) turns =
    let l : Layout = layout_of first.head in
    let all : length (first ∷ more) ≡ l.nprow * l.npcol = turns.all in
    holds_spread l (map array_of (first ∷ more)) (length-map (first ∷ more) array_of ∙ all)
    (λ k lt. let low : k < length (first ∷ more) = omega (arith, all) in
    let P : LocalCells → Type 0 = λ a. local_rows l (k / l.npcol) ≤ a.lld in
    subst P (sym (array_at (first ∷ more) k first low)) (all_parts first more first turns.turns k low).rows)
    (λ k lt. let low : k < length (first ∷ more) = omega (arith, all) in
    let P : LocalCells → Type 0 = λ a. local_columns l (k % l.npcol) ≤ a.cols in
    subst P (sym (array_at (first ∷ more) k first low)) (all_parts first more first turns.turns k low).columns)

-- the head of the first piece
pub first_is_head : (first : Piece) (more : List Piece) → AreTurns (first ∷ more) → IsHead first.head
first_is_head first more turns = turns.turns.0
