-- Pieces that have their turns, one by one.
use Rattle.std.proofs.Common.{◌≡◌, ℕ, zero, suc, ◌+◌, ◌/◌, ◌%◌, ◌<◌, List, [], ◌∷◌, ◌++◌, length, get_or, refl, sym, subst, ◌∙◌, arith}
use Rattle.std.proofs.lemmas.List.{length-append}
use Rattle.index_tools.specs.Home.{Layout}
use Rattle.piece_grammar.specs.Head.{Piece, IsHead, layout_of}
use Rattle.piece_file.specs.Gathering.{HaveTurns, AreTurns}

-- the piece of process k of a layout
pub record IsAt (l : Layout) (k : ℕ) (p : Piece) : Type 0 where
  pub row : p.head.prow ≡ k / l.npcol
  pub column : p.head.pcol ≡ k % l.npcol
  pub layout : layout_of p.head ≡ l
  pub head : IsHead p.head

at_behind : (first : Piece) (before ps : List Piece) (d : Piece) → HaveTurns (first ∷ before) ps → (k : ℕ) → k < length ps → IsAt (layout_of first.head) (suc (length before) + k) (get_or ps k d)
at_behind first before [] d turns k lt = absurd (omega arith)
at_behind first before (p ∷ more) d turns zero lt =
    let here : suc (length before) ≡ suc (length before) + 0 = omega arith in
    subst (λ n. IsAt (layout_of first.head) n p) here (record { row = turns.1.row; column = turns.1.column; layout = turns.1.agrees; head = turns.0 })
at_behind first before (p ∷ more) d turns (suc k) lt =
    let here : suc (length (before ++ p ∷ [])) + k ≡ suc (length before) + suc k = omega (arith, length-append before (p ∷ [])) in
    subst (λ n. IsAt (layout_of first.head) n (get_or more k d)) here (at_behind first (before ++ p ∷ []) more d turns.2 k (omega arith))

zero_div : (n : ℕ) → 0 < n → 0 / n ≡ 0
zero_div n some = omega arith

zero_mod : (n : ℕ) → 0 < n → 0 % n ≡ 0
zero_mod n some = omega arith

-- each piece is that of its process
pub piece_at : (first : Piece) (more : List Piece) (d : Piece) → AreTurns (first ∷ more) → (k : ℕ) → k < length (first ∷ more) → IsAt (layout_of first.head) k (get_or (first ∷ more) k d)
piece_at first more d is zero lt =
    let turns = is.turns in
    let some : 0 < first.head.npcol = let s = turns.0.some_columns in omega arith in
    record { row = turns.1.row ∙ sym (zero_div first.head.npcol some); column = turns.1.column ∙ sym (zero_mod first.head.npcol some); layout = refl; head = turns.0 }
piece_at first more d is (suc k) lt =
    let here : suc 0 + k ≡ suc k = omega arith in
    subst (λ n. IsAt (layout_of first.head) n (get_or more k d)) here (at_behind first [] more d is.turns.2 k (omega arith))
