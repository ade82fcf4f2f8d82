-- The words of a move.
use Rattle.std.proofs.Common.{◌≡◌, ℕ, suc, ◌+◌, ◌*◌, ◌^◌, ◌<◌, ◌≤◌, List, [], ◌∷◌, ◌++◌, length, get_or, take, refl, ap, ◌∙◌, arith}
use Rattle.std.specs.Prelude.{map, sum}
use Rattle.std.proofs.Math.Nat.{mul-le-mul}
use Rattle.std.proofs.lemmas.List.{map-append}
use Rattle.std.proofs.lemmas.List.Sums.{sum_by_push}
use Rattle.piece_grammar.specs.Head as grammar
use Rattle.piece_grammar.specs.Head.{array_words}
use Rattle.piece_grammar.specs.Pieces.{words_of}
use Rattle.piece_file.specs.PieceView.{piece_view}
use Rattle.piece_file.specs.declared.piece.Piece.{Piece}
use Rattle.piece_moves.specs.Distribution.{Distribution, head_over}
use Rattle.piece_moves.specs.PieceMove.{words_over}
use Rattle.piece_moves.proofs.ListLaws.{map_more}

pub no_words : (rows columns : ℕ) (d : Distribution) → words_over rows columns d 0 ≡ 0
unfolding words_over
no_words rows columns d = refl

pub next_words : (rows columns : ℕ) (d : Distribution) (k : ℕ) → words_over rows columns d (suc k) ≡ words_over rows columns d k + array_words (head_over d rows columns k)
unfolding words_over
next_words rows columns d k = refl

pub more_words : (rows columns : ℕ) (d : Distribution) (k : ℕ) → words_over rows columns d (k + 1) ≡ words_over rows columns d k + array_words (head_over d rows columns k)
more_words rows columns d k = let one : k + 1 ≡ suc k = omega arith in ap (words_over rows columns d) one ∙ next_words rows columns d k

words_with : (ps : List grammar.Piece) (p : grammar.Piece) → words_of (ps ++ p ∷ []) ≡ words_of ps + array_words p.head
words_with ps p =
    let words : grammar.Piece → ℕ = λ q. array_words q.head in
    ap sum (map-append words ps (p ∷ [])) ∙ sum_by_push (λ n. n) (map words ps) (array_words p.head)

-- one piece more
pub pieces_more : (ps : List Piece) (k : ℕ) (p : Piece) → k < length ps → p ≡ get_or ps k p → words_of (map piece_view (take (k + 1) ps)) ≡ words_of (map piece_view (take k ps)) + array_words (piece_view p).head
pieces_more ps k p lt is = ap words_of (map_more piece_view ps k p lt is) ∙ words_with (map piece_view (take k ps)) (piece_view p)

-- the words of one array fit well
pub product_fits : (a b : ℕ) → a ≤ 2 ^ 24 → b ≤ 2 ^ 24 → a * b ≤ 2 ^ 48
product_fits a b h k = grind (arith, mul-le-mul h k)
