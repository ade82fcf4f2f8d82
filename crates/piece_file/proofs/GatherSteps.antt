-- Pieces that are read one after the other.
use Rattle.std.proofs.Common.{◌≡◌, ℕ, suc, ◌+◌, ◌*◌, ◌<◌, ◌≤◌, List, [], ◌∷◌, ◌++◌, length, map, refl, sym, ap, subst, ◌∙◌, append_assoc, append-nil, arith}
use Rattle.std.specs.Prelude.{sum}
use Rattle.std.proofs.lemmas.List.{length-append, map-append}
use Rattle.std.proofs.lemmas.List.Sums.{sum_by-append}
use Rattle.store_io.specs.Outside.{Files}
use Rattle.piece_grammar.specs.Head as grammar
use Rattle.piece_grammar.specs.Turn.{Turn, HasTurn}
use Rattle.piece_grammar.specs.Pieces.{Held, turn_behind, name_of, wanted, words_of, AreAll, AreFew, AreHeld, HoldsPiece}
use Rattle.piece_grammar.specs.PieceFault.{IsPieceFault}
use Rattle.piece_grammar.proofs.GatherLaws.{held_more}
use Rattle.piece_file.specs.FaultView.{fault_view}
use Rattle.piece_file.specs.Gathering.{held_in, IsNamed, NamesPiece, RefusesTurn, HaveTurns, AreWithin, Refuses}
use Rattle.piece_file.specs.declared.fault.PieceErr.{PieceErr}
use Rattle.piece_file.specs.declared.fault.PieceErr.TheVariants.{Missing, Failed, Bad, NoMemory}

abbrev more : List grammar.Piece → grammar.Piece → List grammar.Piece
more ps p = ps ++ p ∷ []

-- ---- one piece more

have_more : (before ps : List grammar.Piece) (p : grammar.Piece) → HaveTurns before ps → grammar.IsHead p.head → HasTurn (turn_behind (before ++ ps)) p.head → HaveTurns before (more ps p)
have_more before [] p have head is = (head, subst (λ (qs : List grammar.Piece). HasTurn (turn_behind qs) p.head) (append-nil before) is, tt)
have_more before (first ∷ ps) p have head is =
    (have.0, have.1, have_more (before ++ first ∷ []) ps p have.2 head (subst (λ (qs : List grammar.Piece). HasTurn (turn_behind qs) p.head) (sym (append_assoc before (first ∷ []) ps)) is))

pub turns_more : (ps : List grammar.Piece) (turn : Turn) (p : grammar.Piece) → turn ≡ turn_behind ps → HaveTurns [] ps → grammar.IsHead p.head → HasTurn turn p.head → HaveTurns [] (more ps p)
turns_more ps turn p same have head is = have_more [] ps p have head (subst (λ (t : Turn). HasTurn t p.head) same is)

size_of : grammar.Piece → ℕ
size_of p = grammar.array_words p.head

one_size : (a : ℕ) → 0 + a ≡ a
one_size a = omega arith

words_more : (ps : List grammar.Piece) (p : grammar.Piece) → words_of (more ps p) ≡ words_of ps + grammar.array_words p.head
unfolding size_of
words_more ps p =
    ap sum (map-append size_of ps (p ∷ []))
    ∙ sum_by-append (λ (n : ℕ). n) (map size_of ps) (size_of p ∷ [])
    ∙ ap (λ (n : ℕ). words_of ps + n) (one_size (grammar.array_words p.head))

pub words_are : (ps : List grammar.Piece) (p : grammar.Piece) (old new size : ℕ) → old ≡ words_of ps → size ≡ grammar.array_words p.head → new ≡ old + size → new ≡ words_of (more ps p)
words_are ps p old new size before is sum = sum ∙ ap (λ (n : ℕ). n + size) before ∙ ap (λ (n : ℕ). words_of ps + n) is ∙ sym (words_more ps p)

before_is : (ps : List grammar.Piece) → (turn_behind ps).before ≡ words_of ps
before_is [] = refl
before_is (first ∷ ps) = refl

-- there is room for the words of a turn
pub turn_room : (ps : List grammar.Piece) (turn : Turn) (words : ℕ) → turn ≡ turn_behind ps → words ≡ words_of ps → turn.before ≡ words
turn_room ps turn words same is = ap (λ (t : Turn). t.before) same ∙ before_is ps ∙ sym is

some_wanted : (a b : ℕ) → 1 ≤ a → 1 ≤ b → 1 ≤ a * b
some_wanted a b p q = grind arith

pub within_more : (ps : List grammar.Piece) (p : grammar.Piece) → AreFew ps → grammar.IsHead p.head → AreWithin (more ps p)
within_more [] p few head = some_wanted p.head.nprow p.head.npcol head.some_rows head.some_columns
within_more (first ∷ ps) p few head = let long : length (more ps p) ≡ length ps + 1 = length-append ps (p ∷ []) in let less : suc (length ps) < wanted first.head = few in omega arith

pub held_turn : (held : Held) (prefix : List ℕ) (ps : List grammar.Piece) (turn : Turn) (p : grammar.Piece) → turn ≡ turn_behind ps → AreHeld held prefix ps → HoldsPiece held prefix turn p → AreHeld held prefix (more ps p)
held_turn held prefix ps turn p same all is = held_more held prefix [] ps p all (subst (λ (t : Turn). HoldsPiece held prefix t p) same is)

-- ---- a turn whose piece isn't there

pub refuses_next : (e : PieceErr) (files : Files) (prefix : List ℕ) (ps : List grammar.Piece) (turn : Turn) → turn ≡ turn_behind ps → AreHeld (held_in files) prefix ps → AreFew ps → IsNamed e (name_of prefix turn) → RefusesTurn e files prefix turn
    → Refuses e files prefix
refuses_next (Missing name) files prefix ps turn same all few named r =
    let is : name ≡ name_of prefix (turn_behind ps) = named ∙ ap (name_of prefix) same in
    record { before = ps; are_held = all; are_few = few; name_is = is; is_missing = ap (held_in files) named ∙ r }
refuses_next (Failed name) files prefix ps turn same all few named r = record { before = ps; are_held = all; are_few = few; name_is = named ∙ ap (name_of prefix) same }
refuses_next (Bad name line fault) files prefix ps turn same all few named r = record {
  before = ps;
  are_held = all;
  are_few = few;
  name_is = named ∙ ap (name_of prefix) same;
  bytes = r.0;
  is_held = ap (held_in files) named ∙ r.1;
  is_fault = subst (λ (t : Turn). IsPieceFault t r.0 (record { line = line; fault = fault_view fault })) same r.2;
}
refuses_next NoMemory files prefix ps turn same all few named r = tt

-- ---- the end of the input after the pieces that were read

abbrev pub IsEndedBehind : List grammar.Piece → (left : List ℕ) → Type 0
IsEndedBehind [] left = Unit {0}
IsEndedBehind (first ∷ ps) left = left ≡ []

pub ended_more : (ps : List grammar.Piece) (p : grammar.Piece) (left : List ℕ) → left ≡ [] → IsEndedBehind (more ps p) left
ended_more [] p left e = e
ended_more (first ∷ ps) p left e = e

pub ended_all : (ps : List grammar.Piece) (left : List ℕ) → AreAll ps → IsEndedBehind ps left → left ≡ []
ended_all [] left all e = absurd all
ended_all (first ∷ ps) left all e = e

-- ---- the number of pieces

pub few_pieces : (ps : List grammar.Piece) → HaveTurns [] ps → AreFew ps → length ps < 64
few_pieces [] have few = omega arith
few_pieces (first ∷ ps) have few = let most : first.head.nprow * first.head.npcol ≤ 64 = have.0.few in let less : suc (length ps) < wanted first.head = few in omega arith

-- ---- names

pub names_piece : (e : PieceErr) (prefix : List ℕ) (turn : Turn) → IsNamed e (name_of prefix turn) → NamesPiece e prefix
names_piece (Missing name) prefix turn is = (turn.prow, turn.pcol, is)
names_piece (Failed name) prefix turn is = (turn.prow, turn.pcol, is)
names_piece (Bad name line fault) prefix turn is = (turn.prow, turn.pcol, is)
names_piece NoMemory prefix turn is = tt
