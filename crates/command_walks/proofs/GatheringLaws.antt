-- The pieces that were gathered are those that the walk reads.
use Rattle.std.proofs.Common.{◌≡◌, ℕ, suc, ◌+◌, ◌-◌, ◌<◌, IsTrue, List, [], ◌∷◌, ◌++◌, length, Some, refl, sym, ap, subst, ◌∙◌, append_assoc, inl, inr, arith, Option}
use Rattle.std.specs.FinMap.{get}
use Rattle.store_io.specs.Outside.{Outside, Files}
use Rattle.text_io.specs.Reading.{OnlyReads}
use Rattle.piece_grammar.specs.Head.{Piece}
use Rattle.piece_grammar.specs.Faults.{Refusal}
use Rattle.piece_grammar.specs.Turn.{Turn}
use Rattle.piece_grammar.specs.PieceReading.{read_text}
use Rattle.piece_grammar.specs.PieceFault.{IsPieceFault}
use Rattle.piece_grammar.specs.Pieces as pieces
use Rattle.piece_grammar.specs.Pieces.{turn_behind, name_of, wanted, AreFew, HoldsPiece, AreHeldBehind, AreHeld}
use Rattle.piece_grammar.proofs.Laws.{reading}
use Rattle.piece_file.specs.FaultView.{fault_view}
use Rattle.piece_file.specs.Gathering.{held_in, Refuses, Because}
use Rattle.piece_file.specs.declared.fault.PieceErr.{PieceErr}
use Rattle.piece_file.specs.declared.fault.PieceErr.TheVariants as gather
use Rattle.command_walks.specs.Answer.{refused}
use Rattle.tool_lines.specs.Texts.{at_line}
use Rattle.tool_lines.specs.FaultTexts.{piece_fault_text}
use Rattle.command_walks.specs.Walk as walk
use Rattle.command_walks.specs.Walk.{Walk, answer, Comes, Needs}
use Rattle.command_walks.specs.ReadingWalks.{with_piece, piece_walk, pieces_on, pieces_walk}
use Rattle.command_walks.specs.Following.{StopsWith, gather_status, gather_line}
use Rattle.command_walks.specs.declared.status.Status.TheVariants as status
use Rattle.command_walks.proofs.WalkLaws.{comes_here, comes_on, comes_answer, comes_as, comes_from, missing_answer, untouched}

-- ---- one piece

-- the walk comes past a piece that is held
piece_comes : (prefix : List ℕ) (turn : Turn) (on : Piece → Walk) (files : Files) (p : Piece) → HoldsPiece (held_in files) prefix turn p → Comes (piece_walk prefix turn on) files (on p)
unfolding piece_walk
piece_comes prefix turn on files p is =
    let here : Comes (with_piece (name_of prefix turn) (read_text turn is.bytes) on) files (on p)
    = subst (λ r. Comes (with_piece (name_of prefix turn) r on) files (on p)) (sym ((reading turn).reads is.bytes p is.is_piece)) (comes_here (on p) files) in
    inr (is.bytes, is.is_held, here)

-- its file is needed
piece_needed : (prefix : List ℕ) (turn : Turn) (on : Piece → Walk) (files : Files) → Needs (piece_walk prefix turn on) files (name_of prefix turn)
unfolding piece_walk
piece_needed prefix turn on files = record { next = _; comes = inl refl }

-- a text of no piece decides
bad_answer : (prefix : List ℕ) (turn : Turn) (on : Piece → Walk) (files : Files) (bytes : List ℕ) (r : Refusal) → get files (name_of prefix turn) ≡ Some bytes → IsPieceFault turn bytes r
    → answer (piece_walk prefix turn on) files ≡ refused (at_line (name_of prefix turn) r.line (piece_fault_text r.fault)) status.Refused
unfolding piece_walk
bad_answer prefix turn on files bytes r held fault =
    ap (λ o. walk.held_answer (name_of prefix turn) o (λ b. answer (with_piece (name_of prefix turn) (read_text turn b) on) files)) held
    ∙ ap (λ t. answer (with_piece (name_of prefix turn) t on) files) ((reading turn).finds bytes r fault)

-- ---- all pieces

nothing_more : (ps : List Piece) → ps ++ [] ≡ ps
nothing_more [] = refl
nothing_more (q ∷ qs) = ap (λ (rs : List Piece). q ∷ rs) (nothing_more qs)

one_left : (prefix : List ℕ) (left : ℕ) (before : List Piece) (next : List Piece → Walk) → pieces_on prefix (suc left) before next ≡ piece_walk prefix (turn_behind before) (λ p. pieces_on prefix left (before ++ p ∷ []) next)
unfolding pieces_on
one_left prefix left before next = refl

none_left : (prefix : List ℕ) (before : List Piece) (next : List Piece → Walk) → pieces_on prefix 0 before next ≡ next before
unfolding pieces_on
none_left prefix before next = refl

at_first : (prefix : List ℕ) (next : List Piece → Walk) → pieces_walk prefix next ≡ piece_walk prefix (turn_behind []) (λ first. pieces_on prefix (wanted first.head - 1) (first ∷ []) next)
unfolding pieces_walk
at_first prefix next = refl

-- the walk comes past pieces that are held
pieces_go : (prefix : List ℕ) (files : Files) (next : List Piece → Walk) (before ps : List Piece) (left n : ℕ) → AreHeldBehind (held_in files) prefix before ps → n ≡ length ps + left
    → Comes (pieces_on prefix n before next) files (pieces_on prefix left (before ++ ps) next)
pieces_go prefix files next before [] left n all e =
    let same : n ≡ left = omega arith in
    comes_as (pieces_on prefix n before next) files (pieces_on prefix n before next) (pieces_on prefix left (before ++ []) next)
    (ap (λ (k : ℕ). pieces_on prefix k before next) same ∙ ap (λ (qs : List Piece). pieces_on prefix left qs next) (sym (nothing_more before)))
    (comes_here (pieces_on prefix n before next) files)
pieces_go prefix files next before (p ∷ ps) left n all e =
    let same : n ≡ suc (length ps + left) = omega arith in
    let on : Piece → Walk = λ q. pieces_on prefix (length ps + left) (before ++ q ∷ []) next in
    comes_from (pieces_on prefix n before next) (piece_walk prefix (turn_behind before) on) files (pieces_on prefix left (before ++ p ∷ ps) next)
    (ap (λ (k : ℕ). pieces_on prefix k before next) same ∙ one_left prefix (length ps + left) before next)
    (comes_on (piece_walk prefix (turn_behind before) on) files (on p) (pieces_on prefix left (before ++ p ∷ ps) next) (piece_comes prefix (turn_behind before) on files p all.0)
    (comes_as (on p) files (pieces_on prefix left ((before ++ p ∷ []) ++ ps) next) (pieces_on prefix left (before ++ p ∷ ps) next) (ap (λ (qs : List Piece). pieces_on prefix left qs next) (append_assoc before (p ∷ []) ps))
    (pieces_go prefix files next (before ++ p ∷ []) ps left (length ps + left) all.1 refl)))

from_first : (prefix : List ℕ) (files : Files) (next : List Piece → Walk) (first : Piece) (more : List Piece) (left : ℕ) → AreHeld (held_in files) prefix (first ∷ more) → wanted first.head ≡ suc (length more + left)
    → Comes (pieces_walk prefix next) files (pieces_on prefix left (first ∷ more) next)
from_first prefix files next first more left all e =
    let on : Piece → Walk = λ f. pieces_on prefix (wanted f.head - 1) (f ∷ []) next in
    comes_from (pieces_walk prefix next) (piece_walk prefix (turn_behind []) on) files (pieces_on prefix left (first ∷ more) next) (at_first prefix next)
    (comes_on (piece_walk prefix (turn_behind []) on) files (on first) (pieces_on prefix left (first ∷ more) next) (piece_comes prefix (turn_behind []) on files first all.0)
    (pieces_go prefix files next (first ∷ []) more left (wanted first.head - 1) all.1 (omega arith)))

-- the walk comes to the turn after these pieces
record ComesToTurn (prefix : List ℕ) (files : Files) (next : List Piece → Walk) (ps : List Piece) : Type 0 where
  on : Piece → Walk
  comes : Comes (pieces_walk prefix next) files (piece_walk prefix (turn_behind ps) on)

to_turn : (prefix : List ℕ) (files : Files) (next : List Piece → Walk) (ps : List Piece) → AreHeld (held_in files) prefix ps → AreFew ps → ComesToTurn prefix files next ps
to_turn prefix files next [] all few = record {
  on = λ first. pieces_on prefix (wanted first.head - 1) (first ∷ []) next;
  comes = comes_as (pieces_walk prefix next) files (pieces_walk prefix next) (piece_walk prefix (turn_behind []) (λ first. pieces_on prefix (wanted first.head - 1) (first ∷ []) next)) (at_first prefix next) (comes_here (pieces_walk prefix next) files);
}
to_turn prefix files next (first ∷ more) all few =
    let less : suc (length more) < wanted first.head = few in
    let left : ℕ = wanted first.head - suc (suc (length more)) in
    record {
      on = λ p. pieces_on prefix left ((first ∷ more) ++ p ∷ []) next;
      comes = comes_as (pieces_walk prefix next) files (pieces_on prefix (suc left) (first ∷ more) next) (piece_walk prefix (turn_behind (first ∷ more)) (λ p. pieces_on prefix left ((first ∷ more) ++ p ∷ []) next)) (one_left prefix left (first ∷ more) next)
          (from_first prefix files next first more (suc left) all (omega arith));
    }

-- The walk comes past all pieces that were gathered.
pub pieces_come : (prefix : List ℕ) (next : List Piece → Walk) (files : Files) (ps : List Piece) → pieces.IsGathered (held_in files) prefix (pieces.Whole ps) → Comes (pieces_walk prefix next) files (next ps)
pieces_come prefix next files [] is = absurd is.1
pieces_come prefix next files (first ∷ more) is =
    let count : suc (length more) ≡ wanted first.head = is.1 in
    comes_as (pieces_walk prefix next) files (pieces_on prefix 0 (first ∷ more) next) (next (first ∷ more)) (none_left prefix (first ∷ more) next) (from_first prefix files next first more 0 is.0 (omega arith))

-- the next piece is needed
piece_next : (prefix name : List ℕ) (next : List Piece → Walk) (files : Files) (ps : List Piece) → AreHeld (held_in files) prefix ps → AreFew ps → name ≡ name_of prefix (turn_behind ps) → Needs (pieces_walk prefix next) files name
piece_next prefix name next files ps all few is =
    let here = to_turn prefix files next ps all few in
    let need = piece_needed prefix (turn_behind ps) here.on files in
    subst (λ n. Needs (pieces_walk prefix next) files n) (sym is) (record { next = need.next; comes = comes_on (pieces_walk prefix next) files (piece_walk prefix (turn_behind ps) here.on) _ here.comes need.comes })

bad_piece : (prefix name : List ℕ) (next : List Piece → Walk) (files : Files) (r : Refusal) → pieces.IsBad (held_in files) prefix name r → answer (pieces_walk prefix next) files ≡ refused (at_line name r.line (piece_fault_text r.fault)) status.Refused
bad_piece prefix name next files r is =
    let here = to_turn prefix files next is.before is.are_held is.are_few in
    let held : get files (name_of prefix (turn_behind is.before)) ≡ Some is.bytes = ap (get files) (sym is.name_is) ∙ is.is_held in
    comes_answer (pieces_walk prefix next) files (piece_walk prefix (turn_behind is.before) here.on) here.comes
    ∙ bad_answer prefix (turn_behind is.before) here.on files is.bytes r held is.is_fault
    ∙ ap (λ n. refused (at_line n r.line (piece_fault_text r.fault)) status.Refused) (sym is.name_is)

missing_piece : (prefix name : List ℕ) (next : List Piece → Walk) (files : Files) → pieces.IsMissing (held_in files) prefix name → Needs (pieces_walk prefix next) files name
missing_piece prefix name next files is = piece_next prefix name next files is.before is.are_held is.are_few is.name_is

-- The walk stops where not all pieces were gathered.
pub pieces_stop : (e : PieceErr) (prefix : List ℕ) (next : List Piece → Walk) (names : Option (List (List ℕ))) (old new : Outside) → (IsTrue old.told → Refuses e old.files prefix) → Because e old new → OnlyReads old new → StopsWith (gather_status e) (gather_line e) (pieces_walk prefix next) names old new
pieces_stop (gather.Missing name) prefix next names old new is why same pour = inl (record {
  name = name;
  needed = λ told. missing_piece prefix name next old.files (is told);
  why = inl (record { missed = why; line_is = refl; answered = λ told. missing_answer (pieces_walk prefix next) old.files name (missing_piece prefix name next old.files (is told)) (let none = is told in none.is_missing) });
  untouched = untouched old new same;
  silent = refl;
})
pieces_stop (gather.Failed name) prefix next names old new is why same pour = inl (record {
  name = name;
  needed = λ told. (let here = is told in piece_next prefix name next old.files here.before here.are_held here.are_few here.name_is);
  why = inr (record { failed = why; line_is = refl });
  untouched = untouched old new same;
  silent = refl;
})
pieces_stop (gather.Bad name line fault) prefix next names old new is why same pour = record {
  answered = λ told. bad_piece prefix name next old.files (record { line = line; fault = fault_view fault }) (is told);
  untouched = untouched old new same;
  counts = why;
  silent = refl;
}
pieces_stop gather.NoMemory prefix next names old new is why same pour = record { untouched = untouched old new same; counts = why; silent = refl; line_is = refl }
