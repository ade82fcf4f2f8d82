-- The pieces of a prefix are what the function gives, and nothing else.
use Rattle.std.proofs.Common.{◌≡◌, ℕ, zero, suc, ◌+◌, ◌-◌, ◌*◌, ◌<◌, ◌≤◌, List, [], ◌∷◌, ◌++◌, length, Option, Some, None, Result, Ok, Err, refl, sym, ap, subst, ◌∙◌, append_assoc, append-nil, arith}
use Rattle.std.proofs.lemmas.List.{length-append}
use Rattle.piece_grammar.specs.Head.{Piece}
use Rattle.piece_grammar.specs.Desc.{desc_of_head}
use Rattle.piece_grammar.specs.Faults.{Refusal}
use Rattle.piece_grammar.specs.Turn.{Turn}
use Rattle.piece_grammar.specs.PieceReading.{read_text}
use Rattle.piece_grammar.specs.Pieces.{Held, turn_behind, name_of, wanted, AreAll, AreFew, HoldsPiece, AreHeldBehind, AreHeld, Gathered, Whole, Missing, Bad, IsGathered, taken, taken_from, take_turn, gather_on, gather, IsGathering}
use Rattle.piece_grammar.proofs.Heads.{IsOnGrid, on_grid}
use Rattle.piece_grammar.proofs.Laws.{reading}

-- one piece more is held
pub held_more : (held : Held) (prefix : List ℕ) (before pieces : List Piece) (p : Piece) → AreHeldBehind held prefix before pieces → HoldsPiece held prefix (turn_behind (before ++ pieces)) p → AreHeldBehind held prefix before (pieces ++ p ∷ [])
held_more held prefix before [] p all is = (subst (λ (ps : List Piece). HoldsPiece held prefix (turn_behind ps) p) (append-nil before) is, tt)
held_more held prefix before (first ∷ pieces) p all is =
    (all.0, held_more held prefix (before ++ first ∷ []) pieces p all.1 (subst (λ (ps : List Piece). HoldsPiece held prefix (turn_behind ps) p) (sym (append_assoc before (first ∷ []) pieces)) is))

-- a file of a turn that is held
held_turn : (held : Held) (prefix : List ℕ) (before : List Piece) (bytes : List ℕ) (next : Piece → Gathered) → AreHeld held prefix before → AreFew before
    → ((p : Piece) → HoldsPiece held prefix (turn_behind before) p → IsGathered held prefix (next p)) → held (name_of prefix (turn_behind before)) ≡ Some bytes
    → IsGathered held prefix (taken (name_of prefix (turn_behind before)) (read_text (turn_behind before) bytes) next)
held_turn held prefix before bytes next all few more e =
    let turn : Turn = turn_behind before in
    elim (read_text turn bytes) as (λ (r : Result Piece Refusal). read_text turn bytes ≡ r → IsGathered held prefix (taken (name_of prefix turn) r next)) [
      | Ok p ↦ λ is. more p (record { bytes = bytes; is_held = e; is_piece = (reading turn).accepts bytes p is })
      | Err r ↦ λ is. record { before = before; are_held = all; are_few = few; name_is = refl; bytes = bytes; is_held = e; is_fault = (reading turn).refuses bytes r is }
    ] refl

-- a turn, and what comes after it
on_turn : (held : Held) (prefix : List ℕ) (before : List Piece) (next : Piece → Gathered) → AreHeld held prefix before → AreFew before
    → ((p : Piece) → HoldsPiece held prefix (turn_behind before) p → IsGathered held prefix (next p)) → IsGathered held prefix (take_turn held prefix (turn_behind before) next)
on_turn held prefix before next all few more =
    let turn : Turn = turn_behind before in
    elim (held (name_of prefix turn)) as (λ (o : Option (List ℕ)). held (name_of prefix turn) ≡ o → IsGathered held prefix (taken_from (name_of prefix turn) turn o next)) [
      | None ↦ λ e. record { before = before; are_held = all; are_few = few; name_is = refl; is_missing = e }
      | Some bytes ↦ λ e. held_turn held prefix before bytes next all few more e
    ] refl

so_on : (held : Held) (prefix : List ℕ) (left : ℕ) (first : Piece) (more : List Piece) → AreHeld held prefix (first ∷ more) → length (first ∷ more) + left ≡ wanted first.head → IsGathered held prefix (gather_on held prefix left (first ∷ more))
unfolding gather_on
so_on held prefix zero first more all count = (all, (let c : length (first ∷ more) + 0 ≡ wanted first.head = count in omega arith))
so_on held prefix (suc left) first more all count =
    on_turn held prefix (first ∷ more) (λ p. gather_on held prefix left ((first ∷ more) ++ p ∷ [])) all (let c : length (first ∷ more) + suc left ≡ wanted first.head = count in omega arith)
    (λ p is. so_on held prefix left first (more ++ p ∷ []) (held_more held prefix [] (first ∷ more) p all is)
    (let c : length (first ∷ more) + suc left ≡ wanted first.head = count in let long : length (more ++ p ∷ []) ≡ length more + 1 = length-append more (p ∷ []) in omega arith))

-- a grid has a process
some_process : (a b : ℕ) → 1 ≤ a → 1 ≤ b → 1 ≤ a * b
some_process a b p q = grind arith

some_wanted : (held : Held) (prefix : List ℕ) (turn : Turn) (p : Piece) → HoldsPiece held prefix turn p → 1 ≤ wanted p.head
some_wanted held prefix turn p is = let on : IsOnGrid (desc_of_head p.head) = on_grid (desc_of_head p.head) is.is_piece.piece.is_desc.on_grid in some_process p.head.nprow p.head.npcol on.some_rows on.some_columns

is_so : (held : Held) (prefix : List ℕ) → IsGathered held prefix (gather held prefix)
unfolding gather
is_so held prefix =
    on_turn held prefix [] (λ first. gather_on held prefix (wanted first.head - 1) (first ∷ [])) tt tt
    (λ p is. so_on held prefix (wanted p.head - 1) p [] (is, tt) (let some : 1 ≤ wanted p.head = some_wanted held prefix (turn_behind []) p is in omega arith))

-- ---- and nothing else

piece_taken : (held : Held) (prefix : List ℕ) (turn : Turn) (p : Piece) (next : Piece → Gathered) → HoldsPiece held prefix turn p → take_turn held prefix turn next ≡ next p
piece_taken held prefix turn p next is = rw (is.is_held, (reading turn).reads is.bytes p is.is_piece) refl

none_taken : (held : Held) (prefix name : List ℕ) (turn : Turn) (next : Piece → Gathered) → name ≡ name_of prefix turn → held name ≡ None → take_turn held prefix turn next ≡ Missing name
none_taken held prefix name turn next is none =
    subst (λ (n : List ℕ). taken_from n turn (held n) next ≡ Missing name) is (rw none refl)

fault_taken : (held : Held) (prefix name : List ℕ) (turn : Turn) (next : Piece → Gathered) (bytes : List ℕ) (r : Refusal) → name ≡ name_of prefix turn → held name ≡ Some bytes → read_text turn bytes ≡ Err r → take_turn held prefix turn next ≡ Bad name r
fault_taken held prefix name turn next bytes r is there e =
    subst (λ (n : List ℕ). taken_from n turn (held n) next ≡ Bad name r) is (rw (there, e) refl)

walked : (held : Held) (prefix : List ℕ) (before pieces : List Piece) (left n : ℕ) → AreHeldBehind held prefix before pieces → n ≡ length pieces + left → gather_on held prefix n before ≡ gather_on held prefix left (before ++ pieces)
unfolding gather_on
walked held prefix before [] left n all e = ap (λ (k : ℕ). gather_on held prefix k before) (let same : n ≡ left = omega arith in same) ∙ ap (gather_on held prefix left) (sym (append-nil before))
walked held prefix before (p ∷ pieces) left n all e =
    ap (λ (k : ℕ). gather_on held prefix k before) (let same : n ≡ suc (length pieces + left) = omega arith in same)
    ∙ piece_taken held prefix (turn_behind before) p (λ (q : Piece). gather_on held prefix (length pieces + left) (before ++ q ∷ [])) all.0
    ∙ walked held prefix (before ++ p ∷ []) pieces left (length pieces + left) all.1 refl
    ∙ ap (gather_on held prefix left) (append_assoc before (p ∷ []) pieces)

walked_from : (held : Held) (prefix : List ℕ) (first : Piece) (more : List Piece) (left : ℕ) → AreHeld held prefix (first ∷ more) → wanted first.head ≡ suc (length more + left) → gather held prefix ≡ gather_on held prefix left (first ∷ more)
unfolding gather
walked_from held prefix first more left all e =
    piece_taken held prefix (turn_behind []) first (λ (f : Piece). gather_on held prefix (wanted f.head - 1) (f ∷ [])) all.0
    ∙ walked held prefix (first ∷ []) more left (wanted first.head - 1) all.1 (omega arith)

only_whole : (held : Held) (prefix : List ℕ) (pieces : List Piece) → AreHeld held prefix pieces → AreAll pieces → gather held prefix ≡ Whole pieces
unfolding gather_on
only_whole held prefix [] all count = absurd count
only_whole held prefix (first ∷ more) all count = walked_from held prefix first more 0 all (let c : suc (length more) ≡ wanted first.head = count in omega arith)

-- after some pieces it is the next one's turn
next_turn : (held : Held) (prefix : List ℕ) (before : List Piece) → AreHeld held prefix before → AreFew before → (next : Piece → Gathered) × (gather held prefix ≡ take_turn held prefix (turn_behind before) next)
unfolding gather gather_on
next_turn held prefix [] all few = (λ (first : Piece). gather_on held prefix (wanted first.head - 1) (first ∷ []), refl)
next_turn held prefix (first ∷ more) all few =
    let less : suc (length more) < wanted first.head = few in
    let left : ℕ = wanted first.head - suc (suc (length more)) in
    (λ (p : Piece). gather_on held prefix left ((first ∷ more) ++ p ∷ []), walked_from held prefix first more (suc left) all (omega arith))

only : (held : Held) (prefix : List ℕ) (g : Gathered) → IsGathered held prefix g → gather held prefix ≡ g
only held prefix (Whole pieces) is = only_whole held prefix pieces is.0 is.1
only held prefix (Missing name) is =
    let n = next_turn held prefix is.before is.are_held is.are_few in
    n.1 ∙ none_taken held prefix name (turn_behind is.before) n.0 is.name_is is.is_missing
only held prefix (Bad name r) is =
    let n = next_turn held prefix is.before is.are_held is.are_few in
    n.1 ∙ fault_taken held prefix name (turn_behind is.before) n.0 is.bytes r is.name_is is.is_held ((reading (turn_behind is.before)).finds is.bytes r is.is_fault)

pub gathering : (held : Held) (prefix : List ℕ) → IsGathering held prefix
gathering held prefix = record { is_so = is_so held prefix; only = only held prefix }
