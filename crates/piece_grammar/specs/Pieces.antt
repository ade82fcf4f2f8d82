-- All pieces of a matrix: those of every process of the grid that the first piece names, in row-major order.
use Rattle.std.specs.Prelude.{◌≡◌, ℕ, zero, suc, ◌-◌, ◌*◌, ◌/◌, ◌%◌, ◌<◌, List, [], ◌∷◌, ◌++◌, length, sum, map, Option, Some, None, Result, Ok, Err}
use Rattle.piece_grammar.specs.Head.{Head, Piece, array_words}
use Rattle.piece_grammar.specs.Faults.{Refusal}
use Rattle.piece_grammar.specs.Turn.{Turn, alone}
use Rattle.piece_grammar.specs.PieceText.{IsPieceTextAt}
use Rattle.piece_grammar.specs.PieceFault.{IsPieceFault}
use Rattle.piece_grammar.specs.PieceReading.{read_text}
use Rattle.piece_grammar.specs.PlainPiece.{piece_name}

-- the bytes of the file with a name, where there is one
abbrev pub Held : Type 0
Held = List ℕ → Option (List ℕ)

-- the words of their local arrays
abbrev pub words_of : List Piece → ℕ
words_of pieces = sum (map (λ p. array_words p.head) pieces)

-- Whose turn it is after these pieces: first the process (0, 0), and then the others of its grid by rows.
abbrev pub turn_behind : List Piece → Turn
turn_behind [] = alone 0 0
turn_behind (first ∷ more) = record {
  prow = suc (length more) / first.head.npcol;
  pcol = suc (length more) % first.head.npcol;
  first = Some first.head;
  before = words_of (first ∷ more);
}

-- the name of the file of a turn
abbrev pub name_of : (prefix : List ℕ) → Turn → List ℕ
name_of prefix turn = piece_name prefix turn.prow turn.pcol

-- the number of all pieces, by the head of the first
abbrev pub wanted : Head → ℕ
wanted first = first.nprow * first.npcol

abbrev pub AreAll : List Piece → Type 0
AreAll [] = ⊥
AreAll (first ∷ more) = length (first ∷ more) ≡ wanted first.head

abbrev pub AreFew : List Piece → Type 0
AreFew [] = Unit {0}
AreFew (first ∷ more) = length (first ∷ more) < wanted first.head

-- the file of this turn is held, and is the piece
pub record HoldsPiece (held : Held) (prefix : List ℕ) (turn : Turn) (p : Piece) : Type 0 where
  pub bytes : List ℕ
  pub is_held : held (name_of prefix turn) ≡ Some bytes
  pub is_piece : IsPieceTextAt turn bytes p

-- each of these pieces is held where its turn comes, after those before it
abbrev pub AreHeldBehind : Held → (prefix : List ℕ) → (before pieces : List Piece) → Type 0
AreHeldBehind held prefix before [] = Unit {0}
AreHeldBehind held prefix before (p ∷ more) = HoldsPiece held prefix (turn_behind before) p × AreHeldBehind held prefix (before ++ p ∷ []) more

abbrev pub AreHeld : Held → (prefix : List ℕ) → List Piece → Type 0
AreHeld held prefix pieces = AreHeldBehind held prefix [] pieces

-- what the pieces of a prefix are
pub data Gathered : Type 0 where
  -- all pieces in their order
  Whole : List Piece → Gathered
  -- the first name that isn't held, where all pieces before it are
  Missing : (name : List ℕ) → Gathered
  -- the first name whose file is no piece at its turn, with its line and fault
  Bad : (name : List ℕ) → Refusal → Gathered

pub record IsMissing (held : Held) (prefix name : List ℕ) : Type 0 where
  pub before : List Piece
  pub are_held : AreHeld held prefix before
  pub are_few : AreFew before
  pub name_is : name ≡ name_of prefix (turn_behind before)
  pub is_missing : held name ≡ None

pub record IsBad (held : Held) (prefix name : List ℕ) (r : Refusal) : Type 0 where
  pub before : List Piece
  pub are_held : AreHeld held prefix before
  pub are_few : AreFew before
  pub name_is : name ≡ name_of prefix (turn_behind before)
  pub bytes : List ℕ
  pub is_held : held name ≡ Some bytes
  pub is_fault : IsPieceFault (turn_behind before) bytes r

abbrev pub IsGathered : Held → (prefix : List ℕ) → Gathered → Type 0
IsGathered held prefix (Whole pieces) = AreHeld held prefix pieces × AreAll pieces
IsGathered held prefix (Missing name) = IsMissing held prefix name
IsGathered held prefix (Bad name r) = IsBad held prefix name r

-- the same as a function: the piece of a turn and what comes after it
abbrev pub taken : (name : List ℕ) → Result Piece Refusal → (Piece → Gathered) → Gathered
taken name (Ok p) next = next p
taken name (Err r) next = Bad name r

abbrev pub taken_from : (name : List ℕ) → Turn → Option (List ℕ) → (Piece → Gathered) → Gathered
taken_from name turn None next = Missing name
taken_from name turn (Some bytes) next = taken name (read_text turn bytes) next

abbrev pub take_turn : Held → (prefix : List ℕ) → Turn → (Piece → Gathered) → Gathered
take_turn held prefix turn next = taken_from (name_of prefix turn) turn (held (name_of prefix turn)) next

-- so many pieces more
unfoldable pub gather_on : Held → (prefix : List ℕ) → (left : ℕ) → List Piece → Gathered
gather_on held prefix zero before = Whole before
gather_on held prefix (suc left) before = take_turn held prefix (turn_behind before) (λ p. gather_on held prefix left (before ++ p ∷ []))

unfoldable pub gather : Held → (prefix : List ℕ) → Gathered
gather held prefix = take_turn held prefix (turn_behind []) (λ first. gather_on held prefix (wanted first.head - 1) (first ∷ []))

-- The pieces of a prefix are all there, or there is exactly one first name that is missing or bad: exactly what the function gives.
pub record IsGathering (held : Held) (prefix : List ℕ) : Type 0 where
  pub is_so : IsGathered held prefix (gather held prefix)
  pub only : (g : Gathered) → IsGathered held prefix g → gather held prefix ≡ g
