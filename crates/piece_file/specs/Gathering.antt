-- What reading the pieces of a prefix gives, and what it does to a store.
use Rattle.std.specs.Prelude.{◌≡◌, ℕ, ◌≤◌, List, [], ◌∷◌, ◌++◌, length, Some, None, Result, Ok, Err, IfOk, IfErr, OnOk, IsTrue, map}
use Rattle.std.specs.Global.{Vec}
use Rattle.std.specs.FinMap.{get}
use Rattle.store_io.specs.Outside.{Outside, Files, SameCounts, HasFailed, HasMissed}
use Rattle.text_io.specs.Reading.{OnlyReads}
use Rattle.piece_grammar.specs.Head as grammar
use Rattle.piece_grammar.specs.Turn.{Turn, HasTurn}
use Rattle.piece_grammar.specs.PieceFault.{IsPieceFault}
use Rattle.piece_grammar.specs.PlainPiece.{piece_name}
use Rattle.piece_grammar.specs.Pieces as pieces
use Rattle.piece_file.specs.HeadView.{head_view}
use Rattle.piece_file.specs.FaultView.{fault_view}
use Rattle.piece_file.specs.PieceView.{piece_view}
use Rattle.piece_file.specs.declared.piece.Piece.{Piece}
use Rattle.piece_file.specs.declared.fault.PieceErr.{PieceErr}
use Rattle.piece_file.specs.declared.fault.PieceErr.TheVariants.{Missing, Failed, Bad, NoMemory}

-- the bytes of the files by their names
abbrev pub held_in : Files → pieces.Held
held_in files name = get files name

-- ---- why each answer came, by the counts

abbrev pub Because : PieceErr → Outside → Outside → Type 0
Because (Missing name) old new = HasMissed old new
Because (Failed name) old new = HasFailed old new
Because (Bad name line fault) old new = SameCounts old new
Because NoMemory old new = SameCounts old new

abbrev pub HasReason : {X : Type 0} → Result X PieceErr → Outside → Outside → Type 0
HasReason (Ok x) old new = SameCounts old new
HasReason (Err e) old new = Because e old new

-- ---- one piece

-- the answer names this file
abbrev pub IsNamed : PieceErr → (name : List ℕ) → Type 0
IsNamed (Missing named) name = named ≡ name
IsNamed (Failed named) name = named ≡ name
IsNamed (Bad named line fault) name = named ≡ name
IsNamed NoMemory name = Unit {0}

-- what each answer says of the file of a turn, where the store tells
abbrev pub RefusesTurn : PieceErr → Files → (prefix : List ℕ) → Turn → Type 0
RefusesTurn (Missing named) files prefix turn = get files (pieces.name_of prefix turn) ≡ None
RefusesTurn (Bad named line fault) files prefix turn = (bytes : List ℕ) × (get files (pieces.name_of prefix turn) ≡ Some bytes) × IsPieceFault turn bytes (record { line = line; fault = fault_view fault })
RefusesTurn (Failed named) files prefix turn = Unit {0}
RefusesTurn NoMemory files prefix turn = Unit {0}

abbrev pub LoadsTurn : Result Piece PieceErr → Files → (prefix : List ℕ) → Turn → Type 0
LoadsTurn (Ok p) files prefix turn = pieces.HoldsPiece (held_in files) prefix turn (piece_view p)
LoadsTurn (Err e) files prefix turn = RefusesTurn e files prefix turn

-- what reading the file of a turn gives, and what it does to a store
pub record ReadsTurn (result : Result Piece PieceErr) (prefix : List ℕ) (turn : Turn) (old new : Outside) : Type 0 where
  pub loads : IsTrue old.told → LoadsTurn result old.files prefix turn
  pub named : IfErr result (λ e. IsNamed e (pieces.name_of prefix turn))
  pub is_head : IfOk result (λ p. grammar.IsHead (head_view p.head))
  pub has_turn : IfOk result (λ p. HasTurn turn (head_view p.head))
  pub ended : IsTrue old.told → OnOk result (new.left ≡ [])
  pub cause : HasReason result old new
  pub same : OnlyReads old new

-- ---- all pieces

-- each piece has a head that a piece may have, and its turn after those before it
abbrev pub HaveTurns : (before ps : List grammar.Piece) → Type 0
HaveTurns before [] = Unit {0}
HaveTurns before (p ∷ more) = grammar.IsHead p.head × HasTurn (pieces.turn_behind before) p.head × HaveTurns (before ++ p ∷ []) more

-- no more pieces than the grid of the first has processes
abbrev pub AreWithin : List grammar.Piece → Type 0
AreWithin [] = Unit {0}
AreWithin (first ∷ more) = length (first ∷ more) ≤ pieces.wanted first.head

-- the pieces of all processes, each at its turn
pub record AreTurns (ps : List grammar.Piece) : Type 0 where
  pub all : pieces.AreAll ps
  pub turns : HaveTurns [] ps

-- the answer names the file of some process's piece
abbrev pub NamesPiece : PieceErr → (prefix : List ℕ) → Type 0
NamesPiece (Missing name) prefix = (p : ℕ) × (q : ℕ) × (name ≡ piece_name prefix p q)
NamesPiece (Failed name) prefix = (p : ℕ) × (q : ℕ) × (name ≡ piece_name prefix p q)
NamesPiece (Bad name line fault) prefix = (p : ℕ) × (q : ℕ) × (name ≡ piece_name prefix p q)
NamesPiece NoMemory prefix = Unit {0}

-- the name is that of the first piece that isn't read yet; all before it are held and good
pub record IsNext (files : Files) (prefix name : List ℕ) : Type 0 where
  pub before : List grammar.Piece
  pub are_held : pieces.AreHeld (held_in files) prefix before
  pub are_few : pieces.AreFew before
  pub name_is : name ≡ pieces.name_of prefix (pieces.turn_behind before)

-- what each answer says of the files of a store that tells
abbrev pub Refuses : PieceErr → Files → (prefix : List ℕ) → Type 0
Refuses (Missing name) files prefix = pieces.IsMissing (held_in files) prefix name
Refuses (Bad name line fault) files prefix = pieces.IsBad (held_in files) prefix name (record { line = line; fault = fault_view fault })
Refuses (Failed name) files prefix = IsNext files prefix name
Refuses NoMemory files prefix = Unit {0}

abbrev pub Gathers : Result (Vec Piece) PieceErr → Files → (prefix : List ℕ) → Type 0
Gathers (Ok ps) files prefix = pieces.IsGathered (held_in files) prefix (pieces.Whole (map piece_view ps.items))
Gathers (Err e) files prefix = Refuses e files prefix
