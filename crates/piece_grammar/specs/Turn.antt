-- The turn of a piece: what is asked of it where pieces are read one after the other.
use Rattle.std.specs.Prelude.{◌≡◌, ℕ, ◌+◌, ◌^◌, ◌≤◌, Option, Some, None}
use Rattle.piece_grammar.specs.Head.{Head, layout_of, array_words}

-- the process row and column that the piece's name tells, the head of the first piece where this isn't the first, and the words of the pieces before it
pub record Turn : Type 0 where
  pub prow : ℕ
  pub pcol : ℕ
  pub first : Option Head
  pub before : ℕ

-- a piece that is read by itself
abbrev pub alone : (prow pcol : ℕ) → Turn
alone prow pcol = record { prow = prow; pcol = pcol; first = None; before = 0 }

-- the same grid, and the same spread of the same matrix, as the first piece
abbrev pub Agrees : Option Head → Head → Type 0
Agrees None h = Unit {0}
Agrees (Some first) h = layout_of h ≡ layout_of first

-- The piece of this head is the one whose turn it is: its process is that of the name, it agrees with the first piece, and with it there are at most 2^26 words.
pub record HasTurn (turn : Turn) (h : Head) : Type 0 where
  pub row : h.prow ≡ turn.prow
  pub column : h.pcol ≡ turn.pcol
  pub agrees : Agrees turn.first h
  pub few : turn.before + array_words h ≤ 2 ^ 26
