-- What contracts see of a desk.
use Rattle.std.specs.Prelude.{◌≡◌, ℕ, ◌<◌, ℤ, Option, Some, None, cond, nat_eq, List, [], ◌∷◌, slice_get, slice_set}
use Rattle.mail_room.specs.declared.seen.Side.{Side}
use Rattle.mail_room.specs.Mail.{side, one_more}

-- by the other rank's number: the sides of the pairs to which the desk's rank sends, and of those from which it receives
pub record DeskView : Type 0 where
  pub outs : List (Option Side)
  pub ins : List (Option Side)

abbrev pub flat : Option (Option Side) → Option Side
flat (Some o) = o
flat None = None

-- the side of the pair with that rank, if it has a queue
abbrev pub side_at : List (Option Side) → ℕ → Option Side
side_at sides other = flat (slice_get sides other)

abbrev pub one_more_at : List (Option Side) → ℕ → List (Option Side)
one_more_at sides other = slice_set sides other (elim (side_at sides other) [ Some s ↦ Some (one_more s) | None ↦ None ])

-- one more message is put on the way to that rank, or taken from it
abbrev pub after_put : DeskView → ℕ → DeskView
after_put d to = record d { outs = one_more_at d.outs to }

abbrev pub after_take : DeskView → ℕ → DeskView
after_take d from = record d { ins = one_more_at d.ins from }

abbrev pub capacity_of : Option Side → Option ℕ
capacity_of (Some s) = Some s.capacity
capacity_of None = None

-- the capacity of each ordered pair's queue, where the pair has one
abbrev pub Capacities : Type 0
Capacities = ℕ → ℕ → Option ℕ

abbrev pub or_else : Option ℕ → Option ℕ → Option ℕ
or_else (Some c) other = Some c
or_else None other = other

-- what a row of from, to and capacity says of the pair (i, j)
abbrev pub row_at : ℕ × ℕ × ℕ → Capacities
row_at row i j = cond (nat_eq row.0 i) (cond (nat_eq row.1 j) (Some row.2) None) None

-- the capacities that rows say
abbrev pub capacities : List (ℕ × ℕ × ℕ) → Capacities
capacities [] i j = None
capacities (row ∷ rows) i j = or_else (capacities rows i j) (row_at row i j)

-- the side of a pair with these messages, of which so many are done
abbrev pub side_of : List (List ℤ) → Option ℕ → ℕ → Option Side
side_of letters (Some c) done = Some (side letters c done)
side_of letters None done = None

-- a desk of rank r, which has put and taken so many messages of each of its pairs
pub record IsDesk (letters : ℕ → ℕ → List (List ℤ)) (caps : Capacities) (r : ℕ) (put taken : ℕ → ℕ) (d : DeskView) : Type 0 where
  pub outs : (to : ℕ) → side_at d.outs to ≡ side_of (letters r to) (caps r to) (put to)
  pub ins : (from : ℕ) → side_at d.ins from ≡ side_of (letters from r) (caps from r) (taken from)

-- nothing is put or taken yet
abbrev pub none_yet : ℕ → ℕ
none_yet other = 0

-- the desks of the ranks, by rank, before the first message
abbrev pub AreNewDesks : (ℕ → ℕ → List (List ℤ)) → Capacities → List DeskView → Type 0
AreNewDesks letters caps desks = (r : ℕ) (d : DeskView) → slice_get desks r ≡ Some d → IsDesk letters caps r none_yet none_yet d

-- each row is of two of the ranks, and has room
abbrev pub AreRows : ℕ → List (ℕ × ℕ × ℕ) → Type 0
AreRows ranks rows = (k : ℕ) (row : ℕ × ℕ × ℕ) → slice_get rows k ≡ Some row → (row.0 < ranks) × (row.1 < ranks) × (0 < row.2)
