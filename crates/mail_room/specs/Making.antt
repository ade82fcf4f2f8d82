-- How the desks of a room are made, a pair after the other.
-- (Bookkeeping inside this crate: no clause of a public call cites it.)
use Rattle.std.specs.Prelude.{◌≡◌, ℕ, zero, suc, ℤ, Some, None, List, [], ◌∷◌, length, slice_get, slice_set, replicate}
use Rattle.mail_room.specs.declared.seen.Side.{Side}
use Rattle.mail_room.specs.Mail.{side}
use Rattle.mail_room.specs.Desks.{DeskView, Capacities, or_else, row_at, side_at, side_of}

-- a desk of so many ranks with no pair
abbrev pub vacant : ℕ → DeskView
vacant ranks = record { outs = replicate ranks None; ins = replicate ranks None }

abbrev pub with_out : DeskView → ℕ → Side → DeskView
with_out d to s = record d { outs = slice_set d.outs to (Some s) }

abbrev pub with_in : DeskView → ℕ → Side → DeskView
with_in d from s = record d { ins = slice_set d.ins from (Some s) }

abbrev pub change_at : List DeskView → ℕ → (DeskView → DeskView) → List DeskView
change_at [] k f = []
change_at (d ∷ ds) zero f = f d ∷ ds
change_at (d ∷ ds) (suc k) f = d ∷ change_at ds k f

-- the first side of a row's pair
abbrev pub row_side : (ℕ → ℕ → List (List ℤ)) → ℕ × ℕ × ℕ → Side
row_side letters row = side (letters row.0 row.1) row.2 0

-- the desks with one more pair
abbrev pub with_pair : (ℕ → ℕ → List (List ℤ)) → List DeskView → ℕ × ℕ × ℕ → List DeskView
with_pair letters desks row = change_at (change_at desks row.0 (λ d. with_out d row.1 (row_side letters row))) row.1 (λ d. with_in d row.0 (row_side letters row))

abbrev pub with_pairs : (ℕ → ℕ → List (List ℤ)) → List DeskView → List (ℕ × ℕ × ℕ) → List DeskView
with_pairs letters desks [] = desks
with_pairs letters desks (row ∷ rows) = with_pairs letters (with_pair letters desks row) rows

-- each of so many desks has a place for each rank
abbrev pub IsSquare : ℕ → List DeskView → Type 0
IsSquare ranks desks = (length desks ≡ ranks) × ((k : ℕ) (d : DeskView) → slice_get desks k ≡ Some d → (length d.outs ≡ ranks) × (length d.ins ≡ ranks))

-- the first sides, by these capacities
abbrev pub OutsAre : (ℕ → ℕ → List (List ℤ)) → Capacities → List DeskView → Type 0
OutsAre letters caps desks = (i j : ℕ) (d : DeskView) → slice_get desks i ≡ Some d → side_at d.outs j ≡ side_of (letters i j) (caps i j) 0

abbrev pub InsAre : (ℕ → ℕ → List (List ℤ)) → Capacities → List DeskView → Type 0
InsAre letters caps desks = (i j : ℕ) (d : DeskView) → slice_get desks j ≡ Some d → side_at d.ins i ≡ side_of (letters i j) (caps i j) 0

-- a row's capacity, before these
abbrev pub with_row : ℕ × ℕ × ℕ → Capacities → Capacities
with_row row caps i j = or_else (row_at row i j) (caps i j)
