-- What the operations of a rank do: which messages they send and take, which a rank can do, and what they leave.
use Rattle.std.specs.Prelude.{◌≢◌, ℕ, ◌≤◌, ◌^◌, ◌*◌, Bool, true, false, ℤ, Option, Some, None, List, [], ◌∷◌, length, map, take, slice_get, slice_index_or, slice_set, IsSomeAnd}
use Rattle.std.specs.List.{AllByRecursion}
use Rattle.msg_core.specs.Kinds.{Kind}
use Rattle.msg_core.specs.Kinds.{Send, Recv, Local}
use Rattle.fold_ops.specs.declared.held.Held.{Held}
use Rattle.pack_words.specs.declared.cut.Cut.{Cut}
use Rattle.pack_words.specs.declared.region.Region.{Region}
use Rattle.pack_words.specs.declared.coords.Coords.{Coords}
use Rattle.pack_words.specs.declared.rank_op.RankOp.{RankOp}
use Rattle.pack_words.specs.declared.rank_op.RankOp.TheVariants.{Put, Get, Copy, LoadAcc, PutAcc, JoinAcc, GetAcc, StoreAcc, Pulse}
use Rattle.pack_words.specs.LocalCells.{LocalCells, zeros}
use Rattle.pack_words.specs.Packing.{IsInShape, AllInCut, NameOnce, AllAlike, selected_count, packed, unpacked}
use Rattle.pack_words.specs.WholeRegions.{IsWhole, whole_words, with_whole_words, corner}
use Rattle.pack_words.specs.Accumulators.{loaded_with, values_of_held, message_words, held_message, replaced_by, has_places, joined_by}
use Rattle.pack_words.specs.Coordinates.{row_word, column_word}

-- a rank's local arrays, by their numbers from 0, and its accumulator
pub record RankState : Type 0 where
  pub arrays : List LocalCells
  pub held : List Held

-- the size of an array: its leading dimension and columns
abbrev pub size_of : LocalCells → ℕ × ℕ
size_of c = (c.lld, c.cols)

abbrev pub shapes : RankState → List (ℕ × ℕ)
shapes s = map size_of s.arrays

-- the array of that number
abbrev pub array_at : RankState → ℕ → LocalCells
array_at s a = slice_index_or s.arrays a (zeros 1 0)

-- the state with another array of that number
abbrev pub with_array : RankState → ℕ → LocalCells → RankState
with_array s a c = record s { arrays = slice_set s.arrays a c }

-- regions of a cut that select at most 2^26 elements
pub record AreMoved (cut : Cut) (rs : List Region) : Type 0 where
  pub in_cut : AllInCut cut rs
  pub most : selected_count cut rs ≤ 2 ^ 26

-- the regions lie in the array of that number
abbrev pub AreInArray : List (ℕ × ℕ) → ℕ → List Region → Type 0
AreInArray sizes a rs = IsSomeAnd (slice_get sizes a) (λ size. AllByRecursion (IsInShape size.0 size.1) rs)

-- a signal of no words, sent or received
abbrev pub pulse_kind : Bool → ℕ → Kind
pulse_kind true peer = Send peer 0
pulse_kind false peer = Recv peer 0

-- what an operation does with messages
abbrev pub rank_kind : RankOp → Kind
rank_kind (Put to a rs cut) = Send to (selected_count cut rs)
rank_kind (Get from a rs cut) = Recv from (selected_count cut rs)
rank_kind (Copy a rs b ts cut) = Local
rank_kind (LoadAcc a r k) = Local
rank_kind (PutAcc to n pairs) = Send to (message_words pairs n)
rank_kind (JoinAcc from n fold) = Recv from (message_words (has_places fold) n)
rank_kind (GetAcc from n pairs) = Recv from (message_words pairs n)
rank_kind (StoreAcc a r coords) = Local
rank_kind (Pulse peer sends) = pulse_kind sends peer

-- coordinates are told of grids with a column
abbrev pub AreCoords : Option Coords → Type 0
AreCoords None = Unit {0}
AreCoords (Some c) = 1 ≤ c.npcol

-- lists of regions lie in their cut, and no message or accumulator has more than 2^26 elements
abbrev pub IsWellMade : RankOp → Type 0
IsWellMade (Put to a rs cut) = AreMoved cut rs
IsWellMade (Get from a rs cut) = AreMoved cut rs
IsWellMade (Copy a rs b ts cut) = AreMoved cut rs × AreMoved cut ts
IsWellMade (LoadAcc a r k) = IsWhole r
IsWellMade (PutAcc to n pairs) = n ≤ 2 ^ 26
IsWellMade (JoinAcc from n fold) = n ≤ 2 ^ 26
IsWellMade (GetAcc from n pairs) = n ≤ 2 ^ 26
IsWellMade (StoreAcc a r coords) = IsWhole r × AreCoords coords
IsWellMade (Pulse peer sends) = Unit {0}

-- the arrays of the coordinates have room for them, and are two others than the array itself
abbrev pub CanStoreCoords : List (ℕ × ℕ) → ℕ → Region → Option Coords → Type 0
CanStoreCoords sizes a r None = Unit {0}
CanStoreCoords sizes a r (Some c) = (a ≢ c.ra) × (a ≢ c.ca) × (c.ra ≢ c.ca) × AreInArray sizes c.ra (corner r ∷ []) × AreInArray sizes c.ca (corner r ∷ [])

-- a rank whose arrays have these sizes can do the operation
abbrev pub CanDoIn : List (ℕ × ℕ) → RankOp → Type 0
CanDoIn sizes (Put to a rs cut) = AreMoved cut rs × AreInArray sizes a rs
CanDoIn sizes (Get from a rs cut) = AreMoved cut rs × AreInArray sizes a rs × NameOnce cut rs
CanDoIn sizes (Copy a rs b ts cut) = AreMoved cut rs × AreMoved cut ts × AreInArray sizes a rs × AreInArray sizes b ts × NameOnce cut ts × AllAlike rs ts × (a ≢ b)
CanDoIn sizes (LoadAcc a r k) = IsWhole r × AreInArray sizes a (r ∷ [])
CanDoIn sizes (PutAcc to n pairs) = n ≤ 2 ^ 26
CanDoIn sizes (JoinAcc from n fold) = n ≤ 2 ^ 26
CanDoIn sizes (GetAcc from n pairs) = n ≤ 2 ^ 26
CanDoIn sizes (StoreAcc a r coords) = IsWhole r × AreCoords coords × AreInArray sizes a (r ∷ []) × CanStoreCoords sizes a r coords
CanDoIn sizes (Pulse peer sends) = Unit {0}

-- how many elements of the accumulator an operation uses
abbrev pub elements_used : RankOp → ℕ
elements_used (Put to a rs cut) = 0
elements_used (Get from a rs cut) = 0
elements_used (Copy a rs b ts cut) = 0
elements_used (LoadAcc a r k) = r.rows * r.cols
elements_used (PutAcc to n pairs) = n
elements_used (JoinAcc from n fold) = n
elements_used (GetAcc from n pairs) = n
elements_used (StoreAcc a r coords) = r.rows * r.cols
elements_used (Pulse peer sends) = 0

-- a rank can do an operation for which its arrays are large enough, and its accumulator long enough
abbrev pub CanDo : RankState → RankOp → Type 0
CanDo s o = CanDoIn (shapes s) o × (elements_used o ≤ length s.held)

-- the message of a send
abbrev pub rank_message : RankState → RankOp → List ℤ
rank_message s (Put to a rs cut) = packed cut rs (array_at s a)
rank_message s (Get from a rs cut) = []
rank_message s (Copy a rs b ts cut) = []
rank_message s (LoadAcc a r k) = []
rank_message s (PutAcc to n pairs) = held_message pairs n s.held
rank_message s (JoinAcc from n fold) = []
rank_message s (GetAcc from n pairs) = []
rank_message s (StoreAcc a r coords) = []
rank_message s (Pulse peer sends) = []

-- the state after a message
abbrev pub rank_absorbed : RankState → RankOp → List ℤ → RankState
rank_absorbed s (Put to a rs cut) ws = s
rank_absorbed s (Get from a rs cut) ws = with_array s a (unpacked cut rs ws (array_at s a))
rank_absorbed s (Copy a rs b ts cut) ws = s
rank_absorbed s (LoadAcc a r k) ws = s
rank_absorbed s (PutAcc to n pairs) ws = s
rank_absorbed s (JoinAcc from n fold) ws = record s { held = joined_by fold n s.held ws }
rank_absorbed s (GetAcc from n pairs) ws = record s { held = replaced_by pairs n s.held ws }
rank_absorbed s (StoreAcc a r coords) ws = s
rank_absorbed s (Pulse peer sends) ws = s

-- the state with these words in the region's elements of an array
abbrev pub with_stored : RankState → ℕ → Region → List ℤ → RankState
with_stored s a r ws = with_array s a (with_whole_words r ws (array_at s a))

-- the state with the coordinates of the members that held these elements
abbrev pub with_coords : RankState → Region → Option Coords → List Held → RankState
with_coords s r None hs = s
with_coords s r (Some c) hs = with_stored (with_stored s c.ra (corner r) (map (row_word c) hs)) c.ca (corner r) (map (column_word c) hs)

-- the state after a local operation
abbrev pub rank_acted : RankState → RankOp → RankState
rank_acted s (Put to a rs cut) = s
rank_acted s (Get from a rs cut) = s
rank_acted s (Copy a rs b ts cut) = with_array s b (unpacked cut ts (packed cut rs (array_at s a)) (array_at s b))
rank_acted s (LoadAcc a r k) = record s { held = loaded_with (whole_words r (array_at s a)) k (r.rows * r.cols) s.held }
rank_acted s (PutAcc to n pairs) = s
rank_acted s (JoinAcc from n fold) = s
rank_acted s (GetAcc from n pairs) = s
rank_acted s (StoreAcc a r coords) = with_coords (with_stored s a r (values_of_held (take (r.rows * r.cols) s.held))) r coords (take (r.rows * r.cols) s.held)
rank_acted s (Pulse peer sends) = s
