-- What the operations of ranks do to a grid state, one after the other.
use Rattle.std.specs.Prelude.{ℕ, Bool, true, false, ℤ, List, [], ◌∷◌, ◌++◌, map, drop, slice_get, slice_index_or, slice_set, IsSomeAnd}
use Rattle.msg_core.specs.Kinds.{Kind}
use Rattle.msg_core.specs.Kinds.{Send, Recv, Local}
use Rattle.msg_core.specs.InOrder.{at_pair, HasLength}
use Rattle.pack_words.specs.declared.rank_op.RankOp.{RankOp}
use Rattle.pack_words.specs.declared.rank_op.RankOp.TheVariants.{Put, Get, Copy, LoadAcc, PutAcc, JoinAcc, GetAcc, StoreAcc, Pulse}
use Rattle.pack_words.specs.LocalCells.{LocalCells, zeros}
use Rattle.pack_words.specs.Packing.{selected_count, packed, unpacked}
use Rattle.pack_words.specs.RankOps.{size_of, pulse_kind, CanDoIn}
use Rattle.pack_words.specs.GridState.{GridState}

-- the arrays of rank r
abbrev pub arrays_in : GridState → ℕ → List LocalCells
arrays_in s r = slice_index_or s.arrays r []

-- array a of rank r
abbrev pub array_in : GridState → ℕ → ℕ → LocalCells
array_in s r a = slice_index_or (arrays_in s r) a (zeros 1 0)

-- the state with another array a of rank r
abbrev pub with_array_in : GridState → ℕ → ℕ → LocalCells → GridState
with_array_in s r a c = record s { arrays = slice_set s.arrays r (slice_set (arrays_in s r) a c) }

-- one more message of the pair waits
abbrev pub with_message : GridState → ℕ → ℕ → List ℤ → GridState
with_message s from to ws = record s { waits = at_pair s.waits from to (s.waits from to ++ ws ∷ []) }

-- the first message of the pair
abbrev pub first_message : GridState → ℕ → ℕ → List ℤ
first_message s from to = slice_index_or (s.waits from to) 0 []

-- the first message of the pair is taken
abbrev pub without_message : GridState → ℕ → ℕ → GridState
without_message s from to = record s { waits = at_pair s.waits from to (drop 1 (s.waits from to)) }

-- rank r has sent or received a signal of no words
abbrev pub pulse_by : Bool → ℕ → ℕ → GridState → GridState
pulse_by true r peer s = with_message s r peer []
pulse_by false r peer s = without_message s peer r

-- rank r has done the operation. A grid state has no accumulators, so it doesn't say what operations of them do
abbrev pub grid_by : ℕ → RankOp → GridState → GridState
grid_by r (Put to a rs cut) s = with_message s r to (packed cut rs (array_in s r a))
grid_by r (Get from a rs cut) s = without_message (with_array_in s r a (unpacked cut rs (first_message s from r) (array_in s r a))) from r
grid_by r (Copy a rs b ts cut) s = with_array_in s r b (unpacked cut ts (packed cut rs (array_in s r a)) (array_in s r b))
grid_by r (LoadAcc a region k) s = s
grid_by r (PutAcc to n pairs) s = s
grid_by r (JoinAcc from n fold) s = s
grid_by r (GetAcc from n pairs) s = s
grid_by r (StoreAcc a region coords) s = s
grid_by r (Pulse peer sends) s = pulse_by sends r peer s

-- the operations are done in their order
abbrev pub grid_after : List (ℕ × RankOp) → GridState → GridState
grid_after [] s = s
grid_after (x ∷ xs) s = grid_after xs (grid_by x.0 x.1 s)

-- a receive finds a message of its length
abbrev pub FindsBy : Kind → ℕ → GridState → Type 0
FindsBy (Send to len) r s = Unit {0}
FindsBy (Recv from len) r s = IsSomeAnd (slice_get (s.waits from r) 0) (HasLength len)
FindsBy Local r s = Unit {0}

-- the operation is one of arrays and messages only, and where it receives it finds a message of its length
abbrev pub Finds : RankOp → ℕ → GridState → Type 0
Finds (Put to a rs cut) r s = Unit {0}
Finds (Get from a rs cut) r s = IsSomeAnd (slice_get (s.waits from r) 0) (HasLength (selected_count cut rs))
Finds (Copy a rs b ts cut) r s = Unit {0}
Finds (LoadAcc a region k) r s = ⊥
Finds (PutAcc to n pairs) r s = ⊥
Finds (JoinAcc from n fold) r s = ⊥
Finds (GetAcc from n pairs) r s = ⊥
Finds (StoreAcc a region coords) r s = ⊥
Finds (Pulse peer sends) r s = FindsBy (pulse_kind sends peer) r s

-- the rank is there, its arrays have room for the operation, which uses no accumulator, and a receive finds a message of its length
pub record GridCan (r : ℕ) (o : RankOp) (s : GridState) : Type 0 where
  pub able : IsSomeAnd (slice_get s.arrays r) (λ arrays. CanDoIn (map size_of arrays) o)
  pub finds : Finds o r s

-- the operations can be done in their order
abbrev pub GridCanGo : List (ℕ × RankOp) → GridState → Type 0
GridCanGo [] s = Unit {0}
GridCanGo (x ∷ xs) s = GridCan x.0 x.1 s × GridCanGo xs (grid_by x.0 x.1 s)
