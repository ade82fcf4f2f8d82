-- What is known of a store or a sink in memory, beside what every store and sink tells.
use Rattle.std.specs.Prelude.{◌≡◌, ℕ, ◌+◌, ◌≤◌, ◌<◌, ◌⊎◌, Bool, IsTrue, List, length, Option, if◌then◌else◌, Result, OnOk, IsErrOf, refl}
use Rattle.std.specs.Bool.{then_some}
use Rattle.std.specs.FinMap as map
use Rattle.std.specs.Coded.{Coded, code_by, coded×, coded_ℕ, coded_bool, coded_list}
use Rattle.store_io.specs.Outside.{Outside, Files, Poured, OneMore, SameCounts}
use Rattle.store_io.specs.Fails.{Fail, fail_code}
use Rattle.store_io.specs.declared.store.StoreErr.{StoreErr}
use Rattle.store_io.specs.declared.store.StoreErr.TheVariants.{Missing, Failed}

-- a store in memory: what it tells, the name of the open input, the calls that are to fail, and the bytes of room and
-- the entries that are left
pub record MemState : Type 0 where
  pub outside : Outside
  pub input : List ℕ
  pub fails : List Fail
  pub room : ℕ
  pub entries : ℕ

-- a sink in memory: what it tells, the bytes of room that are left, and the write that fails, counted from now on, 0
-- where none does
pub record SinkState : Type 0 where
  pub poured : Poured
  pub room : ℕ
  pub due : ℕ

-- there is an entry, and room for so many bytes
pub record HasRoom (s : MemState) (n : ℕ) : Type 0 where
  pub entry : 0 < s.entries
  pub bytes : n ≤ s.room

-- no entry is left, or less room than so many bytes
abbrev pub LacksRoom : MemState → ℕ → Type 0
LacksRoom s n = (s.entries ≡ 0) ⊎ (s.room < n)

-- one entry and so many bytes of room were spent
pub record Spends (old new : MemState) (n : ℕ) : Type 0 where
  pub room : new.room + n ≡ old.room
  pub entries : new.entries + 1 ≡ old.entries

-- room and entries are as before
pub record SameRoom (old new : MemState) : Type 0 where
  pub room : new.room ≡ old.room
  pub entries : new.entries ≡ old.entries

-- fewer than 64 calls are to fail, and a name finds room
pub record CanFail (s : MemState) (name : List ℕ) : Type 0 where
  pub entry : length s.fails < 64
  pub bytes : length name ≤ s.room

-- the name of the open input, if one is open
abbrev pub input_name : MemState → Option (List ℕ)
input_name s = then_some s.outside.reading s.input

-- the name of the open output, if one is open
abbrev pub output_name : MemState → Option (List ℕ)
output_name s = then_some s.outside.writing s.outside.output

-- the name that a close counts for: that of the output, and else that of the input
abbrev pub closed_name : MemState → Option (List ℕ)
closed_name s = if s.outside.writing then output_name s else input_name s

-- a piece that isn't empty finds no room
pub record IsFull (room : ℕ) (piece : List ℕ) : Type 0 where
  pub no_room : room ≡ 0
  pub some : 0 < length piece

-- a write to a sink fails: it was to fail, or finds no room
abbrev pub RefusesWrite : SinkState → List ℕ → Type 0
RefusesWrite s piece = (s.due ≡ 1) ⊎ IsFull s.room piece

-- one fault more and no miss
pub record OneFault (old new : Outside) : Type 0 where
  pub faults : OneMore old.faults new.faults
  pub misses : new.misses ≡ old.misses

-- one miss more and no fault
pub record OneMiss (old new : Outside) : Type 0 where
  pub misses : OneMore old.misses new.misses
  pub faults : new.faults ≡ old.faults

-- what a call counts: nothing, one fault or one miss
pub record CountsOnce {T : Type 0} (old new : Outside) (result : Result T StoreErr) : Type 0 where
  pub ok : OnOk result (SameCounts old new)
  pub failed : IsErrOf result Failed → OneFault old new
  pub missing : IsErrOf result Missing → OneMiss old new

-- all but the files is as before, and so is the open output's name
pub record KeepsOpen (old new : MemState) : Type 0 where
  pub told : new.outside.told ≡ old.outside.told
  pub reading : new.outside.reading ≡ old.outside.reading
  pub input : new.input ≡ old.input
  pub left : new.outside.left ≡ old.outside.left
  pub writing : new.outside.writing ≡ old.outside.writing
  pub output : IsTrue old.outside.writing → new.outside.output ≡ old.outside.output
  pub faults : new.outside.faults ≡ old.outside.faults
  pub misses : new.outside.misses ≡ old.outside.misses
  pub opens : new.outside.opens ≡ old.outside.opens
  pub fails : new.fails ≡ old.fails

abbrev pub outside_code : Coded Outside
outside_code =
    code_by ((Bool × Files) × ((Bool × List ℕ) × ((Bool × List ℕ) × (ℕ × (ℕ × ℕ)))))
    (coded× (coded× coded_bool (map.code (coded_list coded_ℕ) (coded_list coded_ℕ))) (coded× (coded× coded_bool (coded_list coded_ℕ)) (coded× (coded× coded_bool (coded_list coded_ℕ)) (coded× coded_ℕ (coded× coded_ℕ coded_ℕ)))))
    (λ s. ((s.told, s.files), ((s.reading, s.left), ((s.writing, s.output), (s.faults, (s.misses, s.opens))))))
    (λ p. record { told = p.0.0; files = p.0.1; reading = p.1.0.0; left = p.1.0.1; writing = p.1.1.0.0; output = p.1.1.0.1; faults = p.1.1.1.0; misses = p.1.1.1.1.0; opens = p.1.1.1.1.1 })
    (λ _. refl)

abbrev pub mem_code : Coded MemState
mem_code =
    code_by ((Outside × (List ℕ × List Fail)) × (ℕ × ℕ)) (coded× (coded× outside_code (coded× (coded_list coded_ℕ) (coded_list fail_code))) (coded× coded_ℕ coded_ℕ))
    (λ s. ((s.outside, (s.input, s.fails)), (s.room, s.entries))) (λ p. record { outside = p.0.0; input = p.0.1.0; fails = p.0.1.1; room = p.1.0; entries = p.1.1 }) (λ _. refl)

abbrev pub poured_code : Coded Poured
poured_code = code_by (Bool × (List ℕ × ℕ)) (coded× coded_bool (coded× (coded_list coded_ℕ) coded_ℕ)) (λ s. (s.told, (s.bytes, s.faults))) (λ p. record { told = p.0; bytes = p.1.0; faults = p.1.1 }) (λ _. refl)

abbrev pub sink_code : Coded SinkState
sink_code = code_by (Poured × (ℕ × ℕ)) (coded× poured_code (coded× coded_ℕ coded_ℕ)) (λ s. (s.poured, (s.room, s.due))) (λ p. record { poured = p.0; room = p.1.0; due = p.1.1 }) (λ _. refl)
