-- What a store holds and what its calls do to that.
use Rattle.std.specs.Prelude.{◌≡◌, ℕ, ◌+◌, ◌-◌, ◌^◌, ◌≤◌, min, Bool, List, ◌++◌, take, Option, Result, OnOk, OnErr, IsErrOf, ◌⊎◌, None, Some}
use Rattle.std.specs.Ordering.{nat_cmp}
use Rattle.std.specs.Cmp.Lexicographic.{slice_cmp}
use Rattle.std.specs.FinMap.{FinMap, get, insert}
use Rattle.store_io.specs.declared.store.StoreErr.{StoreErr}
use Rattle.store_io.specs.declared.store.StoreErr.TheVariants.{Missing, Failed}
use Rattle.store_io.specs.declared.sink.SinkErr.{SinkErr}

-- the bytes of each file, by its name
abbrev pub Files : Type 0
Files = FinMap (slice_cmp nat_cmp) (List ℕ)

-- what is known of a store
pub record Outside : Type 0 where
  -- whether it tells what it holds; files, left and output mean nothing where it doesn't
  pub told : Bool
  pub files : Files
  -- whether a file is open for reading, and its unread bytes
  pub reading : Bool
  pub left : List ℕ
  -- whether a file is open for writing, and its name
  pub writing : Bool
  pub output : List ℕ
  -- two counts that never fall, and the number of openings for writing
  pub faults : ℕ
  pub misses : ℕ
  pub opens : ℕ

-- a count is greater than before, or stands at its last value
abbrev pub Rose : ℕ → ℕ → Type 0
Rose before now = min (before + 1) (2 ^ 64 - 1) ≤ now

-- a count is one more than before, or stays at its last value
abbrev pub OneMore : ℕ → ℕ → Type 0
OneMore before now = now ≡ min (before + 1) (2 ^ 64 - 1)

-- the files with these bytes at the end of one of them; no file is made
abbrev pub grown : Option (List ℕ) → Files → List ℕ → List ℕ → Files
grown None files name bytes = files
grown (Some old) files name bytes = insert files name (old ++ bytes)

unfoldable pub appended : Files → List ℕ → List ℕ → Files
appended files name bytes = grown (get files name) files name bytes

-- a call of whatever kind: what it never changes
pub record SameStore (old new : Outside) : Type 0 where
  pub told : new.told ≡ old.told
  pub faults_later : old.faults ≤ new.faults
  pub misses_later : old.misses ≤ new.misses

-- a call that changes no file: nor the output
pub record KeepsFiles (old new : Outside) : Type 0 where
  pub files : new.files ≡ old.files
  pub writing : new.writing ≡ old.writing
  pub output : new.output ≡ old.output
  pub opens : new.opens ≡ old.opens

-- what a write leaves beside the files
pub record KeepsOutput (old new : Outside) : Type 0 where
  pub writing : new.writing ≡ old.writing
  pub output : new.output ≡ old.output
  pub opens : new.opens ≡ old.opens

-- both counts stand where they stood
pub record SameCounts (old new : Outside) : Type 0 where
  pub faults : new.faults ≡ old.faults
  pub misses : new.misses ≡ old.misses

-- one fault more and no miss
pub record HasFailed (old new : Outside) : Type 0 where
  pub faults : Rose old.faults new.faults
  pub misses : new.misses ≡ old.misses

-- one miss more and no fault
pub record HasMissed (old new : Outside) : Type 0 where
  pub misses : Rose old.misses new.misses
  pub faults : new.faults ≡ old.faults

-- why each answer came, by the counts
pub record HasCause {T : Type 0} (old new : Outside) (result : Result T StoreErr) : Type 0 where
  pub ok : OnOk result (SameCounts old new)
  pub failed : IsErrOf result Failed → HasFailed old new
  pub missing : IsErrOf result Missing → HasMissed old new

-- a write that took these bytes
pub record WritesOn (old new : Outside) (bytes : List ℕ) : Type 0 where
  pub files : new.files ≡ appended old.files old.output bytes

-- a write that took some front of these bytes
abbrev pub WritesFront : Outside → Outside → List ℕ → Type 0
WritesFront old new bytes = (k : ℕ) × WritesOn old new (take k bytes)

-- one or the other
abbrev pub IsEither : Type 0 → Type 0 → Type 0
IsEither P Q = P ⊎ Q

-- what is known of a sink
pub record Poured : Type 0 where
  pub told : Bool
  pub bytes : List ℕ
  pub faults : ℕ

abbrev pub GrewByFront : Poured → Poured → List ℕ → Type 0
GrewByFront old new piece = (k : ℕ) × (new.bytes ≡ old.bytes ++ take k piece)

pub record GivesCause {T : Type 0} (old new : Poured) (result : Result T SinkErr) : Type 0 where
  pub later : old.faults ≤ new.faults
  pub ok : OnOk result (new.faults ≡ old.faults)
  pub failed : OnErr result (Rose old.faults new.faults)
