-- What gathering text for a sink does.
use Rattle.std.specs.Prelude.{◌≡◌, ℕ, List, ◌++◌, Result, Ok, Err}
use Rattle.store_io.specs.Outside.{Poured}
use Rattle.store_io.specs.declared.sink.SinkErr.{SinkErr}
use Rattle.tool_lines.specs.Saying.{SaysFront}

-- Some bytes were said, and with those that wait now they are those that waited before and these.
pub record PoursOn (old new : Poured) (waited waits bytes : List ℕ) : Type 0 where
  pub said : List ℕ
  pub bytes_are : new.bytes ≡ old.bytes ++ said
  pub all : said ++ waits ≡ waited ++ bytes

-- all of the bytes were put, or the call failed and some front of what waited and these was said
abbrev pub Pours : {X : Type 0} → Result X SinkErr → Poured → Poured → (waited waits bytes : List ℕ) → Type 0
Pours (Ok x) old new waited waits bytes = PoursOn old new waited waits bytes
Pours (Err e) old new waited waits bytes = SaysFront old new (waited ++ bytes)
