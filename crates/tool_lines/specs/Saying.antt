-- What writing a line to a sink does.
use Rattle.std.specs.Prelude.{◌≡◌, List, ℕ, ◌++◌, Result, Ok, Err}
use Rattle.std.specs.Fmt.{decimal, signed_decimal}
use Rattle.store_io.specs.Outside.{Poured, Rose, IsEither}
use Rattle.store_io.specs.declared.sink.SinkErr.{SinkErr}
use Rattle.tool_lines.specs.declared.line.Part.{Part}
use Rattle.tool_lines.specs.declared.line.Part.TheVariants.{Text, Count, Words, Info}

-- what is written of a part: a text as it is, a number in decimal
abbrev pub part_text : Part → List ℕ
part_text (Text text) = text.now
part_text (Count count) = decimal count
part_text (Words words) = decimal words
part_text (Info info) = signed_decimal info

-- the sink gained some front of the text
pub record SaysFront (old new : Poured) (text : List ℕ) : Type 0 where
  pub said : List ℕ
  pub lost : List ℕ
  pub bytes : new.bytes ≡ old.bytes ++ said
  pub all : said ++ lost ≡ text

-- the sink gained the text, or the call failed and it gained some front of it
abbrev pub Says : {X : Type 0} → Result X SinkErr → Poured → Poured → List ℕ → Type 0
Says (Ok x) old new text = new.bytes ≡ old.bytes ++ text
Says (Err e) old new text = SaysFront old new text

-- what stays, and why the call failed
pub record SaysWell (old new : Poured) : Type 0 where
  pub told : new.told ≡ old.told
  pub faults : new.faults ≡ old.faults

pub record SaysFailed (old new : Poured) : Type 0 where
  pub told : new.told ≡ old.told
  pub faults : Rose old.faults new.faults

abbrev pub Tells : {X : Type 0} → Result X SinkErr → Poured → Poured → Type 0
Tells (Ok x) old new = SaysWell old new
Tells (Err e) old new = SaysFailed old new

-- the sink gained the text; or it failed, and gained some front of it
abbrev pub Gains : Poured → Poured → List ℕ → Type 0
Gains old new text = IsEither (new.bytes ≡ old.bytes ++ text) (SaysFront old new text × Rose old.faults new.faults)
