-- What the steps of a store in memory do to it.
use Rattle.std.specs.Prelude.{ℕ, ◌+◌, ◌-◌, ◌^◌, min, true, false, List, [], length}
use Rattle.std.specs.FinMap.{insert, empty}
use Rattle.store_io.specs.Outside.{appended}
use Rattle.store_io.specs.MemState.{MemState}

abbrev pub nothing_held : ℕ → ℕ → MemState
nothing_held room names = record {
  outside = record { told = true; files = empty; reading = false; left = []; writing = false; output = []; faults = 0; misses = 0; opens = 0 };
  input = [];
  fails = [];
  room = room;
  entries = names;
}

-- a count has risen by one, or stands at its last value
abbrev pub one_more : ℕ → ℕ
one_more n = min (n + 1) (2 ^ 64 - 1)

abbrev pub with_fault : MemState → MemState
with_fault s = record s { outside = record s.outside { faults = one_more s.outside.faults } }

abbrev pub with_miss : MemState → MemState
with_miss s = record s { outside = record s.outside { misses = one_more s.outside.misses } }

abbrev pub with_opening : MemState → MemState
with_opening s = record s { outside = record s.outside { opens = one_more s.outside.opens } }

-- a file is set, at the cost of its bytes and an entry
abbrev pub with_file : MemState → (name content : List ℕ) → MemState
with_file s name content = record s {
  outside = record s.outside { files = insert s.outside.files name content };
  room = s.room - (length name + length content);
  entries = s.entries - 1;
}

-- the output has this name
abbrev pub with_output : MemState → List ℕ → MemState
with_output s name = record s { outside = record s.outside { writing = true; output = name } }

abbrev pub without_output : MemState → MemState
without_output s = record s { outside = record s.outside { writing = false; output = [] } }

-- the output has grown by a piece
abbrev pub with_piece : MemState → List ℕ → MemState
with_piece s piece = record s {
  outside = record s.outside { files = appended s.outside.files s.outside.output piece };
  room = s.room - length piece;
}

-- a file is the input, from its start
abbrev pub with_input : MemState → (name content : List ℕ) → MemState
with_input s name content = record s { outside = record s.outside { reading = true; left = content }; input = name }

abbrev pub without_input : MemState → MemState
without_input s = record s { outside = record s.outside { reading = false; left = [] }; input = [] }

-- so many bytes of the input were taken
abbrev pub with_left : MemState → List ℕ → MemState
with_left s left = record s { outside = record s.outside { left = left } }
