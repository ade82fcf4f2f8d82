-- What a store and a sink in memory are seen as.
use Rattle.std.specs.Prelude.{◌+◌, ◌≤◌, true, map, vec_len, vec_capacity, length, is_some, IfSome}
use Rattle.std.specs.List.{AllByRecursion}
use Rattle.std.specs.FinMap.{empty}
use Rattle.std.specs.Option.{option_to_list}
use Rattle.store_io.specs.MemState.{MemState, SinkState}
use Rattle.store_io.specs.Heap.{IsPart}
use Rattle.store_io.specs.Entries.{IsEntry, IsOutput, IsInput, files_of, with_output, output_of, input_of, left_of, fail_of, names_of}
use Rattle.store_io.specs.declared.mem_store.MemStore.TheInside as store
use Rattle.store_io.specs.declared.mem_sink.MemSink.TheInside as sink

abbrev pub mem_view : store.Inside → MemState
mem_view a = record {
  outside = record {
    told = true;
    files = with_output a.heap a.output (files_of empty a.heap a.entries.items);
    reading = is_some a.input;
    left = left_of a.heap a.input;
    writing = is_some a.output;
    output = output_of a.heap a.output;
    faults = a.faults;
    misses = a.misses;
    opens = a.opens;
  };
  input = input_of a.heap a.input;
  fails = map (fail_of a.heap) a.fails.items;
  room = a.heap.room;
  entries = a.unused;
}

pub record IsMem (a : store.Inside) : Type 0 where
  pub entries : AllByRecursion (IsEntry a.heap) a.entries.items
  pub output : IfSome a.output (IsOutput a.heap)
  pub input : IfSome a.input (IsInput a.heap)
  pub fails : AllByRecursion (IsPart a.heap) (names_of a.fails.items)
  -- there is a place for each entry that may come
  pub places : vec_len a.entries + (length (option_to_list a.output) + a.unused) ≤ vec_capacity a.entries

abbrev pub sink_view : sink.Inside → SinkState
sink_view a = record {
  poured = record { told = true; bytes = a.bytes.items; faults = a.faults };
  room = a.room;
  due = a.due;
}

abbrev pub IsSink : sink.Inside → Type 0
IsSink a = vec_len a.bytes + a.room ≤ vec_capacity a.bytes
