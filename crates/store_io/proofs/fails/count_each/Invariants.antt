use Rattle.std.proofs.Common.{◌≡◌, map, take}
use Rattle.std.specs.List.{list_any}
use Rattle.store_io.specs.Fails.{is_due}
use Rattle.store_io.specs.Entries.{fail_of, names_of}
use Rattle.store_io.proofs.FailLemmas.{counted_to}
use Rattle.store_io.proofs.fails.count_each.Given as goal

abbrev pub invariant-loop-i : goal.invariant-loop-i
invariant-loop-i l = record {
  counted : map (fail_of l.heap) l.entries ≡ counted_to l.kind l.name l.i (map (fail_of l.heap) l.initial.entries);
  due : l.due ≡ list_any (is_due l.kind l.name) (take l.i (map (fail_of l.heap) l.initial.entries));
  names : names_of l.entries ≡ names_of l.initial.entries;
}
