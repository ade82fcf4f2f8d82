-- The runs so far.
use Rattle.std.proofs.Common.{◌≡◌, ◌≤◌, ◌*◌, take}
use Rattle.pack_words.specs.Products.{indices_of}
use Rattle.pack_words.proofs.products.indices_together.Given as goal

abbrev pub invariant-loop-run : goal.invariant-loop-run
invariant-loop-run l = record {
  together : l.indices ≡ indices_of (take l.run-index l.runs);
  small : l.indices ≤ l.run-index * 4294967296;
}
