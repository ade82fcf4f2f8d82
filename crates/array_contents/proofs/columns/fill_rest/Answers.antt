-- One padding word more.
use Rattle.std.proofs.Common.{◌≡◌, ℤ, length, ap, ◌∙◌, arith, rules, to_z, of_z}
use Rattle.std.specs.Int.{w32}
use Rattle.std.proofs.lemmas.List.{length-set}
use Rattle.array_contents.proofs.ColumnLaws.{one_padded}
use Rattle.array_contents.proofs.columns.fill_rest.Goals as goal

pub loop-k-preserved : goal.loop-k-preserved
loop-k-preserved c =
    let d : ℤ = to_z w32 (of_z w32 c.args.padding) in
    record {
      done = one_padded d c.loop-k.words c.loop-k.k (omega arith) ∙ c.loop-k.invariant.done;
      long = length-set c.loop-k.words c.loop-k.k d ∙ c.loop-k.invariant.long;
    }
