-- One element more, and then what is left stays.
use Rattle.std.proofs.Common.{◌≡◌, ℕ, ℤ, pos, ◌+◌, ◌*◌, length, slice_index_or, ap, sym, ◌∙◌, arith, rules, FitsSigned, to_z, of_z, to_z-of_z}
use Rattle.std.specs.Prelude.{Some}
use Rattle.std.specs.Int.{w32}
use Rattle.std.proofs.lemmas.List.{length-set}
use Rattle.array_contents.specs.Columns.{loaded_word}
use Rattle.array_contents.specs.Passes.{from_here}
use Rattle.array_contents.proofs.ColumnLaws.{one_loaded, loaded_rest}
use Rattle.array_contents.proofs.columns.load_elements.Goals as goal

pub loop-k-preserved : goal.loop-k-preserved
loop-k-preserved c =
    let rows = c.args.rows.now in
    let values = c.args.values.now in
    let k = c.loop-k.k in
    let word : ℤ = slice_index_or values (c.args.j * c.args.height + slice_index_or rows k 0) (pos 0) in
    let v : ℤ = to_z w32 (of_z w32 word) in
    let fits : FitsSigned w32 word = search rules in
    record {
      done = one_loaded values c.args.height c.args.j rows k 0 v c.loop-k.words (omega arith) (omega (arith, c.requires.room, c.loop-k.invariant.long)) (to_z-of_z fits) ∙ c.loop-k.invariant.done;
      long = length-set c.loop-k.words k v ∙ c.loop-k.invariant.long;
    }

pub returns : goal.returns
returns c =
    let rows = c.args.rows.now in
    let f = loaded_word c.args.values.now c.args.height rows (Some c.args.j) in
    let end : c.loop-k.k ≡ length rows = omega arith in
    sym (loaded_rest c.args.values.now c.args.height rows (Some c.args.j) c.loop-k.words)
    ∙ ap (λ (n : ℕ). from_here n f c.loop-k.words) (sym end) ∙ c.loop-k.invariant.done
