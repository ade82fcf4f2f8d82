-- All values from the second on are put.
use Rattle.std.proofs.Common.{◌≡◌, ℕ, ◌-◌, ◌≤◌, subst, arith}
use Rattle.program_results.specs.Pouring.{PoursOn}
use Rattle.program_results.specs.RowParts.{next_values}
use Rattle.program_results.proofs.printing.put_others.Goals as goal

pub returns-clause-pours : goal.returns-clause-pours
returns-clause-pours g c = λ told.
    let m = g.C.Cells.matrix c.args.cells.now in
    let is : c.columns-j-end.result ≡ m.columns = c.columns-j-end.ensures in
    let some : 1 ≤ c.columns-j-end.result = omega (arith, is, c.requires.some) in
    let most : c.loop-j.j ≤ c.columns-j-end.result = c.loop-j.auto.j-end some in
    let all : c.loop-j.j - 1 ≡ m.columns - 1 = omega (arith, is, most, c.loop-j-test.false) in
    subst (λ (n : ℕ). PoursOn (g.O.Sink.state c.args.out.now) (g.O.Sink.state c.loop-j.out) c.args.pen.now c.loop-j.pen (next_values m c.args.i n)) all (c.loop-j.invariant.puts told)
