use Rattle.std.proofs.Common.{◌≡◌, arith, pos, w64, to_z-of_z, to_z, of_z}
use Rattle.line_plans.proofs.MoveLines.{args_by}
use Rattle.line_plans.proofs.moves.args_of.Goals as goal

pub returns : goal.returns
returns c =
    let m : to_z w64 (of_z w64 c.wide.result) ≡ c.args.mr.now.m = grind (arith, to_z-of_z) in
    let n : to_z w64 (of_z w64 c.wide-2.result) ≡ c.args.mr.now.n = grind (arith, to_z-of_z) in
    let i : to_z w64 (of_z w64 c.wide-3.result) ≡ c.args.mr.now.ia = grind (arith, to_z-of_z) in
    let j : to_z w64 (of_z w64 c.wide-4.result) ≡ c.args.mr.now.ja = grind (arith, to_z-of_z) in
    let k : to_z w64 (of_z w64 c.wide-5.result) ≡ c.args.mr.now.ib = grind (arith, to_z-of_z) in
    let l : to_z w64 (of_z w64 c.wide-6.result) ≡ c.args.mr.now.jb = grind (arith, to_z-of_z) in
    let g : to_z w64 (of_z w64 c.context.result) ≡ pos c.args.mr.now.grid = grind (arith, to_z-of_z) in
    args_by c.args.declared.now c.args.mr.now c.spread-source.result.now c.spread-target.result.now _ _ _ _ _ _ _ _ _ c.spread-source.ensures c.spread-target.ensures c.in_ok-desca.ensures c.in_ok-descb.ensures m n i j k l g
