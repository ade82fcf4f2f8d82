use Rattle.std.proofs.Common.{◌≡◌, ◌==◌, ◌<◌, ◌*◌, take, true, false, sym, ap, ◌∙◌, refl, arith}
use Rattle.std.specs.List.{list_any}
use Rattle.proc_grid.specs.FirstOf.{first_of}
use Rattle.proc_grid.specs.Refusals.{mapped_grid}
use Rattle.proc_grid.proofs.MapLemmas.{refused_at, no_process, twice, read_more, read_all, mapped_entry, length-mapped_grid, good_more}
use Rattle.proc_grid.proofs.making.read_map.Goals as goal

pub loop-place-init : goal.loop-place-init
unfolding first_of
loop-place-init c = record { read = refl; good = refl }

pub returns-then-rank-world-clause-answer : goal.returns-then-rank-world-clause-answer
returns-then-rank-world-clause-answer c =
    let xs = (mapped_grid c.args.usermap.now c.args.ldumap c.args.nprow c.args.npcol).ranks in
    let low : c.loop-place.place < c.args.nprow * c.args.npcol = omega arith in
    refused_at c.args.world.now.ranks xs _ c.loop-place.place _ _ _ c.loop-place.invariant.good (no_process _ xs c.loop-place.place _ (mapped_entry c.args.usermap.now c.args.ldumap c.args.nprow c.args.npcol c.loop-place.place _ low c.mapped-rank.ensures) c.if-rank-world.true) low refl

pub returns-then-contains-clause-answer : goal.returns-then-contains-clause-answer
returns-then-contains-clause-answer c =
    let xs = (mapped_grid c.args.usermap.now c.args.ldumap c.args.nprow c.args.npcol).ranks in
    let low : c.loop-place.place < c.args.nprow * c.args.npcol = omega arith in
    let held : list_any (λ r. r == c.mapped-rank.result) (take c.loop-place.place xs) ≡ true = ap (list_any (λ r. r == c.mapped-rank.result)) (sym c.loop-place.invariant.read) ∙ sym c.contains.ensures.value ∙ c.if-contains.true in
    refused_at c.args.world.now.ranks xs _ c.loop-place.place _ _ _ c.loop-place.invariant.good (twice _ xs c.loop-place.place _ (mapped_entry c.args.usermap.now c.args.ldumap c.args.nprow c.args.npcol c.loop-place.place _ low c.mapped-rank.ensures) c.if-rank-world.false held) low refl

pub loop-place-preserved : goal.loop-place-preserved
loop-place-preserved c =
    let xs = (mapped_grid c.args.usermap.now c.args.ldumap c.args.nprow c.args.npcol).ranks in
    let low : c.loop-place.place < c.args.nprow * c.args.npcol = omega arith in
    let held : list_any (λ r. r == c.mapped-rank.result) (take c.loop-place.place xs) ≡ false = ap (list_any (λ r. r == c.mapped-rank.result)) (sym c.loop-place.invariant.read) ∙ sym c.contains.ensures.value ∙ c.if-contains.false in
    let size = length-mapped_grid c.args.usermap.now c.args.ldumap c.args.nprow c.args.npcol in
    let rank = mapped_entry c.args.usermap.now c.args.ldumap c.args.nprow c.args.npcol c.loop-place.place _ low c.mapped-rank.ensures in
    record {
      read = read_more xs c.loop-place.places c.loop-place.place _ (omega arith) (omega arith) rank c.loop-place.invariant.read;
      good = good_more _ xs c.loop-place.place _ c.loop-place.invariant.good rank c.if-rank-world.false held;
    }

pub returns-clause-read : goal.returns-clause-read
returns-clause-read c =
    let size = length-mapped_grid c.args.usermap.now c.args.ldumap c.args.nprow c.args.npcol in
    read_all (mapped_grid c.args.usermap.now c.args.ldumap c.args.nprow c.args.npcol).ranks c.loop-place.places c.loop-place.place (omega arith) (omega arith) c.loop-place.invariant.read
