use Rattle.std.proofs.Common.{◌≡◌, ◌*◌, true, false, refl, subst, rules, arith, FitsSigned, w64, to_z-of_z, slice_index_or, pos}
use Rattle.descriptor.specs.Bounds.{some_below}
use Rattle.descriptor.proofs.BoundsLemmas.{bad_at, some_below-more, has_bad_lld-length, has_bad_lld-at, has_bad_lld-none}
use Rattle.descriptor.proofs.bounds.are_leads.Goals as goal

pub returns-then-llds-rows : goal.returns-then-llds-rows
returns-then-llds-rows c = has_bad_lld-length c.args.llds.now c.args.rows.count c.args.rows.block c.args.rows.source c.args.rows.nprow c.args.npcol c.if-llds-rows.true

pub loop-k-init : goal.loop-k-init
unfolding some_below
loop-k-init c = refl

pub returns-then-not-is_lead : goal.returns-then-not-is_lead
returns-then-not-is_lead c =
    let bad : bad_at c.args.llds.now c.args.rows.count c.args.rows.block c.args.rows.source c.args.rows.nprow c.args.npcol c.loop-k.k ≡ true = let fits : FitsSigned w64 (slice_index_or c.args.llds.now c.loop-k.k (pos 0)) = search rules in grind (arith, to_z-of_z, c.if-not-is_lead.ensures) in
    has_bad_lld-at c.args.llds.now c.args.rows.count c.args.rows.block c.args.rows.source c.args.rows.nprow c.args.npcol c.loop-k.k c.loop-k-test.true bad

pub loop-k-preserved : goal.loop-k-preserved
loop-k-preserved c =
    let good : bad_at c.args.llds.now c.args.rows.count c.args.rows.block c.args.rows.source c.args.rows.nprow c.args.npcol c.loop-k.k ≡ false = let fits : FitsSigned w64 (slice_index_or c.args.llds.now c.loop-k.k (pos 0)) = search rules in grind (arith, to_z-of_z, c.if-not-is_lead.ensures) in
    some_below-more _ c.loop-k.k c.loop-k.invariant good

pub returns : goal.returns
returns c =
    let all : c.loop-k.k ≡ c.args.rows.nprow * c.args.npcol = omega arith in
    has_bad_lld-none c.args.llds.now c.args.rows.count c.args.rows.block c.args.rows.source c.args.rows.nprow c.args.npcol (omega arith) (subst (λ n. some_below (bad_at c.args.llds.now c.args.rows.count c.args.rows.block c.args.rows.source c.args.rows.nprow c.args.npcol) n ≡ false) all c.loop-k.invariant)
