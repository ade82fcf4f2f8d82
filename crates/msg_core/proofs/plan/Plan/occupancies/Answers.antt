use Rattle.std.proofs.Common.{◌≡◌, sym, ap, ◌∙◌, subst, List, ℕ, length, Vec, Global}
use Rattle.std.proofs.lemmas.Result.{IfOk-weaker}
use Rattle.machine.specs.Orders.{messages_of, occupancy}
use Rattle.msg_core.specs.Kinds.{kinds_of}
use Rattle.msg_core.specs.Plans.{PlanView, AllAmongRanks, lens_of, no_lens}
use Rattle.msg_core.specs.Tallies.{AreTallies}
use Rattle.msg_core.specs.declared.tally.Tally.{Tally}
use Rattle.msg_core.specs.PairRows.{pair_rows}
use Rattle.msg_core.proofs.Staging.{all_among_more}
use Rattle.msg_core.proofs.plan.Plan.occupancies.Goals as goal

pub tally_all-requires-clause-among : goal.tally_all-requires-clause-among
tally_all-requires-clause-among g c = subst (λ (l : List (ℕ × _)). AllAmongRanks g.Op.Step 64 l) (sym c.deref.ensures.value) (all_among_more g.Op.Step c.self.inside.steps.items c.self.inside.ranks 64 c.self.invariant.0.most c.self.invariant.0.among)

pub returns : goal.returns
returns g c =
    let kinds = kinds_of g.Op.Step c.deref.result.now in
    let steps : c.deref.result.now ≡ c.args.self.now.steps = c.deref.ensures.value ∙ ap (λ (p : PlanView _). p.steps) c.self.view_is in
    let ranks : c.self.inside.ranks ≡ c.args.self.now.ranks = ap (λ (p : PlanView _). p.ranks) c.self.view_is in
    let here : AreTallies c.deref-2.result.now (length c.deref.result.now) (messages_of kinds) (lens_of g.Op.Step c.deref.result.now no_lens) (occupancy kinds) = subst (λ (l : List Tally). AreTallies l (length c.deref.result.now) (messages_of kinds) (lens_of g.Op.Step c.deref.result.now no_lens) (occupancy kinds)) (sym c.deref-2.ensures.value) c.in_ok-all.ensures in
    IfOk-weaker c.list_rows.result _ (λ (v : Vec (ℕ × ℕ × ℕ) Global). v.items ≡ pair_rows (messages_of (kinds_of g.Op.Step c.args.self.now.steps)) (occupancy (kinds_of g.Op.Step c.args.self.now.steps)) c.args.self.now.ranks)
    (λ v f. f _ _ _ _ here ∙ (ap (λ (l : List (ℕ × _)). pair_rows (messages_of (kinds_of g.Op.Step l)) (occupancy (kinds_of g.Op.Step l)) c.self.inside.ranks) steps ∙ ap (λ n. pair_rows (messages_of (kinds_of g.Op.Step c.args.self.now.steps)) (occupancy (kinds_of g.Op.Step c.args.self.now.steps)) n) ranks))
    c.list_rows.ensures
