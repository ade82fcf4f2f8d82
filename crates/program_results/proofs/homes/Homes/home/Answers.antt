-- The table holds where the index lies.
use Rattle.std.proofs.Common.{◌≡◌, ◌<◌, List, length, get_or, refl, ap, subst, ◌∙◌}
use Rattle.spread_cells.specs.declared.index_home.IndexHome.{IndexHome}
use Rattle.spread_cells.proofs.HomeTables.{home_found}
use Rattle.program_results.specs.HomesView.{homes_view}
use Rattle.program_results.proofs.homes.Homes.home.Goals as goal

pub returns-in-Some : goal.returns-in-Some
returns-in-Some c =
    let table : List IndexHome = c.self.inside.table.items in
    let h : IndexHome = c.in-Some.home.now in
    let inside : c.args.index < length table = subst (λ (hs : List IndexHome). c.args.index < length hs) c.deref.ensures.value c.in-Some.ensures.lookup.3.0 in
    let there : h ≡ get_or table c.args.index h = c.in-Some.ensures.lookup.3.1 h ∙ ap (λ (hs : List IndexHome). get_or hs c.args.index h) c.deref.ensures.value in
    home_found (homes_view c.self.inside) c.args.self.now (length table) (length table) c.args.index table h c.self.invariant.table c.self.view_is refl inside there
