-- The column lies where the layout says.
use Rattle.std.proofs.Common.{◌≡◌, ◌<◌, ap, ◌∙◌, arith}
use Rattle.index_tools.specs.Home.{Layout, column_spread}
use Rattle.index_tools.specs.Spread.{Spread}
use Rattle.spread_cells.specs.LayoutView.{layout_view}
use Rattle.spread_cells.specs.IndexHomes.{index_home}
use Rattle.spread_cells.proofs.HomeTables.{process_found, local_found}
use Rattle.program_results.specs.Placed.{Placed}
use Rattle.program_results.proofs.place.Place.column.Goals as goal

layout_is : (c : goal.After-home) → layout_view c.self.inside.layout ≡ c.args.self.now.layout
layout_is c = ap (λ (v : Placed). v.layout) c.self.view_is

pub home-requires : goal.home-requires
home-requires c = omega (arith, c.self.inside.layout.columns_fit, ap (λ (v : Placed). v.layout.columns) c.self.view_is, c.requires)

found : (c : goal.After-home) → c.home.result ≡ index_home (column_spread c.args.self.now.layout) c.args.j
found c = c.home.ensures ∙ ap (λ (s : Spread). index_home s c.args.j) (c.self.invariant.columns ∙ ap column_spread (layout_is c))

some : (c : goal.After-home) → 0 < c.args.self.now.layout.npcol
some c = omega (arith, c.self.inside.layout.column_source, ap (λ (l : Layout). l.npcol) (layout_is c))

pub returns-clause-home : goal.returns-clause-home
returns-clause-home c = found c

pub returns-clause-process : goal.returns-clause-process
returns-clause-process c = process_found _ c.args.j c.home.result (some c) (found c)

pub returns-clause-local : goal.returns-clause-local
returns-clause-local c = local_found _ c.args.j _ c.home.result c.requires (found c)
