-- The row lies where the layout says.
use Rattle.std.proofs.Common.{◌≡◌, ◌<◌, ap, ◌∙◌, arith}
use Rattle.index_tools.specs.Home.{Layout, row_spread}
use Rattle.index_tools.specs.Spread.{Spread}
use Rattle.spread_cells.specs.LayoutView.{layout_view}
use Rattle.spread_cells.specs.IndexHomes.{index_home}
use Rattle.spread_cells.proofs.HomeTables.{process_found, local_found}
use Rattle.program_results.specs.Placed.{Placed}
use Rattle.program_results.proofs.place.Place.row.Goals as goal

layout_is : (c : goal.After-home) → layout_view c.self.inside.layout ≡ c.args.self.now.layout
layout_is c = ap (λ (v : Placed). v.layout) c.self.view_is

pub home-requires : goal.home-requires
home-requires c = omega (arith, c.self.inside.layout.rows_fit, ap (λ (v : Placed). v.layout.rows) c.self.view_is, c.requires)

found : (c : goal.After-home) → c.home.result ≡ index_home (row_spread c.args.self.now.layout) c.args.i
found c = c.home.ensures ∙ ap (λ (s : Spread). index_home s c.args.i) (c.self.invariant.rows ∙ ap row_spread (layout_is c))

some : (c : goal.After-home) → 0 < c.args.self.now.layout.nprow
some c = omega (arith, c.self.inside.layout.row_source, ap (λ (l : Layout). l.nprow) (layout_is c))

pub returns-clause-home : goal.returns-clause-home
returns-clause-home c = found c

pub returns-clause-process : goal.returns-clause-process
returns-clause-process c = process_found _ c.args.i c.home.result (some c) (found c)

pub returns-clause-local : goal.returns-clause-local
returns-clause-local c = local_found _ c.args.i _ c.home.result c.requires (found c)
