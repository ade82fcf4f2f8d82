-- What the code sets on each rank is what the line says.
use Rattle.std.proofs.Common.{◌≡◌, List, refl, sym, ◌∙◌, subst}
use Rattle.pack_words.specs.LocalCells.{LocalCells}
use Rattle.mr2d.specs.Homes.{SpreadArray, IsSpread, HaveArrays}
use Rattle.mr2d.specs.Calls.{spread_array}
use Rattle.array_contents.specs.Contents.{arrays_of}
use Rattle.array_contents.specs.declared.local_words.Source.TheVariants.{Load}
use Rattle.array_contents.proofs.RankLaws.{is_spread, hold_rows, spread_writes}
use Rattle.array_contents.proofs.contents.ArrayContents.load_matrix.Goals as goal

pub set_spread-requires-clause-hold : goal.set_spread-requires-clause-hold
set_spread-requires-clause-hold c =
    let s : SpreadArray = spread_array c.args.array c.args.spread.now c.args.ctx.now in
    let well : IsSpread s = is_spread c.args.array c.args.spread.now c.args.ctx.now c.in_ok-shares.ensures.grid c.requires.good in
    let have : HaveArrays s (arrays_of c.self.inside.ranks.items) = subst (HaveArrays s) (sym c.self.view_is) c.requires.arrays in
    hold_rows s c.args.array (arrays_of c.self.inside.ranks.items) well refl have

pub returns-clause-loaded : goal.returns-clause-loaded
returns-clause-loaded c =
    let s : SpreadArray = spread_array c.args.array c.args.spread.now c.args.ctx.now in
    let well : IsSpread s = is_spread c.args.array c.args.spread.now c.args.ctx.now c.in_ok-shares.ensures.grid c.requires.good in
    let old : List (List LocalCells) = arrays_of c.self.inside.ranks.items in
    let have : HaveArrays s old = subst (HaveArrays s) (sym c.self.view_is) c.requires.arrays in
    λ st same. spread_writes c.args.array (Load c.args.whole) s old (arrays_of c.set_spread.new.ranks.items) well refl have c.set_spread.ensures st (same ∙ sym c.self.view_is)
