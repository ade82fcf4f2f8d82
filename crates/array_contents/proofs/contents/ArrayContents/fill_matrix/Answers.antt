-- What the code sets on each rank is what the line says.
use Rattle.std.proofs.Common.{◌≡◌, List, sym, ◌∙◌, subst}
use Rattle.pack_words.specs.LocalCells.{LocalCells}
use Rattle.array_contents.specs.Contents.{arrays_of, HaveLead}
use Rattle.array_contents.proofs.RankLaws.{placed_writes}
use Rattle.array_contents.proofs.contents.ArrayContents.fill_matrix.Goals as goal

pub returns-clause-filled : goal.returns-clause-filled
returns-clause-filled c =
    let old : List (List LocalCells) = arrays_of c.self.inside.ranks.items in
    let have : HaveLead c.args.array c.args.lld old = subst (HaveLead c.args.array c.args.lld) (sym c.self.view_is) c.requires.lead in
    λ st same. placed_writes c.args.array c.args.lld c.args.filling.now old (arrays_of c.set_placed.new.ranks.items) have c.set_placed.ensures st (same ∙ sym c.self.view_is)
