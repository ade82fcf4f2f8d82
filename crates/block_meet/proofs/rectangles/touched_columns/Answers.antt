use Rattle.std.proofs.Common.{◌≡◌, ◌∙◌, sym, arith}
use Rattle.pack_words.specs.declared.uplo.Uplo.TheVariants.{Upper}
use Rattle.pack_words.specs.declared.diag.Diag.TheVariants.{N, U}
use Rattle.block_meet.proofs.CountLemmas.{touched_whole, touched_upper, touched_upper_unit}
use Rattle.block_meet.proofs.rectangles.touched_columns.Goals as goal

pub returns-in-Ge : goal.returns-in-Ge
returns-in-Ge c = λ cs h. sym (c.len.ensures.list cs h) ∙ touched_whole c.args.cut.now.shape c.args.cut.now.m c.args.cut.now.n c.args.row.now cs c.in-Ge.is

pub returns-in-Tr-Upper-N : goal.returns-in-Tr-Upper-N
returns-in-Tr-Upper-N c = λ cs h.
    let w = c.in-Tr-Upper-N in
    let upper : w.field-0 ≡ Upper = rw w.is at w.field-0-is in
    let diagonal : w.field-1 ≡ N = rw w.is at w.field-1-is in
    c.ending_after.ensures cs h ∙ touched_upper _ _ _ c.args.cut.now.m c.args.cut.now.n c.saturating_sub.result c.args.row.now _ _ _ cs w.is upper diagonal (omega arith) h

pub returns-in-Tr-Upper-U : goal.returns-in-Tr-Upper-U
returns-in-Tr-Upper-U c = λ cs h.
    let w = c.in-Tr-Upper-U in
    let upper : w.field-0 ≡ Upper = rw w.is at w.field-0-is in
    let diagonal : w.field-1 ≡ U = rw w.is at w.field-1-is in
    c.ending_after-in-Tr-Upper-U.ensures cs h ∙ touched_upper_unit _ _ _ c.args.cut.now.m c.args.cut.now.n c.saturating_sub-in-Tr-Upper-U.result c.args.row.now _ _ _ cs w.is upper diagonal (omega arith) h
