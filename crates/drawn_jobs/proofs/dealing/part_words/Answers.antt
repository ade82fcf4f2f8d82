use Rattle.std.proofs.Common.{List, ℕ, refl, ap, ◌∙◌, ◌++◌}
use Rattle.index_tools.specs.Spread.{Spread, spread}
use Rattle.mm_text.specs.Loading.{matrix_of}
use Rattle.spread_cells.specs.Spreading.{owned}
use Rattle.drawn_jobs.specs.Rows.{words_at}
use Rattle.drawn_jobs.proofs.PartLaws.{part_more}
use Rattle.drawn_jobs.proofs.dealing.part_words.Goals as goal

pub loop-j-preserved : goal.loop-j-preserved
loop-j-preserved c =
    let s : Spread = spread c.args.to.now.mb 0 c.args.to.now.nprow in
    let rows : List ℕ = owned s c.args.p c.args.whole.now.rows in
    record { words = part_more (matrix_of c.args.whole.now) rows s c.args.p c.args.columns.now c.loop-j.j-index _ c.loop-j.words.items c.column_at.result.now c.push_rows.new.words.items c.loop-j.invariant.words refl c.column_at.ensures.words c.loop-j-test.true refl (c.in_ok-push_rows.ensures ∙ ap (λ n. c.loop-j.words.items ++ words_at c.column_at.result.now (owned s c.args.p n)) c.column_at.ensures.len) }
