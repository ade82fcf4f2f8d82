-- The rows and columns of a rank are those of its place.
use Rattle.std.proofs.Common.{◌≡◌, ◌<◌, ℕ, ℤ, List, length, refl, sym, ap, ◌∙◌, subst, arith}
use Rattle.std.specs.Prelude.{Option, Some, slice_get}
use Rattle.proc_grid.specs.Grid.{place_of}
use Rattle.index_tools.specs.Home.{Layout}
use Rattle.descriptor.specs.Good.{layout_of}
use Rattle.array_contents.specs.LocalWords.{IsFrom, spread_word}
use Rattle.array_contents.specs.Shares.{rows_by, columns_by}
use Rattle.array_contents.proofs.ShareLaws.{row_inside, column_inside, rows_are, columns_are, from_shares}
use Rattle.array_contents.proofs.shares.words_on.Goals as goal

pub index-requires : goal.index-requires
index-requires c =
    let low = row_inside (layout_of c.args.spread.now c.args.ctx.now) c.args.ctx.now c.args.shares.now c.args.rank c.in-Some.p c.in-Some.q c.place.ensures.grid refl c.requires.shares (sym c.in-Some.ensures.place) in
    omega (arith, low, c.args.shares.now.rows.ok)

pub index-requires-in-Some : goal.index-requires-in-Some
index-requires-in-Some c =
    let left = column_inside (layout_of c.args.spread.now c.args.ctx.now) c.args.ctx.now c.args.shares.now c.args.rank c.in-Some.p c.in-Some.q c.place.ensures.grid refl c.requires.shares (sym c.in-Some.ensures.place) in
    omega (arith, left, c.args.shares.now.columns.ok)

pub returns-in-Some-clause-on : goal.returns-in-Some-clause-on
returns-in-Some-clause-on c =
    let l : Layout = layout_of c.args.spread.now c.args.ctx.now in
    let o : Option (ℕ × ℕ) = place_of c.args.ctx.now c.args.rank in
    let at : o ≡ Some (c.in-Some.p, c.in-Some.q) = sym c.in-Some.ensures.place in
    let low = row_inside l c.args.ctx.now c.args.shares.now c.args.rank c.in-Some.p c.in-Some.q c.place.ensures.grid refl c.requires.shares at in
    let left = column_inside l c.args.ctx.now c.args.shares.now c.args.rank c.in-Some.p c.in-Some.q c.place.ensures.grid refl c.requires.shares at in
    let rows : c.deref.result.now ≡ rows_by l o = c.deref.ensures.value ∙ rows_are l c.args.ctx.now c.args.shares.now c.args.rank c.in-Some.p c.in-Some.q c.index.result.now c.requires.shares at low c.index.ensures in
    let columns : c.deref-in-Some.result.now ≡ columns_by l o =
    c.deref-in-Some.ensures.value ∙ columns_are l c.args.ctx.now c.args.shares.now c.args.rank c.in-Some.p c.in-Some.q c.index-in-Some.result.now c.requires.shares at left c.index-in-Some.ensures in
    λ lld le j.
    subst (λ (rs : List ℕ). IsFrom c.args.source.now rs (slice_get c.deref-in-Some.result.now j) lld) (sym rows)
    (subst (λ (cs : List ℕ). IsFrom c.args.source.now (rows_by l o) (slice_get cs j) lld) (sym columns) (from_shares c.args.source.now l o lld j c.requires.sized le))

pub returns-in-Some-clause-words : goal.returns-in-Some-clause-words
returns-in-Some-clause-words c =
    let l : Layout = layout_of c.args.spread.now c.args.ctx.now in
    let o : Option (ℕ × ℕ) = place_of c.args.ctx.now c.args.rank in
    let at : o ≡ Some (c.in-Some.p, c.in-Some.q) = sym c.in-Some.ensures.place in
    let low = row_inside l c.args.ctx.now c.args.shares.now c.args.rank c.in-Some.p c.in-Some.q c.place.ensures.grid refl c.requires.shares at in
    let left = column_inside l c.args.ctx.now c.args.shares.now c.args.rank c.in-Some.p c.in-Some.q c.place.ensures.grid refl c.requires.shares at in
    let rows : c.deref.result.now ≡ rows_by l o = c.deref.ensures.value ∙ rows_are l c.args.ctx.now c.args.shares.now c.args.rank c.in-Some.p c.in-Some.q c.index.result.now c.requires.shares at low c.index.ensures in
    let columns : c.deref-in-Some.result.now ≡ columns_by l o =
    c.deref-in-Some.ensures.value ∙ columns_are l c.args.ctx.now c.args.shares.now c.args.rank c.in-Some.p c.in-Some.q c.index-in-Some.result.now c.requires.shares at left c.index-in-Some.ensures in
    λ j i w.
    ap (λ (rs : List ℕ). spread_word c.args.source.now rs (slice_get c.deref-in-Some.result.now j) i w) rows
    ∙ ap (λ (cs : List ℕ). spread_word c.args.source.now (rows_by l o) (slice_get cs j) i w) columns
