use Rattle.std.proofs.Common.{◌*◌, ◌/◌, ℕ, List, length, refl, sym, ap, ap₂, ◌∙◌, arith}
use Rattle.std.specs.Prelude.{max}
use Rattle.std.proofs.lemmas.List.FromFn.{length-map-range_with_len}
use Rattle.index_tools.specs.Spread.{spread}
use Rattle.mm_grammar.specs.Matrix.{Matrix}
use Rattle.mm_text.specs.Loading.{matrix_of}
use Rattle.piece_moves.specs.Distribution.{Distribution}
use Rattle.piece_moves.specs.DistributionView.{distribution_view}
use Rattle.spread_cells.specs.Spreading.{owned, word_at, array_of}
use Rattle.drawn_jobs.specs.Dealing.{cells_at}
use Rattle.drawn_jobs.proofs.DrawnLaws.{few_rows, small_area}
use Rattle.drawn_jobs.proofs.dealing.piece_array.Goals as goal

pub piece_words-requires-clause-count : goal.piece_words-requires-clause-count
piece_words-requires-clause-count c = ap₂ (λ (a b : ℕ). a * b) c.requires.lead c.width_of-width.ensures

pub array_from-requires-clause-lead : goal.array_from-requires-clause-lead
array_from-requires-clause-lead c =
    let d : Distribution = distribution_view c.args.to.now in
    let m : Matrix = matrix_of c.args.whole.now in
    let low = few_rows d m c.args.k (cells_at d m c.args.k) refl c.requires.rows_fit in
    let is = c.requires.lead in
    omega (arith, is, low)

pub array_from-requires-clause-area : goal.array_from-requires-clause-area
array_from-requires-clause-area c =
    let d : Distribution = distribution_view c.args.to.now in
    let m : Matrix = matrix_of c.args.whole.now in
    let low = small_area d m c.args.k (cells_at d m c.args.k) refl c.requires.rows_fit c.requires.columns_fit in
    let is = ap₂ (λ (a b : ℕ). a * b) c.requires.lead (c.width_of-width.ensures ∙ ap (λ (xs : List ℕ). max 1 (length xs)) c.columns_of-across.ensures.columns) in
    omega (arith, is, low)

pub array_from-requires-clause-whole : goal.array_from-requires-clause-whole
array_from-requires-clause-whole c =
    let m : Matrix = matrix_of c.args.whole.now in
    let rows : List ℕ = owned (spread c.args.to.now.mb 0 c.args.to.now.nprow) (c.args.k / c.args.to.now.npcol) c.args.whole.now.rows in
    let across : List ℕ = c.columns_of-across.result.now in
    ap length c.in_ok-words.ensures ∙ length-map-range_with_len (word_at m rows across) 0 (max 1 (length rows) * max 1 (length across)) ∙ sym (ap₂ (λ (a b : ℕ). a * b) c.requires.lead c.width_of-width.ensures)

pub returns-clause-columns : goal.returns-clause-columns
returns-clause-columns c = c.array_from.ensures.columns ∙ c.width_of-width.ensures ∙ ap (λ (xs : List ℕ). max 1 (length xs)) c.columns_of-across.ensures.columns

pub returns-clause-words : goal.returns-clause-words
returns-clause-words c =
    let m : Matrix = matrix_of c.args.whole.now in
    let rows : List ℕ = owned (spread c.args.to.now.mb 0 c.args.to.now.nprow) (c.args.k / c.args.to.now.npcol) c.args.whole.now.rows in
    c.array_from.ensures.words ∙ c.in_ok-words.ensures ∙ ap (λ (xs : List ℕ). (array_of m rows xs).values) c.columns_of-across.ensures.columns
