-- The two arrays stand in two parts of the list.
use Rattle.std.proofs.Common.{◌≡◌, ◌++◌, ◌<◌, take, ap, ◌∙◌, arith, slice_index_or, slice_set}
use Rattle.pack_words.specs.LocalCells.{LocalCells, zeros}
use Rattle.pack_words.specs.Packing.{packed, unpacked}
use Rattle.pack_words.proofs.Halves.{set_high, set_low, read_low, read_high}
use Rattle.pack_words.proofs.copying.copy_between.Goals as goal

pub returns-then-from-to : goal.returns-then-from-to
returns-then-from-to c =
    let cut = c.args.cut.now in
    let sources = c.args.sources.now in
    let targets = c.args.targets.now in
    let arrays = c.args.arrays.now in
    let none : LocalCells = zeros 1 0 in
    let low = c.split_at_mut-low.ensures.front in
    let high = c.split_at_mut-low.ensures.back in
    let source = read_low arrays c.split_at_mut-low.result.0.now c.args.to c.args.from c.index-low-from.result none low c.if-from-to.true c.requires.to in
    let target = read_high arrays c.split_at_mut-low.result.1.now c.args.to c.index-high-0.result none high c.requires.to in
    let made : c.copy.new.to ≡ unpacked cut targets (packed cut sources (slice_index_or arrays c.args.from none)) (slice_index_or arrays c.args.to none) =
    c.copy.ensures ∙ ap (λ a. unpacked cut targets (packed cut sources a) (slice_index_or c.split_at_mut-low.result.1.now 0 c.index-high-0.result)) source
    ∙ ap (λ a. unpacked cut targets (packed cut sources (slice_index_or arrays c.args.from none)) a) target in
    ap (λ xs. xs ++ slice_set c.split_at_mut-low.result.1.now 0 c.copy.new.to) low
    ∙ ap (λ xs. take c.args.to arrays ++ slice_set xs 0 c.copy.new.to) high
    ∙ set_high arrays c.args.to c.copy.new.to none c.requires.to
    ∙ ap (slice_set arrays c.args.to) made

pub returns-else-from-to : goal.returns-else-from-to
returns-else-from-to c =
    let cut = c.args.cut.now in
    let sources = c.args.sources.now in
    let targets = c.args.targets.now in
    let arrays = c.args.arrays.now in
    let none : LocalCells = zeros 1 0 in
    let low = c.split_at_mut-low-else-from-to.ensures.front in
    let high = c.split_at_mut-low-else-from-to.ensures.back in
    let after : c.args.to < c.args.from = omega (arith, c.requires.apart) in
    let source = read_high arrays c.split_at_mut-low-else-from-to.result.1.now c.args.from c.index-high-0-else-from-to.result none high c.requires.from in
    let target = read_low arrays c.split_at_mut-low-else-from-to.result.0.now c.args.from c.args.to c.index-low-to.result none low after c.requires.from in
    let made : c.copy-else-from-to.new.to ≡ unpacked cut targets (packed cut sources (slice_index_or arrays c.args.from none)) (slice_index_or arrays c.args.to none) =
    c.copy-else-from-to.ensures ∙ ap (λ a. unpacked cut targets (packed cut sources a) (slice_index_or c.split_at_mut-low-else-from-to.result.0.now c.args.to c.index-low-to.result)) source
    ∙ ap (λ a. unpacked cut targets (packed cut sources (slice_index_or arrays c.args.from none)) a) target in
    ap (λ xs. slice_set xs c.args.to c.copy-else-from-to.new.to ++ c.split_at_mut-low-else-from-to.result.1.now) low
    ∙ ap (λ xs. slice_set (take c.args.from arrays) c.args.to c.copy-else-from-to.new.to ++ xs) high
    ∙ set_low arrays c.args.from c.args.to c.copy-else-from-to.new.to after c.requires.from
    ∙ ap (slice_set arrays c.args.to) made
