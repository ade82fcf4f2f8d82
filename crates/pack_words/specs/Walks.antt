-- Regions that are still to come.
use Rattle.std.specs.Prelude.{ℕ, List, drop}
use Rattle.std.specs.List.{filter}
use Rattle.pack_words.specs.declared.cut.Cut.{Cut}
use Rattle.pack_words.specs.declared.region.Region.{Region}
use Rattle.pack_words.specs.declared.span.Span.{Span}
use Rattle.pack_words.specs.declared.walk.Walked.{Walked}
use Rattle.pack_words.specs.declared.walk.Walked.TheVariants.{Listed, Crossed}
use Rattle.pack_words.specs.Products.{product, is_touched, AreFewRuns}

-- those of the rectangles from the k-th on that the cut touches
unfoldable pub touched_from : Cut → List Span → List Span → ℕ → List Region
touched_from by rows cols k = filter (is_touched by) (drop k (product rows cols))

-- the regions of a list from the k-th on, or of such rectangles
abbrev pub rest_of : Walked → ℕ → List Region
rest_of (Listed list) k = drop k list.now
rest_of (Crossed rows cols by) k = touched_from by.now rows.now cols.now k

abbrev pub HasFewRuns : Walked → Type 0
HasFewRuns (Listed list) = Unit {0}
HasFewRuns (Crossed rows cols by) = AreFewRuns rows.now cols.now
