-- What is still to come of the rectangles that a cut touches.
use Rattle.std.specs.Prelude.{◌≡◌, ℕ, ◌+◌, ◌<◌, ◌≤◌, true, false, List, [], ◌∷◌, length, drop, slice_index_or}
use Rattle.std.specs.List.{filter}
use Rattle.std.proofs.Common.{ap, ◌∙◌, refl, cond}
use Rattle.std.proofs.lemmas.List.{drop_more, drop_all}
use Rattle.pack_words.specs.declared.cut.Cut.{Cut}
use Rattle.pack_words.specs.declared.span.Span.{Span}
use Rattle.pack_words.specs.Packing.{no_region}
use Rattle.pack_words.specs.Products.{product, is_touched, touched_product}
use Rattle.pack_words.specs.Walks.{touched_from}

pub from_start : (by : Cut) (rows cols : List Span) → touched_from by rows cols 0 ≡ touched_product by rows cols
unfolding touched_from touched_product
from_start by rows cols = refl

pub from_touched : (by : Cut) (rows cols : List Span) (k : ℕ) → k < length (product rows cols) → is_touched by (slice_index_or (product rows cols) k no_region) ≡ true → touched_from by rows cols k ≡ slice_index_or (product rows cols) k no_region ∷ touched_from by rows cols (k + 1)
unfolding touched_from
from_touched by rows cols k lt e =
    ap (filter (is_touched by)) (drop_more (product rows cols) k no_region lt)
    ∙ ap (λ b. cond b (slice_index_or (product rows cols) k no_region ∷ filter (is_touched by) (drop (k + 1) (product rows cols))) (filter (is_touched by) (drop (k + 1) (product rows cols)))) e

pub from_other : (by : Cut) (rows cols : List Span) (k : ℕ) → k < length (product rows cols) → is_touched by (slice_index_or (product rows cols) k no_region) ≡ false → touched_from by rows cols k ≡ touched_from by rows cols (k + 1)
unfolding touched_from
from_other by rows cols k lt e =
    ap (filter (is_touched by)) (drop_more (product rows cols) k no_region lt)
    ∙ ap (λ b. cond b (slice_index_or (product rows cols) k no_region ∷ filter (is_touched by) (drop (k + 1) (product rows cols))) (filter (is_touched by) (drop (k + 1) (product rows cols)))) e

pub from_end : (by : Cut) (rows cols : List Span) (k : ℕ) → length (product rows cols) ≤ k → touched_from by rows cols k ≡ []
unfolding touched_from
from_end by rows cols k le = ap (filter (is_touched by)) (drop_all k (product rows cols) le)
