-- Every row run by every column run, where the cut touches it, is all rectangles that it touches.
use Rattle.std.specs.Prelude.{◌≡◌, ℕ, Bool, true, false, List, [], ◌∷◌, ◌++◌, map, filter, cond}
use Rattle.std.proofs.Common.{sym, ap, ◌∙◌, refl}
use Rattle.std.proofs.lemmas.List.{map-append}
use Rattle.pack_words.specs.declared.cut.Cut.{Cut}
use Rattle.pack_words.specs.declared.shape.Shape.{Shape}
use Rattle.pack_words.specs.declared.shape.Shape.TheVariants.{Ge, Tr}
use Rattle.pack_words.specs.declared.uplo.Uplo.TheVariants.{Upper, Lower}
use Rattle.pack_words.specs.declared.region.Region.{Region}
use Rattle.pack_words.specs.declared.span.Span.{Span}
use Rattle.pack_words.specs.Products.{crossing, down, product, has_corner, is_touched, touched_product}
use Rattle.block_meet.specs.declared.axis.Run.{Run}
use Rattle.block_meet.specs.declared.side.Meet.{Meet}
use Rattle.block_meet.specs.Meets.{rectangle, rectangles, touched, touches}
use Rattle.mr2d.specs.Pairs.{part_of_a, part_of_b}
use Rattle.mr2d.specs.declared.parts.End.{End}
use Rattle.mr2d.specs.declared.parts.End.TheVariants.{Source, Target}
use Rattle.mr2d.specs.Ends.{span_on, parts_on}

-- the corner of a rectangle is that of its part of an array
corner_of_a : (s : Shape) (m n : ℕ) (t : Meet) → has_corner s m n (part_of_a t) ≡ touched s m n t
corner_of_a Ge m n t = refl
corner_of_a (Tr Upper d) m n t = refl
corner_of_a (Tr Lower d) m n t = refl

corner_of_b : (s : Shape) (m n : ℕ) (t : Meet) → has_corner s m n (part_of_b t) ≡ touched s m n t
corner_of_b Ge m n t = refl
corner_of_b (Tr Upper d) m n t = refl
corner_of_b (Tr Lower d) m n t = refl

module _ (part : Meet → Region) (p : Region → Bool) (q : Meet → Bool) (same : (t : Meet) → p (part t) ≡ q t) where
  filter_parts : (ts : List Meet) → filter p (map part ts) ≡ map part (filter q ts)
  filter_parts [] = refl
  filter_parts (t ∷ ts) =
      ap (λ b. cond b (part t ∷ filter p (map part ts)) (filter p (map part ts))) (same t) ∙ choose (q t) (filter_parts ts) where
        choose : (b : Bool) → filter p (map part ts) ≡ map part (filter q ts) → cond b (part t ∷ filter p (map part ts)) (filter p (map part ts)) ≡ map part (cond b (t ∷ filter q ts) (filter q ts))
        choose true e = ap (λ rs. part t ∷ rs) e
        choose false e = e

module _ (part : Meet → Region) (span : Run → Span) (alike : (r c : Run) → part (rectangle r c) ≡ crossing (span r) (span c)) where
  column : (rs : List Run) (c : Run) → map part (map (λ r. rectangle r c) rs) ≡ down (map span rs) (span c)
  unfolding down
  column [] c = refl
  column (r ∷ rs) c = ap (λ x. x ∷ map part (map (λ r. rectangle r c) rs)) (alike r c) ∙ ap (λ xs. crossing (span r) (span c) ∷ xs) (column rs c)

  crossed : (rs cs : List Run) → map part (rectangles rs cs) ≡ product (map span rs) (map span cs)
  unfolding product
  crossed rs [] = refl
  crossed rs (c ∷ cs) =
      map-append part (map (λ r. rectangle r c) rs) (rectangles rs cs) ∙ ap (λ xs. xs ++ map part (rectangles rs cs)) (column rs c) ∙ ap (λ xs. down (map span rs) (span c) ++ xs) (crossed rs cs)

pub crossed_at : (end : End) (cut : Cut) (rs cs : List Run) → touched_product cut (map (span_on end) rs) (map (span_on end) cs) ≡ parts_on end (filter (touches cut) (rectangles rs cs))
unfolding touched_product
crossed_at Source cut rs cs =
    ap (filter (is_touched cut)) (sym (crossed part_of_a (span_on Source) (λ r c. refl) rs cs))
    ∙ filter_parts part_of_a (is_touched cut) (touches cut) (corner_of_a cut.shape cut.m cut.n) (rectangles rs cs)
crossed_at Target cut rs cs =
    ap (filter (is_touched cut)) (sym (crossed part_of_b (span_on Target) (λ r c. refl) rs cs))
    ∙ filter_parts part_of_b (is_touched cut) (touches cut) (corner_of_b cut.shape cut.m cut.n) (rectangles rs cs)

-- The spans of both lists of runs.
pub crossed_spans : (end : End) (cut : Cut) (xs ys : List Span) (rows columns rs cs : List Run) → xs ≡ map (span_on end) rows → ys ≡ map (span_on end) columns → rows ≡ rs → columns ≡ cs → touched_product cut xs ys ≡ parts_on end (filter (touches cut) (rectangles rs cs))
crossed_spans end cut xs ys rows columns rs cs e f g h =
    ap (λ zs. touched_product cut zs ys) (e ∙ ap (map (span_on end)) g) ∙ ap (touched_product cut (map (span_on end) rs)) (f ∙ ap (map (span_on end)) h) ∙ crossed_at end cut rs cs
