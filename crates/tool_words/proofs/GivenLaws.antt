-- Laws of the words behind a command: what stands alone, and what stands behind `--`.
use Rattle.std.proofs.Common.{◌≡◌, true, List, [], ◌∷◌, Some, refl, ap, ◌∙◌}
use Rattle.std.specs.Prelude.{codes}
use Rattle.tool_words.specs.Given.{Text, place, kind_of, only_places, with_place, with_word, sorted_from, sorted}
use Rattle.tool_words.specs.CommandWords.{asked}

-- each word is positional
abbrev pub AllPlaces : List Text → Type 0
AllPlaces [] = Unit {0}
AllPlaces (w ∷ ws) = (kind_of w ≡ place) × AllPlaces ws

-- Words of which none is an option or `--` are positional as they stand.
pub sorted-places : (words : List Text) → AllPlaces words → sorted words ≡ Some (only_places words)
unfolding sorted_from
sorted-places [] h = refl
sorted-places (w ∷ ws) h = ap (λ k. with_word k w ws (sorted ws) (sorted_from true ws)) h.0 ∙ ap (with_place w) (sorted-places ws h.1)

-- Behind `--` every word is positional, an option and a further `--` too.
pub sorted-dashes : (words : List Text) → sorted (codes "--" ∷ words) ≡ Some (only_places words)
unfolding sorted_from kind_of
sorted-dashes words = refl

-- So `--` before words of which none is an option changes nothing.
pub asked-dashes : (first : Text) (words : List Text) → AllPlaces words → asked (first ∷ codes "--" ∷ words) ≡ asked (first ∷ words)
unfolding asked
asked-dashes first words h = rw (sorted-dashes words, sorted-places words h) refl
