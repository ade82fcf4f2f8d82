-- Two messages of one word.
use Rattle.std.specs.Prelude.{ℤ, pos, List, [], ◌∷◌}

abbrev pub two_messages : List (List ℤ)
two_messages = (pos 7 ∷ []) ∷ (pos 8 ∷ []) ∷ []
