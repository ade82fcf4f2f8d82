-- What the lines between ranks do to a grid state, a whole line at once. All else stays: other arrays, other places, and the messages of other pairs.
use Rattle.std.specs.Prelude.{ℕ, suc, Bool, cond, not, ◌&&◌, nat_eq, ℤ, List, [], ◌∷◌, slice_index_or, slice_set}
use Rattle.std.specs.List.{list_any}
use Rattle.pack_words.specs.declared.shape.Shape.{Shape}
use Rattle.pack_words.specs.LocalCells.{LocalCells, zeros}
use Rattle.pack_words.specs.GridState.{GridState}
use Rattle.pack_words.specs.GridSteps.{array_in, with_array_in, with_message, first_message, without_message}
use Rattle.pack_words.specs.Parts.{part_words, with_part_words}
use Rattle.scope_ops.specs.declared.part.Part.{Part}
use Rattle.scope_ops.specs.Parts.{cut_of}

-- the words of the selected elements of a part, by columns
abbrev pub words_of : Shape → Part → LocalCells → List ℤ
words_of shape part cells = part_words (cut_of shape part) part.i part.j cells

-- the array after these words are assigned to the selected elements of the part, by columns
abbrev pub assigned_to : Shape → Part → List ℤ → LocalCells → LocalCells
assigned_to shape part ws cells = with_part_words (cut_of shape part) part.i part.j ws cells

-- SEND: one more message of the pair waits, the selected words of the sender's part
unfoldable pub sent_line : ℕ → ℕ → Shape → Part → GridState → GridState
sent_line from to shape part s = with_message s from to (words_of shape part (array_in s from part.array))

-- RECV: the first message of the pair is taken, and its words are assigned to the selected elements of the receiver's part
unfoldable pub received_line : ℕ → ℕ → Shape → Part → GridState → GridState
received_line from to shape part s = without_message (with_array_in s to part.array (assigned_to shape part (first_message s from to) (array_in s to part.array))) from to

-- f of each element and its number, where the first has number k
abbrev pub numbered_from : {X : Type 0} → ℕ → (ℕ → X → X) → List X → List X
numbered_from k f [] = []
numbered_from k f (x ∷ xs) = f k x ∷ numbered_from (suc k) f xs

-- the arrays of a rank after these words are assigned to its part
abbrev pub received : Shape → Part → List ℤ → List LocalCells → List LocalCells
received shape part ws cs = slice_set cs part.array (assigned_to shape part ws (slice_index_or cs part.array (zeros 1 0)))

-- each rank that passes the test has these words assigned to its part
unfoldable pub given_to : (ℕ → Bool) → Shape → Part → List ℤ → GridState → GridState
given_to test shape part ws s = record s { arrays = numbered_from 0 (λ r cs. cond (test r) (received shape part ws cs) cs) s.arrays }

-- a member of the scope other than the source
abbrev pub is_other : List ℕ → ℕ → ℕ → Bool
is_other members source r = list_any (λ m. nat_eq m r) members && not (nat_eq r source)

-- BCAST: every other member's selected elements, of its part, get the words of the source's part
unfoldable pub broadcast_line : List ℕ → ℕ → Shape → Part → Part → GridState → GridState
broadcast_line members source shape part target s = given_to (is_other members source) shape target (words_of shape part (array_in s source part.array)) s
