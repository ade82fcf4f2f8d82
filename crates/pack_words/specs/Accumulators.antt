-- Accumulators and their messages. An operation over n elements reads, joins or replaces the first n and leaves the others.
use Rattle.std.specs.Prelude.{ℕ, ◌+◌, ◌*◌, Bool, true, false, ℤ, pos, List, ◌++◌, map, take, drop, slice_index_or}
use Rattle.std.specs.List.{range_with_len}
use Rattle.std.specs.Int.{w32, int_wrap, cast_signed, cast_unsigned}
use Rattle.fold_ops.specs.declared.held.Held.{Held}
use Rattle.fold_ops.specs.Join.{sum_joined, max_joined, min_joined}
use Rattle.pack_words.specs.declared.fold_kind.FoldKind.{FoldKind}
use Rattle.pack_words.specs.declared.fold_kind.FoldKind.TheVariants.{Sum, AbsMax, AbsMin}

-- the values, in order
abbrev pub values_of_held : List Held → List ℤ
values_of_held hs = map (λ h. h.value) hs

-- the places, in order, each as the i32 of the same 32 bits
abbrev pub words_of_held : List Held → List ℤ
words_of_held hs = map (λ h. cast_signed w32 h.place) hs

-- the k-th element of a message of n values and n places
abbrev pub held_at : List ℤ → ℕ → ℕ → Held
held_at ws n k = record { value = slice_index_or ws k (pos 0); place = cast_unsigned w32 (slice_index_or ws (n + k) (pos 0)) }

-- the k-th element of a message of values only: its place is taken as 0
abbrev pub value_at : List ℤ → ℕ → Held
value_at ws k = record { value = slice_index_or ws k (pos 0); place = 0 }

-- an element of an accumulator at the start
abbrev pub no_held : Held
no_held = record { value = pos 0; place = 0 }

-- the k-th element of an accumulator
abbrev pub element_of : List Held → ℕ → Held
element_of hs k = slice_index_or hs k no_held

abbrev pub value_of : List Held → ℕ → ℤ
value_of hs k = (element_of hs k).value

-- the message of the first n elements with their places, and that of their values only
abbrev pub pairs_message : ℕ → List Held → List ℤ
pairs_message n hs = values_of_held (take n hs) ++ words_of_held (take n hs)

abbrev pub values_message : ℕ → List Held → List ℤ
values_message n hs = values_of_held (take n hs)

-- the accumulator with other first n elements
abbrev pub first_made : (ℕ → Held) → ℕ → List Held → List Held
first_made f n hs = map f (range_with_len 0 n) ++ drop n hs

-- its first n elements loaded from words, each with the place. Words are of 32 bits, so each is its remainder of 2^32
abbrev pub loaded_with : List ℤ → ℕ → ℕ → List Held → List Held
loaded_with ws place n hs = first_made (λ k. record { value = int_wrap w32 (slice_index_or ws k (pos 0)); place = place }) n hs

-- its first n elements joined one by one with those of a message with places
abbrev pub joined_with : (Held → Held → Held) → ℕ → List Held → List ℤ → List Held
joined_with f n hs ws = first_made (λ k. f (slice_index_or hs k no_held) (held_at ws n k)) n hs

-- or added to those of a message of values only
abbrev pub added_with : ℕ → List Held → List ℤ → List Held
added_with n hs ws = first_made (λ k. sum_joined (slice_index_or hs k no_held) (value_at ws k)) n hs

-- its first n elements replaced by those of a message with places, or of values only
abbrev pub replaced_by_pairs : ℕ → List Held → List ℤ → List Held
replaced_by_pairs n hs ws = first_made (held_at ws n) n hs

abbrev pub replaced_by_values : ℕ → List Held → List ℤ → List Held
replaced_by_values n hs ws = first_made (value_at ws) n hs

-- how many words a message of n elements has, with places or without
abbrev pub message_words : Bool → ℕ → ℕ
message_words true n = 2 * n
message_words false n = n

-- the message of the first n elements, with places or without
abbrev pub held_message : Bool → ℕ → List Held → List ℤ
held_message true n hs = pairs_message n hs
held_message false n hs = values_message n hs

-- the accumulator after its first n elements were replaced by those of a message, with places or without
abbrev pub replaced_by : Bool → ℕ → List Held → List ℤ → List Held
replaced_by true n hs ws = replaced_by_pairs n hs ws
replaced_by false n hs ws = replaced_by_values n hs ws

-- a sum's messages have no places
abbrev pub has_places : FoldKind → Bool
has_places Sum = false
has_places AbsMax = true
has_places AbsMin = true

-- the accumulator after its first n elements were joined with those of a message
abbrev pub joined_by : FoldKind → ℕ → List Held → List ℤ → List Held
joined_by Sum n hs ws = added_with n hs ws
joined_by AbsMax n hs ws = joined_with max_joined n hs ws
joined_by AbsMin n hs ws = joined_with min_joined n hs ws
