-- The words behind a command, sorted: which are positional, and what the options say.
use Rattle.std.specs.Prelude.{ℕ, ◌+◌, ◌==◌, Bool, true, false, List, [], ◌∷◌, Option, Some, None, codes, if◌then◌else◌}
use Rattle.std.specs.List.{before_first, after_first, list_any}
use Rattle.std.specs.Str.{bytes_eq}

-- a word, as its bytes
abbrev pub Text : Type 0
Text = List ℕ

-- What a word is where options are looked for: a positional word, `--`, `--threads`, `--seed` whose value is the next word,
-- `--seed=S`, or an option that no command has.
pub data Kind : Type 0 where
  place : Kind
  end : Kind
  threads : Kind
  seed : Kind
  seed_is : Text → Kind
  odd : Kind

-- an option `--NAME`, or `--NAME=VALUE` which is cut at its first `=`
abbrev pub option_kind : (name : Text) → (value : Option Text) → Kind
option_kind name None = if bytes_eq (codes "threads") name then threads else (if bytes_eq (codes "seed") name then seed else odd)
option_kind name (Some s) = if bytes_eq (codes "seed") name then seed_is s else odd

-- what stands behind the first `=` (61) of a text, if it has one
abbrev pub value_in : Text → Option Text
value_in text = if list_any (λ b. b == 61) text then Some (after_first (λ b. b == 61) text) else None

-- the kind of a word that begins with two minuses, by what stands behind them
abbrev pub long_kind : Text → Kind
long_kind [] = end
long_kind (b ∷ bs) = option_kind (before_first (λ c. c == 61) (b ∷ bs)) (value_in (b ∷ bs))

-- A word that begins with a minus (45), and isn't that alone, is an option or `--`. Every other word is positional.
unfoldable pub kind_of : Text → Kind
kind_of [] = place
kind_of (b ∷ []) = place
kind_of (b ∷ c ∷ bs) = if b == 45 then (if c == 45 then long_kind bs else odd) else place

-- The positional words in their order, how often `--threads` stands among the words, and each value of `--seed`.
pub record Given : Type 0 where
  pub places : List Text
  pub threads : ℕ
  pub seeds : List Text

-- positional words alone
abbrev pub only_places : List Text → Given
only_places words = record { places = words; threads = 0; seeds = [] }

abbrev pub with_place : Text → Option Given → Option Given
with_place word None = None
with_place word (Some g) = Some (record g { places = word ∷ g.places })

abbrev pub with_threads : Option Given → Option Given
with_threads None = None
with_threads (Some g) = Some (record g { threads = g.threads + 1 })

abbrev pub with_seed : Text → Option Given → Option Given
with_seed s None = None
with_seed s (Some g) = Some (record g { seeds = s ∷ g.seeds })

-- one word more in front of the others, which are sorted as words, or of which the first is the value of `--seed`
abbrev pub with_word : Kind → (word : Text) → (others : List Text) → (sorted valued : Option Given) → Option Given
with_word place word others sorted valued = with_place word sorted
with_word end word others sorted valued = Some (only_places others)
with_word threads word others sorted valued = with_threads sorted
with_word seed word others sorted valued = valued
with_word (seed_is s) word others sorted valued = with_seed s sorted
with_word odd word others sorted valued = None

-- The words sorted, where the first is the value of a `--seed` before it, or isn't. None where an option isn't known or a
-- value isn't there.
unfoldable pub sorted_from : (is_value : Bool) → List Text → Option Given
sorted_from false [] = Some (only_places [])
sorted_from true [] = None
sorted_from true (word ∷ others) = with_seed word (sorted_from false others)
sorted_from false (word ∷ others) = with_word (kind_of word) word others (sorted_from false others) (sorted_from true others)

-- the words behind a command, sorted
abbrev pub sorted : List Text → Option Given
sorted = sorted_from false
