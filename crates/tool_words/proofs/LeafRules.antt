-- The rules by which `clap` reads the words behind a command, and what one word does under them.
use Rattle.std.proofs.Common.{◌≡◌, ℕ, suc, Bool, true, false, cond, ◌||◌, List, [], ◌∷◌, Option, Some, None, refl, ap, ◌∙◌, length}
use Rattle.std.specs.Prelude.{codes, slice_get}
use Rattle.std.specs.Str.{bytes_eq, chars}
use Rattle.clap.specs.Lexer.{long_of, short_of}
use Rattle.clap.specs.Walk.{Rule, Row, Held, Walk, Waiting, idle, option, positional, Text, walked, settled, settled_rows, finished, used, has_row, with_default}
use Rattle.clap.specs.Simple.{Shape, filled, with_index, filled_from, built_leaf, inherited}
use Rattle.clap.specs.Kinds.{Kinds, or_else}
use Rattle.clap.specs.Faults.{turn_fault, settle_fault, defaults_fault, flags_fault, check_fault}
use Rattle.tool_words.specs.Line.{places_rule, threads_rule, seed_rule, shape_named, bare_line}

-- the shape of a command's line, built
abbrev pub leaf : Text → Shape
leaf name = built_leaf (inherited bare_line.top (shape_named name))

abbrev pub rules : List Rule
rules = filled_from 1 (places_rule ∷ threads_rule ∷ seed_rule ∷ [])

pub leaf_rules : (name : Text) → (leaf name).rules ≡ rules
unfolding bare_line shape_named
leaf_rules name = refl

-- what waits to be settled: nothing, a positional word, or a value of `--seed`
pub data Pending : Type 0 where
  nothing : Pending
  a_place : Text → Pending
  a_seed : Text → Pending

abbrev pub pending : Pending → Option (Text × List Text)
pending nothing = None
pending (a_place word) = Some (codes "words", word ∷ [])
pending (a_seed s) = Some (codes "seed", s ∷ [])

abbrev pub wanted : Option (Text × List Text)
wanted = Some (codes "seed", [])

-- nothing waits for a value
abbrev pub calm : Bool → Waiting
calm true = idle
calm false = positional

abbrev pub at : List Row → Option (Text × List Text) → Waiting → Bool → Walk
at rows p waiting trailing = record { held = record { rows = rows; pending = p; skip = 0 }; waiting = waiting; position = 1; is_trailing = trailing; stopped = None }

abbrev pub settle : Pending → List Row → List Row
settle p rows = settled_rows rules (pending p) rows

abbrev pub fine : Kinds → Bool
fine [] = true
fine (k ∷ ks) = false

-- ---- where a walk goes

pub place_walked : (rows : List Row) (p : Pending) (f : Bool) (x : Text) → bytes_eq x (45 ∷ 45 ∷ []) ≡ false → long_of x ≡ None → short_of x ≡ None
    → walked rules [] (at rows (pending p) (calm f) false) x ≡ at (settle p rows) (pending (a_place x)) positional false
unfolding walked
place_walked rows nothing true x e1 e2 e3 = rw (e1, e2, e3) refl
place_walked rows nothing false x e1 e2 e3 = rw (e1, e2, e3) refl
place_walked rows (a_place w) true x e1 e2 e3 = rw (e1, e2, e3) refl
place_walked rows (a_place w) false x e1 e2 e3 = rw (e1, e2, e3) refl
place_walked rows (a_seed w) true x e1 e2 e3 = rw (e1, e2, e3) refl
place_walked rows (a_seed w) false x e1 e2 e3 = rw (e1, e2, e3) refl

pub end_walked : (rows : List Row) (p : Option (Text × List Text)) (f : Waiting) (x : Text) → bytes_eq x (45 ∷ 45 ∷ []) ≡ true
    → walked rules [] (at rows p f false) x ≡ at rows p f true
unfolding walked
end_walked rows p idle x e1 = rw e1 refl
end_walked rows p (option id) x e1 = rw e1 refl
end_walked rows p positional x e1 = rw e1 refl

pub threads_walked : (rows : List Row) (p : Pending) (f : Bool) (x n : Text) → bytes_eq x (45 ∷ 45 ∷ []) ≡ false → long_of x ≡ Some (n, None) → bytes_eq (codes "threads") n ≡ true
    → walked rules [] (at rows (pending p) (calm f) false) x ≡ at (used (filled threads_rule) [] (settle p rows)) None idle false
unfolding walked
threads_walked rows p true x n e1 e2 e3 = rw (e1, e2, e3) refl
threads_walked rows p false x n e1 e2 e3 = rw (e1, e2, e3) refl

pub seed_walked : (rows : List Row) (p : Pending) (f : Bool) (x n : Text) → bytes_eq x (45 ∷ 45 ∷ []) ≡ false → long_of x ≡ Some (n, None) → bytes_eq (codes "threads") n ≡ false → bytes_eq (codes "seed") n ≡ true
    → walked rules [] (at rows (pending p) (calm f) false) x ≡ at (settle p rows) wanted (option (codes "seed")) false
unfolding walked
seed_walked rows p true x n e1 e2 e3 e4 = rw (e1, e2, e3, e4) refl
seed_walked rows p false x n e1 e2 e3 e4 = rw (e1, e2, e3, e4) refl

pub seed_is_walked : (rows : List Row) (p : Pending) (f : Bool) (x n s : Text) → bytes_eq x (45 ∷ 45 ∷ []) ≡ false → long_of x ≡ Some (n, Some s) → bytes_eq (codes "threads") n ≡ false → bytes_eq (codes "seed") n ≡ true
    → walked rules [] (at rows (pending p) (calm f) false) x ≡ at (used (filled seed_rule) (s ∷ []) (settle p rows)) None idle false
unfolding walked
seed_is_walked rows p true x n s e1 e2 e3 e4 = rw (e1, e2, e3, e4) refl
seed_is_walked rows p false x n s e1 e2 e3 e4 = rw (e1, e2, e3, e4) refl

-- the word behind `--seed`
pub value_walked : (rows : List Row) (x : Text) → bytes_eq x (45 ∷ 45 ∷ []) ≡ false → long_of x ≡ None → short_of x ≡ None
    → walked rules [] (at rows wanted (option (codes "seed")) false) x ≡ at rows (pending (a_seed x)) idle false
unfolding walked
value_walked rows x e1 e2 e3 = rw (e1, e2, e3) refl

-- a word behind `--`
pub trailing_walked : (rows : List Row) (p : Pending) (w : Waiting) (x : Text)
    → walked rules [] (at rows (pending p) w true) x ≡ at (settle p rows) (pending (a_place x)) positional true
unfolding walked
trailing_walked rows nothing w x = refl
trailing_walked rows (a_place y) w x = refl
trailing_walked rows (a_seed y) w x = refl

-- ---- what is refused

pub settles : (p : Pending) (rows : List Row) → settle_fault rules false (record { rows = rows; pending = pending p; skip = 0 }) ≡ []
settles nothing rows = refl
settles (a_place w) rows = refl
settles (a_seed w) rows = refl

pub place_fine : (name : Text) (rows : List Row) (p : Pending) (f : Bool) (x : Text) → bytes_eq x (45 ∷ 45 ∷ []) ≡ false → long_of x ≡ None → short_of x ≡ None
    → turn_fault (leaf name) [] (at rows (pending p) (calm f) false) x ≡ []
unfolding bare_line shape_named
place_fine name rows nothing true x e1 e2 e3 = rw (e1, e2, e3) refl
place_fine name rows nothing false x e1 e2 e3 = rw (e1, e2, e3) refl
place_fine name rows (a_place w) true x e1 e2 e3 = rw (e1, e2, e3) refl
place_fine name rows (a_place w) false x e1 e2 e3 = rw (e1, e2, e3) refl
place_fine name rows (a_seed w) true x e1 e2 e3 = rw (e1, e2, e3) refl
place_fine name rows (a_seed w) false x e1 e2 e3 = rw (e1, e2, e3) refl

pub end_fine : (name : Text) (rows : List Row) (p : Option (Text × List Text)) (f : Waiting) (x : Text) → bytes_eq x (45 ∷ 45 ∷ []) ≡ true
    → turn_fault (leaf name) [] (at rows p f false) x ≡ []
unfolding bare_line shape_named
end_fine name rows p idle x e1 = rw e1 refl
end_fine name rows p (option id) x e1 = rw e1 refl
end_fine name rows p positional x e1 = rw e1 refl

pub value_fine : (name : Text) (rows : List Row) (x : Text) → bytes_eq x (45 ∷ 45 ∷ []) ≡ false → long_of x ≡ None → short_of x ≡ None
    → turn_fault (leaf name) [] (at rows wanted (option (codes "seed")) false) x ≡ []
unfolding bare_line shape_named
value_fine name rows x e1 e2 e3 = rw (e1, e2, e3) refl

pub trailing_fine : (name : Text) (rows : List Row) (p : Pending) (w : Waiting) (x : Text)
    → turn_fault (leaf name) [] (at rows (pending p) w true) x ≡ []
unfolding bare_line shape_named
trailing_fine name rows nothing w x = refl
trailing_fine name rows (a_place y) w x = refl
trailing_fine name rows (a_seed y) w x = refl

pub seed_fine : (name : Text) (rows : List Row) (p : Pending) (f : Bool) (x n : Text) → bytes_eq x (45 ∷ 45 ∷ []) ≡ false → long_of x ≡ Some (n, None) → bytes_eq (codes "threads") n ≡ false → bytes_eq (codes "seed") n ≡ true
    → turn_fault (leaf name) [] (at rows (pending p) (calm f) false) x ≡ []
unfolding bare_line shape_named
seed_fine name rows nothing true x n e1 e2 e3 e4 = rw (e1, e2, e3, e4) refl
seed_fine name rows nothing false x n e1 e2 e3 e4 = rw (e1, e2, e3, e4) refl
seed_fine name rows (a_place w) true x n e1 e2 e3 e4 = rw (e1, e2, e3, e4) refl
seed_fine name rows (a_place w) false x n e1 e2 e3 e4 = rw (e1, e2, e3, e4) refl
seed_fine name rows (a_seed w) true x n e1 e2 e3 e4 = rw (e1, e2, e3, e4) refl
seed_fine name rows (a_seed w) false x n e1 e2 e3 e4 = rw (e1, e2, e3, e4) refl

pub seed_is_fine : (name : Text) (rows : List Row) (p : Pending) (f : Bool) (x n s : Text) → bytes_eq x (45 ∷ 45 ∷ []) ≡ false → long_of x ≡ Some (n, Some s) → bytes_eq (codes "threads") n ≡ false → bytes_eq (codes "seed") n ≡ true
    → turn_fault (leaf name) [] (at rows (pending p) (calm f) false) x ≡ []
unfolding bare_line shape_named
seed_is_fine name rows nothing true x n s e1 e2 e3 e4 = rw (e1, e2, e3, e4) refl
seed_is_fine name rows nothing false x n s e1 e2 e3 e4 = rw (e1, e2, e3, e4) refl
seed_is_fine name rows (a_place w) true x n s e1 e2 e3 e4 = rw (e1, e2, e3, e4) refl
seed_is_fine name rows (a_place w) false x n s e1 e2 e3 e4 = rw (e1, e2, e3, e4) refl
seed_is_fine name rows (a_seed w) true x n s e1 e2 e3 e4 = rw (e1, e2, e3, e4) refl
seed_is_fine name rows (a_seed w) false x n s e1 e2 e3 e4 = rw (e1, e2, e3, e4) refl

pub threads_fine : (name : Text) (rows : List Row) (p : Pending) (f : Bool) (x n : Text) → bytes_eq x (45 ∷ 45 ∷ []) ≡ false → long_of x ≡ Some (n, None) → bytes_eq (codes "threads") n ≡ true
    → has_row (codes "threads") (settle p rows) ≡ false → turn_fault (leaf name) [] (at rows (pending p) (calm f) false) x ≡ []
unfolding bare_line shape_named
threads_fine name rows nothing true x n e1 e2 e3 e4 = rw (e1, e2, e3, e4) refl
threads_fine name rows nothing false x n e1 e2 e3 e4 = rw (e1, e2, e3, e4) refl
threads_fine name rows (a_place w) true x n e1 e2 e3 e4 = rw (e1, e2, e3, e4) refl
threads_fine name rows (a_place w) false x n e1 e2 e3 e4 = rw (e1, e2, e3, e4) refl
threads_fine name rows (a_seed w) true x n e1 e2 e3 e4 = rw (e1, e2, e3, e4) refl
threads_fine name rows (a_seed w) false x n e1 e2 e3 e4 = rw (e1, e2, e3, e4) refl

pub threads_twice : (name : Text) (rows : List Row) (p : Pending) (f : Bool) (x n : Text) → bytes_eq x (45 ∷ 45 ∷ []) ≡ false → long_of x ≡ Some (n, None) → bytes_eq (codes "threads") n ≡ true
    → has_row (codes "threads") (settle p rows) ≡ true → fine (turn_fault (leaf name) [] (at rows (pending p) (calm f) false) x) ≡ false
unfolding bare_line shape_named
threads_twice name rows nothing true x n e1 e2 e3 e4 = rw (e1, e2, e3, e4) refl
threads_twice name rows nothing false x n e1 e2 e3 e4 = rw (e1, e2, e3, e4) refl
threads_twice name rows (a_place w) true x n e1 e2 e3 e4 = rw (e1, e2, e3, e4) refl
threads_twice name rows (a_place w) false x n e1 e2 e3 e4 = rw (e1, e2, e3, e4) refl
threads_twice name rows (a_seed w) true x n e1 e2 e3 e4 = rw (e1, e2, e3, e4) refl
threads_twice name rows (a_seed w) false x n e1 e2 e3 e4 = rw (e1, e2, e3, e4) refl

-- an option that no command has
pub unknown_refused : (name : Text) (rows : List Row) (p : Option (Text × List Text)) (w : Waiting) (x n : Text) (v : Option Text) → bytes_eq x (45 ∷ 45 ∷ []) ≡ false → long_of x ≡ Some (n, v) → bytes_eq (codes "threads") n ≡ false → bytes_eq (codes "seed") n ≡ false
    → fine (turn_fault (leaf name) [] (at rows p w false) x) ≡ false
unfolding bare_line shape_named
unknown_refused name rows p idle x n v e1 e2 e3 e4 = rw (e1, e2, e3, e4) refl
unknown_refused name rows p (option id) x n v e1 e2 e3 e4 = rw (e1, e2, e3, e4) refl
unknown_refused name rows p positional x n v e1 e2 e3 e4 = rw (e1, e2, e3, e4) refl

-- `--threads=` with a text or none
pub threads_is_refused : (name : Text) (rows : List Row) (p : Option (Text × List Text)) (w : Waiting) (x n s : Text) → bytes_eq x (45 ∷ 45 ∷ []) ≡ false → long_of x ≡ Some (n, Some s) → bytes_eq (codes "threads") n ≡ true
    → fine (turn_fault (leaf name) [] (at rows p w false) x) ≡ false
unfolding bare_line shape_named
threads_is_refused name rows p idle x n s e1 e2 e3 = rw (e1, e2, e3) refl
threads_is_refused name rows p (option id) x n s e1 e2 e3 = rw (e1, e2, e3) refl
threads_is_refused name rows p positional x n s e1 e2 e3 = rw (e1, e2, e3) refl

-- a minus with a first character behind it
pub short_refused : (name : Text) (rows : List Row) (p : Option (Text × List Text)) (w : Waiting) (x flags : Text) (f : ℕ) (k : ℕ) → bytes_eq x (45 ∷ 45 ∷ []) ≡ false → long_of x ≡ None → short_of x ≡ Some flags → slice_get (chars flags) 0 ≡ Some f → length flags ≡ suc k
    → fine (turn_fault (leaf name) [] (at rows p w false) x) ≡ false
unfolding bare_line shape_named flags_fault
short_refused name rows p idle x flags f k e1 e2 e3 e4 e5 = rw (e1, e2, e3, e5, e4) refl
short_refused name rows p (option id) x flags f k e1 e2 e3 e4 e5 = rw (e1, e2, e3, e5, e4) refl
short_refused name rows p positional x flags f k e1 e2 e3 e4 e5 = rw (e1, e2, e3, e5, e4) refl

-- an option where the value of `--seed` is wanted
value_by_name : (name : Text) (rows : List Row) (x n : Text) (t s : Bool) (v : Option Text) → bytes_eq x (45 ∷ 45 ∷ []) ≡ false → long_of x ≡ Some (n, v) → bytes_eq (codes "threads") n ≡ t → bytes_eq (codes "seed") n ≡ s → fine (turn_fault (leaf name) [] (at rows wanted (option (codes "seed")) false) x) ≡ false
unfolding bare_line shape_named
value_by_name name rows x n true s None e1 e2 e3 e4 = rw (e1, e2, e3) refl
value_by_name name rows x n true s (Some u) e1 e2 e3 e4 = rw (e1, e2, e3) refl
value_by_name name rows x n false true None e1 e2 e3 e4 = rw (e1, e2, e3, e4) refl
value_by_name name rows x n false true (Some u) e1 e2 e3 e4 = rw (e1, e2, e3, e4) refl
value_by_name name rows x n false false v e1 e2 e3 e4 = rw (e1, e2, e3, e4) refl

pub value_refused : (name : Text) (rows : List Row) (x n : Text) (v : Option Text) → bytes_eq x (45 ∷ 45 ∷ []) ≡ false → long_of x ≡ Some (n, v)
    → fine (turn_fault (leaf name) [] (at rows wanted (option (codes "seed")) false) x) ≡ false
value_refused name rows x n v e1 e2 = value_by_name name rows x n _ _ v e1 e2 refl refl

-- a word behind `--` where the value of `--seed` was wanted
pub late_refused : (name : Text) (rows : List Row) (w : Waiting) (x : Text)
    → fine (turn_fault (leaf name) [] (at rows wanted w true) x) ≡ false
unfolding bare_line shape_named
late_refused name rows w x = refl

-- ---- the end of the words

abbrev pub end_fault : Text → Held → Kinds
end_fault name h = or_else (settle_fault rules false h) (or_else (defaults_fault (settled rules h).rows rules) (check_fault (leaf name) (finished rules h) false))

-- the value of `--seed` is wanted
pub want_ends : (name : Text) (rows : List Row) (w : Waiting) (t : Bool) → fine (end_fault name (at rows wanted w t).held) ≡ false
want_ends name rows w t = refl

past : (a b : Kinds) → a ≡ [] → or_else a b ≡ b
past [] b e = refl
past (k ∷ ks) b e = absurd cc

same_kinds : (b : Bool) → cond {A = Kinds} b [] [] ≡ []
same_kinds true = refl
same_kinds false = refl

either_kinds : (b c : Bool) → cond {A = Kinds} (b || c) [] [] ≡ []
either_kinds true c = refl
either_kinds false c = same_kinds c

defaults_fine : (rows : List Row) → defaults_fault rows rules ≡ []
unfolding defaults_fault
defaults_fine rows =
    let more : List Row = with_default rows (with_index 1 (filled places_rule)) in
    past _ _ (either_kinds (has_row (codes "words") rows) true) ∙ past _ _ (either_kinds (has_row (codes "threads") more) false)
    ∙ past _ _ (either_kinds (has_row (codes "seed") (with_default more (filled threads_rule))) true)

pub calm_ends : (name : Text) (rows : List Row) (p : Pending) (w : Waiting) (t : Bool) → fine (end_fault name (at rows (pending p) w t).held) ≡ true
unfolding bare_line shape_named
calm_ends name rows p w t = ap fine (past _ _ (settles p rows) ∙ past _ _ (defaults_fine (settle p rows)))
