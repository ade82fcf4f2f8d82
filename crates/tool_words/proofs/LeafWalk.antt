-- What `clap` makes of all the words behind a command: they are refused, or their rows show what the words give.
use Rattle.std.proofs.Common.{◌≡◌, ℕ, suc, zero, ◌+◌, ◌≤◌, Bool, true, false, cond, nat_le, List, [], ◌∷◌, ◌++◌, Option, Some, None, refl, sym, ap, ap₂, ◌∙◌, subst, arith, append_assoc, inl, inr, ◌⊎◌}
use Rattle.std.specs.Prelude.{codes, fold, is_some}
use Rattle.std.specs.Str.{bytes_eq, IsUtf8}
use Rattle.std.proofs.lemmas.Bool.{le-leb, lt-leb}
use Rattle.std.proofs.lemmas.List.{append-nil}
use Rattle.std.proofs.lemmas.Slice.Eq.{bytes_eq-Decides}
use Rattle.clap.specs.Lexer.{long_of, short_of}
use Rattle.clap.specs.Walk.{Row, Walk, Waiting, option, positional, walked, settled, used, has_row}
use Rattle.clap.specs.Simple.{filled}
use Rattle.clap.specs.Kinds.{Kinds, or_else}
use Rattle.clap.specs.Faults.{turn_fault, walk_fault}
use Rattle.tool_words.specs.Line.{threads_rule, seed_rule, shape_named, bare_line}
use Rattle.tool_words.specs.Given.{Text, Kind, place, threads, seed, seed_is, odd, option_kind, kind_of, Given, only_places, with_place, with_threads, with_seed, with_word}
use Rattle.tool_words.proofs.LeafRules.{leaf, rules, Pending, nothing, a_place, a_seed, pending, wanted, calm, at, settle, fine, end_fault, place_walked, end_walked, threads_walked, seed_walked, seed_is_walked, value_walked, trailing_walked, place_fine, end_fine, value_fine, trailing_fine, seed_fine, seed_is_fine, threads_fine, threads_twice, unknown_refused, threads_is_refused, short_refused, value_refused, late_refused, want_ends, calm_ends}
use Rattle.tool_words.proofs.Rows.{Shows, has_row_is, flag_row, shows_place, shows_seed, shows_threads}
use Rattle.tool_words.proofs.Looks.{Look, looks_place, looks_end, looks_long, looks_short, look, dashes}

-- ---- the words sorted as `clap` sorts them: an option isn't the value of `--seed`

abbrev pub value_taken : Kind → Text → Option Given → Option Given
value_taken place v others = with_seed v others
value_taken _ v others = None

unfoldable pub cut_from : (is_value : Bool) → List Text → Option Given
cut_from false [] = Some (only_places [])
cut_from true [] = None
cut_from true (v ∷ others) = value_taken (kind_of v) v (cut_from false others)
cut_from false (word ∷ others) = with_word (kind_of word) word others (cut_from false others) (cut_from true others)

-- what was given before, and what the words behind it give; `--threads` stands once at most
abbrev pub merged : Given → Option Given → Option Given
merged g None = None
merged g (Some k) = cond (nat_le (g.threads + k.threads) 1) (Some (record { places = g.places ++ k.places; threads = g.threads + k.threads; seeds = g.seeds ++ k.seeds })) None

chosen : {X : Type 0} (b : Bool) (x : X) → b ≡ true → cond b (Some x) None ≡ Some x
chosen true x e = refl
chosen false x e = absurd cc

passed_over : {X : Type 0} (b : Bool) (x : X) → b ≡ false → cond b (Some x) None ≡ None
passed_over false x e = refl
passed_over true x e = absurd cc

merged_end : (g : Given) (ws : List Text) → g.threads ≤ 1 → merged g (Some (only_places ws)) ≡ Some (record g { places = g.places ++ ws })
merged_end g ws l =
    let same : g.threads + 0 ≡ g.threads = omega arith in
    chosen _ _ (le-leb (g.threads + 0) 1 (omega arith)) ∙ ap₂ (λ t s. Some (record { places = g.places ++ ws; threads = t; seeds = s })) same (append-nil g.seeds)

merged_place : (g : Given) (x : Text) (o : Option Given) → merged (record g { places = g.places ++ x ∷ [] }) o ≡ merged g (with_place x o)
merged_place g x None = refl
merged_place g x (Some k) = rw (append_assoc g.places (x ∷ []) k.places) refl

merged_seed : (g : Given) (x : Text) (o : Option Given) → merged (record g { seeds = g.seeds ++ x ∷ [] }) o ≡ merged g (with_seed x o)
merged_seed g x None = refl
merged_seed g x (Some k) = rw (append_assoc g.seeds (x ∷ []) k.seeds) refl

merged_threads : (g : Given) (o : Option Given) → g.threads ≡ 0 → merged (record g { threads = 1 }) o ≡ merged g (with_threads o)
merged_threads g None e = refl
merged_threads g (Some k) e =
    let same : 1 + k.threads ≡ g.threads + (k.threads + 1) = omega arith in
    rw same refl

merged_twice : (g : Given) (n : ℕ) (o : Option Given) → g.threads ≡ suc n → merged g (with_threads o) ≡ None
merged_twice g n None e = refl
merged_twice g n (Some k) e = passed_over _ _ (lt-leb (g.threads + (k.threads + 1)) 1 (omega arith))

-- ---- where a walk ends

abbrev pub ended : Walk → List Text → Walk
ended w ws = fold (walked rules []) w ws

unfoldable pub total : Text → Walk → List Text → Kinds
total name w ws = or_else (walk_fault (leaf name) [] w ws) (end_fault name (ended w ws).held)

abbrev pub Ends : Text → Walk → List Text → Option Given → Type 0
Ends name w ws None = fine (total name w ws) ≡ false
Ends name w ws (Some k) = (fine (total name w ws) ≡ true) × Shows (settled rules (ended w ws).held).rows k

after_turn : Text → List Text → Kinds → Walk → Kinds
after_turn name ws k v = or_else (or_else k (walk_fault (leaf name) [] v ws)) (end_fault name (ended v ws).held)

total_next : (name : Text) (w : Walk) (x : Text) (ws : List Text) → total name w (x ∷ ws) ≡ after_turn name ws (turn_fault (leaf name) [] w x) (walked rules [] w x)
unfolding total walk_fault after_turn bare_line shape_named
total_next name w x ws = refl

total_goes : (name : Text) (w v : Walk) (x : Text) (ws : List Text) → turn_fault (leaf name) [] w x ≡ [] → walked rules [] w x ≡ v → total name w (x ∷ ws) ≡ total name v ws
unfolding total after_turn
total_goes name w v x ws e f = total_next name w x ws ∙ ap₂ (after_turn name ws) e f

goes : (name : Text) (w v : Walk) (x : Text) (ws : List Text) (o : Option Given) → turn_fault (leaf name) [] w x ≡ [] → walked rules [] w x ≡ v → Ends name v ws o → Ends name w (x ∷ ws) o
goes name w v x ws None e f h = ap fine (total_goes name w v x ws e f) ∙ h
goes name w v x ws (Some k) e f h = (ap fine (total_goes name w v x ws e f) ∙ h.0, subst (λ (u : Walk). Shows (settled rules (ended u ws).held).rows k) (sym f) h.1)

not_fine : (k a b : Kinds) → fine k ≡ false → fine (or_else (or_else k a) b) ≡ false
not_fine [] a b e = absurd cc
not_fine (x ∷ xs) a b e = refl

stops : (name : Text) (w : Walk) (x : Text) (ws : List Text) → fine (turn_fault (leaf name) [] w x) ≡ false → Ends name w (x ∷ ws) None
unfolding after_turn
stops name w x ws e = ap fine (total_next name w x ws) ∙ not_fine (turn_fault (leaf name) [] w x) _ _ e

ends_as : (name : Text) (w : Walk) (ws : List Text) (a b : Option Given) → a ≡ b → Ends name w ws a → Ends name w ws b
ends_as name w ws a b e h = subst (λ (o : Option Given). Ends name w ws o) e h

-- ---- behind `--`

abbrev pub AllUtf8 : List Text → Type 0
AllUtf8 [] = Unit {0}
AllUtf8 (x ∷ xs) = IsUtf8 x × AllUtf8 xs

trails : (name : Text) (ws : List Text) (rows : List Row) (p : Pending) (w : Waiting) (g : Given) → Shows (settle p rows) g → Ends name (at rows (pending p) w true) ws (Some (record g { places = g.places ++ ws }))
unfolding total walk_fault
trails name [] rows p w g h = (calm_ends name rows p w true, subst (λ (t : List Text). Shows (settle p rows) (record g { places = t })) (sym (append-nil g.places)) h)
trails name (x ∷ ws) rows p w g h =
    let ih = trails name ws (settle p rows) (a_place x) positional (record g { places = g.places ++ x ∷ [] }) (shows_place (settle p rows) g x h) in
    let v : Walk = at (settle p rows) (pending (a_place x)) positional true in
    let o : Option Given = Some (record g { places = g.places ++ (x ∷ ws) }) in
    goes name (at rows (pending p) w true) v x ws o (trailing_fine name rows p w x) (trailing_walked rows p w x)
    (ends_as name v ws (Some (record g { places = (g.places ++ x ∷ []) ++ ws })) o (ap (λ t. Some (record g { places = t })) (append_assoc g.places (x ∷ []) ws)) ih)

-- the value of `--seed` is missing
lacks : (name : Text) (ws : List Text) (rows : List Row) (w : Waiting) (t : Bool) → (t ≡ true) ⊎ (ws ≡ []) → Ends name (at rows wanted w t) ws None
unfolding total walk_fault
lacks name [] rows w t h = want_ends name rows w t
lacks name (x ∷ ws) rows w true h = stops name (at rows wanted w true) x ws (late_refused name rows w x)
lacks name (x ∷ ws) rows w false h = elim h [ inl e ↦ absurd cc | inr e ↦ absurd cc ]

-- ---- where options are looked for

-- the next word is one of its own, or the value of `--seed`
pub data Mode : Type 0 where
  own : Pending → Bool → Mode
  valued : Mode

abbrev pub wants : Mode → Bool
wants (own p f) = false
wants valued = true

abbrev pub stands : Mode → List Row → Walk
stands (own p f) rows = at rows (pending p) (calm f) false
stands valued rows = at rows wanted (option (codes "seed")) false

abbrev pub rows_at : Mode → List Row → List Row
rows_at (own p f) rows = settle p rows
rows_at valued rows = rows

-- what holds of the words behind
abbrev pub Holds : Text → List Text → Type 0
Holds name ws = (m : Mode) (rows : List Row) (g : Given) → Shows (rows_at m rows) g → g.threads ≤ 1 → Ends name (stands m rows) ws (merged g (cut_from (wants m) ws))

cut_next : (x : Text) (ws : List Text) (k : Kind) → kind_of x ≡ k → cut_from false (x ∷ ws) ≡ with_word k x ws (cut_from false ws) (cut_from true ws)
unfolding cut_from
cut_next x ws k e = ap (λ (k : Kind). with_word k x ws (cut_from false ws) (cut_from true ws)) e

cut_value : (x : Text) (ws : List Text) (k : Kind) → kind_of x ≡ k → cut_from true (x ∷ ws) ≡ value_taken k x (cut_from false ws)
unfolding cut_from
cut_value x ws k e = ap (λ (k : Kind). value_taken k x (cut_from false ws)) e

cut_as : (name : Text) (w : Walk) (ws : List Text) (g : Given) (a b : Option Given) → a ≡ b → Ends name w ws (merged g b) → Ends name w ws (merged g a)
cut_as name w ws g a b e h = ends_as name w ws (merged g b) (merged g a) (ap (merged g) (sym e)) h

-- no option
by_place : (name : Text) (x : Text) (ws : List Text) → Holds name ws → bytes_eq x dashes ≡ false → long_of x ≡ None → short_of x ≡ None → (p : Pending) (f : Bool) (rows : List Row) (g : Given) → Shows (settle p rows) g → g.threads ≤ 1 → Ends name (at rows (pending p) (calm f) false) (x ∷ ws) (merged g (with_place x (cut_from false ws)))
by_place name x ws ih e1 e2 e3 p f rows g h l =
    goes name _ _ x ws _ (place_fine name rows p f x e1 e2 e3) (place_walked rows p f x e1 e2 e3)
    (ends_as name _ ws _ _ (merged_place g x (cut_from false ws)) (ih (own (a_place x) false) (settle p rows) (record g { places = g.places ++ x ∷ [] }) (shows_place (settle p rows) g x h) l))

-- `--threads`
by_threads : (name : Text) (x n : Text) (ws : List Text) → Holds name ws → bytes_eq x dashes ≡ false → long_of x ≡ Some (n, None) → bytes_eq (codes "threads") n ≡ true → (p : Pending) (f : Bool) (rows : List Row) (g : Given) → Shows (settle p rows) g → g.threads ≤ 1 → (t : ℕ) → g.threads ≡ t → Ends name (at rows (pending p) (calm f) false) (x ∷ ws) (merged g (with_threads (cut_from false ws)))
by_threads name x n ws ih e1 e2 e3 p f rows g h l zero none =
    let absent : has_row (codes "threads") (settle p rows) ≡ false = has_row_is (codes "threads") (settle p rows) ∙ ap is_some (h.threads ∙ ap flag_row none) in
    goes name _ _ x ws _ (threads_fine name rows p f x n e1 e2 e3 absent) (threads_walked rows p f x n e1 e2 e3)
    (ends_as name _ ws _ _ (merged_threads g (cut_from false ws) none) (ih (own nothing true) (used (filled threads_rule) [] (settle p rows)) (record g { threads = 1 }) (shows_threads (settle p rows) g none h) (omega arith)))
by_threads name x n ws ih e1 e2 e3 p f rows g h l (suc t) once =
    let present : has_row (codes "threads") (settle p rows) ≡ true = has_row_is (codes "threads") (settle p rows) ∙ ap is_some (h.threads ∙ ap flag_row once) in
    ends_as name _ (x ∷ ws) _ _ (sym (merged_twice g t (cut_from false ws) once)) (stops name _ x ws (threads_twice name rows p f x n e1 e2 e3 present))

two_names : (n : Text) → bytes_eq (codes "threads") n ≡ true → bytes_eq (codes "seed") n ≡ true → ⊥
two_names n e f = let same : codes "threads" ≡ codes "seed" = (bytes_eq-Decides (codes "threads") n).0 e ∙ sym ((bytes_eq-Decides (codes "seed") n).0 f) in cc

-- `--NAME` or `--NAME=VALUE`
by_long : (name : Text) (x n : Text) (v : Option Text) (ws : List Text) → Holds name ws → bytes_eq x dashes ≡ false → long_of x ≡ Some (n, v) → (t s : Bool) → bytes_eq (codes "threads") n ≡ t → bytes_eq (codes "seed") n ≡ s → (p : Pending) (f : Bool) (rows : List Row) (g : Given) → Shows (settle p rows) g → g.threads ≤ 1 → Ends name (at rows (pending p) (calm f) false) (x ∷ ws) (merged g (with_word (option_kind n v) x ws (cut_from false ws) (cut_from true ws)))
by_long name x n None ws ih e1 e2 true s e3 e4 p f rows g h l = rw e3 (by_threads name x n ws ih e1 e2 e3 p f rows g h l g.threads refl)
by_long name x n None ws ih e1 e2 false true e3 e4 p f rows g h l =
    rw (e3, e4) (goes name _ _ x ws _ (seed_fine name rows p f x n e1 e2 e3 e4) (seed_walked rows p f x n e1 e2 e3 e4) (ih valued (settle p rows) g h l))
by_long name x n None ws ih e1 e2 false false e3 e4 p f rows g h l =
    rw (e3, e4) (stops name _ x ws (unknown_refused name rows (pending p) (calm f) x n None e1 e2 e3 e4))
by_long name x n (Some u) ws ih e1 e2 true false e3 e4 p f rows g h l =
    rw e4 (stops name _ x ws (threads_is_refused name rows (pending p) (calm f) x n u e1 e2 e3))
by_long name x n (Some u) ws ih e1 e2 true true e3 e4 p f rows g h l = absurd (two_names n e3 e4)
by_long name x n (Some u) ws ih e1 e2 false true e3 e4 p f rows g h l =
    rw e4 (goes name _ _ x ws _ (seed_is_fine name rows p f x n u e1 e2 e3 e4) (seed_is_walked rows p f x n u e1 e2 e3 e4)
    (ends_as name _ ws _ _ (merged_seed g u (cut_from false ws)) (ih (own nothing true) (used (filled seed_rule) (u ∷ []) (settle p rows)) (record g { seeds = g.seeds ++ u ∷ [] }) (shows_seed (settle p rows) g u h) l)))
by_long name x n (Some u) ws ih e1 e2 false false e3 e4 p f rows g h l =
    rw e4 (stops name _ x ws (unknown_refused name rows (pending p) (calm f) x n (Some u) e1 e2 e3 e4))

-- a word of its own
by_own : (name : Text) (x : Text) (ws : List Text) → Holds name ws → Look x → (p : Pending) (f : Bool) (rows : List Row) (g : Given) → Shows (settle p rows) g → g.threads ≤ 1 → Ends name (at rows (pending p) (calm f) false) (x ∷ ws) (merged g (cut_from false (x ∷ ws)))
by_own name x ws ih (looks_place k e1 e2 e3) p f rows g h l = cut_as name _ _ g _ _ (cut_next x ws _ k) (by_place name x ws ih e1 e2 e3 p f rows g h l)
by_own name x ws ih (looks_end k e1) p f rows g h l =
    cut_as name _ _ g _ _ (cut_next x ws _ k) (ends_as name _ _ _ _ (sym (merged_end g ws l))
    (goes name _ (at rows (pending p) (calm f) true) x ws (Some (record g { places = g.places ++ ws })) (end_fine name rows (pending p) (calm f) x e1) (end_walked rows (pending p) (calm f) x e1) (trails name ws rows p (calm f) g h)))
by_own name x ws ih (looks_long n v k e1 e2) p f rows g h l = cut_as name _ _ g _ _ (cut_next x ws _ k) (by_long name x n v ws ih e1 e2 _ _ refl refl p f rows g h l)
by_own name x ws ih (looks_short flags c k kind e1 e2 e3 e4 e5) p f rows g h l =
    cut_as name _ _ g _ _ (cut_next x ws _ kind) (stops name _ x ws (short_refused name rows (pending p) (calm f) x flags c k e1 e2 e3 e4 e5))

-- no value of `--seed` is an option
not_taken : (n x : Text) (v : Option Text) (o : Option Given) → value_taken (option_kind n v) x o ≡ None
not_taken n x None o = elim (bytes_eq (codes "threads") n) as (λ t. value_taken (cond t threads (cond (bytes_eq (codes "seed") n) seed odd)) x o ≡ None) [
  | true ↦ refl
  | false ↦ elim (bytes_eq (codes "seed") n) as (λ t. value_taken (cond t seed odd) x o ≡ None) [ true ↦ refl | false ↦ refl ]
]
not_taken n x (Some s) o = elim (bytes_eq (codes "seed") n) as (λ t. value_taken (cond t (seed_is s) odd) x o ≡ None) [ true ↦ refl | false ↦ refl ]

by_value : (name : Text) (x : Text) (ws : List Text) → Holds name ws → Look x → (rows : List Row) (g : Given) → Shows rows g → g.threads ≤ 1 → Ends name (stands valued rows) (x ∷ ws) (merged g (cut_from true (x ∷ ws)))
by_value name x ws ih (looks_place k e1 e2 e3) rows g h l =
    cut_as name _ _ g _ _ (cut_value x ws _ k) (goes name _ _ x ws _ (value_fine name rows x e1 e2 e3) (value_walked rows x e1 e2 e3)
    (ends_as name _ ws _ _ (merged_seed g x (cut_from false ws)) (ih (own (a_seed x) true) rows (record g { seeds = g.seeds ++ x ∷ [] }) (shows_seed rows g x h) l)))
by_value name x ws ih (looks_end k e1) rows g h l =
    cut_as name _ _ g _ _ (cut_value x ws _ k) (goes name _ (at rows wanted (option (codes "seed")) true) x ws None (end_fine name rows wanted (option (codes "seed")) x e1) (end_walked rows wanted (option (codes "seed")) x e1) (lacks name ws rows (option (codes "seed")) true (inl refl)))
by_value name x ws ih (looks_long n v k e1 e2) rows g h l =
    cut_as name _ _ g _ _ (cut_value x ws _ k ∙ not_taken n x v (cut_from false ws)) (stops name _ x ws (value_refused name rows x n v e1 e2))
by_value name x ws ih (looks_short flags c k kind e1 e2 e3 e4 e5) rows g h l =
    cut_as name _ _ g _ _ (cut_value x ws _ kind) (stops name _ x ws (short_refused name rows wanted (option (codes "seed")) x flags c k e1 e2 e3 e4 e5))

cut_empty : cut_from false [] ≡ Some (only_places [])
unfolding cut_from
cut_empty = refl

cut_missing : cut_from true [] ≡ None
unfolding cut_from
cut_missing = refl

none_left : (name : Text) (m : Mode) (rows : List Row) (g : Given) → Shows (rows_at m rows) g → g.threads ≤ 1 → Ends name (stands m rows) [] (merged g (cut_from (wants m) []))
unfolding total walk_fault
none_left name (own p f) rows g h l =
    cut_as name (at rows (pending p) (calm f) false) [] g _ _ cut_empty (ends_as name (at rows (pending p) (calm f) false) [] _ _ (sym (merged_end g [] l))
    (calm_ends name rows p (calm f) false, subst (λ (t : List Text). Shows (settle p rows) (record g { places = t })) (sym (append-nil g.places)) h))
none_left name valued rows g h l = cut_as name (at rows wanted (option (codes "seed")) false) [] g _ _ cut_missing (lacks name [] rows (option (codes "seed")) false (inr refl))

by_mode : (name : Text) (x : Text) (ws : List Text) → Holds name ws → Look x → Holds name (x ∷ ws)
by_mode name x ws ih sees (own p f) rows g h l = by_own name x ws ih sees p f rows g h l
by_mode name x ws ih sees valued rows g h l = by_value name x ws ih sees rows g h l

pub holds : (name : Text) (ws : List Text) → AllUtf8 ws → Holds name ws
holds name [] u = none_left name
holds name (x ∷ ws) u = by_mode name x ws (holds name ws u.1) (look x u.0)
