-- What `clap` makes of all the words of the line: the first names a command, and the others go to it.
use Rattle.std.proofs.Common.{◌≡◌, Bool, true, false, ◌||◌, ◌&&◌, List, [], ◌∷◌, ◌++◌, Some, None, refl, sym, ap, ap₂, ◌∙◌, subst, map, find, append_assoc, inl, inr, ◌⊎◌}
use Rattle.std.specs.Prelude.{codes, fold, is_some}
use Rattle.std.specs.List.{list_all}
use Rattle.std.specs.Option.{option_map}
use Rattle.std.specs.Str.{bytes_eq, IsUtf8}
use Rattle.std.proofs.lemmas.List.{append-nil}
use Rattle.std.proofs.lemmas.Slice.Eq.{bytes_eq-Decides}
use Rattle.clap.specs.Walk.{Row, Walk, Names, walked, walk, walk_from, nothing_held, answers_to, settled, finished, stop_after}
use Rattle.clap.specs.Simple.{App, Shape, built, built_leaf, inherited, label_of, new_shape, rows_at, entered, is_buildable, is_ready, is_ready_leaf, is_simple_leaf}
use Rattle.clap.specs.Kinds.{Kinds, or_else}
use Rattle.clap.specs.Faults.{built_fault, entered_fault, settle_fault, check_fault, level_fault, turn_fault, walk_fault, defaults_fault, flags_fault, is_simple_and_free, is_free_app, has_free_rules}
use Rattle.tool_words.specs.CommandNames.{name_of}
use Rattle.tool_words.specs.Line.{shape_named, bare_line, line_of}
use Rattle.tool_words.specs.Given.{Text}
use Rattle.tool_words.specs.CommandWords.{command_named}
use Rattle.tool_words.specs.declared.command.Command.{Command}
use Rattle.tool_words.proofs.LeafRules.{leaf, fine}
use Rattle.tool_words.proofs.Looks.{Look, looks_place, looks_end, looks_long, looks_short, look, dashes}

abbrev pub leaf_of : Command → Shape
leaf_of c = leaf (name_of c)

-- the line's own level, built
abbrev pub top_of : Bool → Shape
top_of leafless = record (new_shape (codes "gridtool")) { is_leaf = leafless; no_binary_name = true; disable_help_flag = true; disable_help_subcommand = true; disable_version_flag = true; is_built = true }

-- what the commands below take their settings from
abbrev above : Bool → Shape
above leafless = record (top_of leafless) { disable_help_subcommand = leafless || true }

subs_built : (cs : List Command) → map built_leaf (map (inherited (above false)) (map (λ c. shape_named (name_of c)) cs)) ≡ map leaf_of cs
unfolding bare_line shape_named
subs_built [] = refl
subs_built (c ∷ cs) = ap (λ t. leaf_of c ∷ t) (subs_built cs)

pub built_line : (c : Command) (cs : List Command) → built (line_of (c ∷ cs)) ≡ record { top = top_of false; subs = map leaf_of (c ∷ cs) }
unfolding bare_line shape_named
built_line c cs = ap (λ t. record { top = top_of false; subs = t }) (subs_built (c ∷ cs))

pub built_bare : built (line_of []) ≡ record { top = top_of true; subs = [] }
unfolding bare_line shape_named
built_bare = refl

-- ---- the first word names a command

abbrev pub names : List Command → Names
names cs = map label_of (map leaf_of cs)

by_test : (b : Bool) → (b || false) ≡ b
by_test true = refl
by_test false = refl

chosen_leaf : (c : Command) (cs : List Command) (x : Text) (b : Bool) → bytes_eq (name_of c) x ≡ b
    → find (λ s. answers_to x (label_of s)) (map leaf_of cs) ≡ option_map leaf_of (command_named cs x)
    → find (λ s. answers_to x (label_of s)) (map leaf_of (c ∷ cs)) ≡ option_map leaf_of (command_named (c ∷ cs) x)
unfolding bare_line shape_named
chosen_leaf c cs x true e ih = rw e refl
chosen_leaf c cs x false e ih = rw e ih

leaf_found : (cs : List Command) (x : Text) → find (λ s. answers_to x (label_of s)) (map leaf_of cs) ≡ option_map leaf_of (command_named cs x)
leaf_found [] x = refl
leaf_found (c ∷ cs) x = chosen_leaf c cs x _ refl (leaf_found cs x)

chosen_name : (c : Command) (cs : List Command) (x : Text) (b : Bool) → bytes_eq (name_of c) x ≡ b
    → option_map (λ s. s.0) (find (answers_to x) (names cs)) ≡ option_map name_of (command_named cs x)
    → option_map (λ s. s.0) (find (answers_to x) (names (c ∷ cs))) ≡ option_map name_of (command_named (c ∷ cs) x)
unfolding bare_line shape_named
chosen_name c cs x true e ih = rw e refl
chosen_name c cs x false e ih = rw e ih

pub name_found : (cs : List Command) (x : Text) → option_map (λ s. s.0) (find (answers_to x) (names cs)) ≡ option_map name_of (command_named cs x)
name_found [] x = refl
name_found (c ∷ cs) x = chosen_name c cs x _ refl (name_found cs x)

named_so : (c k : Command) (cs : List Command) (x : Text) (b : Bool) → bytes_eq (name_of c) x ≡ b → (command_named cs x ≡ Some k → name_of k ≡ x) → command_named (c ∷ cs) x ≡ Some k → name_of k ≡ x
named_so c k cs x true e ih h =
    let is : Some c ≡ Some k = rw e at h in
    let same : c ≡ k = cc in
    subst (λ (k : Command). name_of k ≡ x) same ((bytes_eq-Decides (name_of c) x).0 e)
named_so c k cs x false e ih h = ih (rw e at h)

pub named_is : (cs : List Command) (x : Text) (k : Command) → command_named cs x ≡ Some k → name_of k ≡ x
named_is [] x k h = absurd cc
named_is (c ∷ cs) x k h = named_so c k cs x _ refl (named_is cs x k) h

-- where the words begin
abbrev start : Walk
start = walk_from nothing_held

-- the words behind it are kept
kept : (ns : Names) (p : Text × List Text) (w : Walk) (ws : List Text) → fold (walked [] ns) (record w { stopped = Some p }) ws ≡ record w { stopped = Some (p.0, p.1 ++ ws) }
unfolding walked
kept ns p w [] = ap (λ t. record w { stopped = Some (p.0, t) }) (sym (append-nil p.1))
kept ns p w (x ∷ ws) = kept ns (p.0, p.1 ++ x ∷ []) w ws ∙ ap (λ t. record w { stopped = Some (p.0, t) }) (append_assoc p.1 (x ∷ []) ws)

quiet : (s : Shape) (ns : Names) (p : Text × List Text) (w : Walk) (ws : List Text) → walk_fault s ns (record w { stopped = Some p }) ws ≡ []
unfolding walk_fault walked
quiet s ns p w [] = refl
quiet s ns p w (x ∷ ws) = quiet s ns (p.0, p.1 ++ x ∷ []) w ws

first_walked : (ns : Names) (x n : Text) → option_map (λ s. s.0) (find (answers_to x) ns) ≡ Some n → walked [] ns start x ≡ record start { stopped = Some (n, []) }
unfolding walked
first_walked ns x n e = rw e refl

first_quiet : (ns : Names) (x n : Text) (b : Bool) → option_map (λ s. s.0) (find (answers_to x) ns) ≡ Some n → bytes_eq n (codes "help") ≡ b → turn_fault (top_of false) ns start x ≡ []
first_quiet ns x n true e f = rw (e, f) refl
first_quiet ns x n false e f = rw (e, f) refl

words_quiet : (ns : Names) (x n : Text) (ws : List Text) → option_map (λ s. s.0) (find (answers_to x) ns) ≡ Some n → walk_fault (top_of false) ns start (x ∷ ws) ≡ []
unfolding walk_fault
words_quiet ns x n ws e =
    let P : Walk → Type 0 = λ v. or_else (turn_fault (top_of false) ns start x) (walk_fault (top_of false) ns v ws) ≡ [] in
    subst P (sym (first_walked ns x n e)) (ap₂ or_else (first_quiet ns x n _ e refl) (quiet (top_of false) ns (n, []) start ws))

words_walked : (ns : Names) (x n : Text) (ws : List Text) → option_map (λ s. s.0) (find (answers_to x) ns) ≡ Some n → walk [] ns nothing_held (x ∷ ws) ≡ record start { stopped = Some (n, ws) }
words_walked ns x n ws e = ap (λ v. fold (walked [] ns) v ws) (first_walked ns x n e) ∙ kept ns (n, []) start ws

-- the line built
abbrev pub line_built : List Command → App
line_built cs = record { top = top_of false; subs = map leaf_of cs }

-- the faults of the line, by its walk
faults_by : List Command → Walk → Kinds → Kinds
faults_by cs v k = or_else k (or_else (entered_fault (line_built cs) v.stopped) (or_else (settle_fault [] false v.held)
    (or_else (defaults_fault (settled [] v.held).rows []) (check_fault (top_of false) (finished [] v.held) (is_some (entered (line_built cs) v.stopped))))))

faults_are : (cs : List Command) (words : List Text) → built_fault (line_built cs) nothing_held words ≡ faults_by cs (walk [] (names cs) nothing_held words) (walk_fault (top_of false) (names cs) start words)
unfolding faults_by
faults_are cs words = refl

nothing_more : (k : Kinds) (has : Bool) (rows : List Row) → or_else k (check_fault (top_of false) rows has) ≡ k
nothing_more [] true rows = refl
nothing_more [] false rows = refl
nothing_more (k ∷ ks) has rows = refl

faults_entered : (cs : List Command) (x : Text) (ws : List Text) → faults_by cs (record start { stopped = Some (x, ws) }) [] ≡ entered_fault (line_built cs) (Some (x, ws))
unfolding faults_by defaults_fault
faults_entered cs x ws = nothing_more (entered_fault (line_built cs) (Some (x, ws))) (is_some (entered (line_built cs) (Some (x, ws)))) (finished [] start.held)

entered_leaf : (cs : List Command) (k : Command) (x : Text) (ws : List Text) → command_named cs x ≡ Some k → entered_fault (line_built cs) (Some (x, ws)) ≡ level_fault (leaf_of k) [] nothing_held ws false []
entered_leaf cs k x ws e = rw (leaf_found cs x ∙ ap (option_map leaf_of) e) refl

entered_rows : (cs : List Command) (k : Command) (x : Text) (ws : List Text) → command_named cs x ≡ Some k → entered (line_built cs) (Some (x, ws)) ≡ Some (rows_at (leaf_of k) ws)
entered_rows cs k x ws e = rw (leaf_found cs x ∙ ap (option_map leaf_of) e) refl

found_so : (cs : List Command) (k : Command) (x : Text) → command_named cs x ≡ Some k → option_map (λ s. s.0) (find (answers_to x) (names cs)) ≡ Some x
found_so cs k x e = name_found cs x ∙ ap (option_map name_of) e ∙ ap (λ t. Some t) (named_is cs x k e)

pub named_built : (cs : List Command) (k : Command) (x : Text) (ws : List Text) → command_named cs x ≡ Some k → built_fault (line_built cs) nothing_held (x ∷ ws) ≡ level_fault (leaf_of k) [] nothing_held ws false []
named_built cs k x ws e =
    let n = found_so cs k x e in
    faults_are cs (x ∷ ws) ∙ ap₂ (faults_by cs) (words_walked (names cs) x x ws n) (words_quiet (names cs) x x ws n) ∙ faults_entered cs x ws ∙ entered_leaf cs k x ws e

pub named_rows : (cs : List Command) (k : Command) (x : Text) (ws : List Text) → command_named cs x ≡ Some k → entered (line_built cs) (stop_after [] (names cs) (x ∷ ws)) ≡ Some (rows_at (leaf_of k) ws)
named_rows cs k x ws e = ap (λ v. entered (line_built cs) v.stopped) (words_walked (names cs) x x ws (found_so cs k x e)) ∙ entered_rows cs k x ws e

-- ---- the first word names none

lost_turn : (b : Bool) (ns : Names) (x : Text) → find (answers_to x) ns ≡ None → Look x → (bytes_eq x dashes ≡ true) ⊎ (fine (turn_fault (top_of b) ns start x) ≡ false)
unfolding flags_fault
lost_turn true ns x e (looks_place k e1 e2 e3) = inr (rw (e, e1, e2, e3) refl)
lost_turn false ns x e (looks_place k e1 e2 e3) = inr (rw (e, e1, e2, e3) refl)
lost_turn b ns x e (looks_end k e1) = inl e1
lost_turn b ns x e (looks_long n v k e1 e2) = inr (rw (e, e1, e2) refl)
lost_turn b ns x e (looks_short flags f k kind e1 e2 e3 e4 e5) = inr (rw (e, e1, e2, e3, e5, e4) refl)

late_turn : (b : Bool) (ns : Names) (x : Text) → fine (turn_fault (top_of b) ns (record start { is_trailing = true }) x) ≡ false
late_turn true ns x = refl
late_turn false ns x = refl

dashes_walked : (ns : Names) (x : Text) → find (answers_to x) ns ≡ None → bytes_eq x dashes ≡ true → walked [] ns start x ≡ record start { is_trailing = true }
unfolding walked
dashes_walked ns x e f = rw (e, f) refl

not_fine : (k a : Kinds) → fine k ≡ false → fine (or_else k a) ≡ false
not_fine [] a e = absurd cc
not_fine (x ∷ xs) a e = refl

not_fine_later : (k a : Kinds) → fine a ≡ false → fine (or_else k a) ≡ false
not_fine_later [] a e = e
not_fine_later (x ∷ xs) a e = refl

abbrev pub bare_built : Bool → List Shape → App
bare_built b subs = record { top = top_of b; subs = subs }

refused_by : (b : Bool) (subs : List Shape) (words : List Text) → fine (walk_fault (top_of b) (map label_of subs) start words) ≡ false → fine (built_fault (bare_built b subs) nothing_held words) ≡ false
refused_by b subs words e = not_fine (walk_fault (top_of b) (map label_of subs) start words) _ e

-- the line is refused, or no subcommand is met
abbrev pub Lost : Bool → List Shape → List Text → Type 0
Lost b subs words = (fine (built_fault (bare_built b subs) nothing_held words) ≡ false) ⊎ (stop_after [] (map label_of subs) words ≡ None)

first_fault : (b : Bool) (ns : Names) (x : Text) (ws : List Text) → fine (turn_fault (top_of b) ns start x) ≡ false → fine (walk_fault (top_of b) ns start (x ∷ ws)) ≡ false
unfolding walk_fault
first_fault b ns x ws e = not_fine (turn_fault (top_of b) ns start x) _ e

second_fault : (b : Bool) (ns : Names) (x y : Text) (ws : List Text) → walked [] ns start x ≡ record start { is_trailing = true } → fine (walk_fault (top_of b) ns start (x ∷ y ∷ ws)) ≡ false
unfolding walk_fault
second_fault b ns x y ws e =
    let P : Walk → Type 0 = λ v. fine (or_else (turn_fault (top_of b) ns start x) (walk_fault (top_of b) ns v (y ∷ ws))) ≡ false in
    subst P (sym e) (not_fine_later (turn_fault (top_of b) ns start x) _ (not_fine (turn_fault (top_of b) ns (record start { is_trailing = true }) y) _ (late_turn b ns y)))

behind_dashes : (b : Bool) (subs : List Shape) (x : Text) (ws : List Text) → find (answers_to x) (map label_of subs) ≡ None → bytes_eq x dashes ≡ true → Lost b subs (x ∷ ws)
behind_dashes b subs x [] e f = inr (ap (λ (v : Walk). v.stopped) (dashes_walked (map label_of subs) x e f))
behind_dashes b subs x (y ∷ ws) e f = inl (refused_by b subs (x ∷ y ∷ ws) (second_fault b (map label_of subs) x y ws (dashes_walked (map label_of subs) x e f)))

pub lost : (b : Bool) (subs : List Shape) (x : Text) (ws : List Text) → find (answers_to x) (map label_of subs) ≡ None → IsUtf8 x → Lost b subs (x ∷ ws)
lost b subs x ws e u = elim (lost_turn b (map label_of subs) x e (look x u)) [
  | inl f ↦ behind_dashes b subs x ws e f
  | inr f ↦ inl (refused_by b subs (x ∷ ws) (first_fault b (map label_of subs) x ws f))
]

-- ---- the line as it is made

-- the line is simple, and no argument has a rule on another
each_leaf : (p : Shape → Bool) (f : Command → Shape) (cs : List Command) → ((c : Command) → p (f c) ≡ true) → list_all p (map f cs) ≡ true
each_leaf p f [] h = refl
each_leaf p f (c ∷ cs) h = ap₂ (λ a b. a && b) (h c) (each_leaf p f cs h)

both : (a b : Bool) → a ≡ true → b ≡ true → (a && b) ≡ true
both a b e f = ap₂ (λ a b. a && b) e f

plain_leaf : (c : Command) → is_simple_leaf (shape_named (name_of c)) ≡ true
unfolding bare_line shape_named
plain_leaf c = refl

ready_leaf : (c : Command) → is_ready_leaf (leaf_of c) ≡ true
unfolding bare_line shape_named
ready_leaf c = refl

free_leaf : (c : Command) → has_free_rules (leaf_of c) ≡ true
unfolding bare_line shape_named
free_leaf c = refl

pub line_simple : (cs : List Command) → is_simple_and_free (line_of cs) ≡ true
unfolding bare_line
line_simple [] = refl
line_simple (c ∷ cs) =
    let P : App → Type 0 = λ a. (is_buildable (line_of (c ∷ cs)) && (is_ready a.top && list_all is_ready_leaf a.subs) && is_free_app a) ≡ true in
    subst P (sym (built_line c cs)) (both _ _ (both _ _ (each_leaf is_simple_leaf (λ c. shape_named (name_of c)) (c ∷ cs) plain_leaf) (each_leaf is_ready_leaf leaf_of (c ∷ cs) ready_leaf)) (each_leaf has_free_rules leaf_of (c ∷ cs) free_leaf))
