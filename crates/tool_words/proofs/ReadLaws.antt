-- What the words ask for, by what `clap` makes of them.
use Rattle.std.proofs.Common.{◌≡◌, ℕ, suc, zero, ◌&&◌, string_bytes, Global, Bor, ◌+◌, ◌≤◌, nat_le, Bool, true, false, cond, List, [], ◌∷◌, Option, Some, None, refl, sym, ap, ap₂, ◌∙◌, subst, map, find, arith, inl, inr, ◌⊎◌}
use Rattle.std.specs.Prelude.{codes, option_and_then, is_some, unwrap_or, Box, String}
use Rattle.std.specs.Box.{box_value}
use Rattle.std.proofs.lemmas.Str.{IsUtf8-string_bytes}
use Rattle.std.specs.Option.{option_map}
use Rattle.std.proofs.lemmas.Bool.{leb-true}
use Rattle.std.specs.Str.{IsUtf8}
use Rattle.clap.specs.Words.{found_of, has_subcommand, kind_of, subcommand_name_of, raw_values, matched_of, one_text, HasKind, IsAmong, rows_of, is_simple, HasMatchesOf, subcommand_rows, subcommand_rows_of}
use Rattle.clap.specs.declared.error.Error.{Error}
use Rattle.clap.specs.declared.error.kind.ErrorKind.{ErrorKind}
use Rattle.clap.specs.declared.error.kind.ErrorKind.TheVariants.{OutOfMemory}
use Rattle.clap.specs.declared.parser.matches.ArgMatches.{ArgMatches}
use Rattle.clap.specs.declared.parser.matches.ArgMatches.TheViews.{out-ArgMatches, out-SubCommand}
use Rattle.clap.specs.declared.parser.matches.SubCommand.{SubCommand}
use Rattle.clap.specs.declared.parser.matches.Found.{Found}
use Rattle.clap.proofs.WalkLemmas.{raw_values-rows, one_text-rows}
use Rattle.clap.specs.Walk.{Row, nothing_held, answers_to, stop_after, finished, one_of, idle}
use Rattle.clap.specs.Simple.{App, built, label_of, rows_at, entered, subcommand_of}
use Rattle.clap.specs.Kinds.{Kinds}
use Rattle.clap.specs.Faults.{fault_of, built_fault, level_fault, is_simple_and_free, is_free_app}
use Rattle.tool_words.specs.CommandNames.{every_command, name_of}
use Rattle.tool_words.specs.Line.{shape_named, bare_line, line_of, lent_texts}
use Rattle.tool_words.specs.Given.{Text, Given, sorted}
use Rattle.tool_words.specs.CommandWords.{command_named, asked, asked_of, asked_by, how_by}
use Rattle.tool_words.specs.declared.command.Command.{Command}
use Rattle.tool_words.proofs.LeafRules.{leaf, rules, fine, at, nothing}
use Rattle.tool_words.proofs.Rows.{values_at, Finished, flag_text, shows_finished}
use Rattle.tool_words.proofs.LeafWalk.{AllUtf8, Ends, ended, total, merged, cut_from, holds, own}
use Rattle.tool_words.proofs.LineWalk.{leaf_of, line_built, bare_built, names, built_line, name_found, named_is, named_built, named_rows, lost, line_simple}
use Rattle.tool_words.proofs.AskedLaws.{asks_same, nothing_given}

-- ---- the line built

fault_line : (c : Command) (cs : List Command) (words : List Text) → fault_of (line_of (c ∷ cs)) words ≡ built_fault (line_built (c ∷ cs)) nothing_held words
unfolding bare_line
fault_line c cs words = ap (λ a. built_fault a nothing_held words) (built_line c cs)

fault_bare : (words : List Text) → fault_of (line_of []) words ≡ built_fault (bare_built true []) nothing_held words
unfolding bare_line
fault_bare words = refl

sub_line : (c : Command) (cs : List Command) (words : List Text) → subcommand_of (line_of (c ∷ cs)) words ≡ entered (line_built (c ∷ cs)) (stop_after [] (names (c ∷ cs)) words)
unfolding bare_line
sub_line c cs words = ap (λ (a : App). entered a (stop_after a.top.rules (map label_of a.subs) words)) (built_line c cs)

sub_bare : (words : List Text) → subcommand_of (line_of []) words ≡ entered (bare_built true []) (stop_after [] [] words)
unfolding bare_line
sub_bare words = refl

-- ---- where the line ends

no_words : (cs : List Command) → subcommand_of (line_of cs) [] ≡ None
no_words [] = sub_bare []
no_words (c ∷ cs) = sub_line c cs []

unnamed : {X Y : Type 0} (f : X → Y) (o : Option X) → option_map f o ≡ None → o ≡ None
unnamed f None e = refl
unnamed f (Some x) e = absurd cc

lost_line : (cs : List Command) (x : Text) (ws : List Text) → command_named cs x ≡ None → IsUtf8 x → (fine (fault_of (line_of cs) (x ∷ ws)) ≡ false) ⊎ (subcommand_of (line_of cs) (x ∷ ws) ≡ None)
lost_line [] x ws e u = elim (lost true [] x ws refl u) [
  | inl f ↦ inl (ap fine (fault_bare (x ∷ ws)) ∙ f)
  | inr f ↦ inr (sub_bare (x ∷ ws) ∙ ap (entered (bare_built true [])) f)
]
lost_line (c ∷ cs) x ws e u = elim (lost false (map leaf_of (c ∷ cs)) x ws (unnamed _ (find (answers_to x) (names (c ∷ cs))) (name_found (c ∷ cs) x ∙ ap (option_map name_of) e)) u) [
  | inl f ↦ inl (ap fine (fault_line c cs (x ∷ ws)) ∙ f)
  | inr f ↦ inr (sub_line c cs (x ∷ ws) ∙ ap (entered (line_built (c ∷ cs))) f)
]

pub data LineEnds (words : List Text) : Type 0 where
  astray : (fine (fault_of (line_of every_command) words) ≡ false) ⊎ (subcommand_of (line_of every_command) words ≡ None) → asked words ≡ None → LineEnds words
  enters : (k : Command) (ws : List Text) → AllUtf8 ws → command_named every_command (name_of k) ≡ Some k → asked words ≡ option_and_then (asked_of k) (sorted ws)
      → fault_of (line_of every_command) words ≡ level_fault (leaf_of k) [] nothing_held ws false []
      → subcommand_of (line_of every_command) words ≡ Some (rows_at (leaf_of k) ws) → LineEnds words

asked_none : (x : Text) (ws : List Text) → command_named every_command x ≡ None → asked (x ∷ ws) ≡ None
unfolding asked
asked_none x ws e = rw e refl

asked_some : (k : Command) (x : Text) (ws : List Text) → command_named every_command x ≡ Some k → asked (x ∷ ws) ≡ option_and_then (asked_of k) (sorted ws)
unfolding asked
asked_some k x ws e = rw e refl

asked_empty : asked [] ≡ None
unfolding asked
asked_empty = refl

fault_named : (cs : List Command) (k : Command) (x : Text) (ws : List Text) → command_named cs x ≡ Some k → fault_of (line_of cs) (x ∷ ws) ≡ level_fault (leaf_of k) [] nothing_held ws false []
fault_named [] k x ws e = absurd cc
fault_named (c ∷ cs) k x ws e = fault_line c cs (x ∷ ws) ∙ named_built (c ∷ cs) k x ws e

sub_named : (cs : List Command) (k : Command) (x : Text) (ws : List Text) → command_named cs x ≡ Some k → subcommand_of (line_of cs) (x ∷ ws) ≡ Some (rows_at (leaf_of k) ws)
sub_named [] k x ws e = absurd cc
sub_named (c ∷ cs) k x ws e = sub_line c cs (x ∷ ws) ∙ named_rows (c ∷ cs) k x ws e

line_named : (k : Command) (x : Text) (ws : List Text) → AllUtf8 ws → command_named every_command x ≡ Some k → LineEnds (x ∷ ws)
line_named k x ws u e =
    let same : name_of k ≡ x = named_is every_command x k e in
    enters k ws u (ap (command_named every_command) same ∙ e) (asked_some k x ws e) (fault_named every_command k x ws e) (sub_named every_command k x ws e)

by_command : (x : Text) (ws : List Text) → IsUtf8 x → AllUtf8 ws → (o : Option Command) → command_named every_command x ≡ o → LineEnds (x ∷ ws)
by_command x ws v u None e = astray (lost_line every_command x ws e v) (asked_none x ws e)
by_command x ws v u (Some k) e = line_named k x ws u e

line_ends : (words : List Text) → AllUtf8 words → LineEnds words
line_ends [] u = astray (inr (no_words every_command)) asked_empty
line_ends (x ∷ ws) u = by_command x ws u.0 u.1 _ refl

-- ---- where the words behind the command end

leaf_total : (name : Text) (ws : List Text) → level_fault (leaf name) [] nothing_held ws false [] ≡ total name (at [] None idle false) ws
unfolding total bare_line shape_named
leaf_total name ws = refl

leaf_rows : (name : Text) (ws : List Text) → rows_at (leaf name) ws ≡ (name, finished rules (ended (at [] None idle false) ws).held)
unfolding bare_line shape_named
leaf_rows name ws = refl

leaf_ends : (name : Text) (ws : List Text) → AllUtf8 ws → Ends name (at [] None idle false) ws (merged nothing_given (cut_from false ws))
leaf_ends name ws u = holds name ws u (own nothing true) [] nothing_given (record { places = refl; threads = refl; seeds = refl }) (omega arith)

fine_is : (k : Kinds) → fine k ≡ true → k ≡ []
fine_is [] e = refl
fine_is (k ∷ ks) e = absurd cc

-- ---- what `clap` refuses

no_asks : (words : List Text) (k : Command) (ws : List Text) (o : Option Given) → merged nothing_given (cut_from false ws) ≡ o → Ends (name_of k) (at [] None idle false) ws o
    → asked words ≡ option_and_then (asked_of k) (sorted ws) → fault_of (line_of every_command) words ≡ level_fault (leaf_of k) [] nothing_held ws false [] → (fault_of (line_of every_command) words ≡ [] → ⊥) → asked words ≡ None
no_asks words k ws None e ends asks fault bad = asks ∙ sym (asks_same k ws) ∙ ap (option_and_then (asked_of k)) e
no_asks words k ws (Some g) e ends asks fault bad = absurd (bad (fault ∙ leaf_total (name_of k) ws ∙ fine_is (total (name_of k) (at [] None idle false) ws) ends.0))

refused_by : (words : List Text) → LineEnds words → (fault_of (line_of every_command) words ≡ [] → ⊥) → asked words ≡ None
refused_by words (astray why none) bad = none
refused_by words (enters k ws u named asks fault sub) bad = no_asks words k ws (merged nothing_given (cut_from false ws)) refl (leaf_ends (name_of k) ws u) asks fault bad

pub refused : (words : List Text) → AllUtf8 words → (fault_of (line_of every_command) words ≡ [] → ⊥) → asked words ≡ None
refused words u bad = refused_by words (line_ends words u) bad

-- ---- what `clap` gives without a subcommand

no_entry : (words : List Text) → LineEnds words → subcommand_of (line_of every_command) words ≡ None → asked words ≡ None
no_entry words (astray why none) e = none
no_entry words (enters k ws u named asks fault sub) e = let both : Some (rows_at (leaf_of k) ws) ≡ None = sym sub ∙ e in absurd cc

pub no_subcommand : (words : List Text) → AllUtf8 words → subcommand_of (line_of every_command) words ≡ None → asked words ≡ None
no_subcommand words u e = no_entry words (line_ends words u) e

-- ---- what `clap` gives with one

pub record Reads (words : List Text) (name : Text) (rows : List Row) : Type 0 where
  pub command : Command
  pub named : command_named every_command name ≡ Some command
  pub flag : Bool
  pub flagged : one_of (codes "threads") rows ≡ Some (cond flag (codes "true") (codes "false"))
  pub asks : asked words ≡ option_and_then (asked_by command (values_at (codes "words") rows)) (how_by (cond flag 1 0) (values_at (codes "seed") rows))

abbrev is_flagged : ℕ → Bool
is_flagged zero = false
is_flagged (suc n) = true

flag_is : (t : ℕ) → flag_text t ≡ cond (is_flagged t) (codes "true") (codes "false")
flag_is zero = refl
flag_is (suc n) = refl

once : (t : ℕ) → t ≤ 1 → cond (is_flagged t) 1 0 ≡ t
once zero l = refl
once (suc zero) l = refl
once (suc (suc n)) l = absurd (omega arith)

tested_once : (b : Bool) (g k : Given) → nat_le g.threads 1 ≡ b → cond b (Some g) None ≡ Some k → k.threads ≤ 1
tested_once true g k e h = let same : g ≡ k = cc in subst (λ (k : Given). k.threads ≤ 1) same (leb-true g.threads 1 e)
tested_once false g k e h = absurd cc

merged_once : (o : Option Given) (k : Given) → merged nothing_given o ≡ Some k → k.threads ≤ 1
merged_once None k h = absurd cc
merged_once (Some g) k h = tested_once _ (record { places = g.places; threads = 0 + g.threads; seeds = g.seeds }) k refl h

asks_given : (k : Command) (g : Given) (rows : List Row) → Finished rows g → g.threads ≤ 1 → asked_of k g ≡ option_and_then (asked_by k (values_at (codes "words") rows)) (how_by (cond (is_flagged g.threads) 1 0) (values_at (codes "seed") rows))
asks_given k g rows f l = rw (f.places, f.seeds, once g.threads l) refl

rows_read : (words : List Text) (name : Text) (rows : List Row) (k : Command) (ws : List Text) (o : Option Given) → merged nothing_given (cut_from false ws) ≡ o → Ends (name_of k) (at [] None idle false) ws o
    → command_named every_command (name_of k) ≡ Some k → asked words ≡ option_and_then (asked_of k) (sorted ws) → fault_of (line_of every_command) words ≡ level_fault (leaf_of k) [] nothing_held ws false [] → fault_of (line_of every_command) words ≡ []
    → name_of k ≡ name → finished rules (ended (at [] None idle false) ws).held ≡ rows → Reads words name rows
rows_read words name rows k ws None e ends named asks fault good same is =
    let none : fine (total (name_of k) (at [] None idle false) ws) ≡ true = ap fine (sym (fault ∙ leaf_total (name_of k) ws) ∙ good) in
    let bad : true ≡ false = sym none ∙ ends in absurd cc
rows_read words name rows k ws (Some g) e ends named asks fault good same is =
    let shows : Finished rows g = subst (λ (t : List Row). Finished t g) is (shows_finished (ended (at [] None idle false) ws).held g ends.1) in
    record {
      command = k;
      named = ap (command_named every_command) (sym same) ∙ named;
      flag = is_flagged g.threads;
      flagged = shows.threads ∙ ap (λ t. Some t) (flag_is g.threads);
      asks = asks ∙ sym (asks_same k ws) ∙ ap (option_and_then (asked_of k)) e ∙ asks_given k g rows shows (merged_once (cut_from false ws) g e);
    }

some_pair : (a b : Text × List Row) → Some a ≡ Some b → (a.0 ≡ b.0) × (a.1 ≡ b.1)
some_pair a b e = let same : a ≡ b = cc in (ap (λ p. p.0) same, ap (λ p. p.1) same)

entry_read : (words : List Text) (name : Text) (rows : List Row) → LineEnds words → fault_of (line_of every_command) words ≡ [] → subcommand_of (line_of every_command) words ≡ Some (name, rows) → Reads words name rows
entry_read words name rows (astray (inl bad) none) good sub = let both : false ≡ true = sym bad ∙ ap fine good in absurd cc
entry_read words name rows (astray (inr bad) none) good sub = let both : ◌≡◌ {A = Option (Text × List Row)} None (Some (name, rows)) = sym bad ∙ sub in absurd cc
entry_read words name rows (enters k ws u named asks fault is) good sub =
    let pair = some_pair (name_of k, finished rules (ended (at [] None idle false) ws).held) (name, rows) (ap (λ p. Some p) (sym (leaf_rows (name_of k) ws)) ∙ sym is ∙ sub) in
    rows_read words name rows k ws (merged nothing_given (cut_from false ws)) refl (leaf_ends (name_of k) ws u) named asks fault good pair.0 pair.1

pub reads : (words : List Text) (name : Text) (rows : List Row) → AllUtf8 words → fault_of (line_of every_command) words ≡ [] → subcommand_of (line_of every_command) words ≡ Some (name, rows) → Reads words name rows
reads words name rows u good sub = entry_read words name rows (line_ends words u) good sub

-- ---- as the code meets it

pub all_utf8 : {Z : Type 0} (words : List (String Z)) → AllUtf8 (map string_bytes words)
all_utf8 [] = tt
all_utf8 (w ∷ ws) = (IsUtf8-string_bytes w, all_utf8 ws)

-- an error that isn't want of memory
some_kind : (k : ErrorKind) (kinds : Kinds) → IsAmong k kinds → kinds ≡ [] → ⊥
some_kind k kinds h none = let Q : Kinds → Type 0 = IsAmong k in subst Q none h

pub refused_error : (words : List Text) (app : App) (e : Error) → AllUtf8 words → app ≡ line_of every_command → (is_simple_and_free app ≡ true → HasKind (fault_of app words) e) → (kind_of e ≡ OutOfMemory → ⊥) → asked words ≡ None
refused_error words app e u is kinds other =
    let has = kinds (ap is_simple_and_free is ∙ line_simple every_command) in
    refused words u (λ none. elim has [ inl memory ↦ other memory | inr among ↦ some_kind (kind_of e) (fault_of app words) among (ap (λ a. fault_of a words) is ∙ none) ])

no_option : {X Y : Type 0} (f : X → Y) (o : Option X) → false ≡ is_some o → option_map f o ≡ None
no_option f None e = refl
no_option f (Some x) e = absurd cc

first_true : (a b : Bool) → (a && b) ≡ true → a ≡ true
first_true true b e = refl
first_true false b e = absurd cc

matches_are : (words : List Text) (app : App) (m : ArgMatches) → app ≡ line_of every_command → HasMatchesOf app words m → subcommand_rows_of m ≡ subcommand_of (line_of every_command) words
matches_are words app m is h = (h (ap is_simple is ∙ first_true (is_simple (line_of every_command)) (is_free_app (built (line_of every_command))) (line_simple every_command))).1 ∙ ap (λ a. subcommand_of a words) is

pub none_met : (words : List Text) (app : App) (m : ArgMatches) → AllUtf8 words → app ≡ line_of every_command → HasMatchesOf app words m → false ≡ has_subcommand m → asked words ≡ None
none_met words app m u is h none = no_subcommand words u (sym (matches_are words app m is h) ∙ no_option _ (out-ArgMatches m).subcommand none)

met_so : (o : Option (Box SubCommand Global)) (name : Text) (rows : List Row) → Some name ≡ option_map (λ b. (out-SubCommand (box_value b)).name.now) o → Some rows ≡ option_map (λ p. p.1) (subcommand_rows o) → subcommand_rows o ≡ Some (name, rows)
met_so None name rows e f = absurd cc
met_so (Some b) name rows e f =
    let names : name ≡ (out-SubCommand (box_value b)).name.now = cc in
    let same : rows ≡ rows_of (found_of (out-SubCommand (box_value b)).matches) = cc in
    ap₂ (λ n r. Some (n, r)) (sym names) (sym same)

pub met : (words : List Text) (app : App) (m : ArgMatches) (name : Text) (rows : List Row) → AllUtf8 words → app ≡ line_of every_command → (is_simple_and_free app ≡ true → fault_of app words ≡ []) → HasMatchesOf app words m
    → Some name ≡ subcommand_name_of m → Some rows ≡ option_map (λ p. p.1) (subcommand_rows_of m) → Reads words name rows
met words app m name rows u is kinds h e f =
    reads words name rows u (ap (λ a. fault_of a words) (sym is) ∙ kinds (ap is_simple_and_free is ∙ line_simple every_command)) (sym (matches_are words app m is h) ∙ met_so (out-ArgMatches m).subcommand name rows e f)

pub lent_are : (o : Option (Bor (List (Bor Text)))) (f : Found) (id : Text) → option_map (λ s. map (λ v. v.now) s.now) o ≡ option_map raw_values (matched_of f id) → lent_texts o ≡ values_at id (rows_of f)
lent_are o f id e = lent_so o ∙ ap (λ (t : Option (List Text)). unwrap_or t []) (e ∙ raw_values-rows f id)
  where
    lent_so : (o : Option (Bor (List (Bor Text)))) → lent_texts o ≡ unwrap_or (option_map (λ s. map (λ v. v.now) s.now) o) []
    lent_so None = refl
    lent_so (Some s) = refl

-- the flag as it's read
pub flag_read : (f : Found) (flag result : Bool) → one_of (codes "threads") (rows_of f) ≡ Some (cond flag (codes "true") (codes "false"))
    → (one_text f (codes "threads") ≡ Some (codes "true") → result ≡ true) → (one_text f (codes "threads") ≡ Some (codes "false") → result ≡ false) → result ≡ flag
flag_read f true result e if_set if_unset = if_set (one_text-rows f (codes "threads") ∙ e)
flag_read f false result e if_set if_unset = if_unset (one_text-rows f (codes "threads") ∙ e)

pub asks_as : (c d : Command) (p q s t : List Text) (a b : Bool) → c ≡ d → p ≡ q → a ≡ b → s ≡ t
    → option_and_then (asked_by c p) (how_by (cond a 1 0) s) ≡ option_and_then (asked_by d q) (how_by (cond b 1 0) t)
asks_as c d p q s t a b command places flag seeds = rw (command, places, flag, seeds) refl
