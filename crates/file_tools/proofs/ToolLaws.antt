-- How the tool ends, by what a command answers.
use Rattle.std.proofs.Common.{◌≡◌, ℕ, IsTrue, List, [], Result, Ok, Err, sym, refl, subst, ◌∙◌, append-nil, inl}
use Rattle.std.specs.Prelude.{Option, Some, None}
use Rattle.store_io.specs.Outside.{Outside, Poured}
use Rattle.tool_words.specs.CommandWords.{asked}
use Rattle.tool_words.specs.declared.asked.Asked.{Asked}
use Rattle.file_tools.specs.Usage.{usage}
use Rattle.command_walks.specs.Walk.{Walk}
use Rattle.file_tools.specs.ToolWalk.{names_asked, asked_walk, usage_walk, walk_of, saved_names}
use Rattle.tool_lines.specs.Saying.{Gains}
use Rattle.command_walks.specs.Outcome.{IsOutcome, Leaves}
use Rattle.file_tools.specs.Troubles.{Follows, status_of, status_in, line_in}
use Rattle.file_tools.proofs.FollowLaws.{never_words}
use Rattle.command_walks.specs.declared.status.Status.{Status}
use Rattle.command_walks.specs.declared.status.Status.TheVariants as status
use Rattle.file_tools.specs.declared.trouble.Trouble.{Trouble}
use Rattle.file_tools.specs.declared.trouble.Trouble.TheVariants as trouble

-- nothing is said
pub says_nothing : (p : Poured) → Gains p p []
says_nothing p = inl (sym (append-nil p.bytes))

-- a trouble isn't an end
pub not_done : (t : Trouble) → status_of t ≡ status.Done → ⊥
not_done (trouble.Missing name) e = cc
not_done (trouble.Failed name) e = cc
not_done (trouble.Matrix name error) e = cc
not_done (trouble.Piece name line fault) e = cc
not_done (trouble.Program name line what) e = cc
not_done (trouble.Line name line fault) e = cc
not_done (trouble.TooMany words) e = cc
not_done trouble.NoMemory e = cc
not_done trouble.Output e = cc

asked_ends : (words : List (List ℕ)) (o : Option Asked) (s : Status) (old new : Outside) (before after quiet said : Poured) → o ≡ asked words → IsOutcome s (asked_walk o) (names_asked o) old new before after quiet said → IsOutcome s (walk_of words) (saved_names words) old new before after quiet said
unfolding walk_of saved_names
asked_ends words o s old new before after quiet said e = subst (λ (p : Option Asked). IsOutcome s (asked_walk p) (names_asked p) old new before after quiet said) e

leaves_in : {X : Type 0} (r : Result X Trouble) (w : Walk) (names : Option (List (List ℕ))) (old new : Outside) (before after : Poured) → Follows r w names old new before after → Leaves (status_in r) w names (line_in r) old new before after
leaves_in (Ok x) w names old new before after h = h
leaves_in (Err t) w names old new before after h = h

-- a command that follows its walk
pub command_ends : {X : Type 0} (r : Result X Trouble) (words : List (List ℕ)) (o : Option Asked) (w : Walk) (names : Option (List (List ℕ))) (s : Status) (old new : Outside) (before after quiet said : Poured) → o ≡ asked words → w ≡ asked_walk o → names ≡ names_asked o → s ≡ status_in r → Follows r w names old new before after
    → (IsTrue quiet.told → Gains quiet said (line_in r)) → (s ≡ status.Done → said ≡ quiet) → IsOutcome s (walk_of words) (saved_names words) old new before after quiet said
command_ends r words o w names s old new before after quiet said are walk named is follows says silent =
    let P : Walk → Type 0 = λ v. Leaves s v names (line_in r) old new before after in
    let Q : Option (List (List ℕ)) → Type 0 = λ ns. Leaves s (asked_walk o) ns (line_in r) old new before after in
    let R : Status → Type 0 = λ t. Leaves t w names (line_in r) old new before after in
    asked_ends words o s old new before after quiet said are (record { line = line_in r; leaves = subst Q named (subst P walk (subst R (sym is) (leaves_in r w names old new before after follows))); says = says; silent = silent })

usage_leaves : (names : Option (List (List ℕ))) (old : Outside) (pour : Poured) → Leaves status.Words usage_walk names usage old old pour pour
unfolding usage_walk
usage_leaves names old pour = record { walk_is = refl; untouched = record { files = refl; opens = refl }; counts = record { faults = refl; misses = refl }; silent = refl }

-- words that ask for no command
pub usage_ends : (words : List (List ℕ)) (o : Option Asked) (s : Status) (old : Outside) (pour quiet said : Poured) → o ≡ asked words → asked_walk o ≡ usage_walk → s ≡ status.Words → (IsTrue quiet.told → Gains quiet said usage) → IsOutcome s (walk_of words) (saved_names words) old old pour pour quiet said
usage_ends words o s old pour quiet said are is outside says =
    let Q : Walk → Type 0 = λ w. Leaves status.Words w (names_asked o) usage old old pour pour in
    let R : Status → Type 0 = λ t. Leaves t (asked_walk o) (names_asked o) usage old old pour pour in
    asked_ends words o s old old pour pour quiet said are (record { line = usage; leaves = subst R (sym outside) (subst Q (sym is) (usage_leaves (names_asked o) old pour)); says = says; silent = λ e. absurd (words_not_done s outside e) })
  where
    words_not_done : (s : Status) → s ≡ status.Words → s ≡ status.Done → ⊥
    words_not_done s e f = cc

-- no command ends so
pub never_usage : {X : Type 0} (r : Result X Trouble) (s : Status) → s ≡ status_in r → s ≡ status.Words → ⊥
never_usage (Ok x) s e f = cc
never_usage (Err t) s e f = never_words t (sym e ∙ f)
