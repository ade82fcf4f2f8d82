-- A limit on the words of a job.
use Rattle.std.proofs.Common.{◌≡◌, ℕ, ◌^◌, ◌<◌, ◌≤◌, Bool, true, false, cond, List, refl, sym, ap, subst, ◌∙◌, arith, nat_le, Option}
use Rattle.std.proofs.lemmas.Bool.{le-leb, leb-true}
use Rattle.store_io.specs.Outside.{Outside, Poured}
use Rattle.tool_lines.specs.Texts.{too_many_words}
use Rattle.command_walks.specs.Walk.{Walk, Refuses, answer, within_limit}
use Rattle.command_walks.specs.Outcome.{Leaves}
use Rattle.command_walks.specs.Following.{StopsWith}
use Rattle.command_walks.specs.declared.status.Status.{Status}
use Rattle.command_walks.specs.declared.status.Status.TheVariants as status

-- what is chosen within a limit, and above it
chosen : (b : Bool) (x y : Walk) → b ≡ true → cond b x y ≡ x
chosen true x y e = refl
chosen false x y e = absurd cc

passed_over : (b : Bool) (x y : Walk) → (b ≡ true → ⊥) → cond b x y ≡ y
passed_over true x y e = absurd (e refl)
passed_over false x y e = refl

pub within : (words : ℕ) (next : Walk) → words ≤ 2 ^ 26 → within_limit words next ≡ next
unfolding within_limit
within words next le = chosen (nat_le words (2 ^ 26)) next _ (le-leb _ _ le)

above : (words : ℕ) (next : Walk) → 2 ^ 26 < words → within_limit words next ≡ Refuses (too_many_words words) status.Refused
unfolding within_limit
above words next lt = passed_over (nat_le words (2 ^ 26)) next _ (λ e. omega (arith, lt, leb-true words (2 ^ 26) e))

-- a job above the limit stops
pub large_stops : (words n : ℕ) (next : Walk) (names : Option (List (List ℕ))) (old : Outside) → words ≡ n → 2 ^ 26 < words → StopsWith status.Refused (too_many_words words) (within_limit n next) names old old
large_stops words n next names old count lt pour = record {
  answered = λ told. ap (λ (v : Walk). answer v old.files) (ap (λ (k : ℕ). within_limit k next) (sym count) ∙ above words next lt);
  untouched = record { files = refl; opens = refl };
  counts = record { faults = refl; misses = refl };
  silent = refl;
}

-- a job within the limit goes on
pub small_leaves : (s : Status) (words n : ℕ) (next : Walk) (names : Option (List (List ℕ))) (line : List ℕ) (old new : Outside) (before after : Poured) → words ≡ n → words ≤ 2 ^ 26 → Leaves s next names line old new before after → Leaves s (within_limit n next) names line old new before after
small_leaves s words n next names line old new before after count le then = subst (λ (w : Walk). Leaves s w names line old new before after) (sym (within n next (omega (arith, le, count)))) then
