-- A command that has read goes on: what it leaves from there is what it leaves from the start.
use Rattle.std.proofs.Common.{◌≡◌, ℕ, IsTrue, List, [], ◌∷◌, ◌++◌, length, suc, refl, sym, ap, subst, ◌∙◌, inl, inr, Option}
use Rattle.store_io.specs.Outside.{Outside, Files, Poured, SameCounts, HasMissed, Rose, IsEither}
use Rattle.save_list.specs.Save.{Save, save, saved}
use Rattle.text_io.specs.Saving.{HoldsFront}
use Rattle.tool_lines.specs.Texts.{out_of_memory}
use Rattle.command_walks.specs.Walk as walk
use Rattle.command_walks.specs.Walk.{Walk, answer, Comes, Needs}
use Rattle.save_list.specs.Saving.{opened}
use Rattle.command_walks.specs.Outcome.{Untouched, LacksFile, FailsAtFile, EndsWith, Leaves}
use Rattle.command_walks.specs.Following.{ReadsOn, StopsWith}
use Rattle.command_walks.specs.declared.status.Status.{Status}
use Rattle.command_walks.specs.declared.status.Status.TheVariants as status
use Rattle.command_walks.proofs.WalkLaws.{comes_on, comes_answer}
use Rattle.save_list.proofs.SavedLaws.{fails_later}

counts_later : (old mid new : Outside) → SameCounts old mid → SameCounts mid new → SameCounts old new
counts_later old mid new first then = record { faults = then.faults ∙ first.faults; misses = then.misses ∙ first.misses }

misses_later : (old mid new : Outside) → SameCounts old mid → HasMissed mid new → HasMissed old new
misses_later old mid new same missed =
    let P : ℕ → Type 0 = λ n. Rose n new.misses in
    record { misses = subst P same.misses missed.misses; faults = missed.faults ∙ same.faults }

untouched_later : (old mid new : Outside) → ReadsOn old mid → Untouched mid new → Untouched old new
untouched_later old mid new on then = record { files = then.files ∙ on.files; opens = then.opens ∙ on.opens }

-- the answer from here is the answer
same_answer : (w here : Walk) (old mid : Outside) → ReadsOn old mid → Comes w old.files here → answer w old.files ≡ answer here mid.files
same_answer w here old mid on comes = comes_answer w old.files here comes ∙ ap (answer here) (sym on.files)

-- an end from here is an end
ends_on : (w here : Walk) (names : Option (List (List ℕ))) (saves : List Save) (output : List ℕ) (old mid : Outside) → (IsTrue old.told → Comes w old.files here) → ReadsOn old mid → EndsWith here names saves output mid → EndsWith w names saves output old
ends_on w here names saves output old mid comes on ends = record { named = ends.named; answered = λ told. same_answer w here old mid on (comes told) ∙ ends.answered (subst IsTrue (sym on.told) told) }

saved_on : (saves : List Save) (old mid new : Outside) → ReadsOn old mid → (IsTrue mid.told → new.files ≡ saved saves mid.files) → IsTrue old.told → new.files ≡ saved saves old.files
saved_on saves old mid new on files told = files (subst IsTrue (sym on.told) told) ∙ ap (saved saves) on.files

needed_on : (w here : Walk) (old mid : Outside) (name : List ℕ) → ReadsOn old mid → Comes w old.files here → Needs here mid.files name → Needs w old.files name
needed_on w here old mid name on comes need = record {
  next = need.next;
  comes = comes_on w old.files here (walk.Reads name need.next) comes (subst (λ (files : Files). Comes here files (walk.Reads name need.next)) on.files need.comes);
}

fault_on : (name line : List ℕ) (old mid new : Outside) → ReadsOn old mid → FailsAtFile name line mid new → FailsAtFile name line old new
fault_on name line old mid new on then = record { failed = fails_later old mid new on.counts then.failed; line_is = then.line_is }

why_on : (w here : Walk) (name line : List ℕ) (old mid new : Outside) → (IsTrue old.told → Comes w old.files here) → ReadsOn old mid → IsEither (LacksFile here name line mid new) (FailsAtFile name line mid new) → IsEither (LacksFile w name line old new) (FailsAtFile name line old new)
why_on w here name line old mid new comes on (inl lacks) = inl (record {
  missed = misses_later old mid new on.counts lacks.missed;
  line_is = lacks.line_is;
  answered = λ told. same_answer w here old mid on (comes told) ∙ lacks.answered (subst IsTrue (sym on.told) told);
})
why_on w here name line old mid new comes on (inr fails) = inr (fault_on name line old mid new on fails)

until_on : (first : List Save) (name text : List ℕ) (before mid after : Files) → mid ≡ before → IsEither (after ≡ saved first mid) (HoldsFront (saved first mid) after name text) → IsEither (after ≡ saved first before) (HoldsFront (saved first before) after name text)
until_on first name text before mid after e h = subst (λ (files : Files). IsEither (after ≡ saved first files) (HoldsFront (saved first files) after name text)) e h

-- what a command leaves from where its walk has come is what it leaves from the start
pub leaves_on : (s : Status) → (s ≡ status.Words → ⊥) → (w here : Walk) (names : Option (List (List ℕ))) (line : List ℕ) (old mid new : Outside) (before after : Poured) → (IsTrue old.told → Comes w old.files here) → ReadsOn old mid → Leaves s here names line mid new before after → Leaves s w names line old new before after
leaves_on status.Done other w here names line old mid new before after comes on then = record {
  saves = then.saves;
  output = then.output;
  ends = ends_on w here names then.saves then.output old mid comes on then.ends;
  files = saved_on then.saves old mid new on then.files;
  opens = then.opens ∙ ap (opened (length then.saves)) on.opens;
  gained = then.gained;
  counts = counts_later old mid new on.counts then.counts;
  poured = then.poured;
  line_is = then.line_is;
}
leaves_on status.Refused other w here names line old mid new before after comes on then = record {
  answered = λ told. same_answer w here old mid on (comes told) ∙ then.answered (subst IsTrue (sym on.told) told);
  untouched = untouched_later old mid new on then.untouched;
  counts = counts_later old mid new on.counts then.counts;
  silent = then.silent;
}
leaves_on status.Words other w here names line old mid new before after comes on then = absurd (other refl)
leaves_on status.Store other w here names line old mid new before after comes on (inl then) = inl (record {
  name = then.name;
  needed = λ told. needed_on w here old mid then.name on (comes told) (then.needed (subst IsTrue (sym on.told) told));
  why = why_on w here then.name line old mid new comes on then.why;
  untouched = untouched_later old mid new on then.untouched;
  silent = then.silent;
})
leaves_on status.Store other w here names line old mid new before after comes on (inr then) = inr (record {
  first = then.first;
  name = then.name;
  text = then.text;
  later = then.later;
  output = then.output;
  ends = ends_on w here names (then.first ++ save then.name then.text ∷ then.later) then.output old mid comes on then.ends;
  files = λ told. until_on then.first then.name then.text old.files mid.files new.files on.files (then.files (subst IsTrue (sym on.told) told));
  opens = then.opens ∙ ap (opened (suc (length then.first))) on.opens;
  why = fault_on then.name line old mid new on then.why;
  silent = then.silent;
})
leaves_on status.NoMemory other w here names line old mid new before after comes on then = record {
  untouched = untouched_later old mid new on then.untouched;
  counts = counts_later old mid new on.counts then.counts;
  silent = then.silent;
  line_is = then.line_is;
}
leaves_on status.Sink other w here names line old mid new before after comes on then = record {
  saves = then.saves;
  output = then.output;
  ends = ends_on w here names then.saves then.output old mid comes on then.ends;
  files = saved_on then.saves old mid new on then.files;
  opens = then.opens ∙ ap (opened (length then.saves)) on.opens;
  gained = then.gained;
  counts = counts_later old mid new on.counts then.counts;
  poured = then.poured;
  line_is = then.line_is;
}

-- out of memory, before anything was done
pub wants_memory : (w : Walk) (names : Option (List (List ℕ))) (old : Outside) → StopsWith status.NoMemory out_of_memory w names old old
wants_memory w names old pour = record { untouched = record { files = refl; opens = refl }; counts = record { faults = refl; misses = refl }; silent = refl; line_is = refl }
