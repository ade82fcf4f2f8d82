-- Where nothing fails, a call does what its walk asks for.
use Rattle.std.proofs.Common.{◌≡◌, ℕ, IsTrue, List, ◌++◌, refl, sym, ap, ◌∙◌, append-nil, inl, inr, Option}
use Rattle.store_io.specs.Outside.{Outside, Poured, Rose, IsEither}
use Rattle.save_list.specs.Save.{saved}
use Rattle.command_walks.specs.Answer.{Answer, refused}
use Rattle.command_walks.specs.Walk.{Walk, answer}
use Rattle.command_walks.specs.Outcome.{Leaves, IsOutcome, IsAnswer, IsComplete, StopsAtNeed, LacksFile, FailsAtFile}
use Rattle.command_walks.specs.declared.status.Status.{Status}
use Rattle.command_walks.specs.declared.status.Status.TheVariants as status

-- an answer that is refused, where nothing was changed
refused_is : (s : Status) (walk : Walk) (line : List ℕ) (old new : Outside) (before after : Poured) → answer walk old.files ≡ refused line s → new.files ≡ old.files → after ≡ before → IsAnswer s walk old new before after
refused_is s walk line old new before after e files output = record {
  status = sym (ap (λ (a : Answer). a.status) e);
  files = files ∙ sym (ap (λ (a : Answer). saved a.saves old.files) e);
  output = λ heard. ap (λ (p : Poured). p.bytes) output ∙ sym (append-nil before.bytes) ∙ ap (λ (a : Answer). before.bytes ++ a.output) (sym e);
}

complete_need : (walk : Walk) (line : List ℕ) (old new : Outside) (before after : Poured) (h : StopsAtNeed walk line old new before after) → IsTrue old.told → (Rose old.faults new.faults → ⊥) → IsEither (LacksFile walk h.name line old new) (FailsAtFile h.name line old new) → IsAnswer status.Store walk old new before after
complete_need walk line old new before after h told still (inl lacks) = refused_is status.Store walk line old new before after (lacks.answered told) h.untouched.files h.silent
complete_need walk line old new before after h told still (inr fails) = absurd (still fails.failed.faults)

complete_leaves : (s : Status) (walk : Walk) (names : Option (List (List ℕ))) (line : List ℕ) (old new : Outside) (before after : Poured) → Leaves s walk names line old new before after → IsComplete s walk old new before after
complete_leaves status.Done walk names line old new before after h told still silent = inr (record {
  status = sym (ap (λ (a : Answer). a.status) (h.ends.answered told));
  files = h.files told ∙ ap (λ (a : Answer). saved a.saves old.files) (sym (h.ends.answered told));
  output = λ heard. h.gained heard ∙ ap (λ (a : Answer). before.bytes ++ a.output) (sym (h.ends.answered told));
})
complete_leaves status.Refused walk names line old new before after h told still silent = inr (refused_is status.Refused walk line old new before after (h.answered told) h.untouched.files h.silent)
complete_leaves status.Words walk names line old new before after h told still silent = inr (refused_is status.Words walk line old new before after (ap (λ (w : Walk). answer w old.files) h.walk_is) h.untouched.files h.silent)
complete_leaves status.Store walk names line old new before after (inl h) told still silent = inr (complete_need walk line old new before after h told still h.why)
complete_leaves status.Store walk names line old new before after (inr h) told still silent = absurd (still h.why.failed.faults)
complete_leaves status.NoMemory walk names line old new before after h told still silent = inl refl
complete_leaves status.Sink walk names line old new before after h told still silent = absurd (silent h.poured)

pub complete : (s : Status) (walk : Walk) (names : Option (List (List ℕ))) (old new : Outside) (before after quiet said : Poured) → IsOutcome s walk names old new before after quiet said → IsComplete s walk old new before after
complete s walk names old new before after quiet said h = complete_leaves s walk names h.line old new before after h.leaves
