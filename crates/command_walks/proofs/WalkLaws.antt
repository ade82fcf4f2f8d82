-- Walks: where they come to, they end.
use Rattle.std.proofs.Common.{◌≡◌, ℕ, List, None, refl, sym, ap, subst, ◌∙◌, inl, inr}
use Rattle.std.specs.FinMap.{get}
use Rattle.store_io.specs.Outside.{Outside, Files}
use Rattle.text_io.specs.Reading.{OnlyReads}
use Rattle.command_walks.specs.Outcome.{Untouched}
use Rattle.command_walks.specs.Answer.{refused}
use Rattle.tool_lines.specs.Texts.{missing}
use Rattle.command_walks.specs.Walk.{Walk, Reads, Refuses, Ends, held_answer, answer, Comes, Needs}
use Rattle.command_walks.specs.declared.status.Status.TheVariants as status

-- every walk comes to itself
pub comes_here : (w : Walk) (files : Files) → Comes w files w
comes_here (Reads name next) files = inl refl
comes_here (Refuses line status) files = refl
comes_here (Ends saves output) files = refl

-- the answer is that of what the walk comes to
pub comes_answer : (w : Walk) (files : Files) (here : Walk) → Comes w files here → answer w files ≡ answer here files
comes_answer (Reads name next) files here (inl e) = ap (λ (v : Walk). answer v files) e
comes_answer (Reads name next) files here (inr (bytes, held, comes)) =
    ap (λ o. held_answer name o (λ b. answer (next b) files)) held ∙ comes_answer (next bytes) files here comes
comes_answer (Refuses line status) files here e = ap (λ (v : Walk). answer v files) e
comes_answer (Ends saves output) files here e = ap (λ (v : Walk). answer v files) e

-- one walk on from another
pub comes_on : (w : Walk) (files : Files) (mid here : Walk) → Comes w files mid → Comes mid files here → Comes w files here
comes_on (Reads name next) files mid here (inl e) then = subst (λ (v : Walk). Comes v files here) (sym e) then
comes_on (Reads name next) files mid here (inr (bytes, held, comes)) then = inr (bytes, held, comes_on (next bytes) files mid here comes then)
comes_on (Refuses line status) files mid here e then = subst (λ (v : Walk). Comes v files here) (sym e) then
comes_on (Ends saves output) files mid here e then = subst (λ (v : Walk). Comes v files here) (sym e) then

-- a file that is needed and isn't held decides
pub missing_answer : (w : Walk) (files : Files) (name : List ℕ) → Needs w files name → get files name ≡ None → answer w files ≡ refused (missing name) status.Store
missing_answer w files name needs none =
    comes_answer w files (Reads name needs.next) needs.comes ∙ ap (λ o. held_answer name o (λ b. answer (needs.next b) files)) none

-- under other words for a walk
pub comes_as : (w : Walk) (files : Files) (here there : Walk) → here ≡ there → Comes w files here → Comes w files there
comes_as w files here there e comes = subst (λ v. Comes w files v) e comes

pub comes_from : (w v : Walk) (files : Files) (here : Walk) → w ≡ v → Comes v files here → Comes w files here
comes_from w v files here e comes = subst (λ u. Comes u files here) (sym e) comes

pub untouched : (old new : Outside) → OnlyReads old new → Untouched old new
untouched old new same = record { files = same.files; opens = same.opens }
