-- A push into taken room isn't refused.
use Rattle.std.proofs.Common.{◌≡◌, ◌≢◌, ℕ, ◌<◌, Bool, false, cond, Option, Some, None, Result, Ok, Err, List, [], ◌∷◌, ◌++◌, length, refl, ap, ◌∙◌, subst, arith, inl, inr}
use Rattle.std.specs.Prelude.{slice_get, IsOk, OnOk, IsOkUnless, MatchOption}
use Rattle.std.proofs.lemmas.Bool.Decides.{leb_tells, eqb_tells}
use Rattle.machine.specs.declared.kind.Kind.TheVariants.{Send, Recv, Local}
use Rattle.msg_core.specs.declared.node.Step.{Ghosts as StepOf}
use Rattle.msg_core.specs.declared.fault.PlanErr.{PlanErr}
use Rattle.msg_core.specs.declared.fault.PlanErr.TheVariants.{NoMemory, TooManyOps}
use Rattle.msg_core.specs.Plans.{PlanView, no_lens, lens_by, lens_of, waiting_lens, push_fault, fault_by, full_fault, first_fault, is_full}
use Rattle.msg_core.proofs.Growing.{lens_end}
use Rattle.msg_core.proofs.Pairs.{at_here}

pub ok_unless : {A : Type 0} (r : Result A PlanErr) → IsOkUnless r NoMemory → r ≢ Err NoMemory → IsOk r
ok_unless (Ok a) ok not_memory = refl
ok_unless (Err e) ok not_memory = absurd (not_memory (ap Err ok))

pub on_ok : {A : Type 0} (r : Result A PlanErr) (P : Type 0) → IsOk r → OnOk r P → P
on_ok (Ok a) P ok h = h
on_ok (Err e) P ok h = cc

module _ {Op : Type 0} (t : StepOf Op) where
  pub not_full : (p : PlanView Op) → length p.steps < 1048576 → is_full t p ≡ false
  not_full p few = elim (leb_tells 1048576 (length p.steps)) [ inl is ↦ absurd (let le = is.1 in omega arith) | inr other ↦ other.0 ]

  pub local_passes : (p : PlanView Op) (rank : ℕ) (o : Op) → t.kind_of o ≡ Local → length p.steps < 1048576 → push_fault t p rank o ≡ None
  local_passes p rank o kind few = ap (λ k. fault_by t k p rank) kind ∙ ap (λ (b : Bool). full_fault t b) (not_full p few)

  pub send_passes : (p : PlanView Op) (rank to len : ℕ) (o : Op) → t.kind_of o ≡ Send to len → length p.steps < 1048576 → push_fault t p rank o ≡ None
  send_passes p rank to len o kind few = ap (λ k. fault_by t k p rank) kind ∙ ap (λ (b : Bool). full_fault t b) (not_full p few)

  pub recv_passes : (p : PlanView Op) (rank from len : ℕ) (o : Op) → t.kind_of o ≡ Recv from len → slice_get (waiting_lens t p from rank) 0 ≡ Some len → length p.steps < 1048576 → push_fault t p rank o ≡ None
  recv_passes p rank from len o kind first few =
      ap (λ k. fault_by t k p rank) kind
      ∙ ap (λ x. first_fault x from rank len (is_full t p)) first
      ∙ elim (eqb_tells len len) [ inl is ↦ rw is.0 (ap (λ b. cond b (Some TooManyOps) None) (not_full p few)) | inr other ↦ absurd (other.1 refl) ]

  -- a push that has no cause is answered Ok, unless memory is wanted
  pub push_ok : {A : Type 0} (p : PlanView Op) (rank : ℕ) (o : Op) (r : Result A PlanErr) → push_fault t p rank o ≡ None → MatchOption (push_fault t p rank o) (IsOkUnless r NoMemory) (λ e. r ≡ Err e) → r ≢ Err NoMemory → IsOk r
  push_ok {A} p rank o r none fault not_memory = let P : Option PlanErr → Type 0 = λ x. MatchOption x (IsOkUnless r NoMemory) (λ e. r ≡ Err e) in ok_unless r (subst P none fault) not_memory

  -- the message that was just sent is the first that waits, where none waited
  pub sent_first : (steps : List (ℕ × Op)) (from to len : ℕ) (o : Op) → t.kind_of o ≡ Send to len → lens_of t steps no_lens from to ≡ [] → slice_get (lens_of t (steps ++ (from, o) ∷ []) no_lens from to) 0 ≡ Some len
  sent_first steps from to len o kind free =
      ap (λ q. slice_get (q from to) 0) (lens_end t steps (from, o) no_lens)
      ∙ ap (λ k. slice_get (lens_by k from (lens_of t steps no_lens) from to) 0) kind
      ∙ ap (λ l. slice_get l 0) (at_here (lens_of t steps no_lens) from to (lens_of t steps no_lens from to ++ len ∷ []))
      ∙ ap (λ l. slice_get (l ++ len ∷ []) 0) free
