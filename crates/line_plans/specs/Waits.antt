-- The first pair of ranks of which a message waits, by the lengths that a plan leaves.
use Rattle.std.specs.Prelude.{◌≡◌, ℕ, Bool, not, ◌&&◌, ◌||◌, ◌==◌, List, [], ◌∷◌, Option, None, Some, is_some, Result, Ok, Err, ◌<◌, length, slice_get, slice_index}
use Rattle.std.specs.List.{find}
use Rattle.std.specs.Option.{option_map, option_or}
use Rattle.msg_core.specs.Plans.{PlanView, waiting_lens}
use Rattle.pack_words.specs.declared.rank_op.RankOp.{RankOp}
use Rattle.pack_words.specs.GridState.{rank_steps}
use Rattle.program_meaning.specs.declared.fault.ExecFault.TheVariants as fault
use Rattle.program_meaning.specs.Exchanges.{waiting}
use Rattle.line_plans.specs.declared.halt.Halt.{Halt}
use Rattle.line_plans.specs.declared.halt.Halt.TheVariants.{Fault, NoMemory}

-- a message of the pair waits after the plan
abbrev pub has_message : PlanView RankOp → ℕ → ℕ → Bool
has_message p from to = is_some (slice_get (waiting_lens rank_steps p from to) 0)

-- the same, where a pair of one rank may not count
abbrev pub holds_up : PlanView RankOp → Bool → ℕ → ℕ → Bool
holds_up p own from to = (own || not (from == to)) && has_message p from to

-- the first of these senders, and then of these receivers
abbrev pub first_pair : (ℕ → ℕ → Bool) → List ℕ → List ℕ → Option (ℕ × ℕ)
first_pair test [] tos = None
first_pair test (from ∷ more) tos = option_or (option_map (λ to. (from, to)) (find (test from) tos)) (first_pair test more tos)

-- a message that waits is refused
abbrev pub held_up : Option (ℕ × ℕ) → Result (Unit {0}) Halt
held_up None = Ok tt
held_up (Some p) = Err (Fault (fault.Waiting p.0 p.1))

-- the first pair of which a message waits is told; out of memory may stand in the place of any answer
abbrev pub IsHeldUp : Result (Unit {0}) Halt → Option (ℕ × ℕ) → Type 0
IsHeldUp (Ok done) pair = pair ≡ None
IsHeldUp (Err (Fault f)) pair = waiting pair ≡ Some f
IsHeldUp (Err NoMemory) pair = Unit {0}

-- no message waits from one of the first ranks to one of the second
abbrev pub AreQuiet : PlanView RankOp → List ℕ → List ℕ → Type 0
AreQuiet p froms tos = (j k : ℕ) → j < length froms → k < length tos → waiting_lens rank_steps p (slice_index froms j) (slice_index tos k) ≡ []
