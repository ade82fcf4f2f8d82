-- All runs that can't be continued end alike, and one of them is there.
use Rattle.std.proofs.Common.{◌≡◌, ℕ, zero, suc, ◌+◌, ◌-◌, ◌≤◌, ◌<◌, Bool, true, false, Option, Some, None, ◌⊎◌, List, [], ◌∷◌, length, slice_get, sym, refl, ap, ◌∙◌, subst, arith, inl, inr}
use Rattle.machine.specs.declared.kind.Kind.{Kind}
use Rattle.machine.specs.Machine.{Lists, Done, none_done, Rules, can_next, step, after, next, queue, can_step, IsAtEnd, IsOver, IsStuck, IsRunFrom, IsRun, IsWholeRun, IsReachable}
use Rattle.machine.specs.Endings.{AreRanks, IsTurns, IsLeastRunFrom, EndsAt, EndsAll, LeavesSome}
use Rattle.machine.proofs.Alike.{same_done}
use Rattle.machine.proofs.Confluence.{as_wide, can_still, no_further, same_end, some_or_none}
use Rattle.machine.proofs.Pairs.{rank_cases, rank_here, rank_else}
use Rattle.machine.proofs.Lists.{within_get, get_past}
use Rattle.std.proofs.lemmas.Option.{slice_get_past}
use Rattle.std.proofs.lemmas.Bool.Decides.{eqb_tells}
use Rattle.std.proofs.lemmas.Bool.{cases_lt}
use Rattle.std.specs.Prelude.{nat_lt}
use borrow.Author.Tests.{ltb-true, ltb-false}
use Rattle.machine.proofs.Turns.{turns, done_by_turns, turns_length, longer_somewhere}

either : (b : Bool) → (b ≡ true) ⊎ (b ≡ false)
either true = inl refl
either false = inr refl

differ : false ≡ true → ⊥
differ e = cc

module _ (lists : Lists) (rules : Rules) where
  -- whether a state is over depends only on the numbers
  pub over_same : (d e : Done) → ((r : ℕ) → d r ≡ e r) → IsOver lists rules e → IsOver lists rules d
  over_same d e same over = subst (λ (f : Done). IsOver lists rules f) (sym (same_done d e same)) over

  -- no rank has more turns in a run than in one that can't be continued
  turns_below : (trace whole : List ℕ) → IsRun lists rules trace → IsWholeRun lists rules whole → (r : ℕ) → turns r trace ≤ turns r whole
  turns_below trace whole run over r =
      let low = no_further lists rules rules (as_wide rules) trace whole run over r in
      let a = done_by_turns trace none_done r in
      let b = done_by_turns whole none_done r in
      omega (arith, low, a, b)

  -- where one run can't be continued, it says how all such runs end
  pub ends_at : (whole : List ℕ) → IsWholeRun lists rules whole → EndsAt lists rules (after whole none_done) (length whole)
  ends_at whole over = record {
    not_beyond = λ trace run r. no_further lists rules rules (as_wide rules) trace whole run over r;
    no_longer = λ trace run. turns_length trace whole (turns_below trace whole run over);
    there = λ trace all r. ap (λ (f : Done). f r) (same_end lists rules trace whole all over);
    as_long = λ trace all. (let a = turns_length trace whole (turns_below trace whole all.0 over) in let b = turns_length whole trace (turns_below whole trace over.0 all) in omega (arith, a, b));
    over = λ trace run long. (
      run,
      over_same (after trace none_done) (after whole none_done) (λ r.
          let t = longer_somewhere trace whole (turns_below trace whole run over) long r in
          let a = done_by_turns trace none_done r in
          let b = done_by_turns whole none_done r in
          omega (arith, t, a, b)) over.1,
    );
  }

module _ (lists : Lists) (rules : Rules) where
  -- along a run, either a state has done all of it, or some rank can step there: the first of the run that it has not done
  pub goes_on : (trace : List ℕ) (e d : Done) → IsRunFrom lists rules trace e → ((r : ℕ) → e r ≤ d r) → ((r : ℕ) → after trace e r ≤ d r) ⊎ ((r : ℕ) × (can_step lists rules d r ≡ true))
  goes_on [] e d run below = inl below
  goes_on (r ∷ rs) e d run below = elim (cases_lt (e r) (d r)) [
    | inl less ↦ goes_on rs (step e r) d run.1 (λ i. elim (rank_cases e r (e r + 1) i) [
      | inl h ↦ (let b = below i in omega (arith, b, h.1))
      | inr h ↦ (let b = ap d h.0 in omega (arith, b, less, h.1))
    ])
    | inr high ↦ (let b = below r in inr (r, can_still lists rules rules (as_wide rules) e d r (omega (arith, b, high)) below run.0))
  ]

  -- a run is as long as one that can't be continued, or some rank can step after it
  pub long_or_on : (trace whole : List ℕ) → IsRun lists rules trace → IsWholeRun lists rules whole → (length trace ≡ length whole) ⊎ ((r : ℕ) × (can_step lists rules (after trace none_done) r ≡ true))
  long_or_on trace whole run over = elim (goes_on whole none_done (after trace none_done) over.0 (λ r. omega arith)) [
    | inl far ↦ inl (
        let low = turns_length trace whole (turns_below lists rules trace whole run over) in
        let high = turns_length whole trace (λ r. (let f = far r in let a = done_by_turns trace none_done r in let b = done_by_turns whole none_done r in omega (arith, f, a, b))) in
        omega (arith, low, high))
    | inr on ↦ inr on
  ]

-- the least number below n that passes a test, or none
least_below : (test : ℕ → Bool) (n : ℕ) → ((r : ℕ) × (r < n) × (test r ≡ true) × ((i : ℕ) → i < r → test i ≡ false)) ⊎ ((i : ℕ) → i < n → test i ≡ false)
least_below test zero = inr (λ i h. absurd (omega arith))
least_below test (suc n) = elim (least_below test n) [
  | inl f ↦ (let low = f.1 in inl (f.0, omega (arith, low), f.2, f.3))
  | inr all ↦ elim (either (test n)) [
    | inl passes ↦ inl (n, omega arith, passes, all)
    | inr fails ↦ inr (λ i h. elim (eqb_tells i n) [ inl e ↦ ap test e.1 ∙ fails | inr e ↦ all i (let d = e.1 in omega (arith, h, d)) ])
  ]
]

module _ (lists : Lists) where
  -- how many operations the first n ranks have left
  abbrev pub left : ℕ → Done → ℕ
  left zero d = 0
  left (suc n) d = left n d + (length (lists n) - d n)

  left_else : (n : ℕ) (d : Done) (r : ℕ) → n ≤ r → left n (step d r) ≡ left n d
  left_else zero d r h = refl
  left_else (suc n) d r h =
      let rest = left_else n d r (omega arith) in
      let same = rank_else d r (d r + 1) n (λ e. (let x : n ≡ r = e in absurd (omega (arith, x, h)))) in
      omega (arith, rest, same)

  pub left_step : (n : ℕ) (d : Done) (r : ℕ) → r < n → d r < length (lists r) → left n d ≡ suc (left n (step d r))
  left_step zero d r h more = absurd (omega arith)
  left_step (suc n) d r h more = elim (eqb_tells n r) [
    | inl e ↦
        let rest = left_else n d r (let x = e.1 in omega (arith, x)) in
        let now = rank_here d r (d r + 1) in
        let a = ap (step d r) e.1 in
        let b = ap d e.1 in
        let l = ap (λ i. length (lists i)) e.1 in
        omega (arith, rest, now, a, b, l, more)
    | inr e ↦
        let rest = left_step n d r (let x = e.1 in omega (arith, h, x)) more in
        let same = rank_else d r (d r + 1) n e.1 in
        omega (arith, rest, same)
  ]

  pub more_left : (rules : Rules) (d : Done) (r : ℕ) → can_step lists rules d r ≡ true → d r < length (lists r)
  more_left rules d r can = some (next lists d r) refl can
    where
      some : (m : Option _) → next lists d r ≡ m → can_next rules m r (queue lists d) ≡ true → d r < length (lists r)
      some None e c = absurd (differ c)
      some (Some k) e c = within_get (lists r) (d r) k e

  module _ (rules : Rules) (count : ℕ) (ranks : AreRanks lists count) where
    past : (d : Done) (r : ℕ) → count ≤ r → can_step lists rules d r ≡ false
    past d r h = ap (λ m. can_next rules m r (queue lists d)) (ap (λ l. slice_get l (d r)) (ranks r h))

    record Goes (d : Done) : Type 0 where
      pub trace : List ℕ
      pub run : IsRunFrom lists rules trace d
      pub least : IsLeastRunFrom lists rules trace d
      pub over : IsOver lists rules (after trace d)

    stop : (d : Done) → ((i : ℕ) → i < count → can_step lists rules d i ≡ false) → Goes d
    stop d all = record { trace = []; run = tt; least = tt; over = λ r. elim (cases r count) [ inl low ↦ all r low | inr high ↦ past d r high ] }
      where
        cases : (m n : ℕ) → (m < n) ⊎ (n ≤ m)
        cases m zero = inr (omega arith)
        cases zero (suc n) = inl (omega arith)
        cases (suc m) (suc n) = elim (cases m n) [ inl l ↦ inl (omega arith) | inr l ↦ inr (omega arith) ]

    goes : (fuel : ℕ) (d : Done) → left count d ≤ fuel → Goes d
    goes zero d h = elim (least_below (can_step lists rules d) count) [
      | inl f ↦ absurd (let s = left_step count d f.0 f.1 (more_left rules d f.0 f.2) in omega (arith, s, h))
      | inr all ↦ stop d all
    ]
    goes (suc fuel) d h = elim (least_below (can_step lists rules d) count) [
      | inl f ↦
          let s = left_step count d f.0 f.1 (more_left rules d f.0 f.2) in
          let rest = goes fuel (step d f.0) (omega (arith, s, h)) in
          record { trace = f.0 ∷ rest.trace; run = (f.2, rest.run); least = (f.2, f.3, rest.least); over = rest.over }
      | inr all ↦ stop d all
    ]

    -- one run can't be continued: at each turn the least rank that can step does so
    pub some_whole : (trace : List ℕ) × IsTurns lists rules trace
    some_whole = let all = goes (left count none_done) none_done (omega arith) in (all.trace, record { least = all.least; whole = (all.run, all.over) })

    past_end : (d : Done) (r : ℕ) → count ≤ r → IsAtEnd lists d r
    past_end d r h = ap (λ l. slice_get l (d r)) (ranks r h)

    -- either every run that can't be continued ends all ranks, or every such run leaves some rank before its end
    pub one_verdict : EndsAll lists rules ⊎ LeavesSome lists rules
    one_verdict =
        let whole = some_whole in
        let last : Done = after whole.0 none_done in
        elim (least_below (λ r. nat_lt (last r) (length (lists r))) count) [
          | inl f ↦ inr (λ trace all. (
            f.0,
            λ ended.
                let same = ap (λ (d : Done). d f.0) (same_end lists rules trace whole.0 all whole.1.whole) in
                let low = get_past (lists f.0) (after trace none_done f.0) ended in
                let more = ltb-true (last f.0) (length (lists f.0)) f.2 in
                omega (arith, same, low, more),
          ))
          | inr ended ↦ inl (λ trace all r. elim (cases_lt r count) [
            | inl low ↦
                let same = ap (λ (d : Done). d r) (same_end lists rules trace whole.0 all whole.1.whole) in
                let past = ltb-false (last r) (length (lists r)) (ended r low) in
                slice_get_past (lists r) (after trace none_done r) (omega (arith, same, past))
            | inr high ↦ past_end (after trace none_done) r high
          ])
        ]

    -- and never both
    pub never_both : EndsAll lists rules → LeavesSome lists rules → ⊥
    never_both ends leaves = let whole = some_whole in let some = leaves whole.0 whole.1.whole in some.1 (ends whole.0 whole.1.whole some.0)

module _ (lists : Lists) (rules : Rules) where
  -- no reachable state is stuck exactly where every run that can't be continued ends all ranks
  pub never_stuck : EndsAll lists rules → (d : Done) → IsReachable lists rules d → IsStuck lists rules d → ⊥
  never_stuck ends d there stuck =
      let over = subst (λ (f : Done). IsOver lists rules f) (sym there.2) stuck.1 in
      stuck.0.1 (subst (λ (f : Done). IsAtEnd lists f stuck.0.0) there.2 (ends there.0 (there.1, over) stuck.0.0))

  pub ends_unstuck : ((d : Done) → IsReachable lists rules d → IsStuck lists rules d → ⊥) → EndsAll lists rules
  ends_unstuck none trace all r = elim (some_or_none (next lists (after trace none_done) r)) [
    | inl e ↦ e
    | inr e ↦ absurd (none (after trace none_done) (trace, all.0, refl) ((r, λ ended. some_is e.0 (sym e.1 ∙ ended)), all.1))
  ]
    where
      some_is : (k : Kind) → Some k ≡ None → ⊥
      some_is k e = cc
