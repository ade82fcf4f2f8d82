-- The first pair of which a message waits, by a plan's lengths and by a state's messages.
use Rattle.std.proofs.Common.{◌≡◌, ℕ, zero, suc, ◌+◌, ◌<◌, nat_lt, Bool, true, false, cond, List, [], ◌∷◌, ◌++◌, length, map, drop, Option, Some, None, refl, sym, ap, subst, ◌∙◌, arith, drop-cons, add-one}
use Rattle.std.specs.Prelude.{◌==◌, ◌&&◌, ◌||◌, not, is_some, slice_get, slice_index, Result, OnOk}
use Rattle.std.specs.List.{find, filter, flat_map}
use Rattle.std.specs.Option.{option_map, option_or}
use Rattle.std.proofs.lemmas.Bool.Decides.{nat_tests}
use Rattle.proc_grid.specs.Grid.{Grid}
use Rattle.proc_grid.specs.Scopes.{IsScopeOf, members}
use Rattle.proc_grid.specs.declared.scope.Scope.{Scope}
use Rattle.proc_grid.specs.declared.scope.Scope.TheVariants.{Row, Column, All}
use Rattle.msg_core.specs.Plans.{PlanView, waiting_lens}
use Rattle.pack_words.specs.declared.rank_op.RankOp.{RankOp}
use Rattle.pack_words.specs.GridState.{GridState, rank_steps}
use Rattle.pack_words.specs.GridShapes.{ShapesView}
use Rattle.pack_words.specs.GridPlans.{IsOf}
use Rattle.scope_ops.specs.Broadcasts.{IsQuiet}
use Rattle.program_meaning.specs.Exchanges.{waits, waiting, is_scope_of, members_of, pairs_among, pairs_between}
use Rattle.line_plans.specs.declared.halt.Halt.{Halt}
use Rattle.line_plans.specs.Waits.{has_message, holds_up, first_pair, held_up, IsHeldUp, AreQuiet}

-- ---- searches

-- an element that fails the test is passed over, and one that meets it is found
pub find_later : (test : ℕ → Bool) (xs : List ℕ) (i : ℕ) → i < length xs → test (slice_index xs i) ≡ false → find test (drop i xs) ≡ find test (drop (i + 1) xs)
find_later test xs i lt e =
    ap (find test) (drop-cons xs i 0 lt) ∙ step (test (slice_index xs i)) e ∙ ap (λ n. find test (drop n xs)) (sym (add-one i))
  where
    step : (b : Bool) → b ≡ false → cond b (Some (slice_index xs i)) (find test (drop (suc i) xs)) ≡ find test (drop (suc i) xs)
    step true k = absurd cc
    step false k = refl

pub find_here : (test : ℕ → Bool) (xs : List ℕ) (i : ℕ) → i < length xs → test (slice_index xs i) ≡ true → find test (drop i xs) ≡ Some (slice_index xs i)
find_here test xs i lt e = ap (find test) (drop-cons xs i 0 lt) ∙ step (test (slice_index xs i)) e
  where
    step : (b : Bool) → b ≡ true → cond b (Some (slice_index xs i)) (find test (drop (suc i) xs)) ≡ Some (slice_index xs i)
    step true k = refl
    step false k = absurd cc

pub first_later : (test : ℕ → ℕ → Bool) (xs tos : List ℕ) (i : ℕ) → i < length xs → find (test (slice_index xs i)) tos ≡ None → first_pair test (drop i xs) tos ≡ first_pair test (drop (i + 1) xs) tos
first_later test xs tos i lt e =
    ap (λ ys. first_pair test ys tos) (drop-cons xs i 0 lt)
    ∙ ap (λ (o : Option ℕ). option_or (option_map (λ to. (slice_index xs i, to)) o) (first_pair test (drop (suc i) xs) tos)) e
    ∙ ap (λ n. first_pair test (drop n xs) tos) (sym (add-one i))

pub first_here : (test : ℕ → ℕ → Bool) (xs tos : List ℕ) (i to : ℕ) → i < length xs → find (test (slice_index xs i)) tos ≡ Some to → first_pair test (drop i xs) tos ≡ Some (slice_index xs i, to)
first_here test xs tos i to lt e =
    ap (λ ys. first_pair test ys tos) (drop-cons xs i 0 lt)
    ∙ ap (λ (o : Option ℕ). option_or (option_map (λ to. (slice_index xs i, to)) o) (first_pair test (drop (suc i) xs) tos)) e

-- tests that agree
find_same : (f g : ℕ → Bool) (xs : List ℕ) → ((x : ℕ) → f x ≡ g x) → find f xs ≡ find g xs
find_same f g [] h = refl
find_same f g (x ∷ xs) h = ap (λ b. cond b (Some x) (find f xs)) (h x) ∙ ap (λ o. cond (g x) (Some x) o) (find_same f g xs h)

first_same : (f g : ℕ → ℕ → Bool) (xs tos : List ℕ) → ((x y : ℕ) → f x y ≡ g x y) → first_pair f xs tos ≡ first_pair g xs tos
first_same f g [] tos h = refl
first_same f g (x ∷ xs) tos h =
    ap (λ (o : Option ℕ). option_or (option_map (λ to. (x, to)) o) (first_pair f xs tos)) (find_same (f x) (g x) tos (h x))
    ∙ ap (λ (o : Option (ℕ × ℕ)). option_or (option_map (λ to. (x, to)) (find (g x) tos)) o) (first_same f g xs tos h)

find_join : (w : ℕ × ℕ → Bool) (xs ys : List (ℕ × ℕ)) → find w (xs ++ ys) ≡ option_or (find w xs) (find w ys)
find_join w [] ys = refl
find_join w (x ∷ xs) ys = step (w x) (find_join w xs ys)
  where
    step : (b : Bool) → find w (xs ++ ys) ≡ option_or (find w xs) (find w ys) → cond b (Some x) (find w (xs ++ ys)) ≡ option_or (cond b (Some x) (find w xs)) (find w ys)
    step true h = refl
    step false h = h

find_row : (w : ℕ × ℕ → Bool) (from : ℕ) (tos : List ℕ) → find w (map (λ to. (from, to)) tos) ≡ option_map (λ to. (from, to)) (find (λ to. w (from, to)) tos)
find_row w from [] = refl
find_row w from (to ∷ tos) = step (w (from, to)) (find_row w from tos)
  where
    step : (b : Bool) → find w (map (λ to. (from, to)) tos) ≡ option_map (λ to. (from, to)) (find (λ to. w (from, to)) tos) → cond b (Some (from, to)) (find w (map (λ to. (from, to)) tos)) ≡ option_map (λ to. (from, to)) (cond b (Some to) (find (λ to. w (from, to)) tos))
    step true h = refl
    step false h = h

find_filter : (p q : ℕ → Bool) (xs : List ℕ) → find q (filter p xs) ≡ find (λ x. p x && q x) xs
find_filter p q [] = refl
find_filter p q (x ∷ xs) = step (p x) (q x) (find_filter p q xs)
  where
    step : (b c : Bool) → find q (filter p xs) ≡ find (λ x. p x && q x) xs → find q (cond b (x ∷ filter p xs) (filter p xs)) ≡ cond (b && q x) (Some x) (find (λ x. p x && q x) xs)
    step true c h = ap (λ o. cond (q x) (Some x) o) h
    step false c h = h

-- the pairs one after the other
pub between : (w : ℕ × ℕ → Bool) (froms tos : List ℕ) → find w (pairs_between froms tos) ≡ first_pair (λ from to. w (from, to)) froms tos
between w [] tos = refl
between w (from ∷ froms) tos =
    find_join w (map (λ to. (from, to)) tos) (pairs_between froms tos)
    ∙ ap (λ (o : Option (ℕ × ℕ)). option_or o (find w (pairs_between froms tos))) (find_row w from tos)
    ∙ ap (λ (o : Option (ℕ × ℕ)). option_or (option_map (λ to. (from, to)) (find (λ to. w (from, to)) tos)) o) (between w froms tos)

among_from : (w : ℕ × ℕ → Bool) (froms tos : List ℕ) → find w (flat_map (λ from. map (λ to. (from, to)) (filter (λ to. not (from == to)) tos)) froms) ≡ first_pair (λ from to. not (from == to) && w (from, to)) froms tos
among_from w [] tos = refl
among_from w (from ∷ froms) tos =
    let rest : List (ℕ × ℕ) = flat_map (λ from. map (λ to. (from, to)) (filter (λ to. not (from == to)) tos)) froms in
    find_join w (map (λ to. (from, to)) (filter (λ to. not (from == to)) tos)) rest
    ∙ ap (λ (o : Option (ℕ × ℕ)). option_or o (find w rest)) (find_row w from (filter (λ to. not (from == to)) tos))
    ∙ ap (λ (o : Option ℕ). option_or (option_map (λ to. (from, to)) o) (find w rest)) (find_filter (λ to. not (from == to)) (λ to. w (from, to)) tos)
    ∙ ap (λ (o : Option (ℕ × ℕ)). option_or (option_map (λ to. (from, to)) (find (λ to. not (from == to) && w (from, to)) tos)) o) (among_from w froms tos)

pub among : (w : ℕ × ℕ → Bool) (ranks : List ℕ) → find w (pairs_among ranks) ≡ first_pair (λ from to. not (from == to) && w (from, to)) ranks ranks
among w ranks = among_from w ranks ranks

-- ---- by a plan and by a state

-- a message waits after the plan just where one waits in the state
message_is : (v : ShapesView) (p : PlanView RankOp) (state : GridState) (from to : ℕ) → IsOf v p state → has_message p from to ≡ waits state (from, to)
message_is v p state from to is = ap (λ (ls : List ℕ). is_some (slice_get ls 0)) (is.lens_are from to) ∙ step (state.waits from to)
  where
    step : {X : Type 0} (ws : List (List X)) → is_some (slice_get (map length ws) 0) ≡ nat_lt 0 (length ws)
    step [] = refl
    step (w ∷ ws) = sym (above (length (w ∷ ws)) (omega arith))
      where
        above : (n : ℕ) → 0 < n → nat_lt 0 n ≡ true
        above n h = grind (arith, nat_tests)

pub scope_pair : (v : ShapesView) (p : PlanView RankOp) (state : GridState) (ranks : List ℕ) → IsOf v p state → find (waits state) (pairs_among ranks) ≡ first_pair (holds_up p false) ranks ranks
scope_pair v p state ranks is = among (waits state) ranks ∙ first_same _ _ ranks ranks (λ from to. ap (λ b. not (from == to) && b) (sym (message_is v p state from to is)))

pub move_pair : (v : ShapesView) (p : PlanView RankOp) (state : GridState) (a b : List ℕ) → IsOf v p state → find (waits state) (pairs_between a b) ≡ first_pair (holds_up p true) a b
move_pair v p state a b is = between (waits state) a b ∙ first_same _ _ a b (λ from to. sym (message_is v p state from to is))

-- ---- where none waits

none_found : (f : ℕ → Bool) (xs : List ℕ) (k : ℕ) → find f xs ≡ None → k < length xs → f (slice_index xs k) ≡ false
none_found f [] k e lt = absurd (omega arith)
none_found f (x ∷ xs) zero e lt = step (f x) refl e
  where
    step : (b : Bool) → f x ≡ b → cond b (Some x) (find f xs) ≡ None → f x ≡ false
    step true h e = absurd cc
    step false h e = h
none_found f (x ∷ xs) (suc k) e lt = none_found f xs k (step (f x) e) (omega arith)
  where
    step : (b : Bool) → cond b (Some x) (find f xs) ≡ None → find f xs ≡ None
    step true e = absurd cc
    step false e = e

none_pair : (test : ℕ → ℕ → Bool) (froms tos : List ℕ) (j k : ℕ) → first_pair test froms tos ≡ None → j < length froms → k < length tos → test (slice_index froms j) (slice_index tos k) ≡ false
none_pair test [] tos j k e lj lk = absurd (omega arith)
none_pair test (x ∷ xs) tos zero k e lj lk = none_found (test x) tos k (step (find (test x) tos) e) lk
  where
    step : (o : Option ℕ) → option_or (option_map (λ to. (x, to)) o) (first_pair test xs tos) ≡ None → o ≡ None
    step None h = refl
    step (Some y) h = absurd cc
none_pair test (x ∷ xs) tos (suc j) k e lj lk = none_pair test xs tos j k (step (find (test x) tos) e) (omega arith) lk
  where
    step : (o : Option ℕ) → option_or (option_map (λ to. (x, to)) o) (first_pair test xs tos) ≡ None → first_pair test xs tos ≡ None
    step None h = h
    step (Some y) h = absurd cc

none_waits : {X : Type 0} (ls : List X) → is_some (slice_get ls 0) ≡ false → ls ≡ []
none_waits [] e = refl
none_waits (l ∷ ls) e = absurd cc

pub quiet_members : (p : PlanView RankOp) (ranks : List ℕ) → ((j k : ℕ) → j < length ranks → k < length ranks → slice_index ranks j ≡ slice_index ranks k → j ≡ k) → first_pair (holds_up p false) ranks ranks ≡ None → IsQuiet p ranks
quiet_members p ranks once e j k lj lk differ =
    none_waits (waiting_lens rank_steps p (slice_index ranks j) (slice_index ranks k)) (step (slice_index ranks j) (slice_index ranks k) (has_message p (slice_index ranks j) (slice_index ranks k)) (λ same. differ (once j k lj lk same)) (none_pair (holds_up p false) ranks ranks j k e lj lk))
  where
    step : (a b : ℕ) (c : Bool) → (a ≡ b → ⊥) → (false || not (a == b)) && c ≡ false → c ≡ false
    step a b c n h = grind (arith, nat_tests)

pub quiet_between : (p : PlanView RankOp) (froms tos : List ℕ) → first_pair (holds_up p true) froms tos ≡ None → AreQuiet p froms tos
quiet_between p froms tos e j k lj lk = none_waits (waiting_lens rank_steps p (slice_index froms j) (slice_index tos k)) (none_pair (holds_up p true) froms tos j k e lj lk)

-- ---- what is told

pub held_quiet : (r : Result (Unit {0}) Halt) (pair : Option (ℕ × ℕ)) (P : Type 0) → r ≡ held_up pair → (pair ≡ None → P) → OnOk r P
held_quiet r None P e f = subst (λ (q : Result (Unit {0}) Halt). OnOk q P) (sym e) (f refl)
held_quiet r (Some x) P e f = subst (λ (q : Result (Unit {0}) Halt). OnOk q P) (sym e) tt

pub held_told : (r : Result (Unit {0}) Halt) (pair other : Option (ℕ × ℕ)) → r ≡ held_up pair → other ≡ pair → IsHeldUp r other
held_told r None other e f = subst (λ (q : Result (Unit {0}) Halt). IsHeldUp q other) (sym e) f
held_told r (Some x) other e f = subst (λ (q : Result (Unit {0}) Halt). IsHeldUp q other) (sym e) (ap waiting f)

-- ---- scopes of a grid

below_is : (a b : ℕ) → nat_lt a b ≡ true → a < b
below_is a b h = grind (arith, nat_tests)

not_below : (a b : ℕ) → nat_lt a b ≡ false → a < b → ⊥
not_below a b h k = grind (arith, nat_tests)

pub scope_there : (g : Grid) (scope : Scope) → is_scope_of g scope ≡ true → IsScopeOf g scope
scope_there g (Row p) h = below_is p g.nprow h
scope_there g (Column q) h = below_is q g.npcol h
scope_there g All h = tt

pub scope_missing : (g : Grid) (scope : Scope) → is_scope_of g scope ≡ false → IsScopeOf g scope → ⊥
scope_missing g (Row p) h k = not_below p g.nprow h k
scope_missing g (Column q) h k = not_below q g.npcol h k
scope_missing g All h k = absurd cc

pub members_there : (g : Grid) (scope : Scope) → is_scope_of g scope ≡ true → members_of g scope ≡ members g scope
members_there g scope h = ap (λ b. cond b (members g scope) []) h

pub members_missing : (g : Grid) (scope : Scope) → is_scope_of g scope ≡ false → members_of g scope ≡ []
members_missing g scope h = ap (λ b. cond b (members g scope) []) h

pub pair_of : (test : ℕ → ℕ → Bool) (xs ys ranks : List ℕ) (o : Option (ℕ × ℕ)) → o ≡ first_pair test xs ys → xs ≡ ranks → ys ≡ ranks → o ≡ first_pair test ranks ranks
pair_of test xs ys ranks o e f g = e ∙ ap (λ zs. first_pair test zs ys) f ∙ ap (λ zs. first_pair test ranks zs) g
