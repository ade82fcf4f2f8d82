-- A world that passes edges by its own steps does what passing says; and how many steps and messages there are.
use Rattle.std.proofs.Common.{◌≡◌, ◌≢◌, ℕ, zero, suc, ◌+◌, ◌-◌, ◌*◌, ◌<◌, List, [], ◌∷◌, ◌++◌, length, take, get_or, map, suc-mul, refl, sym, ap, ◌∙◌, arith, inl, inr, ◌⊎◌}
use Rattle.std.specs.Prelude.{nat_eq, true, false, reverse}
use Rattle.std.specs.List.{range_with_len, sum_by}
use Rattle.std.proofs.lemmas.Bool.Decides.{eqb_tells}
use Rattle.std.proofs.lemmas.List.{length-append, length-map, length-reverse, take_more}
use Rattle.std.proofs.lemmas.List.Sums.{sum_by-cons, sum_by-append}
use Rattle.std.proofs.lemmas.List.FromFn.{length-map-range_with_len}
use Rattle.route_tree.specs.Routes.{IsRoute}
use Rattle.route_laws.specs.Passing.{passed, along, turned_edge, turned}
use Rattle.route_laws.specs.Doing.{done, passing, both_steps, each_member, combine_steps, combine_for_all_steps, barrier_steps, DoesPass}
use Rattle.route_laws.proofs.Edges.{EachEdge, each_edge, IsWithinScope, ends_differ}
use Rattle.route_laws.proofs.AlongLaws.{along_same, turned-cons, each-append}

-- ---- doing

pub done-append : {W S : Type 0} (act : W → S → W) (ss ts : List S) (w : W) → done act (ss ++ ts) w ≡ done act ts (done act ss w)
done-append act [] ts w = refl
done-append act (s ∷ ss) ts w = done-append act ss ts (act w s)

-- the two steps of each edge are one action
pub done-passing : {W S : Type 0} (act : W → S → W) (send receive : ℕ × ℕ → S) (es : List (ℕ × ℕ)) (w : W) → done act (passing send receive es) w ≡ done (both_steps act send receive) es w
done-passing act send receive [] w = refl
done-passing act send receive (e ∷ es) w = done-passing act send receive es (act (act w (send e)) (receive e))

-- both ends are members, and differ
abbrev pub IsProper : ℕ → ℕ × ℕ → Type 0
IsProper n e = (e.0 < n) × (e.1 < n) × (e.0 ≢ e.1)

within_of : (n : ℕ) (es : List (ℕ × ℕ)) → EachEdge (IsProper n) es → EachEdge (IsWithinScope n) es
within_of n [] all = tt
within_of n (e ∷ es) all = ((all.0.0, all.0.1), within_of n es all.1)

pub route_proper : (n source : ℕ) (edges : List (ℕ × ℕ)) → IsRoute n source edges → EachEdge (IsProper n) edges
route_proper n source edges route = each_edge (IsProper n) edges (λ i from to a. let ends = route.ends i from to a in (ends.0, ends.1, ends_differ n source edges route i from to a))

pub turned_proper : (n : ℕ) (es : List (ℕ × ℕ)) → EachEdge (IsProper n) es → EachEdge (IsProper n) (turned es)
turned_proper n [] all = tt
turned_proper n (e ∷ es) all = rw (turned-cons e es) (each-append (IsProper n) (turned es) (turned_edge e ∷ []) (turned_proper n es all.1) ((all.0.1, all.0.0, λ same. all.0.2 (sym same)), tt))

-- the world stays in good order, and its members hold in the end what passing says
pub record HasPassed {W X : Type 0} (n : ℕ) (IsGood : W → Type 0) (held : W → ℕ → X) (step : ℕ × ℕ → X → X → X) (es : List (ℕ × ℕ)) (before after : W) : Type 0 where
  pub good : IsGood after
  pub holds : (p : ℕ) → p < n → held after p ≡ along step es (held before) p

pub does_along : {W X : Type 0} (n : ℕ) (IsGood : W → Type 0) (held : W → ℕ → X) (step : ℕ × ℕ → X → X → X) (act : W → ℕ × ℕ → W) → DoesPass n IsGood held step act
    → (es : List (ℕ × ℕ)) → EachEdge (IsProper n) es → (w : W) → IsGood w → HasPassed n IsGood held step es w (done act es w)
does_along n IsGood held step act does [] all w good = record { good = good; holds = λ p lt. refl }
does_along {W} {X} n IsGood held step act does (e ∷ es) all w good =
    let rest = does_along n IsGood held step act does es all.1 (act w e) (does.good w e.0 e.1 all.0.0 all.0.1 all.0.2 good) in
    record {
      good = rest.good;
      holds = λ p lt. rest.holds p lt ∙ along_same n step es (within_of n es all.1) (held (act w e)) (passed step e (held w)) (λ q q_lt. one q q_lt (eqb_tells q e.1)) p lt;
    }
  where
    one : (q : ℕ) → q < n → ((nat_eq q e.1 ≡ true) × (q ≡ e.1)) ⊎ ((nat_eq q e.1 ≡ false) × (q ≢ e.1)) → held (act w e) q ≡ passed step e (held w) q
    one q q_lt (inl is) = rw is.0 (ap (held (act w e)) is.1 ∙ does.end w e.0 e.1 all.0.0 all.0.1 all.0.2 good)
    one q q_lt (inr other) = rw other.0 (does.others w e.0 e.1 q all.0.0 all.0.1 all.0.2 good q_lt other.1)

-- ---- numbers of steps, messages and words

pub length-turned : (es : List (ℕ × ℕ)) → length (turned es) ≡ length es
length-turned es = length-map (reverse es) turned_edge ∙ length-reverse es

pub length-passing : {S : Type 0} (send receive : ℕ × ℕ → S) (es : List (ℕ × ℕ)) → length (passing send receive es) ≡ 2 * length es
length-passing send receive [] = refl
length-passing send receive (e ∷ es) = let rest : length (passing send receive es) ≡ 2 * length es = length-passing send receive es in omega arith

-- where each send counts w and each receive nothing
pub weight-passing : {S : Type 0} (weight : S → ℕ) (send receive : ℕ × ℕ → S) (w : ℕ) → ((e : ℕ × ℕ) → weight (send e) ≡ w) → ((e : ℕ × ℕ) → weight (receive e) ≡ 0)
    → (es : List (ℕ × ℕ)) → sum_by weight (passing send receive es) ≡ length es * w
weight-passing weight send receive w sends receives [] = omega arith
weight-passing weight send receive w sends receives (e ∷ es) =
    let rest : sum_by weight (passing send receive es) ≡ length es * w = weight-passing weight send receive w sends receives es in
    let a : weight (send e) ≡ w = sends e in
    let b : weight (receive e) ≡ 0 = receives e in
    let more : length (e ∷ es) * w ≡ length es * w + w = suc-mul (length es) w in
    sum_by-cons weight (send e) (receive e ∷ passing send receive es) ∙ ap (λ x. weight (send e) + x) (sum_by-cons weight (receive e) (passing send receive es)) ∙ omega arith

pub weight-each_member : {S : Type 0} (weight : S → ℕ) (step : ℕ → S) → ((p : ℕ) → weight (step p) ≡ 0) → (a n : ℕ) → sum_by weight (map step (range_with_len a n)) ≡ 0
weight-each_member weight step none a zero = refl
weight-each_member weight step none a (suc n) =
    let rest : sum_by weight (map step (range_with_len (a + 1) n)) ≡ 0 = weight-each_member weight step none (a + 1) n in
    let first : weight (step a) ≡ 0 = none a in
    sum_by-cons weight (step a) (map step (range_with_len (a + 1) n)) ∙ omega arith

pub length-each_member : {S : Type 0} (step : ℕ → S) (n : ℕ) → length (each_member step n) ≡ n
length-each_member step n = length-map-range_with_len step 0 n

pub broadcast_count : {S : Type 0} (n source : ℕ) (edges : List (ℕ × ℕ)) → IsRoute n source edges → (send receive : ℕ × ℕ → S) → length (passing send receive edges) ≡ 2 * (n - 1)
broadcast_count n source edges route send receive = let count = route.count in length-passing send receive edges ∙ omega arith

pub turned_count : {S : Type 0} (n source : ℕ) (edges : List (ℕ × ℕ)) → IsRoute n source edges → (send receive : ℕ × ℕ → S) → length (passing send receive (turned edges)) ≡ 2 * (n - 1)
turned_count n source edges route send receive = let count = route.count in let same : length (turned edges) ≡ length edges = length-turned edges in length-passing send receive (turned edges) ∙ omega arith

pub combine_count : {S : Type 0} (n source : ℕ) (edges : List (ℕ × ℕ)) → 0 < n → IsRoute n source edges → (load : ℕ → S) (send receive : ℕ × ℕ → S) (store : ℕ → S)
    → length (combine_steps load send receive store n source edges) ≡ 3 * n - 1
combine_count {S} n source edges some route load send receive store =
    let loads : length (each_member load n) ≡ n = length-each_member load n in
    let ups : length (passing send receive (turned edges)) ≡ 2 * (n - 1) = turned_count n source edges route send receive in
    let front : length (each_member load n ++ passing send receive (turned edges)) ≡ length (each_member load n) + length (passing send receive (turned edges)) = length-append (each_member load n) (passing send receive (turned edges)) in
    length-append (each_member load n ++ passing send receive (turned edges)) (store source ∷ []) ∙ omega arith

pub combine_for_all_count : {S : Type 0} (n source : ℕ) (edges : List (ℕ × ℕ)) → 0 < n → IsRoute n source edges → (load : ℕ → S) (send receive send' receive' : ℕ × ℕ → S) (store : ℕ → S)
    → length (combine_for_all_steps load send receive send' receive' store n edges) ≡ 6 * n - 4
combine_for_all_count {S} n source edges some route load send receive send' receive' store =
    let loads : length (each_member load n) ≡ n = length-each_member load n in
    let stores : length (each_member store n) ≡ n = length-each_member store n in
    let ups : length (passing send receive (turned edges)) ≡ 2 * (n - 1) = turned_count n source edges route send receive in
    let downs : length (passing send' receive' edges) ≡ 2 * (n - 1) = broadcast_count n source edges route send' receive' in
    let first : length (each_member load n ++ passing send receive (turned edges)) ≡ length (each_member load n) + length (passing send receive (turned edges)) = length-append (each_member load n) (passing send receive (turned edges)) in
    let second : length (each_member load n ++ passing send receive (turned edges) ++ passing send' receive' edges) ≡ length (each_member load n ++ passing send receive (turned edges)) + length (passing send' receive' edges)
    = length-append (each_member load n ++ passing send receive (turned edges)) (passing send' receive' edges) in
    length-append (each_member load n ++ passing send receive (turned edges) ++ passing send' receive' edges) (each_member store n) ∙ omega arith

pub barrier_count : {S : Type 0} (n source : ℕ) (edges : List (ℕ × ℕ)) → IsRoute n source edges → (send receive : ℕ × ℕ → S) → length (barrier_steps send receive edges) ≡ 4 * (n - 1)
barrier_count n source edges route send receive =
    let ups : length (passing send receive (turned edges)) ≡ 2 * (n - 1) = turned_count n source edges route send receive in
    let downs : length (passing send receive edges) ≡ 2 * (n - 1) = broadcast_count n source edges route send receive in
    length-append (passing send receive (turned edges)) (passing send receive edges) ∙ omega arith

pub route_weight : {S : Type 0} (n source : ℕ) (edges : List (ℕ × ℕ)) → IsRoute n source edges → (send receive : ℕ × ℕ → S)
    → (weight : S → ℕ) (w : ℕ) → ((e : ℕ × ℕ) → weight (send e) ≡ w) → ((e : ℕ × ℕ) → weight (receive e) ≡ 0)
    → (sum_by weight (passing send receive edges) ≡ (n - 1) * w) × (sum_by weight (passing send receive (turned edges)) ≡ (n - 1) * w)
route_weight n source edges route send receive weight w sends receives = (
  weight-passing weight send receive w sends receives edges ∙ ap (λ k. k * w) route.count,
  weight-passing weight send receive w sends receives (turned edges) ∙ ap (λ k. k * w) (length-turned edges ∙ route.count),
)

-- of whole calls, where what members do by themselves counts nothing
pub combine_weight : {S : Type 0} (n source : ℕ) (edges : List (ℕ × ℕ)) → IsRoute n source edges → (load : ℕ → S) (send receive : ℕ × ℕ → S) (store : ℕ → S)
    → (weight : S → ℕ) (w : ℕ) → ((p : ℕ) → weight (load p) ≡ 0) → ((e : ℕ × ℕ) → weight (send e) ≡ w) → ((e : ℕ × ℕ) → weight (receive e) ≡ 0) → ((p : ℕ) → weight (store p) ≡ 0)
    → sum_by weight (combine_steps load send receive store n source edges) ≡ (n - 1) * w
combine_weight n source edges route load send receive store weight w loads sends receives stores =
    let first : sum_by weight (each_member load n) ≡ 0 = weight-each_member weight load loads 0 n in
    let second : sum_by weight (passing send receive (turned edges)) ≡ (n - 1) * w = (route_weight n source edges route send receive weight w sends receives).1 in
    let last : sum_by weight (store source ∷ []) ≡ 0 = sum_by-cons weight (store source) [] ∙ let z = stores source in omega arith in
    sum_by-append weight (each_member load n ++ passing send receive (turned edges)) (store source ∷ [])
    ∙ ap (λ x. x + sum_by weight (store source ∷ [])) (sum_by-append weight (each_member load n) (passing send receive (turned edges)))
    ∙ omega arith

pub combine_for_all_weight : {S : Type 0} (n source : ℕ) (edges : List (ℕ × ℕ)) → IsRoute n source edges → (load : ℕ → S) (send receive send' receive' : ℕ × ℕ → S) (store : ℕ → S)
    → (weight : S → ℕ) (w : ℕ) → ((p : ℕ) → weight (load p) ≡ 0) → ((e : ℕ × ℕ) → weight (send e) ≡ w) → ((e : ℕ × ℕ) → weight (receive e) ≡ 0) → ((e : ℕ × ℕ) → weight (send' e) ≡ w) → ((e : ℕ × ℕ) → weight (receive' e) ≡ 0)
    → ((p : ℕ) → weight (store p) ≡ 0) → sum_by weight (combine_for_all_steps load send receive send' receive' store n edges) ≡ 2 * (n - 1) * w
combine_for_all_weight n source edges route load send receive send' receive' store weight w loads sends receives sends' receives' stores =
    let first : sum_by weight (each_member load n) ≡ 0 = weight-each_member weight load loads 0 n in
    let second : sum_by weight (passing send receive (turned edges)) ≡ (n - 1) * w = (route_weight n source edges route send receive weight w sends receives).1 in
    let third : sum_by weight (passing send' receive' edges) ≡ (n - 1) * w = (route_weight n source edges route send' receive' weight w sends' receives').0 in
    let last : sum_by weight (each_member store n) ≡ 0 = weight-each_member weight store stores 0 n in
    let twice : 2 * (n - 1) * w ≡ (n - 1) * w + (n - 1) * w = grind arith in
    sum_by-append weight (each_member load n ++ passing send receive (turned edges) ++ passing send' receive' edges) (each_member store n)
    ∙ ap (λ x. x + sum_by weight (each_member store n)) (sum_by-append weight (each_member load n ++ passing send receive (turned edges)) (passing send' receive' edges))
    ∙ ap (λ x. x + sum_by weight (passing send' receive' edges) + sum_by weight (each_member store n)) (sum_by-append weight (each_member load n) (passing send receive (turned edges)))
    ∙ omega arith

pub barrier_weight : {S : Type 0} (n source : ℕ) (edges : List (ℕ × ℕ)) → IsRoute n source edges → (send receive : ℕ × ℕ → S)
    → (weight : S → ℕ) (w : ℕ) → ((e : ℕ × ℕ) → weight (send e) ≡ w) → ((e : ℕ × ℕ) → weight (receive e) ≡ 0) → sum_by weight (barrier_steps send receive edges) ≡ 2 * (n - 1) * w
barrier_weight n source edges route send receive weight w sends receives =
    let both = route_weight n source edges route send receive weight w sends receives in
    let up : sum_by weight (passing send receive (turned edges)) ≡ (n - 1) * w = both.1 in
    let down : sum_by weight (passing send receive edges) ≡ (n - 1) * w = both.0 in
    let twice : 2 * (n - 1) * w ≡ (n - 1) * w + (n - 1) * w = grind arith in
    sum_by-append weight (passing send receive (turned edges)) (passing send receive edges) ∙ omega arith

-- ---- one edge more

pub passing-append : {S : Type 0} (send receive : ℕ × ℕ → S) (es fs : List (ℕ × ℕ)) → passing send receive (es ++ fs) ≡ passing send receive es ++ passing send receive fs
passing-append send receive [] fs = refl
passing-append send receive (e ∷ es) fs = ap (λ ss. send e ∷ receive e ∷ ss) (passing-append send receive es fs)

pub each_take : (P : ℕ × ℕ → Type 0) (i : ℕ) (es : List (ℕ × ℕ)) → EachEdge P es → EachEdge P (take i es)
each_take P zero es all = tt
each_take P (suc i) [] all = tt
each_take P (suc i) (e ∷ es) all = (all.0, each_take P i es all.1)

pub passing_more : {S : Type 0} (send receive : ℕ × ℕ → S) (edges : List (ℕ × ℕ)) (i : ℕ) → i < length edges
    → passing send receive (take (i + 1) edges) ≡ passing send receive (take i edges) ++ send (get_or edges i (0, 0)) ∷ receive (get_or edges i (0, 0)) ∷ []
passing_more send receive edges i lt = ap (passing send receive) (take_more edges i (0, 0) lt) ∙ passing-append send receive (take i edges) (get_or edges i (0, 0) ∷ [])
