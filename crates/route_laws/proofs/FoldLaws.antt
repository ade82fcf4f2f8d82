-- What the root of a combine holds is the fold of all words, in scope order.
use Rattle.std.proofs.Common.{◌≡◌, ℕ, ◌<◌, List, length, refl, sym, ap, ◌∙◌, subst, ℤ}
use Rattle.fold_ops.specs.declared.held.Held.{Held}
use Rattle.fold_ops.specs.Join.{sum_joined, max_joined, min_joined}
use Rattle.fold_ops.specs.Tree.{Tree, one, both, JoinsAll, AllFit, word_at, joined_over}
use Rattle.fold_ops.specs.SumLaws.{sum_gives_fold}
use Rattle.fold_ops.specs.OrderLaws.{max_gives_fold, min_gives_fold}
use Rattle.route_tree.specs.Routes.{IsRoute}
use Rattle.route_laws.specs.Passing.{along, turned, combined, combined_for_all}
use Rattle.route_laws.specs.Joining.{joined_by, tree_of}
use Rattle.fold_ops.specs.FoldOf.{sum_of, added, word_with_place, greatest_of, least_of}
use Rattle.route_laws.specs.Elements.{PassesEach}
use Rattle.route_laws.proofs.Edges.{EachEdge, IsWithinScope, all_within}
use Rattle.route_laws.proofs.AlongLaws.{along_related, along_same, turned_within}
use Rattle.route_laws.proofs.BroadcastLaws.{broadcast_gives}
use Rattle.route_laws.proofs.CombineLaws.{is_joined_by, root_joins_all}
use Rattle.fold_ops.proofs.FoldOfLaws.{is_greatest_of, is_least_of}

over_words : (join : Held → Held → Held) (words : List ℤ) (t : Tree) → joined_by join (word_with_place words) t ≡ joined_over join words t
over_words join words (one k) = refl
over_words join words (both a b) = ap (λ x. join x (joined_by join (word_with_place words) b)) (over_words join words a) ∙ ap (λ x. join (joined_over join words a) x) (over_words join words b)

-- where each member holds its word with its place, the combine is one way of joining
pub is_joined_over : (n source : ℕ) (edges : List (ℕ × ℕ)) → IsRoute n source edges → (join : Held → Held → Held) (words : List ℤ) (p : ℕ) → p < n → combined join edges (word_with_place words) p ≡ joined_over join words (tree_of edges p)
is_joined_over n source edges route join words p lt = is_joined_by n join edges (all_within n source edges route) (word_with_place words) p lt ∙ over_words join words (tree_of edges p)

-- the root's value is what some way that joins each member once gives
pub root_over_words : (join : Held → Held → Held) (words : List ℤ) (source : ℕ) (edges : List (ℕ × ℕ)) → source < length words → IsRoute (length words) source edges
    → (tree : Tree) × JoinsAll (length words) tree × (combined join edges (word_with_place words) source ≡ joined_over join words tree)
root_over_words join words source edges s_in route = (tree_of edges source, root_joins_all (length words) source edges s_in route, is_joined_over (length words) source edges route join words source s_in)

-- what is true of every way that joins all is true of the root
pub combined_gives : (join : Held → Held → Held) (IsFold : List ℤ → Held → Type 0)
    → ((words : List ℤ) (tree : Tree) → AllFit words → JoinsAll (length words) tree → IsFold words (joined_over join words tree))
    → (words : List ℤ) (source : ℕ) (edges : List (ℕ × ℕ)) → AllFit words → source < length words → IsRoute (length words) source edges → IsFold words (combined join edges (word_with_place words) source)
combined_gives join IsFold gives words source edges fit s_in route =
    rw (is_joined_over (length words) source edges route join words source s_in) (gives words (tree_of edges source) fit (root_joins_all (length words) source edges s_in route))

pub greatest_combined : (words : List ℤ) (source : ℕ) (edges : List (ℕ × ℕ)) → AllFit words → source < length words → IsRoute (length words) source edges → combined max_joined edges (word_with_place words) source ≡ greatest_of words
greatest_combined words source edges fit s_in route =
    is_joined_over (length words) source edges route max_joined words source s_in
    ∙ is_greatest_of words (joined_over max_joined words (tree_of edges source)) (max_gives_fold words (tree_of edges source) fit (root_joins_all (length words) source edges s_in route))

pub least_combined : (words : List ℤ) (source : ℕ) (edges : List (ℕ × ℕ)) → AllFit words → source < length words → IsRoute (length words) source edges → combined min_joined edges (word_with_place words) source ≡ least_of words
least_combined words source edges fit s_in route =
    is_joined_over (length words) source edges route min_joined words source s_in
    ∙ is_least_of words (joined_over min_joined words (tree_of edges source)) (min_gives_fold words (tree_of edges source) fit (root_joins_all (length words) source edges s_in route))

-- ---- sums, by their values alone

summed : (words : List ℤ) (source : ℕ) (edges : List (ℕ × ℕ)) → AllFit words → source < length words → IsRoute (length words) source edges → (combined sum_joined edges (word_with_place words) source).value ≡ sum_of words
unfolding sum_of
summed words source edges fit s_in route =
    ap (λ (h : Held). h.value) (is_joined_over (length words) source edges route sum_joined words source s_in)
    ∙ (sum_gives_fold words (tree_of edges source) fit (root_joins_all (length words) source edges s_in route)).value

pub sum_combined : {A : Type 0} (value : A → ℤ) (join : A → A → A) → ((a b : A) → value (join a b) ≡ added (value a) (value b))
    → (words : List ℤ) (source : ℕ) (edges : List (ℕ × ℕ)) → AllFit words → source < length words → IsRoute (length words) source edges
    → (have : ℕ → A) → ((p : ℕ) → p < length words → value (have p) ≡ word_at words p) → value (combined join edges have source) ≡ sum_of words
sum_combined {A} value join adds words source edges fit s_in route have holds =
    along_related (length words) (λ q a (h : Held). value a ≡ h.value) (λ e child parent. join parent child) (λ e child parent. sum_joined parent child) (turned edges)
    (turned_within (length words) edges (all_within (length words) source edges route))
    (λ e a b c d from to child parent. adds b a ∙ ap (λ x. added x (value a)) parent ∙ ap (λ x. added d.value x) child)
    have (word_with_place words) holds source s_in
    ∙ summed words source edges fit s_in route

-- ---- all members have it in the end

pub for_all_gives : {X : Type 0} (n source : ℕ) (edges : List (ℕ × ℕ)) → IsRoute n source edges → (join : X → X → X) (have : ℕ → X) (p : ℕ) → p < n → combined_for_all join edges have p ≡ combined join edges have source
for_all_gives n source edges route join have p lt = broadcast_gives n source edges route (combined join edges have) p lt

-- ---- element by element

-- what a member holds in the end is in good order, and so is each element
pub record HasEach {A X : Type 0} (len : ℕ) (IsGood : A → Type 0) (element : A → ℕ → X) (all : A) (last : ℕ → X) : Type 0 where
  pub good : IsGood all
  pub each : (k : ℕ) → k < len → element all k ≡ last k

pub passed_each : {A X : Type 0} (n len : ℕ) (IsGood : A → Type 0) (element : A → ℕ → X) (step : ℕ × ℕ → X → X → X) (step_all : ℕ × ℕ → A → A → A) → PassesEach len IsGood element step step_all
    → (es : List (ℕ × ℕ)) → EachEdge (IsWithinScope n) es → (have : ℕ → A) → ((p : ℕ) → p < n → IsGood (have p))
    → (p : ℕ) → p < n → HasEach len IsGood element (along step_all es have p) (λ k. along step es (λ q. element (have q) k) p)
passed_each {A} {X} n len IsGood element step step_all passes es within have good p lt = record { good = (at 0).0; each = λ k k_lt. (at k).1 k_lt }
  where
    at : (k : ℕ) → IsGood (along step_all es have p) × (k < len → element (along step_all es have p) k ≡ along step es (λ q. element (have q) k) p)
    at k = along_related n (λ q (a : A) (x : X). IsGood a × (k < len → element a k ≡ x)) step_all step es within
        (λ e a b c d from to start end. (
          passes.good e a b start.0 end.0,
          λ k_lt. passes.each e a b start.0 end.0 k k_lt ∙ ap (λ x. step e x (element b k)) (start.1 k_lt) ∙ ap (λ x. step e c x) (end.1 k_lt),
        ))
        have (λ q. element (have q) k) (λ q q_lt. (good q q_lt, λ k_lt. refl)) p lt

-- n words of 32 bits for each of the first elements
pub record AreWords (n len : ℕ) (words : ℕ → List ℤ) : Type 0 where
  pub count : (k : ℕ) → k < len → length (words k) ≡ n
  pub fit : (k : ℕ) → k < len → AllFit (words k)

-- what is true of every combine of words is true of each element
folded_each : {A X : Type 0} (n len source : ℕ) (edges : List (ℕ × ℕ)) → source < n → IsRoute n source edges → (IsGood : A → Type 0) (element : A → ℕ → X) (join : X → X → X) (step_all : ℕ × ℕ → A → A → A)
    → PassesEach len IsGood element (λ e child parent. join parent child) step_all → (have : ℕ → A) → ((p : ℕ) → p < n → IsGood (have p))
    → (held : ℕ → ℕ → X) → ((p : ℕ) → p < n → (k : ℕ) → k < len → element (have p) k ≡ held k p)
    → (k : ℕ) → k < len → element (along step_all (turned edges) have source) k ≡ combined join edges (held k) source
folded_each n len source edges s_in route IsGood element join step_all passes have good held is k k_lt =
    let within : EachEdge (IsWithinScope n) (turned edges) = turned_within n edges (all_within n source edges route) in
    (passed_each n len IsGood element (λ e child parent. join parent child) step_all passes (turned edges) within have good source s_in).each k k_lt
    ∙ along_same n (λ e child parent. join parent child) (turned edges) within (λ q. element (have q) k) (held k) (λ q q_lt. is q q_lt k k_lt) source s_in

pub greatest_each : {A : Type 0} (n len source : ℕ) (edges : List (ℕ × ℕ)) → source < n → IsRoute n source edges → (IsGood : A → Type 0) (element : A → ℕ → Held) (step_all : ℕ × ℕ → A → A → A)
    → PassesEach len IsGood element (λ e child parent. max_joined parent child) step_all → (have : ℕ → A) → ((p : ℕ) → p < n → IsGood (have p))
    → (words : ℕ → List ℤ) → AreWords n len words → ((p : ℕ) → p < n → (k : ℕ) → k < len → element (have p) k ≡ word_with_place (words k) p)
    → (k : ℕ) → k < len → element (along step_all (turned edges) have source) k ≡ greatest_of (words k)
greatest_each n len source edges s_in route IsGood element step_all passes have good words are is k k_lt =
    let same : n ≡ length (words k) = sym (are.count k k_lt) in
    folded_each n len source edges s_in route IsGood element max_joined step_all passes have good (λ j. word_with_place (words j)) is k k_lt
    ∙ greatest_combined (words k) source edges (are.fit k k_lt) (let P : ℕ → Type 0 = λ m. source < m in subst P same s_in) (let P : ℕ → Type 0 = λ m. IsRoute m source edges in subst P same route)

pub least_each : {A : Type 0} (n len source : ℕ) (edges : List (ℕ × ℕ)) → source < n → IsRoute n source edges → (IsGood : A → Type 0) (element : A → ℕ → Held) (step_all : ℕ × ℕ → A → A → A)
    → PassesEach len IsGood element (λ e child parent. min_joined parent child) step_all → (have : ℕ → A) → ((p : ℕ) → p < n → IsGood (have p))
    → (words : ℕ → List ℤ) → AreWords n len words → ((p : ℕ) → p < n → (k : ℕ) → k < len → element (have p) k ≡ word_with_place (words k) p)
    → (k : ℕ) → k < len → element (along step_all (turned edges) have source) k ≡ least_of (words k)
least_each n len source edges s_in route IsGood element step_all passes have good words are is k k_lt =
    let same : n ≡ length (words k) = sym (are.count k k_lt) in
    folded_each n len source edges s_in route IsGood element min_joined step_all passes have good (λ j. word_with_place (words j)) is k k_lt
    ∙ least_combined (words k) source edges (are.fit k k_lt) (let P : ℕ → Type 0 = λ m. source < m in subst P same s_in) (let P : ℕ → Type 0 = λ m. IsRoute m source edges in subst P same route)

pub sum_each : {A : Type 0} (n len source : ℕ) (edges : List (ℕ × ℕ)) → source < n → IsRoute n source edges → (IsGood : A → Type 0) (value : A → ℕ → ℤ) (step_all : ℕ × ℕ → A → A → A)
    → PassesEach len IsGood value (λ e child parent. added parent child) step_all → (have : ℕ → A) → ((p : ℕ) → p < n → IsGood (have p))
    → (words : ℕ → List ℤ) → AreWords n len words → ((p : ℕ) → p < n → (k : ℕ) → k < len → value (have p) k ≡ word_at (words k) p)
    → (k : ℕ) → k < len → value (along step_all (turned edges) have source) k ≡ sum_of (words k)
sum_each n len source edges s_in route IsGood value step_all passes have good words are is k k_lt =
    let same : n ≡ length (words k) = sym (are.count k k_lt) in
    folded_each n len source edges s_in route IsGood value added step_all passes have good (λ j. word_at (words j)) is k k_lt
    ∙ sum_combined (λ v. v) added (λ a b. refl) (words k) source edges (are.fit k k_lt) (let P : ℕ → Type 0 = λ m. source < m in subst P same s_in) (let P : ℕ → Type 0 = λ m. IsRoute m source edges in subst P same route)
    (word_at (words k)) (λ p lt. refl)

-- where each end takes the first elements of its start, all members have in the end those of the source
pub spread_each : {A X : Type 0} (n len source : ℕ) (edges : List (ℕ × ℕ)) → IsRoute n source edges → (IsGood : A → Type 0) (element : A → ℕ → X) (step_all : ℕ × ℕ → A → A → A)
    → PassesEach len IsGood element (λ e start end. start) step_all → (have : ℕ → A) → ((p : ℕ) → p < n → IsGood (have p))
    → (p : ℕ) → p < n → HasEach len IsGood element (along step_all edges have p) (element (have source))
spread_each n len source edges route IsGood element step_all passes have good p lt =
    let has = passed_each n len IsGood element (λ e start end. start) step_all passes edges (all_within n source edges route) have good p lt in
    record { good = has.good; each = λ k k_lt. has.each k k_lt ∙ broadcast_gives n source edges route (λ q. element (have q) k) p lt }

-- the same through a view of what members hold
pub passes_through : {B A X : Type 0} (view : B → A) (len : ℕ) (IsGood : A → Type 0) (element : A → ℕ → X) (step : ℕ × ℕ → X → X → X) (step_all : ℕ × ℕ → A → A → A) (act : ℕ × ℕ → B → B → B)
    → PassesEach len IsGood element step step_all → ((e : ℕ × ℕ) (a b : B) → view (act e a b) ≡ step_all e (view a) (view b))
    → PassesEach len (λ b. IsGood (view b)) (λ b. element (view b)) step act
passes_through {B} {A} {X} view len IsGood element step step_all act passes same = record {
  good = λ e a b a_good b_good. subst IsGood (sym (same e a b)) (passes.good e (view a) (view b) a_good b_good);
  each = λ e a b a_good b_good k lt. ap (λ x. element x k) (same e a b) ∙ passes.each e (view a) (view b) a_good b_good k lt;
}
