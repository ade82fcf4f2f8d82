-- What combines of accumulators give, of the memories alone.
use Rattle.std.proofs.Common.{◌≡◌, ℕ, ◌<◌, ℤ, pos, List, length, refl, sym, ap, ◌∙◌, subst, arith}
use Rattle.std.specs.Prelude.{FitsSigned}
use Rattle.std.specs.Int.{w32}
use Rattle.std.proofs.lemmas.List.FromFn.{get_or-map-range_with_len, length-map-range_with_len}
use Rattle.fold_ops.specs.declared.held.Held.{Held}
use Rattle.fold_ops.specs.Join.{max_joined, min_joined}
use Rattle.fold_ops.specs.Tree.{word_at}
use Rattle.fold_ops.specs.SumLaws.{made}
use Rattle.route_tree.specs.Routes.{IsRoute}
use Rattle.msg_core.specs.declared.node.Node.{Ghosts as NodeOf}
use Rattle.route_laws.specs.Passing.{along, turned}
use Rattle.fold_ops.specs.FoldOf.{sum_of, added, word_with_place, greatest_of, least_of}
use Rattle.route_laws.specs.Elements.{PassesEach}
use Rattle.pack_words.specs.Accumulators.{element_of, value_of, pairs_message, values_message, joined_with, added_with, replaced_by_pairs, replaced_by_values}
use Rattle.route_laws.proofs.Edges.{all_within}
use Rattle.route_laws.proofs.AlongLaws.{along_keeps, turned_within}
use Rattle.route_laws.proofs.FoldLaws.{AreWords, passed_each, passes_through, greatest_each, least_each, sum_each, spread_each}
use Rattle.route_plans.proofs.AccumulatorLaws.{pairs_join, values_add, pairs_replace, values_replace, max_keeps_places, min_keeps_places}
use Rattle.route_plans.specs.PlanPassing.{taken_in, loaded, gathered_up}
use Rattle.route_plans.specs.Gathering.{IsAccumulator, Loads, Moves, words_of_scope, AreReady}

module _ {N Op Y : Type 0} (g : NodeOf N Op) (n len source : ℕ) (edges : List (ℕ × ℕ)) (acc : N → List Held) (rest : N → Y) (word : ℕ → N → ℕ → ℤ) (load : ℕ → Op) (send receive : ℕ × ℕ → Op) (memory : ℕ → N) where
  loaded_good : Loads g len acc rest word load → AreReady n len acc word memory → (p : ℕ) → p < n → IsAccumulator len (acc (loaded g load memory p))
  loaded_good loads ready p lt = record {
    room = loads.room p (memory p) (ready.room p lt);
    places = λ k k_lt.
        let e : (element_of (acc (loaded g load memory p)) k).place ≡ p = ap (λ (h : Held). h.place) (loads.elements p (memory p) (ready.room p lt) k k_lt) in
        let few = ready.few in
        omega arith;
  }

  word_is : (k p : ℕ) → p < n → word_at (words_of_scope n word memory k) p ≡ word p (memory p) k
  word_is k p lt = get_or-map-range_with_len (λ q. word q (memory q) k) 0 n p p (pos 0) lt (omega arith)

  count_is : (k : ℕ) → length (words_of_scope n word memory k) ≡ n
  count_is k = length-map-range_with_len (λ q. word q (memory q) k) 0 n

  scope_words : AreReady n len acc word memory → AreWords n len (words_of_scope n word memory)
  scope_words ready = record {
    count = λ k k_lt. count_is k;
    fit = λ k k_lt p lt.
        let size : length (words_of_scope n word memory k) ≡ n = count_is k in
        let below : p < n = omega arith in
        let P : ℤ → Type 0 = λ w. FitsSigned w32 w in
        subst P (sym (word_is k p below)) (ready.fit p below k k_lt);
  }

  loaded_held : Loads g len acc rest word load → AreReady n len acc word memory → (p : ℕ) → p < n → (k : ℕ) → k < len → element_of (acc (loaded g load memory p)) k ≡ word_with_place (words_of_scope n word memory k) p
  loaded_held loads ready p lt k k_lt =
      loads.elements p (memory p) (ready.room p lt) k k_lt ∙ made (word p (memory p) k) (word_at (words_of_scope n word memory k) p) p p (sym (word_is k p lt)) refl

  -- the root's elements are the folds of the scope's words
  pub gathers_greatest : source < n → IsRoute n source edges → Loads g len acc rest word load → AreReady n len acc word memory
      → Moves g acc rest send receive (λ e child parent. joined_with max_joined len parent (pairs_message len child))
      → (k : ℕ) → k < len → element_of (acc (gathered_up g load send receive edges memory source)) k ≡ greatest_of (words_of_scope n word memory k)
  gathers_greatest s_in route loads ready moves k k_lt =
      greatest_each n len source edges s_in route (λ a. IsAccumulator len (acc a)) (λ a. element_of (acc a)) (taken_in g send receive)
      (passes_through acc len (IsAccumulator len) element_of (λ e child parent. max_joined parent child) (λ e child parent. joined_with max_joined len parent (pairs_message len child)) (taken_in g send receive) (pairs_join max_joined max_keeps_places len) moves.elements)
      (loaded g load memory) (loaded_good loads ready) (words_of_scope n word memory) (scope_words ready) (loaded_held loads ready) k k_lt

  pub gathers_least : source < n → IsRoute n source edges → Loads g len acc rest word load → AreReady n len acc word memory
      → Moves g acc rest send receive (λ e child parent. joined_with min_joined len parent (pairs_message len child))
      → (k : ℕ) → k < len → element_of (acc (gathered_up g load send receive edges memory source)) k ≡ least_of (words_of_scope n word memory k)
  gathers_least s_in route loads ready moves k k_lt =
      least_each n len source edges s_in route (λ a. IsAccumulator len (acc a)) (λ a. element_of (acc a)) (taken_in g send receive)
      (passes_through acc len (IsAccumulator len) element_of (λ e child parent. min_joined parent child) (λ e child parent. joined_with min_joined len parent (pairs_message len child)) (taken_in g send receive) (pairs_join min_joined min_keeps_places len) moves.elements)
      (loaded g load memory) (loaded_good loads ready) (words_of_scope n word memory) (scope_words ready) (loaded_held loads ready) k k_lt

  pub gathers_sum : source < n → IsRoute n source edges → Loads g len acc rest word load → AreReady n len acc word memory
      → Moves g acc rest send receive (λ e child parent. added_with len parent (values_message len child))
      → (k : ℕ) → k < len → value_of (acc (gathered_up g load send receive edges memory source)) k ≡ sum_of (words_of_scope n word memory k)
  gathers_sum s_in route loads ready moves k k_lt =
      sum_each n len source edges s_in route (λ a. IsAccumulator len (acc a)) (λ a. value_of (acc a)) (taken_in g send receive)
      (passes_through acc len (IsAccumulator len) value_of (λ e child parent. added parent child) (λ e child parent. added_with len parent (values_message len child)) (taken_in g send receive) (values_add len) moves.elements)
      (loaded g load memory) (loaded_good loads ready) (words_of_scope n word memory) (scope_words ready) (λ p lt j j_lt. ap (λ (h : Held). h.value) (loaded_held loads ready p lt j j_lt)) k k_lt

  -- the rest of every memory is as it was
  pub gathers_rest : (step : ℕ × ℕ → List Held → List Held → List Held) → Loads g len acc rest word load → Moves g acc rest send receive step → (p : ℕ) → rest (gathered_up g load send receive edges memory p) ≡ rest (memory p)
  gathers_rest step loads moves p = along_keeps rest (taken_in g send receive) moves.rest_stays (turned edges) (loaded g load memory) p ∙ loads.rest_stays p (memory p)

  -- in the end of a combine the accumulators of the members are in good order
  pub gathers_good : (step : ℕ × ℕ → List Held → List Held → List Held) {X : Type 0} (element : List Held → ℕ → X) (step_x : ℕ × ℕ → X → X → X) → PassesEach len (IsAccumulator len) element step_x step
      → IsRoute n source edges → Loads g len acc rest word load → AreReady n len acc word memory → Moves g acc rest send receive step → (p : ℕ) → p < n → IsAccumulator len (acc (gathered_up g load send receive edges memory p))
  gathers_good step element step_x passes route loads ready moves p lt =
      (passed_each n len (λ a. IsAccumulator len (acc a)) (λ a. element (acc a)) step_x (taken_in g send receive)
      (passes_through acc len (IsAccumulator len) element step_x step (taken_in g send receive) passes moves.elements)
      (turned edges) (turned_within n edges (all_within n source edges route)) (loaded g load memory) (loaded_good loads ready) p lt).good

-- every member has in the end of the broadcast the root's elements
module _ {N Op Y : Type 0} (g : NodeOf N Op) (n len source : ℕ) (edges : List (ℕ × ℕ)) (acc : N → List Held) (rest : N → Y) (send receive : ℕ × ℕ → Op) (memory : ℕ → N) where
  pub spreads_pairs : IsRoute n source edges → ((p : ℕ) → p < n → IsAccumulator len (acc (memory p))) → Moves g acc rest send receive (λ e start end. replaced_by_pairs len end (pairs_message len start))
      → (p : ℕ) → p < n → (k : ℕ) → k < len → element_of (acc (along (taken_in g send receive) edges memory p)) k ≡ element_of (acc (memory source)) k
  spreads_pairs route good moves p lt k k_lt =
      (spread_each n len source edges route (λ a. IsAccumulator len (acc a)) (λ a. element_of (acc a)) (taken_in g send receive)
      (passes_through acc len (IsAccumulator len) element_of (λ e start end. start) (λ e start end. replaced_by_pairs len end (pairs_message len start)) (taken_in g send receive) (pairs_replace len) moves.elements)
      memory good p lt).each k k_lt

  pub spreads_values : IsRoute n source edges → ((p : ℕ) → p < n → IsAccumulator len (acc (memory p))) → Moves g acc rest send receive (λ e start end. replaced_by_values len end (values_message len start))
      → (p : ℕ) → p < n → (k : ℕ) → k < len → value_of (acc (along (taken_in g send receive) edges memory p)) k ≡ value_of (acc (memory source)) k
  spreads_values route good moves p lt k k_lt =
      (spread_each n len source edges route (λ a. IsAccumulator len (acc a)) (λ a. value_of (acc a)) (taken_in g send receive)
      (passes_through acc len (IsAccumulator len) value_of (λ e start end. start) (λ e start end. replaced_by_values len end (values_message len start)) (taken_in g send receive) (values_replace len) moves.elements)
      memory good p lt).each k k_lt

  -- and the accumulators of the members stay in good order
  pub spreads_good : (step : ℕ × ℕ → List Held → List Held → List Held) {X : Type 0} (element : List Held → ℕ → X) (step_x : ℕ × ℕ → X → X → X) → PassesEach len (IsAccumulator len) element step_x step
      → IsRoute n source edges → ((p : ℕ) → p < n → IsAccumulator len (acc (memory p))) → Moves g acc rest send receive step → (p : ℕ) → p < n → IsAccumulator len (acc (along (taken_in g send receive) edges memory p))
  spreads_good step element step_x passes route good moves p lt =
      (passed_each n len (λ a. IsAccumulator len (acc a)) (λ a. element (acc a)) step_x (taken_in g send receive)
      (passes_through acc len (IsAccumulator len) element step_x step (taken_in g send receive) passes moves.elements)
      edges (all_within n source edges route) memory good p lt).good

  pub spreads_rest : (step : ℕ × ℕ → List Held → List Held → List Held) → Moves g acc rest send receive step → (p : ℕ) → rest (along (taken_in g send receive) edges memory p) ≡ rest (memory p)
  spreads_rest step moves p = along_keeps rest (taken_in g send receive) moves.rest_stays edges memory p

-- a combine to all: every member has in the end the folds of the scope's words
module _ {N Op Y : Type 0} (g : NodeOf N Op) (n len source : ℕ) (edges : List (ℕ × ℕ)) (acc : N → List Held) (rest : N → Y) (word : ℕ → N → ℕ → ℤ) (load : ℕ → Op) (send receive send' receive' : ℕ × ℕ → Op) (memory : ℕ → N) where
  pub spreads_greatest : source < n → IsRoute n source edges → Loads g len acc rest word load → AreReady n len acc word memory
      → Moves g acc rest send receive (λ e child parent. joined_with max_joined len parent (pairs_message len child)) → Moves g acc rest send' receive' (λ e start end. replaced_by_pairs len end (pairs_message len start))
      → (p : ℕ) → p < n → (k : ℕ) → k < len → element_of (acc (along (taken_in g send' receive') edges (gathered_up g load send receive edges memory) p)) k ≡ greatest_of (words_of_scope n word memory k)
  spreads_greatest s_in route loads ready moves moves' p lt k k_lt =
      spreads_pairs g n len source edges acc rest send' receive' (gathered_up g load send receive edges memory) route
      (gathers_good g n len source edges acc rest word load send receive memory (λ e child parent. joined_with max_joined len parent (pairs_message len child)) element_of (λ e child parent. max_joined parent child) (pairs_join max_joined max_keeps_places len) route loads ready moves)
      moves' p lt k k_lt
      ∙ gathers_greatest g n len source edges acc rest word load send receive memory s_in route loads ready moves k k_lt

  pub spreads_least : source < n → IsRoute n source edges → Loads g len acc rest word load → AreReady n len acc word memory
      → Moves g acc rest send receive (λ e child parent. joined_with min_joined len parent (pairs_message len child)) → Moves g acc rest send' receive' (λ e start end. replaced_by_pairs len end (pairs_message len start))
      → (p : ℕ) → p < n → (k : ℕ) → k < len → element_of (acc (along (taken_in g send' receive') edges (gathered_up g load send receive edges memory) p)) k ≡ least_of (words_of_scope n word memory k)
  spreads_least s_in route loads ready moves moves' p lt k k_lt =
      spreads_pairs g n len source edges acc rest send' receive' (gathered_up g load send receive edges memory) route
      (gathers_good g n len source edges acc rest word load send receive memory (λ e child parent. joined_with min_joined len parent (pairs_message len child)) element_of (λ e child parent. min_joined parent child) (pairs_join min_joined min_keeps_places len) route loads ready moves)
      moves' p lt k k_lt
      ∙ gathers_least g n len source edges acc rest word load send receive memory s_in route loads ready moves k k_lt

  pub spreads_sum : source < n → IsRoute n source edges → Loads g len acc rest word load → AreReady n len acc word memory
      → Moves g acc rest send receive (λ e child parent. added_with len parent (values_message len child)) → Moves g acc rest send' receive' (λ e start end. replaced_by_values len end (values_message len start))
      → (p : ℕ) → p < n → (k : ℕ) → k < len → value_of (acc (along (taken_in g send' receive') edges (gathered_up g load send receive edges memory) p)) k ≡ sum_of (words_of_scope n word memory k)
  spreads_sum s_in route loads ready moves moves' p lt k k_lt =
      spreads_values g n len source edges acc rest send' receive' (gathered_up g load send receive edges memory) route
      (gathers_good g n len source edges acc rest word load send receive memory (λ e child parent. added_with len parent (values_message len child)) value_of (λ e child parent. added parent child) (values_add len) route loads ready moves)
      moves' p lt k k_lt
      ∙ gathers_sum g n len source edges acc rest word load send receive memory s_in route loads ready moves k k_lt
