-- Memories with an accumulator, into which the members load their words, and which messages join and replace.
use Rattle.std.specs.Prelude.{◌≡◌, ◌<◌, ◌≤◌, ◌^◌, ℕ, ℤ, FitsSigned, List, length, map}
use Rattle.std.specs.Int.{w32}
use Rattle.std.specs.List.{range_with_len}
use Rattle.fold_ops.specs.declared.held.Held.{Held}
use Rattle.msg_core.specs.declared.node.Node.{Ghosts as NodeOf}
use Rattle.pack_words.specs.Accumulators.{element_of}
use Rattle.route_plans.specs.PlanPassing.{taken_in}

-- room for n elements, and places of 32 bits in the first n
pub record IsAccumulator (n : ℕ) (hs : List Held) : Type 0 where
  pub room : n ≤ length hs
  pub places : (k : ℕ) → k < n → (element_of hs k).place < 2 ^ 32

-- the words of the members of a scope at one element, in scope order
abbrev pub words_of_scope : {N : Type 0} → ℕ → (ℕ → N → ℕ → ℤ) → (ℕ → N) → ℕ → List ℤ
words_of_scope n word memory k = map (λ p. word p (memory p) k) (range_with_len 0 n)

-- n members with room for len elements, whose words are 32 bits wide, and whose places are
pub record AreReady {N : Type 0} (n len : ℕ) (acc : N → List Held) (word : ℕ → N → ℕ → ℤ) (memory : ℕ → N) : Type 0 where
  pub few : n ≤ 2 ^ 32
  pub room : (p : ℕ) → p < n → len ≤ length (acc (memory p))
  pub fit : (p : ℕ) → p < n → (k : ℕ) → k < len → FitsSigned w32 (word p (memory p) k)

module _ {N Op : Type 0} (g : NodeOf N Op) where
  -- the load of the member at position p puts its words with their place into the first len elements, and leaves the rest of the memory
  pub record Loads {Y : Type 0} (len : ℕ) (acc : N → List Held) (rest : N → Y) (word : ℕ → N → ℕ → ℤ) (load : ℕ → Op) : Type 0 where
    pub elements : (p : ℕ) (a : N) → len ≤ length (acc a) → (k : ℕ) → k < len → element_of (acc (g.acted a (load p))) k ≡ record { value = word p a k; place = p }
    pub room : (p : ℕ) (a : N) → len ≤ length (acc a) → len ≤ length (acc (g.acted a (load p)))
    pub rest_stays : (p : ℕ) (a : N) → rest (g.acted a (load p)) ≡ rest a

  -- the message of an edge does to the accumulator of its end what the step says, and leaves the rest of the memory
  pub record Moves {Y : Type 0} (acc : N → List Held) (rest : N → Y) (send receive : ℕ × ℕ → Op) (step : ℕ × ℕ → List Held → List Held → List Held) : Type 0 where
    pub elements : (e : ℕ × ℕ) (a b : N) → acc (taken_in g send receive e a b) ≡ step e (acc a) (acc b)
    pub rest_stays : (e : ℕ × ℕ) (a b : N) → rest (taken_in g send receive e a b) ≡ rest b
