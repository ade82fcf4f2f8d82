-- What is declared and planned so far stands for a state of the program.
use Rattle.std.specs.Prelude.{◌≡◌, ℕ, ◌+◌, List, [], ◌∷◌, ◌++◌, Option, None, Some, Result, Ok, Err, length, Vec, Bool, is_some, IfSome}
use Rattle.std.specs.Global.{Global}
use Rattle.std.specs.Option.{option_map}
use Rattle.proc_grid.specs.Grid.{Grid}
use Rattle.msg_core.specs.Plans.{PlanView, message_count, word_count}
use Rattle.pack_words.specs.declared.rank_op.RankOp.{RankOp}
use Rattle.pack_words.specs.GridState.{GridState, rank_steps}
use Rattle.descriptor.specs.declared.spread.Spread.{Spread}
use Rattle.std.specs.List.{AllByRecursion}
use Rattle.pack_words.specs.GridShapes.{ShapesView, IsSize}
use Rattle.pack_words.specs.GridPlans.{IsOf, Appends}
use Rattle.program_meaning.specs.declared.fault.ExecFault.{ExecFault}
use Rattle.program_meaning.specs.ProgramState.{ProgramState, large_fault}
use Rattle.program_meaning.specs.Declarations.{words_in, with_zeros}
use Rattle.line_plans.specs.Exact.{IsExact, HasMore}
use Rattle.line_plans.specs.declared.declared.Declared.{Declared}
use Rattle.line_plans.specs.declared.grown.Grown.{Grown}
use Rattle.line_plans.specs.declared.halt.Halt.{Halt}
use Rattle.line_plans.specs.declared.halt.Halt.TheVariants.{Fault, NoMemory}

-- the state whose arrays and waiting messages are these
abbrev pub state_of : Declared → PlanView RankOp → GridState → ProgramState
state_of d p state = record {
  grids = d.contexts;
  shapes = d.shapes;
  spreads = d.spreads.items;
  state = state;
  operations = length p.steps;
  messages = message_count rank_steps p.steps;
  words = d.words + word_count rank_steps p.steps;
}

-- it is such a state, and its arrays and messages are of the plan
pub record IsAt (d : Declared) (p : PlanView RankOp) (s : ProgramState) : Type 0 where
  pub state_is : s ≡ state_of d p s.state
  pub of_plan : IsOf d.shapes p s.state

-- the plan q is the plan p with more operations, which lead from this state of the arrays and messages to that one
pub record Carries (v : ShapesView) (p q : PlanView RankOp) (from to : GridState) : Type 0 where
  pub does : GridState → GridState
  pub appends : Appends v p q does
  pub gives : to ≡ does from

-- an exchange line, after the plan p and this state, is answered as its meaning says; out of memory may stand in the place of any answer
abbrev pub IsExchanged : Result (Unit {0}) Halt → Declared → PlanView RankOp → PlanView RankOp → GridState → Result ProgramState ExecFault → Type 0
IsExchanged (Ok done) d p q state (Ok s) = IsAt d q s × Carries d.shapes p q state s.state
IsExchanged (Ok done) d p q state (Err f) = ⊥
IsExchanged (Err (Fault f)) d p q state (Ok s) = ⊥
IsExchanged (Err (Fault f)) d p q state (Err e) = f ≡ e
IsExchanged (Err NoMemory) d p q state r = Unit {0}

-- so many words are looked at
abbrev pub IsCounted : Result (Unit {0}) Halt → ℕ → Type 0
IsCounted (Ok done) words = large_fault words ≡ None
IsCounted (Err (Fault f)) words = large_fault words ≡ Some f
IsCounted (Err NoMemory) words = Unit {0}

-- before the first exchange: it is such a state, and each rank holds just the arrays that are declared
pub record IsFresh (d : Declared) (p : PlanView RankOp) (s : ProgramState) : Type 0 where
  pub at : IsAt d p s
  pub exact : IsExact d.shapes s.state

-- the sizes of a new array by rank, where there is one
abbrev pub sizes_in : Option (Vec (ℕ × ℕ) Global) → Option (List (ℕ × ℕ))
sizes_in sizes = option_map (λ v. v.items) sizes

-- a state whose ranks have one array more, of these sizes and of words that are 0
abbrev pub grown_by : Option (List (ℕ × ℕ)) → GridState → GridState
grown_by None state = state
grown_by (Some sizes) state = record { arrays = with_zeros sizes state.arrays; waits = state.waits }

-- a declaration, in this state of the arrays and messages, is answered as its meaning says; out of memory may stand in the place of any answer
abbrev pub IsGrown : Result Grown Halt → PlanView RankOp → GridState → Result ProgramState ExecFault → Type 0
IsGrown (Ok x) p state (Ok s) = IsFresh x.declared p s × (s.state ≡ grown_by (sizes_in x.sizes) state)
IsGrown (Ok x) p state (Err f) = ⊥
IsGrown (Err (Fault f)) p state (Ok s) = ⊥
IsGrown (Err (Fault f)) p state (Err e) = f ≡ e
IsGrown (Err NoMemory) p state r = Unit {0}

-- so many ranks, of which nothing is declared
pub record IsBegun (d : Declared) (ranks : ℕ) : Type 0 where
  pub contexts : d.contexts ≡ []
  pub shapes : d.shapes ≡ record { ranks = ranks; count = 0; sizes = [] }
  pub spreads : d.spreads.items ≡ []
  pub words : d.words ≡ 0

-- the same with one grid more, and no array
pub record HasGridMore (before after : Declared) (g : Grid) : Type 0 where
  pub contexts : after.contexts ≡ before.contexts ++ g ∷ []
  pub shapes : after.shapes ≡ before.shapes
  pub spreads : after.spreads.items ≡ before.spreads.items
  pub words : after.words ≡ before.words

-- one grid more
abbrev pub IsGridMore : Declared → Declared → Type 0
IsGridMore before after = (g : Grid) × HasGridMore before after g

-- the same with one array more, of these sizes by rank
pub record HasArrayMore (before after : Declared) (spread : Option Spread) (sizes : List (ℕ × ℕ)) : Type 0 where
  pub contexts : after.contexts ≡ before.contexts
  pub shapes : after.shapes ≡ record { ranks = before.shapes.ranks; count = before.shapes.count + 1; sizes = before.shapes.sizes ++ sizes }
  pub more : HasMore before.shapes after.shapes sizes
  pub spreads : after.spreads.items ≡ before.spreads.items ++ spread ∷ []
  pub words : after.words ≡ before.words + words_in sizes

-- one array more, with a spread (an ARRAY) or without (a MATRIX)
abbrev pub IsArrayMore : Bool → Declared → Declared → Type 0
IsArrayMore is_spread before after = (spread : Option Spread) × (sizes : List (ℕ × ℕ)) × HasArrayMore before after spread sizes × (is_some spread ≡ is_spread)

-- sizes that arrays can have
abbrev pub AreSizes : Option (Vec (ℕ × ℕ) Global) → Type 0
AreSizes sizes = IfSome sizes (λ v. AllByRecursion IsSize v.items)
