-- What the results of a program ask for is there after all its lines.
use Rattle.std.proofs.Common.{◌≡◌, ℕ, ◌+◌, ◌<◌, ◌≤◌, Bool, true, false, List, [], ◌∷◌, ◌++◌, Some, refl, sym, ap, subst, ◌∙◌, append_assoc, append-nil, arith}
use Rattle.std.specs.Prelude.{slice_get}
use Rattle.std.specs.List.{AllByRecursion}
use Rattle.grid_lang.specs.declared.part.Part.{Part}
use Rattle.grid_lang.specs.declared.part.Part.TheVariants.{Opening, Declarations, Exchanges, Results}
use Rattle.grid_lang.specs.declared.line.Line.{Line}
use Rattle.grid_lang.specs.declared.line.Line.TheVariants.{Ranks, Grid, Map, Array, Matrix, Load, Fill, Send, Recv, Bcast, Sum, Amx, Amn, Barrier, Gemr2d, Trmr2d, Save, SavePieces, PrintArray, PrintMatrix}
use Rattle.grid_lang.specs.declared.line.Numbered.{Numbered}
use Rattle.grid_lang.specs.Parts.{may_stand, reached_by}
use Rattle.grid_lang.specs.ProgramParts.{part_of_line}
use Rattle.grid_lang.specs.Facts.{Known, nothing_known, declared_after, known_after, known_after_all, IsArray, IsMatrix, Keeps, AreSound, IsSound}
use Rattle.grid_lang.proofs.FactSteps.{get_more}
use Rattle.grid_lang.proofs.FactLaws.{first_is_ranks}

-- what a result asks for
abbrev pub AsksFor : Known → Line → Type 0
AsksFor k (Save x file) = IsArray k x
AsksFor k (SavePieces x prefix) = IsArray k x
AsksFor k (PrintArray x) = IsArray k x
AsksFor k (PrintMatrix v rank) = IsMatrix k v × (rank < k.ranks)
AsksFor k other = Unit {0}

-- nothing is lost, and the number of ranks stays
pub record Grows (k later : Known) : Type 0 where
  pub ranks : later.ranks ≡ k.ranks
  pub grids : k.grids ≤ later.grids
  pub more : List Bool
  pub arrays : later.arrays ≡ k.arrays ++ more

pub stays : (k later : Known) → later.ranks ≡ k.ranks → later.grids ≡ k.grids → later.arrays ≡ k.arrays → Grows k later
stays k later ranks grids arrays = record { ranks = ranks; grids = no_fewer k.grids later.grids grids; more = []; arrays = arrays ∙ sym (append-nil k.arrays) } where
  no_fewer : (n m : ℕ) → m ≡ n → n ≤ m
  no_fewer n m e = omega arith

grows_on : (k next last : Known) → Grows k next → Grows next last → Grows k last
grows_on k next last a b = record {
  ranks = b.ranks ∙ a.ranks;
  grids = in_turn k.grids next.grids last.grids a.grids b.grids;
  more = a.more ++ b.more;
  arrays = b.arrays ∙ ap (λ (xs : List Bool). xs ++ b.more) a.arrays ∙ append_assoc k.arrays a.more b.more;
} where
  in_turn : (n m i : ℕ) → n ≤ m → m ≤ i → n ≤ i
  in_turn n m i a b = omega arith

-- RANKS stands at the opening alone
past_ranks : (p : Part) → (p ≡ Opening → ⊥) → may_stand p Opening ≡ true → ⊥
past_ranks Opening past e = past refl
past_ranks Declarations past e = absurd cc
past_ranks Exchanges past e = absurd cc
past_ranks Results past e = absurd cc

one_more_grid : (n : ℕ) → n ≤ n + 1
one_more_grid n = omega arith

one_grows : (k : Known) (line : Line) → (k.reached ≡ Opening → ⊥) → may_stand k.reached (part_of_line line) ≡ true → Grows k (known_after k line)
unfolding declared_after
one_grows k (Ranks n) past e = absurd (past_ranks k.reached past e)
one_grows k (Grid order nprow npcol) past e = record { ranks = refl; grids = one_more_grid k.grids; more = []; arrays = sym (append-nil k.arrays) }
one_grows k (Map nprow npcol ranks) past e = record { ranks = refl; grids = one_more_grid k.grids; more = []; arrays = sym (append-nil k.arrays) }
one_grows k (Array name g m n mb nb rsrc csrc lld) past e = record { ranks = refl; grids = omega arith; more = true ∷ []; arrays = refl }
one_grows k (Matrix name lld cols) past e = record { ranks = refl; grids = omega arith; more = false ∷ []; arrays = refl }
one_grows k (Load x file) past e = stays k _ refl refl refl
one_grows k (Fill y a b c d) past e = stays k _ refl refl refl
one_grows k (Send g p q area rdest cdest tri) past e = stays k _ refl refl refl
one_grows k (Recv g p q area rsrc csrc tri) past e = stays k _ refl refl refl
one_grows k (Bcast g scope top rsrc csrc area tri) past e = stays k _ refl refl refl
one_grows k (Sum g scope top dest area) past e = stays k _ refl refl refl
one_grows k (Amx g scope top dest area rc) past e = stays k _ refl refl refl
one_grows k (Amn g scope top dest area rc) past e = stays k _ refl refl refl
one_grows k (Barrier g scope) past e = stays k _ refl refl refl
one_grows k (Gemr2d mr) past e = stays k _ refl refl refl
one_grows k (Trmr2d uplo diag mr) past e = stays k _ refl refl refl
one_grows k (Save x file) past e = stays k _ refl refl refl
one_grows k (SavePieces x prefix) past e = stays k _ refl refl refl
one_grows k (PrintArray x) past e = stays k _ refl refl refl
one_grows k (PrintMatrix v rank) past e = stays k _ refl refl refl

past_now : (p : Part) → reached_by p ≡ Opening → ⊥
past_now Opening e = cc
past_now Declarations e = cc
past_now Exchanges e = cc
past_now Results e = cc

pub all_grow : (k : Known) (lines : List Numbered) → (k.reached ≡ Opening → ⊥) → AreSound k lines → Grows k (known_after_all k lines)
all_grow k [] past sound = stays k k refl refl refl
all_grow k (l ∷ more) past sound =
    grows_on k (known_after k l.line) (known_after_all (known_after k l.line) more) (one_grows k l.line past sound.0)
    (all_grow (known_after k l.line) more (past_now (part_of_line l.line)) sound.2)

-- an array stays what it is
array_stays : (k later : Known) (x : ℕ) (b : Bool) → Grows k later → slice_get k.arrays x ≡ Some b → slice_get later.arrays x ≡ Some b
array_stays k later x b grows e = ap (λ (xs : List Bool). slice_get xs x) grows.arrays ∙ get_more k.arrays grows.more x b e

rank_stays : (k later : Known) (rank : ℕ) → Grows k later → rank < k.ranks → rank < later.ranks
rank_stays k later rank grows less = subst (λ (n : ℕ). rank < n) (sym grows.ranks) less

asked : (k later : Known) (line : Line) → Grows k later → Keeps k line → AsksFor later line
unfolding Keeps
asked k later (Ranks n) grows keeps = tt
asked k later (Grid order nprow npcol) grows keeps = tt
asked k later (Map nprow npcol ranks) grows keeps = tt
asked k later (Array name g m n mb nb rsrc csrc lld) grows keeps = tt
asked k later (Matrix name lld cols) grows keeps = tt
asked k later (Load x file) grows keeps = tt
asked k later (Fill y a b c d) grows keeps = tt
asked k later (Send g p q area rdest cdest tri) grows keeps = tt
asked k later (Recv g p q area rsrc csrc tri) grows keeps = tt
asked k later (Bcast g scope top rsrc csrc area tri) grows keeps = tt
asked k later (Sum g scope top dest area) grows keeps = tt
asked k later (Amx g scope top dest area rc) grows keeps = tt
asked k later (Amn g scope top dest area rc) grows keeps = tt
asked k later (Barrier g scope) grows keeps = tt
asked k later (Gemr2d mr) grows keeps = tt
asked k later (Trmr2d uplo diag mr) grows keeps = tt
asked k later (Save x file) grows keeps = array_stays k later x true grows keeps
asked k later (SavePieces x prefix) grows keeps = array_stays k later x true grows keeps
asked k later (PrintArray x) grows keeps = array_stays k later x true grows keeps
asked k later (PrintMatrix v rank) grows keeps = (array_stays k later v false grows keeps.0, rank_stays k later rank grows keeps.1)

-- each result of these lines asks for what is there after them
pub all_asked : (k : Known) (lines : List Numbered) → (k.reached ≡ Opening → ⊥) → AreSound k lines → AllByRecursion (λ l. AsksFor (known_after_all k lines) l.line) lines
all_asked k [] past sound = tt
all_asked k (l ∷ more) past sound = (
  asked k (known_after_all k (l ∷ more)) l.line (all_grow k (l ∷ more) past sound) sound.1,
  all_asked (known_after k l.line) more (past_now (part_of_line l.line)) sound.2,
)

opens_alone : (k : Known) (line : Line) → part_of_line line ≡ Opening → AsksFor k line
opens_alone k (Save x file) e = absurd cc
opens_alone k (SavePieces x prefix) e = absurd cc
opens_alone k (PrintArray x) e = absurd cc
opens_alone k (PrintMatrix v rank) e = absurd cc
opens_alone k (Ranks n) e = tt
opens_alone k (Grid order nprow npcol) e = tt
opens_alone k (Map nprow npcol ranks) e = tt
opens_alone k (Array name g m n mb nb rsrc csrc lld) e = tt
opens_alone k (Matrix name lld cols) e = tt
opens_alone k (Load x file) e = tt
opens_alone k (Fill y a b c d) e = tt
opens_alone k (Send g p q area rdest cdest tri) e = tt
opens_alone k (Recv g p q area rsrc csrc tri) e = tt
opens_alone k (Bcast g scope top rsrc csrc area tri) e = tt
opens_alone k (Sum g scope top dest area) e = tt
opens_alone k (Amx g scope top dest area rc) e = tt
opens_alone k (Amn g scope top dest area rc) e = tt
opens_alone k (Barrier g scope) e = tt
opens_alone k (Gemr2d mr) e = tt
opens_alone k (Trmr2d uplo diag mr) e = tt

-- and so of a whole program
pub results_asked : (program : List Numbered) → IsSound program → AllByRecursion (λ l. AsksFor (known_after_all nothing_known program) l.line) program
results_asked [] is = tt
results_asked (l ∷ more) is = (
  opens_alone (known_after_all nothing_known (l ∷ more)) l.line (first_is_ranks l more is),
  all_asked (known_after nothing_known l.line) more (past_now (part_of_line l.line)) is.lines.2,
)
