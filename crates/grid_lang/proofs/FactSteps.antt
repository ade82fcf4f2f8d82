-- Each line that is read keeps what lines keep, and what is declared after it is known.
use Rattle.std.proofs.Common.{◌≡◌, ℕ, zero, suc, ◌+◌, ◌*◌, ◌^◌, ◌<◌, ◌≤◌, Bool, true, false, cond, List, [], ◌∷◌, ◌++◌, length, Option, Some, None, Result, Ok, Err, refl, sym, ap, subst, ◌∙◌, arith}
use Rattle.std.specs.Prelude.{◌-◌, ◌==◌, ◌||◌, codes, slice_get, nat_le, nat_lt, bytes_eq}
use Rattle.std.proofs.lemmas.Bool.{ltb-true, ltb-false, leb-false, eqb-true, eqb-false, or_parts, or_cases}
use Rattle.std.proofs.lemmas.Option.{slice_get_within}
use Rattle.std.specs.List.{list_any}
use mathlib.Core.Logic.{inl, inr}
use Rattle.line_text.specs.Formats.{and_then}
use Rattle.route_tree.specs.declared.top.Top.{Top}
use Rattle.route_tree.specs.declared.top.Top.TheVariants.{I, D, S, H, F, M, T}
use Rattle.route_tree.specs.Letters.{is_of, top_of}
use Rattle.route_tree.specs.Parents.{HasBranches}
use Rattle.grid_lang.specs.declared.fault.LangFault.{LangFault}
use Rattle.grid_lang.specs.declared.fault.LangFault.TheVariants.{Words, Unknown, Number}
use Rattle.grid_lang.specs.declared.keyword.Keyword.{Keyword}
use Rattle.grid_lang.specs.declared.keyword.Keyword.TheVariants as key
use Rattle.grid_lang.specs.declared.named.Named.{Named}
use Rattle.grid_lang.specs.declared.named.Named.TheVariants as names
use Rattle.grid_lang.specs.declared.line.Area.{Area}
use Rattle.grid_lang.specs.declared.line.Line.{Line}
use Rattle.grid_lang.specs.declared.line.Line.TheVariants.{Ranks, Grid, Map, Array, Matrix, Load, Fill, Send, Recv, Bcast, Sum, Amx, Amn, Barrier, Gemr2d, Trmr2d, Save, SavePieces, PrintArray, PrintMatrix}
use Rattle.grid_lang.specs.declared.part.Part.{Part}
use Rattle.grid_lang.specs.declared.part.Part.TheVariants.{Declarations, Exchanges, Results}
use Rattle.grid_lang.specs.Names.{Declared, with_ranks, with_grid, with_array, with_matrix}
use Rattle.grid_lang.specs.WordKinds.{Word, number, rank_or_fault, rank_below, new_name, grid_of, array_of, matrix_of, either_of, grid, array, matrix, either, or_fault, only_character, named_by, topology_of, topology}
use Rattle.grid_lang.specs.Kinds.{Kind, ANumber, AnInteger, ARank, ANewName, AGrid, AnArray, AMatrix, AnEither, AnOrder, AScope, ATopology, ACharacter, AFile, ThePieces, AnArea, ADestination, PerhapsLead, PerhapsTriangle, PerhapsPlaces, AllNumbers, Meaning, Taken, Makes, has_size, first, area, places, numbers, read, read_as}
use Rattle.grid_lang.specs.Table.{Form, ranks_form, grid_form, map_form, array_form, matrix_form, load_form, fill_form, send_form, recv_form, bcast_form, sum_form, amx_form, amn_form, barrier_form, gemr2d_form, trmr2d_form, save_pieces_form, save_form, print_array_form, print_matrix_form, is_map_size, has_map_size, sized, print_form, line_of}
use Rattle.grid_lang.specs.Programs.{is_outside, passes_limit, declared_by}
use Rattle.grid_lang.specs.Facts.{Known, declared_after, known_after, IsGrid, IsEither, IsArray, IsMatrix, AreEither, IsWithin, Keeps}

-- what a name stands for, where so many grids and these arrays are known
abbrev Stands : ℕ → List Bool → Named → Type 0
Stands grids arrays (names.Grid g) = g < grids
Stands grids arrays (names.Array x) = slice_get arrays x ≡ Some true
Stands grids arrays (names.Matrix v) = slice_get arrays v ≡ Some false

-- what the reader has declared is what is known
pub record Agrees (d : Declared) (k : Known) : Type 0 where
  pub ranks : d.ranks ≡ k.ranks
  pub grids : d.grids ≡ k.grids
  pub arrays : d.arrays ≡ length k.arrays
  pub stands : (word : Word) (what : Named) → d.names word ≡ Some what → Stands k.grids k.arrays what

-- ---- parts of what is read

same_ok : {A : Type 0} (E : Type 0) (a b : A) → (let x : Result A E = Ok a in x ≡ Ok b) → a ≡ b
same_ok E a b e = cc

-- what comes next was given
record Given {A B E : Type 0} (r : Result A E) (next : A → Result B E) (b : B) : Type 0 where
  pub value : A
  pub was : r ≡ Ok value
  pub gives : next value ≡ Ok b

given : {A B E : Type 0} (r : Result A E) (next : A → Result B E) (b : B) → and_then r next ≡ Ok b → Given r next b
given (Ok a) next b e = record { value = a; was = refl; gives = e }
given (Err fault) next b e = absurd cc

record FirstOf {A : Type 0} (reads : Word → Result A LangFault) (word : Word) (ws : List Word) (found : A × List Word) : Type 0 where
  pub was : reads word ≡ Ok found.0
  pub left : ws ≡ found.1

first_of : {A : Type 0} (reads : Word → Result A LangFault) (word : Word) (ws : List Word) (found : A × List Word) → first reads (word ∷ ws) ≡ Ok found → FirstOf reads word ws found
first_of {A = A} reads word ws found e =
    let g = given (reads word) (λ (a : A). let t : Taken A = Ok (a, ws) in t) found e in
    let same : (g.value, ws) ≡ found = same_ok LangFault (g.value, ws) found g.gives in
    record { was = g.was ∙ ap (λ (p : A × List Word). let r : Result A LangFault = Ok p.0 in r) same; left = ap (λ (p : A × List Word). p.1) same }

one_word : {A : Type 0} (reads : Word → Result A LangFault) (ws : List Word) (found : A × List Word) → first reads ws ≡ Ok found → (word : Word) × (reads word ≡ Ok found.0)
one_word reads [] found e = absurd cc
one_word reads (word ∷ ws) found e = (word, (first_of reads word ws found e).was)

-- ---- words of names and ranks

grid_named : (o : Option Named) (g : ℕ) → grid_of o ≡ Ok g → o ≡ Some (names.Grid g)
grid_named (Some (names.Grid k)) g e = ap (λ (n : ℕ). Some (names.Grid n)) (same_ok LangFault k g e)
grid_named (Some (names.Array k)) g e = absurd cc
grid_named (Some (names.Matrix k)) g e = absurd cc
grid_named None g e = absurd cc

array_named : (o : Option Named) (x : ℕ) → array_of o ≡ Ok x → o ≡ Some (names.Array x)
array_named (Some (names.Grid k)) x e = absurd cc
array_named (Some (names.Array k)) x e = ap (λ (n : ℕ). Some (names.Array n)) (same_ok LangFault k x e)
array_named (Some (names.Matrix k)) x e = absurd cc
array_named None x e = absurd cc

matrix_named : (o : Option Named) (v : ℕ) → matrix_of o ≡ Ok v → o ≡ Some (names.Matrix v)
matrix_named (Some (names.Grid k)) v e = absurd cc
matrix_named (Some (names.Array k)) v e = absurd cc
matrix_named (Some (names.Matrix k)) v e = ap (λ (n : ℕ). Some (names.Matrix n)) (same_ok LangFault k v e)
matrix_named None v e = absurd cc

either_named : (o : Option Named) (grids : ℕ) (arrays : List Bool) (y : ℕ) → ((what : Named) → o ≡ Some what → Stands grids arrays what) → either_of o ≡ Ok y → y < length arrays
either_named (Some (names.Grid k)) grids arrays y stands e = absurd cc
either_named (Some (names.Array k)) grids arrays y stands e = subst (λ (n : ℕ). n < length arrays) (same_ok LangFault k y e) (slice_get_within arrays k true (stands (names.Array k) refl))
either_named (Some (names.Matrix k)) grids arrays y stands e = subst (λ (n : ℕ). n < length arrays) (same_ok LangFault k y e) (slice_get_within arrays k false (stands (names.Matrix k) refl))
either_named None grids arrays y stands e = absurd cc

below : (t : Bool) (m ranks n : ℕ) → nat_lt m ranks ≡ t → (let r : Result ℕ LangFault = cond t (Ok m) (Err Number) in r ≡ Ok n) → n < ranks
below true m ranks n less e = subst (λ (i : ℕ). i < ranks) (same_ok LangFault m n e) (ltb-true m ranks less)
below false m ranks n less e = absurd cc

a_rank : (ranks : ℕ) (r : Result ℕ LangFault) (n : ℕ) → rank_or_fault ranks r ≡ Ok n → n < ranks
a_rank ranks (Ok m) n e = below (nat_lt m ranks) m ranks n refl e
a_rank ranks (Err fault) n e = absurd cc

ranks_word : (d : Declared) (k : Known) → Agrees d k → (ws : List Word) (found : ℕ × List Word) → first (rank_below d.ranks) ws ≡ Ok found → found.0 < k.ranks
unfolding rank_below
ranks_word d k is ws found e =
    let w = one_word (rank_below d.ranks) ws found e in
    subst (λ (n : ℕ). found.0 < n) is.ranks (a_rank d.ranks (number w.0) found.0 w.1)

grids_word : (d : Declared) (k : Known) → Agrees d k → (ws : List Word) (found : ℕ × List Word) → first (grid d) ws ≡ Ok found → IsGrid k found.0
unfolding grid
grids_word d k is ws found e =
    let w = one_word (grid d) ws found e in
    is.stands w.0 (names.Grid found.0) (grid_named (d.names w.0) found.0 w.1)

arrays_word : (d : Declared) (k : Known) → Agrees d k → (ws : List Word) (found : ℕ × List Word) → first (array d) ws ≡ Ok found → IsArray k found.0
unfolding array
arrays_word d k is ws found e =
    let w = one_word (array d) ws found e in
    is.stands w.0 (names.Array found.0) (array_named (d.names w.0) found.0 w.1)

matrix_word : (d : Declared) (k : Known) → Agrees d k → (ws : List Word) (found : ℕ × List Word) → first (matrix d) ws ≡ Ok found → IsMatrix k found.0
unfolding matrix
matrix_word d k is ws found e =
    let w = one_word (matrix d) ws found e in
    is.stands w.0 (names.Matrix found.0) (matrix_named (d.names w.0) found.0 w.1)

either_so : (d : Declared) (k : Known) → Agrees d k → (word : Word) (y : ℕ) → either d word ≡ Ok y → IsEither k y
unfolding either
either_so d k is word y e = either_named (d.names word) k.grids k.arrays y (is.stands word) e

either_word : (d : Declared) (k : Known) → Agrees d k → (ws : List Word) (found : ℕ × List Word) → first (either d) ws ≡ Ok found → IsEither k found.0
either_word d k is ws found e =
    let w = one_word (either d) ws found e in
    either_so d k is w.0 found.0 w.1

-- ---- areas, and RA and CA

area_words : (d : Declared) (k : Known) → Agrees d k → (ws : List Word) (found : Area × List Word) → area d ws ≡ Ok found → IsEither k found.0.array
unfolding area
area_words d k is ws found e =
    let y = given (first (either d) ws) _ found e in
    let i = given (first number y.value.1) _ found y.gives in
    let j = given (first number i.value.1) _ found i.gives in
    let m = given (first number j.value.1) _ found j.gives in
    let n = given (first number m.value.1) _ found m.gives in
    let same = same_ok LangFault _ found n.gives in
    subst (λ (p : Area × List Word). IsEither k p.0.array) same (either_word d k is ws y.value y.was)

places_words : (d : Declared) (k : Known) → Agrees d k → (ws : List Word) (found : Option (ℕ × ℕ) × List Word) → places d ws ≡ Ok found → AreEither k found.0
unfolding places
places_words d k is [] found e = subst (λ (p : Option (ℕ × ℕ) × List Word). AreEither k p.0) (same_ok LangFault (None, []) found e) tt
places_words d k is (word ∷ ws) found e =
    let r = given (either d word) _ found e in
    let c = given (first (either d) ws) _ found r.gives in
    let same = same_ok LangFault _ found c.gives in
    subst (λ (p : Option (ℕ × ℕ) × List Word). AreEither k p.0) same (either_so d k is word r.value r.was, either_word d k is ws c.value c.was)

-- ---- topologies

-- a topology here, or one of the letters after it
letter : (t : Bool) (here : Top) (rest : Option Top) (top : Top) → (t ≡ true → HasBranches here) → (rest ≡ Some top → HasBranches top) → cond t (Some here) rest ≡ Some top → HasBranches top
letter true here rest top good others e = subst HasBranches (same_top here top e) (good refl) where
  same_top : (a b : Top) → Some a ≡ Some b → a ≡ b
  same_top a b e = cc
letter false here rest top good others e = others e

abbrev AreDigits : List ℕ → Type 0
AreDigits [] = Unit {0}
AreDigits (x ∷ xs) = (49 ≤ x) × (x ≤ 57) × AreDigits xs

same_code : (c x : ℕ) → c ≡ x → 49 ≤ x → x ≤ 57 → (49 ≤ c) × (c ≤ 57)
same_code c x same least most = (omega arith, omega arith)

one_of : (c : ℕ) (xs : List ℕ) → AreDigits xs → list_any (λ x. c == x) xs ≡ true → (49 ≤ c) × (c ≤ 57)
one_of c [] all e = absurd cc
one_of c (x ∷ xs) all e =
    elim (or_cases (c == x) (list_any (λ y. c == y) xs) e) [
      | inl here ↦ same_code c x (eqb-true c x here) all.0 all.1
      | inr more ↦ one_of c xs all.2 more
    ]

nine : AreDigits (codes "123456789")
nine = (omega arith, omega arith, (omega arith, omega arith, (omega arith, omega arith, (omega arith, omega arith, (omega arith, omega arith, (omega arith, omega arith, (omega arith, omega arith, (omega arith, omega arith, (omega arith, omega arith, tt)))))))))

few_branches : (c : ℕ) → (49 ≤ c) × (c ≤ 57) → HasBranches (T (c - 48))
few_branches c in_it = let a : 49 ≤ c = in_it.0 in let b : c ≤ 57 = in_it.1 in (omega arith, omega arith)

branches_of : (c : ℕ) (top : Top) → top_of c ≡ Some top → HasBranches top
branches_of c top e =
    letter (is_of c (codes "Ii")) I _ top (λ t. tt)
    (letter (is_of c (codes "Dd")) D _ top (λ t. tt)
    (letter (is_of c (codes "Ss")) S _ top (λ t. tt)
    (letter (is_of c (codes "Hh ")) H _ top (λ t. tt)
    (letter (is_of c (codes "Ff")) F _ top (λ t. tt)
    (letter (is_of c (codes "Mm")) M _ top (λ t. tt)
    (letter (is_of c (codes "Tt")) (T 2) _ top (λ t. (omega arith, omega arith))
    (letter (is_of c (codes "123456789")) (T (c - 48)) None top (λ t. few_branches c (one_of c (codes "123456789") nine t)) (λ none. absurd (no_top top none))))))))) e where
      no_top : (top : Top) → (let o : Option Top = None in o ≡ Some top) → ⊥
      no_top top e = cc

either_code : (t : Bool) (c d : ℕ) (top : Top) → cond t (top_of c) (top_of d) ≡ Some top → HasBranches top
either_code true c d top e = branches_of c top e
either_code false c d top e = branches_of d top e

some_given : (o : Option Top) (top : Top) → or_fault Unknown o ≡ Ok top → o ≡ Some top
some_given (Some t) top e = ap (λ (x : Top). Some x) (same_ok LangFault t top e)
some_given None top e = absurd cc

topology_of_character : (o : Option ℕ) (top : Top) → named_by topology_of o ≡ Some top → HasBranches top
topology_of_character None top e = absurd cc
topology_of_character (Some c) top e = either_code (c == 45) 32 c top e

topology_word : (ws : List Word) (found : Top × List Word) → first topology ws ≡ Ok found → HasBranches found.0
unfolding topology
topology_word ws found e =
    let w = one_word topology ws found e in
    topology_of_character (only_character w.0) found.0 (some_given _ found.0 w.1)

-- ---- words of each kind

abbrev Good : Known → (kind : Kind) → Meaning kind → Type 0
Good k ARank n = n < k.ranks
Good k AGrid g = IsGrid k g
Good k AnArray x = IsArray k x
Good k AMatrix v = IsMatrix k v
Good k AnEither y = IsEither k y
Good k AnArea area = IsEither k area.array
Good k PerhapsPlaces rc = AreEither k rc
Good k ATopology top = HasBranches top
Good k ANumber n = Unit {0}
Good k AnInteger n = Unit {0}
Good k ANewName n = Unit {0}
Good k AnOrder n = Unit {0}
Good k AScope n = Unit {0}
Good k ACharacter n = Unit {0}
Good k AFile n = Unit {0}
Good k ThePieces n = Unit {0}
Good k ADestination n = Unit {0}
Good k PerhapsLead n = Unit {0}
Good k PerhapsTriangle n = Unit {0}
Good k AllNumbers n = Unit {0}

is_good : (d : Declared) (k : Known) → Agrees d k → (kind : Kind) (ws : List Word) (found : Meaning kind × List Word) → read d kind ws ≡ Ok found → Good k kind found.0
is_good d k is ARank ws found e = ranks_word d k is ws found e
is_good d k is AGrid ws found e = grids_word d k is ws found e
is_good d k is AnArray ws found e = arrays_word d k is ws found e
is_good d k is AMatrix ws found e = matrix_word d k is ws found e
is_good d k is AnEither ws found e = either_word d k is ws found e
is_good d k is AnArea ws found e = area_words d k is ws found e
is_good d k is PerhapsPlaces ws found e = places_words d k is ws found e
is_good d k is ATopology ws found e = topology_word ws found e
is_good d k is ANumber ws found e = tt
is_good d k is AnInteger ws found e = tt
is_good d k is ANewName ws found e = tt
is_good d k is AnOrder ws found e = tt
is_good d k is AScope ws found e = tt
is_good d k is ACharacter ws found e = tt
is_good d k is AFile ws found e = tt
is_good d k is ThePieces ws found e = tt
is_good d k is ADestination ws found e = tt
is_good d k is PerhapsLead ws found e = tt
is_good d k is PerhapsTriangle ws found e = tt
is_good d k is AllNumbers ws found e = tt

-- ---- lines of each form

-- a line that passes no limit keeps what lines keep
abbrev Kept : Declared → Known → Line → Type 0
Kept d k line = passes_limit d line ≡ false → Keeps k line

-- each line that good words make is kept
abbrev AllKept : Declared → Known → (kinds : List Kind) → Makes kinds → Type 0
AllKept d k [] line = Kept d k line
AllKept d k (kind ∷ kinds) makes = (x : Meaning kind) → Good k kind x → AllKept d k kinds (makes x)

of_read : (d : Declared) (k : Known) → Agrees d k → (kinds : List Kind) (makes : Makes kinds) (ws : List Word) (line : Line) → AllKept d k kinds makes → read_as d kinds makes ws ≡ Ok line → Kept d k line
of_read d k is [] made ws line all e = subst (λ (l : Line). Kept d k l) (same_ok LangFault made line e) all
of_read d k is (kind ∷ kinds) makes ws line all e =
    let g = given (read d kind ws) _ line e in
    of_read d k is kinds (makes g.value.0) g.value.1 line (all g.value.0 (is_good d k is kind ws g.value g.was)) g.gives

chosen : (t : Bool) (form : Form) (d : Declared) (k : Known) → Agrees d k → (ws : List Word) (line : Line) → AllKept d k form.kinds form.makes
    → and_then (cond t (Ok form) (Err Words)) (λ f. read_as d f.kinds f.makes ws) ≡ Ok line → Kept d k line
chosen true form d k is ws line all e = of_read d k is form.kinds form.makes ws line all e
chosen false form d k is ws line all e = absurd cc

-- ---- limits

within : (n most : ℕ) → is_outside n most ≡ false → IsWithin n most
within n most e =
    let both = or_parts (n == 0) (nat_lt most n) e in
    let least : n ≡ 0 → ⊥ = eqb-false n 0 both.0 in
    (positive n least, ltb-false most n both.1) where
      positive : (n : ℕ) → (n ≡ 0 → ⊥) → 1 ≤ n
      positive zero other = absurd (other refl)
      positive (suc n) other = omega arith

room : (d k most : ℕ) → d ≡ k → nat_le most d ≡ false → k < most
room d k most same e = subst (λ (n : ℕ). n < most) same (leb-false most d e)

matrix_kept : (d : Declared) (k : Known) → Agrees d k → (name : Word) (lld cols : ℕ) → Kept d k (Matrix name lld cols)
unfolding Keeps
matrix_kept d k is name lld cols limit =
    let a = or_parts (is_outside lld (2 ^ 24) || is_outside cols (2 ^ 24)) (nat_le 64 d.arrays) limit in
    let b = or_parts (is_outside lld (2 ^ 24)) (is_outside cols (2 ^ 24)) a.0 in
    (within lld (2 ^ 24) b.0, within cols (2 ^ 24) b.1, room d.arrays (length k.arrays) 64 is.arrays a.1)

-- ---- MAP lists as many ranks as it has places

as_many : (ws : List Word) (ns : List ℕ) → numbers ws ≡ Ok ns → length ns ≡ length ws
unfolding numbers
as_many [] ns e = ap length (sym (same_ok LangFault [] ns e))
as_many (word ∷ ws) ns e =
    let n = given (number word) _ ns e in
    let more = given (numbers ws) _ ns n.gives in
    ap length (sym (same_ok LangFault (n.value ∷ more.value) ns more.gives)) ∙ ap suc (as_many ws more.value more.was)

sized_so : (r c : Result ℕ LangFault) (nprow npcol n : ℕ) → r ≡ Ok nprow → c ≡ Ok npcol → is_map_size r c n ≡ true → n ≡ nprow * npcol
sized_so (Ok a) (Ok b) nprow npcol n r c e =
    let rows : a ≡ nprow = same_ok LangFault a nprow r in
    let columns : b ≡ npcol = same_ok LangFault b npcol c in
    eqb-true n (a * b) e ∙ ap (λ (i : ℕ). i * b) rows ∙ ap (λ (i : ℕ). nprow * i) columns
sized_so (Err f) c nprow npcol n r s e = absurd cc
sized_so (Ok a) (Err f) nprow npcol n r s e = absurd cc

map_kept : (d : Declared) (k : Known) → Agrees d k → (ws : List Word) (line : Line) → has_map_size ws ≡ true → read_as d map_form.kinds map_form.makes ws ≡ Ok line → Kept d k line
unfolding Keeps
map_kept d k is [] line size e = absurd cc
map_kept d k is (name ∷ []) line size e = absurd cc
map_kept d k is (name ∷ rows ∷ []) line size e = absurd cc
map_kept d k is (name ∷ rows ∷ columns ∷ ranks) line size e =
    let p = given (first (new_name d) (name ∷ rows ∷ columns ∷ ranks)) _ line e in
    let after = (first_of (new_name d) name (rows ∷ columns ∷ ranks) p.value p.was).left in
    let q = given (first number p.value.1) _ line p.gives in
    let r = first_of number rows (columns ∷ ranks) q.value (subst (λ (ws : List Word). first number ws ≡ Ok q.value) (sym after) q.was) in
    let s = given (first number q.value.1) _ line q.gives in
    let t = first_of number columns ranks s.value (subst (λ (ws : List Word). first number ws ≡ Ok s.value) (sym r.left) s.was) in
    let u = given (and_then (numbers s.value.1) _) _ line s.gives in
    let v = given (numbers s.value.1) _ u.value u.was in
    let listed : v.value ≡ u.value.0 = ap (λ (f : List ℕ × List Word). f.0) (same_ok LangFault _ u.value v.gives) in
    let count : length u.value.0 ≡ q.value.0 * s.value.0 = ap length (sym listed) ∙ as_many s.value.1 v.value v.was ∙ ap length (sym t.left) ∙ sized_so (number rows) (number columns) q.value.0 s.value.0 (length ranks) r.was t.was size in
    subst (λ (l : Line). Kept d k l) (same_ok LangFault (Map q.value.0 s.value.0 u.value.0) line u.gives) (λ limit. (room d.grids k.grids 16 is.grids limit, count))

map_chosen : (t : Bool) (d : Declared) (k : Known) → Agrees d k → (ws : List Word) (line : Line) → has_map_size ws ≡ t → and_then (cond t (Ok map_form) (Err Words)) (λ f. read_as d f.kinds f.makes ws) ≡ Ok line → Kept d k line
map_chosen true d k is ws line size e = map_kept d k is ws line size e
map_chosen false d k is ws line size e = absurd cc

-- ---- the line of each keyword

saved : (t : Bool) (d : Declared) (k : Known) → Agrees d k → (ws : List Word) (line : Line) → and_then (cond t (Ok save_pieces_form) (sized save_form ws)) (λ f. read_as d f.kinds f.makes ws) ≡ Ok line → Kept d k line
unfolding Keeps
saved true d k is ws line e = of_read d k is save_pieces_form.kinds save_pieces_form.makes ws line (λ x good file _ word _ limit. good) e
saved false d k is ws line e = chosen (has_size save_form.kinds (length ws)) save_form d k is ws line (λ x good file _ limit. good) e

printed : (what : Option Named) (d : Declared) (k : Known) → Agrees d k → (ws : List Word) (line : Line) → and_then (print_form what ws) (λ f. read_as d f.kinds f.makes ws) ≡ Ok line → Kept d k line
unfolding Keeps
printed (Some (names.Array n)) d k is ws line e = chosen (has_size print_array_form.kinds (length ws)) print_array_form d k is ws line (λ x good limit. good) e
printed (Some (names.Matrix n)) d k is ws line e = chosen (has_size print_matrix_form.kinds (length ws)) print_matrix_form d k is ws line (λ v good rank less limit. (good, less)) e
printed (Some (names.Grid n)) d k is ws line e = absurd cc
printed None d k is ws line e = absurd cc

pub line_keeps : (keyword : Keyword) (d : Declared) (k : Known) → Agrees d k → (ws : List Word) (line : Line) → line_of keyword d ws ≡ Ok line → Kept d k line
unfolding line_of Keeps
line_keeps key.Ranks d k is ws line e = chosen (has_size ranks_form.kinds (length ws)) ranks_form d k is ws line (λ n _ limit. within n 64 limit) e
line_keeps key.Grid d k is ws line e = chosen (has_size grid_form.kinds (length ws)) grid_form d k is ws line (λ name _ order _ nprow _ npcol _ limit. room d.grids k.grids 16 is.grids limit) e
line_keeps key.Map d k is ws line e = map_chosen (has_map_size ws) d k is ws line refl e
line_keeps key.Array d k is ws line e = chosen (has_size array_form.kinds (length ws)) array_form d k is ws line (λ name _ g good m _ n _ mb _ nb _ rsrc _ csrc _ lld _ limit. (good, room d.arrays (length k.arrays) 64 is.arrays limit)) e
line_keeps key.Matrix d k is ws line e = chosen (has_size matrix_form.kinds (length ws)) matrix_form d k is ws line (λ name _ lld _ cols _. matrix_kept d k is name lld cols) e
line_keeps key.Load d k is ws line e = chosen (has_size load_form.kinds (length ws)) load_form d k is ws line (λ x good file _ limit. good) e
line_keeps key.Fill d k is ws line e = chosen (has_size fill_form.kinds (length ws)) fill_form d k is ws line (λ y good a _ b _ c _ z _ limit. good) e
line_keeps key.Send d k is ws line e = chosen (has_size send_form.kinds (length ws)) send_form d k is ws line (λ g good p _ q _ part held r _ c _ tri _ limit. (good, held)) e
line_keeps key.Recv d k is ws line e = chosen (has_size recv_form.kinds (length ws)) recv_form d k is ws line (λ g good p _ q _ part held r _ c _ tri _ limit. (good, held)) e
line_keeps key.Bcast d k is ws line e = chosen (has_size bcast_form.kinds (length ws)) bcast_form d k is ws line (λ g good scope _ top tree r _ c _ part held tri _ limit. (good, tree, held)) e
line_keeps key.Sum d k is ws line e = chosen (has_size sum_form.kinds (length ws)) sum_form d k is ws line (λ g good scope _ top tree dest _ part held limit. (good, tree, held)) e
line_keeps key.Amx d k is ws line e = chosen (has_size amx_form.kinds (length ws)) amx_form d k is ws line (λ g good scope _ top tree dest _ part held rc both limit. (good, tree, held, both)) e
line_keeps key.Amn d k is ws line e = chosen (has_size amn_form.kinds (length ws)) amn_form d k is ws line (λ g good scope _ top tree dest _ part held rc both limit. (good, tree, held, both)) e
line_keeps key.Barrier d k is ws line e = chosen (has_size barrier_form.kinds (length ws)) barrier_form d k is ws line (λ g good scope _ limit. good) e
line_keeps key.Gemr2d d k is ws line e = chosen (has_size gemr2d_form.kinds (length ws)) gemr2d_form d k is ws line (λ m _ n _ a ga ia _ ja _ b gb ib _ jb _ g good limit. (ga, gb, good)) e
line_keeps key.Trmr2d d k is ws line e = chosen (has_size trmr2d_form.kinds (length ws)) trmr2d_form d k is ws line (λ uplo _ diag _ m _ n _ a ga ia _ ja _ b gb ib _ jb _ g good limit. (ga, gb, good)) e
line_keeps key.Save d k is ws line e = saved (length ws == 3) d k is ws line e
line_keeps key.Print d k is [] line e = absurd cc
line_keeps key.Print d k is (word ∷ ws) line e = printed (d.names word) d k is (word ∷ ws) line e

-- ---- what is declared after a line is known

pub get_more : (xs more : List Bool) (i : ℕ) (b : Bool) → slice_get xs i ≡ Some b → slice_get (xs ++ more) i ≡ Some b
get_more [] more i b e = absurd cc
get_more (x ∷ xs) more zero b e = e
get_more (x ∷ xs) more (suc i) b e = get_more xs more i b e

get_last : (xs : List Bool) (b : Bool) → slice_get (xs ++ b ∷ []) (length xs) ≡ Some b
get_last [] b = refl
get_last (x ∷ xs) b = get_last xs b

one_more : (n m : ℕ) → n + 1 ≡ m → suc n + 1 ≡ suc m
one_more n m e = omega arith

one_longer : (xs : List Bool) (b : Bool) → length xs + 1 ≡ length (xs ++ b ∷ [])
one_longer [] b = refl
one_longer (x ∷ xs) b = one_more (length xs) (length (xs ++ b ∷ [])) (one_longer xs b)

one_grid : (grids : ℕ) (arrays : List Bool) (what : Named) → Stands grids arrays what → Stands (grids + 1) arrays what
one_grid grids arrays (names.Grid g) less = omega arith
one_grid grids arrays (names.Array x) is = is
one_grid grids arrays (names.Matrix v) is = is

one_array : (grids : ℕ) (arrays : List Bool) (b : Bool) (what : Named) → Stands grids arrays what → Stands grids (arrays ++ b ∷ []) what
one_array grids arrays b (names.Grid g) less = less
one_array grids arrays b (names.Array x) is = get_more arrays (b ∷ []) x true is
one_array grids arrays b (names.Matrix v) is = get_more arrays (b ∷ []) v false is

-- one name more, which stands for what it says
named_more : (t : Bool) (new : Named) (old : Option Named) (what : Named) (P : Named → Type 0) → P new → ((w : Named) → old ≡ Some w → P w) → cond t (Some new) old ≡ Some what → P what
named_more true new old what P is others e = subst P (same_some new what e) is where
  same_some : (a b : Named) → Some a ≡ Some b → a ≡ b
  same_some a b e = cc
named_more false new old what P is others e = others what e

-- what is known where the part that was reached is another
abbrev knows : Known → Part → Known
knows k part = record { reached = part; ranks = k.ranks; grids = k.grids; arrays = k.arrays }

others_agree : (d : Declared) (k : Known) → Agrees d k → (part : Part) → Agrees d (knows k part)
others_agree d k is part = record { ranks = is.ranks; grids = is.grids; arrays = is.arrays; stands = is.stands }

ranks_agree : (d : Declared) (k : Known) → Agrees d k → (n : ℕ) (part : Part) → Agrees (with_ranks n d) (knows (record k { ranks = n }) part)
ranks_agree d k is n part = record { ranks = refl; grids = is.grids; arrays = is.arrays; stands = is.stands }

last_grid : (n m : ℕ) → n ≡ m → n < m + 1
last_grid n m e = omega arith

grid_agrees : (d : Declared) (k : Known) → Agrees d k → (word : Word) (part : Part) → Agrees (with_grid word d) (knows (record k { grids = k.grids + 1 }) part)
grid_agrees d k is word part = record {
  ranks = is.ranks;
  grids = ap (λ (n : ℕ). n + 1) is.grids;
  arrays = is.arrays;
  stands = λ w what. named_more (bytes_eq word w) (names.Grid d.grids) (d.names w) what (Stands (k.grids + 1) k.arrays) (last_grid d.grids k.grids is.grids) (λ old e. one_grid k.grids k.arrays old (is.stands w old e));
}

last_array : (xs : List Bool) (b : Bool) (n : ℕ) → n ≡ length xs → slice_get (xs ++ b ∷ []) n ≡ Some b
last_array xs b n e = ap (slice_get (xs ++ b ∷ [])) e ∙ get_last xs b

array_agrees : (d : Declared) (k : Known) → Agrees d k → (word : Word) (part : Part) → Agrees (with_array word d) (knows (record k { arrays = k.arrays ++ true ∷ [] }) part)
array_agrees d k is word part = record {
  ranks = is.ranks;
  grids = is.grids;
  arrays = ap (λ (n : ℕ). n + 1) is.arrays ∙ one_longer k.arrays true;
  stands = λ w what. named_more (bytes_eq word w) (names.Array d.arrays) (d.names w) what (Stands k.grids (k.arrays ++ true ∷ [])) (last_array k.arrays true d.arrays is.arrays) (λ old e. one_array k.grids k.arrays true old (is.stands w old e));
}

matrix_agrees : (d : Declared) (k : Known) → Agrees d k → (word : Word) (part : Part) → Agrees (with_matrix word d) (knows (record k { arrays = k.arrays ++ false ∷ [] }) part)
matrix_agrees d k is word part = record {
  ranks = is.ranks;
  grids = is.grids;
  arrays = ap (λ (n : ℕ). n + 1) is.arrays ∙ one_longer k.arrays false;
  stands = λ w what. named_more (bytes_eq word w) (names.Matrix d.arrays) (d.names w) what (Stands k.grids (k.arrays ++ false ∷ [])) (last_array k.arrays false d.arrays is.arrays) (λ old e. one_array k.grids k.arrays false old (is.stands w old e));
}

pub agrees_after : (d : Declared) (k : Known) → Agrees d k → (word : Word) (line : Line) → Agrees (declared_by d word line) (known_after k line)
unfolding declared_after
agrees_after d k is word (Ranks n) = ranks_agree d k is n Declarations
agrees_after d k is word (Grid order nprow npcol) = grid_agrees d k is word Declarations
agrees_after d k is word (Map nprow npcol ranks) = grid_agrees d k is word Declarations
agrees_after d k is word (Array name g m n mb nb rsrc csrc lld) = array_agrees d k is word Declarations
agrees_after d k is word (Matrix name lld cols) = matrix_agrees d k is word Declarations
agrees_after d k is word (Load x file) = others_agree d k is Declarations
agrees_after d k is word (Fill y a b c z) = others_agree d k is Declarations
agrees_after d k is word (Send g p q area rdest cdest tri) = others_agree d k is Exchanges
agrees_after d k is word (Recv g p q area rsrc csrc tri) = others_agree d k is Exchanges
agrees_after d k is word (Bcast g scope top rsrc csrc area tri) = others_agree d k is Exchanges
agrees_after d k is word (Sum g scope top dest area) = others_agree d k is Exchanges
agrees_after d k is word (Amx g scope top dest area rc) = others_agree d k is Exchanges
agrees_after d k is word (Amn g scope top dest area rc) = others_agree d k is Exchanges
agrees_after d k is word (Barrier g scope) = others_agree d k is Exchanges
agrees_after d k is word (Gemr2d mr) = others_agree d k is Exchanges
agrees_after d k is word (Trmr2d uplo diag mr) = others_agree d k is Exchanges
agrees_after d k is word (Save x file) = others_agree d k is Results
agrees_after d k is word (SavePieces x prefix) = others_agree d k is Results
agrees_after d k is word (PrintArray x) = others_agree d k is Results
agrees_after d k is word (PrintMatrix v rank) = others_agree d k is Results
