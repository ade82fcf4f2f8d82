-- Laws of what a store in memory holds.
use Rattle.std.proofs.Common.{◌≡◌, ◌≢◌, ℕ, ◌+◌, ◌-◌, ◌≤◌, Bool, false, IsTrue, List, [], ◌∷◌, ◌++◌, length, map, drop, refl, sym, ap, subst, ◌∙◌, arith, Option, None, Some}
use Rattle.std.specs.Prelude.{slice_range, IfSome, is_some}
use Rattle.std.specs.List.{AllByRecursion}
use Rattle.std.specs.FinMap.{insert, empty}
use Rattle.std.proofs.lemmas.List.{drop-drop, drop-take, length-take, map-append}
use Rattle.store_io.specs.Outside.{Files, appended}
use Rattle.store_io.specs.Fails.{Fail}
use Rattle.store_io.specs.MemState.{MemState}
use Rattle.store_io.specs.Heap.{Bytes, IsPart, Keeps, part_of, run_of}
use Rattle.store_io.specs.Entries.{IsEntry, IsOutput, IsInput, files_of, with_output, output_of, input_of, left_of, fail_of, names_of}
use Rattle.store_io.specs.declared.heap.Part.{Part}
use Rattle.store_io.specs.declared.entries.Entry.{Entry}
use Rattle.store_io.specs.declared.entries.Input.{Input}
use Rattle.store_io.specs.declared.fails.FailEntry.{FailEntry}
use Rattle.store_io.proofs.FilesLemmas.{insert-swap, appended_set}
use Rattle.store_io.proofs.EntryLaws.{files_more, files_kept, file_kept, entry_kept, fails_kept}

abbrev mem : Bool → Bool → Bool → ℕ → ℕ → ℕ → ℕ → Files → List ℕ → List ℕ → List ℕ → List Fail → ℕ → MemState
mem t r w x y z e f l o i s m = record { outside = record { told = t; files = f; reading = r; left = l; writing = w; output = o; faults = x; misses = y; opens = z }; input = i; fails = s; room = m; entries = e }

pub same_mem : {t r w : Bool} {x y z e : ℕ} {f g : Files} {l k o p i j : List ℕ} {s u : List Fail} {m n : ℕ} → f ≡ g → l ≡ k → o ≡ p → i ≡ j → s ≡ u → m ≡ n → mem t r w x y z e f l o i s m ≡ mem t r w x y z e g k p j u n
same_mem f l o i s m = rw (f, l, o, i, s, m) refl

-- ---- the input and the output stay where bytes are added

pub left_kept : (b h : Bytes) (o : Option Input) → Keeps b h → IfSome o (IsInput b) → left_of h o ≡ left_of b o
left_kept b h None keeps is = refl
left_kept b h (Some i) keeps is = let left = keeps i.left is.left in left.1

pub input_kept : (b h : Bytes) (o : Option Input) → Keeps b h → IfSome o (IsInput b) → input_of h o ≡ input_of b o
input_kept b h None keeps is = refl
input_kept b h (Some i) keeps is = let name = keeps i.name is.name in name.1

pub is_input_kept : (b h : Bytes) (o : Option Input) → Keeps b h → IfSome o (IsInput b) → IfSome o (IsInput h)
is_input_kept b h None keeps is = tt
is_input_kept b h (Some i) keeps is = let name = keeps i.name is.name in let left = keeps i.left is.left in record { name = name.0; left = left.0 }

pub output_kept : (b h : Bytes) (o : Option Entry) → Keeps b h → IfSome o (IsOutput b) → output_of h o ≡ output_of b o
output_kept b h None keeps is = refl
output_kept b h (Some e) keeps is = let name = keeps e.name is.entry.name in name.1

-- where they are added aside
pub is_output_kept : (b h : Bytes) (o : Option Entry) → Keeps b h → h.main ≡ b.main → IfSome o (IsOutput b) → IfSome o (IsOutput h)
is_output_kept b h None keeps same is = tt
is_output_kept b h (Some e) keeps same is = record { entry = entry_kept b h e keeps is.entry; last = record { run = is.last.run; end = is.last.end ∙ ap length (sym same) } }

pub files_stay : (b h : Bytes) (es : List Entry) (o : Option Entry) → Keeps b h → AllByRecursion (IsEntry b) es → IfSome o (IsOutput b) → with_output h o (files_of empty h es) ≡ with_output b o (files_of empty b es)
files_stay b h es None keeps all is = files_kept b h empty es keeps all
files_stay b h es (Some e) keeps all is = ap (λ (m : Files). insert m (part_of h e.name) (part_of h e.content)) (files_kept b h empty es keeps all) ∙ file_kept b h (files_of empty b es) e keeps is.entry

-- ---- a file is set, begun or grows

-- a file beside the output
pub laid : (b h : Bytes) (es : List Entry) (o : Option Entry) (e : Entry) (name content : List ℕ) → Keeps b h → AllByRecursion (IsEntry b) es → IfSome o (IsOutput b)
    → part_of h e.name ≡ name → part_of h e.content ≡ content → (IsTrue (is_some o) → output_of b o ≢ name) → with_output h o (files_of empty h (es ++ e ∷ [])) ≡ insert (with_output b o (files_of empty b es)) name content
laid b h es o e name content keeps all is named holds other =
    ap (with_output h o) (files_more empty h es e ∙ ap (λ (m : Files). insert m (part_of h e.name) (part_of h e.content)) (files_kept b h empty es keeps all)
    ∙ ap (λ (n : List ℕ). insert (files_of empty b es) n (part_of h e.content)) named ∙ ap (insert (files_of empty b es) name) holds) ∙ at o is other
  where
    at : (o : Option Entry) → IfSome o (IsOutput b) → (IsTrue (is_some o) → output_of b o ≢ name) → with_output h o (insert (files_of empty b es) name content) ≡ insert (with_output b o (files_of empty b es)) name content
    at None is other = refl
    at (Some f) is other = file_kept b h (insert (files_of empty b es) name content) f keeps is.entry ∙ insert-swap (files_of empty b es) name (part_of b f.name) content (part_of b f.content) (other refl)

-- a file that is the output from then on
pub begun : (b h : Bytes) (es : List Entry) (o : Option Entry) (e : Entry) (name content : List ℕ) → Keeps b h → AllByRecursion (IsEntry b) es → is_some o ≡ false
    → part_of h e.name ≡ name → part_of h e.content ≡ content → insert (files_of empty h es) (part_of h e.name) (part_of h e.content) ≡ insert (with_output b o (files_of empty b es)) name content
begun b h es None e name content keeps all none named holds =
    ap (λ (m : Files). insert m (part_of h e.name) (part_of h e.content)) (files_kept b h empty es keeps all)
    ∙ ap (λ (n : List ℕ). insert (files_of empty b es) n (part_of h e.content)) named ∙ ap (insert (files_of empty b es) name) holds
begun b h es (Some f) e name content keeps all none named holds = absurd cc

-- the output with a piece more
pub grown : (b h : Bytes) (es : List Entry) (o : Option Entry) (e : Entry) (content : Part) (piece : List ℕ) → o ≡ Some e → Keeps b h → AllByRecursion (IsEntry b) es → IfSome o (IsOutput b)
    → part_of h content ≡ part_of b e.content ++ piece → insert (files_of empty h es) (part_of h e.name) (part_of h content) ≡ appended (with_output b o (files_of empty b es)) (output_of b o) piece
grown b h es o e content piece is keeps all out holds =
    let out' : IsOutput b e = subst (λ (o : Option Entry). IfSome o (IsOutput b)) is out in
    let name = keeps e.name out'.entry.name in
    subst (λ (o : Option Entry). insert (files_of empty h es) (part_of h e.name) (part_of h content) ≡ appended (with_output b o (files_of empty b es)) (output_of b o) piece) (sym is)
    (ap (λ (m : Files). insert m (part_of h e.name) (part_of h content)) (files_kept b h empty es keeps all) ∙ ap (λ (n : List ℕ). insert (files_of empty b es) n (part_of h content)) name.1
    ∙ ap (insert (files_of empty b es) (part_of b e.name)) holds ∙ sym (appended_set (files_of empty b es) (part_of b e.name) (part_of b e.content) piece))

pub output_stays : (b h : Bytes) (o : Option Entry) (e : Entry) → o ≡ Some e → Keeps b h → IfSome o (IsOutput b) → part_of h e.name ≡ output_of b o
output_stays b h o e is keeps out =
    let out' : IsOutput b e = subst (λ (o : Option Entry). IfSome o (IsOutput b)) is out in
    let name = keeps e.name out'.entry.name in
    name.1 ∙ ap (output_of b) (sym is)

-- ---- a part of which some bytes were taken

part_rest : (bytes : List ℕ) (i j k : ℕ) → i + k ≤ j → slice_range bytes (i + k) j ≡ drop k (slice_range bytes i j)
part_rest bytes i j k le =
    let whole : j - i ≡ k + (j - (i + k)) = omega arith in
    let rest : drop k (drop i bytes) ≡ drop (i + k) bytes = drop-drop k i bytes in
    rw (whole, drop-take k (j - (i + k)) (drop i bytes), rest) refl

pub rest_left : (b : Bytes) (o : Option Input) (i : Input) (k : ℕ) → o ≡ Some i → IfSome o (IsInput b) → k ≤ length (part_of b i.left) → part_of b (record { aside = i.left.aside; from = i.left.from + k; to = i.left.to }) ≡ drop k (left_of b o)
rest_left b o i k is input le =
    let input' : IsInput b i = subst (λ (o : Option Input). IfSome o (IsInput b)) is input in
    let order : i.left.from ≤ i.left.to = input'.left.order in
    part_rest (run_of b i.left) i.left.from i.left.to k (omega (arith, length-take {A = ℕ}, order, le)) ∙ ap (λ (o : Option Input). drop k (left_of b o)) (sym is)

-- ---- one more call that is to fail

pub fails_more : (b h : Bytes) (new es : List FailEntry) (e : FailEntry) (name : List ℕ) → Keeps b h → AllByRecursion (IsPart b) (names_of es) → part_of h e.name ≡ name → new ≡ es ++ e ∷ []
    → map (fail_of h) new ≡ map (fail_of b) es ++ record { kind = e.kind; name = name; nth = e.nth } ∷ []
fails_more b h new es e name keeps all named is =
    ap (map (fail_of h)) is ∙ map-append (fail_of h) es (e ∷ []) ∙ ap (λ (fs : List Fail). fs ++ fail_of h e ∷ []) (fails_kept b h es keeps all)
    ∙ ap (λ (n : List ℕ). map (fail_of b) es ++ record { kind = e.kind; name = n; nth = e.nth } ∷ []) named
