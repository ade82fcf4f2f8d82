-- What the words ask for lies within its bounds.
use Rattle.std.proofs.Common.{◌≡◌, ℕ, suc, zero, ◌*◌, ◌-◌, ◌^◌, ◌<◌, ◌≤◌, Bool, true, false, cond, ◌&&◌, nat_le, List, [], ◌∷◌, Option, Some, None, refl, sym, subst, arith}
use Rattle.std.specs.Prelude.{option_and_then, IfSome}
use Rattle.std.specs.Option.{option_map}
use Rattle.std.proofs.lemmas.Bool.{leb-true}
use Rattle.tool_words.specs.Given.{Text, Given, sorted}
use Rattle.tool_words.specs.FileName.{is_name}
use Rattle.tool_words.specs.CommandNames.{every_command}
use Rattle.tool_words.specs.CommandWords.{number_within, how_by, how_of, with_numbers, target_of, split_of, join_of, move_of, check_of, run_of, load_of, asked_by, asked_of, command_named, asked}
use Rattle.tool_words.specs.Within.{IsTarget, IsHow, IsWithin}
use Rattle.tool_words.specs.declared.command.Command.{Command}
use Rattle.tool_words.specs.declared.command.Command.TheVariants as command
use Rattle.tool_words.specs.declared.target.Target.{Target}
use Rattle.tool_words.specs.declared.asked.How.{How}
use Rattle.tool_words.specs.declared.asked.How.TheVariants.{Plain, Threads, Seed}
use Rattle.tool_words.specs.declared.asked.Asked.{Asked}
use Rattle.tool_words.specs.declared.asked.Asked.TheVariants.{Split, Join, Move, Check, Run, Load}
use Rattle.tool_words.proofs.NumberLaws.{number_bounds}

-- ---- options taken apart

some_is : {X : Type 0} (a b : X) → Some a ≡ Some b → a ≡ b
some_is a b e = cc

chosen : {X : Type 0} (b : Bool) (o : Option X) (a : X) → cond b o None ≡ Some a → (b ≡ true) × (o ≡ Some a)
chosen true o a e = (refl, e)
chosen false o a e = absurd cc

mapped : {X Y : Type 0} (f : X → Y) (o : Option X) (a : Y) → option_map f o ≡ Some a → (x : X) × ((o ≡ Some x) × (f x ≡ a))
mapped f None a e = absurd cc
mapped f (Some x) a e = (x, (refl, some_is (f x) a e))

followed : {X Y : Type 0} (f : X → Option Y) (o : Option X) (a : Y) → option_and_then f o ≡ Some a → (x : X) × ((o ≡ Some x) × (f x ≡ Some a))
followed f None a e = absurd cc
followed f (Some x) a e = (x, (refl, e))

-- ---- numbers

target_bounds : (p q mb nb : Option ℕ) (t : Target) → ((n : ℕ) → p ≡ Some n → (1 ≤ n) × (n ≤ 64)) → ((n : ℕ) → q ≡ Some n → (1 ≤ n) × (n ≤ 64))
    → ((n : ℕ) → mb ≡ Some n → (1 ≤ n) × (n ≤ 2 ^ 24)) → ((n : ℕ) → nb ≡ Some n → (1 ≤ n) × (n ≤ 2 ^ 24)) → with_numbers p q mb nb ≡ Some t → IsTarget t.p t.q t.mb t.nb
target_bounds (Some p) (Some q) (Some mb) (Some nb) t rows columns row_blocks column_blocks e =
    let grid = chosen (nat_le (p * q) 64) _ t e in
    let P : Target → Type 0 = λ t. IsTarget t.p t.q t.mb t.nb in
    subst P (some_is _ t grid.1) (record {
      rows = (rows p refl).0;
      columns = (columns q refl).0;
      grid = leb-true (p * q) 64 grid.0;
      row_block = (row_blocks mb refl).0;
      row_block_fits = (row_blocks mb refl).1;
      column_block = (column_blocks nb refl).0;
      column_block_fits = (column_blocks nb refl).1;
    })
target_bounds (Some p) (Some q) (Some mb) None t a b c d e = absurd cc
target_bounds (Some p) (Some q) None nb t a b c d e = absurd cc
target_bounds (Some p) None mb nb t a b c d e = absurd cc
target_bounds None q mb nb t a b c d e = absurd cc

target_within : (p q mb nb : Text) (t : Target) → target_of p q mb nb ≡ Some t → IsTarget t.p t.q t.mb t.nb
unfolding target_of
target_within p q mb nb t e =
    target_bounds (number_within 1 64 p) (number_within 1 64 q) (number_within 1 (2 ^ 24) mb) (number_within 1 (2 ^ 24) nb) t
    (λ n h. number_bounds 1 64 n p h) (λ n h. number_bounds 1 64 n q h) (λ n h. number_bounds 1 (2 ^ 24) n mb h) (λ n h. number_bounds 1 (2 ^ 24) n nb h) e

below : (n : ℕ) (s : Text) → number_within 0 (2 ^ 64 - 1) s ≡ Some n → n < 2 ^ 64
below n s e = let b = number_bounds 0 (2 ^ 64 - 1) n s e in omega (arith, b.1)

how_within : (t : ℕ) (seeds : List Text) (how : How) → how_by t seeds ≡ Some how → IsHow how
how_within zero [] how e = subst IsHow (some_is Plain how e) tt
how_within (suc zero) [] how e = subst IsHow (some_is Threads how e) tt
how_within (suc (suc n)) [] how e = absurd cc
how_within zero (s ∷ []) how e = let m = mapped Seed (number_within 0 (2 ^ 64 - 1) s) how e in subst IsHow m.1.1 (below m.0 s m.1.0)
how_within (suc n) (s ∷ []) how e = absurd cc
how_within zero (s ∷ t ∷ ss) how e = absurd cc
how_within (suc zero) (s ∷ t ∷ ss) how e = absurd cc
how_within (suc (suc n)) (s ∷ t ∷ ss) how e = absurd cc

-- ---- the commands

split_within : (places : List Text) (r : Asked) → split_of places ≡ Some r → IsWithin r
unfolding split_of
split_within (i ∷ o ∷ p ∷ q ∷ mb ∷ nb ∷ []) r e =
    let names = chosen (is_name i && is_name o) (option_map (λ t. Split i o t.p t.q t.mb t.nb) (target_of p q mb nb)) r e in
    let target = mapped (λ t. Split i o t.p t.q t.mb t.nb) (target_of p q mb nb) r names.1 in
    subst IsWithin target.1.1 (target_within p q mb nb target.0 target.1.0)
split_within [] r e = absurd cc
split_within (a ∷ []) r e = absurd cc
split_within (a ∷ b ∷ []) r e = absurd cc
split_within (a ∷ b ∷ c ∷ []) r e = absurd cc
split_within (a ∷ b ∷ c ∷ d ∷ []) r e = absurd cc
split_within (a ∷ b ∷ c ∷ d ∷ f ∷ []) r e = absurd cc
split_within (a ∷ b ∷ c ∷ d ∷ f ∷ g ∷ z ∷ zs) r e = absurd cc

move_within : (places : List Text) (how : How) (r : Asked) → IsHow how → move_of places how ≡ Some r → IsWithin r
unfolding move_of
move_within (i ∷ o ∷ p ∷ q ∷ mb ∷ nb ∷ []) how r k e =
    let names = chosen (is_name i && is_name o) (option_map (λ t. Move i o t.p t.q t.mb t.nb how) (target_of p q mb nb)) r e in
    let target = mapped (λ t. Move i o t.p t.q t.mb t.nb how) (target_of p q mb nb) r names.1 in
    subst IsWithin target.1.1 (target_within p q mb nb target.0 target.1.0, k)
move_within [] how r k e = absurd cc
move_within (a ∷ []) how r k e = absurd cc
move_within (a ∷ b ∷ []) how r k e = absurd cc
move_within (a ∷ b ∷ c ∷ []) how r k e = absurd cc
move_within (a ∷ b ∷ c ∷ d ∷ []) how r k e = absurd cc
move_within (a ∷ b ∷ c ∷ d ∷ f ∷ []) how r k e = absurd cc
move_within (a ∷ b ∷ c ∷ d ∷ f ∷ g ∷ z ∷ zs) how r k e = absurd cc

join_within : (places : List Text) (r : Asked) → join_of places ≡ Some r → IsWithin r
unfolding join_of
join_within (i ∷ o ∷ []) r e =
    let names = chosen (is_name i && is_name o) (Some (Join i o)) r e in
    subst IsWithin (some_is (Join i o) r names.1) tt
join_within [] r e = absurd cc
join_within (a ∷ []) r e = absurd cc
join_within (a ∷ b ∷ z ∷ zs) r e = absurd cc

check_within : (places : List Text) (r : Asked) → check_of places ≡ Some r → IsWithin r
unfolding check_of
check_within (i ∷ []) r e = let name = chosen (is_name i) (Some (Check i)) r e in subst IsWithin (some_is (Check i) r name.1) tt
check_within [] r e = absurd cc
check_within (a ∷ z ∷ zs) r e = absurd cc

run_within : (places : List Text) (how : How) (r : Asked) → IsHow how → run_of places how ≡ Some r → IsWithin r
unfolding run_of
run_within (i ∷ []) how r k e = let name = chosen (is_name i) (Some (Run i how)) r e in subst IsWithin (some_is (Run i how) r name.1) k
run_within [] how r k e = absurd cc
run_within (a ∷ z ∷ zs) how r k e = absurd cc

load_by : (seed size : Text) (r : Asked) (m n : Option ℕ) → number_within 0 (2 ^ 64 - 1) seed ≡ m → number_within 1 2000 size ≡ n → load_of (seed ∷ size ∷ []) ≡ Some r → IsWithin r
unfolding load_of
load_by seed size r (Some m) (Some n) f g e =
    let is : Some (Load m n) ≡ Some r = rw (f, g) at e in
    let b = number_bounds 1 2000 n size g in
    subst IsWithin (some_is (Load m n) r is) (below m seed f, b.0, b.1)
load_by seed size r (Some m) None f g e = let none : ◌≡◌ {A = Option Asked} None (Some r) = rw (f, g) at e in absurd cc
load_by seed size r None n f g e = let none : ◌≡◌ {A = Option Asked} None (Some r) = rw f at e in absurd cc

load_within : (places : List Text) (r : Asked) → load_of places ≡ Some r → IsWithin r
unfolding load_of
load_within (i ∷ o ∷ []) r e = load_by i o r _ _ refl refl e
load_within [] r e = absurd cc
load_within (a ∷ []) r e = absurd cc
load_within (a ∷ b ∷ z ∷ zs) r e = absurd cc

by_within : (c : Command) (places : List Text) (how : How) (r : Asked) → IsHow how → asked_by c places how ≡ Some r → IsWithin r
by_within command.Split places Plain r k e = split_within places r e
by_within command.Split places Threads r k e = absurd cc
by_within command.Split places (Seed s) r k e = absurd cc
by_within command.Join places Plain r k e = join_within places r e
by_within command.Join places Threads r k e = absurd cc
by_within command.Join places (Seed s) r k e = absurd cc
by_within command.Move places how r k e = move_within places how r k e
by_within command.Check places Plain r k e = check_within places r e
by_within command.Check places Threads r k e = absurd cc
by_within command.Check places (Seed s) r k e = absurd cc
by_within command.Run places how r k e = run_within places how r k e
by_within command.Load places Plain r k e = load_within places r e
by_within command.Load places Threads r k e = absurd cc
by_within command.Load places (Seed s) r k e = absurd cc

of_within : (c : Command) (g : Given) (r : Asked) → asked_of c g ≡ Some r → IsWithin r
of_within c g r e =
    let f = followed (asked_by c g.places) (how_of g) r e in
    by_within c g.places f.0 r (how_within g.threads g.seeds f.0 f.1.0) f.1.1

-- What the words ask for lies within its bounds.
pub asked_within : (words : List Text) (r : Asked) → asked words ≡ Some r → IsWithin r
unfolding asked
asked_within [] r e = absurd cc
asked_within (first ∷ others) r e =
    let c = followed (λ c. option_and_then (asked_of c) (sorted others)) (command_named every_command first) r e in
    let g = followed (asked_of c.0) (sorted others) r c.1.1 in
    of_within c.0 g.0 r g.1.1

pub within_asked : (words : List Text) (r : Option Asked) → r ≡ asked words → IfSome r IsWithin
within_asked words None e = tt
within_asked words (Some r) e = asked_within words r (sym e)
