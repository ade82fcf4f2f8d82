-- The operations of a move use no accumulator, and each of its rectangles by runs has a selected element.
use Rattle.std.specs.Prelude.{◌≡◌, ℕ, ◌==◌, max, cond, nat_eq, Bool, true, false, IsTrue, Option, None, Some, List, [], ◌∷◌, ◌++◌, filter}
use Rattle.std.specs.List.{AllByRecursion}
use Rattle.std.proofs.Common.{refl, ap, ◌∙◌, arith}
use Rattle.proc_grid.specs.Grid.{Grid, place_of}
use Rattle.pack_words.specs.declared.cut.Cut.{Cut}
use Rattle.pack_words.specs.declared.rank_op.RankOp.{RankOp}
use Rattle.pack_words.specs.declared.rank_op.RankOp.TheVariants.{Put, Get, Copy}
use Rattle.pack_words.specs.GridState.{scratch_needed}
use Rattle.pack_words.specs.RankOps.{elements_used}
use Rattle.block_meet.specs.declared.axis.Run.{Run}
use Rattle.block_meet.specs.declared.side.Meet.{Meet}
use Rattle.block_meet.specs.Meets.{touches, rectangles}
use Rattle.block_meet.specs.Pairs.{lies_on}
use Rattle.mr2d.specs.Pairs.{parts_of_a, parts_of_b}
use Rattle.mr2d.specs.Plans.{Rectangles, giving, gives, takes, all_gives, all_takes}
use Rattle.mr2d.specs.Between.{meets_between, meets_by}

max_assoc : (a b c m : ℕ) → m ≡ max b c → max a m ≡ max (max a b) c
max_assoc a b c m e = omega (arith, e)

needed_join : (r : ℕ) (xs ys : List (ℕ × RankOp)) → scratch_needed r (xs ++ ys) ≡ max (scratch_needed r xs) (scratch_needed r ys)
needed_join r [] ys = omega arith
needed_join r (x ∷ xs) ys = max_assoc (cond (nat_eq x.0 r) (elements_used x.1) 0) (scratch_needed r xs) (scratch_needed r ys) (scratch_needed r (xs ++ ys)) (needed_join r xs ys)

-- one operation that uses nothing
one_none : (r : ℕ) (x : ℕ × RankOp) → elements_used x.1 ≡ 0 → scratch_needed r (x ∷ []) ≡ 0
one_none r x e = by_test (nat_eq x.0 r) (elements_used x.1) e
  where
    by_test : (c : Bool) (n : ℕ) → n ≡ 0 → max (cond c n 0) 0 ≡ 0
    by_test true n e = omega (arith, e)
    by_test false n e = omega arith

gives_use : (r a b : ℕ) (cut : Cut) (from to : ℕ) (ms : List Meet) → scratch_needed r (gives a b cut from to ms) ≡ 0
gives_use r a b cut from to [] = refl
gives_use r a b cut from to (t ∷ ts) = one_none r (from, giving a b cut from to (t ∷ ts)) (by_test (from == to))
  where
    by_test : (c : Bool) → elements_used (cond c (Copy a (parts_of_a (t ∷ ts)) b (parts_of_b (t ∷ ts)) cut) (Put to a (parts_of_a (t ∷ ts)) cut)) ≡ 0
    by_test true = refl
    by_test false = refl

takes_use : (r b : ℕ) (cut : Cut) (from to : ℕ) (ms : List Meet) → scratch_needed r (takes b cut from to ms) ≡ 0
takes_use r b cut from to [] = refl
takes_use r b cut from to (t ∷ ts) = by_test (from == to)
  where
    by_test : (c : Bool) → scratch_needed r (cond {A = List (ℕ × RankOp)} c [] ((to, Get from b (parts_of_b (t ∷ ts)) cut) ∷ [])) ≡ 0
    by_test true = refl
    by_test false = one_none r (to, Get from b (parts_of_b (t ∷ ts)) cut) refl

both_none : (r : ℕ) (xs ys : List (ℕ × RankOp)) → scratch_needed r xs ≡ 0 → scratch_needed r ys ≡ 0 → scratch_needed r (xs ++ ys) ≡ 0
both_none r xs ys e f = needed_join r xs ys ∙ ap (λ n. max n (scratch_needed r ys)) e ∙ ap (λ n. max 0 n) f

all_gives_use : (r a b : ℕ) (cut : Cut) (meets : Rectangles) (ps : List (ℕ × ℕ)) → scratch_needed r (all_gives a b cut meets ps) ≡ 0
all_gives_use r a b cut meets [] = refl
all_gives_use r a b cut meets (p ∷ ps) = both_none r (gives a b cut p.0 p.1 (meets p.0 p.1)) (all_gives a b cut meets ps) (gives_use r a b cut p.0 p.1 (meets p.0 p.1)) (all_gives_use r a b cut meets ps)

all_takes_use : (r b : ℕ) (cut : Cut) (meets : Rectangles) (ps : List (ℕ × ℕ)) → scratch_needed r (all_takes b cut meets ps) ≡ 0
all_takes_use r b cut meets [] = refl
all_takes_use r b cut meets (p ∷ ps) = both_none r (takes b cut p.0 p.1 (meets p.0 p.1)) (all_takes b cut meets ps) (takes_use r b cut p.0 p.1 (meets p.0 p.1)) (all_takes_use r b cut meets ps)

-- so a longer plan needs no more than before
pub uses_no_more : (r a b : ℕ) (cut : Cut) (meets : Rectangles) (ps : List (ℕ × ℕ)) (before after : List (ℕ × RankOp)) → after ≡ before ++ (all_gives a b cut meets ps ++ all_takes b cut meets ps) → scratch_needed r after ≡ scratch_needed r before
uses_no_more r a b cut meets ps before after e =
    let none = both_none r (all_gives a b cut meets ps) (all_takes b cut meets ps) (all_gives_use r a b cut meets ps) (all_takes_use r b cut meets ps) in
    ap (scratch_needed r) e ∙ needed_join r before (all_gives a b cut meets ps ++ all_takes b cut meets ps) ∙ ap (λ n. max (scratch_needed r before) n) none ∙ max_zero (scratch_needed r before)
  where
    max_zero : (n : ℕ) → max n 0 ≡ n
    max_zero n = omega arith

-- each rectangle passes the test by which it was kept
kept : (p : Meet → Bool) (ms : List Meet) → AllByRecursion (λ t. IsTrue (p t)) (filter p ms)
kept p [] = tt
kept p (m ∷ ms) = by_test (kept p ms) (p m) refl
  where
    by_test : AllByRecursion (λ t. IsTrue (p t)) (filter p ms) → (c : Bool) → p m ≡ c → AllByRecursion (λ t. IsTrue (p t)) (cond c (m ∷ filter p ms) (filter p ms))
    by_test rest true e = (e, rest)
    by_test rest false e = rest

pub all_touching : (cut : Cut) (a b : Grid) (rs cs : List Run) (from to : ℕ) → AllByRecursion (λ t. IsTrue (touches cut t)) (meets_by cut a b rs cs from to)
all_touching cut a b rs cs from to = at (place_of a from) (place_of b to)
  where
    at : (x y : Option (ℕ × ℕ)) → AllByRecursion (λ t. IsTrue (touches cut t)) (meets_between cut rs cs x y)
    at None y = tt
    at (Some x) None = tt
    at (Some x) (Some y) = kept (touches cut) (rectangles (filter (lies_on x.0 y.0) rs) (filter (lies_on x.1 y.1) cs))
