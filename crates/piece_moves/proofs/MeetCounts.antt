-- The number of a whole matrix's meets.
use Rattle.std.proofs.Common.{◌≡◌, ℕ, suc, ◌+◌, ◌*◌, Bool, cond, List, [], ◌∷◌, ◌++◌, length, refl, sym, ap₂, ◌∙◌, arith}
use Rattle.std.specs.Prelude.{map, count_by}
use Rattle.std.proofs.lemmas.List.Sums.{sum_by-cons, sum_by-append}
use Rattle.pack_words.specs.declared.shape.Shape.TheVariants.{Ge}
use Rattle.block_meet.specs.declared.axis.Axis.{Axis}
use Rattle.block_meet.specs.declared.axis.Run.{Run}
use Rattle.block_meet.specs.declared.side.Meet.{Meet}
use Rattle.block_meet.specs.Runs.{IsAxis, AreRuns}
use Rattle.block_meet.specs.Meets.{rectangle, rectangles, touches}
use Rattle.block_meet.specs.Numbers.{run_count}
use Rattle.block_meet.proofs.LawLemmas.{count_runs}

count_joined : (t : Meet → Bool) (xs ys : List Meet) → count_by t (xs ++ ys) ≡ count_by t xs + count_by t ys
count_joined t xs ys = sum_by-append (λ x. cond (t x) 1 0) xs ys

-- every rectangle of a whole matrix has an element
row_touched : (m n : ℕ) (rs : List Run) (c : Run) → count_by (touches (record { shape = Ge; m = m; n = n })) (map (λ r. rectangle r c) rs) ≡ length rs
row_touched m n [] c = refl
row_touched m n (r ∷ rs) c = sum_by-cons (λ x. cond (touches (record { shape = Ge; m = m; n = n }) x) 1 0) (rectangle r c) (map (λ s. rectangle s c) rs) ∙ more (row_touched m n rs c)
  where
    more : {x y : ℕ} → x ≡ y → 1 + x ≡ suc y
    more e = omega (arith, e)

all_touched : (m n : ℕ) (rs cs : List Run) → count_by (touches (record { shape = Ge; m = m; n = n })) (rectangles rs cs) ≡ length rs * length cs
all_touched m n rs [] = let none : length rs * 0 ≡ 0 = omega arith in sym none
all_touched m n rs (c ∷ cs) =
    let t : Meet → Bool = touches (record { shape = Ge; m = m; n = n }) in
    let row : count_by t (map (λ r. rectangle r c) rs) ≡ length rs = row_touched m n rs c in
    let rest : count_by t (rectangles rs cs) ≡ length rs * length cs = all_touched m n rs cs in
    let step : length rs + length rs * length cs ≡ length rs * suc (length cs) = grind arith in
    count_joined t (map (λ r. rectangle r c) rs) (rectangles rs cs) ∙ ap₂ (λ (x y : ℕ). x + y) row rest ∙ step

-- The meets of a whole matrix are as many as the runs of its rows times those of its columns.
pub meets_counted : (m n : ℕ) (ra rb ca cb : Axis) (rs cs : List Run) → IsAxis m ra → IsAxis m rb → IsAxis n ca → IsAxis n cb → AreRuns m ra rb rs → AreRuns n ca cb cs
    → count_by (touches (record { shape = Ge; m = m; n = n })) (rectangles rs cs) ≡ run_count ra rb m * run_count ca cb n
meets_counted m n ra rb ca cb rs cs wra wrb wca wcb hr hc =
    all_touched m n rs cs ∙ ap₂ (λ (x y : ℕ). x * y) (count_runs m ra rb rs wra.block wrb.block hr) (count_runs n ca cb cs wca.block wcb.block hc)
