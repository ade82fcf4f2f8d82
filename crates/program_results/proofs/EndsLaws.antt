-- The results that are made of the lines of a program.
use Rattle.std.proofs.Common.{◌≡◌, ℕ, ◌*◌, ◌≤◌, List, Option, length, refl, sym, ap, subst, ◌∙◌}
use Rattle.std.specs.Prelude.{map}
use Rattle.proc_grid.specs.Grid.{Grid}
use Rattle.descriptor.specs.declared.spread.Spread.{Spread}
use Rattle.grid_lang.specs.declared.line.Numbered.{Numbered}
use Rattle.program_results.specs.Placed.{Placed, placed_of}
use Rattle.program_results.specs.Results.{array_names}
use Rattle.program_results.specs.EndsView.{EndsView, ends_of, program_files, program_prints}
use Rattle.program_results.specs.Standing.{AskFor, IsEnds}
use Rattle.program_results.specs.declared.file.File.{File}
use Rattle.program_results.specs.declared.file.Print.{Print}
use Rattle.program_results.proofs.Fitting.{is_ends}

pub ends_made : (grids : List Grid) (spreads : List (Option Spread)) (lines : List Numbered) (names : List (List ℕ)) (places : List (Option Placed)) (files : List File) (prints : List Print)
    → names ≡ array_names lines → places ≡ map (placed_of grids) spreads → files ≡ program_files places lines → prints ≡ program_prints lines → (let e : EndsView = record { names = names; places = places; files = files; prints = prints } in e) ≡ ends_of grids spreads lines
unfolding ends_of
ends_made grids spreads lines names places files prints n p f q =
    let g : files ≡ program_files (map (placed_of grids) spreads) lines = f ∙ ap (λ (ps : List (Option Placed)). program_files ps lines) p in
    rw (n, p, g, q) refl

-- all that they ask for has a place
pub well_made : (grids : List Grid) (spreads : List (Option Spread)) (lines : List Numbered) (ranks : ℕ) (names : List (List ℕ)) (places : List (Option Placed)) (files : List File) (prints : List Print)
    → names ≡ array_names lines → places ≡ map (placed_of grids) spreads → files ≡ program_files places lines → prints ≡ program_prints lines → length files ≤ 64 * length lines → AskFor ranks spreads lines → (let e : EndsView = record { names = names; places = places; files = files; prints = prints } in IsEnds e)
well_made grids spreads lines ranks names places files prints n p f q few asked =
    let g : files ≡ program_files (map (placed_of grids) spreads) lines = f ∙ ap (λ (ps : List (Option Placed)). program_files ps lines) p in
    subst IsEnds (sym (ends_made grids spreads lines names places files prints n p f q)) (is_ends grids ranks spreads lines asked (subst (λ (fs : List File). length fs ≤ 64 * length lines) g few))
