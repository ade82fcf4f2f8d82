-- Numbers of declared grids and arrays.
use Rattle.std.proofs.Common.{◌≡◌, ℕ, zero, suc, ◌+◌, ◌<◌, Bool, true, false, List, [], ◌∷◌, ◌++◌, length, map, Option, Some, None, refl, sym, ap, subst, ◌∙◌, arith, length-append, pos}
use Rattle.std.specs.Prelude.{slice_get, is_some}
use Rattle.std.proofs.lemmas.List.{length-map}
use Rattle.proc_grid.specs.Grid.{Grid}
use Rattle.proc_grid.specs.Held.{context_at}
use Rattle.descriptor.specs.declared.spread.Spread.{Spread}
use Rattle.grid_lang.specs.declared.line.Line.{Line}
use Rattle.grid_lang.specs.Facts.{Known, declared_after, known_after}
use Rattle.line_plans.specs.declared.declared.Declared.{Declared}
use Rattle.line_plans.specs.Known.{Stands}
use Rattle.line_plans.specs.Standing.{IsGridMore, IsArrayMore}

-- a number below the number of grids has a grid
pub not_held : (held : List Grid) (n : ℕ) → n < length held → context_at held (pos n) ≡ None → ⊥
not_held [] n lt e = absurd (omega arith)
not_held (g ∷ held) zero lt e = absurd cc
not_held (g ∷ held) (suc n) lt e = not_held held n (omega arith) e

pub known_array : (d : Declared) (k : Known) (y : ℕ) → Stands d k → y < length k.arrays → y < d.shapes.count
known_array d k y h lt =
    let long : length k.arrays ≡ length d.spreads.items = ap length h.arrays ∙ length-map d.spreads.items is_some in
    let each = d.sound.one_each in
    omega arith

spread_there : (spreads : List (Option Spread)) (x : ℕ) → slice_get (map is_some spreads) x ≡ Some true → (s : Spread) × (slice_get spreads x ≡ Some (Some s))
spread_there [] x e = absurd cc
spread_there (Some s ∷ spreads) zero e = (s, refl)
spread_there (None ∷ spreads) zero e = absurd cc
spread_there (o ∷ spreads) (suc x) e = spread_there spreads x e

pub known_spread : (d : Declared) (k : Known) (x : ℕ) → Stands d k → slice_get k.arrays x ≡ Some true → (s : Spread) × (slice_get d.spreads.items x ≡ Some (Some s))
known_spread d k x h e = spread_there d.spreads.items x (subst (λ (bs : List Bool). slice_get bs x ≡ Some true) h.arrays e)

pub known_grid : (d : Declared) (k : Known) (g : ℕ) → Stands d k → g < k.grids → g < length d.contexts
known_grid d k g h lt = subst (λ n. g < n) h.grids lt

pub known_count : (d : Declared) (k : Known) (n : ℕ) → Stands d k → length k.arrays < n → length d.spreads.items < n
known_count d k n h lt = subst (λ m. m < n) (ap length h.arrays ∙ length-map d.spreads.items is_some) lt

pub known_grids : (d : Declared) (k : Known) (n : ℕ) → Stands d k → k.grids < n → length d.contexts < n
known_grids d k n h lt = subst (λ m. m < n) h.grids lt

-- ---- what is known after a declaration

map_more : (spreads : List (Option Spread)) (o : Option Spread) → map is_some (spreads ++ o ∷ []) ≡ map is_some spreads ++ is_some o ∷ []
map_more [] o = refl
map_more (x ∷ spreads) o = ap (λ (bs : List Bool). is_some x ∷ bs) (map_more spreads o)

pub grid_stands : (d e : Declared) (k : Known) (line : Line) → Stands d k → IsGridMore d e → declared_after k line ≡ record k { grids = k.grids + 1 } → Stands e (known_after k line)
grid_stands d e k line h more same =
    let m = more.1 in
    record {
      ranks = ap (λ (x : Known). x.ranks) same ∙ h.ranks ∙ ap (λ v. v.ranks) (sym m.shapes);
      grids = ap (λ (x : Known). x.grids) same ∙ ap (λ n. n + 1) h.grids ∙ sym (ap length m.contexts ∙ length-append d.contexts (more.0 ∷ []));
      arrays = ap (λ (x : Known). x.arrays) same ∙ h.arrays ∙ ap (λ (xs : List (Option Spread)). map is_some xs) (sym m.spreads);
    }

pub array_stands : (d e : Declared) (k : Known) (line : Line) (b : Bool) → Stands d k → IsArrayMore b d e → declared_after k line ≡ record k { arrays = k.arrays ++ b ∷ [] } → Stands e (known_after k line)
array_stands d e k line b h more same =
    let m = more.2 in
    record {
      ranks = ap (λ (x : Known). x.ranks) same ∙ h.ranks ∙ ap (λ v. v.ranks) (sym m.shapes);
      grids = ap (λ (x : Known). x.grids) same ∙ h.grids ∙ ap length (sym m.contexts);
      arrays = ap (λ (x : Known). x.arrays) same ∙ ap (λ (bs : List Bool). bs ++ b ∷ []) h.arrays
          ∙ ap (λ c. map is_some d.spreads.items ++ c ∷ []) (sym more.3)
          ∙ sym (map_more d.spreads.items more.0) ∙ ap (λ (xs : List (Option Spread)). map is_some xs) (sym m.spreads);
    }
