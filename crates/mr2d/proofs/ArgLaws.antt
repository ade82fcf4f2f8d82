-- Arguments that pass their check stand for a move.
use Rattle.std.specs.Prelude.{◌≡◌, ◌≢◌, ℕ, ◌+◌, ◌-◌, ◌^◌, ◌≤◌, ℤ, pos, List, ◌∷◌, Option, Some, None}
use Rattle.std.proofs.Common.{sym, subst, refl, arith}
use Rattle.proc_grid.specs.Grid.{Grid, IsGrid}
use Rattle.proc_grid.specs.Held.{context_at}
use Rattle.descriptor.specs.Bounds.{part}
use Rattle.descriptor.specs.InfoOf.{info_of, entry}
use Rattle.descriptor.specs.Entries.{move_entries, matrix_entries, trmr2d_entries, is_bad_uplo, is_bad_diag}
use Rattle.descriptor.specs.Good.{IsGood, IsInside}
use Rattle.descriptor.specs.declared.spread.Spread.{Spread}
use Rattle.descriptor.specs.declared.moves.MrArgs.{MrArgs}
use Rattle.descriptor.proofs.PassLemmas.{info_of-each, move_entries-parts, matrix_entries-parts, good_extents, good_spread, some_context, inside_rows, inside_columns}
use Rattle.pack_words.specs.declared.shape.Shape.{Shape}
use Rattle.block_meet.specs.Runs.{IsAxis}
use Rattle.block_meet.specs.Meets.{rows_of, columns_of}
use Rattle.mr2d.specs.Homes.{IsSpread}
use Rattle.mr2d.specs.Moves.{IsMove}
use Rattle.mr2d.specs.Sides.{side_of}
use Rattle.mr2d.specs.Calls.{spread_array, move_of, IsReady}

-- what follows for one of the two matrices
pub record IsSide (held : List Grid) (s : Spread) (i j m n : ℤ) : Type 0 where
  pub grid : Grid
  pub there : context_at held s.desc.ctxt ≡ Some grid
  pub good : IsGrid grid → IsGood s grid
  pub rows : IsInside i (part m) (part s.desc.m)
  pub columns : IsInside j (part n) (part s.desc.n)

side_passes : (held : List Grid) (m n : ℕ) (i j : ℤ) (s : Spread) (descpos : ℕ) → info_of (matrix_entries held (pos m) (pos n) i j s descpos) ≡ None → (w : (g : Grid) → context_at held s.desc.ctxt ≡ Some g → IsGrid g) → IsSide held s i j (pos m) (pos n)
side_passes held m n i j s descpos h w =
    let p = matrix_entries-parts held (pos m) (pos n) i j s descpos h in
    let g = some_context held s descpos p.0 in
    let good = good_spread held s descpos g.0 p.0 g.1 (w g.0 g.1) in
    record {
      grid = g.0;
      there = g.1;
      good = λ k. good_spread held s descpos g.0 p.0 g.1 k;
      rows = inside_rows m n i j s descpos (part s.desc.m) p.1 good.rows;
      columns = inside_columns m n i j s descpos (part s.desc.n) p.1 good.columns;
    }

-- The arguments of a move that passes.
pub record Passes (held : List Grid) (args : MrArgs) : Type 0 where
  pub rows : args.m ≡ pos (part args.m)
  pub columns : args.n ≡ pos (part args.n)
  pub few_rows : part args.m ≤ 2 ^ 24
  pub few_columns : part args.n ≤ 2 ^ 24
  pub source : IsSide held args.desca args.ia args.ja args.m args.n
  pub target : IsSide held args.descb args.ib args.jb args.m args.n

pub passes : (held : List Grid) (args : MrArgs) (shift : ℕ) → info_of (move_entries held args shift) ≡ None → ((g : Grid) → context_at held args.desca.desc.ctxt ≡ Some g → IsGrid g) → ((g : Grid) → context_at held args.descb.desc.ctxt ≡ Some g → IsGrid g) → Passes held args
passes held args shift h wa wb =
    let p = move_entries-parts held args shift h in
    let e = good_extents args.m (1 + shift) args.n (2 + shift) p.extents in
    record {
      rows = e.0;
      columns = e.2;
      few_rows = e.1;
      few_columns = e.3;
      source = subst (λ (m : ℤ). IsSide held args.desca args.ia args.ja m args.n) (sym e.0) (subst (λ (n : ℤ). IsSide held args.desca args.ia args.ja (pos (part args.m)) n) (sym e.2)
          (side_passes held (part args.m) (part args.n) args.ia args.ja args.desca (6 + shift) (subst (λ (m : ℤ). info_of (matrix_entries held m (pos (part args.n)) args.ia args.ja args.desca (6 + shift)) ≡ None) e.0 (subst (λ (n : ℤ). info_of (matrix_entries held args.m n args.ia args.ja args.desca (6 + shift)) ≡ None) e.2 p.source)) wa));
      target = subst (λ (m : ℤ). IsSide held args.descb args.ib args.jb m args.n) (sym e.0) (subst (λ (n : ℤ). IsSide held args.descb args.ib args.jb (pos (part args.m)) n) (sym e.2)
          (side_passes held (part args.m) (part args.n) args.ib args.jb args.descb (10 + shift) (subst (λ (m : ℤ). info_of (matrix_entries held m (pos (part args.n)) args.ib args.jb args.descb (10 + shift)) ≡ None) e.0 (subst (λ (n : ℤ). info_of (matrix_entries held args.m n args.ib args.jb args.descb (10 + shift)) ≡ None) e.2 p.target)) wb));
    }

-- one context has one grid
same_grid : (o : Option Grid) (g h : Grid) → o ≡ Some g → o ≡ Some h → g ≡ h
same_grid o g h a b = cc

good_side : (held : List Grid) (s : Spread) (i j m n : ℤ) (g : Grid) → IsSide held s i j m n → context_at held s.desc.ctxt ≡ Some g → IsGrid g → IsGood s g
good_side held s i j m n g side there w =
    let e : side.grid ≡ g = same_grid (context_at held s.desc.ctxt) side.grid g side.there there in
    subst (λ (h : Grid). IsGrid h → IsGood s h) e side.good w

spread_is : (array : ℕ) (s : Spread) (g : Grid) → IsGrid g → IsGood s g → IsSpread (spread_array array s g)
spread_is array s g w good = record { grid = w; rows = refl; columns = refl; layout = good.layout; room = good.room }

-- Arguments that pass are ready.
pub ready : (held : List Grid) (args : MrArgs) (a b : Grid) → Passes held args → context_at held args.desca.desc.ctxt ≡ Some a → context_at held args.descb.desc.ctxt ≡ Some b → IsGrid a → IsGrid b → IsReady args a b
ready held args a b p a_is b_is wa wb = record {
  rows = p.rows;
  columns = p.columns;
  few_rows = p.few_rows;
  few_columns = p.few_columns;
  grid_a = wa;
  grid_b = wb;
  good_a = good_side held args.desca args.ia args.ja args.m args.n a p.source a_is wa;
  good_b = good_side held args.descb args.ib args.jb args.m args.n b p.target b_is wb;
  rows_a = p.source.rows;
  columns_a = p.source.columns;
  rows_b = p.target.rows;
  columns_b = p.target.columns;
}

module _ (shape : Shape) (args : MrArgs) (a b : Grid) (p : IsReady args a b) where
  pub is_move : args.a ≢ args.b → IsMove (move_of shape args a b)
  is_move other =
      let ar = p.rows_a in let ac = p.columns_a in let br = p.rows_b in let bc = p.columns_b in
      let ar1 = ar.from_one in let ar2 = ar.ends in let ac1 = ac.from_one in let ac2 = ac.ends in
      let br1 = br.from_one in let br2 = br.ends in let bc1 = bc.from_one in let bc2 = bc.ends in
      record {
        source = spread_is args.a args.desca a p.grid_a p.good_a;
        target = spread_is args.b args.descb b p.grid_b p.good_b;
        rows_in_a = omega arith;
        columns_in_a = omega arith;
        rows_in_b = omega arith;
        columns_in_b = omega arith;
        apart = other;
      }

  pub row_axis_a : IsAxis (part args.m) (rows_of (side_of (spread_array args.a args.desca a)) (part args.ia - 1))
  row_axis_a = let g = p.good_a in let x = p.rows_a in let x1 = x.from_one in let x2 = x.ends in let f = g.rows_fit in let l = g.layout.row_block in let r = g.layout.row_source in let k = g.row_block_fits in let few = p.grid_a.few_rows in
      record { block = omega arith; block_fits = k; processes = few; source = r; within = omega arith }

  pub column_axis_a : IsAxis (part args.n) (columns_of (side_of (spread_array args.a args.desca a)) (part args.ja - 1))
  column_axis_a = let g = p.good_a in let x = p.columns_a in let x1 = x.from_one in let x2 = x.ends in let f = g.columns_fit in let l = g.layout.column_block in let r = g.layout.column_source in let k = g.column_block_fits in let few = p.grid_a.few_columns in
      record { block = omega arith; block_fits = k; processes = few; source = r; within = omega arith }

  pub row_axis_b : IsAxis (part args.m) (rows_of (side_of (spread_array args.b args.descb b)) (part args.ib - 1))
  row_axis_b = let g = p.good_b in let x = p.rows_b in let x1 = x.from_one in let x2 = x.ends in let f = g.rows_fit in let l = g.layout.row_block in let r = g.layout.row_source in let k = g.row_block_fits in let few = p.grid_b.few_rows in
      record { block = omega arith; block_fits = k; processes = few; source = r; within = omega arith }

  pub column_axis_b : IsAxis (part args.n) (columns_of (side_of (spread_array args.b args.descb b)) (part args.jb - 1))
  column_axis_b = let g = p.good_b in let x = p.columns_b in let x1 = x.from_one in let x2 = x.ends in let f = g.columns_fit in let l = g.layout.column_block in let r = g.layout.column_source in let k = g.column_block_fits in let few = p.grid_b.few_columns in
      record { block = omega arith; block_fits = k; processes = few; source = r; within = omega arith }

-- The contexts of arguments that pass are there.
pub source_there : (held : List Grid) (args : MrArgs) (shift : ℕ) → info_of (move_entries held args shift) ≡ None → (g : Grid) × (context_at held args.desca.desc.ctxt ≡ Some g)
source_there held args shift h = some_context held args.desca (6 + shift) (matrix_entries-parts held args.m args.n args.ia args.ja args.desca (6 + shift) (move_entries-parts held args shift h).source).0

pub target_there : (held : List Grid) (args : MrArgs) (shift : ℕ) → info_of (move_entries held args shift) ≡ None → (g : Grid) × (context_at held args.descb.desc.ctxt ≡ Some g)
target_there held args shift h = some_context held args.descb (10 + shift) (matrix_entries-parts held args.m args.n args.ib args.jb args.descb (10 + shift) (move_entries-parts held args shift h).target).0

pub ready_from : (held : List Grid) (args : MrArgs) (shift : ℕ) (a b : Grid) → info_of (move_entries held args shift) ≡ None → context_at held args.desca.desc.ctxt ≡ Some a → context_at held args.descb.desc.ctxt ≡ Some b → IsGrid a → IsGrid b → IsReady args a b
ready_from held args shift a b h a_is b_is wa wb =
    ready held args a b
    (passes held args shift h
    (λ g e. subst (λ (x : Grid). IsGrid x) (same_grid (context_at held args.desca.desc.ctxt) a g a_is e) wa)
    (λ g e. subst (λ (x : Grid). IsGrid x) (same_grid (context_at held args.descb.desc.ctxt) b g b_is e) wb))
    a_is b_is wa wb

-- after UPLO and DIAG stand the arguments of the whole move
pub rest_passes : (held : List Grid) (uplo diag : ℕ) (args : MrArgs) → info_of (trmr2d_entries held uplo diag args) ≡ None → (shift : ℕ) × (info_of (move_entries held args shift) ≡ None)
rest_passes held uplo diag args h =
    (2, (info_of-each (is_bad_diag diag) 2 (move_entries held args 2) (info_of-each (is_bad_uplo uplo) 1 (entry (is_bad_diag diag) 2 ∷ move_entries held args 2) h).1).1)
