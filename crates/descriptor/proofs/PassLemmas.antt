-- What follows where a check passes.
use Rattle.std.proofs.Common.{◌≡◌, ℕ, ◌+◌, ◌-◌, ◌*◌, ◌/◌, ◌^◌, ◌<◌, ◌≤◌, ◌==◌, ◌||◌, not, nat_lt, nat_eq, max, Bool, true, false, cond, List, [], ◌∷◌, ◌++◌, length, slice_index, slice_index_or, Option, None, Some, is_none, ℤ, pos, negsuc, refl, sym, ap, ◌∙◌, subst, arith}
use Rattle.std.specs.List.{list_any}
use Rattle.std.proofs.lemmas.Nat.{mul-add-lt, div-mul-add}
use Rattle.std.proofs.lemmas.Bool.Decides.{nat_tests}
use Rattle.std.proofs.lemmas.List.Folds.{list_any_at, Any-from_list_any}
use Rattle.std.proofs.lemmas.List.{get_or_default}
use Rattle.std.proofs.lemmas.Option.{same_Some}
use Rattle.index_tools.specs.Spread.{spread, below}
use Rattle.proc_grid.specs.Grid.{Grid, IsGrid}
use Rattle.proc_grid.specs.Held.{context_at}
use Rattle.descriptor.specs.InfoOf.{Entry, entry, info_of, info_number}
use Rattle.descriptor.specs.Bounds.{is_outside, starts_outside, part, rows_of, columns_of, least_lld, some_below, has_bad_lld, lacks_grid}
use Rattle.descriptor.specs.Entries.{desc_entries, extent_entries, start_entries, matrix_entries, common_entries, move_entries}
use Rattle.descriptor.specs.Good.{IsGood, IsInside, IsWithin}
use Rattle.descriptor.specs.declared.info.Info.{Info}
use Rattle.descriptor.specs.declared.spread.Spread.{Spread}
use Rattle.descriptor.specs.declared.moves.MrArgs.{MrArgs}
use Rattle.descriptor.proofs.BoundsLemmas.{some_below-each, bad_at}

-- Where a check passes, its first entry is good, and the rest passes.
pub info_of-each : (b : Bool) (place : ℕ) (es : List Entry) → info_of (entry b place ∷ es) ≡ None → (b ≡ false) × (info_of es ≡ None)
info_of-each true place es h = cc
info_of-each false place es h = (refl, h)

-- Where two lists in a row pass, each passes.
pub info_of-parts : (xs ys : List Entry) → info_of (xs ++ ys) ≡ None → (info_of xs ≡ None) × (info_of ys ≡ None)
info_of-parts [] ys h = (refl, h)
info_of-parts (x ∷ xs) ys h = step x.is_bad (info_number x.place) (info_of xs) (info_of (xs ++ ys)) (info_of ys) (info_of-parts xs ys) h
  where
    step : (b : Bool) (i : Info) (o p r : Option Info) → (p ≡ None → (o ≡ None) × (r ≡ None)) → cond b (Some i) p ≡ None → (cond b (Some i) o ≡ None) × (r ≡ None)
    step true i o p r f h = cc
    step false i o p r f h = f h

-- a number that isn't outside its bounds
pub not_outside : (v : ℤ) (low high : ℕ) → is_outside v low high ≡ false → (v ≡ pos (part v)) × (low ≤ part v) × (part v ≤ high)
unfolding is_outside
not_outside (pos n) low high h = let w = bounds n low high h in (refl, w.0, w.1)
  where
    bounds : (n low high : ℕ) → (nat_lt n low || nat_lt high n) ≡ false → (low ≤ n) × (n ≤ high)
    bounds n low high h = (low_side n low high h, high_side n low high h)
      where
        low_side : (n low high : ℕ) → (nat_lt n low || nat_lt high n) ≡ false → low ≤ n
        low_side n low high h = grind (arith, nat_tests)

        high_side : (n low high : ℕ) → (nat_lt n low || nat_lt high n) ≡ false → n ≤ high
        high_side n low high h = grind (arith, nat_tests)
not_outside (negsuc n) low high h = cc

-- a start that isn't outside its bounds
pub not_starts_outside : (start : ℤ) (extent whole : ℕ) → starts_outside start (pos extent) (pos whole) ≡ false → IsInside start extent whole
unfolding starts_outside
not_starts_outside (pos n) extent whole h = record { number = refl; from_one = first n extent whole h; ends = last n extent whole h }
  where
    first : (n extent whole : ℕ) → (nat_lt n 1 || nat_lt whole (n + extent - 1)) ≡ false → 1 ≤ n
    first n extent whole h = grind (arith, nat_tests)

    last : (n extent whole : ℕ) → (nat_lt n 1 || nat_lt whole (n + extent - 1)) ≡ false → n + extent ≤ whole + 1
    last n extent whole h = grind (arith, nat_tests)
not_starts_outside (negsuc n) extent whole h = cc

-- a list of leading dimensions that isn't bad
pub not_bad_lld : (llds : List ℤ) (rows block source nprow npcol : ℕ) → has_bad_lld llds rows block source nprow npcol ≡ false → (length llds ≡ nprow * npcol) × (some_below (bad_at llds rows block source nprow npcol) (nprow * npcol) ≡ false)
unfolding has_bad_lld
not_bad_lld llds rows block source nprow npcol h = (size (length llds) (nprow * npcol) _ h, rest (length llds) (nprow * npcol) _ h)
  where
    size : (a b : ℕ) (c : Bool) → (not (a == b) || c) ≡ false → a ≡ b
    size a b c h = grind (arith, nat_tests)

    rest : (a b : ℕ) (c : Bool) → (not (a == b) || c) ≡ false → c ≡ false
    rest a b c h = grind (arith, nat_tests)

-- The leading dimension of each process is at least its least one, and at most 2 ^ 24.
pub lld_bounds : (llds : List ℤ) (rows block source nprow npcol p q : ℕ) → has_bad_lld llds rows block source nprow npcol ≡ false → p < nprow → q < npcol
    → let lld = part (slice_index_or llds (p * npcol + q) (pos 0)) in (1 ≤ lld) × (below (spread block source nprow) p rows ≤ lld) × (lld ≤ 2 ^ 24)
lld_bounds llds rows block source nprow npcol p q h hp hq =
    let k : ℕ = p * npcol + q in
    let low : k < nprow * npcol = let l : k < npcol * nprow = mul-add-lt p npcol q nprow hp hq in omega arith in
    let good : bad_at llds rows block source nprow npcol k ≡ false = some_below-each (bad_at llds rows block source nprow npcol) k (nprow * npcol) (not_bad_lld llds rows block source nprow npcol h).1 low in
    let row : k / npcol ≡ p = div-mul-add p npcol q hq in
    let here : is_outside (slice_index_or llds k (pos 0)) (least_lld rows block source nprow p) (2 ^ 24) ≡ false = subst (λ r. is_outside (slice_index_or llds k (pos 0)) (least_lld rows block source nprow r) (2 ^ 24) ≡ false) row good in
    let b = not_outside (slice_index_or llds k (pos 0)) (least_lld rows block source nprow p) (2 ^ 24) here in
    sides (below (spread block source nprow) p rows) (part (slice_index_or llds k (pos 0))) b.1 b.2
  where
    sides : (n lld : ℕ) → max 1 n ≤ lld → lld ≤ 2 ^ 24 → (1 ≤ lld) × (n ≤ lld) × (lld ≤ 2 ^ 24)
    sides n lld h k = (omega arith, omega arith, k)

-- the nine entries of a descriptor, each good
pub record NineGood (b₁ b₂ b₃ b₄ b₅ b₆ b₇ b₈ b₉ : Bool) : Type 0 where
  pub dtype : b₁ ≡ false
  pub context : b₂ ≡ false
  pub rows : b₃ ≡ false
  pub columns : b₄ ≡ false
  pub row_block : b₅ ≡ false
  pub column_block : b₆ ≡ false
  pub row_source : b₇ ≡ false
  pub column_source : b₈ ≡ false
  pub llds : b₉ ≡ false

nine : (d : ℕ) (b₁ b₂ b₃ b₄ b₅ b₆ b₇ b₈ b₉ : Bool)
    → info_of (entry b₁ (d + 1) ∷ (entry b₂ (d + 2) ∷ (entry b₃ (d + 3) ∷ (entry b₄ (d + 4) ∷ (entry b₅ (d + 5) ∷ (entry b₆ (d + 6) ∷ (entry b₇ (d + 7) ∷ (entry b₈ (d + 8) ∷ (entry b₉ (d + 9) ∷ []))))))))) ≡ None → NineGood b₁ b₂ b₃ b₄ b₅ b₆ b₇ b₈ b₉
nine d b₁ b₂ b₃ b₄ b₅ b₆ b₇ b₈ b₉ h =
    let e₁ = info_of-each b₁ (d + 1) (entry b₂ (d + 2) ∷ (entry b₃ (d + 3) ∷ (entry b₄ (d + 4) ∷ (entry b₅ (d + 5) ∷ (entry b₆ (d + 6) ∷ (entry b₇ (d + 7) ∷ (entry b₈ (d + 8) ∷ (entry b₉ (d + 9) ∷ [])))))))) h in
    let e₂ = info_of-each b₂ (d + 2) (entry b₃ (d + 3) ∷ (entry b₄ (d + 4) ∷ (entry b₅ (d + 5) ∷ (entry b₆ (d + 6) ∷ (entry b₇ (d + 7) ∷ (entry b₈ (d + 8) ∷ (entry b₉ (d + 9) ∷ []))))))) e₁.1 in
    let e₃ = info_of-each b₃ (d + 3) (entry b₄ (d + 4) ∷ (entry b₅ (d + 5) ∷ (entry b₆ (d + 6) ∷ (entry b₇ (d + 7) ∷ (entry b₈ (d + 8) ∷ (entry b₉ (d + 9) ∷ [])))))) e₂.1 in
    let e₄ = info_of-each b₄ (d + 4) (entry b₅ (d + 5) ∷ (entry b₆ (d + 6) ∷ (entry b₇ (d + 7) ∷ (entry b₈ (d + 8) ∷ (entry b₉ (d + 9) ∷ []))))) e₃.1 in
    let e₅ = info_of-each b₅ (d + 5) (entry b₆ (d + 6) ∷ (entry b₇ (d + 7) ∷ (entry b₈ (d + 8) ∷ (entry b₉ (d + 9) ∷ [])))) e₄.1 in
    let e₆ = info_of-each b₆ (d + 6) (entry b₇ (d + 7) ∷ (entry b₈ (d + 8) ∷ (entry b₉ (d + 9) ∷ []))) e₅.1 in
    let e₇ = info_of-each b₇ (d + 7) (entry b₈ (d + 8) ∷ (entry b₉ (d + 9) ∷ [])) e₆.1 in
    let e₈ = info_of-each b₈ (d + 8) (entry b₉ (d + 9) ∷ []) e₇.1 in
    let e₉ = info_of-each b₉ (d + 9) [] e₈.1 in
    record { dtype = e₁.0; context = e₂.0; rows = e₃.0; columns = e₄.0; row_block = e₅.0; column_block = e₆.0; row_source = e₇.0; column_source = e₈.0; llds = e₉.0 }

pub desc_entries-each : (held : List Grid) (s : Spread) (descpos : ℕ) → info_of (desc_entries held s descpos) ≡ None
    → NineGood (is_outside s.desc.dtype 1 1) (is_none (context_at held s.desc.ctxt)) (is_outside s.desc.m 0 (2 ^ 24)) (is_outside s.desc.n 0 (2 ^ 24)) (is_outside s.desc.mb 1 (2 ^ 24)) (is_outside s.desc.nb 1 (2 ^ 24))
    (is_outside s.desc.rsrc 0 (rows_of (context_at held s.desc.ctxt) - 1)) (is_outside s.desc.csrc 0 (columns_of (context_at held s.desc.ctxt) - 1))
    (has_bad_lld s.llds (part s.desc.m) (part s.desc.mb) (part s.desc.rsrc) (rows_of (context_at held s.desc.ctxt)) (columns_of (context_at held s.desc.ctxt)))
unfolding desc_entries
desc_entries-each held s descpos h = nine (100 * descpos) _ _ _ _ _ _ _ _ _ h

-- Where the entries of a descriptor are good, it names a context.
pub some_context : (held : List Grid) (s : Spread) (descpos : ℕ) → info_of (desc_entries held s descpos) ≡ None → (g : Grid) × (context_at held s.desc.ctxt ≡ Some g)
some_context held s descpos h = pick (context_at held s.desc.ctxt) (desc_entries-each held s descpos h).context refl
  where
    pick : (o : Option Grid) → is_none o ≡ false → context_at held s.desc.ctxt ≡ o → (g : Grid) × (context_at held s.desc.ctxt ≡ Some g)
    pick None h e = cc
    pick (Some g) h e = (g, e)

-- Where the entries of a descriptor are good, its matrix is spread over its grid, and each process has room.
pub good_spread : (held : List Grid) (s : Spread) (descpos : ℕ) (g : Grid) → info_of (desc_entries held s descpos) ≡ None → context_at held s.desc.ctxt ≡ Some g → IsGrid g → IsGood s g
good_spread held s descpos g h c w =
    let e = desc_entries-each held s descpos h in
    let dtype = not_outside s.desc.dtype 1 1 e.dtype in
    let m = not_outside s.desc.m 0 (2 ^ 24) e.rows in
    let n = not_outside s.desc.n 0 (2 ^ 24) e.columns in
    let mb = not_outside s.desc.mb 1 (2 ^ 24) e.row_block in
    let nb = not_outside s.desc.nb 1 (2 ^ 24) e.column_block in
    let rsrc = not_outside s.desc.rsrc 0 (g.nprow - 1) (subst (λ o. is_outside s.desc.rsrc 0 (rows_of o - 1) ≡ false) c e.row_source) in
    let csrc = not_outside s.desc.csrc 0 (g.npcol - 1) (subst (λ o. is_outside s.desc.csrc 0 (columns_of o - 1) ≡ false) c e.column_source) in
    let llds : has_bad_lld s.llds (part s.desc.m) (part s.desc.mb) (part s.desc.rsrc) g.nprow g.npcol ≡ false = subst (λ o. has_bad_lld s.llds (part s.desc.m) (part s.desc.mb) (part s.desc.rsrc) (rows_of o) (columns_of o) ≡ false) c e.llds in
    let bounds = λ (p q : ℕ) (hp : p < g.nprow) (hq : q < g.npcol). lld_bounds s.llds (part s.desc.m) (part s.desc.mb) (part s.desc.rsrc) g.nprow g.npcol p q llds hp hq in
    record {
      dtype = dtype.0 ∙ ap pos (one (part s.desc.dtype) dtype.1 dtype.2);
      rows = m.0;
      columns = n.0;
      row_block = mb.0;
      column_block = nb.0;
      row_source = rsrc.0;
      column_source = csrc.0;
      rows_fit = m.2;
      columns_fit = n.2;
      row_block_fits = mb.2;
      column_block_fits = nb.2;
      layout = record { row_block = mb.1; column_block = nb.1; row_source = under _ _ w.some_rows rsrc.2; column_source = under _ _ w.some_columns csrc.2 };
      llds = (not_bad_lld s.llds (part s.desc.m) (part s.desc.mb) (part s.desc.rsrc) g.nprow g.npcol llds).0;
      room = record { rows_fit = λ p q hp hq. (bounds p q hp hq).1 };
      some_lld = λ p q hp hq. (bounds p q hp hq).0;
      llds_fit = λ p q hp hq. (bounds p q hp hq).2;
    }
  where
    one : (n : ℕ) → 1 ≤ n → n ≤ 1 → n ≡ 1
    one n h k = omega arith

    under : (x n : ℕ) → 0 < n → x ≤ n - 1 → x < n
    under x n h k = omega arith

-- Where the starts are good, the submatrix is inside.
pub inside_rows : (m n : ℕ) (i j : ℤ) (s : Spread) (descpos rows : ℕ) → info_of (start_entries (pos m) (pos n) i j s descpos) ≡ None → s.desc.m ≡ pos rows → IsInside i m rows
unfolding start_entries
inside_rows m n i j s descpos rows h e =
    let first = info_of-each (starts_outside i (pos m) s.desc.m) (descpos - 2) (entry (starts_outside j (pos n) s.desc.n) (descpos - 1) ∷ []) h in
    not_starts_outside i m rows (subst (λ w. starts_outside i (pos m) w ≡ false) e first.0)

pub inside_columns : (m n : ℕ) (i j : ℤ) (s : Spread) (descpos columns : ℕ) → info_of (start_entries (pos m) (pos n) i j s descpos) ≡ None → s.desc.n ≡ pos columns → IsInside j n columns
unfolding start_entries
inside_columns m n i j s descpos columns h e =
    let first = info_of-each (starts_outside i (pos m) s.desc.m) (descpos - 2) (entry (starts_outside j (pos n) s.desc.n) (descpos - 1) ∷ []) h in
    let second = info_of-each (starts_outside j (pos n) s.desc.n) (descpos - 1) [] first.1 in
    not_starts_outside j n columns (subst (λ w. starts_outside j (pos n) w ≡ false) e second.0)

-- The extents of a submatrix that passes.
pub good_extents : (m : ℤ) (mpos : ℕ) (n : ℤ) (npos : ℕ) → info_of (extent_entries m mpos n npos) ≡ None → (m ≡ pos (part m)) × (part m ≤ 2 ^ 24) × (n ≡ pos (part n)) × (part n ≤ 2 ^ 24)
unfolding extent_entries
good_extents m mpos n npos h =
    let first = info_of-each (is_outside m 0 (2 ^ 24)) mpos (entry (is_outside n 0 (2 ^ 24)) npos ∷ []) h in
    let second = info_of-each (is_outside n 0 (2 ^ 24)) npos [] first.1 in
    let rows = not_outside m 0 (2 ^ 24) first.0 in
    let columns = not_outside n 0 (2 ^ 24) second.0 in
    (rows.0, rows.2, columns.0, columns.2)

-- A matrix and its submatrix pass together.
pub matrix_entries-parts : (held : List Grid) (m n i j : ℤ) (s : Spread) (descpos : ℕ) → info_of (matrix_entries held m n i j s descpos) ≡ None → (info_of (desc_entries held s descpos) ≡ None) × (info_of (start_entries m n i j s descpos) ≡ None)
unfolding matrix_entries
matrix_entries-parts held m n i j s descpos h = info_of-parts (desc_entries held s descpos) (start_entries m n i j s descpos) h

-- The parts of a move that passes.
pub record PassesMove (held : List Grid) (args : MrArgs) (shift : ℕ) : Type 0 where
  pub extents : info_of (extent_entries args.m (1 + shift) args.n (2 + shift)) ≡ None
  pub source : info_of (matrix_entries held args.m args.n args.ia args.ja args.desca (6 + shift)) ≡ None
  pub target : info_of (matrix_entries held args.m args.n args.ib args.jb args.descb (10 + shift)) ≡ None
  pub context : info_of (common_entries held args.ictxt args.desca.desc.ctxt args.descb.desc.ctxt (11 + shift)) ≡ None

pub move_entries-parts : (held : List Grid) (args : MrArgs) (shift : ℕ) → info_of (move_entries held args shift) ≡ None → PassesMove held args shift
move_entries-parts held args shift h =
    let last = common_entries held args.ictxt args.desca.desc.ctxt args.descb.desc.ctxt (11 + shift) in
    let target = matrix_entries held args.m args.n args.ib args.jb args.descb (10 + shift) in
    let source = matrix_entries held args.m args.n args.ia args.ja args.desca (6 + shift) in
    let e₁ = info_of-parts (extent_entries args.m (1 + shift) args.n (2 + shift)) (source ++ (target ++ last)) h in
    let e₂ = info_of-parts source (target ++ last) e₁.1 in
    let e₃ = info_of-parts target last e₂.1 in
    record { extents = e₁.0; source = e₂.0; target = e₃.0; context = e₃.1 }

-- A context that doesn't lack a grid has each of its ranks.
pub not_lacking : (common : Option Grid) (g : Grid) → lacks_grid common (Some g) ≡ false → (c : Grid) × (common ≡ Some c) × IsWithin c g
unfolding lacks_grid
not_lacking None g h = cc
not_lacking (Some c) g h = (c, refl, record { found = λ k l. here k l (list_any (λ r. r == slice_index g.ranks k) c.ranks) refl })
  where
    is_equal : (a b : ℕ) → nat_eq a b ≡ true → a ≡ b
    is_equal a b h = grind (arith, nat_tests)

    turned : (b : Bool) → b ≡ false → not b ≡ true
    turned true e = cc
    turned false e = refl

    apart : {b : Bool} → b ≡ true → b ≡ false → ⊥
    apart f g = cc

    here : (k : ℕ) → k < length g.ranks → (b : Bool) → list_any (λ r. r == slice_index g.ranks k) c.ranks ≡ b → (j : ℕ) × (j < length c.ranks) × (slice_index c.ranks j ≡ slice_index g.ranks k)
    here k l true e = let a = Any-from_list_any (λ r. r == slice_index g.ranks k) c.ranks e in (a.0, a.2, get_or_default c.ranks a.0 0 a.1 a.2 ∙ a.3 ∙ is_equal _ _ a.4)
    here k l false e = absurd (apart (list_any_at (λ rank. not (list_any (λ r. r == rank) c.ranks)) g.ranks k 0 l (turned _ e)) h)

-- So every process of both grids is in the common context.
pub common_context : (held : List Grid) (ictxt first second : ℤ) (place : ℕ) (g k : Grid) → info_of (common_entries held ictxt first second place) ≡ None → context_at held first ≡ Some g → context_at held second ≡ Some k
    → (c : Grid) × (context_at held ictxt ≡ Some c) × IsWithin c g × IsWithin c k
unfolding common_entries
common_context held ictxt first second place g k h e f =
    let both = neither _ _ (info_of-each (lacks_grid (context_at held ictxt) (context_at held first) || lacks_grid (context_at held ictxt) (context_at held second)) place [] h).0 in
    let one = not_lacking (context_at held ictxt) g (subst (λ o. lacks_grid (context_at held ictxt) o ≡ false) e both.0) in
    let two = not_lacking (context_at held ictxt) k (subst (λ o. lacks_grid (context_at held ictxt) o ≡ false) f both.1) in
    (one.0, one.1, one.2, subst (λ c. IsWithin c k) (same_Some _ _ (sym two.1 ∙ one.1)) two.2)
  where
    neither : (a b : Bool) → (a || b) ≡ false → (a ≡ false) × (b ≡ false)
    neither true b h = cc
    neither false b h = (refl, h)
