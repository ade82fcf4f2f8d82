-- The rows that `clap` holds: what a use of an argument changes.
use Rattle.std.proofs.Common.{◌≡◌, ℕ, suc, zero, Bool, true, false, cond, List, [], ◌∷◌, ◌++◌, Option, Some, None, refl, sym, ap, ◌∙◌, subst, find}
use Rattle.std.specs.Prelude.{codes, option_map, unwrap_or, is_some, option_and_then}
use Rattle.std.specs.Str.{bytes_eq}
use Rattle.clap.specs.Walk.{all_of, Row, Text, one_of, with_values, without, has_row, finished, used, with_default, row_text, settled, Held}
use Rattle.clap.specs.Simple.{filled, with_index}
use Rattle.clap.specs.declared.parser.matches.ValueSource.{ValueSource}
use Rattle.clap.specs.declared.parser.matches.ValueSource.TheVariants.{CommandLine, DefaultValue}
use Rattle.clap.specs.declared.builder.value_parser.Reading.{Reading}
use Rattle.clap.specs.declared.builder.value_parser.Reading.TheVariants.{AsWritten}
use Rattle.std.proofs.lemmas.Slice.Eq.{bytes_eq-Decides}
use Rattle.tool_words.specs.Line.{places_rule, threads_rule, seed_rule}
use Rattle.tool_words.specs.Given.{Given}
use Rattle.tool_words.proofs.LeafRules.{rules}

-- the values of an argument, and its row
abbrev pub values_at : Text → List Row → List Text
values_at id rows = unwrap_or (all_of id rows) []

abbrev pub row_at : Text → List Row → Option Row
row_at id rows = find (λ r. bytes_eq r.id id) rows

-- more values at the row of an id
pub values_more : (id : Text) (how : Reading) (s : ValueSource) (vs : List Text) (rows : List Row) → bytes_eq id id ≡ true → values_at id (with_values id how s vs rows) ≡ values_at id rows ++ vs
values_more id how s vs [] e = rw e refl
values_more id how s vs (r ∷ rs) e = by_row (bytes_eq r.id id) refl (values_more id how s vs rs e)
  where
    by_row : (b : Bool) → bytes_eq r.id id ≡ b → values_at id (with_values id how s vs rs) ≡ values_at id rs ++ vs → values_at id (with_values id how s vs (r ∷ rs)) ≡ values_at id (r ∷ rs) ++ vs
    by_row true f ih = rw (f, f) refl
    by_row false f ih = rw (f, f) ih

-- another id's row stays
pub row_other : (id other : Text) (how : Reading) (s : ValueSource) (vs : List Text) (rows : List Row) → ((t : Text) → bytes_eq t id ≡ true → bytes_eq t other ≡ false) → bytes_eq id other ≡ false → row_at other (with_values id how s vs rows) ≡ row_at other rows
row_other id other how s vs [] apart e = rw e refl
row_other id other how s vs (r ∷ rs) apart e = by_row (bytes_eq r.id id) (bytes_eq r.id other) refl refl (row_other id other how s vs rs apart e)
  where
    by_row : (b c : Bool) → bytes_eq r.id id ≡ b → bytes_eq r.id other ≡ c → row_at other (with_values id how s vs rs) ≡ row_at other rs → row_at other (with_values id how s vs (r ∷ rs)) ≡ row_at other (r ∷ rs)
    by_row true c f g ih = let h : bytes_eq r.id other ≡ false = apart r.id f in rw (f, h) refl
    by_row false true f g ih = rw (f, g) refl
    by_row false false f g ih = rw (f, g) ih

-- an id without a row
pub without_none : (id : Text) (rows : List Row) → row_at id rows ≡ None → without id rows ≡ rows
without_none id [] e = refl
without_none id (r ∷ rs) e = by_row (bytes_eq r.id id) refl e (without_none id rs)
  where
    by_row : (b : Bool) → bytes_eq r.id id ≡ b → row_at id (r ∷ rs) ≡ None → (row_at id rs ≡ None → without id rs ≡ rs) → without id (r ∷ rs) ≡ r ∷ rs
    by_row true f none ih = let none' : Some r ≡ None = rw f at none in absurd cc
    by_row false f none ih = rw f (ap (λ t. r ∷ t) (ih (rw f at none)))

pub row_new : (id : Text) (how : Reading) (s : ValueSource) (vs : List Text) (rows : List Row) → bytes_eq id id ≡ true → row_at id rows ≡ None → row_at id (with_values id how s vs rows) ≡ Some (record { id = id; values = vs; count = None; source = Some s; reading = how })
row_new id how s vs [] e none = rw e refl
row_new id how s vs (r ∷ rs) e none = by_row (bytes_eq r.id id) refl none (row_new id how s vs rs e)
  where
    by_row : (b : Bool) → bytes_eq r.id id ≡ b → row_at id (r ∷ rs) ≡ None → (row_at id rs ≡ None → row_at id (with_values id how s vs rs) ≡ Some (record { id = id; values = vs; count = None; source = Some s; reading = how })) → row_at id (with_values id how s vs (r ∷ rs)) ≡ Some (record { id = id; values = vs; count = None; source = Some s; reading = how })
    by_row true f none ih = let none' : Some r ≡ None = rw f at none in absurd cc
    by_row false f none ih = rw (f, f) (ih (rw f at none))

pub has_row_is : (id : Text) (rows : List Row) → has_row id rows ≡ is_some (row_at id rows)
has_row_is id [] = refl
has_row_is id (r ∷ rs) = by_row (bytes_eq r.id id) refl (has_row_is id rs)
  where
    by_row : (b : Bool) → bytes_eq r.id id ≡ b → has_row id rs ≡ is_some (row_at id rs) → has_row id (r ∷ rs) ≡ is_some (row_at id (r ∷ rs))
    by_row true f ih = rw f refl
    by_row false f ih = rw f ih

-- two ids that differ
apart : (id other : Text) → bytes_eq id other ≡ false → (t : Text) → bytes_eq t id ≡ true → bytes_eq t other ≡ false
apart id other e t f = let is : t ≡ id = (bytes_eq-Decides t id).0 f in subst (λ (u : Text). bytes_eq u other ≡ false) (sym is) e

-- the row of `--threads`, where it was used so often
abbrev pub flag_row : ℕ → Option Row
flag_row zero = None
flag_row (suc n) = Some (record { id = codes "threads"; values = codes "true" ∷ []; count = None; source = Some CommandLine; reading = AsWritten })

-- the rows say what was given
pub record Shows (rows : List Row) (g : Given) : Type 0 where
  pub places : values_at (codes "words") rows ≡ g.places
  pub threads : row_at (codes "threads") rows ≡ flag_row g.threads
  pub seeds : values_at (codes "seed") rows ≡ g.seeds

-- another id's values and row stay where values are given
values_stay : (id other : Text) (s : ValueSource) (vs : List Text) (rows : List Row) → bytes_eq id other ≡ false → values_at other (with_values id AsWritten s vs rows) ≡ values_at other rows
values_stay id other s vs rows e = ap (λ (o : Option Row). unwrap_or (option_map (λ r. r.values) o) []) (row_other id other AsWritten s vs rows (apart id other e) e)

row_stays : (id other : Text) (vs : List Text) (rows : List Row) → bytes_eq id other ≡ false → row_at other (with_values id AsWritten CommandLine vs rows) ≡ row_at other rows
row_stays id other vs rows e = row_other id other AsWritten CommandLine vs rows (apart id other e) e

pub shows_place : (rows : List Row) (g : Given) (x : Text) → Shows rows g → Shows (used (filled places_rule) (x ∷ []) rows) (record g { places = g.places ++ x ∷ [] })
shows_place rows g x h = record {
  places = values_more (codes "words") AsWritten CommandLine (x ∷ []) rows refl ∙ ap (λ t. t ++ x ∷ []) h.places;
  threads = row_stays (codes "words") (codes "threads") (x ∷ []) rows refl ∙ h.threads;
  seeds = values_stay (codes "words") (codes "seed") CommandLine (x ∷ []) rows refl ∙ h.seeds;
}

pub shows_seed : (rows : List Row) (g : Given) (x : Text) → Shows rows g → Shows (used (filled seed_rule) (x ∷ []) rows) (record g { seeds = g.seeds ++ x ∷ [] })
shows_seed rows g x h = record {
  places = values_stay (codes "seed") (codes "words") CommandLine (x ∷ []) rows refl ∙ h.places;
  threads = row_stays (codes "seed") (codes "threads") (x ∷ []) rows refl ∙ h.threads;
  seeds = values_more (codes "seed") AsWritten CommandLine (x ∷ []) rows refl ∙ ap (λ t. t ++ x ∷ []) h.seeds;
}

pub shows_threads : (rows : List Row) (g : Given) → g.threads ≡ 0 → Shows rows g → Shows (used (filled threads_rule) [] rows) (record g { threads = 1 })
shows_threads rows g none h =
    let absent : row_at (codes "threads") rows ≡ None = h.threads ∙ ap flag_row none in
    let same : without (codes "threads") rows ≡ rows = without_none (codes "threads") rows absent in
    let P : List Row → Type 0 = λ t. Shows (with_values (codes "threads") AsWritten CommandLine (codes "true" ∷ []) t) (record g { threads = 1 }) in
    subst P (sym same) (record {
      places = values_stay (codes "threads") (codes "words") CommandLine (codes "true" ∷ []) rows refl ∙ h.places;
      threads = row_new (codes "threads") AsWritten CommandLine (codes "true" ∷ []) rows refl absent;
      seeds = values_stay (codes "threads") (codes "seed") CommandLine (codes "true" ∷ []) rows refl ∙ h.seeds;
    })

-- ---- after the defaults

same_rows : (b : Bool) (rows : List Row) → cond b rows rows ≡ rows
same_rows true rows = refl
same_rows false rows = refl

-- the text of the flag
abbrev pub flag_text : ℕ → Text
flag_text zero = codes "false"
flag_text (suc n) = codes "true"

pub record Finished (rows : List Row) (g : Given) : Type 0 where
  pub places : values_at (codes "words") rows ≡ g.places
  pub threads : one_of (codes "threads") rows ≡ Some (flag_text g.threads)
  pub seeds : values_at (codes "seed") rows ≡ g.seeds

flag_finished : (rows : List Row) (g : Given) (t : ℕ) → g.threads ≡ t → Shows rows g → Finished (with_default rows (filled threads_rule)) (record g { threads = t })
flag_finished rows g zero e h =
    let none : row_at (codes "threads") rows ≡ None = h.threads ∙ ap flag_row e in
    let absent : has_row (codes "threads") rows ≡ false = has_row_is (codes "threads") rows ∙ ap is_some none in
    rw absent (record {
      places = values_stay (codes "threads") (codes "words") DefaultValue (codes "false" ∷ []) rows refl ∙ h.places;
      threads = ap (option_and_then row_text) (row_new (codes "threads") AsWritten DefaultValue (codes "false" ∷ []) rows refl none);
      seeds = values_stay (codes "threads") (codes "seed") DefaultValue (codes "false" ∷ []) rows refl ∙ h.seeds;
    })
flag_finished rows g (suc n) e h =
    let some : row_at (codes "threads") rows ≡ flag_row (suc n) = h.threads ∙ ap flag_row e in
    let present : has_row (codes "threads") rows ≡ true = has_row_is (codes "threads") rows ∙ ap is_some some in
    rw present (record {
      places = h.places;
      threads = ap (option_and_then row_text) some;
      seeds = h.seeds;
    })

pub shows_finished : (h : Held) (g : Given) → Shows (settled rules h).rows g → Finished (finished rules h) g
shows_finished h g shows =
    let rows : List Row = (settled rules h).rows in
    let first : with_default rows (with_index 1 (filled places_rule)) ≡ rows = same_rows (has_row (codes "words") rows) rows in
    let flagged : List Row = with_default (with_default rows (with_index 1 (filled places_rule))) (filled threads_rule) in
    let last : with_default flagged (filled seed_rule) ≡ flagged = same_rows (has_row (codes "seed") flagged) flagged in
    let P : List Row → Type 0 = λ t. Finished t g in
    let Q : List Row → Type 0 = λ t. Finished (with_default t (filled threads_rule)) g in
    subst P (sym last) (subst Q (sym first) (flag_finished rows g g.threads refl shows))
