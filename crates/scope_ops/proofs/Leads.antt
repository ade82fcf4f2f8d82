-- The first member whose leading dimensions are too low.
use Rattle.std.specs.Prelude.{◌≡◌, ℕ, ◌+◌, ◌<◌, Option, Some, None, Result, Ok, Err, MatchOption}
use Rattle.std.proofs.Common.{sym, ap, ◌∙◌, refl, subst, add-one}
use Rattle.proc_grid.specs.FirstOf.{first_of}
use Rattle.proc_grid.proofs.FirstLemmas.{first_of-more, first_of-at}
use Rattle.scope_ops.specs.declared.scope_err.ScopeErr.{ScopeErr}

-- what a check of one member answers
abbrev Tells : Option ScopeErr → Result (Unit {0}) ScopeErr → Type 0
Tells o result = MatchOption o (result ≡ Ok tt) (λ e. result ≡ Err e)

pub leads_refused : (f : ℕ → Option ScopeErr) (n k : ℕ) (e : ScopeErr) → first_of f k ≡ None → Tells (f k) (Err e) → k < n → Tells (first_of f n) (Err e)
leads_refused f n k e before here lt = at (f k) refl here
  where
    at : (o : Option ScopeErr) → f k ≡ o → Tells o (Err e) → Tells (first_of f n) (Err e)
    at None is h = cc
    at (Some x) is h = subst (λ o. Tells o (Err e)) (sym (first_of-at f k n x before is lt)) h

pub leads_more : (f : ℕ → Option ScopeErr) (k : ℕ) (u : Unit {0}) → first_of f k ≡ None → Tells (f k) (Ok u) → first_of f (k + 1) ≡ None
leads_more f k u before here = ap (first_of f) (add-one k) ∙ first_of-more f k before (at (f k) here)
  where
    at : (o : Option ScopeErr) → Tells o (Ok u) → o ≡ None
    at None h = refl
    at (Some x) h = cc
