-- Text that was put part after part.
use Rattle.std.proofs.Common.{◌≡◌, ℕ, List, [], ◌++◌, take, drop, refl, sym, ap, ◌∙◌, append_assoc, append-nil}
use Rattle.std.proofs.lemmas.List.{take-append-drop}
use Rattle.store_io.specs.Outside.{Poured, GrewByFront}
use Rattle.tool_lines.specs.Saying.{SaysFront}
use Rattle.program_results.specs.Pouring.{PoursOn}

-- nothing was put
pub pours_none : (s : Poured) (p : List ℕ) → PoursOn s s p p []
pours_none s p = record { said = []; bytes_are = sym (append-nil s.bytes); all = sym (append-nil p) }

-- what waited was said
pub pours_all : (old new : Poured) (p : List ℕ) → new.bytes ≡ old.bytes ++ p → PoursOn old new p [] []
pours_all old new p h = record { said = p; bytes_are = h; all = refl }

-- a piece is kept after what waits
pub pours_after : (old new : Poured) (p q bytes : List ℕ) → PoursOn old new p q [] → PoursOn old new p (q ++ bytes) bytes
pours_after old new p q bytes h = record {
  said = h.said;
  bytes_are = h.bytes_are;
  all = sym (append_assoc h.said q bytes) ∙ ap (λ s. s ++ bytes) (h.all ∙ append-nil p);
}

-- one piece after another
pub pours_then : (old mid new : Poured) (p q r s t : List ℕ) → PoursOn old mid p q s → PoursOn mid new q r t → PoursOn old new p r (s ++ t)
pours_then old mid new p q r s t first then = record {
  said = first.said ++ then.said;
  bytes_are = then.bytes_are ∙ ap (λ b. b ++ then.said) first.bytes_are ∙ append_assoc old.bytes first.said then.said;
  all = append_assoc first.said then.said r ∙ ap (λ x. first.said ++ x) then.all ∙ sym (append_assoc first.said q t) ∙ ap (λ x. x ++ t) first.all ∙ append_assoc p s t;
}

-- a piece is said after what waited, of which then nothing waits
pub pours_past : (old mid new : Poured) (p q bytes : List ℕ) → PoursOn old mid p q [] → q ≡ [] → new.bytes ≡ mid.bytes ++ bytes → PoursOn old new p q bytes
pours_past old mid new p q bytes first empty said =
    let at : first.said ≡ p = sym (append-nil first.said) ∙ ap (λ x. first.said ++ x) (sym empty) ∙ first.all ∙ append-nil p in
    record {
      said = first.said ++ bytes;
      bytes_are = said ∙ ap (λ b. b ++ bytes) first.bytes_are ∙ append_assoc old.bytes first.said bytes;
      all = ap (λ x. (first.said ++ bytes) ++ x) empty ∙ append-nil (first.said ++ bytes) ∙ ap (λ x. x ++ bytes) at;
    }

-- ---- calls that failed

-- a front of what waited
pub front_of_all : (old new : Poured) (p : List ℕ) → GrewByFront old new p → SaysFront old new (p ++ [])
front_of_all old new p h = record { said = take h.0 p; lost = drop h.0 p; bytes = h.1; all = take-append-drop h.0 p ∙ sym (append-nil p) }

-- a front is one of more bytes too
pub front_more : (old new : Poured) (p s t : List ℕ) → SaysFront old new (p ++ s) → SaysFront old new (p ++ (s ++ t))
front_more old new p s t h = record {
  said = h.said;
  lost = h.lost ++ t;
  bytes = h.bytes;
  all = sym (append_assoc h.said h.lost t) ∙ ap (λ x. x ++ t) h.all ∙ append_assoc p s t;
}

-- the same of a call that puts a piece after it has said what waited
pub front_waited : (old new : Poured) (p t : List ℕ) → SaysFront old new (p ++ []) → SaysFront old new (p ++ t)
front_waited old new p t h = front_more old new p [] t h

-- a piece was put, and of the next one a front
pub front_then : (old mid new : Poured) (p q s t : List ℕ) → PoursOn old mid p q s → SaysFront mid new (q ++ t) → SaysFront old new (p ++ (s ++ t))
front_then old mid new p q s t first then = record {
  said = first.said ++ then.said;
  lost = then.lost;
  bytes = then.bytes ∙ ap (λ b. b ++ then.said) first.bytes_are ∙ append_assoc old.bytes first.said then.said;
  all = append_assoc first.said then.said then.lost ∙ ap (λ x. first.said ++ x) then.all ∙ sym (append_assoc first.said q t) ∙ ap (λ x. x ++ t) first.all ∙ append_assoc p s t;
}

-- a piece was said in part, after what waited
pub front_past : (old mid new : Poured) (p q bytes : List ℕ) → PoursOn old mid p q [] → q ≡ [] → GrewByFront mid new bytes → SaysFront old new (p ++ bytes)
front_past old mid new p q bytes first empty h = record {
  said = first.said ++ take h.0 bytes;
  lost = drop h.0 bytes;
  bytes = h.1 ∙ ap (λ b. b ++ take h.0 bytes) first.bytes_are ∙ append_assoc old.bytes first.said (take h.0 bytes);
  all = append_assoc first.said (take h.0 bytes) (drop h.0 bytes) ∙ ap (λ x. first.said ++ x) (take-append-drop h.0 bytes) ∙ ap (λ x. x ++ bytes) (sym (append-nil first.said) ∙ ap (λ x. first.said ++ x) (sym empty) ∙ first.all ∙ append-nil p);
}

-- ---- a whole text

-- all of a text was put with a pen that was empty, and what waited at the end was said
pub says_whole : (old mid new : Poured) (o p q s : List ℕ) → o ≡ [] → PoursOn old mid o p s → PoursOn mid new p q [] → q ≡ [] → new.bytes ≡ old.bytes ++ s
says_whole old mid new o p q s none first then empty =
    let all = pours_then old mid new o p q s [] first then in
    let text : all.said ≡ s = sym (append-nil all.said) ∙ ap (λ x. all.said ++ x) (sym empty) ∙ all.all ∙ ap (λ x. x ++ (s ++ [])) none ∙ append-nil s in
    all.bytes_are ∙ ap (λ x. old.bytes ++ x) text

-- all of a text was put, and of what waited at the end a front was said
pub says_part : (old mid new : Poured) (o p s : List ℕ) → o ≡ [] → PoursOn old mid o p s → SaysFront mid new (p ++ []) → SaysFront old new s
says_part old mid new o p s none first then =
    let h : SaysFront old new (o ++ (s ++ [])) = front_then old mid new o p s [] first then in
    let P : List ℕ → Type 0 = SaysFront old new in
    record { said = h.said; lost = h.lost; bytes = h.bytes; all = h.all ∙ ap (λ x. x ++ (s ++ [])) none ∙ append-nil s }

-- of a text a front was said
pub says_front : (old new : Poured) (o s : List ℕ) → o ≡ [] → SaysFront old new (o ++ s) → SaysFront old new s
says_front old new o s none h = rw none at h
