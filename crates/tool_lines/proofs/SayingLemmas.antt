-- Texts that were said one after another.
use Rattle.std.proofs.Common.{◌≡◌, ℕ, List, ◌++◌, take, drop, sym, ap, ◌∙◌, append_assoc, inl, inr}
use Rattle.std.proofs.lemmas.List.{take-append-drop}
use Rattle.store_io.specs.Outside.{Poured, GrewByFront, Rose}
use Rattle.tool_lines.specs.Saying.{SaysFront, Gains}

-- some front was said
pub says_front : (old new : Poured) (text : List ℕ) → GrewByFront old new text → SaysFront old new text
says_front old new text h = record { said = take h.0 text; lost = drop h.0 text; bytes = h.1; all = take-append-drop h.0 text }

pub says_then : (old mid new : Poured) (s t : List ℕ) → mid.bytes ≡ old.bytes ++ s → new.bytes ≡ mid.bytes ++ t → new.bytes ≡ old.bytes ++ (s ++ t)
says_then old mid new s t first then = then ∙ ap (λ b. b ++ t) first ∙ append_assoc old.bytes s t

pub front_then : (old mid new : Poured) (s t : List ℕ) → mid.bytes ≡ old.bytes ++ s → SaysFront mid new t → SaysFront old new (s ++ t)
front_then old mid new s t first then = record {
  said = s ++ then.said;
  lost = then.lost;
  bytes = says_then old mid new s then.said first then.bytes;
  all = append_assoc s then.said then.lost ∙ ap (λ b. s ++ b) then.all;
}

pub front_more : (old new : Poured) (s t : List ℕ) → SaysFront old new s → SaysFront old new (s ++ t)
front_more old new s t h = record { said = h.said; lost = h.lost ++ t; bytes = h.bytes; all = sym (append_assoc h.said h.lost t) ∙ ap (λ b. b ++ t) h.all }

pub gains_all : (old new : Poured) (line : List ℕ) → new.bytes ≡ old.bytes ++ line → Gains old new line
gains_all old new line h = inl h

pub gains_front : (old new : Poured) (line : List ℕ) → SaysFront old new line → Rose old.faults new.faults → Gains old new line
gains_front old new line h r = inr (h, r)
