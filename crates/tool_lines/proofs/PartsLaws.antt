-- Texts that are said one after the other.
use Rattle.std.proofs.Common.{◌≡◌, ℕ, zero, suc, ◌+◌, ◌<◌, ◌≤◌, List, [], ◌∷◌, ◌++◌, length, get_or, take, refl, sym, ap, subst, ◌∙◌, append-nil, append_assoc, arith}
use Rattle.std.specs.Prelude.{map}
use Rattle.std.proofs.lemmas.List.{map-append, take_more}
use Rattle.store_io.specs.Outside.{Poured}
use Rattle.tool_lines.specs.Saying.{SaysFront, part_text}
use Rattle.tool_lines.specs.Texts.{joined}
use Rattle.tool_lines.specs.declared.line.Part.{Part}
use Rattle.tool_lines.proofs.SayingLemmas.{says_then, front_then, front_more}

joined_last : (ts : List (List ℕ)) (t : List ℕ) → joined (ts ++ t ∷ []) ≡ joined ts ++ t
joined_last [] t = append-nil t
joined_last (x ∷ ts) t = ap (λ (y : List ℕ). x ++ y) (joined_last ts t) ∙ sym (append_assoc x (joined ts) t)

-- the first of them, and the next
joined_cut : (ps : List Part) (k : ℕ) (d : Part) → k < length ps → joined (map part_text (take (k + 1) ps)) ≡ joined (map part_text (take k ps)) ++ part_text (get_or ps k d)
joined_cut ps k d lt =
    ap (λ (qs : List Part). joined (map part_text qs)) (take_more ps k d lt)
    ∙ ap joined (map-append part_text (take k ps) (get_or ps k d ∷ [])) ∙ joined_last (map part_text (take k ps)) (part_text (get_or ps k d))

-- what is left from a place on
abbrev rest_of : List Part → ℕ → List ℕ
rest_of [] k = []
rest_of (q ∷ ps) zero = joined (map part_text (q ∷ ps))
rest_of (q ∷ ps) (suc k) = rest_of ps k

joined_rest : (ps : List Part) (k : ℕ) → joined (map part_text ps) ≡ joined (map part_text (take k ps)) ++ rest_of ps k
joined_rest [] zero = refl
joined_rest [] (suc k) = refl
joined_rest (q ∷ ps) zero = refl
joined_rest (q ∷ ps) (suc k) = ap (λ (t : List ℕ). part_text q ++ t) (joined_rest ps k) ∙ sym (append_assoc (part_text q) (joined (map part_text (take k ps))) (rest_of ps k))

-- nothing is said yet
pub none_said : (old : Poured) (ps : List Part) → old.bytes ≡ old.bytes ++ joined (map part_text (take 0 ps))
none_said old ps = sym (append-nil old.bytes)

-- one part more
pub one_said : (old mid new : Poured) (ps : List Part) (k : ℕ) (d : Part) → k < length ps → mid.bytes ≡ old.bytes ++ joined (map part_text (take k ps)) → new.bytes ≡ mid.bytes ++ part_text (get_or ps k d) → new.bytes ≡ old.bytes ++ joined (map part_text (take (k + 1) ps))
one_said old mid new ps k d lt before then = says_then old mid new (joined (map part_text (take k ps))) (part_text (get_or ps k d)) before then ∙ ap (λ (t : List ℕ). old.bytes ++ t) (sym (joined_cut ps k d lt))

-- all parts
take_all : (ps : List Part) (n : ℕ) → length ps ≤ n → take n ps ≡ ps
take_all [] zero le = refl
take_all [] (suc n) le = refl
take_all (q ∷ ps) zero le = absurd (omega arith)
take_all (q ∷ ps) (suc n) le = ap (λ (qs : List Part). q ∷ qs) (take_all ps n (omega arith))

pub all_said : (old new : Poured) (ps : List Part) (k : ℕ) → length ps ≤ k → new.bytes ≡ old.bytes ++ joined (map part_text (take k ps)) → new.bytes ≡ old.bytes ++ joined (map part_text ps)
all_said old new ps k le said = said ∙ ap (λ (qs : List Part). old.bytes ++ joined (map part_text qs)) (take_all ps k le)

-- the stream failed at a part
pub part_failed : (old mid new : Poured) (ps : List Part) (k : ℕ) (d : Part) → k < length ps → mid.bytes ≡ old.bytes ++ joined (map part_text (take k ps)) → SaysFront mid new (part_text (get_or ps k d)) → SaysFront old new (joined (map part_text ps))
part_failed old mid new ps k d lt before then =
    let P : List ℕ → Type 0 = SaysFront old new in
    let here : joined (map part_text (take k ps)) ++ part_text (get_or ps k d) ≡ joined (map part_text (take (k + 1) ps)) = sym (joined_cut ps k d lt) in
    let all : joined (map part_text (take (k + 1) ps)) ++ rest_of ps (k + 1) ≡ joined (map part_text ps) = sym (joined_rest ps (k + 1)) in
    subst P (ap (λ (t : List ℕ). t ++ rest_of ps (k + 1)) here ∙ all) (front_more old new (joined (map part_text (take k ps)) ++ part_text (get_or ps k d)) (rest_of ps (k + 1)) (front_then old mid new (joined (map part_text (take k ps))) (part_text (get_or ps k d)) before then))
