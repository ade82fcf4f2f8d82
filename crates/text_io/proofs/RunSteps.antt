-- The bytes of a line, gathered one by one.
use Rattle.std.proofs.Common.{◌≡◌, ◌≢◌, ℕ, zero, suc, ◌+◌, ◌^◌, ◌<◌, ◌≤◌, List, [], ◌∷◌, ◌++◌, length, take, set, take_all, take-take, length-take, length-append, append_assoc, refl, sym, ap, ◌∙◌, arith}
use Rattle.std.proofs.lemmas.List.{take_more_set, take-append-le}
use Rattle.line_text.specs.Lines.{without_return}
use Rattle.line_text.specs.Lines.{HasNoEnd}
use Rattle.text_io.specs.LineReading.{HasFault}
use Rattle.text_io.specs.Runs.{IsRun}
use Rattle.text_io.specs.declared.reader.LineFault.TheVariants.{LineLong}

-- a byte more is kept, or there is no room for it
pub kept_more : (text : List ℕ) (n b : ℕ) → n < 1025 → length text ≡ 1025 → take (n + 1) (set text n b) ≡ take 1025 (take n text ++ b ∷ [])
kept_more text n b room long =
    take_more_set text n b (omega arith) ∙ sym (take_all 1025 (take n text ++ b ∷ []) (omega (arith, length-append {A = ℕ}, length-take {A = ℕ})))

pub kept_full : (text : List ℕ) (n b : ℕ) → 1025 ≤ n → n ≤ 1025 → length text ≡ 1025 → take n text ≡ take 1025 (take n text ++ b ∷ [])
kept_full text n b full most long =
    let whole : length (take n text) ≡ 1025 = omega (arith, length-take {A = ℕ}) in
    sym (take-append-le 1025 (take n text) (b ∷ []) (omega arith) ∙ take_all 1025 (take n text) (omega arith))

-- nothing was taken
pub run_start : (start text : List ℕ) → text ≡ [] → IsRun start start 0 text
run_start start text none = record { run = []; whole = refl; no_end = tt; long = refl; kept = none }

no_end_more : (run : List ℕ) (b : ℕ) → HasNoEnd run → b ≢ 10 → HasNoEnd (run ++ b ∷ [])
no_end_more [] b is ne = (ne, tt)
no_end_more (c ∷ run) b is ne = (is.0, no_end_more run b is.1 ne)

take_again : (n : ℕ) (run : List ℕ) (b : ℕ) → take n (take n run ++ b ∷ []) ≡ take n (run ++ b ∷ [])
take_again zero run b = refl
take_again (suc n) [] b = refl
take_again (suc n) (c ∷ run) b = ap (λ (t : List ℕ). c ∷ t) (take_again n run b)

-- a byte more was taken
pub run_next : (start after later : List ℕ) (b count : ℕ) (text kept : List ℕ) → IsRun start after count text → after ≡ b ∷ later → b ≢ 10 → kept ≡ take 1025 (text ++ b ∷ []) → IsRun start later (count + 1) kept
run_next start after later b count text kept r is ne same =
    let n : length r.run ≡ count = r.long in
    record {
      run = r.run ++ b ∷ [];
      whole = r.whole ∙ ap (λ (bs : List ℕ). r.run ++ bs) is ∙ sym (append_assoc r.run (b ∷ []) later);
      no_end = no_end_more r.run b r.no_end ne;
      long = omega (arith, length-append {A = ℕ});
      kept = same ∙ ap (λ (t : List ℕ). take 1025 (t ++ b ∷ [])) r.kept ∙ take_again 1025 r.run b;
    }

-- the line's end, and the file's
pub run_ended : (start after later : List ℕ) (b count : ℕ) (text : List ℕ) → IsRun start after count text → after ≡ b ∷ later → b ≡ 10 → IsRun start (10 ∷ later) count text
run_ended start after later b count text r is end = record {
  run = r.run;
  whole = r.whole ∙ ap (λ (bs : List ℕ). r.run ++ bs) (is ∙ ap (λ (c : ℕ). c ∷ later) end);
  no_end = r.no_end;
  long = r.long;
  kept = r.kept;
}

pub run_last : (start after : List ℕ) (count : ℕ) (text : List ℕ) → IsRun start after count text → after ≡ [] → IsRun start [] count text
run_last start after count text r is = record { run = r.run; whole = r.whole ∙ ap (λ (bs : List ℕ). r.run ++ bs) is; no_end = r.no_end; long = r.long; kept = r.kept }

-- ---- faults of a line

shorter : (text : List ℕ) → length text ≤ length (without_return text) + 1
unfolding without_return
shorter [] = omega arith
shorter (b ∷ []) = omega arith
shorter (b ∷ c ∷ bs) = let h : length (c ∷ bs) ≤ length (without_return (c ∷ bs)) + 1 = shorter (c ∷ bs) in omega arith

pub long_run : (text : List ℕ) (upto : ℕ) → upto ≤ 2 ^ 30 → 1025 < length text → HasFault LineLong upto (without_return text)
long_run text upto near long = let h : length text ≤ length (without_return text) + 1 = shorter text in (near, omega arith)

kept_text : (kept text : List ℕ) (n : ℕ) → kept ≡ take 1025 text → length text ≤ 1025 → take n kept ≡ without_return kept → take n kept ≡ without_return text
kept_text kept text n is short e = e ∙ ap without_return (is ∙ take_all 1025 text short)

-- the line that is kept in a buffer
pub kept_line : (buffer text : List ℕ) (count n : ℕ) → take count buffer ≡ take 1025 text → length text ≤ 1025 → n ≤ length (take count buffer) → take n (take count buffer) ≡ without_return (take count buffer) → take n buffer ≡ without_return text
kept_line buffer text count n is short within e =
    let at : n ≤ count = omega (arith, length-take {A = ℕ}) in
    sym (take-take n count buffer at) ∙ kept_text (take count buffer) text n is short e

pub kept_fault : (buffer text : List ℕ) (count n upto : ℕ) → take count buffer ≡ take 1025 text → length text ≤ 1025 → n ≤ length (take count buffer) → take n (take count buffer) ≡ without_return (take count buffer) → 1024 < n → upto ≤ 2 ^ 30
    → HasFault LineLong upto (without_return text)
kept_fault buffer text count n upto is short within e long near =
    let whole : without_return text ≡ take n (take count buffer) = sym (kept_text (take count buffer) text n is short e) in
    let size : length (take n (take count buffer)) ≡ n = omega (arith, length-take {A = ℕ}) in
    let same : length (without_return text) ≡ length (take n (take count buffer)) = ap length whole in
    (near, omega arith)

-- where nothing is unread, the store has nothing left
pub nothing_left : (waiting left : List ℕ) → waiting ++ left ≡ [] → left ≡ []
nothing_left [] left e = e
nothing_left (b ∷ bs) left e = absurd cc
