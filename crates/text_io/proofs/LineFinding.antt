-- The line that some bytes begin with.
use Rattle.std.proofs.Common.{◌≡◌, ℕ, ◌+◌, ◌^◌, ◌<◌, ◌≤◌, List, [], ◌∷◌, ◌++◌, length, take, length-append, append-nil, refl, sym, ap, subst, ◌∙◌, arith}
use Rattle.std.proofs.lemmas.Bool.{ne_eqb}
use Rattle.line_text.specs.Lines.{whole_lines, before_first_line, without_return, ended, HasNoEnd}
use Rattle.line_text.proofs.WholeLineLaws.{whole_run, whole_last, without_end_run, without_end_last}
use Rattle.text_io.specs.LineReading.{ReaderView, lines_with, text_of, HasFault, Refuses, Finds}
use Rattle.text_io.specs.Runs.{IsRun, Ends}
use Rattle.text_io.specs.declared.reader.LineFault.TheVariants.{FileLong}
use Rattle.text_io.specs.declared.reader.Next.{Next}
use Rattle.text_io.specs.declared.reader.Next.TheVariants.{Line, End, Fault}

-- a line of so many bytes, and what the reader has left after it
record Cut (old mid : ReaderView) (left rest run : List ℕ) (bytes : ℕ) : Type 0 where
  pub line : List ℕ
  pub lines : lines_with old left ≡ line ∷ lines_with mid rest
  pub text : text_of line ≡ without_return run
  pub size : length line ≡ bytes

-- what becomes of a line that was cut off
found : (next : Next) (old mid new : ReaderView) (left rest run : List ℕ) (bytes : ℕ) → Cut old mid left rest run bytes → mid.before ≡ old.before → new.waiting ≡ mid.waiting → Ends next run bytes mid new → Finds next old new (lines_with old left) (lines_with new rest)
found Line old mid new left rest run bytes cut same waits e = record {
  line = cut.line;
  whole = cut.lines ∙ ap (λ (w : List ℕ). cut.line ∷ whole_lines (w ++ rest)) (sym waits);
  text = e.0 ∙ sym cut.text;
  upto = e.1 ∙ ap (λ (n : ℕ). n + bytes) same ∙ ap (λ (n : ℕ). old.before + n) (sym cut.size);
}
found End old mid new left rest run bytes cut same waits e = absurd e
found (Fault what) old mid new left rest run bytes cut same waits e =
    let upto : mid.before + bytes ≡ old.before + length cut.line = ap (λ (n : ℕ). n + bytes) same ∙ ap (λ (n : ℕ). old.before + n) (sym cut.size) in
    record {
      line = cut.line;
      more = lines_with mid rest;
      whole = cut.lines;
      fails = subst (λ (t : List ℕ). HasFault what (old.before + length cut.line) t) (sym cut.text) (subst (λ (n : ℕ). HasFault what n (without_return run)) upto e);
    }

-- a line with its end
pub ended_finds : (next : Next) (old mid new : ReaderView) (left rest : List ℕ) (count : ℕ) → IsRun (old.waiting ++ left) (10 ∷ (mid.waiting ++ rest)) count mid.text → mid.before ≡ old.before → new.waiting ≡ mid.waiting
    → ((text : List ℕ) → mid.text ≡ take 1025 text → length text ≡ count → Ends next text (count + 1) mid new) → Finds next old new (lines_with old left) (lines_with new rest)
ended_finds next old mid new left rest count r same waits ends =
    let n : length r.run ≡ count = r.long in
    found next old mid new left rest r.run (count + 1)
    (record {
      line = ended r.run;
      lines = ap whole_lines r.whole ∙ whole_run r.run (mid.waiting ++ rest) r.no_end;
      text = ap without_return (without_end_run r.run r.no_end);
      size = omega (arith, length-append {A = ℕ});
    })
    same waits (ends r.run r.kept r.long)

-- a last line without one
last_cut : (old mid : ReaderView) (left rest run : List ℕ) (count : ℕ) → old.waiting ++ left ≡ run ++ [] → HasNoEnd run → length run ≡ count → 0 < count → mid.waiting ++ rest ≡ [] → Cut old mid left rest run count
unfolding whole_lines
last_cut old mid left rest [] count whole is long some none = absurd (omega arith)
last_cut old mid left rest (b ∷ bs) count whole is long some none = record {
  line = b ∷ bs;
  lines = ap whole_lines (whole ∙ append-nil (b ∷ bs)) ∙ whole_last b bs is ∙ ap (λ (t : List ℕ). (b ∷ bs) ∷ whole_lines t) (sym none);
  text = ap without_return (without_end_last (b ∷ bs) is);
  size = long;
}

pub last_finds : (next : Next) (old mid new : ReaderView) (left rest : List ℕ) (count : ℕ) → IsRun (old.waiting ++ left) [] count mid.text → mid.waiting ++ rest ≡ [] → 0 < count → mid.before ≡ old.before → new.waiting ≡ mid.waiting
    → ((text : List ℕ) → mid.text ≡ take 1025 text → length text ≡ count → Ends next text count mid new) → Finds next old new (lines_with old left) (lines_with new rest)
last_finds next old mid new left rest count r none some same waits ends = found next old mid new left rest r.run count (last_cut old mid left rest r.run count r.whole r.no_end r.long some none) same waits (ends r.run r.kept r.long)

-- no line
no_run : (run : List ℕ) (count : ℕ) → length run ≡ count → count ≡ 0 → run ++ [] ≡ []
no_run [] count long zero = refl
no_run (b ∷ bs) count long zero = absurd (omega arith)

pub none_finds : (old : ReaderView) (left : List ℕ) (count : ℕ) (text : List ℕ) → IsRun (old.waiting ++ left) [] count text → count ≡ 0 → lines_with old left ≡ []
unfolding whole_lines
none_finds old left count text r zero = ap whole_lines (r.whole ∙ no_run r.run count r.long zero)

-- more bytes than a file may have
record Begins (run : List ℕ) (lines : List (List ℕ)) : Type 0 where
  pub tail : List ℕ
  pub more : List (List ℕ)
  pub whole : lines ≡ (run ++ tail) ∷ more

first_byte : (b : ℕ) (lines : List (List ℕ)) → Begins (b ∷ []) (before_first_line b lines)
first_byte b [] = record { tail = []; more = []; whole = refl }
first_byte b (line ∷ lines) = record { tail = line; more = lines; whole = refl }

one_byte_more : (b : ℕ) (run : List ℕ) (lines : List (List ℕ)) → Begins run lines → Begins (b ∷ run) (before_first_line b lines)
one_byte_more b run lines s = record { tail = s.tail; more = s.more; whole = ap (before_first_line b) s.whole }

begins : (run after : List ℕ) → HasNoEnd run → 0 < length run → Begins run (whole_lines (run ++ after))
unfolding whole_lines
begins [] after is some = absurd (omega arith)
begins (b ∷ []) after is some = rw (ne_eqb b 10 is.0) (first_byte b (whole_lines after))
begins (b ∷ c ∷ bs) after is some = let s : Begins (c ∷ bs) (whole_lines ((c ∷ bs) ++ after)) = begins (c ∷ bs) after is.1 (omega arith) in rw (ne_eqb b 10 is.0) (one_byte_more b (c ∷ bs) (whole_lines ((c ∷ bs) ++ after)) s)

pub far_finds : (old : ReaderView) (left after : List ℕ) (count : ℕ) (text : List ℕ) → old.before ≤ 2 ^ 30 → IsRun (old.waiting ++ left) after count text → 2 ^ 30 < old.before + count → Refuses FileLong old (lines_with old left)
far_finds old left after count text near r far =
    let n : length r.run ≡ count = r.long in
    let s : Begins r.run (whole_lines (r.run ++ after)) = begins r.run after r.no_end (omega arith) in
    let more : length (r.run ++ s.tail) ≡ length r.run + length s.tail = length-append r.run s.tail in
    record { line = r.run ++ s.tail; more = s.more; whole = ap whole_lines r.whole ∙ s.whole; fails = omega arith }
