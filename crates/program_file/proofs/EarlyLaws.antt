-- The first bytes of a text decide whether it is a program, and which.
use Rattle.std.proofs.Common.{◌≡◌, ◌⊎◌, inl, inr, ℕ, zero, suc, ◌+◌, ◌-◌, ◌*◌, ◌<◌, ◌≤◌, Bool, true, false, ◌||◌, List, [], ◌∷◌, ◌++◌, length, take, take_all, take-take, Result, Ok, Err, Some, nat_lt, refl, sym, ap, subst, ◌∙◌, arith, length-take}
use Rattle.line_text.specs.Lines.{without_return, lines, HasNoEnd}
use Rattle.line_text.specs.Formats.{Refusal, read_on, read_bytes, read_text, and_then, refused_at}
use Rattle.line_text.specs.FaultTables.{step_faults}
use Rattle.line_text.specs.FormatMeaning.{Leads, IsAccepted}
use Rattle.line_text.specs.FormatLaws.{IsReading}
use Rattle.line_text.proofs.FormatReadings.{reading}
use Rattle.line_text.proofs.FormatLaws.{by_steps}
use Rattle.line_text.proofs.FormatSteps.{at_next, on_fault}
use Rattle.grid_lang.specs.declared.fault.LangFault.{LangFault}
use Rattle.grid_lang.specs.declared.fault.LangFault.TheVariants.{Limit}
use Rattle.grid_lang.specs.declared.line.Numbered.{Numbered}
use Rattle.grid_lang.specs.Programs.{State, start, step, line_fault, grid_format, IsProgramText, IsProgramFault}
use Rattle.program_file.specs.ProgramFiles.{most_bytes, AreEnough}
use Rattle.program_file.proofs.PieceLaws.{most_is}
use Rattle.program_file.proofs.LineCuts.{HasEnd, HasLine, HasLongLine, first_run, ended_line, some_line, long_line, free_front, free_take, take_over, too_many, too_many_is}

abbrev Answer : Type 0
Answer = Result (List Numbered) (Refusal LangFault)

past_limit : (long late : Bool) → (long ≡ true) ⊎ (late ≡ true) → (long || late) ≡ true
past_limit long late (inl e) = rw e refl
past_limit true late (inr e) = refl
past_limit false late (inr e) = e

lt_true : (a b : ℕ) → a < b → nat_lt a b ≡ true
lt_true a b lt = grind arith

-- a line that is too long, or comes too late, is refused
limit_step : (n : ℕ) (s : State) (text : List ℕ) → (1024 < length text) ⊎ (4096 < n) → step n s text ≡ Err Limit
unfolding step
limit_step n s text (inl long) = rw (past_limit (nat_lt 1024 (length text)) (nat_lt 4096 n) (inl (lt_true 1024 (length text) long))) refl
limit_step n s text (inr late) = rw (past_limit (nat_lt 1024 (length text)) (nat_lt 4096 n) (inr (lt_true 4096 n late))) refl

limit_at : ℕ → Answer
limit_at n = Err (record { line = n; fault = Limit })

limited : (n : ℕ) (s : State) (bytes line : List ℕ) (more : List (List ℕ)) → lines bytes ≡ line ∷ more → (1024 < length line) ⊎ (4096 < n) → read_bytes grid_format n s bytes ≡ limit_at n
unfolding limit_at
limited n s bytes line more first past = ap (read_on grid_format n s) first ∙ on_fault grid_format n s line more Limit (limit_step n s line past)

too_late : (n : ℕ) (s : State) (bytes : List ℕ) → 4096 < n → HasLine bytes → read_bytes grid_format n s bytes ≡ limit_at n
too_late n s bytes late h = limited n s bytes h.line h.more h.first (inr late)

too_long : (n : ℕ) (s : State) (bytes : List ℕ) → HasLongLine bytes → read_bytes grid_format n s bytes ≡ limit_at n
too_long n s bytes h = limited n s bytes h.line h.more h.first (inl h.long)

-- from a line of this number on, with so many lines before the limit
abbrev Settles : ℕ → Type 0
Settles k = (n : ℕ) (s : State) (bytes : List ℕ) (c : ℕ) → n + k ≡ 4097 → k * 1026 + 1 ≤ c → read_bytes grid_format n s (take c bytes) ≡ read_bytes grid_format n s bytes

all_taken : (n : ℕ) (s : State) (bytes : List ℕ) (c : ℕ) → length bytes ≤ c → read_bytes grid_format n s (take c bytes) ≡ read_bytes grid_format n s bytes
all_taken n s bytes c le = ap (read_bytes grid_format n s) (take_all c bytes le)

cut_length : (bytes : List ℕ) (c : ℕ) → c < length bytes → length (take c bytes) ≡ c
cut_length bytes c lt = omega (arith, length-take c bytes)

settled_late : (n : ℕ) (s : State) (bytes : List ℕ) (c : ℕ) → 4096 < n → 1 ≤ c → c < length bytes → read_bytes grid_format n s (take c bytes) ≡ read_bytes grid_format n s bytes
settled_late n s bytes c late some lt =
    too_late n s (take c bytes) late (some_line (take c bytes) (omega (arith, some, cut_length bytes c lt))) ∙ sym (too_late n s bytes late (some_line bytes (omega (arith, some, lt))))

-- no line end among the first 1,026 bytes
settled_long : (n : ℕ) (s : State) (bytes : List ℕ) (c : ℕ) → 1026 ≤ c → c < length bytes → HasNoEnd (take too_many bytes) → read_bytes grid_format n s (take c bytes) ≡ read_bytes grid_format n s bytes
settled_long n s bytes c far lt free =
    let here : HasNoEnd (take too_many (take c bytes)) = subst HasNoEnd (sym (take-take too_many c bytes (omega (arith, far, too_many_is)))) free in
    too_long n s (take c bytes) (long_line (take c bytes) (omega (arith, far, cut_length bytes c lt)) here) ∙ sym (too_long n s bytes (long_line bytes (omega (arith, far, lt)) free))

same_next : (r : Result State (Refusal LangFault)) (f g : State → Answer) → ((x : State) → f x ≡ g x) → and_then r f ≡ and_then r g
same_next (Ok x) f g same = same x
same_next (Err e) f g same = refl

-- a line with its end within the first 1,026 bytes
settled_short : (k : ℕ) → Settles k → (n : ℕ) (s : State) (run rest : List ℕ) (c : ℕ) → n + suc k ≡ 4097 → suc k * 1026 + 1 ≤ c → HasNoEnd run → length run ≤ 1025
    → read_bytes grid_format n s (take c (run ++ 10 ∷ rest)) ≡ read_bytes grid_format n s (run ++ 10 ∷ rest)
settled_short k ih n s run rest c en ec free short =
    let d : ℕ = c - (length run + 1) in
    let split : c ≡ length run + 1 + d = omega (arith, ec, short) in
    let enough : k * 1026 + 1 ≤ d = omega (arith, ec, short) in
    let number : suc n + k ≡ 4097 = omega (arith, en) in
    let text : List ℕ = without_return run in
    let next : State → List ℕ → Answer = λ x left. read_on grid_format (suc n) x (lines left) in
    let cut : (left : List ℕ) → read_bytes grid_format n s (run ++ 10 ∷ left) ≡ and_then (refused_at n (step n s text)) (λ x. next x left)
    = λ left. ap (read_on grid_format n s) (ended_line run left free) ∙ at_next grid_format n s text (lines left) in
    ap (read_bytes grid_format n s) (take_over run rest c d split) ∙ cut (take d rest)
    ∙ same_next (refused_at n (step n s text)) (λ x. next x (take d rest)) (λ x. next x rest) (λ x. ih (suc n) x rest d number enough) ∙ sym (cut rest)

settled_end : (k : ℕ) → Settles k → (n : ℕ) (s : State) (bytes : List ℕ) (c : ℕ) → n + suc k ≡ 4097 → suc k * 1026 + 1 ≤ c → c < length bytes → (h : HasEnd bytes) → (length h.run ≤ 1025) ⊎ (1026 ≤ length h.run)
    → read_bytes grid_format n s (take c bytes) ≡ read_bytes grid_format n s bytes
settled_end k ih n s bytes c en ec lt h (inl short) =
    let P : List ℕ → Type 0 = λ l. read_bytes grid_format n s (take c l) ≡ read_bytes grid_format n s l in
    subst P (sym h.cut) (settled_short k ih n s h.run h.rest c en ec h.free short)
settled_end k ih n s bytes c en ec lt h (inr long) =
    let free : HasNoEnd (take too_many bytes) = subst (λ (l : List ℕ). HasNoEnd (take too_many l)) (sym h.cut) (free_front too_many h.run (10 ∷ h.rest) (omega (arith, long, too_many_is)) h.free) in
    settled_long n s bytes c (omega (arith, ec)) lt free

is_short : (a b : ℕ) → (a ≤ b) ⊎ (suc b ≤ a)
is_short a b = grind arith

settled_next : (k : ℕ) → Settles k → (n : ℕ) (s : State) (bytes : List ℕ) (c : ℕ) → n + suc k ≡ 4097 → suc k * 1026 + 1 ≤ c → c < length bytes → read_bytes grid_format n s (take c bytes) ≡ read_bytes grid_format n s bytes
settled_next k ih n s bytes c en ec lt =
    elim (first_run bytes) [ inl h ↦ settled_end k ih n s bytes c en ec lt h (is_short (length h.run) 1025) | inr free ↦ settled_long n s bytes c (omega (arith, ec)) lt (free_take too_many bytes free) ]

settles : (k : ℕ) → Settles k
settles zero n s bytes c en ec = elim (is_short (length bytes) c) [ inl le ↦ all_taken n s bytes c le | inr lt ↦ settled_late n s bytes c (omega (arith, en)) (omega (arith, ec)) lt ]
settles (suc k) n s bytes c en ec = elim (is_short (length bytes) c) [ inl le ↦ all_taken n s bytes c le | inr lt ↦ settled_next k (settles k) n s bytes c en ec lt ]

-- The first 4,202,497 bytes of a text decide.
pub enough : AreEnough
enough bytes = settles 4096 1 start bytes most_bytes (omega arith) (omega (arith, most_is))

laws : IsReading grid_format (step_faults grid_format) (Leads grid_format) (IsAccepted grid_format (Leads grid_format))
laws = reading grid_format (step_faults grid_format) (Leads grid_format) (IsAccepted grid_format (Leads grid_format)) (by_steps grid_format)

-- a program of the first bytes is one of all
pub text_of_front : (front bytes : List ℕ) (program : List Numbered) → front ≡ take most_bytes bytes → IsProgramText front program → IsProgramText bytes program
text_of_front front bytes program is text = laws.accepts bytes program (sym (enough bytes) ∙ ap (read_text grid_format) (sym is) ∙ laws.reads front program text)

-- and so is a fault
pub fault_of_front : (front bytes : List ℕ) (refusal : Refusal LangFault) → front ≡ take most_bytes bytes → IsProgramFault front refusal → IsProgramFault bytes refusal
fault_of_front front bytes refusal is fault = laws.refuses bytes refusal (sym (enough bytes) ∙ ap (read_text grid_format) (sym is) ∙ laws.finds front refusal fault)
