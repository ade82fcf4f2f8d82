-- The lines of every program are sound, and what follows from it.
use Rattle.std.proofs.Common.{◌≡◌, ℕ, suc, ◌+◌, ◌≤◌, Bool, true, false, List, [], ◌∷◌, ◌++◌, length, Option, Result, Ok, refl, sym, ap, subst, ◌∙◌, append_assoc, append-nil, arith}
use Rattle.std.specs.Prelude.{nat_lt}
use Rattle.std.proofs.lemmas.Bool.{ltb-false, or_parts}
use mathlib.Core.Logic.{inl, inr}
use Rattle.line_text.specs.Lines.{lines}
use Rattle.line_text.specs.Formats.{read_text}
use Rattle.line_text.specs.FormatMeaning.{LeadsFrom}
use Rattle.line_text.specs.FaultTables.{when, first_fault, unless_fault}
use Rattle.grid_lang.specs.declared.fault.LangFault.{LangFault}
use Rattle.grid_lang.specs.declared.fault.LangFault.TheVariants.{Limit}
use Rattle.grid_lang.specs.declared.part.Part.{Part}
use Rattle.grid_lang.specs.declared.part.Part.TheVariants.{Opening, Declarations}
use Rattle.grid_lang.specs.declared.line.Line.{Line}
use Rattle.grid_lang.specs.declared.line.Line.TheVariants.{Ranks}
use Rattle.grid_lang.specs.declared.line.Numbered.{Numbered}
use Rattle.grid_lang.specs.Parts.{may_stand}
use Rattle.grid_lang.specs.Names.{Declared, no_names}
use Rattle.grid_lang.specs.Programs.{State, first_word, step, grid_format, IsProgramText}
use Rattle.grid_lang.specs.ProgramParts.{part_of_line}
use Rattle.grid_lang.specs.Facts.{Known, nothing_known, declared_after, known_after, known_after_all, IsWithin, Keeps, AreSound, IsSound}
use Rattle.grid_lang.proofs.PartLaws.{Adds, Goes, step_goes, opening_part, done, have_parts}
use Rattle.grid_lang.proofs.ProgramLaws.{ok_of}
use Rattle.grid_lang.proofs.FactSteps.{Agrees, line_keeps, agrees_after}

-- ---- each program is sound

-- the reader has reached and declared what is known
record Stands (s : State) (k : Known) : Type 0 where
  pub reached : s.reached ≡ k.reached
  pub agrees : Agrees s.declared k

-- the lines that were added between two states are sound, and no more than the lines of the text between them
record Added (s last : State) (k : Known) (text : List (List ℕ)) : Type 0 where
  pub more : List Numbered
  pub program : last.program ≡ s.program ++ more
  pub sound : AreSound k more
  pub few : length more ≤ length text

one_line : (s next : State) (k : Known) (l : Numbered) → Stands s k → Adds s next l → (may_stand k.reached (part_of_line l.line) ≡ true) × Keeps k l.line
one_line s next k l is adds = (
  ap (λ (p : Part). may_stand p (part_of_line l.line)) (sym is.reached) ∙ adds.may,
  line_keeps adds.keyword s.declared k is.agrees adds.words l.line adds.read adds.within,
)

stands_after : (s next : State) (k : Known) (l : Numbered) → Stands s k → Adds s next l → Stands next (known_after k l.line)
stands_after s next k l is adds = record {
  reached = adds.reached;
  agrees = subst (λ (d : Declared). Agrees d (known_after k l.line)) (sym adds.declared) (agrees_after s.declared k is.agrees (first_word adds.words) l.line);
}

a_little : (n m : ℕ) → n ≤ m → n ≤ suc m
a_little n m e = omega arith

one_more : (n m : ℕ) → n ≤ m → suc n ≤ suc m
one_more n m e = omega arith

added_by : (s next last : State) (k : Known) (line : List ℕ) (text : List (List ℕ)) → Stands s k → Goes s next → ((later : Known) → Stands next later → Added next last later text) → Added s last k (line ∷ text)
added_by s next last k line text is (inl same) rest =
    let a = rest k (subst (λ (t : State). Stands t k) same is) in
    record {
      more = a.more;
      program = a.program ∙ ap (λ (t : State). t.program ++ a.more) (sym same);
      sound = a.sound;
      few = a_little (length a.more) (length text) a.few;
    }
added_by s next last k line text is (inr adds) rest =
    let here = one_line s next k adds.0 is adds.1 in
    let a = rest (known_after k adds.0.line) (stands_after s next k adds.0 is adds.1) in
    record {
      more = adds.0 ∷ a.more;
      program = a.program ∙ ap (λ (p : List Numbered). p ++ a.more) adds.1.program ∙ append_assoc s.program (adds.0 ∷ []) a.more;
      sound = (here.0, here.1, a.sound);
      few = one_more (length a.more) (length text) a.few;
    }

all_added : (n : ℕ) (s last : State) (k : Known) (text : List (List ℕ)) → Stands s k → LeadsFrom grid_format n s text last → Added s last k text
all_added n s last k [] is same = record { more = []; program = ap (λ (t : State). t.program) (sym same) ∙ sym (append-nil s.program); sound = tt; few = omega arith }
all_added n s last k (line ∷ text) is leads = added_by s leads.0 last k line text is (step_goes n s leads.0 line leads.1) (λ later so. all_added (suc n) leads.0 last later text so leads.2)

-- a text has at most 4,096 lines
unless_limit : (b : Bool) (o : Option LangFault) (r : Result State LangFault) (next : State) → unless_fault (first_fault (when b Limit ∷ o ∷ [])) r ≡ Ok next → b ≡ false
unless_limit true o r next e = absurd cc
unless_limit false o r next e = refl

numbered : (n : ℕ) (s next : State) (line : List ℕ) → step n s line ≡ Ok next → n ≤ 4096
unfolding step
numbered n s next line e = ltb-false 4096 n (or_parts (nat_lt 1024 (length line)) (nat_lt 4096 n) (unless_limit _ _ _ next e)).1

short : (n : ℕ) (s last : State) (text : List (List ℕ)) → n ≤ 4097 → LeadsFrom grid_format n s text last → n + length text ≤ 4097
short n s last [] least same = omega arith
short n s last (line ∷ text) least leads = shorter n (length text) (short (suc n) leads.0 last text (one_more n 4096 (numbered n s leads.0 line leads.1)) leads.2) where
  shorter : (n m : ℕ) → suc n + m ≤ 4097 → n + suc m ≤ 4097
  shorter n m e = omega arith

few_lines : (n m : ℕ) → n ≤ m → 1 + m ≤ 4097 → n ≤ 4096
few_lines n m e f = omega arith

none_named : Agrees no_names nothing_known
none_named = record { ranks = refl; grids = refl; arrays = refl; stands = λ word what e. absurd cc }

pub are_sound : (bytes : List ℕ) (program : List Numbered) → IsProgramText bytes program → IsSound program
are_sound bytes program is =
    let a = all_added 1 grid_format.start is.state nothing_known (lines bytes) (record { reached = refl; agrees = none_named }) is.stand in
    let same : a.more ≡ program = sym a.program ∙ done is.state.reached is.state.program program is.ends in
    record {
      parts = have_parts bytes program is;
      lines = subst (AreSound nothing_known) same a.sound;
      few = subst (λ (p : List Numbered). length p ≤ 4096) same (few_lines (length a.more) (length (lines bytes)) a.few (short 1 grid_format.start is.state (lines bytes) (omega arith) is.stand));
    }

pub sound_of : (bytes : List ℕ) (program : List Numbered) → read_text grid_format bytes ≡ Ok program → IsSound program
sound_of bytes program is = are_sound bytes program (ok_of bytes (Ok program) is)

-- ---- what follows

-- a program has lines, and the first is RANKS
pub not_empty : IsSound [] → ⊥
not_empty is = absurd (none is.parts.ranks _ is.parts.whole) where
  none : (l : Numbered) (more : List Numbered) → [] ≡ l ∷ more → ⊥
  none l more e = cc

pub first_is_ranks : (l : Numbered) (more : List Numbered) → IsSound (l ∷ more) → part_of_line l.line ≡ Opening
first_is_ranks l more is = opening_part (part_of_line l.line) is.lines.0

-- of 1 to 64 ranks
pub few_ranks : (l : Numbered) (more : List Numbered) (n : ℕ) → IsSound (l ∷ more) → l.line ≡ Ranks n → IsWithin n 64
unfolding Keeps
few_ranks l more n is e = subst (λ (line : Line). Keeps nothing_known line) e is.lines.1

-- so many ranks, and nothing else is declared
abbrev pub ranks_known : ℕ → Known
ranks_known n = record { reached = Declarations; ranks = n; grids = 0; arrays = [] }

-- the lines after it are sound
pub sound_after_ranks : (l : Numbered) (more : List Numbered) (n : ℕ) → IsSound (l ∷ more) → l.line ≡ Ranks n → AreSound (ranks_known n) more
unfolding declared_after
sound_after_ranks l more n is e = subst (λ (line : Line). AreSound (known_after nothing_known line) more) e is.lines.2

-- some lines and others after them
pub split_sound : (k : Known) (before after : List Numbered) → AreSound k (before ++ after) → AreSound k before × AreSound (known_after_all k before) after
split_sound k [] after sound = (tt, sound)
split_sound k (l ∷ before) after sound =
    let both = split_sound (known_after k l.line) before after sound.2 in
    ((sound.0, sound.1, both.0), both.1)

-- a line keeps what lines keep after what is known before it
pub line_sound : (k : Known) (before after : List Numbered) (l : Numbered) → AreSound k (before ++ l ∷ after) → Keeps (known_after_all k before) l.line
line_sound k before after l sound = (split_sound k before (l ∷ after) sound).1.1
