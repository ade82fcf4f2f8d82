-- An accepted program is RANKS, declarations, exchanges and results.
use Rattle.std.proofs.Common.{◌≡◌, ℕ, suc, Bool, true, false, cond, List, [], ◌∷◌, ◌++◌, Option, Some, None, Result, Ok, Err, refl, sym, ap, subst, ◌∙◌, append_assoc, append-nil}
use Rattle.std.specs.Prelude.{not, ◌⊎◌}
use mathlib.Core.Logic.{inl, inr}
use Rattle.line_text.specs.Words.{words}
use Rattle.line_text.specs.Formats.{and_then}
use Rattle.line_text.specs.FormatMeaning.{LeadsFrom}
use Rattle.line_text.specs.FaultTables.{when, unless_fault}
use Rattle.grid_lang.specs.declared.fault.LangFault.{LangFault}
use Rattle.grid_lang.specs.declared.fault.LangFault.TheVariants.{Order, Limit}
use Rattle.grid_lang.specs.declared.keyword.Keyword.{Keyword}
use Rattle.grid_lang.specs.declared.part.Part.{Part}
use Rattle.grid_lang.specs.declared.part.Part.TheVariants.{Opening, Declarations, Exchanges, Results}
use Rattle.grid_lang.specs.declared.line.Line.{Line}
use Rattle.grid_lang.specs.declared.line.Numbered.{Numbered}
use Rattle.grid_lang.specs.WordKinds.{Word}
use Rattle.grid_lang.specs.Parts.{may_stand, reached_by}
use Rattle.grid_lang.specs.Table.{keyword_of, part_of, line_of}
use Rattle.grid_lang.specs.Programs.{State, starts_comment, passes_limit, declared_by, first_word, with_line, keyword_step, words_step, line_fault, step, finished, grid_format}
use Rattle.grid_lang.specs.ProgramParts.{part_of_line, AreOf, HasParts, HaveParts}
use Rattle.grid_lang.proofs.KeywordLaws.{of_keyword}
use Rattle.std.specs.Prelude.{IfOk}
use Rattle.line_text.specs.Formats.{read_text}
use Rattle.grid_lang.specs.declared.fault.LangErr.{LangErr}
use Rattle.grid_lang.specs.Answers.{IsRead}
use Rattle.grid_lang.proofs.ProgramLaws.{ok_of}

-- lines that may stand one after the other, from what is reached before them to what is reached behind them
abbrev Runs : Part → List Numbered → Part → Type 0
Runs reached [] last = reached ≡ last
Runs reached (l ∷ more) last = (may_stand reached (part_of_line l.line) ≡ true) × Runs (reached_by (part_of_line l.line)) more last

unless_ok : {A : Type 0} (o : Option LangFault) (r : Result A LangFault) (next : A) → unless_fault o r ≡ Ok next → r ≡ Ok next
unless_ok None r next e = e
unless_ok (Some fault) r next e = absurd cc

may_ok : {A : Type 0} (b : Bool) (r : Result A LangFault) (next : A) → unless_fault (when (not b) Order) r ≡ Ok next → (b ≡ true) × (r ≡ Ok next)
may_ok true r next e = (refl, e)
may_ok false r next e = absurd cc

unless_within : {A : Type 0} (b : Bool) (r : Result A LangFault) (next : A) → unless_fault (when b Limit) r ≡ Ok next → b ≡ false
unless_within true r next e = absurd cc
unless_within false r next e = refl

-- a line that is skipped, or one line more: how it is read, and what is declared after it
pub record Adds (s next : State) (l : Numbered) : Type 0 where
  pub program : next.program ≡ s.program ++ l ∷ []
  pub reached : next.reached ≡ reached_by (part_of_line l.line)
  pub may : may_stand s.reached (part_of_line l.line) ≡ true
  pub keyword : Keyword
  pub words : List Word
  pub read : line_of keyword s.declared words ≡ Ok l.line
  pub within : passes_limit s.declared l.line ≡ false
  pub declared : next.declared ≡ declared_by s.declared (first_word words) l.line

abbrev pub Goes : State → State → Type 0
Goes s next = (s ≡ next) ⊎ ((l : Numbered) × Adds s next l)

same_state : {E : Type 0} (s next : State) → (let a : Result State E = Ok s in a ≡ Ok next) → s ≡ next
same_state s next e = cc

line_case : (n : ℕ) (s next : State) (keyword : Keyword) (ws : List Word) (r : Result Line LangFault) → line_of keyword s.declared ws ≡ r → may_stand s.reached (part_of keyword) ≡ true
    → and_then r (λ line. unless_fault (when (passes_limit s.declared line) Limit) (Ok (with_line n s keyword ws line))) ≡ Ok next → Goes s next
line_case n s next keyword ws (Err fault) is may e = absurd cc
line_case n s next keyword ws (Ok line) is may e =
    let same : with_line n s keyword ws line ≡ next = same_state {E = LangFault} (with_line n s keyword ws line) next (unless_ok (when (passes_limit s.declared line) Limit) (Ok (with_line n s keyword ws line)) next e) in
    let part : part_of keyword ≡ part_of_line line = sym (of_keyword keyword s.declared ws line is) in
    inr (
      record { number = n; line = line },
      record {
        program = sym (ap (λ (t : State). t.program) same);
        reached = sym (ap (λ (t : State). t.reached) same) ∙ ap reached_by part;
        may = ap (λ (p : Part). may_stand s.reached p) (sym part) ∙ may;
        keyword = keyword;
        words = ws;
        read = is;
        within = unless_within (passes_limit s.declared line) (Ok (with_line n s keyword ws line)) next e;
        declared = sym (ap (λ (t : State). t.declared) same);
      },
    )

keyword_case : (n : ℕ) (s next : State) (keyword : Option Keyword) (ws : List Word) → keyword_step n s keyword ws ≡ Ok next → Goes s next
keyword_case n s next None ws e = absurd cc
keyword_case n s next (Some keyword) ws e =
    let may = may_ok (may_stand s.reached (part_of keyword)) _ next e in
    line_case n s next keyword ws (line_of keyword s.declared ws) refl may.0 may.1

comment_case : (n : ℕ) (s next : State) (first : Word) (ws : List Word) (t : Bool) → cond t (Ok s) (keyword_step n s (keyword_of first) ws) ≡ Ok next → Goes s next
comment_case n s next first ws true e = inl (same_state {E = LangFault} s next e)
comment_case n s next first ws false e = keyword_case n s next (keyword_of first) ws e

words_case : (n : ℕ) (s next : State) (ws : List Word) → words_step n s ws ≡ Ok next → Goes s next
words_case n s next [] e = inl (same_state {E = LangFault} s next e)
words_case n s next (first ∷ ws) e = comment_case n s next first ws (starts_comment first) e

pub step_goes : (n : ℕ) (s next : State) (text : List ℕ) → step n s text ≡ Ok next → Goes s next
unfolding step
step_goes n s next text e = words_case n s next (words text) (unless_ok (line_fault n text) (words_step n s (words text)) next e)

-- the lines that were added from one state to another
record Added (s last : State) : Type 0 where
  pub more : List Numbered
  pub program : last.program ≡ s.program ++ more
  pub runs : Runs s.reached more last.reached

added_by : (s next last : State) → Goes s next → Added next last → Added s last
added_by s next last (inl same) a = subst (λ (t : State). Added t last) (sym same) a
added_by s next last (inr adds) a = record {
  more = adds.0 ∷ a.more;
  program = a.program ∙ ap (λ (p : List Numbered). p ++ a.more) adds.1.program ∙ append_assoc s.program (adds.0 ∷ []) a.more;
  runs = (adds.1.may, subst (λ (p : Part). Runs p a.more last.reached) adds.1.reached a.runs);
}

all_added : (n : ℕ) (s last : State) (lines : List (List ℕ)) → LeadsFrom grid_format n s lines last → Added s last
all_added n s last [] same = record { more = []; program = ap (λ (t : State). t.program) (sym same) ∙ sym (append-nil s.program); runs = ap (λ (t : State). t.reached) same }
all_added n s last (line ∷ lines) leads = added_by s leads.0 last (step_goes n s leads.0 line leads.1) (all_added (suc n) leads.0 last lines leads.2)

-- what may stand behind what
pub opening_part : (p : Part) → may_stand Opening p ≡ true → p ≡ Opening
opening_part Opening e = refl
opening_part Declarations e = absurd cc
opening_part Exchanges e = absurd cc
opening_part Results e = absurd cc

declaration_part : (p : Part) → may_stand Declarations p ≡ true → (p ≡ Declarations) ⊎ ((p ≡ Exchanges) ⊎ (p ≡ Results))
declaration_part Opening e = absurd cc
declaration_part Declarations e = inl refl
declaration_part Exchanges e = inr (inl refl)
declaration_part Results e = inr (inr refl)

exchange_part : (p : Part) → may_stand Exchanges p ≡ true → (p ≡ Exchanges) ⊎ (p ≡ Results)
exchange_part Opening e = absurd cc
exchange_part Declarations e = absurd cc
exchange_part Exchanges e = inl refl
exchange_part Results e = inr refl

result_part : (p : Part) → may_stand Results p ≡ true → p ≡ Results
result_part Opening e = absurd cc
result_part Declarations e = absurd cc
result_part Exchanges e = absurd cc
result_part Results e = refl

behind : (p q last : Part) (rest : List Numbered) → p ≡ q → Runs (reached_by p) rest last → Runs (reached_by q) rest last
behind p q last rest e runs = subst (λ (r : Part). Runs (reached_by r) rest last) e runs

results_only : (rest : List Numbered) (last : Part) → Runs Results rest last → AreOf Results rest
results_only [] last runs = tt
results_only (l ∷ rest) last runs =
    let here = result_part (part_of_line l.line) runs.0 in
    (here, results_only rest last (behind (part_of_line l.line) Results last rest here runs.1))

record Tail (rest : List Numbered) : Type 0 where
  pub exchanges : List Numbered
  pub results : List Numbered
  pub whole : rest ≡ exchanges ++ results
  pub exchange : AreOf Exchanges exchanges
  pub result : AreOf Results results

exchanges_then : (rest : List Numbered) (last : Part) → Runs Exchanges rest last → Tail rest
exchanges_then [] last runs = record { exchanges = []; results = []; whole = refl; exchange = tt; result = tt }
exchanges_then (l ∷ rest) last runs =
    elim (exchange_part (part_of_line l.line) runs.0) [
      | inl here ↦ let t = exchanges_then rest last (behind (part_of_line l.line) Exchanges last rest here runs.1) in
          record { exchanges = l ∷ t.exchanges; results = t.results; whole = ap (λ (ls : List Numbered). l ∷ ls) t.whole; exchange = (here, t.exchange); result = t.result }
      | inr here ↦ record { exchanges = []; results = l ∷ rest; whole = refl; exchange = tt; result = (here, results_only rest last (behind (part_of_line l.line) Results last rest here runs.1)) }
    ]

record Body (rest : List Numbered) : Type 0 where
  pub declarations : List Numbered
  pub left : List Numbered
  pub whole : rest ≡ declarations ++ left
  pub declare : AreOf Declarations declarations
  pub tail : Tail left

declarations_then : (rest : List Numbered) (last : Part) → Runs Declarations rest last → Body rest
declarations_then [] last runs = record { declarations = []; left = []; whole = refl; declare = tt; tail = record { exchanges = []; results = []; whole = refl; exchange = tt; result = tt } }
declarations_then (l ∷ rest) last runs =
    elim (declaration_part (part_of_line l.line) runs.0) [
      | inl here ↦ let b = declarations_then rest last (behind (part_of_line l.line) Declarations last rest here runs.1) in
          record { declarations = l ∷ b.declarations; left = b.left; whole = ap (λ (ls : List Numbered). l ∷ ls) b.whole; declare = (here, b.declare); tail = b.tail }
      | inr other ↦ record {
        declarations = [];
        left = l ∷ rest;
        whole = refl;
        declare = tt;
        tail = elim other [
          | inl here ↦ let t = exchanges_then rest last (behind (part_of_line l.line) Exchanges last rest here runs.1) in
              record { exchanges = l ∷ t.exchanges; results = t.results; whole = ap (λ (ls : List Numbered). l ∷ ls) t.whole; exchange = (here, t.exchange); result = t.result }
          | inr here ↦ record { exchanges = []; results = l ∷ rest; whole = refl; exchange = tt; result = (here, results_only rest last (behind (part_of_line l.line) Results last rest here runs.1)) }
        ];
      }
    ]

never_done : (last : Part) (program given : List Numbered) → Opening ≡ last → finished last program ≡ Ok given → ⊥
never_done Opening program given same e = absurd cc
never_done Declarations program given same e = absurd cc
never_done Exchanges program given same e = absurd cc
never_done Results program given same e = absurd cc

pub done : (last : Part) (program given : List Numbered) → finished last program ≡ Ok given → program ≡ given
done Opening program given e = absurd cc
done Declarations program given e = cc
done Exchanges program given e = cc
done Results program given e = cc

opened : (more : List Numbered) (last : Part) (program given : List Numbered) → Runs Opening more last → finished last program ≡ Ok given → HasParts more
opened [] last program given runs e = absurd (never_done last program given runs e)
opened (l ∷ rest) last program given runs e =
    let here = opening_part (part_of_line l.line) runs.0 in
    let b = declarations_then rest last (behind (part_of_line l.line) Opening last rest here runs.1) in
    record {
      ranks = l;
      declarations = b.declarations;
      exchanges = b.tail.exchanges;
      results = b.tail.results;
      whole = ap (λ (ls : List Numbered). l ∷ ls) (b.whole ∙ ap (λ (ls : List Numbered). b.declarations ++ ls) b.tail.whole);
      opens = here;
      declare = b.declare;
      exchange = b.tail.exchange;
      result = b.tail.result;
    }

pub have_parts : HaveParts
have_parts bytes program is =
    let a = all_added 1 grid_format.start is.state _ is.stand in
    subst HasParts (sym a.program ∙ done is.state.reached is.state.program program is.ends) (opened a.more is.state.reached is.state.program program a.runs is.ends)

pub parts_of : (text : List ℕ) (r : Result (List Numbered) LangErr) → IsRead (read_text grid_format text) r → IfOk r (λ program. HasParts program)
parts_of text (Ok program) is = have_parts text program (ok_of text (Ok program) is)
parts_of text (Err e) is = tt
