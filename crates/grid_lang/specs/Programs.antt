-- Grid programs as a format that is read line by line.
use Rattle.std.specs.Prelude.{ℕ, ◌^◌, Bool, false, not, ◌||◌, ◌==◌, List, [], ◌∷◌, ◌++◌, length, Option, Some, None, Result, Ok, Err, nat_le, nat_lt, if◌then◌else◌}
use Rattle.std.specs.List.{list_all}
use Rattle.line_text.specs.Lines.{lines}
use Rattle.line_text.specs.Words.{words}
use Rattle.line_text.specs.TextBytes.{is_text_byte}
use Rattle.line_text.specs.Formats.{Format, Refusal, and_then}
use Rattle.line_text.specs.FormatMeaning.{Leads, IsAccepted, IsRefused}
use Rattle.line_text.specs.FormatLaws as laws
use Rattle.line_text.specs.FaultTables.{when, first_fault, unless_fault, step_faults}
use Rattle.grid_lang.specs.declared.fault.LangFault.{LangFault}
use Rattle.grid_lang.specs.declared.fault.LangFault.TheVariants.{NotText, Unknown, Order, Limit}
use Rattle.grid_lang.specs.declared.keyword.Keyword.{Keyword}
use Rattle.grid_lang.specs.declared.part.Part.{Part}
use Rattle.grid_lang.specs.declared.part.Part.TheVariants.{Opening, Declarations, Exchanges, Results}
use Rattle.grid_lang.specs.declared.line.Line.{Line}
use Rattle.grid_lang.specs.declared.line.Line.TheVariants.{Ranks, Grid, Map, Array, Matrix}
use Rattle.grid_lang.specs.declared.line.Numbered.{Numbered}
use Rattle.grid_lang.specs.Names.{Declared, no_names, with_ranks, with_grid, with_array, with_matrix}
use Rattle.grid_lang.specs.WordKinds.{Word}
use Rattle.grid_lang.specs.Parts.{may_stand, reached_by}
use Rattle.grid_lang.specs.Table.{keyword_of, part_of, line_of}

-- how far a program is read: what may come next, what is declared, and its lines
pub record State : Type 0 where
  pub reached : Part
  pub declared : Declared
  pub program : List Numbered

-- its first word starts with `#` (35)
abbrev pub starts_comment : Word → Bool
starts_comment [] = false
starts_comment (b ∷ bs) = b == 35

abbrev pub is_comment : List Word → Bool
is_comment [] = false
is_comment (word ∷ ws) = starts_comment word

-- a limit that a line passes by what it says: 1 to 64 ranks, LLD and COLS of 1 to 2^24, 16 grids, 64 arrays
abbrev pub is_outside : ℕ → ℕ → Bool
is_outside n most = n == 0 || nat_lt most n

abbrev pub passes_limit : Declared → Line → Bool
passes_limit d (Ranks n) = is_outside n 64
passes_limit d (Grid order nprow npcol) = nat_le 16 d.grids
passes_limit d (Map nprow npcol ranks) = nat_le 16 d.grids
passes_limit d (Array name g m n mb nb rsrc csrc lld) = nat_le 64 d.arrays
passes_limit d (Matrix name lld cols) = is_outside lld (2 ^ 24) || is_outside cols (2 ^ 24) || nat_le 64 d.arrays
passes_limit d other = false

-- what is declared after a line with this first word after its keyword
abbrev pub declared_by : Declared → Word → Line → Declared
declared_by d word (Ranks n) = with_ranks n d
declared_by d word (Grid order nprow npcol) = with_grid word d
declared_by d word (Map nprow npcol ranks) = with_grid word d
declared_by d word (Array name g m n mb nb rsrc csrc lld) = with_array word d
declared_by d word (Matrix name lld cols) = with_matrix word d
declared_by d word other = d

abbrev pub first_word : List Word → Word
first_word [] = []
first_word (word ∷ ws) = word

-- the state after a line
abbrev pub with_line : ℕ → State → Keyword → List Word → Line → State
with_line n s keyword ws line = record {
  reached = reached_by (part_of keyword);
  declared = declared_by s.declared (first_word ws) line;
  program = s.program ++ record { number = n; line = line } ∷ [];
}

-- a line of a keyword: the faults Order, Words, those of its words from the left, and the last Limit
abbrev pub keyword_step : ℕ → State → Option Keyword → List Word → Result State LangFault
keyword_step n s None ws = Err Unknown
keyword_step n s (Some keyword) ws =
    unless_fault (when (not (may_stand s.reached (part_of keyword))) Order)
    (and_then (line_of keyword s.declared ws) (λ line. unless_fault (when (passes_limit s.declared line) Limit) (Ok (with_line n s keyword ws line))))

-- a line of some words: blank lines and comments are skipped
abbrev pub words_step : ℕ → State → List Word → Result State LangFault
words_step n s [] = Ok s
words_step n s (first ∷ ws) = if starts_comment first then Ok s else keyword_step n s (keyword_of first) ws

-- the faults of any line: Limit by its length or number, and NotText
abbrev pub line_fault : ℕ → List ℕ → Option LangFault
line_fault n text = first_fault (when (nat_lt 1024 (length text) || nat_lt 4096 n) Limit ∷ when (not (is_comment (words text) || list_all is_text_byte text)) NotText ∷ [])

unfoldable pub step : ℕ → State → List ℕ → Result State LangFault
step n s text = unless_fault (line_fault n text) (words_step n s (words text))

-- at the end RANKS has to have been there
abbrev pub finished : Part → List Numbered → Result (List Numbered) LangFault
finished Opening program = Err Order
finished Declarations program = Ok program
finished Exchanges program = Ok program
finished Results program = Ok program

abbrev pub finish : State → Result (List Numbered) LangFault
finish s = finished s.reached s.program

-- nothing is read
abbrev pub start : State
start = record { reached = Opening; declared = no_names; program = [] }

abbrev pub grid_format : Format State (List ℕ) (List Numbered) LangFault
grid_format = record { lines_of = lines; start = start; step = step; finish = finish }

-- the bytes are a text of the program
abbrev pub IsProgramText : List ℕ → List Numbered → Type 0
IsProgramText bytes program = IsAccepted grid_format (Leads grid_format) (lines bytes) program

-- the line and the fault of the bytes
abbrev pub IsProgramFault : List ℕ → Refusal LangFault → Type 0
IsProgramFault bytes refusal = IsRefused (step_faults grid_format) (Leads grid_format) (lines bytes) refusal

-- Each text is exactly one program or has exactly one fault at exactly one line, and never both.
abbrev pub AreDecided : Type 0
AreDecided = laws.IsDecided grid_format (step_faults grid_format) (Leads grid_format) (IsAccepted grid_format (Leads grid_format))

-- The line of a fault is the first bad one: whatever comes after it changes nothing.
abbrev pub AreFirst : Type 0
AreFirst = laws.IsFirst (step_faults grid_format) (Leads grid_format) (IsAccepted grid_format (Leads grid_format))
