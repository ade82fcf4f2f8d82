-- The table of lines: for each keyword its text, its part, the kinds of its words and the line that they make.
use Rattle.std.specs.Prelude.{ℕ, ◌*◌, Bool, true, false, ◌==◌, List, [], ◌∷◌, length, Option, Some, None, Result, Ok, Err, codes, if◌then◌else◌}
use Rattle.std.specs.Str.{str_eq_ignore_ascii_case}
use Rattle.line_text.specs.Formats.{and_then}
use Rattle.grid_lang.specs.declared.fault.LangFault.{LangFault}
use Rattle.grid_lang.specs.declared.fault.LangFault.TheVariants.{Words, Name}
use Rattle.grid_lang.specs.declared.keyword.Keyword.{Keyword}
use Rattle.grid_lang.specs.declared.keyword.Keyword.TheVariants as key
use Rattle.grid_lang.specs.declared.named.Named.{Named}
use Rattle.grid_lang.specs.declared.named.Named.TheVariants as names
use Rattle.grid_lang.specs.declared.part.Part.{Part}
use Rattle.grid_lang.specs.declared.part.Part.TheVariants.{Opening, Declarations, Exchanges, Results}
use Rattle.grid_lang.specs.declared.line.Line.{Line}
use Rattle.grid_lang.specs.declared.line.Line.TheVariants.{Ranks, Grid, Map, Array, Matrix, Load, Fill, Send, Recv, Bcast, Sum, Amx, Amn, Barrier, Gemr2d, Trmr2d, Save, SavePieces, PrintArray, PrintMatrix}
use Rattle.grid_lang.specs.Names.{Declared}
use Rattle.grid_lang.specs.WordKinds.{Word, number}
use Rattle.grid_lang.specs.Kinds.{Kind, ANumber, AnInteger, ARank, ANewName, AGrid, AnArray, AMatrix, AnEither, AnOrder, AScope, ATopology, ACharacter, AFile, ThePieces, AnArea, ADestination, PerhapsLead, PerhapsTriangle, PerhapsPlaces, AllNumbers, Makes, has_size, read_as}

-- the text of a keyword
abbrev pub text_of : Keyword → Word
text_of key.Ranks = codes "RANKS"
text_of key.Grid = codes "GRID"
text_of key.Map = codes "MAP"
text_of key.Array = codes "ARRAY"
text_of key.Matrix = codes "MATRIX"
text_of key.Load = codes "LOAD"
text_of key.Fill = codes "FILL"
text_of key.Send = codes "SEND"
text_of key.Recv = codes "RECV"
text_of key.Bcast = codes "BCAST"
text_of key.Sum = codes "SUM"
text_of key.Amx = codes "AMX"
text_of key.Amn = codes "AMN"
text_of key.Barrier = codes "BARRIER"
text_of key.Gemr2d = codes "GEMR2D"
text_of key.Trmr2d = codes "TRMR2D"
text_of key.Save = codes "SAVE"
text_of key.Print = codes "PRINT"

abbrev pub keywords : List Keyword
keywords =
    key.Ranks ∷ key.Grid ∷ key.Map ∷ key.Array ∷ key.Matrix ∷ key.Load ∷ key.Fill
    ∷ key.Send ∷ key.Recv ∷ key.Bcast ∷ key.Sum ∷ key.Amx ∷ key.Amn ∷ key.Barrier ∷ key.Gemr2d ∷ key.Trmr2d
    ∷ key.Save ∷ key.Print ∷ []

-- the keyword that a word is, without regard to case
abbrev pub first_named : List Keyword → Word → Option Keyword
first_named [] word = None
first_named (keyword ∷ more) word = if str_eq_ignore_ascii_case word (text_of keyword) then Some keyword else first_named more word

unfoldable pub keyword_of : Word → Option Keyword
keyword_of word = first_named keywords word

-- its part
abbrev pub part_of : Keyword → Part
part_of key.Ranks = Opening
part_of key.Grid = Declarations
part_of key.Map = Declarations
part_of key.Array = Declarations
part_of key.Matrix = Declarations
part_of key.Load = Declarations
part_of key.Fill = Declarations
part_of key.Save = Results
part_of key.Print = Results
part_of other = Exchanges

-- the kinds of the words after a keyword, and the line that they make
pub record Form : Type 0 where
  pub kinds : List Kind
  pub makes : Makes kinds

-- ---- the rows of the table: each keyword with the words after it

-- RANKS n
abbrev pub ranks_form : Form
ranks_form = record { kinds = ANumber ∷ []; makes = λ n. Ranks n }

-- GRID name order n n
abbrev pub grid_form : Form
grid_form = record { kinds = ANewName ∷ AnOrder ∷ ANumber ∷ ANumber ∷ []; makes = λ name order nprow npcol. Grid order nprow npcol }

-- MAP name n n, and NPROW * NPCOL numbers n
abbrev pub map_form : Form
map_form = record { kinds = ANewName ∷ ANumber ∷ ANumber ∷ AllNumbers ∷ []; makes = λ name nprow npcol ranks. Map nprow npcol ranks }

-- ARRAY name G M N MB NB RSRC CSRC, and optionally LLD
abbrev pub array_form : Form
array_form = record { kinds = ANewName ∷ AGrid ∷ AnInteger ∷ AnInteger ∷ AnInteger ∷ AnInteger ∷ AnInteger ∷ AnInteger ∷ PerhapsLead ∷ []; makes = λ name g m n mb nb rsrc csrc lld. Array name g m n mb nb rsrc csrc lld }

-- MATRIX name n n
abbrev pub matrix_form : Form
matrix_form = record { kinds = ANewName ∷ ANumber ∷ ANumber ∷ []; makes = λ name lld cols. Matrix name lld cols }

-- LOAD X file
abbrev pub load_form : Form
load_form = record { kinds = AnArray ∷ AFile ∷ []; makes = λ x file. Load x file }

-- FILL Y a b c d
abbrev pub fill_form : Form
fill_form = record { kinds = AnEither ∷ AnInteger ∷ AnInteger ∷ AnInteger ∷ AnInteger ∷ []; makes = λ y a b c d. Fill y a b c d }

-- SEND G p q Y i j M N rdest cdest, and optionally UPLO DIAG
abbrev pub send_form : Form
send_form = record { kinds = AGrid ∷ ANumber ∷ ANumber ∷ AnArea ∷ ANumber ∷ ANumber ∷ PerhapsTriangle ∷ []; makes = λ g p q area rdest cdest tri. Send g p q area rdest cdest tri }

-- RECV G p q Y i j M N rsrc csrc, and optionally UPLO DIAG
abbrev pub recv_form : Form
recv_form = record { kinds = AGrid ∷ ANumber ∷ ANumber ∷ AnArea ∷ ANumber ∷ ANumber ∷ PerhapsTriangle ∷ []; makes = λ g p q area rsrc csrc tri. Recv g p q area rsrc csrc tri }

-- BCAST G scope top rsrc csrc Y i j M N, and optionally UPLO DIAG
abbrev pub bcast_form : Form
bcast_form = record { kinds = AGrid ∷ AScope ∷ ATopology ∷ ANumber ∷ ANumber ∷ AnArea ∷ PerhapsTriangle ∷ []; makes = λ g scope top rsrc csrc area tri. Bcast g scope top rsrc csrc area tri }

-- SUM G scope top rdest cdest Y i j M N
abbrev pub sum_form : Form
sum_form = record { kinds = AGrid ∷ AScope ∷ ATopology ∷ ADestination ∷ AnArea ∷ []; makes = λ g scope top dest area. Sum g scope top dest area }

-- AMX G scope top rdest cdest Y i j M N, and optionally RA CA
abbrev pub amx_form : Form
amx_form = record { kinds = AGrid ∷ AScope ∷ ATopology ∷ ADestination ∷ AnArea ∷ PerhapsPlaces ∷ []; makes = λ g scope top dest area rc. Amx g scope top dest area rc }

-- AMN G scope top rdest cdest Y i j M N, and optionally RA CA
abbrev pub amn_form : Form
amn_form = record { kinds = AGrid ∷ AScope ∷ ATopology ∷ ADestination ∷ AnArea ∷ PerhapsPlaces ∷ []; makes = λ g scope top dest area rc. Amn g scope top dest area rc }

-- BARRIER G scope
abbrev pub barrier_form : Form
barrier_form = record { kinds = AGrid ∷ AScope ∷ []; makes = λ g scope. Barrier g scope }

-- GEMR2D M N X IA JA X IB JB G
abbrev pub gemr2d_form : Form
gemr2d_form = record { kinds = AnInteger ∷ AnInteger ∷ AnArray ∷ AnInteger ∷ AnInteger ∷ AnArray ∷ AnInteger ∷ AnInteger ∷ AGrid ∷ []; makes = λ m n a ia ja b ib jb g. Gemr2d (record { m = m; n = n; a = a; ia = ia; ja = ja; b = b; ib = ib; jb = jb; grid = g }) }

-- TRMR2D UPLO DIAG M N X IA JA X IB JB G
abbrev pub trmr2d_form : Form
trmr2d_form = record { kinds = ACharacter ∷ ACharacter ∷ AnInteger ∷ AnInteger ∷ AnArray ∷ AnInteger ∷ AnInteger ∷ AnArray ∷ AnInteger ∷ AnInteger ∷ AGrid ∷ []; makes = λ uplo diag m n a ia ja b ib jb g. Trmr2d uplo diag (record { m = m; n = n; a = a; ia = ia; ja = ja; b = b; ib = ib; jb = jb; grid = g }) }

-- SAVE X prefix PIECES
abbrev pub save_pieces_form : Form
save_pieces_form = record { kinds = AnArray ∷ AFile ∷ ThePieces ∷ []; makes = λ x prefix pieces. SavePieces x prefix }

-- SAVE X file
abbrev pub save_form : Form
save_form = record { kinds = AnArray ∷ AFile ∷ []; makes = λ x file. Save x file }

-- PRINT X
abbrev pub print_array_form : Form
print_array_form = record { kinds = AnArray ∷ []; makes = λ x. PrintArray x }

-- PRINT V n
abbrev pub print_matrix_form : Form
print_matrix_form = record { kinds = AMatrix ∷ ARank ∷ []; makes = λ v rank. PrintMatrix v rank }

-- ---- how many words

-- the form, where the words can be so many
abbrev pub sized : Form → List Word → Result Form LangFault
sized form ws = if has_size form.kinds (length ws) then Ok form else Err Words

-- of MAP: three words and NPROW*NPCOL more, or any more where one of the two numbers is bad
abbrev pub is_map_size : Result ℕ LangFault → Result ℕ LangFault → ℕ → Bool
is_map_size (Ok nprow) (Ok npcol) n = n == nprow * npcol
is_map_size nprow npcol n = true

abbrev pub has_map_size : List Word → Bool
has_map_size (name ∷ nprow ∷ npcol ∷ ranks) = is_map_size (number nprow) (number npcol) (length ranks)
has_map_size other = false

-- of PRINT: the second word decides
abbrev pub print_form : Option Named → List Word → Result Form LangFault
print_form (Some (names.Array k)) ws = sized print_array_form ws
print_form (Some (names.Matrix k)) ws = sized print_matrix_form ws
print_form other ws = Err Name

abbrev pub print_form_of : Declared → List Word → Result Form LangFault
print_form_of d [] = Err Words
print_form_of d (word ∷ ws) = print_form (d.names word) (word ∷ ws)

-- the form of the words after a keyword, or that there are too few or too many
abbrev pub form_of : Keyword → Declared → List Word → Result Form LangFault
form_of key.Ranks d ws = sized ranks_form ws
form_of key.Grid d ws = sized grid_form ws
form_of key.Map d ws = if has_map_size ws then Ok map_form else Err Words
form_of key.Array d ws = sized array_form ws
form_of key.Matrix d ws = sized matrix_form ws
form_of key.Load d ws = sized load_form ws
form_of key.Fill d ws = sized fill_form ws
form_of key.Send d ws = sized send_form ws
form_of key.Recv d ws = sized recv_form ws
form_of key.Bcast d ws = sized bcast_form ws
form_of key.Sum d ws = sized sum_form ws
form_of key.Amx d ws = sized amx_form ws
form_of key.Amn d ws = sized amn_form ws
form_of key.Barrier d ws = sized barrier_form ws
form_of key.Gemr2d d ws = sized gemr2d_form ws
form_of key.Trmr2d d ws = sized trmr2d_form ws
form_of key.Save d ws = if length ws == 3 then Ok save_pieces_form else sized save_form ws
form_of key.Print d ws = print_form_of d ws

-- the line of a keyword and the words after it
unfoldable pub line_of : Keyword → Declared → List Word → Result Line LangFault
line_of keyword d ws = and_then (form_of keyword d ws) (λ form. read_as d form.kinds form.makes ws)
