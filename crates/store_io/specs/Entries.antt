-- The files of a store in memory by its entries, and its calls that are to fail.
use Rattle.std.specs.Prelude.{ℕ, List, [], ◌∷◌, map, Option, Some, None}
use Rattle.std.specs.FinMap.{insert}
use Rattle.store_io.specs.Outside.{Files}
use Rattle.store_io.specs.Fails.{Fail}
use Rattle.store_io.specs.Heap.{Bytes, IsPart, IsLast, part_of}
use Rattle.store_io.specs.declared.heap.Part.{Part}
use Rattle.store_io.specs.declared.entries.Entry.{Entry}
use Rattle.store_io.specs.declared.entries.Input.{Input}
use Rattle.store_io.specs.declared.fails.FailEntry.{FailEntry}

pub record IsEntry (b : Bytes) (e : Entry) : Type 0 where
  pub name : IsPart b e.name
  pub content : IsPart b e.content

-- these files and those of the entries, of which later ones go before
unfoldable pub files_of : Files → Bytes → List Entry → Files
files_of files b [] = files
files_of files b (e ∷ es) = files_of (insert files (part_of b e.name) (part_of b e.content)) b es

-- the open output is written over any other file of its name
abbrev pub with_output : Bytes → Option Entry → Files → Files
with_output b None files = files
with_output b (Some e) files = insert files (part_of b e.name) (part_of b e.content)

abbrev pub output_of : Bytes → Option Entry → List ℕ
output_of b None = []
output_of b (Some e) = part_of b e.name

-- the open output, which can grow
pub record IsOutput (b : Bytes) (e : Entry) : Type 0 where
  pub entry : IsEntry b e
  pub last : IsLast b e.content

abbrev pub input_of : Bytes → Option Input → List ℕ
input_of b None = []
input_of b (Some i) = part_of b i.name

abbrev pub left_of : Bytes → Option Input → List ℕ
left_of b None = []
left_of b (Some i) = part_of b i.left

pub record IsInput (b : Bytes) (i : Input) : Type 0 where
  pub name : IsPart b i.name
  pub left : IsPart b i.left

-- a call that is to fail
abbrev pub fail_of : Bytes → FailEntry → Fail
fail_of b e = record { kind = e.kind; name = part_of b e.name; nth = e.nth }

abbrev pub names_of : List FailEntry → List Part
names_of es = map (λ (e : FailEntry). e.name) es
