-- The line of a trouble, under other words for it.
use Rattle.std.proofs.Common.{◌≡◌, ℕ, Bool, IsTrue, List, sym, subst, ◌∙◌, ap}
use Rattle.store_io.specs.Outside.{Poured}
use Rattle.tool_lines.specs.Saying.{Gains}
use Rattle.file_tools.specs.Troubles.{line_of}
use Rattle.file_tools.specs.declared.trouble.Trouble.{Trouble}

pub told_trouble : (trouble is : Trouble) (line : List ℕ) (told : Bool) (old new : Poured) → trouble ≡ is → line ≡ line_of is → (IsTrue told → Gains old new line) → IsTrue told → Gains old new (line_of trouble)
told_trouble trouble is line told old new same text gains = subst (λ (l : List ℕ). IsTrue told → Gains old new l) (text ∙ ap line_of (sym same)) gains
