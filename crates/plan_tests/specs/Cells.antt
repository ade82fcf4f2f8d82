-- A node of one word.
use Rattle.std.specs.Prelude.{◌≡◌, ℕ, zero, suc, ℤ, List, [], ◌∷◌, length, replicate, refl}
use Rattle.std.specs.Int.{int_wrapping_add, w32}
use Rattle.std.proofs.Common.{ap, ◌∙◌}
use Rattle.msg_core.specs.Kinds.{Kind, Send, Recv, Local}
use Rattle.plan_tests.specs.declared.cell.CellOp.{CellOp}
use Rattle.plan_tests.specs.declared.cell.CellOp.TheVariants.{Give, Get, Add}

abbrev pub cell_kind : CellOp → Kind
cell_kind (Give to len) = Send to len
cell_kind (Get from len) = Recv from len
cell_kind (Add n) = Local

-- the word, as often as the message is long
abbrev pub message_of : Kind → ℤ → List ℤ
message_of (Send to len) s = replicate len s
message_of (Recv from len) s = []
message_of Local s = []

-- the first word, or s
abbrev pub first_or : ℤ → List ℤ → ℤ
first_or s [] = s
first_or s (x ∷ xs) = x

abbrev pub cell_acted : CellOp → ℤ → ℤ
cell_acted (Give to len) s = s
cell_acted (Get from len) s = s
cell_acted (Add n) s = int_wrapping_add w32 s n

pub message_is : (K : Kind) (to len : ℕ) (s : ℤ) → K ≡ Send to len → message_of K s ≡ replicate len s
message_is (Send a b) to len s e = let h : b ≡ len = cc in ap (λ n. replicate n s) h
message_is (Recv a b) to len s e = cc
message_is Local to len s e = cc

replicate_length : (n : ℕ) (s : ℤ) → length (replicate n s) ≡ n
replicate_length zero s = refl
replicate_length (suc n) s = ap suc (replicate_length n s)

pub message_length : (K : Kind) (to len : ℕ) (s : ℤ) → K ≡ Send to len → length (message_of K s) ≡ len
message_length (Send a b) to len s e = let h : b ≡ len = cc in replicate_length b s ∙ h
message_length (Recv a b) to len s e = cc
message_length Local to len s e = cc
