-- Lists that grow column by column, or item by item.
use Rattle.std.proofs.Common.{◌≡◌, ℕ, ◌+◌, ◌*◌, ℤ, List, [], ◌∷◌, ◌++◌, length, take, sym, ap, ◌∙◌, arith}
use Rattle.std.specs.Prelude.{map}
use Rattle.std.specs.List.{range_with_len}
use Rattle.std.proofs.Math.Seq.{take-add}
use Rattle.std.proofs.lemmas.List.{take_all, map-append}
use Rattle.std.proofs.lemmas.List.FromFn.{map-range_with_len_more}
use Rattle.pack_words.specs.LocalCells.{LocalCells, IsLocalCells, column_of}

-- all columns
pub all_taken : (vs : List ℤ) (r c : ℕ) → length vs ≡ r * c → take (c * r) vs ≡ vs
all_taken vs r c e = take_all (c * r) vs (let f : c * r ≡ r * c = grind arith in omega (arith, e, f))

-- the words of a local array, column by column
pub column_more : (c : LocalCells) (j : ℕ) (xs : List ℤ) → xs ≡ take (j * c.lld) c.words → xs ++ column_of c j ≡ take ((j + 1) * c.lld) c.words
column_more c j xs e =
    let next : j * c.lld + c.lld ≡ (j + 1) * c.lld = grind arith in
    ap (λ (l : List ℤ). l ++ column_of c j) e ∙ sym (take-add (j * c.lld) c.lld c.words) ∙ ap (λ n. take n c.words) next

pub all_columns : (c : LocalCells) → IsLocalCells c → take (c.cols * c.lld) c.words ≡ c.words
all_columns c is = all_taken c.words c.lld c.cols is.count

pub mapped_more : {X Y : Type 0} (view : X → Y) (f : ℕ → Y) (xs : List X) (k : ℕ) (x : X) → map view xs ≡ map f (range_with_len 0 k) → view x ≡ f k → map view (xs ++ x ∷ []) ≡ map f (range_with_len 0 (k + 1))
mapped_more view f xs k x e is =
    map-append view xs (x ∷ []) ∙ ap (λ l. l ++ view x ∷ []) e ∙ ap (λ y. map f (range_with_len 0 k) ++ y ∷ []) is ∙ sym (map-range_with_len_more f 0 k k (omega arith))
