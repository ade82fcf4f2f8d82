-- A map of names, and one name more.
use Rattle.std.proofs.Common.{◌≡◌, ℕ, List, Some, ap, ◌∙◌, String, string_bytes}
use Rattle.std.specs.BTreeMap.{BTreeMap, UpdatesBy}
use Rattle.std.specs.Cmp.Lexicographic.{slice_cmp}
use Rattle.std.specs.Ordering.{nat_cmp}
use Rattle.std.specs.String.{string_cmp}
use Rattle.std.proofs.lemmas.Map.Text.{btree_map_updates_text}
use Rattle.grid_lang.specs.declared.named.Named.{Named}
use Rattle.grid_lang.specs.Names.{names_of, with_name}

pub added : {A : Type 0} (name : List ℕ) (what : Named) (old new : BTreeMap (String A) Named) → UpdatesBy string_cmp (λ k. slice_cmp nat_cmp name (string_bytes k)) old new (Some what) → names_of new ≡ with_name name what (names_of old)
added name what old new updates = λ t word. btree_map_updates_text name old new (Some what) updates word t

-- the name is a text of these bytes
pub added_as : {A : Type 0} (key : String A) (word : List ℕ) (what : Named) (old new : BTreeMap (String A) Named) → string_bytes key ≡ word
    → UpdatesBy string_cmp (λ k. slice_cmp nat_cmp (string_bytes key) (string_bytes k)) old new (Some what) → names_of new ≡ with_name word what (names_of old)
added_as key word what old new same updates = added (string_bytes key) what old new updates ∙ ap (λ (name : List ℕ). with_name name what (names_of old)) same
