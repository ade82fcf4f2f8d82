-- The line as it grows.
use Rattle.std.proofs.Common.{◌≡◌, ℕ, false, ◌+◌, ◌<◌, List, [], ◌∷◌, ◌++◌, length, get_or, take, map, refl, sym, ap, ◌∙◌, add-one}
use Rattle.std.proofs.Math.Seq.{take-suc}
use Rattle.clap.specs.Simple.{with_subcommand}
use Rattle.tool_words.specs.CommandNames.{name_of}
use Rattle.tool_words.specs.Line.{shape_named, bare_line, line_of}
use Rattle.tool_words.specs.declared.command.Command.{Command}

pub line_none : bare_line ≡ line_of []
unfolding bare_line
line_none = refl

map_end : (cs : List Command) (c : Command) → map (λ c. shape_named (name_of c)) cs ++ shape_named (name_of c) ∷ [] ≡ map (λ c. shape_named (name_of c)) (cs ++ c ∷ [])
map_end [] c = refl
map_end (k ∷ cs) c = ap (λ t. shape_named (name_of k) ∷ t) (map_end cs c)

more : (cs : List Command) (c : Command) → with_subcommand (line_of cs) (shape_named (name_of c)) ≡ line_of (cs ++ c ∷ [])
more [] c = refl
more (k ∷ cs) c = ap (λ t. record { top = record bare_line.top { is_leaf = false }; subs = t }) (map_end (k ∷ cs) c)

pub line_more : (cs : List Command) (i : ℕ) (d : Command) → i < length cs → with_subcommand (line_of (take i cs)) (shape_named (name_of (get_or cs i d))) ≡ line_of (take (i + 1) cs)
line_more cs i d l = more (take i cs) (get_or cs i d) ∙ ap line_of (sym (take-suc cs i d l) ∙ ap (λ n. take n cs) (sym (add-one i)))
