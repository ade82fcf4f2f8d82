-- A walk that ends: what saving and telling leave of it.
use Rattle.std.proofs.Common.{◌≡◌, ℕ, suc, ◌+◌, ◌-◌, ◌<◌, List, [], ◌∷◌, ◌++◌, length, refl, sym, ap, subst, ◌∙◌, append-nil, inr, Option}
use Rattle.std.specs.Prelude.{map}
use Rattle.std.specs.List.{range_with_len}
use Rattle.std.proofs.lemmas.List.FromFn.{length-map-range_with_len}
use Rattle.store_io.specs.Outside.{Outside, Poured}
use Rattle.tool_lines.specs.Texts.{store_fault, output_fault}
use Rattle.save_list.specs.Save.{Save, numbered}
use Rattle.save_list.specs.Saving.{opened, HasSaved, FailsAtSave}
use Rattle.save_list.proofs.SavedLaws.{cut_at}
use Rattle.command_walks.specs.Answer.{done}
use Rattle.command_walks.specs.Walk.{Ends}
use Rattle.command_walks.specs.Outcome.{IsNamed, IsDone, FailsAtOutput}
use Rattle.command_walks.specs.Following.{StopsWith, IsTold, IsLost}
use Rattle.command_walks.specs.declared.status.Status.TheVariants as status

-- nothing was to be told
pub nothing_told : (pour : Poured) → IsTold [] pour pour
nothing_told pour = record { gained = λ heard. sym (append-nil pour.bytes); poured = refl }

module _ (save_at : ℕ → Save) (count : ℕ) (output : List ℕ) (names : Option (List (List ℕ))) (named : IsNamed names (numbered save_at count)) where
  many : length (numbered save_at count) ≡ count
  many = length-map-range_with_len save_at 0 count

  -- all is saved, and the output was told
  pub all_done : (old new : Outside) (before after : Poured) → HasSaved save_at count old new → IsTold output before after → IsDone (Ends (numbered save_at count) output) names [] old new before after
  all_done old new before after all told = record {
    saves = numbered save_at count;
    output = output;
    ends = record { named = named; answered = λ tells. refl };
    files = all.files;
    opens = all.opens ∙ ap (λ (n : ℕ). opened n old.opens) (sym many);
    gained = told.gained;
    counts = all.counts;
    poured = told.poured;
    line_is = refl;
  }

  -- all is saved, and the output failed
  pub output_lost : (old new : Outside) (before after : Poured) → HasSaved save_at count old new → IsLost output before after → FailsAtOutput (Ends (numbered save_at count) output) names output_fault old new before after
  output_lost old new before after all lost = record {
    saves = numbered save_at count;
    output = output;
    ends = record { named = named; answered = λ tells. refl };
    files = all.files;
    opens = all.opens ∙ ap (λ (n : ℕ). opened n old.opens) (sym many);
    gained = lost.gained;
    counts = all.counts;
    poured = lost.poured;
    line_is = refl;
  }

  -- the store failed at a save
  pub save_failed : (k : ℕ) (old new : Outside) → k < count → FailsAtSave save_at k old new → StopsWith status.Store (store_fault (save_at k).name) (Ends (numbered save_at count) output) names old new
  save_failed k old new lt fails pour =
      let cut : numbered save_at count ≡ numbered save_at k ++ save_at k ∷ map save_at (range_with_len (k + 1) (count - suc k)) = cut_at save_at k count lt in
      inr (record {
        first = numbered save_at k;
        name = (save_at k).name;
        text = (save_at k).text;
        later = map save_at (range_with_len (k + 1) (count - suc k));
        output = output;
        ends = record { named = subst (IsNamed names) cut named; answered = λ told. ap (λ (xs : List Save). done xs output) cut };
        files = fails.files;
        opens = fails.opens ∙ ap (λ (n : ℕ). opened (suc n) old.opens) (sym (length-map-range_with_len save_at 0 k));
        why = record { failed = fails.failed; line_is = refl };
        silent = refl;
      })
