use Rattle.std.proofs.Common.{◌≡◌, map, string_bytes, sym, ◌∙◌, Some, None}
use Rattle.std.specs.Prelude.{codes}
use Rattle.std.proofs.lemmas.Result.{IfOk-weaker}
use Rattle.clap.specs.Simple.{app_of}
use Rattle.clap.specs.Walk.{rows_of}
use Rattle.clap.specs.Matches.{found_of}
use Rattle.tool_words.specs.Line.{lent_texts}
use Rattle.tool_words.proofs.Rows.{values_at}
use Rattle.tool_words.proofs.ReadLaws.{all_utf8, asks_as, refused_error, none_met, met, lent_are, flag_read, Reads}
use Rattle.tool_words.proofs.WithinLaws.{within_asked}
use Rattle.tool_words.proofs.read.read_words.Goals.{in-OutOfMemory, in_default}
use Rattle.tool_words.proofs.read.read_words.Goals as goal

pub returns-in-Err-clause-asks : goal.returns-in-Err-clause-asks
returns-in-Err-clause-asks c =
    elim c.match-kind.branch [
      | in-OutOfMemory w ↦ rw w.result-is tt
      | in_default w ↦
          let none = refused_error (map string_bytes c.args.words.now) (app_of c.in_ok-line.field-0) c.in-Err.error (all_utf8 c.args.words.now) c.in_ok-line.ensures c.in-Err.ensures.kinds (λ e. w.in_default.not-OutOfMemory (c.kind.ensures ∙ e)) in
          rw w.result-is (sym none)
    ]

pub returns-in_default-subcommand-clause-asks : goal.returns-in_default-subcommand-clause-asks
returns-in_default-subcommand-clause-asks c =
    sym (none_met (map string_bytes c.args.words.now) (app_of c.in_ok-line.field-0) c.in-Ok.matches (all_utf8 c.args.words.now) c.in_ok-line.ensures c.in-Ok.ensures.matches c.in_default-subcommand.ensures.variant)

pub returns-in_default-named-clause-asks : goal.returns-in_default-named-clause-asks
returns-in_default-named-clause-asks c =
    let read : Reads (map string_bytes c.args.words.now) c.in-Some.name.now (rows_of (found_of c.in-Some.given.now)) =
    met (map string_bytes c.args.words.now) (app_of c.in_ok-line.field-0) c.in-Ok.matches c.in-Some.name.now (rows_of (found_of c.in-Some.given.now)) (all_utf8 c.args.words.now) c.in_ok-line.ensures c.in-Ok.ensures.kinds c.in-Ok.ensures.matches c.in-Some.ensures.name c.in-Some.ensures.rows in
    let both : None ≡ Some read.command = c.in_default-named.ensures ∙ read.named in absurd cc

pub returns-clause-asks : goal.returns-clause-asks
returns-clause-asks c =
    let read : Reads (map string_bytes c.args.words.now) c.in-Some.name.now (rows_of (found_of c.in-Some.given.now)) =
    met (map string_bytes c.args.words.now) (app_of c.in_ok-line.field-0) c.in-Ok.matches c.in-Some.name.now (rows_of (found_of c.in-Some.given.now)) (all_utf8 c.args.words.now) c.in_ok-line.ensures c.in-Ok.ensures.kinds c.in-Ok.ensures.matches c.in-Some.ensures.name c.in-Some.ensures.rows in
    let same : c.in-Some-named.command ≡ read.command = let both : Some c.in-Some-named.command ≡ Some read.command = c.in-Some-named.ensures ∙ read.named in cc in
    let found = found_of c.in-Some.given.now in
    IfOk-weaker c.asked.result _ _ (λ r h. h ∙ asks_as c.in-Some-named.command read.command (lent_texts c.get_raw-places.result) (values_at (codes "words") (rows_of found)) (lent_texts c.get_raw-seeds.result) (values_at (codes "seed") (rows_of found)) c.get_flag.result read.flag same
    (lent_are c.get_raw-places.result found (codes "words") c.get_raw-places.ensures)
    (flag_read found read.flag c.get_flag.result read.flagged c.get_flag.ensures.value c.get_flag.ensures.other)
    (lent_are c.get_raw-seeds.result found (codes "seed") c.get_raw-seeds.ensures) ∙ sym read.asks) c.asked.ensures

pub returns-clause-within : goal.returns-clause-within
returns-clause-within c = IfOk-weaker c.asked.result _ _ (λ r h. within_asked (map string_bytes c.args.words.now) r h) (returns-clause-asks c)
