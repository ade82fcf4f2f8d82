use Rattle.std.proofs.Common.{◌≡◌, ◌*◌, List, ℕ, [], ◌∷◌, refl, ap, ap₂, arith}
use Rattle.std.specs.Prelude.{Some, map, string_bytes}
use Rattle.std.proofs.lemmas.Grind.{common_steps}
use Rattle.tool_words.specs.CommandWords.{asked}
use Rattle.tool_words.specs.declared.asked.Asked.TheVariants as asks
use Rattle.file_tools.specs.Lists.{names_by}
use Rattle.file_tools.specs.SplitWalk.{split_walk}
use Rattle.file_tools.specs.JoinWalk.{join_walk}
use Rattle.file_tools.specs.MoveWalk.{move_walk}
use Rattle.program_walks.specs.ProgramWalks.{check_walk, run_walk}
use Rattle.file_tools.proofs.ToolLaws.{command_ends}
use Rattle.file_tools.proofs.tool.run_tool.Goals as goal

pub returns-in-Split-clause-outcome : goal.returns-in-Split-clause-outcome
returns-in-Split-clause-outcome g c =
    let are : Some (asks.Split c.in-Split.input c.in-Split.output c.in-Split.p c.in-Split.q c.in-Split.mb c.in-Split.nb) ≡ asked (map string_bytes c.args.words.now) = grind (arith, common_steps) in
    command_ends c.run_split-done.result (map string_bytes c.args.words.now) _ _ _ c.report-in-Split.result (g.S.Store.state c.args.store.now) (g.S.Store.state c.run_split-done.new.store) (g.O.Sink.state c.args.out.now) (g.O.Sink.state c.args.out.now) (g.E.Sink.state c.args.err.now) (g.E.Sink.state c.report-in-Split.new.err) are
    (ap₂ (λ (input prefix : List ℕ). split_walk input (record { prefix = prefix; nprow = c.in-Split.p; npcol = c.in-Split.q; mb = c.in-Split.mb; nb = c.in-Split.nb })) c.file_named.ensures c.as_str.ensures.text)
    (ap (λ (prefix : List ℕ). Some (names_by prefix c.in-Split.q (c.in-Split.p * c.in-Split.q))) c.as_str.ensures.text)
    c.report-in-Split.ensures.status (c.run_split-done.ensures (g.O.Sink.state c.args.out.now)) c.report-in-Split.ensures.says c.report-in-Split.ensures.silent

pub returns-in-Join-clause-outcome : goal.returns-in-Join-clause-outcome
returns-in-Join-clause-outcome g c =
    let are : Some (asks.Join c.in-Join.prefix c.in-Join.output) ≡ asked (map string_bytes c.args.words.now) = grind (arith, common_steps) in
    command_ends c.run_join-done.result (map string_bytes c.args.words.now) _ _ _ c.report-in-Join.result (g.S.Store.state c.args.store.now) (g.S.Store.state c.run_join-done.new.store) (g.O.Sink.state c.args.out.now) (g.O.Sink.state c.args.out.now) (g.E.Sink.state c.args.err.now) (g.E.Sink.state c.report-in-Join.new.err) are
    (ap₂ join_walk c.as_str-in-Join.ensures.text c.file_named-in-Join.ensures) (ap (λ (output : List ℕ). Some (output ∷ [])) c.file_named-in-Join.ensures)
    c.report-in-Join.ensures.status (c.run_join-done.ensures (g.O.Sink.state c.args.out.now)) c.report-in-Join.ensures.says c.report-in-Join.ensures.silent

pub returns-in-Move-clause-outcome : goal.returns-in-Move-clause-outcome
returns-in-Move-clause-outcome g c =
    let are : Some (asks.Move c.in-Move.prefix c.in-Move.output c.in-Move.p c.in-Move.q c.in-Move.mb c.in-Move.nb c.in-Move.how) ≡ asked (map string_bytes c.args.words.now) = grind (arith, common_steps) in
    command_ends c.run_move-done.result (map string_bytes c.args.words.now) _ _ _ c.report-in-Move.result (g.S.Store.state c.args.store.now) (g.S.Store.state c.run_move-done.new.store) (g.O.Sink.state c.args.out.now) (g.O.Sink.state c.run_move-done.new.out) (g.E.Sink.state c.args.err.now) (g.E.Sink.state c.report-in-Move.new.err) are
    (ap₂ (λ (prefix output : List ℕ). move_walk prefix (record { prefix = output; nprow = c.in-Move.p; npcol = c.in-Move.q; mb = c.in-Move.mb; nb = c.in-Move.nb })) c.as_str-in-Move-2.ensures.text c.as_str-in-Move.ensures.text)
    (ap (λ (output : List ℕ). Some (names_by output c.in-Move.q (c.in-Move.p * c.in-Move.q))) c.as_str-in-Move.ensures.text)
    c.report-in-Move.ensures.status c.run_move-done.ensures c.report-in-Move.ensures.says c.report-in-Move.ensures.silent

pub returns-in-Check-clause-outcome : goal.returns-in-Check-clause-outcome
returns-in-Check-clause-outcome g c =
    let are : Some (asks.Check c.in-Check.program) ≡ asked (map string_bytes c.args.words.now) = grind (arith, common_steps) in
    command_ends c.run_check-done.result (map string_bytes c.args.words.now) _ _ _ c.report-in-Check.result (g.S.Store.state c.args.store.now) (g.S.Store.state c.run_check-done.new.store) (g.O.Sink.state c.args.out.now) (g.O.Sink.state c.run_check-done.new.out) (g.E.Sink.state c.args.err.now) (g.E.Sink.state c.report-in-Check.new.err) are
    (ap check_walk c.file_named-in-Check.ensures) refl c.report-in-Check.ensures.status c.run_check-done.ensures c.report-in-Check.ensures.says c.report-in-Check.ensures.silent

pub returns-in-Run-clause-outcome : goal.returns-in-Run-clause-outcome
returns-in-Run-clause-outcome g c =
    let are : Some (asks.Run c.in-Run.program c.in-Run.how) ≡ asked (map string_bytes c.args.words.now) = grind (arith, common_steps) in
    command_ends c.run_file-done.result (map string_bytes c.args.words.now) _ _ _ c.report-in-Run.result (g.S.Store.state c.args.store.now) (g.S.Store.state c.run_file-done.new.store) (g.O.Sink.state c.args.out.now) (g.O.Sink.state c.run_file-done.new.out) (g.E.Sink.state c.args.err.now) (g.E.Sink.state c.report-in-Run.new.err) are
    (ap run_walk c.file_named-in-Run.ensures) refl c.report-in-Run.ensures.status c.run_file-done.ensures c.report-in-Run.ensures.says c.report-in-Run.ensures.silent

pub returns-in-Load-clause-outcome : goal.returns-in-Load-clause-outcome
returns-in-Load-clause-outcome g c =
    let are : Some (asks.Load c.in-Load.seed c.in-Load.size) ≡ asked (map string_bytes c.args.words.now) = grind (arith, common_steps) in
    command_ends c.run_load-done.result (map string_bytes c.args.words.now) _ _ _ c.report-in-Load.result (g.S.Store.state c.args.store.now) (g.S.Store.state c.args.store.now) (g.O.Sink.state c.args.out.now) (g.O.Sink.state c.run_load-done.new.out) (g.E.Sink.state c.args.err.now) (g.E.Sink.state c.report-in-Load.new.err) are
    refl refl c.report-in-Load.ensures.status (c.run_load-done.ensures (g.S.Store.state c.args.store.now)) c.report-in-Load.ensures.says c.report-in-Load.ensures.silent
