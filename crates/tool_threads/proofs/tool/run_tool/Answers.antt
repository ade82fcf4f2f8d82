use Rattle.std.proofs.Common.{◌≡◌, ◌*◌, List, ℕ, refl, ap, ap₂, arith}
use Rattle.std.specs.Prelude.{Some, map, string_bytes}
use Rattle.std.proofs.lemmas.Grind.{common_steps}
use Rattle.tool_words.specs.CommandWords.{asked}
use Rattle.tool_words.specs.declared.asked.Asked.TheVariants as asks
use Rattle.tool_words.specs.declared.asked.How.TheVariants as how
use Rattle.file_tools.specs.Lists.{names_by}
use Rattle.file_tools.specs.MoveWalk.{move_walk}
use Rattle.program_walks.specs.ProgramWalks.{run_walk}
use Rattle.file_tools.proofs.ToolLaws.{command_ends}
use Rattle.tool_threads.proofs.tool.run_tool.Goals as goal

pub returns-in-Ok-Some-Move-default-default-default-default-default-default-Threads-clause-outcome :
    goal.returns-in-Ok-Some-Move-default-default-default-default-default-default-Threads-clause-outcome
returns-in-Ok-Some-Move-default-default-default-default-default-default-Threads-clause-outcome g c =
    let at = c.in-Ok-Some-Move-default-default-default-default-default-default-Threads in
    let prefix = c.as_str-in-Ok-Some-Move-default-default-default-default-default-default-Threads in
    let are : Some (asks.Move at.prefix at.output at.p at.q at.mb at.nb how.Threads) ≡ asked (map string_bytes c.args.words.now) = grind (arith, common_steps) in
    command_ends c.run_move-done.result (map string_bytes c.args.words.now) _ _ _ c.report.result (g.S.Store.state c.args.store.now) (g.S.Store.state c.run_move-done.new.store) (g.O.Sink.state c.args.out.now) (g.O.Sink.state c.run_move-done.new.out) (g.E.Sink.state c.args.err.now) (g.E.Sink.state c.report.new.err) are
    (ap₂ (λ (prefix output : List ℕ). move_walk prefix (record { prefix = output; nprow = at.p; npcol = at.q; mb = at.mb; nb = at.nb })) prefix.ensures.text c.as_str.ensures.text)
    (ap (λ (output : List ℕ). Some (names_by output at.q (at.p * at.q))) c.as_str.ensures.text)
    c.report.ensures.status c.run_move-done.ensures c.report.ensures.says c.report.ensures.silent

pub returns-in-Ok-Some-Run-default-Threads-clause-outcome : goal.returns-in-Ok-Some-Run-default-Threads-clause-outcome
returns-in-Ok-Some-Run-default-Threads-clause-outcome g c =
    let at = c.in-Ok-Some-Run-default-Threads in
    let are : Some (asks.Run at.program how.Threads) ≡ asked (map string_bytes c.args.words.now) = grind (arith, common_steps) in
    command_ends c.run_file-done.result (map string_bytes c.args.words.now) _ _ _ c.report-in-Ok-Some-Run-default-Threads.result (g.S.Store.state c.args.store.now) (g.S.Store.state c.run_file-done.new.store) (g.O.Sink.state c.args.out.now) (g.O.Sink.state c.run_file-done.new.out) (g.E.Sink.state c.args.err.now) (g.E.Sink.state c.report-in-Ok-Some-Run-default-Threads.new.err) are
    (ap run_walk c.file_named.ensures) refl c.report-in-Ok-Some-Run-default-Threads.ensures.status c.run_file-done.ensures c.report-in-Ok-Some-Run-default-Threads.ensures.says c.report-in-Ok-Some-Run-default-Threads.ensures.silent
