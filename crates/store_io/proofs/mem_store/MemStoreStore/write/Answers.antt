use Rattle.std.proofs.Common.{ap, ◌∙◌}
use Rattle.store_io.specs.MemState.{MemState}
use Rattle.store_io.proofs.FilesLemmas.{writes_no_byte}
use Rattle.store_io.proofs.mem_store.MemStoreStore.write.Goals as goal

pub returns-then-is_due-clause-failed : goal.returns-then-is_due-clause-failed
returns-then-is_due-clause-failed c = writes_no_byte _ _ c.args.piece.now (ap (λ (s : MemState). s.outside.files) c.fault.ensures.counted ∙ ap (λ (s : MemState). s.outside.files) c.call_output-is_due.ensures.counted)
