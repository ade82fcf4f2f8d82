-- The next line of a file.
pub use Rattle.mm_grammar.proofs.Stages.{line_to}
