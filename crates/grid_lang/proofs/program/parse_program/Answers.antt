use Rattle.grid_lang.proofs.ProgramLaws.{ok_of, bad_of, program_of, fault_of, once, at_first}
use Rattle.grid_lang.proofs.PartLaws.{parts_of}
use Rattle.grid_lang.proofs.program.parse_program.Goals as goal

pub returns : goal.returns
returns c = record {
  ok = ok_of _ _ c.read_program.ensures;
  parts = parts_of _ _ c.read_program.ensures;
  bad = bad_of _ _ c.read_program.ensures;
  program = program_of _ _ c.read_program.ensures;
  fault = fault_of _ _ c.read_program.ensures;
  once = once;
  first = at_first;
}
