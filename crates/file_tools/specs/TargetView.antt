-- A target as the code holds it.
use Rattle.file_tools.specs.Target as target
use Rattle.file_tools.specs.declared.target.Target.{Target}

abbrev pub target_view : Target → target.Target
target_view t = record { prefix = t.prefix.now; nprow = t.nprow; npcol = t.npcol; mb = t.mb; nb = t.nb }
