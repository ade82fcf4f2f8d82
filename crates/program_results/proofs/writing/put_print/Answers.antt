use Rattle.program_results.proofs.writing.put_print.Goals as goal

pub new-cells-requires : goal.new-cells-requires
new-cells-requires g c = c.requires.fits.spread c.in-Array.array c.place.result.now c.place.ensures
