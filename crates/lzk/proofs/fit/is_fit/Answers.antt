use Rattle.lzk.proofs.Jobs.{fit_there, fit_nowhere}
use Rattle.lzk.proofs.fit.is_fit.Goals as goal

pub returns-in-Some : goal.returns-in-Some
returns-in-Some c =
    let found = c.in-Some.ensures.lookup in
    fit_there c.args.circuits.now c.args.job.now c.place_of.result c.in-Some.circuit.now c.fits_any.result c.place_of.ensures found.0 found.1 c.fits_any.ensures

pub returns-in-None : goal.returns-in-None
returns-in-None c = fit_nowhere c.args.circuits.now c.args.job.now c.place_of.result c.place_of.ensures c.in-None.ensures.lookup.0
