use Rattle.lzk_poly_ntt.proofs.Building.{IsBuilt}
use Rattle.lzk_poly_ntt.proofs.kernels.kernel_spectra.Given as goal

abbrev pub invariant-loop-v : goal.invariant-loop-v
invariant-loop-v g l = let m = g.F.Field in IsBuilt m.ops m.coding.element l.fn.cut.transform.now l.fn.cut.plan l.v 0 l.all.items

abbrev pub invariant-loop-p : goal.invariant-loop-p
invariant-loop-p g l = let m = g.F.Field in IsBuilt m.ops m.coding.element l.fn.cut.transform.now l.fn.cut.plan l.v l.p l.all.items
