use Rattle.std.proofs.Common.{length, arith, refl}
use Rattle.lzk_level.proofs.UseLaws.{before-later}
use Rattle.lzk_level.proofs.uses.use_form.Goals as goal

pub use_terms-requires-clause-terms : goal.use_terms-requires-clause-terms
use_terms-requires-clause-terms g c κs within = before-later c.args.k (length c.args.last.now.items) c.args.form.now (omega (arith, c.requires.node)) c.requires.form

pub returns-then-depth-index-clause-others : goal.returns-then-depth-index-clause-others
returns-then-depth-index-clause-others g c j l = c.use_terms.ensures.others c.args.k c.requires.form j l

pub index-requires : goal.index-requires
index-requires g c = omega (arith, c.requires.node, c.args.last.now.ok.0)

pub returns-then-depth-index-clause-count : goal.returns-then-depth-index-clause-count
returns-then-depth-index-clause-count g c = c.use_terms.ensures.count

pub returns-then-depth-index-clause-grown : goal.returns-then-depth-index-clause-grown
returns-then-depth-index-clause-grown g c = c.use_terms.ensures.grown

pub returns-then-depth-index-clause-used : goal.returns-then-depth-index-clause-used
returns-then-depth-index-clause-used g c l = c.use_terms.ensures.used

pub returns-else-depth-index-clause-count : goal.returns-else-depth-index-clause-count
returns-else-depth-index-clause-count g c = refl

pub returns-else-depth-index-clause-grown : goal.returns-else-depth-index-clause-grown
returns-else-depth-index-clause-grown g c j = omega arith

pub returns-else-depth-index-clause-others : goal.returns-else-depth-index-clause-others
returns-else-depth-index-clause-others g c j l = refl
