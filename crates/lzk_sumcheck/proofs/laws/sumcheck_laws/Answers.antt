use Rattle.lzk_sumcheck.proofs.SumcheckLaws.{sumcheck_of}
use Rattle.lzk_sumcheck.proofs.VersionLaws.{first-version}
use Rattle.lzk_sumcheck.proofs.WireLaws.{begins-with-checks, satisfied-claims}
use Rattle.lzk_sumcheck.proofs.laws.sumcheck_laws.Goals as goal

pub returns-clause-first : goal.returns-clause-first
returns-clause-first g c = λ s fits. (sumcheck_of g.F.Field.laws s fits).first

pub returns-clause-next : goal.returns-clause-next
returns-clause-next g c = λ s fits. (sumcheck_of g.F.Field.laws s fits).next

pub returns-clause-curve : goal.returns-clause-curve
returns-clause-curve g c = λ s fits. (sumcheck_of g.F.Field.laws s fits).curve

pub returns-clause-last : goal.returns-clause-last
returns-clause-last g c = λ s fits. (sumcheck_of g.F.Field.laws s fits).last

pub returns-clause-checks : goal.returns-clause-checks
returns-clause-checks g c = λ terms beta weights values bits fits. begins-with-checks g.F.Field.laws terms beta weights values bits fits

pub returns-clause-satisfied : goal.returns-clause-satisfied
returns-clause-satisfied g c = satisfied-claims g.F.Field.laws

pub returns-clause-first_version : goal.returns-clause-first_version
returns-clause-first_version g c =
    let m = g.F.Field in
    first-version m.ops m.coding m.laws.ring
