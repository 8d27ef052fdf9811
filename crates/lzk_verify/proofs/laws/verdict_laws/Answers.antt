use Rattle.std.proofs.Common.{refl}
use Rattle.lzk_layout.specs.Sizes.{params_of}
use Rattle.lzk_verify.proofs.Acceptance.{accepts_exactly}
use Rattle.lzk_verify.proofs.Ending.{only_this}
use Rattle.lzk_verify.proofs.SomeVerdict.{some_verdict}
use Rattle.lzk_verify.proofs.laws.verdict_laws.Goals as goal

pub returns-clause-one : goal.returns-clause-one
returns-clause-one g c = λ w session public bytes v other this that.
    let f = g.F.Field in
    only_this f.ops f.coding w (params_of w) refl f.laws session public bytes other that v this

pub returns-clause-some : goal.returns-clause-some
returns-clause-some g c = λ w session public bytes are.
    let f = g.F.Field in
    some_verdict f.ops f.coding w f.laws session public bytes are

pub returns-clause-accepted : goal.returns-clause-accepted
returns-clause-accepted g c = λ w session public bytes.
    let f = g.F.Field in
    accepts_exactly f.ops f.coding w session public bytes
