use Rattle.std.proofs.Common.{[], subst, ◌∙◌}
use Rattle.lzk_verify.specs.Verdict.{IsVerdict, IsOnlyVerdict}
use Rattle.lzk_verify.proofs.Acceptance.{accepts_exactly}
use Rattle.lzk_verify.proofs.desk.Desk.verify.Goals as goal

pub returns-clause-verdict : goal.returns-clause-verdict
returns-clause-verdict g c =
    let f = g.F.Field in
    let e = f.coding in
    let session = c.args.session.now in
    let public = c.args.public.now in
    let bytes = c.args.bytes.now in
    subst (λ w. IsVerdict f.ops e w session public bytes c.end.result) (c.feed.ensures.circuit ∙ c.open.ensures.circuit)
    (c.end.ensures.verdict session public bytes (c.feed.ensures.stands session public [] c.open.ensures.stands))

pub returns-clause-one : goal.returns-clause-one
returns-clause-one g c =
    let f = g.F.Field in
    let e = f.coding in
    let session = c.args.session.now in
    let public = c.args.public.now in
    let bytes = c.args.bytes.now in
    subst (λ w. IsOnlyVerdict f.ops e w session public bytes c.end.result) (c.feed.ensures.circuit ∙ c.open.ensures.circuit)
    (c.end.ensures.one session public bytes (c.feed.ensures.stands session public [] c.open.ensures.stands))

pub returns-clause-accepted : goal.returns-clause-accepted
returns-clause-accepted g c =
    let f = g.F.Field in
    accepts_exactly f.ops f.coding c.args.self.now.circuit c.args.session.now c.args.public.now c.args.bytes.now
