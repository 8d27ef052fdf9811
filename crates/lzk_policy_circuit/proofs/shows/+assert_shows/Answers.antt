use Rattle.std.proofs.Common.{◌+◌, ap}
use Rattle.lzk_policy_circuit.proofs.Adding.{shows_added}
use Rattle.lzk_policy_circuit.proofs.shows.+assert_shows.Goals as goal

pub returns : goal.returns
returns t c =
    let i = c.args.i in
    let own = c.args.own in
    shows_added c.args.fields.now c.args.shows.now c.in-Some.show.now c.in-Some.others.now c.field_of-field.result.now c.args.s.now c.assert_claim.new.s c.assert_shows.new.s
    i own (i + c.value_count.result) (own + c.own_of_claim.result) c.in-Some.ensures.cases.0 c.field_of-field.ensures.there
    (ap (λ n. i + n) c.value_count.ensures.count) (ap (λ n. own + n) c.own_of_claim.ensures.count) c.in_ok-assert_claim.ensures c.in_ok-assert_shows.ensures
