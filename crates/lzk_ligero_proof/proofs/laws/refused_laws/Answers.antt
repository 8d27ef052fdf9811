use Rattle.lzk_ligero_proof.proofs.Refused.{changed_refused}
use Rattle.lzk_ligero_proof.proofs.laws.refused_laws.Goals as goal

pub returns : goal.returns
returns g c =
    let f = g.F.Field in
    let pass = c.answers_laws.ensures in
    let fail = c.changed_answers_laws.ensures in
    record {
      refused = changed_refused f.ops f.coding f.laws.ring c.residual_laws.ensures.vanish
          (record {
            columns = pass.columns;
            low_degree = pass.low_degree;
            linear = pass.linear;
            quadratic = pass.quadratic;
            zeros = pass.zeros;
            linear_sum = pass.linear_sum;
            combined = pass.combined;
          })
          (record { low_degree = fail.low_degree; linear = fail.linear; quadratic = fail.quadratic; sums = fail.sums });
    }
