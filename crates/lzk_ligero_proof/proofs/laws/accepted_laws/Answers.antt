use Rattle.lzk_ligero_proof.proofs.Accepted.{complete}
use Rattle.lzk_ligero_proof.proofs.laws.accepted_laws.Goals as goal

pub returns : goal.returns
returns g c =
    let f = g.F.Field in
    let pass = c.answers_laws.ensures in
    record {
      accepted = complete f.ops f.coding f.laws.ring c.residual_laws.ensures.vanish (record {
        columns = pass.columns;
        low_degree = pass.low_degree;
        linear = pass.linear;
        quadratic = pass.quadratic;
        zeros = pass.zeros;
        linear_sum = pass.linear_sum;
        combined = pass.combined;
      });
    }
