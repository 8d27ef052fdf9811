use Rattle.lzk_ligero_proof.proofs.AnyChecked.{any_inputs}
use Rattle.lzk_ligero_proof.proofs.laws.checked_laws.Goals as goal

pub returns : goal.returns
returns g c =
    let f = g.F.Field in
    let pass = c.answers_laws.ensures in
    record {
      checked = any_inputs f.ops f.coding f.laws.ring (record {
        columns = pass.columns;
        low_degree = pass.low_degree;
        linear = pass.linear;
        quadratic = pass.quadratic;
        zeros = pass.zeros;
        linear_sum = pass.linear_sum;
        combined = pass.combined;
      });
    }
