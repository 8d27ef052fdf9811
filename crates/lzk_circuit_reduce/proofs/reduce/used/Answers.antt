use Rattle.std.proofs.Common.{sym, subst}
use Rattle.lzk_circuit_reduce.specs.Asserting.{AreAsMany}
use Rattle.lzk_circuit_reduce.specs.Reducible.{AreReducible}
use Rattle.lzk_circuit_reduce.proofs.FormLaws.{reduced-alone}
use Rattle.lzk_circuit_reduce.proofs.TargetLaws.{no-targets}
use Rattle.lzk_circuit_reduce.proofs.reduce.used.Goals as goal

pub used_with-requires-clause-are : goal.used_with-requires-clause-are
used_with-requires-clause-are g c κs within =
    let inputs = c.args.inputs in
    let layers = c.args.layers.items in
    let r = c.requires in
    subst (λ ws. AreReducible g.F.Field.ops inputs ws layers) (sym c.new.ensures.items) (record { some = r.some; valid = r.layers; ones = r.ones; targets = no-targets inputs layers })

pub used_with-requires-clause-different : goal.used_with-requires-clause-different
used_with-requires-clause-different g c κs within = c.requires.different

pub returns : goal.returns
returns g c =
    let layers = c.args.layers.items in
    let f = c.in-Ok.ensures.form in
    let moved = c.in-Ok.moved.items in
    let many = subst (λ ws. AreAsMany moved ws layers) c.new.ensures.items f.as_many in
    record {
      count = f.count;
      layers = f.valid;
      outputs = f.outputs;
      values = f.values;
      reduced = reduced-alone g.F.Field.ops moved c.in-Ok.kept.items layers f.count many c.in-Ok.ensures.reduced;
    }
