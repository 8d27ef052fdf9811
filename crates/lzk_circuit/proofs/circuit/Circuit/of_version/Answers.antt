use Rattle.std.specs.Prelude.{◌≡◌, length, None}
use Rattle.std.proofs.Common.{subst, arith}
use Rattle.lzk_circuit.specs.Faults.{counts_fault}
use Rattle.std.proofs.lemmas.Result.{err_from_is_err_and}
use Rattle.lzk_circuit.proofs.ValidLaws.{valid-from, not-valid, counts-pass}
use Rattle.lzk_circuit.proofs.circuit.Circuit.of_version.Goals as goal

pub returns-in_err-check_layers-clause-valid : goal.returns-in_err-check_layers-clause-valid
returns-in_err-check_layers-clause-valid g c =
    let m = g.F.Field in
    let count : c.len.result ≡ length c.args.layers.items = omega (arith, c.len.ensures, c.args.layers.ok.0) in
    let p = err_from_is_err_and c.from_residual-in_err-check_layers.result c.from_residual-in_err-check_layers.ensures.1 in
    rw p.1 (not-valid m.ops m.coding.size m.coding.number m.coding.element m.coding.bytes m.laws.numbers c.args.version c.args.publics c.args.privates c.args.layers.items _
    (counts-pass m.coding.number c.args.version c.args.publics c.args.privates c.args.layers.items _ (subst (λ n. counts_fault c.args.publics c.args.privates n ≡ None) count c.in_ok-check_counts.ensures) (rw c.deref.ensures.value at c.in_err-check_layers.ensures)))

pub invariant_of-result : goal.invariant_of-result
invariant_of-result g c =
    let m = g.F.Field in
    let count : c.len.result ≡ length c.args.layers.items = omega (arith, c.len.ensures, c.args.layers.ok.0) in
    valid-from m.ops m.coding.size m.coding.number m.coding.element m.coding.bytes m.laws.numbers c.args.version c.args.publics c.args.privates c.args.layers.items c.requires
    (counts-pass m.coding.number c.args.version c.args.publics c.args.privates c.args.layers.items None (subst (λ n. counts_fault c.args.publics c.args.privates n ≡ None) count c.in_ok-check_counts.ensures) (rw c.deref.ensures.value at c.in_ok-check_layers.ensures))

pub returns-clause-valid : goal.returns-clause-valid
returns-clause-valid g c = invariant_of-result g c
