use Rattle.std.proofs.Common.{◌≡◌, ◌*◌, ◌/◌, ap, arith}
use Rattle.lzk_layout.specs.declared.params.Params.{Params}
use Rattle.lzk_layout.specs.Sizes.{params_of}
use Rattle.lzk_accept.proofs.PrivateLaws.{filled}
use Rattle.lzk_accept.proofs.factored.filled_inputs.Goals as goal

pub returns-clause-number : goal.returns-clause-number
returns-clause-number g c = ap (λ (p : Params). c.args.rows * p.wr) c.of.ensures.params

pub returns-clause-few : goal.returns-clause-few
returns-clause-few g c =
    let w = c.args.circuit.now in
    let wr : c.args.rows * c.of.result.wr ≡ c.args.rows * (params_of w).wr = ap (λ (p : Params). c.args.rows * p.wr) c.of.ensures.params in
    let count : c.args.rows * (params_of w).wr ≡ w.privates / (params_of w).wr * (params_of w).wr = ap (λ n. n * (params_of w).wr) c.requires.rows in
    omega (arith, wr, count, filled w.privates (params_of w).wr)
