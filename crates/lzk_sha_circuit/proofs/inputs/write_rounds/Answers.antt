use Rattle.std.proofs.Common.{◌≡◌, ◌++◌, ℕ, refl, sym, subst, arith, append-nil}
use Rattle.std.proofs.lemmas.Result.{IfOk-from_err}
use Rattle.sha2.specs.Sha256.{rounds}
use Rattle.lzk_goldilocks.specs.Elements.{of_number}
use Rattle.lzk_sha_circuit.specs.Inputs.{rounds_list}
use Rattle.lzk_sha_circuit.proofs.Filled.{rounds_more, variables_more}
use Rattle.lzk_sha_circuit.proofs.inputs.write_rounds.Goals as goal

pub loop-t-init : goal.loop-t-init
unfolding rounds_list rounds
loop-t-init c = record { variables = refl; bits = sym (append-nil c.args.bits.now.items) }

pub loop-t-preserved : goal.loop-t-preserved
loop-t-preserved c =
    let ws = c.args.words.now in
    let t = c.loop-t.t in
    record {
      variables = variables_more c.args.state ws c.loop-t.variables c.in_ok-next.next t _ _ c.in_ok-next.ensures.variables c.loop-t.invariant.variables refl refl;
      bits = rounds_more of_number c.args.state ws c.loop-t.variables c.args.bits.now.items c.loop-t.bits.items c.write_round.new.bits.items t _ _ c.loop-t.invariant.bits c.in_ok-next.ensures.bits c.loop-t.invariant.variables refl refl;
    }

pub bounds-t : goal.bounds-t
bounds-t c = c.loop-t-test.true

pub bounds-words-t : goal.bounds-words-t
bounds-words-t c = omega (arith, c.loop-t-test.true, c.requires)

pub returns-in_err-next-clause-variables : goal.returns-in_err-next-clause-variables
returns-in_err-next-clause-variables c = IfOk-from_err _ _ c.from_residual.ensures.0

pub returns-in_err-next-clause-bits : goal.returns-in_err-next-clause-bits
returns-in_err-next-clause-bits c = IfOk-from_err _ _ c.from_residual.ensures.0

pub returns-clause-variables : goal.returns-clause-variables
returns-clause-variables c =
    let end : c.loop-t.t ≡ 64 = omega (arith, c.loop-t-test.false, c.loop-t.auto.t-end) in
    subst (λ (n : ℕ). c.loop-t.variables ≡ rounds c.args.state c.args.words.now n) end c.loop-t.invariant.variables

pub returns-clause-bits : goal.returns-clause-bits
returns-clause-bits c =
    let end : c.loop-t.t ≡ 64 = omega (arith, c.loop-t-test.false, c.loop-t.auto.t-end) in
    subst (λ (n : ℕ). c.loop-t.bits.items ≡ c.args.bits.now.items ++ rounds_list of_number c.args.state c.args.words.now n) end c.loop-t.invariant.bits
