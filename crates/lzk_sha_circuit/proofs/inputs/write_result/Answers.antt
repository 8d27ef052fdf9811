use Rattle.std.proofs.Common.{◌≡◌, ◌+◌, ◌%◌, ◌^◌, ◌++◌, ◌∙◌, [], ℕ, map, slice_index, sym, ap, subst, arith, append-nil}
use Rattle.std.specs.List.{range_with_len}
use Rattle.std.proofs.lemmas.Result.{IfOk-from_err}
use Rattle.lzk_goldilocks.specs.Elements.{of_number}
use Rattle.lzk_sha_circuit.specs.Inputs.{final_list}
use Rattle.lzk_sha_circuit.proofs.Written.{entry_more}
use Rattle.lzk_sha_circuit.proofs.Filled.{final_more}
use Rattle.lzk_sha_circuit.proofs.inputs.write_result.Goals as goal

pub loop-i-init : goal.loop-i-init
unfolding final_list
loop-i-init c = record { words = c.new-public.ensures.items; bits = sym (append-nil c.args.bits.now.items) }

pub loop-i-preserved : goal.loop-i-preserved
loop-i-preserved c =
    let i = c.loop-i.i in
    let v = c.args.variables in
    let sum : c.from.result + c.from-in-loop-i.result ≡ slice_index c.args.state i + slice_index v i = λ j. c.from.ensures j + c.from-in-loop-i.ensures j in
    let word = c.of_word.ensures ∙ ap of_number (c.from-in-loop-i-2.ensures ∙ c.in_ok-word.ensures.word ∙ ap (λ n. n % 2 ^ 32) sum) in
    record {
      words = entry_more (λ k. of_number ((slice_index c.args.state k + slice_index v k) % 2 ^ 32)) [] c.loop-i.public.items c.push.new.self.items c.of_word.result i c.loop-i.invariant.words c.in_ok-push.ensures.items word;
      bits = final_more of_number c.args.state v c.args.bits.now.items c.loop-i.bits.items c.write_sum.new.bits.items i (c.from.result + c.from-in-loop-i.result) c.loop-i.invariant.bits c.in_ok-word.ensures.bits sum;
    }

pub bounds-state-i : goal.bounds-state-i
bounds-state-i c = c.loop-i-test.true

pub bounds-variables-i : goal.bounds-variables-i
bounds-variables-i c = c.loop-i-test.true

pub returns-in_err-word-clause-words : goal.returns-in_err-word-clause-words
returns-in_err-word-clause-words c = IfOk-from_err _ _ c.from_residual.ensures.0

pub returns-in_err-word-clause-bits : goal.returns-in_err-word-clause-bits
returns-in_err-word-clause-bits c = IfOk-from_err _ _ c.from_residual.ensures.0

pub returns-in_err-push-clause-words : goal.returns-in_err-push-clause-words
returns-in_err-push-clause-words c = IfOk-from_err _ _ c.from_residual-in_err-push.ensures.0

pub returns-in_err-push-clause-bits : goal.returns-in_err-push-clause-bits
returns-in_err-push-clause-bits c = IfOk-from_err _ _ c.from_residual-in_err-push.ensures.0

pub returns-clause-words : goal.returns-clause-words
returns-clause-words c =
    let end : c.loop-i.i ≡ 8 = omega (arith, c.loop-i-test.false, c.loop-i.auto.i-end) in
    subst (λ (n : ℕ). c.loop-i.public.items ≡ map (λ i. of_number ((slice_index c.args.state i + slice_index c.args.variables i) % 2 ^ 32)) (range_with_len 0 n)) end c.loop-i.invariant.words

pub returns-clause-bits : goal.returns-clause-bits
returns-clause-bits c =
    let end : c.loop-i.i ≡ 8 = omega (arith, c.loop-i-test.false, c.loop-i.auto.i-end) in
    subst (λ (n : ℕ). c.loop-i.bits.items ≡ c.args.bits.now.items ++ final_list of_number c.args.state c.args.variables n) end c.loop-i.invariant.bits
