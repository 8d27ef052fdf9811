use Rattle.std.proofs.Common.{◌++◌, ◌∙◌, sym, ap, append-nil}
use Rattle.std.specs.List.{flat_map}
use Rattle.std.proofs.lemmas.List.{take_all}
use Rattle.std.proofs.lemmas.Result.{IfOk-from_err}
use Rattle.lzk_goldilocks.specs.Elements.{of_number}
use Rattle.lzk_sha_circuit.specs.Inputs.{bit_list}
use Rattle.lzk_sha_circuit.proofs.Filled.{byte_more}
use Rattle.lzk_sha_circuit.proofs.inputs.write_message.Goals as goal

pub loop-byte-init : goal.loop-byte-init
loop-byte-init c = sym (append-nil c.args.bits.now.items)

pub returns-in_err-write_bits : goal.returns-in_err-write_bits
returns-in_err-write_bits c = IfOk-from_err _ _ c.from_residual.ensures.0

pub loop-byte-preserved : goal.loop-byte-preserved
loop-byte-preserved c =
    byte_more (bit_list of_number 8) c.args.message.now c.args.bits.now.items c.loop-byte.bits.items c.write_bits.new.bits.items c.loop-byte.byte-index c.from.result c.loop-byte-test.true
    c.loop-byte.invariant c.in_ok-write_bits.ensures c.from.ensures

pub returns : goal.returns
returns c = c.loop-byte.invariant ∙ ap (λ l. c.args.bits.now.items ++ flat_map (bit_list of_number 8) l) (take_all c.loop-byte.byte-index c.args.message.now c.loop-byte-test.false)
