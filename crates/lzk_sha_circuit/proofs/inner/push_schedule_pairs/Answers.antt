use Rattle.std.proofs.Common.{◌+◌, ◌-◌, ◌*◌, ap, sym}
use Rattle.std.proofs.lemmas.Result.{on_ok_weaker}
use Rattle.lzk_goldilocks.specs.Elements.{ops, of_number}
use Rattle.lzk_sha_circuit.specs.Found.{places_of}
use Rattle.lzk_sha_circuit.specs.declared.entries.Word.TheVariants.{Schedule}
use Rattle.lzk_sha_circuit.specs.Layers.{Grows, input_count, pair_rows, schedule_pairs}
use Rattle.lzk_sha_circuit.proofs.Growth.{grows_two}
use Rattle.lzk_sha_circuit.proofs.Within.{length-pair_rows}
use Rattle.lzk_sha_circuit.proofs.inner.push_schedule_pairs.Goals as goal

pub returns : goal.returns
unfolding schedule_pairs
returns c =
    let given = places_of c.args.given.now in
    let t = c.args.round.t in
    let w = input_count given in
    let first = w + 64 * (t - 16) in
    let p = pair_rows ops of_number given (Schedule (t - 2)) 17 (Schedule (t - 2)) 19 in
    let q = pair_rows ops of_number given (Schedule (t - 15)) 7 (Schedule (t - 15)) 18 in
    let long = length-pair_rows ops of_number given (Schedule (t - 2)) 17 (Schedule (t - 2)) 19 in
    let mid = c.push_pairs.new.terms.items in
    let new = c.push_pairs-2.new.terms.items in
    on_ok_weaker c.push_pairs-2.result (λ (h : Grows ops w (first + 32) mid q new). grows_two ops w first (first + 32) c.args.terms.now.items mid new p q (ap (λ n. first + n) (sym long)) c.in_ok-push_pairs.ensures h) c.push_pairs-2.ensures
