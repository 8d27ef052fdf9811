use Rattle.std.proofs.Common.{◌≡◌, ◌+◌, ◌*◌, ◌++◌, ℕ, ap, sym, arith, length, subst}
use Rattle.std.proofs.lemmas.Result.{on_ok_weaker}
use Rattle.lzk_goldilocks.specs.Elements.{ops, of_number}
use Rattle.lzk_sha_circuit.specs.Found.{places_of}
use Rattle.lzk_sha_circuit.specs.declared.entries.Word.TheVariants.{A, E}
use Rattle.lzk_sha_circuit.specs.Layers.{Grows, input_count, pair_rows, round_pairs}
use Rattle.lzk_sha_circuit.proofs.Growth.{grows_two}
use Rattle.lzk_sha_circuit.proofs.Within.{length-pair_rows}
use Rattle.lzk_sha_circuit.proofs.inner.push_round_pairs.Goals as goal

later : (a b : ℕ) → a + 9457 + b ≡ a + 6385 + 3072 + b
later a b = omega arith

next_to : (a n : ℕ) → n ≡ 32 → a + 64 ≡ a + 32 + n
next_to a n e = omega (arith, e)

pub returns : goal.returns
unfolding round_pairs
returns c =
    let given = places_of c.args.given.now in
    let t = c.args.round.t in
    let w = input_count given in
    let first = given.inputs + 9457 + 96 * t in
    let p = pair_rows ops of_number given (E (t + 3)) 6 (E (t + 3)) 11 in
    let q = pair_rows ops of_number given (A (t + 3)) 2 (A (t + 3)) 13 in
    let r = pair_rows ops of_number given (A (t + 3)) 0 (A (t + 2)) 0 in
    let long_p = length-pair_rows ops of_number given (E (t + 3)) 6 (E (t + 3)) 11 in
    let long_q = length-pair_rows ops of_number given (A (t + 3)) 2 (A (t + 3)) 13 in
    let next : first + 64 ≡ first + 32 + length q = next_to first (length q) long_q in
    let old = c.args.terms.now.items in
    let new = c.push_pairs-3.new.terms.items in
    let one = c.push_pairs.new.terms.items in
    let two = c.push_pairs-2.new.terms.items in
    on_ok_weaker c.push_pairs-3.result
    (λ (h : Grows ops w (first + 64) two r new).
    subst (λ (n : ℕ). Grows ops w n old (p ++ (q ++ r)) new) (later given.inputs (96 * t))
    (grows_two ops w first (first + 32) old one new p (q ++ r) (ap (λ n. first + n) (sym long_p)) c.in_ok-push_pairs.ensures (grows_two ops w (first + 32) (first + 64) one two new q r next c.in_ok-push_pairs-2.ensures h)))
    c.push_pairs-3.ensures
