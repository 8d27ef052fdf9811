use Rattle.std.proofs.Common.{◌≡◌, ◌+◌, ◌*◌, length, take, ap, sym, ◌∙◌, arith}
use Rattle.std.proofs.lemmas.List.{length-replicate, length-take-le}
use Rattle.std.proofs.lemmas.Result.{IfOk-from_err}
use Rattle.lzk_sumcheck_rounds.proofs.tables.Tables.new.Goals as goal

pub invariant_of-result : goal.invariant_of-result
invariant_of-result g c =
    let zero = g.F.Field.ops.zero in
    let n = c.args.places in
    let ls = c.in_ok-zeros.field-0.items in
    let fs = c.in_ok-zeros-2.field-0.items in
    let hs = c.in_ok-zeros-3.field-0.items in
    let rs = c.in_ok-zeros-4.field-0.items in
    let l : length ls ≡ n = ap length c.in_ok-zeros.ensures ∙ length-replicate n zero in
    let f : length fs ≡ n = ap length c.in_ok-zeros-2.ensures ∙ length-replicate n zero in
    let h : length hs ≡ n = ap length c.in_ok-zeros-3.ensures ∙ length-replicate n zero in
    let r : length rs ≡ n + 3 * 64 = ap length c.in_ok-zeros-4.ensures ∙ length-replicate (n + 3 * 64) zero in
    let a : length (take 1 ls) ≡ 1 = length-take-le 1 ls (omega (arith, l, c.requires.some)) in
    let b : length (take 1 fs) ≡ 1 = length-take-le 1 fs (omega (arith, f, c.requires.some)) in
    let d : length (take 1 hs) ≡ 1 = length-take-le 1 hs (omega (arith, h, c.requires.some)) in (
      record {
        pairs = omega arith;
        linear = omega (arith, l, c.requires.some);
        first = omega (arith, f, c.requires.some);
        second = omega (arith, h, c.requires.some);
        linear_places = l ∙ sym f;
        second_places = h ∙ sym f;
        rows_places = omega (arith, r, f);
        few = omega (arith, f, c.requires.few);
      },
      record {
        first = omega (arith, b);
        second = omega (arith, d);
        for_a = λ q. a ∙ sym d;
        for_b = λ q. a ∙ sym b;
        pairs = tt;
      },
    )

pub returns-clause-pairs : goal.returns-clause-pairs
returns-clause-pairs g c = c.in_ok-pairs_of_zeros.ensures

pub returns-clause-places : goal.returns-clause-places
returns-clause-places g c = ap length c.in_ok-zeros-2.ensures ∙ length-replicate c.args.places g.F.Field.ops.zero

pub returns-in_err-pairs_of_zeros-clause-pairs : goal.returns-in_err-pairs_of_zeros-clause-pairs
returns-in_err-pairs_of_zeros-clause-pairs g c = IfOk-from_err _ _ c.from_residual.ensures.0

pub returns-in_err-pairs_of_zeros-clause-places : goal.returns-in_err-pairs_of_zeros-clause-places
returns-in_err-pairs_of_zeros-clause-places g c = IfOk-from_err _ _ c.from_residual.ensures.0

pub returns-in_err-zeros-clause-pairs : goal.returns-in_err-zeros-clause-pairs
returns-in_err-zeros-clause-pairs g c = IfOk-from_err _ _ c.from_residual-in_err-zeros.ensures.0

pub returns-in_err-zeros-clause-places : goal.returns-in_err-zeros-clause-places
returns-in_err-zeros-clause-places g c = IfOk-from_err _ _ c.from_residual-in_err-zeros.ensures.0

pub returns-in_err-zeros-2-clause-pairs : goal.returns-in_err-zeros-2-clause-pairs
returns-in_err-zeros-2-clause-pairs g c = IfOk-from_err _ _ c.from_residual-in_err-zeros-2.ensures.0

pub returns-in_err-zeros-2-clause-places : goal.returns-in_err-zeros-2-clause-places
returns-in_err-zeros-2-clause-places g c = IfOk-from_err _ _ c.from_residual-in_err-zeros-2.ensures.0

pub returns-in_err-zeros-3-clause-pairs : goal.returns-in_err-zeros-3-clause-pairs
returns-in_err-zeros-3-clause-pairs g c = IfOk-from_err _ _ c.from_residual-in_err-zeros-3.ensures.0

pub returns-in_err-zeros-3-clause-places : goal.returns-in_err-zeros-3-clause-places
returns-in_err-zeros-3-clause-places g c = IfOk-from_err _ _ c.from_residual-in_err-zeros-3.ensures.0

pub returns-in_err-zeros-4-clause-pairs : goal.returns-in_err-zeros-4-clause-pairs
returns-in_err-zeros-4-clause-pairs g c = IfOk-from_err _ _ c.from_residual-in_err-zeros-4.ensures.0

pub returns-in_err-zeros-4-clause-places : goal.returns-in_err-zeros-4-clause-places
returns-in_err-zeros-4-clause-places g c = IfOk-from_err _ _ c.from_residual-in_err-zeros-4.ensures.0
