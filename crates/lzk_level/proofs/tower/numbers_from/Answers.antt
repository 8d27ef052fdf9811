use Rattle.std.proofs.Common.{◌∙◌, ◌≡◌, ◌+◌, ap, arith, length, inl, inr, [], ◌∷◌}
use Rattle.std.proofs.lemmas.Bool.{cases_lt}
use Rattle.std.proofs.lemmas.List.{length-append, get_or_append_left, get_or_push}
use Rattle.std.proofs.lemmas.Result.{IfOk-from_err}
use Rattle.lzk_circuit_reduce.specs.Renumbering.{at}
use Rattle.lzk_level.proofs.tower.numbers_from.Goals as goal

pub returns-in_err-numbers-clause-count : goal.returns-in_err-numbers-clause-count
returns-in_err-numbers-clause-count c = IfOk-from_err _ _ c.from_residual.ensures.0

pub returns-in_err-numbers-clause-each : goal.returns-in_err-numbers-clause-each
returns-in_err-numbers-clause-each c k l = IfOk-from_err _ _ c.from_residual.ensures.0

pub loop-i-init : goal.loop-i-init
loop-i-init c = record { count = ap length c.in_ok-numbers.ensures.items; each = λ k l. absurd (omega (arith, l)); room = omega (arith, c.in_ok-numbers.ensures.capacity) }

pub overflow_add-first : goal.overflow_add-first
overflow_add-first c = omega (arith, c.requires, c.loop-i-test.true)

pub push_reserved-requires : goal.push_reserved-requires
push_reserved-requires c = omega (arith, c.loop-i.invariant.count, c.loop-i.invariant.room, c.loop-i-test.true, c.loop-i.numbers.ok.0)

pub loop-i-preserved : goal.loop-i-preserved
loop-i-preserved c =
    let old = c.loop-i.numbers.items in
    let x = c.args.first + c.loop-i.i in
    let v = c.loop-i.invariant in
    let e = c.push_reserved.ensures.items in
    record {
      count = omega (arith, ap length e, length-append old (x ∷ []), v.count);
      each = λ k l. elim (cases_lt k c.loop-i.i) [
        | inl m ↦ ap (λ ns. at ns k) e ∙ get_or_append_left old (x ∷ []) 0 k (omega (arith, m, v.count)) ∙ v.each k m
        | inr m ↦
            let last : length old ≡ k = omega (arith, v.count, l, m) in
            ap (λ ns. at ns k) e ∙ get_or_push old x 0 k last ∙ omega (arith, l, m)
      ];
      room = omega (arith, v.room, c.push_reserved.ensures.capacity);
    }

pub returns-clause-count : goal.returns-clause-count
returns-clause-count c = omega (arith, c.loop-i.invariant.count, c.loop-i-test.false, c.loop-i.auto.i-end)

pub returns-clause-each : goal.returns-clause-each
returns-clause-each c k l = c.loop-i.invariant.each k (omega (arith, l, c.loop-i-test.false))
