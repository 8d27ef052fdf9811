use Rattle.std.proofs.Common.{◌≡◌, ◌∙◌, ℕ, ◌+◌, ◌/◌, ◌≤◌, ap, sym, subst, arith, length}
use Rattle.lzk_circuit_reduce.specs.Rows.{IsRow, row_value}
use Rattle.lzk_circuit_reduce.proofs.RenumberLaws.{over-halves, nonzero-halves, value-of-term-halves, one-count}
use Rattle.lzk_circuit_reduce.proofs.renumber.+renumber.Goals as goal

halves-short : (row x y front back all : ℕ) → row ≤ x + y → x ≤ front → y ≤ back → front ≡ all / 2 → back + all / 2 ≡ all → row ≤ all
halves-short row x y front back all h i j e f = omega arith

half-within : (n : ℕ) → n / 2 ≤ n
half-within n = omega arith

pub returns-then-found : goal.returns-then-found
returns-then-found g t c = c.in-Ok.ensures.row c.if-found.true

pub in_order-requires-clause-terms : goal.in_order-requires-clause-terms
in_order-requires-clause-terms g t c κs within = c.requires.terms

pub in_order-requires-clause-nonzero : goal.in_order-requires-clause-nonzero
in_order-requires-clause-nonzero g t c κs within = c.requires.nonzero

pub split_at-requires : goal.split_at-requires
split_at-requires g t c = half-within (length c.args.terms.now)

pub renumber-requires-clause-terms : goal.renumber-requires-clause-terms
renumber-requires-clause-terms g t c κs within = (over-halves (length c.args.numbers.now) (length c.args.terms.now / 2) c.args.terms.now c.split_at.result.0.now c.split_at.result.1.now c.split_at.ensures.front c.split_at.ensures.back c.requires.terms).1

pub renumber-requires-clause-nonzero : goal.renumber-requires-clause-nonzero
renumber-requires-clause-nonzero g t c κs within = (nonzero-halves g.F.Field.ops (length c.args.terms.now / 2) c.args.terms.now c.split_at.result.0.now c.split_at.result.1.now c.split_at.ensures.front c.split_at.ensures.back c.requires.nonzero).1

pub renumber-requires-2-clause-terms : goal.renumber-requires-2-clause-terms
renumber-requires-2-clause-terms g t c κs within = (over-halves (length c.args.numbers.now) (length c.args.terms.now / 2) c.args.terms.now c.split_at.result.0.now c.split_at.result.1.now c.split_at.ensures.front c.split_at.ensures.back c.requires.terms).0

pub renumber-requires-2-clause-nonzero : goal.renumber-requires-2-clause-nonzero
renumber-requires-2-clause-nonzero g t c κs within = (nonzero-halves g.F.Field.ops (length c.args.terms.now / 2) c.args.terms.now c.split_at.result.0.now c.split_at.result.1.now c.split_at.ensures.front c.split_at.ensures.back c.requires.nonzero).0

pub returns : goal.returns
returns g t c =
    let o = g.F.Field.ops in
    let ts = c.args.terms.now in
    let half = length ts / 2 in
    let left = c.deref.ensures.value in
    let right = c.deref-2.ensures.value in
    let front = c.in-Ok-renumber-2.ensures in
    let back = c.in-Ok-renumber.ensures in
    let sum = c.in-Ok-sum.ensures in
    let two = c.in-Ok.ensures.two c.if-found.false in
    record {
      is = λ width n. sum.row width (subst (IsRow o width) (sym left) (front.is width n)) (subst (IsRow o width) (sym right) (back.is width n));
      value = λ old new h. sum.value new
          ∙ value-of-term-halves o g.F.Field.laws.ring old half ts c.split_at.result.0.now c.split_at.result.1.now (row_value o new c.deref.result.now) (row_value o new c.deref-2.result.now) c.split_at.ensures.front c.split_at.ensures.back
          (ap (row_value o new) left ∙ front.value old new h) (ap (row_value o new) right ∙ back.value old new h);
      short =
          halves-short (length c.in-Ok-sum.sum.items) (length c.deref.result.now) (length c.deref-2.result.now) (length c.split_at.result.0.now) (length c.split_at.result.1.now) (length ts)
          sum.short (omega (arith, ap length left, front.short)) (omega (arith, ap length right, back.short)) c.split_at.ensures.front_len c.split_at.ensures.back_len;
      one = λ one first. absurd (omega (arith, two, one-count o ts one));
    }
