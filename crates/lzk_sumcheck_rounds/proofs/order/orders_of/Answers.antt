use Rattle.std.proofs.Common.{◌≡◌, length, ap, arith}
use Rattle.lzk_layout.specs.Places.{depth}
use Rattle.lzk_sumcheck_rounds.proofs.OrderLaws.{orders_more, orders_whole}
use Rattle.std.proofs.lemmas.Result.{IfOk-from_err}
use Rattle.lzk_sumcheck_rounds.proofs.order.orders_of.Goals as goal

pub loop-l-init : goal.loop-l-init
loop-l-init g c = record {
  so_far = record { count = ap length c.in_ok-list.ensures.items; each = λ k h. absurd (omega (arith, h)) };
  room = omega (arith, c.in_ok-list.ensures.capacity, c.depth-depth.ensures.depth);
}

pub loop-l-preserved : goal.loop-l-preserved
loop-l-preserved g c =
    record {
      so_far = orders_more c.args.circuit.now c.loop-l.l c.loop-l.list.items _ c.in_ok-order_at.field-0 c.loop-l.invariant.so_far c.push_reserved.ensures.items c.in_ok-order_at.ensures;
      room = omega (arith, c.loop-l.invariant.room, c.push_reserved.ensures.capacity);
    }

pub push_reserved-requires : goal.push_reserved-requires
push_reserved-requires g c =
    omega (arith, c.loop-l.invariant.so_far.count, c.loop-l.invariant.room, c.depth-depth.ensures.depth, c.loop-l-test.true, c.loop-l.list.ok.0)

pub returns : goal.returns
returns g c =
    let w = c.args.circuit.now in
    let all : c.loop-l.l ≡ depth w = omega (arith, c.depth-depth.ensures.depth, c.loop-l-test.false, c.loop-l.auto.l-end) in
    orders_whole w c.loop-l.l c.loop-l.list.items c.loop-l.invariant.so_far all

pub returns-in_err-list : goal.returns-in_err-list
returns-in_err-list g c = IfOk-from_err _ _ c.from_residual.ensures.0

pub returns-in_err-order_at : goal.returns-in_err-order_at
returns-in_err-order_at g c = IfOk-from_err _ _ c.from_residual-in_err-order_at.ensures.0
