use Rattle.std.proofs.Common.{◌≡◌, ◌-◌, ◌++◌, ◌∙◌, ap, sym, length, append-nil, arith}
use Rattle.lzk_demo.specs.Demo.{inputs_from}
use Rattle.lzk_demo.proofs.Written.{private_listed}
use Rattle.lzk_demo.proofs.coding.inputs.Goals as goal

pub loop-i-preserved : goal.loop-i-preserved
loop-i-preserved c = record {
  listed = private_listed c.args.n c.loop-i.i c.loop-i.list.items c.push_reserved.new.self.items (inputs_from 0 c.args.n) c.loop-i-test.true c.loop-i.invariant.listed c.push_reserved.ensures.items;
  count = omega (arith, c.push_reserved.ensures.len, c.push_reserved.new.self.ok.0, c.loop-i.list.ok.0, c.loop-i.invariant.count);
  room = omega (arith, c.push_reserved.ensures.capacity, c.loop-i.invariant.room);
}

pub push_reserved-requires : goal.push_reserved-requires
push_reserved-requires c = omega (arith, c.loop-i.list.ok.0, c.loop-i.invariant.count, c.loop-i.invariant.room, c.loop-i-test.true)

pub loop-i-init : goal.loop-i-init
loop-i-init c =
    let n = c.args.n in
    let all : n - 0 ≡ n = omega arith in
    record {
      listed = ap (λ xs. xs ++ inputs_from 0 (n - 0)) c.in-Ok.ensures.items ∙ ap (λ k. inputs_from 0 k) all;
      count = ap length c.in-Ok.ensures.items;
      room = omega (arith, c.in-Ok.ensures.capacity);
    }

pub returns : goal.returns
returns c =
    let i = c.loop-i.i in
    let list = c.loop-i.list.items in
    let none : 0 ≡ c.args.n - i = omega (arith, c.loop-i-test.false) in
    sym (append-nil list) ∙ ap (λ k. list ++ inputs_from i k) none ∙ c.loop-i.invariant.listed
