use Rattle.lzk_goldilocks.specs.Elements.{ops}
use Rattle.lzk_demo.specs.Demo.{bit_of, differ, parity, alternating, demo_private}
use Rattle.lzk_demo.proofs.Values.{bit_pushed, odd_more, bits_end, odd_end, satisfied_by}
use Rattle.std.proofs.Common.{◌≡◌, ◌-◌, ap, ap₂, ◌∙◌, ◌++◌, ◌∷◌, [], arith, length, map, true, false}
use Rattle.lzk_demo.proofs.inputs.demo_inputs.Goals as goal

pub loop-preserved : goal.loop-preserved
loop-preserved c = record {
  same = bit_pushed c.args.n c.loop.counter c.loop.bit c.loop.private.items c.push_reserved.new.self.items (demo_private ops c.args.n) c.loop-test.true c.loop.invariant.same (c.push_reserved.ensures.items ∙ ap (λ x. c.loop.private.items ++ x ∷ []) c.bit_of.ensures);
  odd_so_far = odd_more c.args.n c.loop.counter c.loop.bit c.loop.odd c.differ-odd.result (parity (alternating true c.args.n)) c.loop-test.true c.loop.invariant.odd_so_far c.differ-odd.ensures;
  count = omega (arith, c.push_reserved.ensures.len, c.push_reserved.new.self.ok.0, c.loop.private.ok.0, c.loop.invariant.count);
  room = omega (arith, c.push_reserved.ensures.capacity, c.loop.invariant.room);
}

pub push_reserved-requires : goal.push_reserved-requires
push_reserved-requires c = omega (arith, c.loop.private.ok.0, c.loop.invariant.count, c.loop.invariant.room, c.loop-test.true)

pub returns-clause-value : goal.returns-clause-value
returns-clause-value c =
    satisfied_by c.args.n c.push.new.self.items c.loop.private.items c.new-public.result.items c.bit_of-2.result c.loop.odd c.requires c.new-public.ensures.items c.in-Ok-push.ensures.items c.bit_of-2.ensures
    (odd_end c.args.n c.loop.counter c.loop.bit c.loop.odd (parity (alternating true c.args.n)) c.loop-test.false c.loop.invariant.odd_so_far)
    (bits_end c.args.n c.loop.counter c.loop.bit c.loop.private.items (demo_private ops c.args.n) c.loop-test.false c.loop.invariant.same)

pub loop-init : goal.loop-init
loop-init c =
    let n = c.args.n in
    let all : n - 0 ≡ n = omega arith in
    record {
      same = ap (λ xs. xs ++ map (bit_of ops) (alternating true (n - 0))) c.in-Ok.ensures.items ∙ ap (λ k. map (bit_of ops) (alternating true k)) all;
      odd_so_far = ap (λ k. differ false (parity (alternating true k))) all;
      count = ap length c.in-Ok.ensures.items;
      room = omega (arith, c.in-Ok.ensures.capacity);
    }

pub returns-clause-public : goal.returns-clause-public
returns-clause-public c =
    let odd = odd_end c.args.n c.loop.counter c.loop.bit c.loop.odd (parity (alternating true c.args.n)) c.loop-test.false c.loop.invariant.odd_so_far in
    c.in-Ok-push.ensures.items ∙ ap₂ (λ xs x. xs ++ x ∷ []) c.new-public.ensures.items (c.bit_of-2.ensures ∙ ap (bit_of ops) odd)

pub returns-clause-private : goal.returns-clause-private
returns-clause-private c = bits_end c.args.n c.loop.counter c.loop.bit c.loop.private.items (demo_private ops c.args.n) c.loop-test.false c.loop.invariant.same
