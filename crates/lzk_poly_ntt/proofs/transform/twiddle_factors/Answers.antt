use Rattle.std.proofs.Common.{◌≡◌, ℕ, ◌+◌, ◌-◌, ◌*◌, ◌^◌, ◌%◌, ◌<◌, ◌≤◌, suc, length, ap, ◌∙◌, arith, sym, add-one, refl, subst, get_or-set_other}
use Rattle.std.proofs.Math.ListN.{length-set}
use Rattle.lzk_field.specs.Sums.{entry, power}
use Rattle.lzk_poly_ntt.proofs.Writes.{read_at, written_double, written_top}
use Rattle.std.proofs.lemmas.Nat.{one_shl}
use Rattle.lzk_poly_ntt.specs.Transform.{AreTwiddles}
use Rattle.lzk_poly_ntt.proofs.RootLaws.{twice_power}
use Rattle.lzk_poly_ntt.proofs.Twiddles.{twiddles_of_bits}
use Rattle.lzk_poly_ntt.proofs.transform.twiddle_factors.Goals as goal

pub loop-i-init : goal.loop-i-init
loop-i-init g c =
    let bits = c.args.bits in
    let k = bits - 1 in
    let again : suc k ≡ bits = omega arith in
    let half : (1 * 2 ^ k) % 18446744073709551616 ≡ 2 ^ k = one_shl k 64 (omega arith) in
    let all : c.in_ok-list.list.len ≡ 2 ^ bits = c.in_ok-list.ensures.len ∙ one_shl bits 64 (omega arith) in
    let double : 2 ^ bits ≡ 2 ^ k + 2 ^ k = ap (λ n. 2 ^ n) (sym again) ∙ twice_power k in
    record {
      size = omega (arith, all, double, half, c.in_ok-list.list.ok);
      next = c.one-power.ensures;
      top = λ k h. absurd (omega arith);
    }

pub returns : goal.returns
returns g c =
    let o = g.F.Field.ops in
    let bits = c.args.bits in
    let k = bits - 1 in
    let inv = c.loop-k.invariant in
    let again : suc k ≡ bits = omega arith in
    let half : (1 * 2 ^ k) % 18446744073709551616 ≡ 2 ^ k = one_shl k 64 (omega arith) in
    let double : 2 ^ bits ≡ 2 ^ k + 2 ^ k = ap (λ n. 2 ^ n) (sym again) ∙ twice_power k in (
      omega (arith, inv.size, double, half),
      twiddles_of_bits o g.F.Field.laws.ring bits ((1 * 2 ^ k) % 18446744073709551616) c.args.root c.loop-k.list.items (omega arith) half inv.top (λ i p q. inv.below i p (omega arith) q),
    )

pub loop-i-preserved : goal.loop-i-preserved
loop-i-preserved g c =
    let o = g.F.Field.ops in
    let half = (1 * 2 ^ (c.args.bits - 1)) % 18446744073709551616 in
    let list = c.loop-i.list.items in
    let i = c.loop-i.i in
    let x = c.new-in-loop-i.result in
    let root = c.args.root in
    let inv = c.loop-i.invariant in
    let inside : half + i < length list = omega (arith, inv.size, c.loop-i-test.true) in
    record {
      size = length-set list (half + i) x ∙ inv.size;
      next = rw add-one (c.mul-power.ensures ∙ ap (λ w. o.times w root) inv.next);
      top = written_top o (λ k y. y ≡ power o root k) half list i x inside inv.top (c.new-in-loop-i.ensures ∙ inv.next);
    }

pub loop-k-init : goal.loop-k-init
loop-k-init g c =
    let inv = c.loop-i.invariant in
    record { size = inv.size; top = λ k h. inv.top k (omega (arith, h, c.loop-i-test.false)); below = λ k p q l. absurd (omega (arith, q, l)) }

pub loop-k-preserved : goal.loop-k-preserved
loop-k-preserved g c =
    let o = g.F.Field.ops in
    let half = (1 * 2 ^ (c.args.bits - 1)) % 18446744073709551616 in
    let list = c.loop-k.list.items in
    let k = c.loop-k.k - 1 in
    let x = c.index.result.now in
    let inv = c.loop-k.invariant in
    let some : 1 ≤ k = omega (arith, c.loop-k-test.true) in
    let low : k < half = omega (arith, c.loop-k.auto.k, some) in
    let read : x ≡ entry o list (2 * k) = read_at o list (2 * k) x (omega (arith, inv.size, low)) c.index.ensures in
    record {
      size = length-set list k x ∙ inv.size;
      top = λ j h. get_or-set_other list k (half + j) x o.zero (omega (arith, low)) ∙ inv.top j h;
      below = λ j p q l. written_double o half k list x inv.size some low read (λ i q l. inv.below i (omega (arith, q)) (omega (arith, q)) l) j q l;
    }

pub index_mut-requires : goal.index_mut-requires
index_mut-requires g c = omega (arith, c.loop-i.invariant.size, c.loop-i-test.true, c.loop-i.list.ok)

pub index-requires : goal.index-requires
index-requires g c = omega (arith, c.loop-k.invariant.size, c.loop-k.auto.k, c.loop-k-test.true, c.loop-k.list.ok)

pub index_mut-requires-in-loop-k : goal.index_mut-requires-in-loop-k
index_mut-requires-in-loop-k g c = omega (arith, c.loop-k.invariant.size, c.loop-k.auto.k, c.loop-k-test.true, c.loop-k.list.ok)

pub returns-then-bits-eq0 : goal.returns-then-bits-eq0
returns-then-bits-eq0 g c =
    let bits = c.args.bits in
    let items = c.in_ok-list.list.items in
    let all : c.in_ok-list.list.len ≡ 2 ^ bits = c.in_ok-list.ensures.len ∙ one_shl bits 64 (omega (arith, c.requires)) in
    (omega (arith, all, c.in_ok-list.list.ok), subst (λ (b : ℕ). AreTwiddles g.F.Field.ops b c.args.root items) (sym c.if-bits-eq0.true) refl)
