-- The degrees of all draws together, for any target: at most one and a layer's bits more than for the outputs.
use Rattle.lzk_profile.specs.Profile.{most_bits}
use Rattle.std.specs.Prelude.{◌≡◌, ℕ, ◌+◌, ◌*◌, ◌<◌, ◌≤◌, ◌==◌, cond, Bool, true, false}
use Rattle.std.proofs.Common.{zero, suc, refl, ap, ◌∙◌, arith}
use Rattle.std.proofs.lemmas.Bool.{eqb-true, ne_eqb}
use Rattle.lzk_field.specs.Ring.{Ops}
use Rattle.lzk_circuit.specs.Valid.{Wiring, IsValid}
use Rattle.lzk_layout.specs.Places.{depth, bits_under, output_bits}
use Rattle.lzk_layout.proofs.PlaceLaws.{within}
use Rattle.lzk_soundness.specs.Draws.Schedule.{firsts}
use Rattle.lzk_soundness.specs.Draws.Game.{Target}
use Rattle.lzk_soundness.specs.Draws.Game.Target.{outputs, assertions}
use Rattle.lzk_soundness.specs.Draws.Laws.{most, add_below, output_part, layer_part}
use Rattle.lzk_soundness.proofs.DrawsLaws.Most.{most_is}

below_plus : (n : ℕ) (f g : ℕ → ℕ) → add_below n (λ k. f k + g k) ≡ add_below n f + add_below n g
below_plus zero f g = refl
below_plus (suc n) f g = omega (arith, below_plus n f g)

-- no place below n is the one
none_below : (n l : ℕ) (at v : ℕ → ℕ) → ((k : ℕ) → k < n → l ≡ at k → ⊥) → add_below n (λ k. cond (l == at k) (v k) 0) ≤ 0
none_below zero l at v never = omega arith
none_below (suc n) l at v never =
    omega (arith, ap (λ (b : Bool). cond b (v n) 0) (ne_eqb l (at n) (never n (omega arith))), none_below n l at v (λ k h. never k (omega (arith, h))))

-- at most one place is the one
one_below : (n l most : ℕ) (at v : ℕ → ℕ) → ((j k : ℕ) → j < k → at j < at k) → ((k : ℕ) → k < n → v k ≤ most) → add_below n (λ k. cond (l == at k) (v k) 0) ≤ most
one_below zero l most at v up few = omega arith
one_below (suc n) l most at v up few = go (l == at n) refl (one_below n l most at v up (λ k h. few k (omega (arith, h))))
  where
    go : (b : Bool) → (l == at n) ≡ b → add_below n (λ k. cond (l == at k) (v k) 0) ≤ most → add_below n (λ k. cond (l == at k) (v k) 0) + cond b (v n) 0 ≤ most
    go true is rest =
        let here : l ≡ at n = eqb-true l (at n) is in
        omega (arith, none_below n l at v (λ k h same. (let less = up k n h in omega (arith, less, same, here))), few n (omega arith))
    go false is rest = omega (arith, rest)

module _ {A : Type 0} (o : Ops A) (c : Wiring A) (valid : IsValid o c) where
  few_bits : (k : ℕ) → k < depth c → bits_under c k ≤ most_bits
  few_bits k h = let w = within c o valid k h in w.bits

  abbrev plain : ℕ → ℕ
  plain k = firsts c + 4 * bits_under c k

  asserted_most : (l : ℕ) → output_part c (assertions l) ≤ output_bits c → most c (assertions l) ≤ most c outputs + (most_bits + 1)
  asserted_most l part =
      let n = depth c in
      let x : ℕ → ℕ = λ k. cond (l == k) 1 0 in
      let y : ℕ → ℕ = λ k. cond (l == suc k) (bits_under c k) 0 in
      let all : add_below n (layer_part c (assertions l)) ≡ add_below n plain + add_below n x + add_below n y =
      below_plus n (λ k. plain k + x k) y ∙ ap (λ (j : ℕ). j + add_below n y) (below_plus n plain x) in
      let one : add_below n x ≤ 1 = one_below n l 1 (λ k. k) (λ k. 1) (λ j k h. h) (λ k h. omega arith) in
      let two : add_below n y ≤ most_bits = one_below n l most_bits suc (bits_under c) (λ j k h. omega (arith, h)) few_bits in
      omega (arith, all, one, two, part, most_is c (assertions l), most_is c outputs)

  part_most : (l : ℕ) → output_part c (assertions l) ≤ output_bits c
  part_most zero = omega arith
  part_most (suc l) = omega arith

  pub most_most : (target : Target) → most c target ≤ most c outputs + (most_bits + 1)
  most_most outputs = omega arith
  most_most (assertions l) = asserted_most l (part_most l)
