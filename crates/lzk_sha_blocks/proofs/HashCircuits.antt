-- The blocks' circuits beside one another.
use Rattle.std.specs.Prelude.{◌≡◌, ℕ, ◌+◌, ◌-◌, ◌*◌, ◌<◌, ◌≤◌, ◌↔◌, List, length, map}
use Rattle.std.proofs.Common.{sym, ap, ◌∙◌, arith, inl, inr, subst, ext_get_or}
use Rattle.std.proofs.lemmas.Bool.{cases_lt}
use Rattle.std.proofs.lemmas.List.{length-map, get_or-map}
use Rattle.std.proofs.lemmas.List.FromFn.{length-map-range_with_len, get_or-map-range_with_len}
use Rattle.lzk_field.specs.Ring.{Ops}
use Rattle.lzk_field.specs.Sums.{entry}
use Rattle.lzk_circuit.specs.Wires.{inputs_of}
use Rattle.lzk_sha_circuit.specs.Outputs.{AreCompressing}
use Rattle.lzk_sha_blocks.specs.Hashed.{block_public, block_private, IsBlockSatisfied, AreBlocksSatisfied, AreHashing}
use Rattle.lzk_sha_blocks.specs.Layout.{blocks, held, private_count, given_count, block_places, public_wire, private_wire, public_wires, private_wires}
use Rattle.lzk_sha_blocks.proofs.LayoutLaws.{public_last, message_at, added_at}
use Rattle.lzk_sha_blocks.proofs.Steps.{private_entry, private_input, public_input}

module _ {A : Type 0} (o : Ops A) (element : ℕ → A) (len : ℕ) (inputs : List A) where
  -- one block more
  pub no_more : IsBlockSatisfied o element len inputs 0 ↔ AreBlocksSatisfied o element len inputs 1
  no_more = (λ h i lt. let e : 0 ≡ i = omega (arith, lt) in subst (IsBlockSatisfied o element len inputs) e h, λ h. h 0 (omega arith))

  pub one_more : (n : ℕ) → (AreBlocksSatisfied o element len inputs n × IsBlockSatisfied o element len inputs n) ↔ AreBlocksSatisfied o element len inputs (n + 1)
  one_more n = (
    λ (all, last) i lt. elim (cases_lt i n) [
      | inl less ↦ all i less
      | inr more ↦ let e : n ≡ i = omega (arith, lt, more) in subst (IsBlockSatisfied o element len inputs) e last
    ],
    λ h. (λ i lt. h i (omega (arith, lt)), h n (omega arith)),
  )

pub right_is : (p q r s : Type 0) → p ↔ (q × r) → r ↔ s → p ↔ (q × s)
right_is p q r s f g = (λ x. let (a, b) = f.0 x in (a, g.0 b), λ (a, b). f.1 (a, g.1 b))

pub both_ways : (p q r : Type 0) → p ↔ q → q ↔ r → p ↔ r
both_ways p q r f g = (λ x. g.0 (f.0 x), λ z. f.1 (g.1 z))

-- what holds where one thing and another do
pub joined : (whole before here all next : Type 0) → whole ↔ (before × here) → before ↔ all → (all × here) ↔ next → whole ↔ next
joined whole before here all next f g h = (λ w. let (b, x) = f.0 w in h.0 (g.0 b, x), λ n. let (a, x) = h.1 n in f.1 (g.1 a, x))

-- a message of one block: the block is the whole
module _ {A : Type 0} (o : Ops A) (len : ℕ) (few : len ≤ 55) (public private : List A) (short : length public ≡ 8) (long : length private ≡ private_count len) where
  pub first_public : block_public o len (inputs_of o public private) 0 ≡ public
  first_public =
      let inputs = inputs_of o public private in
      let n = length-map-range_with_len (public_wire len 0) 0 8 in
      let m = length-map (public_wires len 0) (entry o inputs) in
      ext_get_or o.zero (map (entry o inputs) (public_wires len 0)) public (m ∙ n ∙ sym short) (λ k lt.
      let inside : k < 8 = omega (arith, m, n, lt) in
      get_or-map (entry o inputs) (public_wires len 0) k 0 o.zero (omega (arith, n, inside))
      ∙ ap (entry o inputs) (get_or-map-range_with_len (public_wire len 0) 0 8 k k 0 inside (omega arith) ∙ public_last len 0 k (omega (arith, few)))
      ∙ public_input o len public private short k inside)

  pub first_private : block_private o len (inputs_of o public private) 0 ≡ private
  first_private =
      let inputs = inputs_of o public private in
      let n = length-map-range_with_len (private_wire len 0) 0 (given_count len 0 + 6376) in
      let m = length-map (private_wires len 0) (entry o inputs) in
      ext_get_or o.zero (map (entry o inputs) (private_wires len 0)) private (omega (arith, m, n, long, few)) (λ j lt.
      let inside : j < given_count len 0 + 6376 = omega (arith, m, n, lt) in
      private_entry o len public private short 0 j inside ∙ ap (entry o inputs) (here j) ∙ private_input o len public private short j) where
        here : (j : ℕ) → private_wire len 0 j ≡ 9 + j
        here j = elim (cases_lt j (8 * held len 0)) [
          | inl own ↦ let e : 9 + 512 * 0 + j ≡ 9 + j = omega arith in message_at len 0 j own ∙ e
          | inr past ↦ let e : 9 + (8 * len + 6384 * 0) + (j - given_count len 0) ≡ 9 + j = omega (arith, few, past) in added_at len 0 j (omega (arith, past)) ∙ e
        ]

  pub only_block : (element : ℕ → A) → AreCompressing o element (block_places len 0) public private ↔ AreHashing o element len public private
  only_block element =
      let one : 1 ≡ blocks len = omega (arith, few) in
      let inputs = inputs_of o public private in
      let first = no_more o element len inputs in
      let p = first_public in
      let q = first_private in (
        λ h. subst (AreBlocksSatisfied o element len inputs) one (first.0 (subst (λ (x : List A). AreCompressing o element (block_places len 0) x (block_private o len inputs 0)) (sym p) (subst (λ (x : List A). AreCompressing o element (block_places len 0) public x) (sym q) h))),
        λ h.
            subst (λ (x : List A). AreCompressing o element (block_places len 0) public x) q
            (subst (λ (x : List A). AreCompressing o element (block_places len 0) x (block_private o len inputs 0)) p (first.1 (subst (AreBlocksSatisfied o element len inputs) (sym one) h))),
      )
