-- A worked instance of a bluff, of each version: the circuit has one private input, which is its output, or is asserted to be 0, so that 0 satisfies it. The
-- prover commits to ones, which encode the input 1, and wins by draws of zeros.
use Rattle.lzk_profile.specs.Profile.{opened_count}
use Rattle.std.specs.Prelude.{◌≡◌, ◌⊎◌, ℕ, ◌+◌, ◌/◌, ◌%◌, ◌<◌, Bool, false, cond, None, List, [], ◌∷◌}
use Rattle.std.specs.List.{range_with_len}
use Rattle.std.proofs.Common.{zero, suc, inl, inr, refl, sym, ap, ◌∙◌, arith, subst}
use Rattle.std.proofs.lemmas.Bool.{false≢true, lt-ltb, le-ltb}
use Rattle.std.proofs.lemmas.List.FromFn.{get_or-map-range_with_len}
use Rattle.std.proofs.Math.Nat.{mod-lt}
use Rattle.lzk_field.specs.Coding.{Coding}
use Rattle.lzk_field.specs.Ring.{Ops, Laws}
use Rattle.lzk_field.specs.Sums.{minus, entry}
use Rattle.lzk_field.proofs.RingBasics.{times_zero}
use Rattle.lzk_field.proofs.Solve.{var, null, unit, ◌⊞◌, ◌⊟◌, ◌⊠◌, solve}
use Rattle.lzk_poly.specs.Polynomial.{eval}
use Rattle.lzk_poly.specs.Through.{values_of}
use Rattle.lzk_poly.proofs.Through.{extension-values_of, length-values_of}
use Rattle.lzk_soundness.proofs.ChanceLaws.Sets.{count-none}
use Rattle.lzk_circuit.specs.declared.layer.Term.{Term}
use Rattle.lzk_circuit.specs.declared.layer.Layer.{Layer}
use Rattle.lzk_circuit.specs.Valid.{Wiring, IsValid, MayStand}
use Rattle.lzk_circuit.specs.Wires.{coef, wire, inputs_of}
use Rattle.lzk_circuit.specs.Checks.{asserted, IsSatisfied}
use Rattle.lzk_layout.specs.declared.params.Params.{Params}
use Rattle.lzk_layout.specs.Sizes.{AreBounded, params_of, place_of}
use Rattle.lzk_layout.proofs.SizeLaws.{params_bounded}
use Rattle.lzk_ligero_answers.proofs.PassLaws.{apart}
use Rattle.lzk_soundness.specs.Extract.Extraction.{decoded, extracted}
use Rattle.lzk_soundness.proofs.ExtractLaws.Decoding.{near_outside, decoding_unique}
use Rattle.lzk_soundness.specs.Worked.Zeros.{zeros_sent, ones_table, HasZeroMasks, sees_zeros}
use Rattle.lzk_soundness.specs.Worked.Laws.{SomeBluff}
use Rattle.lzk_soundness.proofs.WorkedLaws.Example.{zeros_player, zeros_counted}

module _ {A : Type 0} (o : Ops A) (e : Coding A) (laws : Laws o e.size e.number e.element e.bytes) where
  -- the one term multiplies the one and the input, by any coefficient
  abbrev term : A → Term A
  term weight = record { g = 0; a = 0; b = 1; coef = weight }

  -- what is checked of an input
  abbrev check_of : A → A → A
  check_of weight x = o.plus (wire o (coef o (term weight ∷ [])) (o.one ∷ x ∷ []) 0) (asserted o (term weight ∷ []) (o.one ∷ x ∷ []) 0)

  -- by the coefficient 1 the output is the input
  output_is : (x : A) → check_of o.one x ≡ x
  unfolding wire
  output_is x =
      let X = var 0 in
      let I = var 1 in
      solve o laws.ring (x ∷ o.inverse o.one ∷ [])
      (((null ⊞ ((null ⊞ ((null ⊠ unit) ⊠ unit)) ⊞ ((unit ⊠ unit) ⊠ X))) ⊞ ((null ⊞ ((null ⊠ X) ⊠ unit)) ⊞ ((null ⊠ X) ⊠ X)))
      ⊞ ((null ⊞ ((null ⊞ ((null ⊠ unit) ⊠ unit)) ⊞ (((unit ⊟ unit ⊠ I) ⊠ unit) ⊠ X))) ⊞ ((null ⊞ ((null ⊠ X) ⊠ unit)) ⊞ ((null ⊠ X) ⊠ X))))
      (X ⊞ (unit ⊟ unit ⊠ I) ⊠ X) refl
      ∙ ap (λ y. o.plus x (o.times (minus o o.one y) x)) (laws.field.times_inverse o.one laws.field.one_not_zero)
      ∙ solve o laws.ring (x ∷ []) (X ⊞ (unit ⊟ unit) ⊠ X) X refl

  -- by the coefficient 0, that of an assertion, the input is asserted to be 0
  asserted_is : (x : A) → check_of o.zero x ≡ x
  unfolding wire
  asserted_is x =
      let X = var 0 in
      let I = var 1 in
      solve o laws.ring (x ∷ o.inverse o.zero ∷ [])
      (((null ⊞ ((null ⊞ ((null ⊠ unit) ⊠ unit)) ⊞ ((null ⊠ unit) ⊠ X))) ⊞ ((null ⊞ ((null ⊠ X) ⊠ unit)) ⊞ ((null ⊠ X) ⊠ X)))
      ⊞ ((null ⊞ ((null ⊞ ((null ⊠ unit) ⊠ unit)) ⊞ (((unit ⊟ null ⊠ I) ⊠ unit) ⊠ X))) ⊞ ((null ⊞ ((null ⊠ X) ⊠ unit)) ⊞ ((null ⊠ X) ⊠ X))))
      X refl

  one_is : (t : A) → eval o (o.one ∷ []) t ≡ o.one
  one_is t = ap (o.plus o.one) (times_zero o laws.ring t) ∙ laws.ring.plus_zero o.one

  module _ (number : ℕ) (weight : A) (known : (number ≡ 1) ⊎ (number ≡ 2)) (stands : MayStand o number None (term weight)) (check : (x : A) → check_of weight x ≡ x) where
    abbrev layer : Layer A
    layer = record { wires = 1; terms = term weight ∷ [] }

    abbrev circuit : Wiring A
    circuit = record { version = number; publics = 0; privates = 1; layers = layer ∷ [] }

    valid : IsValid o circuit
    valid = record {
      version = known;
      publics = omega arith;
      privates = omega arith;
      some = omega arith;
      depth = omega arith;
      layers = (
        record {
          some = omega arith;
          most = omega arith;
          wires = omega arith;
          terms = omega arith;
          each = (record { g = omega arith; a = omega arith; b = omega arith }, refl, tt);
          coefs = (stands, tt);
        },
        tt,
      );
    }

    satisfied : IsSatisfied o e.number (layer ∷ []) (inputs_of o [] (o.zero ∷ []))
    satisfied zero h = check o.zero
    satisfied (suc g) h = absurd (omega (arith, h))

    unsatisfied : IsSatisfied o e.number (layer ∷ []) (inputs_of o [] (o.one ∷ [])) → ⊥
    unsatisfied all = laws.field.one_not_zero (sym (check o.one) ∙ all 0 (omega arith))

    abbrev p : Params
    p = params_of circuit

    abbrev table : ℕ → ℕ → A
    table = ones_table o circuit

    abbrev ones : List A
    ones = values_of o e.element p.block (o.one ∷ [])

    masks : HasZeroMasks o table
    masks row column h = ap (λ (b : Bool). cond b o.zero o.one) (lt-ltb row 3 h)

    is_ones : AreBounded p → (i : ℕ) → decoded o e p (table (3 + i)) ≡ ones
    is_ones b i =
        decoding_unique o e laws p (table (3 + i)) ones b (length-values_of o e.element p.block (o.one ∷ []))
        (near_outside o e laws p (table (3 + i)) ones (λ j. false) p.block (omega (arith, count-none (λ (j : ℕ). false) (range_with_len 0 p.mcol) (λ j is. false≢true is)))
        (λ j h out.
        ap (λ (b : Bool). cond b o.zero o.one) (le-ltb (3 + i) 3 (omega arith))
        ∙ sym (extension-values_of o laws.ring laws.field e.element p.block (o.one ∷ []) (omega (arith, b.block)) (apart laws p b p.block (omega (arith, b.columns, b.dblock, b.block))) (p.dblock + j) ∙ one_is (e.element (p.dblock + j)))))

    value_is : AreBounded p → (k : ℕ) → entry o (decoded o e p (table (place_of p k).0)) (opened_count + (place_of p k).1) ≡ o.one
    value_is b k =
        let s = opened_count + k % p.wr in
        let inside : k % p.wr < p.wr = mod-lt k (omega (arith, b.wide)) in
        ap (λ xs. entry o xs s) (is_ones b (k / p.wr))
        ∙ get_or-map-range_with_len (λ j. eval o (o.one ∷ []) (e.element j)) 0 p.block s s o.zero (omega (arith, inside, b.block)) (omega arith)
        ∙ one_is (e.element s)

    encoded : extracted o e circuit table ≡ o.one ∷ []
    encoded = ap (λ x. x ∷ []) (value_is (params_bounded o circuit valid) 0)

    pub some_bluff : SomeBluff o e number
    some_bluff =
        let counts = zeros_counted o e laws circuit valid in
        record {
          circuit = circuit;
          version = refl;
          public = [];
          private = o.zero ∷ [];
          strategy = zeros_sent o circuit table;
          wins = sees_zeros e;
          bluff = record {
            player = zeros_player o e laws circuit [] table valid refl masks;
            unknowing = λ knows. unsatisfied (subst (λ private. IsSatisfied o e.number (layer ∷ []) (inputs_of o [] private)) encoded knows);
          };
          privates = refl;
          satisfied = satisfied;
          encoded = encoded;
          counted = omega (arith, counts.0, counts.1);
        }

pub plain_bluff : {A : Type 0} (o : Ops A) (e : Coding A) → Laws o e.size e.number e.element e.bytes → SomeBluff o e 1
plain_bluff o e laws =
    some_bluff o e laws 1 o.one (inl refl) (record { nonzero = λ _. laws.field.one_not_zero; apart = λ _. tt }) (output_is o e laws)

pub asserting_bluff : {A : Type 0} (o : Ops A) (e : Coding A) → Laws o e.size e.number e.element e.bytes → SomeBluff o e 2
asserting_bluff o e laws =
    some_bluff o e laws 2 o.zero (inr refl) (record { nonzero = λ one. absurd (omega (arith, one)); apart = λ _. tt }) (asserted_is o e laws)
