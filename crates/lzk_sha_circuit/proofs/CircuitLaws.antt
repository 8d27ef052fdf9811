-- The two layers are valid, and the first wire of the inner one is the one.
use Rattle.std.specs.Prelude.{ℕ, ◌+◌, None, List, [], ◌∷◌}
use Rattle.std.proofs.Common.{arith, subst}
use Rattle.lzk_field.specs.Ring.{Ops}
use Rattle.lzk_circuit.specs.declared.layer.Term.{Term}
use Rattle.lzk_circuit.specs.declared.layer.Layer.{Layer}
use Rattle.lzk_circuit.specs.Valid.{AreTerms, AreLayers}
use Rattle.lzk_circuit_reduce.specs.Reduced.{HaveOnes}
use Rattle.lzk_sha_circuit.specs.Places.{Places, IsPlaced}
use Rattle.lzk_sha_circuit.specs.Layers.{IsBuilt, input_count, inner_count, inner_rows, output_rows}
use Rattle.lzk_sha_circuit.proofs.InnerValues.{length-inner_rows, pass_at}
use Rattle.lzk_sha_circuit.proofs.CircuitValues.{length-output_rows}
use Rattle.lzk_sha_circuit.proofs.Sizes.{size-inner_rows, size-output_rows}

abbrev pub two_layers : {X : Type 0} → Places → List (Term X) → List (Term X) → List (Layer X)
two_layers given t0 t1 = record { wires = given.inputs + 6568; terms = t0 } ∷ record { wires = inner_count given; terms = t1 } ∷ []

module _ {X : Type 0} (o : Ops X) (element : ℕ → X) (given : Places) (ok : IsPlaced given) (t0 t1 : List (Term X))
    (outer_built : IsBuilt o (inner_count given) (output_rows o element given) t0) (inner_built : IsBuilt o (input_count given) (inner_rows o element given) t1) where
  pub layers_valid : AreLayers o (input_count given) (two_layers given t0 t1)
  layers_valid =
      let few = ok.few in
      let c0 = outer_built.count in
      let c1 = inner_built.count in
      let s0 = size-output_rows o element given in
      let s1 = size-inner_rows o element given in (
        record {
          some = omega arith;
          most = omega (arith, few);
          wires = omega (arith, few);
          terms = omega (arith, few, c0, c1, s0, s1);
          each = subst (λ n. AreTerms o n (inner_count given) None t0) (length-output_rows o element given) outer_built.ordered;
        },
        (
          record {
            some = omega arith;
            most = omega (arith, few);
            wires = omega (arith, few);
            terms = omega (arith, few, c1, s1);
            each = subst (λ n. AreTerms o n (input_count given) None t1) (length-inner_rows o element given) inner_built.ordered;
          },
          tt,
        ),
      )

  pub layers_ones : HaveOnes o (two_layers given t0 t1)
  layers_ones =
      let all = length-inner_rows o element given in
      (inner_built.one (omega (arith, all)) (pass_at o element given 0 (omega arith)), tt)
