use Rattle.std.proofs.Common.{◌≡◌, List, [], ◌∷◌, ◌++◌, length, slice_index_or, sym, ap, ◌∙◌, subst, arith}
use Rattle.std.proofs.lemmas.Option.{get_or_from_slice_get, slice_get_within}
use Rattle.lzk_circuit.specs.Bits.{bits}
use Rattle.lzk_circuit.specs.Valid.{Wiring}
use Rattle.lzk_layout.specs.Places.{depth, bits_under}
use Rattle.lzk_sumcheck.specs.declared.script.LayerScript.{LayerScript}
use Rattle.lzk_sumcheck.specs.declared.script.Script.{Script}
use Rattle.lzk_sumcheck.specs.Script.{HasBits, HasShape}
use Rattle.lzk_tests_protocol.proofs.sumcheck.worked.one_layer_script.Goals as goal

-- a script whose one layer has the circuit's bits
one_layer : {A : Type 0} (c : Wiring A) (s : Script A) (layer : LayerScript A) (layers : List (LayerScript A)) (gamma : A) → HasShape c s → depth c ≡ 1 → layers ≡ layer ∷ [] → HasBits (bits_under c 0) layer → HasShape c (record { out_point = s.out_point; layers = layers; gamma = gamma })
one_layer {A} c s layer layers gamma shape one is few =
    subst (λ (xs : List (LayerScript A)). HasShape c (record { out_point = s.out_point; layers = xs; gamma = gamma })) (sym is)
    (record {
      out_point = shape.out_point;
      depth = sym one;
      layers = λ l x here.
          let first : l ≡ 0 = omega (arith, slice_get_within (layer ∷ []) l x here) in
          let same : layer ≡ x = sym (ap (λ k. slice_index_or (layer ∷ []) k layer) first) ∙ get_or_from_slice_get (layer ∷ []) l x layer here in
          subst (λ k. HasBits (bits_under c k) x) (sym first) (subst (HasBits (bits_under c 0)) same few);
    })

pub returns : goal.returns
returns g c =
    let w = c.args.circuit.now in
    let layer : LayerScript g.row.F.Denot = record { alpha = c.args.alpha; beta = c.zero.result; ra = c.new-2.result; rb = c.new-3.result } in
    let is = c.new-4.ensures ∙ c.in_ok-push.ensures.items ∙ ap (λ xs. xs ++ layer ∷ []) c.new-layers.ensures.items in
    let one : depth w ≡ 1 = omega (arith, c.depth.ensures.depth, c.if-depth-ne1.false) in
    let below : c.bits_of-bits.result ≡ bits_under w 0 = c.bits_of-bits.ensures.bits ∙ ap bits c.width.ensures in
    one_layer w c.in_ok-script.script layer c.new-4.result c.args.gamma c.in_ok-script.ensures.shape one is
    (record {
      ra = omega (arith, ap length c.new-2.ensures, c.len.ensures, c.if-len-bits.false, below);
      rb = omega (arith, ap length c.new-3.ensures, c.len-else-len-bits.ensures, c.if-len-bits-2.false, below);
    })
