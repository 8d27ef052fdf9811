use Rattle.std.proofs.Common.{◌≡◌, ◌∷◌, [], ℕ, map, arith, subst}
use Rattle.std.specs.List.{range_with_len}
use Rattle.std.proofs.lemmas.List.FromFn.{length-map-range_with_len}
use Rattle.lzk_goldilocks.specs.Elements.{ops}
use Rattle.lzk_sha_circuit.specs.Layers.{Grows, pass_row}
use Rattle.lzk_sha_circuit.proofs.Growth.{grows_none, row_more, pushed}
use Rattle.lzk_sha_circuit.proofs.inner.push_inputs.Goals as goal

pub loop-k-init : goal.loop-k-init
loop-k-init c = grows_none ops c.args.count 0 c.args.terms.now.items

pub loop-k-preserved : goal.loop-k-preserved
loop-k-preserved c =
    let k = c.loop-k.k in
    let w = c.args.count in
    let mid = c.loop-k.terms.items in
    let new = c.push_row.new.terms.items in
    row_more ops (pass_row ops) w 0 k 0 k k c.args.terms.now.items mid new (omega arith) (omega arith) (length-map-range_with_len (pass_row ops) 0 k) c.loop-k.invariant
    (pushed ops w k mid new (record { coef = c.one.result; a = 0; b = k } ∷ []) (pass_row ops k) (λ j. record { coef = c.one.ensures j; a = 0; b = k } ∷ []) (omega arith, omega arith, tt) c.in_ok-push_row.ensures)

pub returns : goal.returns
returns c =
    let e : c.loop-k.k ≡ c.args.count = omega arith in
    subst (λ (n : ℕ). Grows ops c.args.count 0 c.args.terms.now.items (map (pass_row ops) (range_with_len 0 n)) c.loop-k.terms.items) e c.loop-k.invariant
