use Rattle.std.proofs.Common.{◌≡◌, ◌∙◌, ◌++◌, ◌-◌, [], ℕ, zero, suc, List, take, refl, ap, arith}
use Rattle.std.proofs.Math.ListN.{replicate}
use Rattle.lzk_circuit.proofs.FaultLaws.{not-if-ok}
use Rattle.lzk_circuit.proofs.values.zeros.Goals as goal

-- an empty list that was filled up
filled : {A : Type 0} (new old : List A) (n len : ℕ) (v z : A) → new ≡ take n old ++ replicate (n - len) v → old ≡ [] → len ≡ 0 → v ≡ z → new ≡ replicate n z
filled new old n len v z e none no_len is =
    let all : n - len ≡ n = omega (arith, no_len) in
    e ∙ ap (λ (ys : List _). take n ys ++ replicate (n - len) v) none ∙ ap (λ (ys : List _). ys ++ replicate (n - len) v) (nothing n) ∙ ap (λ (k : ℕ). replicate k v) all ∙ ap (replicate n) is
  where
    nothing : {A : Type 0} (k : ℕ) → ◌≡◌ {A = List A} (take k []) []
    nothing zero = refl
    nothing (suc k) = refl

pub returns-in_err-resize : goal.returns-in_err-resize
returns-in_err-resize g c = not-if-ok _ c.from_residual.result _ c.from_residual.ensures.1

pub returns : goal.returns
returns g c = filled c.resize.new.self.items c.new-list.result.items c.args.count _ c.zero.result g.F.Field.ops.zero c.in_ok-resize.ensures.items c.new-list.ensures.items c.new-list.ensures.len c.zero.ensures
