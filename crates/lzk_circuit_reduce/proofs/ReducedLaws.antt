-- What makes layers reduced.
use Rattle.std.specs.Prelude.{ℕ, List, [], ◌∷◌}
use Rattle.lzk_field.specs.Ring.{Ops}
use Rattle.lzk_circuit.specs.declared.layer.Layer.{Layer}
use Rattle.lzk_circuit_reduce.specs.Asserting.{AreUsedUnderWith, AreAllUsedWith, AreReducedWithUnder, IsReducedWith}
use Rattle.lzk_circuit_reduce.specs.Reduced.{HaveOnes, HaveOnesUnder, AreInnerDifferent, AreAllDifferent}
use Rattle.lzk_circuit_reduce.specs.Targets.{behind}

pub reduced-under : {A : Type 0} (o : Ops A) (above : Layer A) (ws : List (List ℕ)) (layers : List (Layer A)) → HaveOnesUnder o layers → AreAllDifferent layers → AreUsedUnderWith above ws layers → AreReducedWithUnder o above ws layers
reduced-under o above ws [] h d u = u
reduced-under o above ws (layer ∷ layers) (h, hs) (d, ds) (u, us) = (record { one = h; different = d; used = u }, reduced-under o layer (behind ws) layers hs ds us)

pub are-reduced : {A : Type 0} (o : Ops A) (ws : List (List ℕ)) (layers : List (Layer A)) → HaveOnes o layers → AreInnerDifferent layers → AreAllUsedWith ws layers → IsReducedWith o ws layers
are-reduced o ws [] h d u = u
are-reduced o ws (layer ∷ layers) h d u = reduced-under o layer ws layers h d u
