use Rattle.std.proofs.Common.{◌≡◌, ap₂, take}
use Rattle.lzk_level.specs.Steps.{held_in, held_with, sum_ended, held_sum}
use Rattle.lzk_level.proofs.StepLaws.{ok-both}
use Rattle.lzk_level.proofs.maker.Maker.sum.Goals as goal

pub returns-clause-held : goal.returns-clause-held
returns-clause-held g c =
    let o = g.F.Field.ops in
    let m = held_in c.args.self.now in
    let n = c.sum_of.new.builder in
    let ps = c.sum_of.new.parts.items in
    ok-both c.sum_of.result (λ _. n ≡ (held_sum o m).nodes) (λ _. ps ≡ take m.now.begin m.parts) (λ _. held_with m n ps ≡ sum_ended o m) (λ _ e f. ap₂ (held_with m) e f) c.sum_of.ensures.nodes c.sum_of.ensures.parts

pub sum_of-requires-after_bounds : goal.sum_of-requires-after_bounds
sum_of-requires-after_bounds g c κs within = c.requires

pub returns-clause-value : goal.returns-clause-value
returns-clause-value g c = c.sum_of.ensures.value
