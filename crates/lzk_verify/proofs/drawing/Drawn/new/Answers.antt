use Rattle.std.proofs.Common.{subst, arith}
use Rattle.lzk_layout.specs.declared.params.Params.{Params}
use Rattle.lzk_accept.specs.Challenges as accept
use Rattle.lzk_verify.proofs.drawing.Drawn.new.Goals as goal

pub returns-clause-room : goal.returns-clause-room
returns-clause-room g c = record {
  script = c.in-Ok-new-2.ensures.shape;
  challenges = subst (λ (p : Params). accept.HasShape p c.in-Ok-new.challenges) c.of-params.ensures.params c.in-Ok-new.ensures.shape;
  columns = c.in-Ok.ensures.count;
}

pub returns-clause-opened : goal.returns-clause-opened
returns-clause-opened g c =
    let opened = c.in-Ok.ensures.opened in
    record { ascending = opened.ascending; below = λ k h. omega (arith, opened.below k h); some = opened.some }
