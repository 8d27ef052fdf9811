use Rattle.std.proofs.Common.{◌≡◌, ◌-◌, take, drop, ◌∙◌, arith}
use Rattle.std.proofs.lemmas.List.{length-take-le, length-drop}
use Rattle.lzk_profile.specs.Profile.{opened_count}
use Rattle.lzk_verify.proofs.sent.head_of.Goals as goal

pub offset_bounds-sent-head_start : goal.offset_bounds-sent-head_start
offset_bounds-sent-head_start g c = omega (arith, c.head_start.ensures, c.args.sent.now.all)

pub slice_bounds-result-count : goal.slice_bounds-result-count
slice_bounds-result-count g c = omega (arith, c.head_start.ensures, c.tail_start.ensures)

pub returns-clause-value : goal.returns-clause-value
returns-clause-value g c =
    let size : c.tail_start.result - c.head_start.result ≡ opened_count = omega (arith, c.head_start.ensures, c.tail_start.ensures) in
    λ i. take (size i) (drop (c.head_start.ensures i) c.args.sent.now.elements.now)

pub returns-clause-length : goal.returns-clause-length
returns-clause-length g c =
    let all = c.args.sent.now.elements.now in
    let size : c.tail_start.result - c.head_start.result ≡ opened_count = omega (arith, c.head_start.ensures, c.tail_start.ensures) in
    length-take-le (c.tail_start.result - c.head_start.result) (drop c.head_start.result all)
    (omega (arith, length-drop c.head_start.result all, c.head_start.ensures, c.tail_start.ensures, c.args.sent.now.all)) ∙ size
