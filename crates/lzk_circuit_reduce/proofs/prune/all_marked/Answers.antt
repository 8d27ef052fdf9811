use Rattle.std.proofs.Common.{◌≡◌, ◌<◌, ◌∙◌, ℕ, true, false, refl, ap, arith, length}
use Rattle.std.proofs.lemmas.Result.{IfOk-weaker}
use Rattle.lzk_circuit_reduce.specs.Marks.{is_marked}
use Rattle.lzk_circuit_reduce.proofs.prune.all_marked.Goals as goal

pub returns-clause-count : goal.returns-clause-count
returns-clause-count c =
    let new = c.resize.new.self in
    let count : length new.items ≡ c.args.count = omega (arith, new.ok.0, c.in-Ok.ensures.len) in
    IfOk-weaker c.with_places.result (λ all. all.marks ≡ new) (λ all. length all.marks.items ≡ c.args.count) (λ all e. ap (λ v. length v.items) e ∙ count) c.with_places.ensures

pub returns-clause-marks : goal.returns-clause-marks
returns-clause-marks c =
    IfOk-weaker c.with_places.result (λ all. all.marks ≡ c.resize.new.self) (λ all. (k : ℕ) → k < c.args.count → is_marked all.marks.items k ≡ true)
    (λ all e k l. ap (λ v. is_marked v.items k) e ∙ c.in-Ok.ensures.by_index.1 k false refl (omega (arith, c.new-marks.ensures.len)) l) c.with_places.ensures
