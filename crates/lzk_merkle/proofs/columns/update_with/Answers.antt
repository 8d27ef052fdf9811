use Rattle.std.proofs.Common.{◌≡◌, ◌++◌, List, ℕ, length, drop, replicate, ap, ◌∙◌, subst, arith}
use Rattle.std.proofs.lemmas.List.{take_at}
use Rattle.sha2.specs.Hashers.{Holds256}
use Rattle.lzk_field.proofs.ByteForms.{length-bytes_of}
use Rattle.lzk_merkle.proofs.columns.update_with.Goals as goal

pub slice_bounds-buffer-end : goal.slice_bounds-buffer-end
slice_bounds-buffer-end g c = omega (arith, c.BYTES.ensures ∙ g.F.Field.coded_bytes, g.F.Field.laws.numbers.few_bytes)

pub returns : goal.returns
returns g c m held =
    let f = g.F.Field in
    let bytes = c.to_le.new.out in
    let rest : List ℕ = drop c.BYTES.result (replicate 16 0) in
    let long : length bytes ≡ c.BYTES-2.result = omega (arith, ap length c.to_le.ensures.bytes, length-bytes_of f.coding.bytes (f.coding.number c.args.x), c.BYTES-2.ensures ∙ f.coded_bytes) in
    subst (λ (xs : List ℕ). Holds256 c.update.new.self (m ++ xs)) (take_at bytes rest c.BYTES-2.result long ∙ c.to_le.ensures.bytes) (c.update.ensures m held)
