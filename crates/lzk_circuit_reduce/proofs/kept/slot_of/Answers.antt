use Rattle.std.proofs.Common.{◌≡◌, ◌∙◌, ◌*◌, ◌/◌, ◌<◌, ◌≤◌, ℕ, ap, arith}
use Rattle.std.proofs.lemmas.Nat.{mul-add-lt}
use Rattle.lzk_circuit_reduce.proofs.kept.slot_of.Goals as goal

-- the high half of a 64-bit hash
high : (h x : ℕ) → h < 18446744073709551616 → x ≡ h / 4294967296 → x < 4294967296
high h x l e = omega (arith, l, e)

below : (x slots : ℕ) → x < 4294967296 → 1 ≤ slots → x * slots < slots * 4294967296
below x slots l some = omega (arith, mul-add-lt x slots 0 4294967296 l (omega (arith, some)))

within-slots : (p slots : ℕ) → p < slots * 4294967296 → p / 4294967296 < slots
within-slots p slots l = omega (arith, l)

pub overflow_mul-result : goal.overflow_mul-result
overflow_mul-result g c =
    let slots = c.args.slots in
    let low : c.from.result * slots < slots * 4294967296 = below c.from.result slots (high c.hash_of.result c.from.result c.hash_of.type_inv c.from.ensures) c.requires in
    omega (arith, low, c.ranges.slots)

pub overflow_cast-result-2 : goal.overflow_cast-result-2
overflow_cast-result-2 g c =
    let slots = c.args.slots in
    let low : c.from.result * slots < slots * 4294967296 = below c.from.result slots (high c.hash_of.result c.from.result c.hash_of.type_inv c.from.ensures) c.requires in
    omega (arith, low, c.ranges.slots)

pub returns-clause-slot : goal.returns-clause-slot
returns-clause-slot g c = ap (λ x. x * c.args.slots / 4294967296) (c.from.ensures ∙ ap (λ h. h / 4294967296) c.hash_of.ensures)

pub returns-clause-within : goal.returns-clause-within
returns-clause-within g c =
    let slots = c.args.slots in
    within-slots (c.from.result * slots) slots (below c.from.result slots (high c.hash_of.result c.from.result c.hash_of.type_inv c.from.ensures) c.requires)
