use Rattle.lzk_profile.specs.Profile.{opened_count, most_rows, most_elements}
use Rattle.std.proofs.lemmas.Nat.{mul-le}
use Rattle.lzk_layout.specs.declared.params.Params.{Params}
use Rattle.std.proofs.Common.{ℕ, ◌≤◌, ◌+◌, ◌-◌, ◌∙◌, arith}
use Rattle.lzk_layout.proofs.SizeLaws.{are_bounded, file_fits}
use Rattle.lzk_layout.proofs.params.proof_len.Goals as goal

-- how many elements are no columns'
abbrev elements : Params → ℕ
elements p = p.nsum + p.block + p.dblock + opened_count + (p.dblock - p.block)

pub overflow_add-elements : goal.overflow_add-elements
overflow_add-elements g c = let h = are_bounded g.F.Field.ops c.args.params.now c.requires in omega (arith, h.nsum, h.block, h.wr)

pub overflow_add-elements-2 : goal.overflow_add-elements-2
overflow_add-elements-2 g c = let h = are_bounded g.F.Field.ops c.args.params.now c.requires in omega (arith, h.nsum, h.block, h.wr, h.dblock)

pub overflow_add-elements-3 : goal.overflow_add-elements-3
overflow_add-elements-3 g c = let h = are_bounded g.F.Field.ops c.args.params.now c.requires in omega (arith, h.nsum, h.block, h.wr, h.dblock)

pub overflow_add-elements-4 : goal.overflow_add-elements-4
overflow_add-elements-4 g c = let h = are_bounded g.F.Field.ops c.args.params.now c.requires in omega (arith, h.nsum, h.block, h.wr, h.dblock)

pub returns-clause-fits : goal.returns-clause-fits
returns-clause-fits g c = λ few.
    let h = are_bounded g.F.Field.ops c.args.params.now c.requires in
    let numbers = g.F.Field.laws.numbers in
    let p = c.args.params.now in
    file_fits c.BYTES-width.result (p.nsum + p.block + p.dblock + opened_count + (p.dblock - p.block)) p.nrow c.args.digests (omega (arith, (c.BYTES-width.ensures ∙ g.F.Field.coded_bytes), numbers.few_bytes)) (omega (arith, h.nsum, h.block, h.wr, h.dblock)) h.nrow few

pub overflow_sub-elements : goal.overflow_sub-elements
overflow_sub-elements g c =
    let h = are_bounded g.F.Field.ops c.args.params.now c.requires in
    omega (arith, h.block, h.dblock, h.wide)

pub overflow_mul-columns : goal.overflow_mul-columns
overflow_mul-columns g c =
    let h = are_bounded g.F.Field.ops c.args.params.now c.requires in
    let width : c.BYTES-width.result ≤ 16 = omega (arith, (c.BYTES-width.ensures ∙ g.F.Field.coded_bytes), g.F.Field.laws.numbers.few_bytes) in
    let cell = mul-le c.BYTES-width.result c.args.params.now.nrow 16 most_rows width h.nrow in
    omega (arith, cell)

pub overflow_add-columns : goal.overflow_add-columns
overflow_add-columns g c =
    let h = are_bounded g.F.Field.ops c.args.params.now c.requires in
    let width : c.BYTES-width.result ≤ 16 = omega (arith, (c.BYTES-width.ensures ∙ g.F.Field.coded_bytes), g.F.Field.laws.numbers.few_bytes) in
    let cell = mul-le c.BYTES-width.result c.args.params.now.nrow 16 most_rows width h.nrow in
    omega (arith, cell)

pub overflow_mul-columns-2 : goal.overflow_mul-columns-2
overflow_mul-columns-2 g c =
    let h = are_bounded g.F.Field.ops c.args.params.now c.requires in
    let width : c.BYTES-width.result ≤ 16 = omega (arith, (c.BYTES-width.ensures ∙ g.F.Field.coded_bytes), g.F.Field.laws.numbers.few_bytes) in
    let cell = mul-le c.BYTES-width.result c.args.params.now.nrow 16 most_rows width h.nrow in
    omega (arith, cell)

pub overflow_mul-result : goal.overflow_mul-result
overflow_mul-result g c =
    let h = are_bounded g.F.Field.ops c.args.params.now c.requires in
    let width : c.BYTES-width.result ≤ 16 = omega (arith, (c.BYTES-width.ensures ∙ g.F.Field.coded_bytes), g.F.Field.laws.numbers.few_bytes) in
    let size = mul-le c.BYTES-width.result (elements c.args.params.now) 16 most_elements width (omega (arith, h.nsum, h.block, h.wr, h.dblock)) in
    omega (arith, size)

pub overflow_add-result : goal.overflow_add-result
overflow_add-result g c =
    let h = are_bounded g.F.Field.ops c.args.params.now c.requires in
    let width : c.BYTES-width.result ≤ 16 = omega (arith, (c.BYTES-width.ensures ∙ g.F.Field.coded_bytes), g.F.Field.laws.numbers.few_bytes) in
    let size = mul-le c.BYTES-width.result (elements c.args.params.now) 16 most_elements width (omega (arith, h.nsum, h.block, h.wr, h.dblock)) in
    omega (arith, size)

pub overflow_add-result-2 : goal.overflow_add-result-2
overflow_add-result-2 g c =
    let h = are_bounded g.F.Field.ops c.args.params.now c.requires in
    let width : c.BYTES-width.result ≤ 16 = omega (arith, (c.BYTES-width.ensures ∙ g.F.Field.coded_bytes), g.F.Field.laws.numbers.few_bytes) in
    let cell = mul-le c.BYTES-width.result c.args.params.now.nrow 16 most_rows width h.nrow in
    let size = mul-le c.BYTES-width.result (elements c.args.params.now) 16 most_elements width (omega (arith, h.nsum, h.block, h.wr, h.dblock)) in
    omega (arith, size, cell)

pub overflow_mul-result-2 : goal.overflow_mul-result-2
overflow_mul-result-2 g c =
    omega (arith, c.ranges.digests)

pub overflow_add-result-3 : goal.overflow_add-result-3
overflow_add-result-3 g c =
    let h = are_bounded g.F.Field.ops c.args.params.now c.requires in
    let width : c.BYTES-width.result ≤ 16 = omega (arith, (c.BYTES-width.ensures ∙ g.F.Field.coded_bytes), g.F.Field.laws.numbers.few_bytes) in
    let cell = mul-le c.BYTES-width.result c.args.params.now.nrow 16 most_rows width h.nrow in
    let size = mul-le c.BYTES-width.result (elements c.args.params.now) 16 most_elements width (omega (arith, h.nsum, h.block, h.wr, h.dblock)) in
    omega (arith, size, cell, c.ranges.digests)
