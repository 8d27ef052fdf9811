use Rattle.lzk_profile.specs.Profile.{opened_count}
use Rattle.std.proofs.Common.{◌≡◌, ℕ, ◌+◌, ◌-◌, ◌*◌, ◌/◌, ◌%◌, ◌<◌, ◌≤◌, arith, sym, ◌∙◌}
use Rattle.std.proofs.lemmas.Nat.{mul-le}
use Rattle.lzk_layout.specs.Parts.{path_parts}
use Rattle.lzk_layout.proofs.PartLaws.{opened_nonce, opened_element, opened_behind}
use Rattle.lzk_layout.proofs.part.opened_part.Goals as goal

pub returns-then-column : goal.returns-then-column
returns-then-column c =
    let column : ℕ = c.args.k / (1 + c.args.rows) in
    let most = mul-le opened_count (1 + c.args.rows) column (1 + c.args.rows) c.if-column.true (omega arith) in
    let cut : column * (1 + c.args.rows) ≤ c.args.k = omega arith in
    c.path_part.ensures ∙ sym (opened_behind c.args.rows opened_count (path_parts c.args.digests) c.args.k (omega (arith, most, cut)))

pub returns-in-0 : goal.returns-in-0
returns-in-0 c =
    let column : ℕ = c.args.k / (1 + c.args.rows) in
    let whole : c.args.k ≡ column * (1 + c.args.rows) = omega (arith, c.in-0.is) in
    sym (opened_nonce c.args.rows opened_count column c.args.k (path_parts c.args.digests) c.if-column.false whole)

pub returns-in_default : goal.returns-in_default
returns-in_default c =
    let column : ℕ = c.args.k / (1 + c.args.rows) in
    let row : ℕ = c.args.k % (1 + c.args.rows) - 1 in
    let less : row < c.args.rows = omega (arith, c.in_default) in
    let whole : c.args.k ≡ column * (1 + c.args.rows) + 1 + row = omega (arith, c.in_default) in
    sym (opened_element c.args.rows opened_count column row c.args.k (path_parts c.args.digests) c.if-column.false less whole)
