use Rattle.std.proofs.Common.{◌≤◌, ◌∙◌, ap, length, arith}
use Rattle.std.proofs.Math.Nat.{mod-eq_of_lt}
use Rattle.lzk_circbytes.specs.Numbered.{Shape, shape}
use Rattle.lzk_circbytes.proofs.ReadSteps.{constant_short, constant_read, constant_falls, constant_large}
use Rattle.lzk_circbytes.proofs.reading.constant_of.Goals as goal

pub returns-then-bytes-BYTES : goal.returns-then-bytes-BYTES
returns-then-bytes-BYTES g c =
    let s : Shape = shape g.F.Field.coding.id g.F.Field.coding.bytes g.F.Field.coding.size in
    rw c.stop.ensures (constant_short s c.args.before c.args.bytes.now (omega (arith, c.if-bytes-BYTES.true, c.BYTES.ensures ∙ g.F.Field.coded_bytes)))

pub split_at-requires : goal.split_at-requires
split_at-requires g c = omega (arith, c.if-bytes-BYTES.false, c.BYTES.ensures, c.BYTES-2.ensures)

pub of_le-requires : goal.of_le-requires
of_le-requires g c = c.split_at.ensures.front_len ∙ c.BYTES-2.ensures ∙ g.F.Field.coded_bytes

pub returns-then-number-before : goal.returns-then-number-before
returns-then-number-before g c =
    let s : Shape = shape g.F.Field.coding.id g.F.Field.coding.bytes g.F.Field.coding.size in
    let cut = c.split_at.ensures in
    let same = c.BYTES-2.ensures ∙ g.F.Field.coded_bytes in
    let long : c.BYTES-2.result ≤ length c.args.bytes.now = omega (arith, c.if-bytes-BYTES.false, c.BYTES.ensures, c.BYTES-2.ensures) in
    let value = c.in-Some.ensures.value in
    let number = ap g.F.Field.coding.number value.1 ∙ g.F.Field.laws.numbers.number_element _ ∙ mod-eq_of_lt value.0 in
    rw c.stop-then-number-before.ensures (constant_falls s c.args.before c.args.bytes.now c.split_at.result.0.now c.BYTES-2.result same long cut.front c.number.result (c.number.ensures ∙ number) c.if-number-before.true)

pub returns-else-number-before : goal.returns-else-number-before
returns-else-number-before g c =
    let s : Shape = shape g.F.Field.coding.id g.F.Field.coding.bytes g.F.Field.coding.size in
    let cut = c.split_at.ensures in
    let same = c.BYTES-2.ensures ∙ g.F.Field.coded_bytes in
    let long : c.BYTES-2.result ≤ length c.args.bytes.now = omega (arith, c.if-bytes-BYTES.false, c.BYTES.ensures, c.BYTES-2.ensures) in
    let value = c.in-Some.ensures.value in
    let number = ap g.F.Field.coding.number value.1 ∙ g.F.Field.laws.numbers.number_element _ ∙ mod-eq_of_lt value.0 in
    constant_read s c.args.before c.args.bytes.now c.split_at.result.0.now c.BYTES-2.result same long cut.front c.split_at.result.1.now _ cut.back number (omega (arith, number, value.0)) (omega (arith, c.number.ensures, c.if-number-before.false))

pub returns-in-None : goal.returns-in-None
returns-in-None g c =
    let s : Shape = shape g.F.Field.coding.id g.F.Field.coding.bytes g.F.Field.coding.size in
    let cut = c.split_at.ensures in
    let same = c.BYTES-2.ensures ∙ g.F.Field.coded_bytes in
    let long : c.BYTES-2.result ≤ length c.args.bytes.now = omega (arith, c.if-bytes-BYTES.false, c.BYTES.ensures, c.BYTES-2.ensures) in
    rw c.stop-in-None.ensures (constant_large s c.args.before c.args.bytes.now c.split_at.result.0.now c.BYTES-2.result same long cut.front c.in-None.ensures.value)
