use Rattle.std.proofs.Common.{◌≡◌, ◌+◌, ◌-◌, ◌*◌, ◌/◌, ◌%◌, ◌∷◌, [], ◌∙◌, sym, refl, arith, nat_lt}
use Rattle.std.specs.Prelude.{if◌then◌else◌}
use Rattle.std.proofs.lemmas.Result.{on_ok_weaker}
use Rattle.lzk_goldilocks.specs.Elements.{ops, of_number}
use Rattle.lzk_sha_circuit.specs.Found.{places_of}
use Rattle.lzk_sha_circuit.specs.Layers.{row_at, bit_row, w_row, a_row, e_row, f_row, digest_row}
use Rattle.lzk_sha_circuit.proofs.OutputRows.{bit_at, w_at, pair_at, last_at}
use Rattle.lzk_sha_circuit.proofs.outer.output_products.Goals as goal

pub returns-then-k-privates : goal.returns-then-k-privates
returns-then-k-privates c =
    let given = places_of c.args.given.now in
    on_ok_weaker c.bit_products.result (λ (h : c.bit_products.new.products.items ≡ bit_row ops c.args.k). h ∙ sym (bit_at ops of_number given c.args.k (given.inputs + 6376) refl c.if-k-privates.true)) c.bit_products.ensures

pub returns-then-at-lt48 : goal.returns-then-at-lt48
returns-then-at-lt48 c =
    let given = places_of c.args.given.now in
    let k = c.args.k in
    let p = given.inputs + 6376 in
    let there : k ≡ p + (k - p) = omega (arith, c.if-k-privates.false) in
    on_ok_weaker c.w_products.result (λ (h : c.w_products.new.products.items ≡ w_row ops of_number given (16 + (k - p))). h ∙ sym (w_at ops of_number given k p refl (k - p) there c.if-at-lt48.true)) c.w_products.ensures

pub returns-then-at-lt176 : goal.returns-then-at-lt176
returns-then-at-lt176 c =
    let given = places_of c.args.given.now in
    let k = c.args.k in
    let p = given.inputs + 6376 in
    let i = k - p - 48 in
    let there : k ≡ p + (48 + (2 * (i / 2) + i % 2)) = omega (arith, c.if-k-privates.false, c.if-at-lt48.false) in
    on_ok_weaker c.round_products.result (λ (h : c.round_products.new.products.items ≡ row_at (a_row ops of_number given (i / 2) ∷ e_row ops of_number given (i / 2) ∷ []) (i % 2)).
    h ∙ sym (pair_at ops of_number given k p refl (i / 2) (i % 2) there (omega (arith, c.if-at-lt176.true)) (omega arith))) c.round_products.ensures

pub returns-else-at-lt176 : goal.returns-else-at-lt176
returns-else-at-lt176 c =
    let given = places_of c.args.given.now in
    let k = c.args.k in
    let p = given.inputs + 6376 in
    let i = k - p - 176 in
    let there : k ≡ p + (176 + i) = omega (arith, c.if-k-privates.false, c.if-at-lt176.false) in
    on_ok_weaker c.last_products.result (λ (h : c.last_products.new.products.items ≡ (if nat_lt i 8 then f_row ops of_number given i else digest_row ops of_number given (i - 8))).
    h ∙ sym (last_at ops of_number given k p refl i there (omega (arith, c.requires, c.if-at-lt176.false)))) c.last_products.ensures
