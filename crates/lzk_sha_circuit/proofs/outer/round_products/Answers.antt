use Rattle.std.proofs.Common.{◌≡◌, ◌/◌, ◌%◌, ◌∷◌, [], ◌∙◌, sym, ap, arith}
use Rattle.std.proofs.lemmas.Result.{on_ok_weaker}
use Rattle.lzk_goldilocks.specs.Elements.{ops, of_number}
use Rattle.lzk_sha_circuit.specs.Found.{places_of}
use Rattle.lzk_sha_circuit.specs.Layers.{row_at, a_row, e_row}
use Rattle.lzk_sha_circuit.proofs.outer.round_products.Goals as goal

pub returns-then-k-eq0 : goal.returns-then-k-eq0
returns-then-k-eq0 c =
    let given = places_of c.args.given.now in
    let t = c.args.k / 2 in
    let rows = a_row ops of_number given t ∷ e_row ops of_number given t ∷ [] in
    on_ok_weaker c.a_products.result (λ (h : c.a_products.new.products.items ≡ a_row ops of_number given t). h ∙ sym (ap (row_at rows) c.if-k-eq0.true)) c.a_products.ensures

pub returns-else-k-eq0 : goal.returns-else-k-eq0
returns-else-k-eq0 c =
    let given = places_of c.args.given.now in
    let t = c.args.k / 2 in
    let rows = a_row ops of_number given t ∷ e_row ops of_number given t ∷ [] in
    let odd : c.args.k % 2 ≡ 1 = omega (arith, c.if-k-eq0.false) in
    on_ok_weaker c.e_products.result (λ (h : c.e_products.new.products.items ≡ e_row ops of_number given t). h ∙ sym (ap (row_at rows) odd)) c.e_products.ensures
