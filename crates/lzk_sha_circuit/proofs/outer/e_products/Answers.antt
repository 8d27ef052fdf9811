use Rattle.std.proofs.Common.{◌≡◌, ◌++◌, ◌∙◌, ap}
use Rattle.std.proofs.lemmas.Result.{on_ok_weaker}
use Rattle.lzk_goldilocks.specs.Elements.{ops, of_number}
use Rattle.lzk_sha_circuit.specs.Found.{places_of}
use Rattle.lzk_sha_circuit.specs.declared.entries.Word.TheVariants.{A}
use Rattle.lzk_sha_circuit.specs.Places.{e_place}
use Rattle.lzk_sha_circuit.specs.Products.{worth_list}
use Rattle.lzk_sha_circuit.specs.Layers.{word_entry, carry_list, first_list, e_row}
use Rattle.lzk_sha_circuit.proofs.Written.{more_of, from_none}
use Rattle.lzk_sha_circuit.proofs.outer.e_products.Goals as goal

pub returns : goal.returns
unfolding e_row
returns c =
    let given = places_of c.args.given.now in
    let t = c.args.round.t in
    let word = word_entry ops of_number given (A t) in
    let x1 = worth_list ops of_number ops.one 32 word in
    let x2 = first_list ops of_number given t in
    let x3 = carry_list ops of_number (e_place given t) 3 in
    let p0 = c.clear.new.self.items in
    let p1 = c.push_worth.new.products.items in
    let p2 = c.push_first.new.products.items in
    let p3 = c.push_carry.new.products.items in
    on_ok_weaker c.push_carry.result
    (λ (h : p3 ≡ p2 ++ x3).
    from_none p0 p3 (x1 ++ (x2 ++ x3)) c.clear.ensures.items
    (more_of p0 p1 p3 x1 (x2 ++ x3) (c.in_ok-push_worth.ensures ∙ ap (λ v. p0 ++ worth_list ops of_number v 32 word) c.one.ensures) (more_of p1 p2 p3 x2 x3 c.in_ok-push_first.ensures h)))
    c.push_carry.ensures
