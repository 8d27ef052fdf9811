use Rattle.std.proofs.Common.{◌≡◌, ◌++◌, ◌∙◌, ap}
use Rattle.std.proofs.lemmas.Result.{on_ok_weaker}
use Rattle.lzk_goldilocks.specs.Elements.{ops, of_number}
use Rattle.lzk_sha_circuit.specs.declared.entries.Word.TheVariants.{State}
use Rattle.lzk_sha_circuit.specs.Found.{places_of}
use Rattle.lzk_sha_circuit.specs.Places.{f_place}
use Rattle.lzk_sha_circuit.specs.Products.{worth_list}
use Rattle.lzk_sha_circuit.specs.Layers.{word_entry, carry_list, last_word_of, f_row}
use Rattle.lzk_sha_circuit.proofs.Written.{more_of, from_none}
use Rattle.lzk_sha_circuit.proofs.outer.f_products.Goals as goal

pub returns : goal.returns
unfolding f_row
returns c =
    let given = places_of c.args.given.now in
    let i = c.args.of.i in
    let x = worth_list ops of_number ops.one 32 (word_entry ops of_number given (State i)) in
    let y = worth_list ops of_number ops.one 32 (word_entry ops of_number given (last_word_of ops of_number i)) in
    let z = carry_list ops of_number (f_place given i) 1 in
    let p0 = c.clear.new.self.items in
    let p1 = c.push_worth.new.products.items in
    let p2 = c.push_worth-2.new.products.items in
    let p3 = c.push_carry.new.products.items in
    on_ok_weaker c.push_carry.result
    (λ (h : p3 ≡ p2 ++ z).
    from_none p0 p3 (x ++ (y ++ z)) c.clear.ensures.items
    (more_of p0 p1 p3 x (y ++ z) (c.in_ok-push_worth.ensures ∙ ap (λ v. p0 ++ worth_list ops of_number v 32 (word_entry ops of_number given (State i))) c.one.ensures)
    (more_of p1 p2 p3 y z (c.in_ok-push_worth-2.ensures ∙ (λ j. p1 ++ worth_list ops of_number (c.one-2.ensures j) 32 (word_entry ops of_number given (c.last_word.ensures j)))) h)))
    c.push_carry.ensures
