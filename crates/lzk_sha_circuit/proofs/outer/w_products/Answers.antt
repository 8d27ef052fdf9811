use Rattle.std.proofs.Common.{◌≡◌, ℕ, ◌+◌, ◌-◌, ◌*◌, ◌++◌, ◌∙◌, ap, arith}
use Rattle.std.proofs.lemmas.Result.{on_ok_weaker}
use Rattle.lzk_goldilocks.specs.Elements.{ops, of_number}
use Rattle.lzk_sha_circuit.specs.Found.{places_of}
use Rattle.lzk_sha_circuit.specs.declared.entries.Word.TheVariants.{Schedule}
use Rattle.lzk_sha_circuit.specs.Places.{w_place}
use Rattle.lzk_sha_circuit.specs.Products.{worth_list, or_word_list}
use Rattle.lzk_sha_circuit.specs.Layers.{input_count, wire_entry, word_entry, shifted_entry, carry_list, w_row}
use Rattle.lzk_sha_circuit.proofs.Written.{more_of, from_none}
use Rattle.lzk_sha_circuit.proofs.outer.w_products.Goals as goal

later : (a b : ℕ) → a + b + 32 ≡ a + (b + 32)
later a b = omega arith

pub returns : goal.returns
unfolding w_row
returns c =
    let given = places_of c.args.given.now in
    let t = c.args.round.t in
    let begin = input_count given in
    let place = 64 * (t - 16) in
    let x1 = or_word_list ops of_number (λ i. wire_entry ops (begin + place + i)) (shifted_entry ops of_number given (Schedule (t - 2)) 10) in
    let x2 = worth_list ops of_number ops.one 32 (word_entry ops of_number given (Schedule (t - 7))) in
    let x3 = or_word_list ops of_number (λ i. wire_entry ops (begin + (place + 32) + i)) (shifted_entry ops of_number given (Schedule (t - 15)) 3) in
    let x4 = worth_list ops of_number ops.one 32 (word_entry ops of_number given (Schedule (t - 16))) in
    let x5 = carry_list ops of_number (w_place given t) 2 in
    let p0 = c.clear.new.self.items in
    let p1 = c.push_or_word.new.products.items in
    let p2 = c.push_worth.new.products.items in
    let p3 = c.push_or_word-2.new.products.items in
    let p4 = c.push_worth-2.new.products.items in
    let p5 = c.push_carry.new.products.items in
    on_ok_weaker c.push_carry.result
    (λ (h : p5 ≡ p4 ++ x5).
    from_none p0 p5 (x1 ++ (x2 ++ (x3 ++ (x4 ++ x5)))) c.clear.ensures.items
    (more_of p0 p1 p5 x1 (x2 ++ (x3 ++ (x4 ++ x5))) c.in_ok-push_or_word.ensures
    (more_of p1 p2 p5 x2 (x3 ++ (x4 ++ x5)) (c.in_ok-push_worth.ensures ∙ ap (λ v. p1 ++ worth_list ops of_number v 32 (word_entry ops of_number given (Schedule (t - 7)))) c.one.ensures)
    (more_of p2 p3 p5 x3 (x4 ++ x5) (c.in_ok-push_or_word-2.ensures ∙ ap (λ (n : ℕ). p2 ++ or_word_list ops of_number (λ i. wire_entry ops (n + i)) (shifted_entry ops of_number given (Schedule (t - 15)) 3)) (later begin place))
    (more_of p3 p4 p5 x4 x5 (c.in_ok-push_worth-2.ensures ∙ ap (λ v. p3 ++ worth_list ops of_number v 32 (word_entry ops of_number given (Schedule (t - 16)))) c.one-2.ensures) h)))))
    c.push_carry.ensures
