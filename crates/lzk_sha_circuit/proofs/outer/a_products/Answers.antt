use Rattle.std.proofs.Common.{◌≡◌, ℕ, ◌+◌, ◌*◌, ◌++◌, ◌∙◌, ap, arith}
use Rattle.std.proofs.lemmas.Result.{on_ok_weaker}
use Rattle.lzk_goldilocks.specs.Elements.{ops, of_number}
use Rattle.lzk_sha_circuit.specs.Found.{places_of}
use Rattle.lzk_sha_circuit.specs.declared.entries.Word.TheVariants.{A}
use Rattle.lzk_sha_circuit.specs.Places.{a_place}
use Rattle.lzk_sha_circuit.specs.Products.{or_word_list, maj_word_list}
use Rattle.lzk_sha_circuit.specs.Layers.{input_count, wire_entry, word_entry, turned_entry, carry_list, first_list, a_row}
use Rattle.lzk_sha_circuit.proofs.Written.{more_of, from_none}
use Rattle.lzk_sha_circuit.proofs.outer.a_products.Goals as goal

later : (a b k : ℕ) → a + 9457 + b + k ≡ a + 6385 + (3072 + b + k)
later a b k = omega arith

pub returns : goal.returns
unfolding a_row
returns c =
    let given = places_of c.args.given.now in
    let t = c.args.round.t in
    let begin = input_count given in
    let place = 3072 + 96 * t in
    let word = word_entry ops of_number given in
    let turned = turned_entry ops of_number given (A (t + 3)) 22 in
    let maj = maj_word_list ops of_number (word (A (t + 3))) (word (A (t + 2))) (word (A (t + 1))) in
    let x1 = first_list ops of_number given t in
    let x2 = or_word_list ops of_number (λ i. wire_entry ops (begin + (place + 32) + i)) turned in
    let x3 = maj (λ i. wire_entry ops (begin + (place + 64) + i)) in
    let x4 = carry_list ops of_number (a_place given t) 3 in
    let p0 = c.clear.new.self.items in
    let p1 = c.push_first.new.products.items in
    let p2 = c.push_or_word.new.products.items in
    let p3 = c.push_maj.new.products.items in
    let p4 = c.push_carry.new.products.items in
    on_ok_weaker c.push_carry.result
    (λ (h : p4 ≡ p3 ++ x4).
    from_none p0 p4 (x1 ++ (x2 ++ (x3 ++ x4))) c.clear.ensures.items
    (more_of p0 p1 p4 x1 (x2 ++ (x3 ++ x4)) c.in_ok-push_first.ensures
    (more_of p1 p2 p4 x2 (x3 ++ x4) (c.in_ok-push_or_word.ensures ∙ ap (λ (n : ℕ). p1 ++ or_word_list ops of_number (λ i. wire_entry ops (n + i)) turned) (later given.inputs (96 * t) 32))
    (more_of p2 p3 p4 x3 x4 (c.in_ok-push_maj.ensures ∙ ap (λ (n : ℕ). p2 ++ maj (λ i. wire_entry ops (n + i))) (later given.inputs (96 * t) 64)) h))))
    c.push_carry.ensures
