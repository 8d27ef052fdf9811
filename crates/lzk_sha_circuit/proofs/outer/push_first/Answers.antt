use Rattle.std.proofs.Common.{◌≡◌, ℕ, ◌+◌, ◌*◌, ◌++◌, ◌∷◌, [], ◌∙◌, ap, arith, slice_index}
use Rattle.std.proofs.lemmas.Result.{on_ok_weaker}
use Rattle.sha2.specs.Sha256.{round_constants}
use Rattle.lzk_goldilocks.specs.Elements.{ops, of_number}
use Rattle.lzk_sha_circuit.specs.Found.{places_of}
use Rattle.lzk_sha_circuit.specs.declared.entries.Word.TheVariants.{Schedule, E}
use Rattle.lzk_sha_circuit.specs.Products.{worth_list, or_word_list, ch_word_list}
use Rattle.lzk_sha_circuit.specs.Layers.{input_count, wire_entry, word_entry, turned_entry, first_list}
use Rattle.lzk_sha_circuit.proofs.Written.{more_of}
use Rattle.lzk_sha_circuit.proofs.outer.push_first.Goals as goal

later : (a b : ℕ) → a + 9457 + b ≡ a + 6385 + (3072 + b)
later a b = omega arith

pub returns : goal.returns
unfolding first_list
returns c =
    let given = places_of c.args.given.now in
    let t = c.args.round.t in
    let begin = input_count given in
    let place = 3072 + 96 * t in
    let word = word_entry ops of_number given in
    let turned = turned_entry ops of_number given (E (t + 3)) 25 in
    let x1 = worth_list ops of_number ops.one 32 (word (E t)) in
    let x2 = or_word_list ops of_number (λ i. wire_entry ops (begin + place + i)) turned in
    let x3 = ch_word_list ops of_number (word (E (t + 3))) (word (E (t + 2))) (word (E (t + 1))) in
    let x4 = record { coef = of_number (slice_index round_constants t); a = 0; b = 0 } ∷ [] in
    let x5 = worth_list ops of_number ops.one 32 (word (Schedule t)) in
    let p0 = c.args.products.now.items in
    let p1 = c.push_worth.new.products.items in
    let p2 = c.push_or_word.new.products.items in
    let p3 = c.push_ch.new.products.items in
    let p4 = c.push.new.self.items in
    let p5 = c.push_worth-2.new.products.items in
    on_ok_weaker c.push_worth-2.result
    (λ (h : p5 ≡ p4 ++ worth_list ops of_number c.one-2.result 32 (word (Schedule t))).
    more_of p0 p1 p5 x1 (x2 ++ (x3 ++ (x4 ++ x5))) (c.in-Ok.ensures ∙ ap (λ v. p0 ++ worth_list ops of_number v 32 (word (E t))) c.one.ensures)
    (more_of p1 p2 p5 x2 (x3 ++ (x4 ++ x5)) (c.in-Ok-push_or_word.ensures ∙ ap (λ (n : ℕ). p1 ++ or_word_list ops of_number (λ i. wire_entry ops (n + i)) turned) (later given.inputs (96 * t)))
    (more_of p2 p3 p5 x3 (x4 ++ x5) c.in-Ok-push_ch.ensures
    (more_of p3 p4 p5 x4 x5 (c.in-Ok-push.ensures.items ∙ ap (λ p. p3 ++ p ∷ []) c.number.ensures) (h ∙ ap (λ v. p4 ++ worth_list ops of_number v 32 (word (Schedule t))) c.one-2.ensures)))))
    c.push_worth-2.ensures
