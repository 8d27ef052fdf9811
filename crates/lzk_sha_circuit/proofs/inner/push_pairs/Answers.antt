use Rattle.std.proofs.Common.{◌≡◌, ◌+◌, ◌∷◌, [], ◌∙◌, ℕ, List, map, sym, arith, subst}
use Rattle.std.specs.List.{range_with_len}
use Rattle.std.proofs.lemmas.List.FromFn.{length-map-range_with_len}
use Rattle.lzk_goldilocks.specs.Elements.{ops, of_number}
use Rattle.lzk_goldilocks.specs.declared.element.Gold.{Gold}
use Rattle.lzk_sha_circuit.specs.Found.{places_of}
use Rattle.lzk_sha_circuit.specs.declared.products.Product.{Product}
use Rattle.lzk_sha_circuit.specs.Products.{or_list, AreWithin}
use Rattle.lzk_sha_circuit.specs.Layers.{Grows, input_count, turned_entry, pair_rows}
use Rattle.lzk_sha_circuit.proofs.Growth.{grows_none, row_more}
use Rattle.lzk_sha_circuit.proofs.Within.{or_within, turned_within}
use Rattle.lzk_sha_circuit.proofs.inner.push_pairs.Goals as goal

pub loop-i-init : goal.loop-i-init
loop-i-init c = grows_none ops (input_count (places_of c.args.given.now)) c.args.ors.first c.args.terms.now.items

pub loop-i-preserved : goal.loop-i-preserved
loop-i-preserved c =
    let a = c.args in
    let i = c.loop-i.i in
    let w = input_count (places_of a.given.now) in
    let f = λ (j : ℕ). or_list ops of_number ops.one (turned_entry ops of_number (places_of a.given.now) a.x.0.word a.x.1 j) (turned_entry ops of_number (places_of a.given.now) a.y.0.word a.y.1 j) in
    let same : c.or_of-products.result ≡ f i =
    c.or_of-products.ensures ∙ (λ j. or_list ops of_number (c.one.ensures j) (c.turned_entry-first.ensures j) (c.turned_entry-second.ensures j)) in
    let within : AreWithin w (f i) =
    or_within ops of_number w ops.one (turned_entry ops of_number (places_of a.given.now) a.x.0.word a.x.1 i) (turned_entry ops of_number (places_of a.given.now) a.y.0.word a.y.1 i)
    (turned_within ops of_number (places_of a.given.now) a.given.now.placed a.x.0.word a.x.1 i a.x.0.there) (turned_within ops of_number (places_of a.given.now) a.given.now.placed a.y.0.word a.y.1 i a.y.0.there) in
    row_more ops f w a.ors.first (a.ors.first + i) 0 i i a.terms.now.items c.loop-i.terms.items c.push_row.new.terms.items (omega arith) (omega arith) (length-map-range_with_len f 0 i)
    c.loop-i.invariant
    (subst (λ (l : List (Product Gold)). Grows ops w (a.ors.first + i) c.loop-i.terms.items (l ∷ []) c.push_row.new.terms.items) same (c.in_ok-push_row.ensures w (subst (AreWithin w) (sym same) within)))

pub returns : goal.returns
unfolding pair_rows
returns c =
    let a = c.args in
    let e : c.loop-i.i ≡ 32 = omega arith in
    subst (λ (n : ℕ). Grows ops (input_count (places_of a.given.now)) a.ors.first a.terms.now.items (map (λ i. or_list ops of_number ops.one (turned_entry ops of_number (places_of a.given.now) a.x.0.word a.x.1 i) (turned_entry ops of_number (places_of a.given.now) a.y.0.word a.y.1 i)) (range_with_len 0 n)) c.loop-i.terms.items) e c.loop-i.invariant
