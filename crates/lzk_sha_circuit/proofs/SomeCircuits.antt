-- There is a circuit for each compression, and for messages of each number of bytes.
use Rattle.std.specs.Prelude.{◌≡◌, ℕ, ◌+◌, ◌-◌, ◌<◌, ◌≤◌, List, [], ◌∷◌, ◌++◌, length, map, Result, Ok}
use Rattle.std.specs.List.{range_with_len, flat_map}
use Rattle.std.proofs.Common.{zero, suc, refl, ap, ap₂, ◌∙◌, arith, subst, length-append}
use Rattle.std.proofs.lemmas.List.{length-map}
use Rattle.lzk_field.specs.Ring.{Ops, RingLaws, FieldLaws}
use Rattle.lzk_goldilocks.specs.Prime.{p, element_bytes}
use Rattle.lzk_goldilocks.specs.Elements as gold
use Rattle.lzk_goldilocks.specs.declared.element.Gold.{Gold}
use Rattle.lzk_circuit.specs.declared.layer.Layer.{Layer}
use Rattle.lzk_circuit.specs.declared.layer.Term.{Term}
use Rattle.lzk_circuit.specs.Valid.{IsValid, AreLayers, wiring}
use Rattle.lzk_circuit.proofs.VersionLaws.{one-valid}
use Rattle.lzk_circuit.specs.Wires.{inputs_of}
use Rattle.lzk_circuit_reduce.specs.Rows.{row_value, ordered, placed}
use Rattle.lzk_circuit_reduce.proofs.AppendLaws.{stacked-terms, stacked-before, stacked-added}
use Rattle.lzk_circuit_reduce.proofs.EachReduced.{some_reduced}
use Rattle.lzk_circuit_reduce.proofs.NormalLaws.{ZeroOrNot, zero_or_not, AreOfRow, ordered-of-row, ordered-value, normal}
use Rattle.lzk_sha_circuit.specs.Places.{Places, IsPlaced, message_places, total_count}
use Rattle.lzk_sha_circuit.specs.declared.products.Product.{Product}
use Rattle.lzk_sha_circuit.specs.declared.entries.Word.{Word}
use Rattle.lzk_sha_circuit.specs.declared.entries.Word.TheVariants.{Schedule, A, E}
use Rattle.lzk_sha_circuit.specs.Circuits.{SomeShaCircuit, SomeCompressionCircuit}
use Rattle.lzk_sha_circuit.specs.Products.{AreWithin, products_value, or_list}
use Rattle.lzk_sha_circuit.specs.Layers.{IsBuilt, Grows, IsWord, input_count, inner_count, turned_entry, pass_row, pair_rows, schedule_pairs, round_pairs, inner_rows, output_rows}
use Rattle.lzk_sha_circuit.proofs.MessagePlaces.{message_placed}
use Rattle.lzk_sha_circuit.proofs.CircuitLaws.{two_layers, layers_valid, layers_ones}
use Rattle.lzk_sha_circuit.proofs.CircuitValues.{outputs_are}
use Rattle.lzk_sha_circuit.proofs.Growth.{grown, grows_none, grows_two, built_from}
use Rattle.lzk_sha_circuit.proofs.Within.{or_within, turned_within}
use Rattle.lzk_sha_circuit.proofs.OutputRows.{AreAllWithin, all-append, all-each, all-chunks, output_within}

-- ---- a layer of such rows
module _ {X : Type 0} (o : Ops X) (r : RingLaws o) (f : FieldLaws o) (decide : ZeroOrNot o) where
  abbrev product_terms : List (Product X) → List (Term X)
  product_terms [] = []
  product_terms (p ∷ ps) = ordered p.coef p.a p.b ∷ product_terms ps

  terms-of-row : (width : ℕ) (ps : List (Product X)) → AreWithin width ps → AreOfRow width (product_terms ps)
  terms-of-row width [] h = tt
  terms-of-row width (p ∷ ps) h = (ordered-of-row width p.coef p.a p.b h.0 h.1, terms-of-row width ps h.2)

  terms-value : (below : List X) (ps : List (Product X)) → row_value o below (product_terms ps) ≡ products_value o below ps
  terms-value below [] = refl
  terms-value below (p ∷ ps) = ap₂ o.plus (ordered-value o r decide below p.coef p.a p.b) (terms-value below ps)

  terms-length : (ps : List (Product X)) → length (product_terms ps) ≡ length ps
  terms-length [] = refl
  terms-length (p ∷ ps) = ap suc (terms-length ps)

  one_grown : (wires : ℕ) (ps : List (Product X)) (old : List (Term X)) → (new : List (Term X)) × ((width : ℕ) → AreWithin width ps → Grows o width wires old (ps ∷ []) new)
  one_grown wires ps old =
      let (row, n) = normal o r decide (product_terms ps) in
      let new = old ++ map (placed wires) row in
      let long = terms-length ps in
      let done : Result (Unit {0}) (Unit {0}) = Ok tt in (
        new,
        grown o wires ps old new row done (λ width h k. stacked-terms o wires width old row h k) (λ below i l. stacked-before o r wires i below old row l) (λ below h k. stacked-added o r wires below old row h k)
            (length-append old (map (placed wires) row) ∙ ap (λ k. length old + k) (length-map row (placed wires))) refl (λ width within. n.terms width (terms-of-row width ps within)) (λ below. n.value below ∙ terms-value below ps)
            (let few = n.short in omega (arith, few, long)) (λ e. n.alone (ordered o.one 0 0) (ap product_terms e) f.one_not_zero),
      )

  some_grown : (rows : List (List (Product X))) (wires : ℕ) (old : List (Term X)) → (new : List (Term X)) × ((width : ℕ) → AreAllWithin width rows → Grows o width wires old rows new)
  some_grown [] wires old = (old, λ width all. grows_none o width wires old)
  some_grown (ps ∷ rows) wires old =
      let (mid, g) = one_grown wires ps old in
      let (new, h) = some_grown rows (wires + 1) mid in
      (new, λ width all. grows_two o width wires (wires + 1) old mid new (ps ∷ []) rows (omega arith) (g width all.0) (h width all.1))

  some_built : (width : ℕ) (rows : List (List (Product X))) → AreAllWithin width rows → (terms : List (Term X)) × IsBuilt o width rows terms
  some_built width rows all =
      let (terms, g) = some_grown rows 0 [] in
      (terms, built_from o width rows terms [] refl (g width all))

-- ---- the rows of the two layers
module _ {X : Type 0} (o : Ops X) (element : ℕ → X) (given : Places) (ok : IsPlaced given) where
  pairs_within : (x : Word) (j : ℕ) (y : Word) (k : ℕ) → IsWord x → IsWord y → AreAllWithin (input_count given) (pair_rows o element given x j y k)
  unfolding pair_rows
  pairs_within x j y k hx hy =
      all-each (input_count given) (λ i. or_list o element o.one (turned_entry o element given x j i) (turned_entry o element given y k i)) 32 0
      (λ i le lt. or_within o element (input_count given) o.one (turned_entry o element given x j i) (turned_entry o element given y k i) (turned_within o element given ok x j i hx) (turned_within o element given ok y k i hy))

  schedule_within : (t : ℕ) → 16 ≤ t → t < 64 → AreAllWithin (input_count given) (schedule_pairs o element given t)
  unfolding schedule_pairs
  schedule_within t le lt =
      all-append (input_count given) (pair_rows o element given (Schedule (t - 2)) 17 (Schedule (t - 2)) 19) (pair_rows o element given (Schedule (t - 15)) 7 (Schedule (t - 15)) 18)
      (pairs_within (Schedule (t - 2)) 17 (Schedule (t - 2)) 19 (omega (arith, lt)) (omega (arith, lt)))
      (pairs_within (Schedule (t - 15)) 7 (Schedule (t - 15)) 18 (omega (arith, lt)) (omega (arith, lt)))

  round_within : (t : ℕ) → t < 64 → AreAllWithin (input_count given) (round_pairs o element given t)
  unfolding round_pairs
  round_within t lt =
      all-append (input_count given) (pair_rows o element given (E (t + 3)) 6 (E (t + 3)) 11) _ (pairs_within (E (t + 3)) 6 (E (t + 3)) 11 (omega (arith, lt)) (omega (arith, lt)))
      (all-append (input_count given) (pair_rows o element given (A (t + 3)) 2 (A (t + 3)) 13) (pair_rows o element given (A (t + 3)) 0 (A (t + 2)) 0)
      (pairs_within (A (t + 3)) 2 (A (t + 3)) 13 (omega (arith, lt)) (omega (arith, lt)))
      (pairs_within (A (t + 3)) 0 (A (t + 2)) 0 (omega (arith, lt)) (omega (arith, lt))))

  inner_within : AreAllWithin (input_count given) (inner_rows o element given)
  unfolding inner_rows
  inner_within =
      all-append (input_count given) (map (pass_row o) (range_with_len 0 (input_count given))) _ (all-each (input_count given) (pass_row o) (input_count given) 0 (λ i le lt. (omega arith, omega (arith, lt), tt)))
      (all-append (input_count given) (flat_map (schedule_pairs o element given) (range_with_len 16 48)) (flat_map (round_pairs o element given) (range_with_len 0 64))
      (all-chunks (input_count given) (schedule_pairs o element given) 48 16 (λ t le lt. schedule_within t le (omega (arith, lt))))
      (all-chunks (input_count given) (round_pairs o element given) 64 0 (λ t le lt. round_within t (omega (arith, lt)))))

-- ---- the circuit

valid : (given : Places) (kept : List (Layer Gold)) → IsPlaced given → length kept ≡ 2 → AreLayers gold.ops (input_count given) kept → IsValid gold.ops (wiring 8 (total_count given) kept)
valid given kept placed two layers =
    let few = placed.few in
    let width : input_count given ≡ 1 + 8 + total_count given = omega arith in
    one-valid gold.ops 8 (total_count given) kept (omega arith) (omega (arith, few)) (omega (arith, two)) (omega (arith, two))
    (subst (λ n. AreLayers gold.ops n kept) width layers)

pub some_compression : SomeCompressionCircuit
some_compression given ok =
    let o = gold.ops in
    let element = gold.of_number in
    let decide = zero_or_not o p (λ (x : Gold). x.n) element element_bytes gold.numbers in
    let (t0, outer) = some_built o gold.ring gold.field decide (inner_count given) (output_rows o element given) (output_within o element given ok) in
    let (t1, inner) = some_built o gold.ring gold.field decide (input_count given) (inner_rows o element given) (inner_within o element given ok) in
    let layers = two_layers given t0 t1 in
    let (kept, is) = some_reduced o p (λ (x : Gold). x.n) element element_bytes gold.laws (input_count given) layers (omega arith) (layers_valid o element given ok t0 t1 outer inner) (layers_ones o element given ok t0 t1 outer inner) in
    let two = is.count in (
      wiring 8 (total_count given) kept,
      record {
        version = refl;
        publics = refl;
        privates = refl;
        layers = two;
        outputs = λ public private short long.
            let both = length-append public private in
            is.values (inputs_of o public private) (omega (arith, both, short, long)) ∙ outputs_are o gold.ring element given ok public private short long t0 t1 outer inner;
        reduced = is.reduced;
      },
      valid given kept ok two is.valid,
    )

pub some_sha_circuit : SomeShaCircuit
some_sha_circuit len few =
    let (c, is, v) = some_compression (message_places len) (message_placed len few) in
    (c, record { version = is.version; publics = is.publics; privates = is.privates; layers = is.layers; outputs = is.outputs; reduced = is.reduced }, v)
