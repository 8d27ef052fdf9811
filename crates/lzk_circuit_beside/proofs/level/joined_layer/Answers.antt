use Rattle.std.proofs.Common.{◌≡◌, ◌∙◌, refl, ap, sym, subst, arith, length, None, ◌+◌}
use Rattle.std.proofs.lemmas.List.{length-map}
use Rattle.lzk_circuit.specs.Valid.{ArePlaced, AreTerms, MayEachStand}
use Rattle.lzk_circuit_reduce.specs.Marks.{is_marked}
use Rattle.lzk_circuit_beside.specs.Asserts.{cleared_term, cleared}
use Rattle.lzk_circuit_beside.specs.Levels.{level_wires}
use Rattle.lzk_circuit_beside.proofs.AssertLaws.{cleared-placed, cleared-stands}
use Rattle.lzk_circuit_beside.proofs.JoinLaws.{joined-terms, joined-lone, joined-level, none-marked}
use Rattle.lzk_circuit_beside.proofs.level.joined_layer.Goals as goal

pub joined_marks-requires-clause-few : goal.joined_marks-requires-clause-few
joined_marks-requires-clause-few g c κs within = omega (arith, c.in_ok-split.ensures.most, c.in_ok-more.ensures.most)

pub returns-clause-terms : goal.returns-clause-terms
returns-clause-terms g c width nl nr =
    let o = g.F.Field.ops in
    let split = c.in_ok-split.split in
    let more = c.in_ok-more.more in
    let first = c.add_level.new.terms.items in
    let all = c.add_level-2.new.terms.items in
    let marks = is_marked c.in_ok-marks.marks.items in
    let is : c.new.result ≡ cleared o marks all =
    c.new.ensures ∙ c.in_ok-all.ensures ∙ ap (λ ms. cleared o (is_marked ms) all) c.deref.ensures.value in
    let terms = joined-terms o split more (level_wires c.args.first.now c.args.l) (level_wires c.args.second.now c.args.l) width c.in_ok-terms.terms.items first all
    c.in_ok-terms.ensures.items c.in_ok-split.ensures.count c.in_ok-more.ensures.count (c.in_ok-split.ensures.terms width nl) (c.in_ok-more.ensures.terms width nr) in
    subst (ArePlaced (split + more) width None) (sym is) (cleared-placed o g.F.Field.coding.size g.F.Field.coding.number g.F.Field.coding.element g.F.Field.coding.bytes g.F.Field.laws marks (split + more) width None all terms)

pub returns-clause-coefs : goal.returns-clause-coefs
returns-clause-coefs g c version width nl nr may =
    let o = g.F.Field.ops in
    let split = c.in_ok-split.split in
    let more = c.in_ok-more.more in
    let first = c.add_level.new.terms.items in
    let all = c.add_level-2.new.terms.items in
    let marks = is_marked c.in_ok-marks.marks.items in
    let is : c.new.result ≡ cleared o marks all =
    c.new.ensures ∙ c.in_ok-all.ensures ∙ ap (λ ms. cleared o (is_marked ms) all) c.deref.ensures.value in
    let terms = joined-terms o split more (level_wires c.args.first.now c.args.l) (level_wires c.args.second.now c.args.l) width c.in_ok-terms.terms.items first all
    c.in_ok-terms.ensures.items c.in_ok-split.ensures.count c.in_ok-more.ensures.count (c.in_ok-split.ensures.terms width nl) (c.in_ok-more.ensures.terms width nr) in
    let lone = joined-lone o split (level_wires c.args.first.now c.args.l) width marks c.in_ok-terms.terms.items first all c.in_ok-terms.ensures.items c.in_ok-split.ensures.count (c.in_ok-split.ensures.terms width nl)
    (λ t l. c.in_ok-split.ensures.lone marks width nl t l (λ k lt. ap marks (omega arith) ∙ c.in_ok-marks.ensures.left k (omega (arith, lt, c.in_ok-split.ensures.count))))
    (λ t l. c.in_ok-more.ensures.lone marks width nr t l (λ k lt. c.in_ok-marks.ensures.right k (omega (arith, lt, c.in_ok-more.ensures.count)))) in
    subst (MayEachStand o version None) (sym is) (cleared-stands o g.F.Field.coding.size g.F.Field.coding.number g.F.Field.coding.element g.F.Field.coding.bytes g.F.Field.laws marks version (split + more) width None all terms lone tt
    (λ v k lt. let ones = may v in none-marked o g.F.Field.coding.size g.F.Field.coding.number g.F.Field.coding.element g.F.Field.coding.bytes g.F.Field.laws c.args.first.now c.args.second.now c.args.l split more marks c.in_ok-split.ensures.valid c.in_ok-more.ensures.valid ones.0 ones.1
    (λ i l. c.in_ok-marks.ensures.left i l) (λ i l. c.in_ok-marks.ensures.right i l) k lt))

pub returns-clause-short : goal.returns-clause-short
returns-clause-short g c =
    let o = g.F.Field.ops in
    let split = c.in_ok-split.split in
    let more = c.in_ok-more.more in
    let first = c.add_level.new.terms.items in
    let all = c.add_level-2.new.terms.items in
    let marks = is_marked c.in_ok-marks.marks.items in
    let is : c.new.result ≡ cleared o marks all =
    c.new.ensures ∙ c.in_ok-all.ensures ∙ ap (λ ms. cleared o (is_marked ms) all) c.deref.ensures.value in
    omega (arith, ap length is, length-map all (cleared_term o marks), c.in_ok-split.ensures.short, c.in_ok-more.ensures.short, ap length c.in_ok-terms.ensures.items)

pub returns-clause-values : goal.returns-clause-values
returns-clause-values g c x y below j =
    let o = g.F.Field.ops in
    let split = c.in_ok-split.split in
    let more = c.in_ok-more.more in
    let first = c.add_level.new.terms.items in
    let all = c.add_level-2.new.terms.items in
    let marks = is_marked c.in_ok-marks.marks.items in
    let is : c.new.result ≡ cleared o marks all =
    c.new.ensures ∙ c.in_ok-all.ensures ∙ ap (λ ms. cleared o (is_marked ms) all) c.deref.ensures.value in
    let terms = joined-terms o split more (level_wires c.args.first.now c.args.l) (level_wires c.args.second.now c.args.l) (length below) c.in_ok-terms.terms.items first all
    c.in_ok-terms.ensures.items c.in_ok-split.ensures.count c.in_ok-more.ensures.count (c.in_ok-split.ensures.terms (length below) j.left_below) (c.in_ok-more.ensures.terms (length below) j.right_below) in
    let lone = joined-lone o split (level_wires c.args.first.now c.args.l) (length below) marks c.in_ok-terms.terms.items first all c.in_ok-terms.ensures.items c.in_ok-split.ensures.count (c.in_ok-split.ensures.terms (length below) j.left_below)
    (λ t l. c.in_ok-split.ensures.lone marks (length below) j.left_below t l (λ k lt. ap marks (omega arith) ∙ c.in_ok-marks.ensures.left k (omega (arith, lt, c.in_ok-split.ensures.count))))
    (λ t l. c.in_ok-more.ensures.lone marks (length below) j.right_below t l (λ k lt. c.in_ok-marks.ensures.right k (omega (arith, lt, c.in_ok-more.ensures.count)))) in
    let none : AreTerms o 0 (length below) None c.in_ok-terms.terms.items = subst (AreTerms o 0 (length below) None) (sym c.in_ok-terms.ensures.items) tt in
    let one : AreTerms o split (length below) None first =
    subst (λ k. AreTerms o k (length below) None first) (omega (arith, c.in_ok-split.ensures.count)) (c.in_ok-split.ensures.terms (length below) j.left_below none) in
    let level = joined-level o g.F.Field.coding.size g.F.Field.coding.number g.F.Field.coding.element g.F.Field.coding.bytes g.F.Field.laws c.args.first.now c.args.second.now c.args.l split more (record { wires = split + more; terms = c.new.result }) x y below marks first all
    c.in_ok-split.ensures.valid c.in_ok-more.ensures.valid refl is c.in_ok-split.ensures.count c.in_ok-more.ensures.count j.first_count j.second_count terms lone
    (c.in_ok-more.ensures.before below)
    (c.in_ok-split.ensures.values x below j.first_count j.first_one j.left_below j.left_copies none)
    (c.in_ok-more.ensures.values y below j.second_count j.second_one j.right_below j.right_copies one)
    (λ k lt. c.in_ok-marks.ensures.left k lt) (λ k lt. c.in_ok-marks.ensures.right k lt) in
    level.values

pub returns-clause-first : goal.returns-clause-first
returns-clause-first g c x y below j =
    let o = g.F.Field.ops in
    let split = c.in_ok-split.split in
    let more = c.in_ok-more.more in
    let first = c.add_level.new.terms.items in
    let all = c.add_level-2.new.terms.items in
    let marks = is_marked c.in_ok-marks.marks.items in
    let is : c.new.result ≡ cleared o marks all =
    c.new.ensures ∙ c.in_ok-all.ensures ∙ ap (λ ms. cleared o (is_marked ms) all) c.deref.ensures.value in
    let terms = joined-terms o split more (level_wires c.args.first.now c.args.l) (level_wires c.args.second.now c.args.l) (length below) c.in_ok-terms.terms.items first all
    c.in_ok-terms.ensures.items c.in_ok-split.ensures.count c.in_ok-more.ensures.count (c.in_ok-split.ensures.terms (length below) j.left_below) (c.in_ok-more.ensures.terms (length below) j.right_below) in
    let lone = joined-lone o split (level_wires c.args.first.now c.args.l) (length below) marks c.in_ok-terms.terms.items first all c.in_ok-terms.ensures.items c.in_ok-split.ensures.count (c.in_ok-split.ensures.terms (length below) j.left_below)
    (λ t l. c.in_ok-split.ensures.lone marks (length below) j.left_below t l (λ k lt. ap marks (omega arith) ∙ c.in_ok-marks.ensures.left k (omega (arith, lt, c.in_ok-split.ensures.count))))
    (λ t l. c.in_ok-more.ensures.lone marks (length below) j.right_below t l (λ k lt. c.in_ok-marks.ensures.right k (omega (arith, lt, c.in_ok-more.ensures.count)))) in
    let none : AreTerms o 0 (length below) None c.in_ok-terms.terms.items = subst (AreTerms o 0 (length below) None) (sym c.in_ok-terms.ensures.items) tt in
    let one : AreTerms o split (length below) None first =
    subst (λ k. AreTerms o k (length below) None first) (omega (arith, c.in_ok-split.ensures.count)) (c.in_ok-split.ensures.terms (length below) j.left_below none) in
    let level = joined-level o g.F.Field.coding.size g.F.Field.coding.number g.F.Field.coding.element g.F.Field.coding.bytes g.F.Field.laws c.args.first.now c.args.second.now c.args.l split more (record { wires = split + more; terms = c.new.result }) x y below marks first all
    c.in_ok-split.ensures.valid c.in_ok-more.ensures.valid refl is c.in_ok-split.ensures.count c.in_ok-more.ensures.count j.first_count j.second_count terms lone
    (c.in_ok-more.ensures.before below)
    (c.in_ok-split.ensures.values x below j.first_count j.first_one j.left_below j.left_copies none)
    (c.in_ok-more.ensures.values y below j.second_count j.second_one j.right_below j.right_copies one)
    (λ k lt. c.in_ok-marks.ensures.left k lt) (λ k lt. c.in_ok-marks.ensures.right k lt) in
    level.first

pub returns-clause-second : goal.returns-clause-second
returns-clause-second g c x y below j =
    let o = g.F.Field.ops in
    let split = c.in_ok-split.split in
    let more = c.in_ok-more.more in
    let first = c.add_level.new.terms.items in
    let all = c.add_level-2.new.terms.items in
    let marks = is_marked c.in_ok-marks.marks.items in
    let is : c.new.result ≡ cleared o marks all =
    c.new.ensures ∙ c.in_ok-all.ensures ∙ ap (λ ms. cleared o (is_marked ms) all) c.deref.ensures.value in
    let terms = joined-terms o split more (level_wires c.args.first.now c.args.l) (level_wires c.args.second.now c.args.l) (length below) c.in_ok-terms.terms.items first all
    c.in_ok-terms.ensures.items c.in_ok-split.ensures.count c.in_ok-more.ensures.count (c.in_ok-split.ensures.terms (length below) j.left_below) (c.in_ok-more.ensures.terms (length below) j.right_below) in
    let lone = joined-lone o split (level_wires c.args.first.now c.args.l) (length below) marks c.in_ok-terms.terms.items first all c.in_ok-terms.ensures.items c.in_ok-split.ensures.count (c.in_ok-split.ensures.terms (length below) j.left_below)
    (λ t l. c.in_ok-split.ensures.lone marks (length below) j.left_below t l (λ k lt. ap marks (omega arith) ∙ c.in_ok-marks.ensures.left k (omega (arith, lt, c.in_ok-split.ensures.count))))
    (λ t l. c.in_ok-more.ensures.lone marks (length below) j.right_below t l (λ k lt. c.in_ok-marks.ensures.right k (omega (arith, lt, c.in_ok-more.ensures.count)))) in
    let none : AreTerms o 0 (length below) None c.in_ok-terms.terms.items = subst (AreTerms o 0 (length below) None) (sym c.in_ok-terms.ensures.items) tt in
    let one : AreTerms o split (length below) None first =
    subst (λ k. AreTerms o k (length below) None first) (omega (arith, c.in_ok-split.ensures.count)) (c.in_ok-split.ensures.terms (length below) j.left_below none) in
    let level = joined-level o g.F.Field.coding.size g.F.Field.coding.number g.F.Field.coding.element g.F.Field.coding.bytes g.F.Field.laws c.args.first.now c.args.second.now c.args.l split more (record { wires = split + more; terms = c.new.result }) x y below marks first all
    c.in_ok-split.ensures.valid c.in_ok-more.ensures.valid refl is c.in_ok-split.ensures.count c.in_ok-more.ensures.count j.first_count j.second_count terms lone
    (c.in_ok-more.ensures.before below)
    (c.in_ok-split.ensures.values x below j.first_count j.first_one j.left_below j.left_copies none)
    (c.in_ok-more.ensures.values y below j.second_count j.second_one j.right_below j.right_copies one)
    (λ k lt. c.in_ok-marks.ensures.left k lt) (λ k lt. c.in_ok-marks.ensures.right k lt) in
    level.second
