use Rattle.std.proofs.Common.{◌≡◌, ℕ, ◌+◌, ◌∙◌, ◌↔◌, List, ◌++◌, length, take, drop, ap, sym, subst, arith, length-append}
use Rattle.std.specs.List.{range_with_len}
use Rattle.lzk_goldilocks.specs.Elements.{ops, number}
use Rattle.lzk_goldilocks.specs.declared.element.Gold.{Gold}
use Rattle.lzk_circuit.specs.Checks.{IsSatisfied}
use Rattle.lzk_circuit.specs.Wires.{inputs_of}
use Rattle.lzk_circuit_reduce.specs.Renumbering.{AreNumbersBelow}
use Rattle.lzk_circuit_beside.specs.Chosen.{chosen}
use Rattle.lzk_policy_inputs.proofs.Seen.{rows_below, length-rows, shown_seen, path_seen}
use Rattle.lzk_policy_inputs.proofs.root_circuit.joined.Goals as goal

abbrev rows : ℕ → ℕ → ℕ → ℕ → ℕ → List ℕ
rows a b m c n = (range_with_len a 8 ++ range_with_len b m) ++ range_with_len c n

pub invariant_of-first : goal.invariant_of-first
invariant_of-first c =
    let v = c.args.more in
    let n = c.privates-first_privates.result in
    let long = ap length (c.deref.ensures.value ∙ c.in-Ok.ensures) ∙ length-rows (9 + v + n) 9 v (9 + v) n in
    record { version = c.requires.shown_version; count = omega (arith, long, c.requires.shown_publics, c.privates-first_privates.ensures) }

pub invariant_of-second : goal.invariant_of-second
invariant_of-second c =
    let v = c.args.more in
    let n = c.privates-first_privates.result in
    let m = c.privates-second_privates.result in
    let long = ap length (c.deref-2.ensures.value ∙ c.in-Ok-places_of.ensures) ∙ length-rows (9 + v + n) 1 8 (9 + v + n + 8) m in
    record { version = c.requires.path_version; count = omega (arith, long, c.requires.path_publics, c.privates-second_privates.ensures) }

pub beside-requires-clause-first : goal.beside-requires-clause-first
beside-requires-clause-first c κs =
    let v = c.args.more in
    let n = c.privates-first_privates.result in
    let m = c.privates-second_privates.result in
    let width = 1 + (8 + v) + (n + 8 + m) in
    subst (AreNumbersBelow width) (sym (c.deref.ensures.value ∙ c.in-Ok.ensures))
    (rows_below width (9 + v + n) 9 v (9 + v) n (omega arith) (omega arith) (omega arith))

pub beside-requires-clause-second : goal.beside-requires-clause-second
beside-requires-clause-second c κs =
    let v = c.args.more in
    let n = c.privates-first_privates.result in
    let m = c.privates-second_privates.result in
    let width = 1 + (8 + v) + (n + 8 + m) in
    subst (AreNumbersBelow width) (sym (c.deref-2.ensures.value ∙ c.in-Ok-places_of.ensures))
    (rows_below width (9 + v + n) 1 8 (9 + v + n + 8) m (omega arith) (omega arith) (omega arith))

pub returns-in-Ok-beside-clause-satisfied : goal.returns-in-Ok-beside-clause-satisfied
returns-in-Ok-beside-clause-satisfied c = λ root values private lr lv lp.
    let v = c.args.more in
    let shown = c.args.shown.now in
    let path = c.args.path.now in
    let n = shown.privates in
    let m = path.privates in
    let en = c.privates-first_privates.ensures in
    let em = c.privates-second_privates.ensures in
    let whole = c.in-Ok-beside.whole in
    let xs = inputs_of ops (root ++ values) private in
    let W = IsSatisfied ops number whole.layers xs in
    let S = λ (l : List Gold). IsSatisfied ops number shown.layers l in
    let R = λ (l : List Gold). IsSatisfied ops number path.layers l in
    let lower : c.deref.result.now ≡ rows (9 + v + n) 9 v (9 + v) n =
    c.deref.ensures.value ∙ c.in-Ok.ensures ∙ (λ i. rows (9 + v + en i) 9 v (9 + v) (en i)) in
    let upper : c.deref-2.result.now ≡ rows (9 + v + n) 1 8 (9 + v + n + 8) m =
    c.deref-2.ensures.value ∙ c.in-Ok-places_of.ensures ∙ (λ i. rows (9 + v + en i) 1 8 (9 + v + en i + 8) (em i)) in
    let seen = ap (λ (l : List ℕ). chosen ops l xs) lower ∙ shown_seen ops root values private n m lr lp v lv in
    let climbed = ap (λ (l : List ℕ). chosen ops l xs) upper ∙ path_seen ops root values private n m lr lp v lv in
    let publics : length (root ++ values) ≡ 8 + v = omega (arith, length-append root values, lr, lv) in
    let privates : length private ≡ c.privates-first_privates.result + 8 + c.privates-second_privates.result = omega (arith, lp, en, em) in
    let both = c.in-Ok-beside.ensures.satisfied (root ++ values) private publics privates in
    subst (λ (l : List Gold). W ↔ (S (inputs_of ops (take 8 (drop n private) ++ values) (take n private)) × R l)) climbed
    (subst (λ (l : List Gold). W ↔ (S l × R (chosen ops c.deref-2.result.now xs))) seen both)
