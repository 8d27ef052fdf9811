use Rattle.std.proofs.Common.{◌≡◌, ◌∙◌, ◌+◌, ◌++◌, ◌∷◌, [], ap, ap₂, refl, length, arith}
use Rattle.std.proofs.lemmas.List.{length-append}
use Rattle.std.proofs.lemmas.Result.{on_ok_weaker}
use Rattle.lzk_level.specs.declared.gates.Made.TheVariants.{Combine}
use Rattle.lzk_level.proofs.ResultLaws.{and-err, and-ok}
use Rattle.lzk_level.proofs.gates.append_one.Goals as goal

pub returns-then-begin-ge-MOST_PARTS-clause-same : goal.returns-then-begin-ge-MOST_PARTS-clause-same
returns-then-begin-ge-MOST_PARTS-clause-same g c = refl

pub overflow_cast-begin : goal.overflow_cast-begin
overflow_cast-begin g c = omega (arith, c.if-begin-ge-MOST_PARTS.false)

pub overflow_cast-begin-2 : goal.overflow_cast-begin-2
overflow_cast-begin-2 g c = omega (arith, c.if-begin-ge-MOST_PARTS.false)

pub overflow_add-begin : goal.overflow_add-begin
overflow_add-begin g c = omega (arith, c.if-begin-ge-MOST_PARTS.false)

pub returns-clause-added : goal.returns-clause-added
returns-clause-added g c =
    let old = c.args.list.now.items in
    let new = c.push.new.list.items in
    let made = Combine c.len-begin.result (c.len-begin.result + 1) in
    and-ok c.push.result c.and.result made (λ _. new ≡ old ++ (c.args.part ∷ [])) c.and.ensures c.push.ensures.added

pub returns-clause-sum : goal.returns-clause-sum
returns-clause-sum g c =
    let old = c.args.list.now.items in
    let new = c.push.new.list.items in
    let made = Combine c.len-begin.result (c.len-begin.result + 1) in
    let begin = c.len-begin.ensures ∙ c.args.list.now.ok.0 in
    and-ok c.push.result c.and.result made (λ m. m ≡ Combine (length old) (length new)) c.and.ensures
    (on_ok_weaker c.push.result (λ e. let end : (c.len-begin.result + 1) ≡ length new = omega (arith, begin, ap length e, length-append old (c.args.part ∷ [])) in ap₂ (λ i j. Combine i j) begin end)
    c.push.ensures.added)

pub returns-clause-same : goal.returns-clause-same
returns-clause-same g c =
    let old = c.args.list.now.items in
    let new = c.push.new.list.items in
    let made = Combine c.len-begin.result (c.len-begin.result + 1) in
    and-err c.push.result c.and.result made (new ≡ old) c.and.ensures c.push.ensures.same
