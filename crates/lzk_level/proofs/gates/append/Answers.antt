use Rattle.std.proofs.Common.{◌≡◌, ◌∙◌, ◌+◌, ◌++◌, ap, ap₂, refl, length, arith}
use Rattle.std.proofs.lemmas.List.{length-append}
use Rattle.std.proofs.lemmas.Result.{on_ok_weaker}
use Rattle.lzk_level.specs.declared.gates.Made.TheVariants.{Combine}
use Rattle.lzk_level.proofs.ResultLaws.{and-err, and-ok, err-second, ok-first}
use Rattle.lzk_level.proofs.gates.append.Goals as goal

pub returns-then-end-gt-MOST_PARTS-clause-same : goal.returns-then-end-gt-MOST_PARTS-clause-same
returns-then-end-gt-MOST_PARTS-clause-same g c = refl

pub overflow_cast-begin : goal.overflow_cast-begin
overflow_cast-begin g c = omega (arith, c.saturating_add-end.ensures, c.if-end-gt-MOST_PARTS.false)

pub overflow_cast-end : goal.overflow_cast-end
overflow_cast-end g c = omega (arith, c.if-end-gt-MOST_PARTS.false)

pub returns-clause-added : goal.returns-clause-added
returns-clause-added g c =
    let old = c.args.list.now.items in
    let new = c.extend_from_slice.new.self.items in
    let made = Combine c.len-begin.result c.saturating_add-end.result in
    and-ok c.extend_from_slice.result c.and.result made (λ _. new ≡ old ++ c.args.parts.now) c.and.ensures (ok-first c.extend_from_slice.result new (old ++ c.args.parts.now) old c.extend_from_slice.ensures.items)

pub returns-clause-sum : goal.returns-clause-sum
returns-clause-sum g c =
    let old = c.args.list.now.items in
    let new = c.extend_from_slice.new.self.items in
    let made = Combine c.len-begin.result c.saturating_add-end.result in
    let begin = c.len-begin.ensures ∙ c.args.list.now.ok.0 in
    and-ok c.extend_from_slice.result c.and.result made (λ m. m ≡ Combine (length old) (length new)) c.and.ensures
    (on_ok_weaker c.extend_from_slice.result (λ e. let end : c.saturating_add-end.result ≡ length new = omega (arith, c.saturating_add-end.ensures, c.if-end-gt-MOST_PARTS.false, begin, ap length e, length-append old c.args.parts.now) in ap₂ (λ i j. Combine i j) begin end)
    (ok-first c.extend_from_slice.result new (old ++ c.args.parts.now) old c.extend_from_slice.ensures.items))

pub returns-clause-same : goal.returns-clause-same
returns-clause-same g c =
    let old = c.args.list.now.items in
    let new = c.extend_from_slice.new.self.items in
    let made = Combine c.len-begin.result c.saturating_add-end.result in
    and-err c.extend_from_slice.result c.and.result made (new ≡ old) c.and.ensures (err-second c.extend_from_slice.result new (old ++ c.args.parts.now) old c.extend_from_slice.ensures.items)
