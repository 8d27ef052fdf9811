use Rattle.std.proofs.Common.{arith, map, subst, ℕ, List, refl, Some, Bor, Option}
use Rattle.std.proofs.lemmas.List.{length-map}
use Rattle.lzk_expr.specs.Texts.{runs, is_plain, content}
use Rattle.lzk_expr.specs.Numbers.{Fails, words_to, numbers_of}
use Rattle.lzk_expr.specs.declared.fault.NumberError.{NumberError}
use Rattle.lzk_expr.specs.declared.fault.NumberError.TheVariants as errors
use Rattle.lzk_expr.proofs.Taking.{Left, left_next, left_stop, left_few, left_done, IsNext}
use Rattle.lzk_expr.proofs.numbers.numbers.Goals as goal

pub loop-left-init : goal.loop-left-init
loop-left-init g c = record { at = omega arith; room = omega arith; read = rw c.new-found.ensures.items refl }

stopped : (size count line : ℕ) (text now have : List ℕ) (behind : Bor (List ℕ)) (after : Option (Bor (List ℕ))) (e : NumberError) → IsNext behind.now now after → Left size count line text (Some behind) have
    → Fails e (words_to size count line (runs is_plain (content now)) have) → Fails e (numbers_of size count text)
stopped size count line text now have behind after errors.OutOfMemory next h e = tt
stopped size count line text now have behind after (errors.Fault f) next h e = left_stop size count line text now have behind after f next h e

pub returns-in-Err : goal.returns-in-Err
returns-in-Err g c =
    let size = g.F.Field.coding.size in
    let have = map g.F.Field.coding.number c.loop-left.found.items in
    let now = c.next_line.result.0.now in
    let e = subst (λ (t : List ℕ). Fails c.in-Err.e (words_to size c.args.count c.loop-left.line (runs is_plain t) have)) c.content.ensures c.in-Err.ensures in
    stopped size c.args.count c.loop-left.line c.args.text.now.bytes.now now have c.in-Some.behind c.next_line.result.1 c.in-Err.e c.next_line.ensures (subst (λ o. Left size c.args.count c.loop-left.line c.args.text.now.bytes.now o have) c.in-Some.is c.loop-left.invariant) e

pub loop-left-preserved : goal.loop-left-preserved
loop-left-preserved g c =
    let size = g.F.Field.coding.size in
    let have = map g.F.Field.coding.number c.loop-left.found.items in
    let more = map g.F.Field.coding.number c.take_words.new.found.items in
    let now = c.next_line.result.0.now in
    let e = rw c.content.ensures at c.in-Ok.ensures in
    left_next size c.args.count c.loop-left.line c.args.text.now.bytes.now now have more c.in-Some.behind c.next_line.result.1 c.next_line.ensures (subst (λ o. Left size c.args.count c.loop-left.line c.args.text.now.bytes.now o have) c.in-Some.is c.loop-left.invariant) e

pub returns-then-len-count : goal.returns-then-len-count
returns-then-len-count g c =
    let size = g.F.Field.coding.size in
    let have = map g.F.Field.coding.number c.loop-left.found.items in
    left_few size c.args.count c.loop-left.line c.args.text.now.bytes.now have (subst (λ o. Left size c.args.count c.loop-left.line c.args.text.now.bytes.now o have) c.in_default.is c.loop-left.invariant) (omega (arith, length-map c.loop-left.found.items g.F.Field.coding.number, c.len.ensures, c.if-len-count.true))

pub returns : goal.returns
returns g c =
    let size = g.F.Field.coding.size in
    let have = map g.F.Field.coding.number c.loop-left.found.items in
    left_done size c.args.count c.loop-left.line c.args.text.now.bytes.now have (subst (λ o. Left size c.args.count c.loop-left.line c.args.text.now.bytes.now o have) c.in_default.is c.loop-left.invariant) (omega (arith, length-map c.loop-left.found.items g.F.Field.coding.number, c.len.ensures, c.if-len-count.false))
