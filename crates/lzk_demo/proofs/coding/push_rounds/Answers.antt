use Rattle.std.proofs.Common.{◌≡◌, ◌++◌, ◌+◌, ◌/◌, List, length, ap, subst, sym, ◌∙◌, arith}
use Rattle.lzk_expr.specs.Trees.{Statement}
use Rattle.lzk_demo.specs.declared.entry.Entry.{Entry}
use Rattle.lzk_demo.specs.Demo.{paired, round_lets, rounds}
use Rattle.lzk_demo.specs.Words.{AreWordsOf}
use Rattle.lzk_demo.proofs.Written.{fewer, some_left, same_sum}
use Rattle.lzk_demo.proofs.WordLaws.{AreRoundsLeft, round_words, last_words}
use Rattle.lzk_demo.proofs.coding.push_rounds.Goals as goal

pub loop-alloc-smaller : goal.loop-alloc-smaller
loop-alloc-smaller c =
    let es = c.loop-alloc.entries.items in
    fewer c.loop-alloc.made es c.in-Ok.list.items (c.in-Ok.ensures.list ∙ ap (paired c.loop-alloc.made) c.deref.ensures.value) (omega (arith, c.len.ensures))

pub loop-alloc-preserved : goal.loop-alloc-preserved
loop-alloc-preserved c =
    let es = c.loop-alloc.entries.items in
    let k = c.loop-alloc.made in
    let ds = c.in-Ok.list.items in
    let old = c.loop-alloc.words.items in
    let new = c.push_round.new.words.items in
    let list : ds ≡ paired k es = c.in-Ok.ensures.list ∙ ap (paired k) c.deref.ensures.value in
    let h = c.loop-alloc.invariant in
    let long : c.len-in-loop-alloc.result ≡ length es = c.len-in-loop-alloc.ensures ∙ c.loop-alloc.entries.ok.0 in
    let more : (ss : List Statement) → AreWordsOf ss old → AreWordsOf (ss ++ round_lets k es) new =
    λ ss is. subst (λ (l : List Entry). AreWordsOf (ss ++ round_lets k l) new) c.deref.ensures.value (c.in-Ok.ensures.lets ss is) in
    record {
      some = some_left k es ds list h.some;
      few = omega (arith, same_sum k es ds list, h.few, long);
      made = λ ss is. let whole = ss ++ rounds (length c.args.inputs.items) 0 c.args.inputs.items in
          subst (λ m. AreRoundsLeft new (k + m / 2) ds whole) (sym long) (round_words k es ds whole old new (omega (arith, c.len.ensures)) list more (h.made ss is));
    }

pub returns : goal.returns
returns c =
    λ ss is. let h = c.loop-alloc.invariant in
    let es = c.loop-alloc.entries.items in
    let whole = ss ++ rounds (length c.args.inputs.items) 0 c.args.inputs.items in
    last_words c.loop-alloc.made es c.index.result.now whole c.loop-alloc.words.items c.push_assert.new.words.items c.push_assert.result h.some (omega (arith, c.len.ensures)) c.index.ensures c.push_assert.ensures (h.made ss is)
