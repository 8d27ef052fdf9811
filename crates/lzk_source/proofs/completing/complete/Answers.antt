use Rattle.std.proofs.Common.{sym, vec_len}
use Rattle.lzk_source.specs.Growing.{exprs_in}
use Rattle.lzk_source.specs.Heads.{head_of, heads_of}
use Rattle.lzk_source.proofs.Completion.{all_left, next_last, last_ended, one_made, none_left}
use Rattle.lzk_source.proofs.Popped.{popped_none}
use Rattle.lzk_source.proofs.completing.complete.Goals as goal

pub loop-head-init : goal.loop-head-init
loop-head-init c = λ ss h e. all_left ss c.args.heads.now.items c.args.ended.now.items c.args.statements.now.items c.requires h e

pub loop-head-preserved : goal.loop-head-preserved
loop-head-preserved c = λ ss h e.
    let at = c.loop-head in
    let rest = c.pop.new.self.items in
    let head = c.in-Some.head in
    let l = at.invariant ss h e in
    let k = next_last ss at.heads.items rest at.ended.items at.statements.items head l c.in-Some.ensures.items in
    let made = c.completed.ensures (exprs_in k.front) k.last (sym k.last_is) (last_ended ss at.heads.items at.ended.items at.statements.items (heads_of rest) (head_of head) l k) in
    one_made ss at.heads.items rest at.ended.items c.completed.new.ended.items at.statements.items c.push.new.list.items head c.completed.result l k made.0 made.1 c.in-Ok.ensures

pub returns : goal.returns
returns c = λ ss h e.
    let at = c.loop-head in
    let none = popped_none (vec_len at.heads) at.heads.items c.pop.new.self.items c.in_default.ensures.cases.0 c.in_default.ensures.rest c.in_default.ensures.items in
    none_left ss at.heads.items at.ended.items at.statements.items c.reverse.new.self.items (at.invariant ss h e) none c.reverse.ensures.items
