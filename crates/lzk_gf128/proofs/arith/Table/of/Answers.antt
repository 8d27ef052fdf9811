use Rattle.std.proofs.Common.{rules, refl, arith}
use Rattle.lzk_gf128.proofs.Multiples.{words-more}
use Rattle.lzk_gf128.proofs.arith.Table.of.Goals as goal

pub loop-i-init : goal.loop-i-init
loop-i-init c = record { lows = refl; highs = refl; words = λ j h. absurd (omega (arith, h)) }

pub loop-i-preserved : goal.loop-i-preserved
loop-i-preserved c = words-more c.args.all.now c.loop-i.table.low c.loop-i.table.high c.loop-i.i _ c.loop-i-test.true refl (search rules) c.loop-i.invariant

pub returns : goal.returns
returns c i h = c.loop-i.invariant.words i (omega (arith, h, c.loop-i-test.false))
