use Rattle.std.proofs.Common.{sym, subst}
use Rattle.lzk_expr.specs.Codes.{Coded, IsCodeOf}
use Rattle.lzk_demo.specs.Demo.{demo_tree}
use Rattle.lzk_demo.proofs.Coded.{coded, demo_coded, some_code}
use Rattle.lzk_demo.proofs.Written.{inputs_few}
use Rattle.lzk_demo.proofs.coding.demo_code.Goals as goal

pub push_rounds-requires-clause-few : goal.push_rounds-requires-clause-few
push_rounds-requires-clause-few c = inputs_few c.args.n c.in-Ok-inputs.inputs.items c.in-Ok-inputs.ensures c.requires.few

pub new-requires : goal.new-requires
new-requires c =
    some_code c.args.n c.push_rounds.new.words.items c.in-Ok-vec.numbers.items c.requires.some c.requires.few
    (demo_coded c.args.n c.in-Ok-inputs.inputs.items c.in-Ok.words.items c.push_rounds.new.words.items c.in-Ok-vec.numbers.items c.in-Ok-inputs.ensures c.in-Ok.ensures.items c.in-Ok-vec.ensures.items c.in-Ok-push_rounds.ensures)

pub returns : goal.returns
returns c =
    subst (λ (code : Coded). IsCodeOf code (demo_tree c.args.n)) (sym c.new.ensures)
    (demo_coded c.args.n c.in-Ok-inputs.inputs.items c.in-Ok.words.items c.push_rounds.new.words.items c.in-Ok-vec.numbers.items c.in-Ok-inputs.ensures c.in-Ok.ensures.items c.in-Ok-vec.ensures.items c.in-Ok-push_rounds.ensures)
