use Rattle.lzk_source.proofs.ParseLaws.{only_source, only_built}
use Rattle.lzk_source.proofs.parsing.parse.Goals as goal

pub returns-clause-only : goal.returns-clause-only
returns-clause-only c = only_source c.args.text.now c.source.result c.source.ensures

pub returns-clause-built : goal.returns-clause-built
returns-clause-built c = only_built c.args.text.now c.source.result c.source.ensures
