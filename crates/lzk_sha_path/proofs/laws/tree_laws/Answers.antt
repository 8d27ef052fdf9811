use Rattle.lzk_sha_path.proofs.Trees.{leaves, lead, climb}
use Rattle.lzk_sha_path.proofs.laws.tree_laws.Goals as goal

pub returns-clause-leaves : goal.returns-clause-leaves
returns-clause-leaves c = leaves

pub returns-clause-lead : goal.returns-clause-lead
returns-clause-lead c = lead

pub returns-clause-climb : goal.returns-clause-climb
returns-clause-climb c = climb
