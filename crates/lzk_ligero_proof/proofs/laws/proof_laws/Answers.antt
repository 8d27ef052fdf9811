use Rattle.lzk_ligero_proof.proofs.FileSizes.{files-fit}
use Rattle.lzk_ligero_proof.proofs.OneProof.{one-file}
use Rattle.lzk_ligero_proof.proofs.SomeProof.{some-file}
use Rattle.lzk_ligero_proof.proofs.laws.proof_laws.Goals as goal

pub returns-clause-one : goal.returns-clause-one
returns-clause-one g c = let f = g.F.Field in one-file f.ops f.coding

pub returns-clause-fit : goal.returns-clause-fit
returns-clause-fit g c = let f = g.F.Field in files-fit f.ops f.coding f.laws.numbers.few_bytes

pub returns-clause-some : goal.returns-clause-some
returns-clause-some g c = let f = g.F.Field in some-file f.ops f.coding
