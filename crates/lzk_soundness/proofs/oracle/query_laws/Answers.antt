use Rattle.std.specs.Prelude.{◌≡◌, true}
use Rattle.lzk_soundness.proofs.OracleLaws.Queries.{tries_add, queries_told, collisions_few}
use Rattle.lzk_soundness.proofs.OracleLaws.Hits.{hits_few}
use Rattle.lzk_soundness.proofs.oracle.query_laws.Goals as goal

pub returns-clause-ordered : goal.returns-clause-ordered
returns-clause-ordered g c = λ same none answers questions by tries weight wrong ask wins few asker. tries_add same none answers questions by weight (λ earlier oracle n. wrong earlier oracle n ≡ true) few tries ask wins asker

pub returns-clause-queries : goal.returns-clause-queries
returns-clause-queries g c = λ same none answers questions by tries wrong ask wins few inside only. queries_told same none answers questions by tries wrong ask wins few inside only

pub returns-clause-collisions : goal.returns-clause-collisions
returns-clause-collisions g c = λ same none answers questions tries ask wins distinct inside only. collisions_few same none answers questions distinct tries ask wins inside only

pub returns-clause-hits : goal.returns-clause-hits
returns-clause-hits g c = λ same none answers questions tries most names ask wins distinct few asker. hits_few same none answers questions most names distinct few tries ask wins asker
