-- Changes of a proof's answers.
use Rattle.lzk_profile.specs.Profile.{opened_count}
use Rattle.std.specs.Prelude.{ℕ, ◌<◌, ◌≤◌, ◌⊎◌}
use Rattle.lzk_field.specs.Ring.{Ops}
use Rattle.lzk_layout.specs.declared.params.Params.{Params}
use Rattle.lzk_ligero_answers.specs.Answers.{changed}
use Rattle.lzk_ligero_proof.specs.declared.answer.Answer.{Answer}
use Rattle.lzk_ligero_proof.specs.declared.answer.Answer.TheVariants.{LowDegree, Dot, Quad}
use Rattle.lzk_ligero_proof.specs.Answered.{Answers}

-- nothing is changed
abbrev pub unchanged : {A : Type 0} → Answers A → Answers A
unchanged answers = answers

-- something is added to value n of one of them
abbrev pub with_added : {A : Type 0} → Ops A → Answer → ℕ → A → Answers A → Answers A
with_added o LowDegree n by answers = record answers { low_degree = changed o answers.low_degree n by }
with_added o Dot n by answers = record answers { linear = changed o answers.linear n by }
with_added o Quad n by answers = record answers { quadratic = changed o answers.quadratic n by }

-- value n of an answer is sent
abbrev pub IsSentPlace : Params → Answer → ℕ → Type 0
IsSentPlace p LowDegree n = n < p.block
IsSentPlace p Dot n = n < p.dblock
IsSentPlace p Quad n = (n < p.dblock) × ((n < opened_count) ⊎ (p.block ≤ n))
