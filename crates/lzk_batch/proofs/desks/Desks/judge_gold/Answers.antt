use Rattle.std.proofs.Common.{refl, ap, sym, subst, ◌∙◌, length, arith}
use Rattle.std.specs.Prelude.{IfOk, slice_get}
use Rattle.std.proofs.lemmas.Option.{slice_get_within}
use Rattle.std.proofs.lemmas.List.{length-map}
use Rattle.lzk_circbytes.specs.declared.any.AnyCircuit.TheVariants as circuits
use Rattle.lzk_circbytes.specs.Files.{id_of_any}
use Rattle.lzk_batch.specs.declared.job.Job.TheVariants as jobs
use Rattle.lzk_batch.specs.Batch.{IsJobFit, HasVerdict}
use Rattle.lzk_batch.proofs.JobLaws.{gold_alone, gold_there, gold_fits, gold_id, gold_kept, gold_at, only_gold}
use Rattle.lzk_batch.proofs.desks.Desks.judge_gold.Goals as goal
use Rattle.lzk_batch.proofs.desks.Desks.judge_gold.Goals.{in-Ok, in-Err}

pub bounds-circuits-job : goal.bounds-circuits-job
bounds-circuits-job c =
    let fit = subst (λ b. IsJobFit b (jobs.Gold c.args.job.now)) (sym c.self.view_is) c.requires.fit in
    slice_get_within c.self.inside.circuits.now c.args.job.now.circuit fit.circuit fit.there

pub unreachable-requires : goal.unreachable-requires
unreachable-requires c =
    let fit = subst (λ b. IsJobFit b (jobs.Gold c.args.job.now)) (sym c.self.view_is) c.requires.fit in
    gold_alone c.self.inside.circuits.now c.args.job.now fit c.index-circuits-job.result c.index-circuits-job.is c.in_default.not-Gold

pub same-self : goal.same-self
same-self c = refl

pub unreachable-unreachable : goal.unreachable-unreachable
unreachable-unreachable c =
    let fit = subst (λ b. IsJobFit b (jobs.Gold c.args.job.now)) (sym c.self.view_is) c.requires.fit in
    gold_alone c.self.inside.circuits.now c.args.job.now fit c.index-circuits-job.result c.index-circuits-job.is c.in_default.not-Gold

pub bounds-self-inside-job : goal.bounds-self-inside-job
bounds-self-inside-job c =
    let d = c.self.inside in
    let fit = subst (λ b. IsJobFit b (jobs.Gold c.args.job.now)) (sym c.self.view_is) c.requires.fit in
    omega (arith, slice_get_within d.circuits.now c.args.job.now.circuit fit.circuit fit.there, ap length c.self.invariant.0, length-map d.circuits.now id_of_any)

pub judge_over-requires-clause-fit : goal.judge_over-requires-clause-fit
judge_over-requires-clause-fit c κs =
    let d = c.self.inside in
    let job = c.args.job.now in
    let fit = subst (λ b. IsJobFit b (jobs.Gold job)) (sym c.self.view_is) c.requires.fit in
    let circuit = c.in-Gold.circuit in
    gold_fits d.circuits.now job fit circuit c.index-circuits-job.result c.index-circuits-job.is c.in-Gold.is

pub judge_over-requires-clause-id : goal.judge_over-requires-clause-id
judge_over-requires-clause-id c κs =
    let d = c.self.inside in
    let job = c.args.job.now in
    let fit = subst (λ b. IsJobFit b (jobs.Gold job)) (sym c.self.view_is) c.requires.fit in
    let circuit = c.in-Gold.circuit in
    gold_id d.circuits.now job fit circuit c.index-circuits-job.result c.index-circuits-job.is c.in-Gold.is d.ids.now c.self.invariant.0

pub judge_over-requires-clause-kept : goal.judge_over-requires-clause-kept
judge_over-requires-clause-kept c κs =
    let d = c.self.inside in
    let job = c.args.job.now in
    let fit = subst (λ b. IsJobFit b (jobs.Gold job)) (sym c.self.view_is) c.requires.fit in
    let circuit = c.in-Gold.circuit in
    λ x is same. gold_kept d.circuits.now job fit circuit c.index-circuits-job.result c.index-circuits-job.is c.in-Gold.is x.place x.desk.circuit (c.self.invariant.1 x is) same

pub invariant_of-self : goal.invariant_of-self
invariant_of-self c =
    let d = c.self.inside in
    let job = c.args.job.now in
    let fit = subst (λ b. IsJobFit b (jobs.Gold job)) (sym c.self.view_is) c.requires.fit in
    let circuit = c.in-Gold.circuit in
    let i = c.self.invariant in
    (i.0, λ x is. let k = c.judge_over.ensures.kept x is in gold_at d.circuits.now job fit circuit c.index-circuits-job.result c.index-circuits-job.is c.in-Gold.is x.place x.desk.circuit k.0 k.1, i.2)

pub returns-clause-verdict : goal.returns-clause-verdict
returns-clause-verdict c =
    let d = c.self.inside in
    let job = c.args.job.now in
    let fit = subst (λ b. IsJobFit b (jobs.Gold job)) (sym c.self.view_is) c.requires.fit in
    let circuit = c.in-Gold.circuit in
    elim c.match-judge_over.branch [
      | in-Ok w ↦ subst (λ r. IfOk r (HasVerdict c.args.self.now (jobs.Gold job))) (sym w.result-is) (record {
        circuit = circuits.Gold circuit;
        there = ap (λ b. slice_get b job.circuit) (sym c.self.view_is) ∙ gold_there d.circuits.now job fit circuit c.index-circuits-job.result c.index-circuits-job.is c.in-Gold.is;
        verdict = w.in-Ok.ensures.verdict;
        one = only_gold circuit job w.in-Ok.verdict w.in-Ok.ensures.one;
      })
      | in-Err w ↦ subst (λ r. IfOk r (HasVerdict c.args.self.now (jobs.Gold job))) (sym w.result-is) tt
    ]

pub returns-clause-circuits : goal.returns-clause-circuits
returns-clause-circuits c = c.self.view_is
