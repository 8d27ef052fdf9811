use Rattle.std.proofs.Common.{List, map, sym, ap, ◌∙◌, subst}
use Rattle.std.specs.Prelude.{All}
use Rattle.lzk_batch.specs.Batch.{IsJobFit}
use Rattle.lzk_batch.specs.declared.job.Job.{Job}
use Rattle.lzk_circbytes.specs.declared.any.AnyCircuit.{AnyCircuit}
use Rattle.lzk_circbytes.specs.Files.{id_of_any}
use Rattle.lzk_cmd_batch.proofs.Tells.{all_fit, few_verdicts, judge_tells}
use Rattle.lzk_cmd_batch.proofs.batching.judge.Goals as goal

pub verify_all_with_ids-requires-clause-fit : goal.verify_all_with_ids-requires-clause-fit
verify_all_with_ids-requires-clause-fit g c κs within =
    let held = c.requires.held in
    let made = c.args.gathered.now in
    subst (λ (js : List Job). All (IsJobFit c.deref.result.now) js) (sym c.deref-3.ensures.value)
    (subst (λ (cs : List AnyCircuit). All (IsJobFit cs) made.jobs.items) (sym c.deref.ensures.value) (all_fit made.circuits.items made.jobs.items held.0 held.1))

pub verify_all_with_ids-requires-clause-ids : goal.verify_all_with_ids-requires-clause-ids
verify_all_with_ids-requires-clause-ids g c κs within = c.deref-2.ensures.value ∙ c.requires.ids ∙ ap (map id_of_any) (sym c.deref.ensures.value)

pub tell_verdicts-requires : goal.tell_verdicts-requires
tell_verdicts-requires g c =
    few_verdicts c.args.gathered.now c.deref.result.now c.deref-3.result.now c.in_ok-verdicts.verdicts.items c.deref-4.result.now c.deref.ensures.value c.deref-3.ensures.value c.deref-4.ensures.value c.in_ok-verdicts.ensures c.requires.few

pub returns : goal.returns
returns g c =
    judge_tells c.args.gathered.now c.deref.result.now c.deref-3.result.now c.in_ok-verdicts.verdicts.items c.deref-4.result.now c.deref.ensures.value c.deref-3.ensures.value c.deref-4.ensures.value c.in_ok-verdicts.ensures c.tell_verdicts.result c.tell_verdicts.ensures
