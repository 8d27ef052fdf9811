-- Which circuit a job is fit for.
use Rattle.std.proofs.Common.{◌≡◌, ◌↔◌, ◌+◌, ◌<◌, ℕ, arith, Bool, true, false, ltb, ltb-true, ltb-false, IsTrue, List, length, Some, None, refl, sym, ◌∙◌, subst}
use Rattle.std.specs.Prelude.{slice_get, slice_index_or}
use native.Mathlib.Decide.{dec_lt}
use Rattle.std.proofs.lemmas.Bool.{false≢true}
use Rattle.std.proofs.lemmas.List.{get_or_default}
use Rattle.std.proofs.lemmas.Option.{none-some, same_Some, slice_get_read, slice_get_past}
use Rattle.lzk_circbytes.specs.declared.any.AnyCircuit.{AnyCircuit}
use Rattle.lzk_batch.specs.declared.job.Job.{Job}
use Rattle.lzk_batch.specs.Batch.{IsFitFor, IsJobFit, place_of}

-- a circuit stands where the job says, and it is fit where it is fit for that
pub fit_there : (batch : List AnyCircuit) (job : Job) (i : ℕ) (c : AnyCircuit) (r : Bool) → i ≡ place_of job → true ≡ ltb i (length batch) → c ≡ slice_index_or batch i c → (IsTrue r ↔ IsFitFor c job) → IsTrue r ↔ IsJobFit batch job
fit_there batch job i c r at less is fits = ((λ yes. record { circuit = c; there = there; fits = fits.0 yes }), (λ fit. fits.1 (subst (λ x. IsFitFor x job) (same_Some fit.circuit c (sym fit.there ∙ there)) fit.fits)))
  where
    there : slice_get batch (place_of job) ≡ Some c
    there = subst (λ k. slice_get batch k ≡ Some c) at (slice_get_read batch (length batch) i c refl (ltb-true i (length batch) (sym less)) is)

-- none stands there
pub fit_nowhere : (batch : List AnyCircuit) (job : Job) (i : ℕ) → i ≡ place_of job → false ≡ ltb i (length batch) → IsTrue false ↔ IsJobFit batch job
fit_nowhere batch job i at past = ((λ yes. absurd (false≢true yes)), (λ fit. absurd (none-some fit.circuit (sym (subst (λ k. slice_get batch k ≡ None) at (slice_get_past batch i (ltb-false i (length batch) (sym past)))) ∙ fit.there))))

-- all up to the next place are fit, where all before this one are and its own is
pub fit_more : (batch : List AnyCircuit) (jobs : List Job) (i : ℕ) (e : Job) → i < length jobs → ((k : ℕ) (d : Job) → k < i → IsJobFit batch (slice_index_or jobs k d)) → IsJobFit batch (slice_index_or jobs i e)
    → (k : ℕ) (d : Job) → k < i + 1 → IsJobFit batch (slice_index_or jobs k d)
fit_more batch jobs i e less before own k d up =
    elim (dec_lt k i) [
      | yes below ↦ before k d below
      | no past ↦
          let here : k ≡ i = omega (arith, up, past) in
          subst (λ j. IsJobFit batch (slice_index_or jobs j d)) (sym here) (subst (IsJobFit batch) (get_or_default jobs i e d less) own)
    ]
