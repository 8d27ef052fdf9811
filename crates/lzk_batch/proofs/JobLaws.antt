-- A job, the circuit that stands where it says, and the verdict on its proof.
use Rattle.std.specs.Prelude.{◌≡◌, refl, ℕ, ◌<◌, List, [], length, map, slice_get, Option, Some}
use Rattle.std.proofs.Common.{get_or, sym, ap, subst, ◌∙◌}
use Rattle.std.proofs.lemmas.List.{get_or-map}
use Rattle.std.proofs.lemmas.Option.{slice_get_within, slice_get_read, get_or_from_slice_get}
use Rattle.lzk_circuit.specs.Valid.{Wiring}
use Rattle.lzk_circbytes.specs.declared.any.AnyCircuit.{AnyCircuit}
use Rattle.lzk_circbytes.specs.declared.any.AnyCircuit.TheVariants as circuits
use Rattle.lzk_circbytes.specs.Files.{id_of_any}
use Rattle.lzk_goldilocks.specs.declared.element.Gold.{Gold}
use Rattle.lzk_gf128.specs.declared.element.Gf128.{Gf128}
use Rattle.lzk_goldilocks.specs.Elements as gold
use Rattle.lzk_gf128.specs.Elements as gf
use Rattle.lzk_verify.specs.declared.verdict.Verdict.{Verdict}
use Rattle.lzk_verify.specs.Verdict.{IsOnlyVerdict}
use Rattle.lzk_batch.specs.declared.job.JobOf.{JobOf}
use Rattle.lzk_batch.specs.declared.job.Job.TheVariants as jobs
use Rattle.lzk_batch.specs.declared.job.AnyVerdict.{AnyVerdict}
use Rattle.lzk_batch.specs.declared.job.AnyVerdict.TheVariants as verdicts
use Rattle.lzk_batch.specs.Circuits.{IsGoldAt, IsGfAt}
use Rattle.lzk_batch.specs.Batch.{gold_coding, gf_coding, IsFit, IsFitFor, IsJobFit, IsJobVerdict}

gold_either : (job : JobOf Gold) (x circuit : AnyCircuit) (got : Option AnyCircuit) → got ≡ Some x → got ≡ Some circuit → IsFitFor circuit (jobs.Gold job) → ((c : Wiring Gold) → x ≡ circuits.Gold c → ⊥) → ⊥
gold_either job x (circuits.Gold c) got there at fits not = not c (let both : Some x ≡ Some (circuits.Gold c) = sym there ∙ at in cc)
gold_either job x (circuits.Gf c) got there at fits not = fits

gf_either : (job : JobOf Gf128) (x circuit : AnyCircuit) (got : Option AnyCircuit) → got ≡ Some x → got ≡ Some circuit → IsFitFor circuit (jobs.Gf job) → ((c : Wiring Gf128) → x ≡ circuits.Gf c → ⊥) → ⊥
gf_either job x (circuits.Gf c) got there at fits not = not c (let both : Some x ≡ Some (circuits.Gf c) = sym there ∙ at in cc)
gf_either job x (circuits.Gold c) got there at fits not = fits

-- ---- over Goldilocks

module _ (batch : List AnyCircuit) (job : JobOf Gold) (fit : IsJobFit batch (jobs.Gold job)) where
  gold_within : job.circuit < length batch
  gold_within = slice_get_within batch job.circuit fit.circuit fit.there

  -- no circuit over the other field stands where the job says
  pub gold_alone : (x : AnyCircuit) → x ≡ get_or batch job.circuit x → ((c : Wiring Gold) → x ≡ circuits.Gold c → ⊥) → ⊥
  gold_alone x is not = gold_either job x fit.circuit (slice_get batch job.circuit) (slice_get_read batch (length batch) job.circuit x refl gold_within is) fit.there fit.fits not

  module _ (circuit : Wiring Gold) (x : AnyCircuit) (is : x ≡ get_or batch job.circuit x) (e : x ≡ circuits.Gold circuit) where
    pub gold_there : slice_get batch job.circuit ≡ Some (circuits.Gold circuit)
    gold_there = slice_get_read batch (length batch) job.circuit x refl gold_within is ∙ ap Some e

    pub gold_fits : IsFit circuit job
    gold_fits = let same : fit.circuit ≡ circuits.Gold circuit = (let both : Some fit.circuit ≡ Some (circuits.Gold circuit) = sym fit.there ∙ gold_there in cc) in subst (λ z. IsFitFor z (jobs.Gold job)) same fit.fits

    pub gold_id : (ids : List (List ℕ)) → ids ≡ map id_of_any batch → get_or ids job.circuit [] ≡ id_of_any (circuits.Gold circuit)
    gold_id ids are =
        ap (λ xs. get_or xs job.circuit []) are ∙ get_or-map id_of_any batch job.circuit (circuits.Gold circuit) [] gold_within ∙ ap id_of_any (get_or_from_slice_get batch job.circuit (circuits.Gold circuit) (circuits.Gold circuit) gold_there)

    -- a desk that is kept for this place is one for the circuit
    pub gold_kept : (place : ℕ) (other : Wiring Gold) → IsGoldAt batch place other → place ≡ job.circuit → other ≡ circuit
    gold_kept place other at same = let both : Some (circuits.Gold other) ≡ Some (circuits.Gold circuit) = sym at ∙ ap (slice_get batch) same ∙ gold_there in cc

    pub gold_at : (place : ℕ) (other : Wiring Gold) → place ≡ job.circuit → other ≡ circuit → IsGoldAt batch place other
    gold_at place other same is_own = ap (slice_get batch) same ∙ gold_there ∙ ap (λ c. Some (circuits.Gold c)) (sym is_own)

pub only_gold : (c : Wiring Gold) (job : JobOf Gold) (v : Verdict Gold) → IsOnlyVerdict gold.ops gold_coding c job.session.items job.public.items job.proof.items v
    → (w : AnyVerdict) → IsJobVerdict (circuits.Gold c) (jobs.Gold job) w → w ≡ verdicts.Gold v
only_gold c job v one (verdicts.Gold w) is = ap (λ x. verdicts.Gold x) (one w is)
only_gold c job v one (verdicts.Gf w) is = absurd is

-- ---- over GF(2^128)

module _ (batch : List AnyCircuit) (job : JobOf Gf128) (fit : IsJobFit batch (jobs.Gf job)) where
  gf_within : job.circuit < length batch
  gf_within = slice_get_within batch job.circuit fit.circuit fit.there

  -- no circuit over the other field stands where the job says
  pub gf_alone : (x : AnyCircuit) → x ≡ get_or batch job.circuit x → ((c : Wiring Gf128) → x ≡ circuits.Gf c → ⊥) → ⊥
  gf_alone x is not = gf_either job x fit.circuit (slice_get batch job.circuit) (slice_get_read batch (length batch) job.circuit x refl gf_within is) fit.there fit.fits not

  module _ (circuit : Wiring Gf128) (x : AnyCircuit) (is : x ≡ get_or batch job.circuit x) (e : x ≡ circuits.Gf circuit) where
    pub gf_there : slice_get batch job.circuit ≡ Some (circuits.Gf circuit)
    gf_there = slice_get_read batch (length batch) job.circuit x refl gf_within is ∙ ap Some e

    pub gf_fits : IsFit circuit job
    gf_fits = let same : fit.circuit ≡ circuits.Gf circuit = (let both : Some fit.circuit ≡ Some (circuits.Gf circuit) = sym fit.there ∙ gf_there in cc) in subst (λ z. IsFitFor z (jobs.Gf job)) same fit.fits

    pub gf_id : (ids : List (List ℕ)) → ids ≡ map id_of_any batch → get_or ids job.circuit [] ≡ id_of_any (circuits.Gf circuit)
    gf_id ids are =
        ap (λ xs. get_or xs job.circuit []) are ∙ get_or-map id_of_any batch job.circuit (circuits.Gf circuit) [] gf_within ∙ ap id_of_any (get_or_from_slice_get batch job.circuit (circuits.Gf circuit) (circuits.Gf circuit) gf_there)

    -- a desk that is kept for this place is one for the circuit
    pub gf_kept : (place : ℕ) (other : Wiring Gf128) → IsGfAt batch place other → place ≡ job.circuit → other ≡ circuit
    gf_kept place other at same = let both : Some (circuits.Gf other) ≡ Some (circuits.Gf circuit) = sym at ∙ ap (slice_get batch) same ∙ gf_there in cc

    pub gf_at : (place : ℕ) (other : Wiring Gf128) → place ≡ job.circuit → other ≡ circuit → IsGfAt batch place other
    gf_at place other same is_own = ap (slice_get batch) same ∙ gf_there ∙ ap (λ c. Some (circuits.Gf c)) (sym is_own)

pub only_gf : (c : Wiring Gf128) (job : JobOf Gf128) (v : Verdict Gf128) → IsOnlyVerdict gf.ops gf_coding c job.session.items job.public.items job.proof.items v
    → (w : AnyVerdict) → IsJobVerdict (circuits.Gf c) (jobs.Gf job) w → w ≡ verdicts.Gf v
only_gf c job v one (verdicts.Gf w) is = ap (λ x. verdicts.Gf x) (one w is)
only_gf c job v one (verdicts.Gold w) is = absurd is
