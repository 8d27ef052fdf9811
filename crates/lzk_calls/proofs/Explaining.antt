-- Jobs explained by one relation, explained by another.
use Rattle.std.proofs.Common.{◌≡◌, ℕ, List, Result, Err, sym, subst}
use Rattle.std.specs.List.{AllZip}
use Rattle.lzk_verify.specs.declared.verdict.Verdict.{Verdict}
use Rattle.lzk_calls.specs.declared.refusal.Refusal.{Refusal}
use Rattle.lzk_calls.specs.declared.jobs.Job.{Job}
use Rattle.lzk_calls.specs.Explained.{IsExplainedBy, IsRefused}
use Rattle.lzk_calls.proofs.Zips.{zip-weaken}

abbrev pub Tells : Type 1
Tells = List ℕ → List ℕ → List ℕ → Result (Verdict ℕ) Refusal → Type 0

pub explained-as : (T U : Tells) → ((public session proof : List ℕ) (told : Result (Verdict ℕ) Refusal) → T public session proof told → U public session proof told)
    → (xs ys : List Job) → AllZip (IsExplainedBy T) xs ys → AllZip (IsExplainedBy U) xs ys
explained-as T U more = zip-weaken (IsExplainedBy T) (IsExplainedBy U) (λ x y h.
    record { same = h.same; found = (h.found.0, more x.public.now x.session.now x.proof.now h.found.0 h.found.1, h.found.2) })

pub refused-as : (refusal : Refusal) (U : Tells) → ((public session proof : List ℕ) → U public session proof (Err refusal))
    → (xs ys : List Job) → AllZip (IsRefused refusal) xs ys → AllZip (IsExplainedBy U) xs ys
refused-as refusal U refuses = explained-as (λ public session proof told. told ≡ Err refusal) U
    (λ public session proof told is. subst (λ t. U public session proof t) (sym is) (refuses public session proof))
