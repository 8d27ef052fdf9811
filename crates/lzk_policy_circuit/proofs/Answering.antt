-- Facts about what a call answers.
use Rattle.std.proofs.Common.{Result, Ok, Err}
use Rattle.std.specs.Prelude.{IfOk, IfErr}
use Rattle.std.specs.Result.{IsErrAnd}
use Rattle.lzk_goldilocks.specs.declared.element.Gold.{Gold}
use Rattle.lzk_circuit.specs.Valid.{Wiring}
use Rattle.lzk_policy.specs.Policies.{Contents}
use Rattle.lzk_policy_circuit.specs.Causes.{IsPartCause, IsPolicyCause}
use Rattle.lzk_policy_circuit.specs.declared.error.PolicyCircuitError.{PolicyCircuitError}
use Rattle.lzk_policy_circuit.specs.declared.error.PolicyCircuitError.TheVariants as errors

-- what holds of an answer for each value holds for all
pub ok_all : {A E B : Type 0} (r : Result A E) (P : B → A → Type 0) → ((b : B) → IfOk r (P b)) → IfOk r (λ x. (b : B) → P b x)
ok_all (Ok x) P h = h
ok_all (Err e) P h = tt

pub ok_map : {A E : Type 0} (r : Result A E) (P Q : A → Type 0) → IfOk r P → ((x : A) → P x → Q x) → IfOk r Q
ok_map (Ok x) P Q h f = f x h
ok_map (Err e) P Q h f = tt

pub ok_both : {A E : Type 0} (r : Result A E) (P Q R : A → Type 0) → IfOk r P → IfOk r Q → ((x : A) → P x → Q x → R x) → IfOk r R
ok_both (Ok x) P Q R h k f = f x h k
ok_both (Err e) P Q R h k f = tt

-- an error of which something is known
pub if_err : {A E : Type 0} (r : Result A E) (Q P : E → Type 0) → IsErrAnd r Q → ((e : E) → Q e → P e) → IfErr r P
if_err (Ok x) Q P h f = tt
if_err (Err e) Q P h f = f e h

-- a cause of a part is one of the whole
pub part_cause : (p : Contents) (e : PolicyCircuitError) → IsPartCause e → IsPolicyCause p e
part_cause p (errors.Statement e) h = h
part_cause p (errors.Beside e) h = h
part_cause p errors.Privates h = absurd h
part_cause p errors.OutOfMemory h = tt

pub parts_cause : (p : Contents) (r : Result (Wiring Gold) PolicyCircuitError) → IfErr r IsPartCause → IfErr r (IsPolicyCause p)
parts_cause p (Ok x) h = tt
parts_cause p (Err e) h = part_cause p e h
