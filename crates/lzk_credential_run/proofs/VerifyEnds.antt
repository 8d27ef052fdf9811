-- The ends of `verify` behind its policy.
use Rattle.std.proofs.Common.{◌≡◌, ◌≤◌, ℕ, List, length, Result, Ok, Err, inl, inr, refl, ◌∙◌, arith, lit≤}
use Rattle.std.specs.Prelude.{Vec, IfOk}
use Rattle.std.specs.declared.alloc.Global.{Global}
use Rattle.lzk_goldilocks.specs.declared.element.Gold.{Gold}
use Rattle.lzk_verify.specs.declared.verdict.Verdict.{Verdict}
use Rattle.lzk_verify.specs.declared.verdict.Verdict.TheVariants.{Accepted, Format, CircuitId, PathCount, Root, LowDegree, LinearSum, Linear, Quadratic}
use Rattle.lzk_cmd_files.specs.declared.ending.Ending.{Ending}
use Rattle.lzk_cmd_files.specs.declared.ending.Halt.{Halt}
use Rattle.lzk_cmd_files.specs.declared.ending.Halt.TheVariants as halts
use Rattle.lzk_cmd_files.specs.Decoded.{proof_files, proof_limit}
use Rattle.lzk_cmd_files.specs.Seen.{Seen}
use Rattle.lzk_cmd_files.specs.Walks.{Decodes, Gives, GivesBytes}
use Rattle.lzk_cmd_verify.specs.Verified.{verdict_status}
use Rattle.lzk_policy.specs.Policies.{Contents}
use Rattle.lzk_policy_circuit.specs.Meaning.{public_count}
use Rattle.lzk_credential_run.specs.Ends.{NothingPut, Settles}
use Rattle.lzk_credential_run.specs.Files.{policy_files}
use Rattle.lzk_credential_run.specs.Orders.{Order}
use Rattle.lzk_credential_run.specs.Verified.{Judges, JudgesTo, ShownTo, VerifyRun, WithShown, shown_files}
use Rattle.lzk_credential_run.proofs.Steps.{IsLate, IsSmall, reads_later, reads_small}
use Rattle.lzk_policy_texts.proofs.ToldCounts.{publics_count}

-- ---- since an earlier sight

pub judges_later : (order : Order) (p : Contents) (publics : List Gold) (bytes : List ℕ) → IsLate (Judges order p publics bytes)
judges_later order p publics bytes old mid new e first h = (h.0, h.1 ∙ first.files)

pub shown_later : (order : Order) (p : Contents) (publics : List Gold) → IsLate (WithShown order p publics)
shown_later order p publics = reads_later proof_files order.proof (Judges order p publics) (judges_later order p publics)

pub policy_later : (shown : List ℕ) (order : Order) (p : Contents) → IsLate (ShownTo shown order p)
policy_later shown order p = reads_later (shown_files p) shown (WithShown order p) (shown_later order p)

-- ---- what is read

-- a proof is taken as it is
pub proof_given : (old new : Seen) (name : List ℕ) (r : Result (Vec ℕ Global) Halt) → GivesBytes old new name proof_limit r → Gives proof_files (λ (v : Vec ℕ Global). v.items) old new name r
proof_given old new name (Ok v) h = (v.items, h, refl)
proof_given old new name (Err halts.Memory) h = tt
proof_given old new name (Err (halts.End e)) h = inl h

-- a text says as many numbers as the policy's circuit has
pub counted : (p : Contents) (name text : List ℕ) (r : Result (Vec Gold Global) Halt) → Decodes (shown_files p) (λ (v : Vec Gold Global). v.items) name text r → IfOk r (λ v. length v.items ≡ public_count p)
counted p name text (Ok v) h = publics_count p text v.items h
counted p name text (Err halt) h = tt

-- ---- the verdict

-- the run tells what judging answers
pub told : (order : Order) (p : Contents) (publics : List Gold) (bytes : List ℕ) (old : Seen) (r : Result Ending Halt) → JudgesTo order p publics bytes r → Settles (Judges order p publics bytes) NothingPut old old r
told order p publics bytes old (Ok e) h = (h, refl)
told order p publics bytes old (Err halts.Memory) h = refl
told order p publics bytes old (Err (halts.End e)) h = (h, refl)

-- ---- statuses

verdict_small : (verdict : Verdict Gold) → verdict_status verdict ≤ 1
verdict_small Accepted = lit≤ tt
verdict_small (Format fault) = lit≤ tt
verdict_small (CircuitId found) = lit≤ tt
verdict_small (PathCount found needed) = lit≤ tt
verdict_small (Root found) = lit≤ tt
verdict_small (LowDegree column) = lit≤ tt
verdict_small (LinearSum found wanted) = lit≤ tt
verdict_small (Linear column) = lit≤ tt
verdict_small (Quadratic column) = lit≤ tt

judges_small : (order : Order) (p : Contents) (publics : List Gold) (bytes : List ℕ) → IsSmall (Judges order p publics bytes)
judges_small order p publics bytes old new e (inl (limit, ends), same) = let is = ends.status in omega (arith, is)
judges_small order p publics bytes old new e (inr (verdict, is, ends), same) = let few = verdict_small verdict in let status = ends.status in omega (arith, few, status)

pub verify_small : (shown : List ℕ) (order : Order) → IsSmall (VerifyRun shown order)
verify_small shown order =
    reads_small policy_files order.policy (ShownTo shown order) (λ fault. omega arith) (λ p.
    reads_small (shown_files p) shown (WithShown order p) (λ fault. omega arith) (λ publics.
    reads_small proof_files order.proof (Judges order p publics) (λ fault. absurd fault) (judges_small order p publics)))
