-- A run whose files are ready is done.
use Rattle.std.proofs.Common.{◌≡◌, ℕ, ◌+◌, ◌≤◌, inl, inr, ◌⊎◌, Bool, true, false, List, [], ◌∷◌, ◌++◌, length, Option, Some, None, refl, sym, ap, subst, ◌∙◌, arith}
use Rattle.std.specs.Prelude.{◌^◌, ◌==◌, MatchOption, All, cond, sum_by}
use Rattle.std.proofs.lemmas.Bool.{le-ltb}
use Rattle.std.proofs.lemmas.List.Elements.{All-head, All-tail}
use Rattle.std.proofs.lemmas.List.Sums.{sum_by-cons}
use Rattle.lzk_batch.specs.Lists.{Listed}
use Rattle.lzk_circbytes.specs.declared.any.AnyCircuit.{AnyCircuit}
use Rattle.lzk_circbytes.specs.declared.any.AnyCircuit.TheVariants.{Gold, Gf}
use Rattle.sha2.specs.Sha256.{sha256}
use Rattle.lzk_circuit.specs.Valid.{Wiring}
use Rattle.lzk_field.specs.Coding.{Coding}
use Rattle.lzk_field.specs.Ring.{Ops}
use Rattle.lzk_goldilocks.specs.Prime.{p}
use Rattle.lzk_goldilocks.specs.Elements as gold
use Rattle.lzk_gf128.specs.Elements as gf
use Rattle.lzk_outside.specs.Outside.{Files}
use Rattle.lzk_sha_circuit.specs.Inputs.{sha_private}
use Rattle.lzk_cmd_batch.specs.Batched.{JobRead, AnyRead, GoldRead, GfRead, TooMany, Own, JobOver, JobAny, JobsRun, BatchRun, list_files, among, total_limit, rejected_of, batch_end}
use Rattle.lzk_cmd_circuits.specs.Compiled.{CompileRun}
use Rattle.lzk_cmd.specs.Complete.{HasNumbers, HasInputs, HasInputsOf, HasPublicsOf, IsJobReady, IsBatchReady, file_size, job_size, IsReady, Completes}
use Rattle.lzk_cmd_files.specs.Decoded.{circuit_files, number_files, source_files, proof_files}
use Rattle.lzk_cmd_prove.specs.Demo.{DemoRun}
use Rattle.lzk_verify.specs.declared.verdict.Verdict.{Verdict}
use Rattle.lzk_verify.specs.declared.verdict.Verdict.TheVariants as verdicts
use Rattle.lzk_cmd_files.specs.Ends.{End, Stop, Nowhere, AtRead, AtPut, MayStop, Leaves}
use Rattle.lzk_cmd_files.specs.Formats.{Format, HasFile, Has, AtBytes, At}
use Rattle.lzk_cmd_circuits.specs.ShaCircuits.{ShaCircuitRun}
use Rattle.lzk_cmd_circuits.specs.Upgraded.{UpgradeRun}
use Rattle.lzk_cmd_prove.specs.Hashed.{ProvesHash, HashAny, HashRun, digest_inputs}
use Rattle.lzk_cmd_words.specs.Digits.{message_of, seed_of, session_of}
use Rattle.lzk_cmd.specs.Outcome.{Answers, Outcome}
use Rattle.lzk_cmd_prove.specs.Proved.{PutsProof, Proves, ProveOver, ProveAny, ProveRun, nonzero_end, gold_word, gf_word}
use Rattle.lzk_cmd_circuits.specs.Evaluated.{EvalOver, EvalAny, EvalRun, ShowRun, verdict}
use Rattle.lzk_cmd.specs.Run.{CommandRun, RunOf}
use Rattle.lzk_cmd.specs.Sights.{Before, After}
use Rattle.lzk_cmd_verify.specs.Verified.{VerifyOver, VerifyAny, VerifyRun, verdict_end, gold_coding, gf_coding}
use Rattle.lzk_cmd_words.specs.Words.{Command, Eval, Compile, Upgrade, Show, Prove, Verify, Batch, Demo, ShaCircuit, Sha256, command_of}
use Rattle.lzk_cmd_batch.proofs.Lists as lists
use Rattle.lzk_cmd_batch.proofs.Lists.{among_lawful}
use Rattle.lzk_cmd_files.proofs.Laws as laws
use Rattle.lzk_cmd_files.proofs.Laws.{IsLawful, no_number_fault}

file_ready : {X F : Type 0} (format : Format X F) (files : Files) (name bytes : List ℕ) (k : ℕ) (end : End) (next : X → Type 0) → HasFile (files name) format.limit bytes → At format files Nowhere k name end next
    → AtBytes format name bytes end next
file_ready format files name bytes k end next f h = rw (f.there, le-ltb format.limit (length bytes) f.fits) at h

-- the walk goes on with what a file means that is there
pub ready : {X F : Type 0} (format : Format X F) → IsLawful format → (files : Files) (name : List ℕ) (k : ℕ) (end : End) (x : X) (next : X → Type 0) → Has format files name x → At format files Nowhere k name end next → next x
ready format law files name k end x next has h = elim (file_ready format files name has.bytes k end next has.file h) [
  | inl found ↦ subst next (law.one has.bytes found.0 x found.1 has.means) found.2
  | inr refused ↦ absurd (law.not_both has.bytes x refused.0 has.means refused.1)
]

numbers_ready : {A : Type 0} (size : ℕ) (number : A → ℕ) (files : Files) (name : List ℕ) (count k : ℕ) (end : End) (next : List A → Type 0) → HasNumbers files name size count
    → At (number_files size number count) files Nowhere k name end next → (values : List A) × next values
numbers_ready size number files name count k end next has h = elim (file_ready (number_files size number count) files name has.0 k end next has.2 h) [
  | inl found ↦ (found.0, found.2)
  | inr refused ↦ absurd (no_number_fault size count has.0 has.1 has.3 refused.0 refused.1)
]

abbrev Done : End → Type 0
Done end = (end.status ≡ 0) ⊎ (end.status ≡ 1)

verdict_done : {A : Type 0} (lines : List ℕ) (first : Option (ℕ × A)) → Done (verdict lines first)
verdict_done lines None = inl refl
verdict_done lines (Some first) = inr refl

eval_over_done : {A : Type 0} (o : Ops A) (size : ℕ) (number : A → ℕ) (c : Wiring A) (public private : List ℕ) (files : Files) (end : End) → HasInputs size files c public private
    → EvalOver o size number c public private files Nowhere end → Done end
unfolding EvalOver
eval_over_done o size number c public private files end has h =
    let first = numbers_ready size number files public c.publics 1 end _ has.0 h in
    let second = numbers_ready size number files private c.privates 2 end _ has.1 first.1 in
    let evaluated = second.1 in
    subst Done (sym evaluated.2) (verdict_done _ evaluated.0)

eval_any_done : (c : AnyCircuit) (public private : List ℕ) (files : Files) (end : End) → HasInputsOf c files public private → EvalAny c public private files Nowhere end → Done end
eval_any_done (Gold c) public private files end has h = eval_over_done gold.ops p (λ x. x.n) c public private files end has h
eval_any_done (Gf c) public private files end has h = eval_over_done gf.ops (2 ^ 128) (λ x. x.n) c public private files end has h

judged_done : {A : Type 0} (number : A → ℕ) (verdict : Verdict A) → Done (verdict_end number verdict)
judged_done number verdicts.Accepted = inl refl
judged_done number (verdicts.Format fault) = inr refl
judged_done number (verdicts.CircuitId found) = inr refl
judged_done number (verdicts.PathCount found needed) = inr refl
judged_done number (verdicts.Root found) = inr refl
judged_done number (verdicts.LowDegree column) = inr refl
judged_done number (verdicts.LinearSum found wanted) = inr refl
judged_done number (verdicts.Linear column) = inr refl
judged_done number (verdicts.Quadratic column) = inr refl

verify_over_done : {A : Type 0} (o : Ops A) (e : Coding A) (c : Wiring A) (public proof session bytes : List ℕ) (files : Files) (end : End) → HasNumbers files public e.size c.publics → Has proof_files files proof bytes
    → VerifyOver o e c public proof session files Nowhere end → Done end
unfolding VerifyOver
verify_over_done o e c public proof session bytes files end has there h =
    let first = numbers_ready e.size e.number files public c.publics 1 end _ has h in
    let judged = ready proof_files laws.proofs files proof 2 end bytes _ there first.1 in
    subst Done (sym judged.2) (judged_done e.number judged.0)

verify_any_done : (c : AnyCircuit) (public proof session bytes : List ℕ) (files : Files) (end : End) → HasPublicsOf c files public → Has proof_files files proof bytes
    → VerifyAny c public proof session files Nowhere end → Done end
verify_any_done (Gold c) public proof session bytes files end has there h = verify_over_done gold.ops gold_coding c public proof session bytes files end has there h
verify_any_done (Gf c) public proof session bytes files end has there h = verify_over_done gf.ops gf_coding c public proof session bytes files end has there h

-- ---- the jobs of a batch

-- behind files that leave room for one more, the walk goes on with what it means, and its bytes with theirs
module _ (files : Files) (name : List ℕ) (k taken : ℕ) (end : End) where
  size_is : (bytes : List ℕ) → files name ≡ Some bytes → file_size (files name) ≡ length bytes
  size_is bytes there = ap file_size there

  among_ready : {X F : Type 0} (format : Format X F) → IsLawful format → (x : X) (next : X × ℕ → Type 0) → Has format files name x → taken + file_size (files name) ≤ total_limit
      → At (among taken format) files Nowhere k name end next → next (x, taken + file_size (files name))
  among_ready format law x next has few h =
      let same = size_is has.bytes has.file.there in
      let all : taken + file_size (files name) ≡ taken + length has.bytes = ap (λ n. taken + n) same in
      ready (among taken format) (among_lawful format law taken) files name k end (x, taken + file_size (files name)) next (record { bytes = has.bytes; file = has.file; means = (has.means, all, few) }) h

  among_numbers : {A : Type 0} (size : ℕ) (number : A → ℕ) (count : ℕ) (next : List A × ℕ → Type 0) → HasNumbers files name size count → taken + file_size (files name) ≤ total_limit
      → At (among taken (number_files size number count)) files Nowhere k name end next → (values : List A) × next (values, taken + file_size (files name))
  among_numbers {A} size number count next has few h = go (file_ready (among taken (number_files size number count)) files name has.0 k end next has.2 h)
    where
      all : taken + file_size (files name) ≡ taken + length has.0
      all = ap (λ n. taken + n) (size_is has.0 has.2.there)

      go : AtBytes (among taken (number_files size number count)) name has.0 end next → (values : List A) × next (values, taken + file_size (files name))
      go (inl ((values, n), means, rest)) = (values, subst (λ m. next (values, m)) (means.1 ∙ sym all) rest)
      go (inr (TooMany, more, same)) = absurd (lists.too_many total_limit taken (length has.0) (taken + file_size (files name)) all few more)
      go (inr (Own fault, breaks, same)) = absurd (no_number_fault size count has.0 has.1 has.3 fault breaks.1)

room : (taken a b c more limit : ℕ) → taken + (a + b + c + more) ≤ limit → (taken + a ≤ limit) × (taken + a + b ≤ limit) × (taken + a + b + c ≤ limit) × (taken + a + b + c + more ≤ limit)
room taken a b c more limit few = (omega arith, omega arith, omega arith, omega arith)

-- the walk over the number and the proof file of a job goes on behind them
job_over : {A : Type 0} (e : Coding A) (c : Wiring A) (files : Files) (job : Listed) (k taken : ℕ) (proof : List ℕ) (end : End) (next : JobRead A → ℕ → Type 0) → HasNumbers files job.public e.size c.publics → Has proof_files files job.proof proof
    → taken + file_size (files job.public) ≤ total_limit → taken + file_size (files job.public) + file_size (files job.proof) ≤ total_limit
    → JobOver e c job k taken files Nowhere end next → (read : JobRead A) × next read (taken + file_size (files job.public) + file_size (files job.proof))
job_over e c files job k taken proof end next publics there few also h =
    let first = among_numbers files job.public (k + 1) taken end e.size e.number c.publics _ publics few h in
    (record { circuit = c; session = job.session; publics = first.0; proof = proof }, among_ready files job.proof (k + 2) (taken + file_size (files job.public)) end proof_files laws.proofs proof _ there also first.1)

job_any : (c : AnyCircuit) (files : Files) (job : Listed) (k taken : ℕ) (proof : List ℕ) (end : End) (next : AnyRead → ℕ → Type 0) → HasPublicsOf c files job.public → Has proof_files files job.proof proof
    → taken + file_size (files job.public) ≤ total_limit → taken + file_size (files job.public) + file_size (files job.proof) ≤ total_limit
    → JobAny c job k taken files Nowhere end next → (read : AnyRead) × next read (taken + file_size (files job.public) + file_size (files job.proof))
job_any (Gold c) files job k taken proof end next publics there few also h =
    let behind = job_over gold_coding c files job k taken proof end (λ read. next (GoldRead read)) publics there few also h in (GoldRead behind.0, behind.1)
job_any (Gf c) files job k taken proof end next publics there few also h =
    let behind = job_over gf_coding c files job k taken proof end (λ read. next (GfRead read)) publics there few also h in (GfRead behind.0, behind.1)

batch_done : (ends : List End) → Done (batch_end ends)
batch_done ends = go (rejected_of ends == 0)
  where
    go : (none : Bool) → (◌≡◌ {A = ℕ} (cond none 0 1) 0) ⊎ (◌≡◌ {A = ℕ} (cond none 0 1) 1)
    go true = inl refl
    go false = inr refl

jobs_done : (files : Files) (list : List Listed) (k taken : ℕ) (jobs : List AnyRead) (end : End) → All (IsJobReady files) list → taken + sum_by (job_size files) list ≤ total_limit → JobsRun list k taken jobs files Nowhere end → Done end
jobs_done files [] k taken jobs end each few (ends, told, same) = subst Done (sym same) (batch_done ends)
jobs_done files (job ∷ list) k taken jobs end each few h =
    let has = All-head (IsJobReady files) job list each in
    let few_with = subst (λ n. taken + n ≤ total_limit) (sum_by-cons (job_size files) job list) few in
    let fits = room taken (file_size (files job.circuit)) (file_size (files job.public)) (file_size (files job.proof)) (sum_by (job_size files) list) total_limit few_with in
    let first = among_ready files job.circuit k taken end circuit_files laws.circuits has.circuit _ has.has_circuit fits.0 h in
    let behind = job_any has.circuit files job k (taken + file_size (files job.circuit)) has.proof end _ has.has_publics has.has_proof fits.1 fits.2 first in
    jobs_done files list (k + 3) (taken + file_size (files job.circuit) + file_size (files job.public) + file_size (files job.proof)) (jobs ++ behind.0 ∷ []) end (All-tail (IsJobReady files) job list each) fits.3 behind.1

batch_run_done : (files : Files) (list : List ℕ) (end : End) → IsBatchReady files list → BatchRun list files Nowhere end → Done end
unfolding BatchRun
batch_run_done files list end has h =
    let few : 0 + sum_by (job_size files) has.jobs ≤ total_limit = omega (arith, has.few) in
    jobs_done files has.jobs 1 0 [] end has.each few (ready list_files lists.lawful files list 0 end has.jobs _ has.has h)

proves_done : {A : Type 0} (o : Ops A) (e : Coding A) (c : Wiring A) (proof : List ℕ) (digest : Option (List ℕ)) (session : List ℕ) (word : ℕ → ℕ) (publics privates : List A) (end : End) → Proves o e c proof digest session word publics privates Nowhere end → Done end
proves_done {A} o e c proof digest session word publics privates end (first, is, h) = go first h
  where
    go : (first : Option (ℕ × A)) → MatchOption first (PutsProof o e c proof digest session word publics privates Nowhere end) (λ found. end ≡ nonzero_end e.number found) → Done end
    go None (bytes, file, fits, same) = subst Done (sym same) (inl refl)
    go (Some found) same = subst Done (sym same) (inr refl)

prove_over_done : {A : Type 0} (o : Ops A) (e : Coding A) (c : Wiring A) (public private proof session : List ℕ) (word : ℕ → ℕ) (files : Files) (end : End) → HasInputs e.size files c public private
    → ProveOver o e c public private proof session word files Nowhere end → Done end
unfolding ProveOver
prove_over_done o e c public private proof session word files end has h =
    let first = numbers_ready e.size e.number files public c.publics 1 end _ has.0 h in
    let second = numbers_ready e.size e.number files private c.privates 2 end _ has.1 first.1 in
    proves_done o e c proof None session word first.0 second.0 end second.1

prove_any_done : (c : AnyCircuit) (public private proof session seed : List ℕ) (files : Files) (end : End) → HasInputsOf c files public private → ProveAny c public private proof session seed files Nowhere end → Done end
prove_any_done (Gold c) public private proof session seed files end has h = prove_over_done gold.ops gold_coding c public private proof session (gold_word seed) files end has h
prove_any_done (Gf c) public private proof session seed files end has h = prove_over_done gf.ops gf_coding c public private proof session (gf_word seed) files end has h

ready_done : (files : Files) (command : Command) (end : End) → IsReady files command → CommandRun command files Nowhere end → Done end
unfolding EvalRun CompileRun UpgradeRun ShowRun ProveRun VerifyRun DemoRun ShaCircuitRun HashRun
ready_done files (Eval circuit public private) end has h = eval_any_done has.0 public private files end has.2 (ready circuit_files laws.circuits files circuit 0 end has.0 _ has.1 h)
ready_done files (Compile source circuit version) end has h =
    let made = rw has.1.1 at (ready source_files laws.sources files source 0 end has.0 _ has.1.0 h) in
    subst Done (sym made.5) (inl refl)
ready_done files (Upgrade old new) end has h =
    let put = ready circuit_files laws.circuits files old 0 end has.0 _ has.1 h in
    subst Done (sym put.3) (inl refl)
ready_done files (Show circuit) end has h = subst Done (sym (ready circuit_files laws.circuits files circuit 0 end has.0 _ has.1 h)) (inl refl)
ready_done files (Prove circuit public private proof seed session) end has h =
    prove_any_done has.0 public private proof _ _ files end has.2 (ready circuit_files laws.circuits files circuit 0 end has.0 _ has.1 h)
ready_done files (Verify circuit public proof session) end has h =
    verify_any_done has.0 public proof _ has.1 files end has.3 has.4 (ready circuit_files laws.circuits files circuit 0 end has.0 _ has.2 h)
ready_done files (Batch list) end has h = batch_run_done files list end has h
ready_done files (Demo count seed) end has (c, bytes, is, same) = subst Done (sym same) (inl refl)
ready_done files (ShaCircuit count circuit) end has (c, bytes, is, file, fits, same) = subst Done (sym same) (inl refl)
ready_done files (Sha256 circuit proof message seed session) end has h =
    let found : HashAny circuit (Gold has.0) (message_of message) proof (session_of session) (seed_of seed) Nowhere end = ready circuit_files laws.circuits files circuit 0 end (Gold has.0) _ has.1 h in
    let proved : ProvesHash has.0 (message_of message) proof (session_of session) (seed_of seed) Nowhere end = rw has.2 at found in
    let m = message_of message in
    proves_done gold.ops gold_coding has.0 proof (Some (sha256 m)) (session_of session) (gold_word (seed_of seed)) (digest_inputs m) (sha_private gold.of_number m) end proved

pub run_command : (words : List (List ℕ)) (files : Files) (command : Command) (end : End) → command_of words ≡ Some command → RunOf words files Nowhere end → CommandRun command files Nowhere end
run_command words files command end e h = rw e at h

pub completes : (before : Before) (after : After) (files : Files) (text : List ℕ) → Outcome before after files text → Completes before after files text
completes before after files text (inr want) = λ command is has reads puts writes. inr want.0
completes before after files text (inl h) = λ command is has reads puts writes. go h.stop h.end h.may h.run h.left h.answers command is has reads puts writes
  where
    go : (stop : Stop) (end : End) → MayStop stop before.shelf after.shelf → RunOf before.words files stop end → Leaves files stop end.put after.shelf.files → Answers before after text end → Completes before after files text
    go (AtRead k) end may run left answers = λ command is has reads puts writes. absurd (reads may)
    go AtPut end may run left answers = λ command is has reads puts writes. absurd (puts may)
    go Nowhere end may run left (inl whole) = λ command is has reads puts writes.
        inl (record { end = end; run = run; done = ready_done files command end has (run_command before.words files command end is run); answer = whole.0; printed = whole.1; left = left })
    go Nowhere end may run left (inr (inl cut)) = λ command is has reads puts writes. absurd (writes cut.1)
    go Nowhere end may run left (inr (inr want)) = λ command is has reads puts writes. inr want.0
