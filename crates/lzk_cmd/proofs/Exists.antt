-- Words, files and stop have an end.
use Rattle.std.proofs.Common.{◌≡◌, ◌⊎◌, ◌<◌, ℕ, ◌+◌, ◌++◌, suc, zero, Bool, true, false, eqb, List, [], ◌∷◌, length, map, Option, Some, None, Result, Ok, Err, inl, inr, refl, sym, ap, ◌∙◌, arith, mod-lt, pow_pos, ltb-false}
use Rattle.std.specs.Prelude.{◌^◌, ◌≤◌, MatchBool, MatchOption, nat_lt, slice_index_or}
use Rattle.std.proofs.lemmas.List.{length-map}
use Rattle.std.proofs.lemmas.Bool.{eqb-true, eqb-false, ltb-true}
use Rattle.lzk_batch.specs.Lists.{Listed}
use Rattle.lzk_circbytes.specs.declared.any.AnyCircuit.{AnyCircuit}
use Rattle.lzk_circbytes.specs.declared.any.AnyCircuit.TheVariants.{Gold, Gf}
use Rattle.lzk_circbytes.specs.Files.{CircuitBytes}
use Rattle.lzk_circbytes.specs.Numbered.{shape, numbered}
use Rattle.lzk_circbytes.specs.Spelling.{file_of}
use Rattle.lzk_circbytes.proofs.OneFile.{file_of-IsFile}
use Rattle.lzk_circbytes.proofs.Sizes.{files_fit}
use Rattle.sha2.specs.Sha256.{sha256}
use Rattle.lzk_circuit.specs.Checks.{checks_of}
use Rattle.lzk_circuit.specs.Valid.{Wiring, wiring_of, IsValid}
use Rattle.lzk_circuit.specs.Wires.{inputs_of, IsFirstNonzero}
use Rattle.lzk_circuit.proofs.VersionLaws.{upgraded-valid}
use Rattle.lzk_expr.specs.declared.ast.FieldId.TheVariants.{Goldilocks, Gf2_128}
use Rattle.lzk_expr.specs.Trees.{SourceTree}
use Rattle.lzk_expr.specs.Sources.{TextReads, IsWellFormed}
use Rattle.lzk_expr.specs.declared.source_fault.SourceFault.{SourceFault}
use Rattle.lzk_expr.proofs.EveryText.{some_reading}
use Rattle.lzk_field.specs.Coding.{Coding}
use Rattle.lzk_field.specs.Ring.{Ops, Laws}
use Rattle.lzk_goldilocks.specs.Prime.{p, element_bytes, field_byte}
use Rattle.lzk_goldilocks.specs.Elements as gold
use Rattle.lzk_gf128.specs.Elements as gf
use Rattle.lzk_level.specs.declared.fault.LevelFault.{LevelFault}
use Rattle.lzk_level.specs.SomeCircuit.{HasSomeCircuit}
use Rattle.lzk_level.proofs.SomeCircuits.{some_circuit}
use Rattle.lzk_level.proofs.SomeCircuitsV2.{some_circuit_v2}
use Rattle.lzk_ligero_proof.specs.Proving.{HaveCounts, SomeFile, FilesFit, words_of}
use Rattle.lzk_outside.specs.Outside.{Files}
use Rattle.lzk_sha_circuit.specs.Circuits.{SomeShaCircuit}
use Rattle.lzk_sha_circuit.specs.Inputs.{sha_private}
use Rattle.lzk_verify.proofs.SomeVerdict.{some_verdict}
use Rattle.lzk_cmd_batch.specs.Batched.{JobRead, AnyRead, GoldRead, GfRead, TooMany, IsTold, AreTold, JobOver, JobAny, JobsRun, BatchRun, list_files, among, refused_among, total_limit, batch_end}
use Rattle.lzk_cmd_circuits.specs.Compiled.{CompiledAs, CompileRun, CompileTree, PutsCompiled, compiled_text, limit_as}
use Rattle.lzk_cmd_prove.specs.Demo.{DemoRun, demo_end}
use Rattle.lzk_cmd_files.specs.Decoded.{circuit_files, number_files, source_files, proof_files, level_refused, text_limit, proof_limit}
use Rattle.lzk_cmd_files.specs.Ends.{End, Stop, AtFile, stops_at, says, missing_file, refused_words, puts}
use Rattle.lzk_cmd_files.specs.Formats.{Format, HasFile, AtBytes, At}
use Rattle.lzk_cmd_circuits.specs.ShaCircuits.{ShaCircuitRun}
use Rattle.lzk_level.specs.Upgraded.{upgraded_any}
use Rattle.lzk_cmd_circuits.specs.Upgraded.{UpgradeRun, PutsUpgraded}
use Rattle.lzk_cmd_prove.specs.Hashed.{ProvesHash, HashAny, HashRun, digest_inputs, is_for}
use Rattle.lzk_cmd_words.specs.Digits.{message_of, seed_of, session_of}
use Rattle.lzk_cmd_files.specs.Lines.{larger_line, reading_line, told_line, unfit_line, upgraded_line}
use Rattle.lzk_cmd_prove.specs.Proved.{PutsProof, Proves, ProveOver, ProveAny, ProveRun, nonzero_end, gold_word, gf_word}
use Rattle.lzk_cmd_circuits.specs.Evaluated.{Evaluated, EvalOver, EvalAny, EvalRun, ShowRun, verdict, output_lines, shown_any}
use Rattle.lzk_cmd.specs.Run.{CommandRun}
use Rattle.lzk_cmd.specs.SomeEnd.{AreBytes, SomeEnd}
use Rattle.lzk_cmd_verify.specs.Verified.{Judged, VerifyOver, VerifyAny, VerifyRun, verdict_end, gold_coding, gf_coding}
use Rattle.lzk_cmd_words.specs.declared.words.Version.{Version}
use Rattle.lzk_cmd_words.specs.declared.words.Version.TheVariants.{One, Two}
use Rattle.lzk_cmd_words.specs.Words.{Command, Eval, Compile, Upgrade, Show, Prove, Verify, Batch, Demo, ShaCircuit, Sha256, command_of}
use Rattle.lzk_cmd_words.specs.Keys.{number_of}
use Rattle.lzk_cmd_words.proofs.Counts.{HasNumber, has_number}
use Rattle.lzk_cmd_prove.proofs.DemoCounts.{length_private, number_fits}
use Rattle.lzk_cmd.proofs.HashCounts.{count_fits, hash_counts}
use Rattle.lzk_cmd_batch.proofs.Lists as lists
use Rattle.lzk_cmd_batch.proofs.Lists.{among_total}
use Rattle.lzk_cmd.proofs.Total.{circuits_total, numbers_total}
use Rattle.lzk_ligero_proof.specs.Complete.{Complete}
use Rattle.lzk_demo.specs.Demo.{demo_tree, demo_public, demo_private, InputsSatisfy}
use Rattle.lzk_demo.proofs.Limits.{demo_publics, demo_privates}
use Rattle.lzk_goldilocks.specs.declared.element.Gold.{Gold as GoldElement}

-- a source within the limits of a version has a circuit of it
some_as : (version : Version) (source : SourceTree) → IsWellFormed source → limit_as version source ≡ None → (c : AnyCircuit) × (bytes : List ℕ) × CompiledAs version source c × CircuitBytes c bytes
some_as One source formed kept = some_circuit source formed kept
some_as Two source formed kept = some_circuit_v2 source formed kept

-- a circuit has a file in version 2
some_upgraded : (c : AnyCircuit) (bytes : List ℕ) → CircuitBytes c bytes → (file : List ℕ) × CircuitBytes (upgraded_any c) file
some_upgraded (Gold c) bytes is =
    let made = wiring_of 2 c.publics c.privates c.layers in
    (file_of (shape field_byte element_bytes p) (numbered gold.number made), file_of-IsFile gold.ops p gold.number gold.of_number element_bytes gold.laws field_byte made (upgraded-valid gold.ops c is.valid))
some_upgraded (Gf c) bytes is =
    let made = wiring_of 2 c.publics c.privates c.layers in
    (file_of (shape 2 16 (2 ^ 128)) (numbered gf.number made), file_of-IsFile gf.ops (2 ^ 128) gf.number gf.of_number 16 gf.laws 2 made (upgraded-valid gf.ops c is.valid))

fields_apart : Gf2_128 ≡ Goldilocks → ⊥
fields_apart e = cc

-- a walk at a file has an end, where it has one on what the bytes mean
module _ (files : Files) (stop : Stop) (k : ℕ) (name : List ℕ) where
  some_file : (limit : ℕ) (next : End → List ℕ → Type 0) → ((bytes : List ℕ) → HasFile (files name) limit bytes → (end : End) × next end bytes) → (end : End) × AtFile files stop k name limit end (next end)
  some_file limit next then = go (stops_at stop k) (files name) refl
    where
      fits : (bytes : List ℕ) → files name ≡ Some bytes → (larger : Bool) → nat_lt limit (length bytes) ≡ larger → (end : End) × MatchBool larger (end ≡ says 3 (larger_line name limit)) (next end bytes)
      fits bytes is true e = (says 3 (larger_line name limit), refl)
      fits bytes is false e = then bytes (record { there = is; fits = ltb-false limit (length bytes) e })

      go : (stops : Bool) (file : Option (List ℕ)) → files name ≡ file
          → (end : End) × MatchBool stops (end ≡ says 4 (reading_line name)) (MatchOption file (end ≡ missing_file name) (λ bytes. MatchBool (nat_lt limit (length bytes)) (end ≡ says 3 (larger_line name limit)) (next end bytes)))
      go true file is = (says 4 (reading_line name), refl)
      go false None is = (missing_file name, refl)
      go false (Some bytes) is = fits bytes is (nat_lt limit (length bytes)) refl

  -- where it has one on what the bytes mean
  some_with : {X F : Type 0} (format : Format X F) → ((bytes : List ℕ) → HasFile (files name) format.limit bytes → ((x : X) × format.means bytes x) ⊎ ((fault : F) × format.breaks bytes fault)) → (next : End → X → Type 0)
      → ((bytes : List ℕ) (x : X) → format.means bytes x → (end : End) × next end x) → (end : End) × At format files stop k name end (next end)
  some_with {X} {F} format total next then = some_file format.limit (λ end bytes. AtBytes format name bytes end (next end)) (λ bytes has. go bytes (total bytes has))
    where
      go : (bytes : List ℕ) → ((x : X) × format.means bytes x) ⊎ ((fault : F) × format.breaks bytes fault) → (end : End) × AtBytes format name bytes end (next end)
      go bytes (inl (x, means)) = let behind = then bytes x means in (behind.0, inl (x, means, behind.1))
      go bytes (inr (fault, breaks)) = (format.refused name fault, inr (fault, breaks, refl))

  some_at : {X F : Type 0} (format : Format X F) → ((bytes : List ℕ) → HasFile (files name) format.limit bytes → ((x : X) × format.means bytes x) ⊎ ((fault : F) × format.breaks bytes fault)) → (next : End → X → Type 0)
      → ((x : X) → (end : End) × next end x) → (end : End) × At format files stop k name end (next end)
  some_at format total next then = some_with format total next (λ bytes x means. then x)

-- values have a first one that is not 0, or none
module _ {A : Type 0} (o : Ops A) (number : A → ℕ) (element : ℕ → A) (size bytes : ℕ) (laws : Laws o size number element bytes) where
  is_zero : (x : A) → number x ≡ 0 → x ≡ o.zero
  is_zero x e = sym (laws.numbers.element_number x) ∙ ap element (e ∙ sym laws.numbers.zero_number) ∙ laws.numbers.element_number o.zero

  some_first : (xs : List A) → (first : Option (ℕ × A)) × IsFirstNonzero o xs first
  some_first [] = (None, λ g less. absurd (omega (arith, less)))
  some_first (x ∷ xs) = go (eqb (number x) 0) refl (some_first xs)
    where
      behind : (first : Option (ℕ × A)) → x ≡ o.zero → IsFirstNonzero o xs first → (first : Option (ℕ × A)) × IsFirstNonzero o (x ∷ xs) first
      behind None here h = (None, λ g. zeros g)
        where
          zeros : (g : ℕ) → g < length (x ∷ xs) → slice_index_or (x ∷ xs) g o.zero ≡ o.zero
          zeros zero less = here
          zeros (suc g) less = h g (omega (arith, less))
      behind (Some (i, v)) here h = (Some (suc i, v), (omega (arith, h.0), h.1, h.2, λ g. zeros g))
        where
          zeros : (g : ℕ) → g < suc i → slice_index_or (x ∷ xs) g o.zero ≡ o.zero
          zeros zero less = here
          zeros (suc g) less = h.3 g (omega (arith, less))

      go : (b : Bool) → eqb (number x) 0 ≡ b → (first : Option (ℕ × A)) × IsFirstNonzero o xs first → (first : Option (ℕ × A)) × IsFirstNonzero o (x ∷ xs) first
      go true e (first, h) = behind first (is_zero x (eqb-true (number x) 0 e)) h
      go false e rest = (Some (0, x), (omega arith, refl, λ same. eqb-false (number x) 0 e (ap number same ∙ laws.numbers.zero_number), λ g less. absurd (omega (arith, less))))

  some_evaluation : (checks : List A) → (end : End) × Evaluated o number checks end
  some_evaluation checks = let first = some_first checks in (verdict (output_lines 0 (map number checks)) first.0, (first.0, first.1, refl))

  some_over : (c : Wiring A) (public private : List ℕ) (files : Files) (stop : Stop) → (end : End) × EvalOver o size number c public private files stop end
  unfolding EvalOver
  some_over c public private files stop =
      some_at files stop 1 public (number_files size number c.publics) (λ text has. numbers_total o size number element bytes laws 0 c.publics text) _ (λ publics.
      some_at files stop 2 private (number_files size number c.privates) (λ text has. numbers_total o size number element bytes laws 0 c.privates text) _ (λ privates.
      some_evaluation (checks_of o number c.layers (inputs_of o publics privates))))

some_eval : (c : AnyCircuit) (public private : List ℕ) (files : Files) (stop : Stop) → (end : End) × EvalAny c public private files stop end
some_eval (Gold c) public private files stop = some_over gold.ops gold.number gold.of_number p element_bytes gold.laws c public private files stop
some_eval (Gf c) public private files stop = some_over gf.ops gf.number gf.of_number (2 ^ 128) 16 gf.laws c public private files stop

-- a proof has a verdict, where its file is bytes
module _ {A : Type 0} (o : Ops A) (e : Coding A) (laws : Laws o e.size e.number e.element e.bytes) (c : Wiring A) (public proof session : List ℕ) (files : Files) (stop : Stop) (good : AreBytes files) where
  some_judged : (publics : List A) (bytes : List ℕ) → HasFile (files proof) proof_limit bytes → (end : End) × Judged o e c session publics bytes end
  some_judged publics bytes has =
      let found = some_verdict o e c laws session publics bytes (λ k less. good proof bytes has.there k) in (verdict_end e.number found.0, (found.0, found.1, refl))

  some_proof : (publics : List A) → (end : End) × At proof_files files stop 2 proof end (λ bytes. Judged o e c session publics bytes end)
  some_proof publics = some_file files stop 2 proof proof_limit (λ end bytes. AtBytes proof_files proof bytes end (λ bytes. Judged o e c session publics bytes end)) (λ bytes has.
      let behind = some_judged publics bytes has in (behind.0, inl (bytes, refl, behind.1)))

  some_verify_over : (end : End) × VerifyOver o e c public proof session files stop end
  unfolding VerifyOver
  some_verify_over = some_at files stop 1 public (number_files e.size e.number c.publics) (λ text has. numbers_total o e.size e.number e.element e.bytes laws 0 c.publics text) _ some_proof

some_verify : (c : AnyCircuit) (public proof session : List ℕ) (files : Files) (stop : Stop) → AreBytes files → (end : End) × VerifyAny c public proof session files stop end
some_verify (Gold c) public proof session files stop good = some_verify_over gold.ops gold_coding gold.laws c public proof session files stop good
some_verify (Gf c) public proof session files stop good = some_verify_over gf.ops gf_coding gf.laws c public proof session files stop good

-- ---- the jobs of a batch

told_more : (jobs : List AnyRead) (ends : List End) (job : AnyRead) (end : End) → AreTold jobs ends → IsTold job end → AreTold (jobs ++ job ∷ []) (ends ++ end ∷ [])
told_more [] [] job end h told = (told, tt)
told_more [] (e ∷ ends) job end h told = absurd h
told_more (j ∷ jobs) [] job end h told = absurd h
told_more (j ∷ jobs) (e ∷ ends) job end h told = (h.0, told_more jobs ends job end h.1 told)

-- the walk over a job's files has an end, where what comes behind has one for each job that has an end of its own
module _ (files : Files) (stop : Stop) (good : AreBytes files) (next : End → AnyRead → ℕ → Type 0) (then : (read : AnyRead) (all : ℕ) → (one : End) × IsTold read one → (end : End) × next end read all) where
  some_job_over : {A : Type 0} (o : Ops A) (e : Coding A) (laws : Laws o e.size e.number e.element e.bytes) (wrap : JobRead A → AnyRead)
      → ((read : JobRead A) (one : End) → Judged o e read.circuit read.session read.publics read.proof one → IsTold (wrap read) one)
      → (c : Wiring A) (job : Listed) (k taken : ℕ) → (end : End) × JobOver e c job k taken files stop end (λ read. next end (wrap read))
  some_job_over {A} o e laws wrap tells c job k taken =
      some_at files stop (k + 1) job.public (among taken (number_files e.size e.number c.publics)) (λ text has. among_total (number_files e.size e.number c.publics) taken text (numbers_total o e.size e.number e.element e.bytes laws 0 c.publics text)) _ (λ publics.
      some_file files stop (k + 2) job.proof proof_limit (λ end bytes. AtBytes (among publics.1 proof_files) job.proof bytes end (λ proof. next end (wrap (read publics.0 proof.0)) proof.1)) (λ bytes has.
      go publics.0 publics.1 bytes has (nat_lt total_limit (publics.1 + length bytes)) refl))
    where
      read : List A → List ℕ → JobRead A
      read publics proof = record { circuit = c; session = job.session; publics = publics; proof = proof }

      go : (publics : List A) (taken : ℕ) (bytes : List ℕ) → HasFile (files job.proof) proof_limit bytes → (more : Bool) → nat_lt total_limit (taken + length bytes) ≡ more
          → (end : End) × AtBytes (among taken proof_files) job.proof bytes end (λ proof. next end (wrap (read publics proof.0)) proof.1)
      go publics taken bytes has true more = (refused_among proof_files job.proof TooMany, inr (TooMany, ltb-true total_limit (taken + length bytes) more, refl))
      go publics taken bytes has false few =
          let judged = some_judged o e laws c job.public job.proof job.session files stop good publics bytes has in
          let behind = then (wrap (read publics bytes)) (taken + length bytes) (judged.0, tells (read publics bytes) judged.0 judged.1) in
          (behind.0, inl ((bytes, taken + length bytes), (refl, refl, ltb-false total_limit (taken + length bytes) few), behind.1))

  some_job : (c : AnyCircuit) (job : Listed) (k taken : ℕ) → (end : End) × JobAny c job k taken files stop end (next end)
  some_job (Gold c) job k taken = some_job_over gold.ops gold_coding gold.laws GoldRead (λ read one h. h) c job k taken
  some_job (Gf c) job k taken = some_job_over gf.ops gf_coding gf.laws GfRead (λ read one h. h) c job k taken

-- inputs have a proof or a first check that is not 0, where valid circuits have a proof's file
module _ {A : Type 0} (o : Ops A) (e : Coding A) (laws : Laws o e.size e.number e.element e.bytes) (some : SomeFile o e) (fit : FilesFit o e) (c : Wiring A) (valid : IsValid o c) (proof session : List ℕ) (words : ℕ → ℕ) (files : Files) (stop : Stop) where
  some_proves : (digest : Option (List ℕ)) (publics privates : List A) → HaveCounts c publics privates → (end : End) × Proves o e c proof digest session words publics privates stop end
  some_proves digest publics privates counts = go (some_first o e.number e.element e.size e.bytes laws (checks_of o e.number c.layers (inputs_of o publics privates)))
    where
      word : ℕ → ℕ
      word = words_of words

      found : (first : Option (ℕ × A)) → (end : End) × MatchOption first (PutsProof o e c proof digest session words publics privates stop end) (λ found. end ≡ nonzero_end e.number found)
      found None =
          let file = some c session publics privates word valid counts (λ i. mod-lt (words i) (pow_pos 128)) in
          (puts stop proof file.0 (told_line proof digest (length file.0)), (file.0, file.1, fit c session publics privates word file.0 valid file.1, refl))
      found (Some first) = (nonzero_end e.number first, refl)

      go : (first : Option (ℕ × A)) × IsFirstNonzero o (checks_of o e.number c.layers (inputs_of o publics privates)) first → (end : End) × Proves o e c proof digest session words publics privates stop end
      go (first, is) = let behind = found first in (behind.0, (first, is, behind.1))

  some_prove_over : (public private : List ℕ) → (end : End) × ProveOver o e c public private proof session words files stop end
  unfolding ProveOver
  some_prove_over public private =
      some_with files stop 1 public (number_files e.size e.number c.publics) (λ text has. numbers_total o e.size e.number e.element e.bytes laws 0 c.publics text) _ (λ text publics means.
      some_with files stop 2 private (number_files e.size e.number c.privates) (λ text has. numbers_total o e.size e.number e.element e.bytes laws 0 c.privates text) _ (λ other privates also.
      some_proves None publics privates (sym (length-map publics e.number) ∙ means.number, sym (length-map privates e.number) ∙ also.number)))

-- what is known of the two fields' proofs
pub record HaveFiles : Type 0 where
  pub gold_file : SomeFile gold.ops gold_coding
  pub gold_fits : FilesFit gold.ops gold_coding
  pub gf_file : SomeFile gf.ops gf_coding
  pub gf_fits : FilesFit gf.ops gf_coding
  pub gold_accepted : Complete gold.ops gold_coding
  pub demo_inputs : (n : ℕ) → 1 ≤ n → (c : Wiring GoldElement) → InputsSatisfy gold.ops gold.number gold.of_number n c
  pub sha_circuit : SomeShaCircuit
  pub demo_circuit : (n : ℕ) → 1 ≤ n → n ≤ 16384 → HasSomeCircuit (demo_tree n)

some_prove : HaveFiles → (bytes : List ℕ) (c : AnyCircuit) → CircuitBytes c bytes → (public private proof session seed : List ℕ) (files : Files) (stop : Stop) → (end : End) × ProveAny c public private proof session seed files stop end
some_prove have bytes (Gold c) is public private proof session seed files stop = some_prove_over gold.ops gold_coding gold.laws have.gold_file have.gold_fits c is.valid proof session (gold_word seed) files stop public private
some_prove have bytes (Gf c) is public private proof session seed files stop = some_prove_over gf.ops gf_coding gf.laws have.gf_file have.gf_fits c is.valid proof session (gf_word seed) files stop public private

module _ (have : HaveFiles) (files : Files) (stop : Stop) where
  circuits_there : AreBytes files → (name bytes : List ℕ) → HasFile (files name) circuit_files.limit bytes → ((c : AnyCircuit) × circuit_files.means bytes c) ⊎ ((fault : _) × circuit_files.breaks bytes fault)
  circuits_there good name bytes has = circuits_total bytes (good name bytes has.there)

  some_tree : (version : Version) (source circuit : List ℕ) (s : SourceTree) → IsWellFormed s → (end : End) × CompileTree version source circuit s stop end
  some_tree version source circuit s formed = go (limit_as version s) refl
    where
      go : (limit : Option LevelFault) → limit_as version s ≡ limit → (end : End) × MatchOption limit (PutsCompiled version s circuit stop end) (λ fault. end ≡ level_refused source fault)
      go None kept =
          let (c, bytes, is, file) = some_as version s formed kept in
          (puts stop circuit bytes (compiled_text circuit c (length bytes)), (c, bytes, is, file, files_fit c bytes file, refl))
      go (Some fault) passed = (level_refused source fault, refl)

  some_jobs : AreBytes files → (list : List Listed) (k taken : ℕ) (jobs : List AnyRead) → (ends : List End) × AreTold jobs ends → (end : End) × JobsRun list k taken jobs files stop end
  some_jobs good [] k taken jobs (ends, told) = (batch_end ends, (ends, told, refl))
  some_jobs good (job ∷ list) k taken jobs (ends, told) =
      some_at files stop k job.circuit (among taken circuit_files) (λ bytes has. among_total circuit_files taken bytes (circuits_there good job.circuit bytes has)) _ (λ c.
      some_job files stop good (λ end read all. JobsRun list (k + 3) all (jobs ++ read ∷ []) files stop end) (λ read all one. some_jobs good list (k + 3) all (jobs ++ read ∷ []) (ends ++ one.0 ∷ [], told_more jobs ends read one.0 told one.1)) c.0 job k c.1)

  some_batch : AreBytes files → (list : List ℕ) → (end : End) × BatchRun list files stop end
  unfolding BatchRun
  some_batch good list = some_at files stop 0 list list_files (λ text has. lists.total text) _ (λ entries. some_jobs good entries 1 0 [] ([], tt))

  some_compile : (version : Version) (source circuit : List ℕ) → (end : End) × CompileRun version source circuit files stop end
  unfolding CompileRun
  some_compile version source circuit =
      some_file files stop 0 source text_limit (λ end text. AtBytes source_files source text end (λ s. CompileTree version source circuit s stop end)) (λ text has. let (read, reads) = some_reading text in go text has read reads)
    where
      go : (text : List ℕ) → HasFile (files source) text_limit text → (read : Result SourceTree SourceFault) → TextReads text read → (end : End) × AtBytes source_files source text end (λ s. CompileTree version source circuit s stop end)
      go text has (Ok s) reads = let behind = some_tree version source circuit s (record { text = text; short = has.fits; reads = reads }) in (behind.0, inl (s, reads, behind.1))
      go text has (Err fault) reads = (source_files.refused source fault, inr (fault, reads, refl))

  some_upgrade : AreBytes files → (old new : List ℕ) → (end : End) × UpgradeRun old new files stop end
  unfolding UpgradeRun
  some_upgrade good old new = some_with files stop 0 old circuit_files (circuits_there good old) _ (λ bytes c means. go c (some_upgraded c bytes means))
    where
      go : (c : AnyCircuit) → (file : List ℕ) × CircuitBytes (upgraded_any c) file → (end : End) × PutsUpgraded c new stop end
      go c (file, is) = (puts stop new file (upgraded_line new (length file)), (file, is, files_fit (upgraded_any c) file is, refl))

  some_demo : (n : ℕ) (seed : List ℕ) → 1 ≤ n → HasSomeCircuit (demo_tree n) → (end : End) × DemoRun n seed files stop end
  unfolding DemoRun
  some_demo n seed some (Gold c, bytes, is, file) =
      let counts : HaveCounts c (demo_public gold.ops n) (demo_private gold.ops n) = (sym (is.publics ∙ demo_publics n), length_private gold.ops n ∙ sym (is.privates ∙ demo_privates n)) in
      let satisfied = have.demo_inputs n some c is.version_is file.valid (is.publics ∙ demo_publics n) (is.privates ∙ demo_privates n) is.outputs in
      let made = have.gold_file c [] (demo_public gold.ops n) (demo_private gold.ops n) (words_of (gold_word seed)) file.valid counts (λ i. mod-lt (gold_word seed i) (pow_pos 128)) in
      let accepted = have.gold_accepted c [] (demo_public gold.ops n) (demo_private gold.ops n) (words_of (gold_word seed)) made.0 file.valid counts satisfied made.1 in
      (demo_end n c made.0, (c, made.0, record { compiled = is; file = made.1; accepted = accepted }, refl))
  some_demo n seed some (Gf c, bytes, is, file) = absurd (fields_apart is.field_is)

  some_shacircuit : (len : ℕ) (circuit : List ℕ) → len ≤ 55 → (end : End) × ShaCircuitRun len circuit files stop end
  unfolding ShaCircuitRun
  some_shacircuit len circuit few =
      let (c, is, valid) = have.sha_circuit len few in
      let bytes = file_of (shape field_byte element_bytes p) (numbered gold.number c) in
      let file : CircuitBytes (Gold c) bytes = file_of-IsFile gold.ops p gold.number gold.of_number element_bytes gold.laws field_byte c valid in
      (puts stop circuit bytes (compiled_text circuit (Gold c) (length bytes)), (c, bytes, is, file, files_fit (Gold c) bytes file, refl))

  some_hash : (bytes : List ℕ) (any : AnyCircuit) → CircuitBytes any bytes → (circuit message proof session seed : List ℕ) → (end : End) × HashAny circuit any message proof session seed stop end
  some_hash bytes (Gold c) is circuit message proof session seed = go (is_for (length message) c) refl
    where
      go : (fits : Bool) → is_for (length message) c ≡ fits → (end : End) × MatchBool fits (ProvesHash c message proof session seed stop end) (end ≡ says 3 (unfit_line circuit (length message)))
      go true fits = some_proves gold.ops gold_coding gold.laws have.gold_file have.gold_fits c is.valid proof session (gold_word seed) files stop (Some (sha256 message)) (digest_inputs message) (sha_private gold.of_number message) (hash_counts message c fits)
      go false fits = (says 3 (unfit_line circuit (length message)), refl)
  some_hash bytes (Gf c) is circuit message proof session seed = (says 3 (unfit_line circuit (length message)), refl)

  some_command : (command : Command) → HasNumber command → AreBytes files → (end : End) × CommandRun command files stop end
  unfolding EvalRun ShowRun ProveRun VerifyRun HashRun
  some_command (Eval circuit public private) number good = some_at files stop 0 circuit circuit_files (circuits_there good circuit) _ (λ c. some_eval c public private files stop)
  some_command (Compile source circuit version) number good = some_compile version source circuit
  some_command (Upgrade old new) number good = some_upgrade good old new
  some_command (Show circuit) number good = some_at files stop 0 circuit circuit_files (circuits_there good circuit) _ (λ c. (says 0 (shown_any c), refl))
  some_command (Prove circuit public private proof seed session) number good =
      some_with files stop 0 circuit circuit_files (circuits_there good circuit) _ (λ bytes c means. some_prove have bytes c means public private proof (session_of session) (seed_of seed) files stop)
  some_command (Verify circuit public proof session) number good =
      some_at files stop 0 circuit circuit_files (circuits_there good circuit) _ (λ c. some_verify c public proof (session_of session) files stop good)
  some_command (Batch list) number good = some_batch good list
  some_command (Demo count seed) number good =
      let fits = number_fits count number in some_demo (number_of count) (seed_of seed) fits.0 (have.demo_circuit (number_of count) fits.0 fits.1)
  some_command (ShaCircuit count circuit) number good = some_shacircuit (number_of count) circuit (count_fits count number)
  some_command (Sha256 circuit proof message seed session) number good =
      some_with files stop 0 circuit circuit_files (circuits_there good circuit) _ (λ bytes c means. some_hash bytes c means circuit (message_of message) proof (session_of session) (seed_of seed))

pub some_end : HaveFiles → SomeEnd
some_end have words files stop good = go (command_of words) (has_number words)
  where
    go : (command : Option Command) → ((c : Command) → command ≡ Some c → HasNumber c) → (end : End) × MatchOption command (end ≡ refused_words) (λ c. CommandRun c files stop end)
    go None number = (refused_words, refl)
    go (Some command) number = some_command have files stop command (number command refl) good
