-- Each words, files and stop have one end.
use Rattle.std.proofs.Common.{◌≡◌, ◌<◌, inl, inr, ◌⊎◌, ℕ, ◌+◌, Bool, true, false, List, [], ◌∷◌, ◌++◌, length, map, Option, Some, None, refl, sym, ap, ◌∙◌, subst, arith}
use Rattle.std.specs.Prelude.{◌^◌, MatchBool, MatchOption, nat_lt, slice_index_or}
use Rattle.lzk_batch.specs.Lists.{Listed}
use Rattle.lzk_circbytes.specs.declared.any.AnyCircuit.{AnyCircuit}
use Rattle.lzk_circbytes.specs.declared.any.AnyCircuit.TheVariants.{Gold, Gf}
use Rattle.sha2.specs.Sha256.{sha256}
use Rattle.lzk_circbytes.proofs.Whole.{one_file}
use Rattle.lzk_circuit.specs.Valid.{Wiring}
use Rattle.lzk_circuit.specs.Checks.{checks_of}
use Rattle.lzk_circuit.specs.Wires.{inputs_of, IsFirstNonzero}
use Rattle.lzk_demo.specs.Demo.{demo_tree}
use Rattle.lzk_expr.specs.Trees.{SourceTree}
use Rattle.lzk_level.specs.Compiled.{depth_of, source_layers}
use Rattle.lzk_level.specs.declared.fault.LevelFault.{LevelFault}
use Rattle.lzk_field.specs.Coding.{Coding}
use Rattle.lzk_field.specs.Ring.{Ops, Laws}
use Rattle.lzk_goldilocks.specs.Prime.{p}
use Rattle.lzk_goldilocks.specs.Elements as gold
use Rattle.lzk_gf128.specs.Elements as gf
use Rattle.lzk_ligero_proof.specs.Proving.{OneFile, words_of}
use Rattle.lzk_layout.specs.Fields.{shape}
use Rattle.lzk_layout.specs.Sizes.{params_of}
use Rattle.lzk_layout.proofs.Faults.{one_fault}
use Rattle.lzk_layout.proofs.OneProof.{one_proof, no_fault}
use Rattle.lzk_outside.specs.Outside.{Files}
use Rattle.lzk_sha_circuit.specs.Inputs.{sha_private}
use Rattle.lzk_verify.proofs.OneVerdict.{one_verdict}
use Rattle.lzk_cmd_batch.specs.Batched.{JobRead, AnyRead, GoldRead, GfRead, IsTold, AreTold, JobOver, JobAny, JobsRun, BatchRun, list_files, among, batch_end}
use Rattle.lzk_cmd_circuits.specs.Compiled.{CompiledAs, CompileRun, PutsCompiled, limit_as, term_total}
use Rattle.lzk_cmd_prove.specs.Demo.{DemoRun}
use Rattle.lzk_cmd_files.specs.Decoded.{circuit_files, number_files, source_files, proof_files, level_refused}
use Rattle.lzk_cmd_files.specs.Ends.{End, Stop, stops_at, says, missing_file, refused_words, puts}
use Rattle.lzk_cmd_files.specs.Formats.{Format, AtBytes, At}
use Rattle.lzk_cmd_circuits.specs.ShaCircuits.{ShaCircuitRun}
use Rattle.lzk_level.specs.Upgraded.{upgraded_any}
use Rattle.lzk_cmd_circuits.specs.Upgraded.{UpgradeRun, PutsUpgraded}
use Rattle.lzk_cmd_prove.specs.Hashed.{ProvesHash, HashAny, HashRun, digest_inputs, is_for}
use Rattle.lzk_cmd_words.specs.Digits.{message_of, seed_of, session_of}
use Rattle.lzk_cmd_words.specs.Keys.{number_of}
use Rattle.lzk_cmd_files.specs.Lines.{larger_line, reading_line, told_line, unfit_line, upgraded_line}
use Rattle.lzk_cmd.specs.OneEnd.{PutAlike, DemoAlike, AreOne, OneEnd}
use Rattle.lzk_cmd_prove.specs.Proved.{PutsProof, Proves, ProveOver, ProveAny, ProveRun, nonzero_end, gold_word, gf_word}
use Rattle.lzk_cmd_circuits.specs.Evaluated.{Evaluated, EvalOver, EvalAny, EvalRun, ShowRun, verdict, output_lines}
use Rattle.lzk_cmd.specs.Run.{CommandRun}
use Rattle.lzk_cmd_verify.specs.Verified.{Judged, VerifyOver, VerifyAny, VerifyRun, verdict_end, gold_coding, gf_coding}
use Rattle.lzk_cmd_words.specs.declared.words.Version.{Version}
use Rattle.lzk_cmd_words.specs.declared.words.Version.TheVariants.{One, Two}
use Rattle.lzk_cmd_words.specs.Words.{Command, Eval, Compile, Upgrade, Show, Prove, Verify, Batch, Demo, ShaCircuit, Sha256, command_of}
use Rattle.lzk_cmd_batch.proofs.Lists as lists
use Rattle.lzk_cmd_batch.proofs.Lists.{among_lawful}
use Rattle.lzk_cmd_files.proofs.Laws as formats
use Rattle.lzk_cmd_files.proofs.Laws.{IsLawful}

-- two walks over the same files to two ends: what follows from equal ends, and where both go on, follows
module _ (files : Files) (stop : Stop) (a b : End) (P : Type 0) (same : a ≡ b → P) where
  one_size : (name bytes : List ℕ) (limit : ℕ) (larger : Bool) (m n : Type 0) → (m → n → P)
      → MatchBool larger (a ≡ says 3 (larger_line name limit)) m → MatchBool larger (b ≡ says 3 (larger_line name limit)) n → P
  one_size name bytes limit true m n then h k = same (h ∙ sym k)
  one_size name bytes limit false m n then h k = then h k

  one_there : (name : List ℕ) (limit : ℕ) (m n : List ℕ → Type 0) → ((bytes : List ℕ) → m bytes → n bytes → P) → (s : Bool) (file : Option (List ℕ))
      → MatchBool s (a ≡ says 4 (reading_line name)) (MatchOption file (a ≡ missing_file name) (λ bytes. MatchBool (nat_lt limit (length bytes)) (a ≡ says 3 (larger_line name limit)) (m bytes)))
      → MatchBool s (b ≡ says 4 (reading_line name)) (MatchOption file (b ≡ missing_file name) (λ bytes. MatchBool (nat_lt limit (length bytes)) (b ≡ says 3 (larger_line name limit)) (n bytes))) → P
  one_there name limit m n then true file h k = same (h ∙ sym k)
  one_there name limit m n then false None h k = same (h ∙ sym k)
  one_there name limit m n then false (Some bytes) h k = one_size name bytes limit (nat_lt limit (length bytes)) (m bytes) (n bytes) (then bytes) h k

  one_step : {X F : Type 0} (format : Format X F) → IsLawful format → (k : ℕ) (name : List ℕ) (m n : X → Type 0) → ((x : X) → m x → n x → P) → At format files stop k name a m → At format files stop k name b n → P
  one_step {X} {F} format law k name m n then h j = one_there name format.limit (λ bytes. AtBytes format name bytes a m) (λ bytes. AtBytes format name bytes b n) go (stops_at stop k) (files name) h j
    where
      go : (bytes : List ℕ) → AtBytes format name bytes a m → AtBytes format name bytes b n → P
      go bytes (inl (x, is, h)) (inl (y, js, g)) = then y (subst m (law.one bytes x y is js) h) g
      go bytes (inl (x, is, h)) (inr (fault, broken, g)) = absurd (law.not_both bytes x fault is broken)
      go bytes (inr (fault, broken, h)) (inl (x, is, g)) = absurd (law.not_both bytes x fault is broken)
      go bytes (inr (f, broken, h)) (inr (e, again, g)) = same (h ∙ law.one_refusal name bytes f e broken again ∙ sym g)

-- the first value that is not 0
one_first : {A : Type 0} (o : Ops A) (xs : List A) (f g : Option (ℕ × A)) → IsFirstNonzero o xs f → IsFirstNonzero o xs g → f ≡ g
one_first o xs None None h k = refl
one_first o xs None (Some (i, v)) h k = absurd (k.2 (sym k.1 ∙ h i k.0))
one_first o xs (Some (i, v)) None h k = absurd (h.2 (sym h.1 ∙ k i h.0))
one_first o xs (Some (i, v)) (Some (j, w)) h k =
    let upper : i < j → ⊥ = λ l. h.2 (sym h.1 ∙ k.3 i l) in
    let lower : j < i → ⊥ = λ l. k.2 (sym k.1 ∙ h.3 j l) in
    let places : i ≡ j = at i j upper lower in
    ap (λ n. Some (n, v)) places ∙ ap (λ x. Some (j, x)) (sym h.1 ∙ ap (λ n. slice_index_or xs n o.zero) places ∙ k.1)
  where
    at : (i j : ℕ) → (i < j → ⊥) → (j < i → ⊥) → i ≡ j
    at i j upper lower = omega (arith, upper, lower)

one_evaluation : {A : Type 0} (o : Ops A) (number : A → ℕ) (checks : List A) (a b : End) → Evaluated o number checks a → Evaluated o number checks b → a ≡ b
one_evaluation o number checks a b h k = h.2 ∙ ap (verdict (output_lines 0 (map number checks))) (one_first o checks h.0 k.0 h.1 k.1) ∙ sym k.2

one_eval_over : {A : Type 0} (o : Ops A) (size : ℕ) (number : A → ℕ) (injective : (x y : A) → number x ≡ number y → x ≡ y) (c : Wiring A) (public private : List ℕ) (files : Files) (stop : Stop) (a b : End)
    → EvalOver o size number c public private files stop a → EvalOver o size number c public private files stop b → a ≡ b
unfolding EvalOver
one_eval_over o size number injective c public private files stop a b =
    one_step files stop a b (a ≡ b) (λ e. e) (number_files size number c.publics) (formats.numbers size number injective c.publics) 1 public _ _ (λ publics.
    one_step files stop a b (a ≡ b) (λ e. e) (number_files size number c.privates) (formats.numbers size number injective c.privates) 2 private _ _ (λ privates.
    one_evaluation o number (checks_of o number c.layers (inputs_of o publics privates)) a b))

one_eval_any : (c : AnyCircuit) (public private : List ℕ) (files : Files) (stop : Stop) (a b : End) → EvalAny c public private files stop a → EvalAny c public private files stop b → a ≡ b
one_eval_any (Gold c) public private files stop a b h k = one_eval_over gold.ops p gold.number gold.Gold-ext c public private files stop a b h k
one_eval_any (Gf c) public private files stop a b h k = one_eval_over gf.ops (2 ^ 128) gf.number gf.Gf128-ext c public private files stop a b h k

module _ {A : Type 0} (o : Ops A) (e : Coding A) (laws : Laws o e.size e.number e.element e.bytes) (c : Wiring A) where
  numbers_apart : (x y : A) → e.number x ≡ e.number y → x ≡ y
  numbers_apart x y same = sym (laws.numbers.element_number x) ∙ ap e.element same ∙ laws.numbers.element_number y

  one_judged : (session : List ℕ) (publics : List A) (bytes : List ℕ) (a b : End) → Judged o e c session publics bytes a → Judged o e c session publics bytes b → a ≡ b
  one_judged session publics bytes a b h k =
      let p = params_of c in
      let verdicts = one_verdict o e c session publics (one_proof o e.size e.number e.element e.bytes laws p) (one_fault (shape e.bytes e.size) p) (no_fault o e.size e.number e.element e.bytes laws p) bytes h.0 k.0 h.1 k.1 in
      h.2 ∙ ap (verdict_end e.number) verdicts ∙ sym k.2

  one_verify_over : (public proof session : List ℕ) (files : Files) (stop : Stop) (a b : End) → VerifyOver o e c public proof session files stop a → VerifyOver o e c public proof session files stop b → a ≡ b
  unfolding VerifyOver
  one_verify_over public proof session files stop a b =
      one_step files stop a b (a ≡ b) (λ e. e) (number_files e.size e.number c.publics) (formats.numbers e.size e.number numbers_apart c.publics) 1 public _ _ (λ publics.
      one_step files stop a b (a ≡ b) (λ e. e) proof_files formats.proofs 2 proof _ _ (λ bytes.
      one_judged session publics bytes a b))

  -- where there is one file of a proof
  module _ (files : Files) (stop : Stop) (a b : End) (one : OneFile o e) (proof : List ℕ) (digest : Option (List ℕ)) (session : List ℕ) (word : ℕ → ℕ) where
    one_proves : (publics privates : List A) → Proves o e c proof digest session word publics privates stop a → Proves o e c proof digest session word publics privates stop b → a ≡ b
    one_proves publics privates (f, is, h) (g, js, k) = go f h (subst (λ (first : Option (ℕ × A)). MatchOption first (PutsProof o e c proof digest session word publics privates stop b) (λ found. b ≡ nonzero_end e.number found)) (one_first o _ g f js is) k)
      where
        go : (first : Option (ℕ × A)) → MatchOption first (PutsProof o e c proof digest session word publics privates stop a) (λ found. a ≡ nonzero_end e.number found)
            → MatchOption first (PutsProof o e c proof digest session word publics privates stop b) (λ found. b ≡ nonzero_end e.number found) → a ≡ b
        go None (xs, file, fits, h) (ys, other, also, k) =
            h ∙ ap (λ bytes. puts stop proof bytes (told_line proof digest (length bytes))) (one c session publics privates (words_of word) xs ys file other) ∙ sym k
        go (Some found) h k = h ∙ sym k

  one_prove_over : (files : Files) (stop : Stop) (a b : End) → OneFile o e → (proof session : List ℕ) (word : ℕ → ℕ) (public private : List ℕ) → ProveOver o e c public private proof session word files stop a → ProveOver o e c public private proof session word files stop b → a ≡ b
  unfolding ProveOver
  one_prove_over files stop a b one proof session word public private =
      one_step files stop a b (a ≡ b) (λ e. e) (number_files e.size e.number c.publics) (formats.numbers e.size e.number numbers_apart c.publics) 1 public _ _ (λ publics.
      one_step files stop a b (a ≡ b) (λ e. e) (number_files e.size e.number c.privates) (formats.numbers e.size e.number numbers_apart c.privates) 2 private _ _ (λ privates.
      one_proves files stop a b one proof None session word publics privates))

one_verify_any : (c : AnyCircuit) (public proof session : List ℕ) (files : Files) (stop : Stop) (a b : End) → VerifyAny c public proof session files stop a → VerifyAny c public proof session files stop b → a ≡ b
one_verify_any (Gold c) public proof session files stop a b h k = one_verify_over gold.ops gold_coding gold.laws c public proof session files stop a b h k
one_verify_any (Gf c) public proof session files stop a b h k = one_verify_over gf.ops gf_coding gf.laws c public proof session files stop a b h k

-- what is known of the two fields' proofs
module _ (gold_file : OneFile gold.ops gold_coding) (gf_file : OneFile gf.ops gf_coding) where
  one_prove_any : (c : AnyCircuit) (public private proof session seed : List ℕ) (files : Files) (stop : Stop) (a b : End) → ProveAny c public private proof session seed files stop a → ProveAny c public private proof session seed files stop b → a ≡ b
  one_prove_any (Gold c) public private proof session seed files stop a b h k = one_prove_over gold.ops gold_coding gold.laws c files stop a b gold_file proof session (gold_word seed) public private h k
  one_prove_any (Gf c) public private proof session seed files stop a b h k = one_prove_over gf.ops gf_coding gf.laws c files stop a b gf_file proof session (gf_word seed) public private h k

-- a hash over a circuit
one_hash : OneFile gold.ops gold_coding → (any : AnyCircuit) (circuit message proof session seed : List ℕ) (files : Files) (stop : Stop) (a b : End) → HashAny circuit any message proof session seed stop a → HashAny circuit any message proof session seed stop b → a ≡ b
one_hash one (Gold c) circuit message proof session seed files stop a b h k = go (is_for (length message) c) h k
  where
    go : (fits : Bool) → MatchBool fits (ProvesHash c message proof session seed stop a) (a ≡ says 3 (unfit_line circuit (length message))) → MatchBool fits (ProvesHash c message proof session seed stop b) (b ≡ says 3 (unfit_line circuit (length message))) → a ≡ b
    go true h k = one_proves gold.ops gold_coding gold.laws c files stop a b one proof (Some (sha256 message)) session (gold_word seed) (digest_inputs message) (sha_private gold.of_number message) h k
    go false h k = h ∙ sym k
one_hash one (Gf c) circuit message proof session seed files stop a b h k = h ∙ sym k

one_shacircuit : (len : ℕ) (circuit : List ℕ) (files : Files) (stop : Stop) (a b : End) → ShaCircuitRun len circuit files stop a → ShaCircuitRun len circuit files stop b → PutAlike stop circuit a b
unfolding ShaCircuitRun
one_shacircuit len circuit files stop a b (c, xs, is, file, fits, e) (d, ys, js, other, also, f) = record {
  layers = 2;
  first = record { bytes = xs; terms = term_total (Gold c) };
  second = record { bytes = ys; terms = term_total (Gold d) };
  first_is = rw is.layers at e;
  second_is = rw js.layers at f;
}

-- a circuit of a source has its layers, in either version
layers_as : (version : Version) (s : SourceTree) (c : AnyCircuit) → CompiledAs version s c → depth_of c ≡ source_layers s
layers_as One s c is = is.layers
layers_as Two s c is = is.layers

one_compile : (version : Version) (source circuit : List ℕ) (files : Files) (stop : Stop) (a b : End) → CompileRun version source circuit files stop a → CompileRun version source circuit files stop b
    → (a ≡ b) ⊎ PutAlike stop circuit a b
unfolding CompileRun
one_compile version source circuit files stop a b = one_step files stop a b _ inl source_files formats.sources 0 source _ _ (λ s. go s (limit_as version s))
  where
    alike : (s : SourceTree) → PutsCompiled version s circuit stop a → PutsCompiled version s circuit stop b → PutAlike stop circuit a b
    alike s (c, xs, is, file, fits, e) (d, ys, js, other, also, f) = record {
      layers = source_layers s;
      first = record { bytes = xs; terms = term_total c };
      second = record { bytes = ys; terms = term_total d };
      first_is = rw (layers_as version s c is) at e;
      second_is = rw (layers_as version s d js) at f;
    }

    go : (s : SourceTree) (limit : Option LevelFault) → MatchOption limit (PutsCompiled version s circuit stop a) (λ fault. a ≡ level_refused source fault) → MatchOption limit (PutsCompiled version s circuit stop b) (λ fault. b ≡ level_refused source fault)
        → (a ≡ b) ⊎ PutAlike stop circuit a b
    go s None h k = inr (alike s h k)
    go s (Some fault) h k = inl (h ∙ sym k)

-- a circuit has one file in version 2
one_upgrade : (old new : List ℕ) (files : Files) (stop : Stop) (a b : End) → UpgradeRun old new files stop a → UpgradeRun old new files stop b → a ≡ b
unfolding UpgradeRun
one_upgrade old new files stop a b = one_step files stop a b (a ≡ b) (λ e. e) circuit_files formats.circuits 0 old _ _ go
  where
    go : (c : AnyCircuit) → PutsUpgraded c new stop a → PutsUpgraded c new stop b → a ≡ b
    go c (xs, file, fits, e) (ys, other, also, f) =
        e ∙ ap (λ (bytes : List ℕ). puts stop new bytes (upgraded_line new (length bytes))) (one_file (upgraded_any c) xs ys file other) ∙ sym f

-- ---- the jobs of a batch

one_told : (job : AnyRead) (a b : End) → IsTold job a → IsTold job b → a ≡ b
one_told (GoldRead job) a b h k = one_judged gold.ops gold_coding gold.laws job.circuit job.session job.publics job.proof a b h k
one_told (GfRead job) a b h k = one_judged gf.ops gf_coding gf.laws job.circuit job.session job.publics job.proof a b h k

all_told : (jobs : List AnyRead) (xs ys : List End) → AreTold jobs xs → AreTold jobs ys → xs ≡ ys
all_told [] [] [] h k = refl
all_told [] [] (y ∷ ys) h k = absurd k
all_told [] (x ∷ xs) ys h k = absurd h
all_told (job ∷ jobs) [] ys h k = absurd h
all_told (job ∷ jobs) (x ∷ xs) [] h k = absurd k
all_told (job ∷ jobs) (x ∷ xs) (y ∷ ys) h k = ap (λ e. e ∷ xs) (one_told job x y h.0 k.0) ∙ ap (λ es. y ∷ es) (all_told jobs xs ys h.1 k.1)

module _ (files : Files) (stop : Stop) (a b : End) where
  one_job_over : {A : Type 0} (o : Ops A) (e : Coding A) (laws : Laws o e.size e.number e.element e.bytes) (c : Wiring A) (job : Listed) (k taken : ℕ) (m n : JobRead A → ℕ → Type 0)
      → ((read : JobRead A) (all : ℕ) → m read all → n read all → a ≡ b) → JobOver e c job k taken files stop a m → JobOver e c job k taken files stop b n → a ≡ b
  one_job_over o e laws c job k taken m n then =
      one_step files stop a b (a ≡ b) (λ same. same) (among taken (number_files e.size e.number c.publics)) (among_lawful (number_files e.size e.number c.publics) (formats.numbers e.size e.number (numbers_apart o e laws c) c.publics) taken) (k + 1) job.public _ _ (λ publics.
      one_step files stop a b (a ≡ b) (λ same. same) (among publics.1 proof_files) (among_lawful proof_files formats.proofs publics.1) (k + 2) job.proof _ _ (λ proof.
      then (record { circuit = c; session = job.session; publics = publics.0; proof = proof.0 }) proof.1))

  one_job : (c : AnyCircuit) (job : Listed) (k taken : ℕ) (m n : AnyRead → ℕ → Type 0)
      → ((read : AnyRead) (all : ℕ) → m read all → n read all → a ≡ b) → JobAny c job k taken files stop a m → JobAny c job k taken files stop b n → a ≡ b
  one_job (Gold c) job k taken m n then h g = one_job_over gold.ops gold_coding gold.laws c job k taken (λ read. m (GoldRead read)) (λ read. n (GoldRead read)) (λ read all. then (GoldRead read) all) h g
  one_job (Gf c) job k taken m n then h g = one_job_over gf.ops gf_coding gf.laws c job k taken (λ read. m (GfRead read)) (λ read. n (GfRead read)) (λ read all. then (GfRead read) all) h g

  one_jobs : (list : List Listed) (k taken : ℕ) (jobs : List AnyRead) → JobsRun list k taken jobs files stop a → JobsRun list k taken jobs files stop b → a ≡ b
  one_jobs [] k taken jobs (xs, told, h) (ys, also, g) = h ∙ ap batch_end (all_told jobs xs ys told also) ∙ sym g
  one_jobs (job ∷ list) k taken jobs h g =
      one_step files stop a b (a ≡ b) (λ same. same) (among taken circuit_files) (among_lawful circuit_files formats.circuits taken) k job.circuit _ _ (λ c.
      one_job c.0 job k c.1 _ _ (λ read all. one_jobs list (k + 3) all (jobs ++ read ∷ []))) h g

  one_batch : (list : List ℕ) → BatchRun list files stop a → BatchRun list files stop b → a ≡ b
  unfolding BatchRun
  one_batch list = one_step files stop a b (a ≡ b) (λ same. same) list_files lists.lawful 0 list _ _ (λ entries. one_jobs entries 1 0 [])

one_demo : (n : ℕ) (seed : List ℕ) (files : Files) (stop : Stop) (a b : End) → DemoRun n seed files stop a → DemoRun n seed files stop b → DemoAlike n a b
unfolding DemoRun
one_demo n seed files stop a b (c, xs, is, h) (d, ys, js, k) = record {
  layers = source_layers (demo_tree n);
  first = length xs;
  second = length ys;
  first_is = rw is.compiled.layers at h;
  second_is = rw js.compiled.layers at k;
}

module _ (gold_file : OneFile gold.ops gold_coding) (gf_file : OneFile gf.ops gf_coding) where
  one_command : (command : Command) (files : Files) (stop : Stop) (a b : End) → CommandRun command files stop a → CommandRun command files stop b → AreOne (Some command) stop a b
  unfolding EvalRun ShowRun ProveRun VerifyRun HashRun
  one_command (Eval circuit public private) files stop a b h k =
      one_step files stop a b (a ≡ b) (λ e. e) circuit_files formats.circuits 0 circuit _ _ (λ c. one_eval_any c public private files stop a b) h k
  one_command (Compile source circuit version) files stop a b h k = one_compile version source circuit files stop a b h k
  one_command (Upgrade old new) files stop a b h k = one_upgrade old new files stop a b h k
  one_command (Show circuit) files stop a b h k = one_step files stop a b (a ≡ b) (λ e. e) circuit_files formats.circuits 0 circuit _ _ (λ c x y. x ∙ sym y) h k
  one_command (Prove circuit public private proof seed session) files stop a b h k =
      one_step files stop a b (a ≡ b) (λ e. e) circuit_files formats.circuits 0 circuit _ _ (λ c. one_prove_any gold_file gf_file c public private proof (session_of session) (seed_of seed) files stop a b) h k
  one_command (Verify circuit public proof session) files stop a b h k =
      one_step files stop a b (a ≡ b) (λ e. e) circuit_files formats.circuits 0 circuit _ _ (λ c. one_verify_any c public proof (session_of session) files stop a b) h k
  one_command (Batch list) files stop a b h k = one_batch files stop a b list h k
  one_command (Demo count seed) files stop a b h k = one_demo (number_of count) (seed_of seed) files stop a b h k
  one_command (ShaCircuit count circuit) files stop a b h k = one_shacircuit (number_of count) circuit files stop a b h k
  one_command (Sha256 circuit proof message seed session) files stop a b h k =
      one_step files stop a b (a ≡ b) (λ e. e) circuit_files formats.circuits 0 circuit _ _ (λ c. one_hash gold_file c circuit (message_of message) proof (session_of session) (seed_of seed) files stop a b) h k

  pub one_end : OneEnd
  one_end words files stop a b = go (command_of words)
    where
      go : (command : Option Command) → MatchOption command (a ≡ refused_words) (λ c. CommandRun c files stop a) → MatchOption command (b ≡ refused_words) (λ c. CommandRun c files stop b) → AreOne command stop a b
      go None h k = h ∙ sym k
      go (Some command) h k = one_command command files stop a b h k
