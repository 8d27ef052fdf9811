-- What `prove` and `sha256` put is accepted.
use Rattle.std.proofs.Common.{◌≡◌, ◌⊎◌, inl, inr, ℕ, suc, Bool, true, false, List, length, Option, Some, None, Result, Ok, Err, refl, sym, ap, ◌∙◌, subst, arith}
use Rattle.std.specs.Prelude.{◌≤◌, ◌==◌, MatchBool, MatchOption, nat_lt}
use Rattle.std.proofs.lemmas.List.{length-map}
use Rattle.std.proofs.lemmas.Bool.{and_parts, eqb-true, ltb-false}
use Rattle.hex.specs.declared.error.FromHexError.{FromHexError}
use Rattle.hex.specs.Hex.{decode_of}
use Rattle.hex.proofs.HexLemmas.{decode_of-ok}
use Rattle.lzk_circbytes.specs.declared.any.AnyCircuit.{AnyCircuit}
use Rattle.lzk_circbytes.specs.declared.any.AnyCircuit.TheVariants.{Gold, Gf}
use Rattle.sha2.specs.Sha256.{sha256}
use Rattle.lzk_circbytes.specs.Files.{CircuitBytes}
use Rattle.lzk_circuit.specs.Checks.{checks_of}
use Rattle.lzk_circuit.specs.Valid.{Wiring, input_width, IsValid}
use Rattle.lzk_circuit.specs.Wires.{inputs_of, IsFirstNonzero}
use Rattle.lzk_circuit.proofs.CheckLaws.{one-checks}
use Rattle.lzk_circuit.proofs.DepthLaws.{inputs-count}
use Rattle.lzk_circuit.proofs.VersionLaws.{valid-one}
use Rattle.lzk_field.specs.Coding.{Coding}
use Rattle.lzk_field.specs.Ring.{Ops}
use Rattle.lzk_goldilocks.specs.Elements as gold
use Rattle.lzk_goldilocks.specs.Prime.{p, element_bytes}
use Rattle.lzk_goldilocks.specs.declared.element.Gold.{Gold as GoldElement}
use Rattle.lzk_gf128.specs.Elements as gf
use Rattle.lzk_ligero_proof.specs.Complete.{Complete}
use Rattle.lzk_ligero_proof.specs.Proving.{HaveCounts, words_of}
use Rattle.lzk_outside.specs.Outside.{Files}
use Rattle.lzk_sha_circuit.specs.Circuits.{MessagesSatisfy}
use Rattle.lzk_sha_circuit.specs.Digest.{AreBytes}
use Rattle.lzk_sha_circuit.specs.Inputs.{sha_private}
use Rattle.lzk_sha_circuit.specs.Places.{private_count}
use Rattle.lzk_verify.specs.Verdict.{IsVerdict}
use Rattle.lzk_verify.specs.declared.verdict.Verdict.TheVariants.{Accepted}
use Rattle.lzk_cmd.specs.Accepted.{PutsAccepted, PutsAcceptedAny, ProvedIsAccepted, HashedIsAccepted, HasShaOutputs, HasShaChecks, HashesAreSatisfied}
use Rattle.lzk_cmd_files.specs.Decoded.{circuit_files, number_files}
use Rattle.lzk_cmd_files.specs.Ends.{End, Stop, Nowhere, AtRead, AtPut, stops_at, says, missing_file, puts}
use Rattle.lzk_cmd_files.specs.Formats.{Format, HasFile, Has, AtBytes, At}
use Rattle.lzk_cmd_prove.specs.Hashed.{HashAny, HashRun, ProvesHash, digest_inputs, is_for}
use Rattle.lzk_cmd_words.specs.Digits.{message_of, seed_of, decoded_or_none, session_of}
use Rattle.lzk_cmd_files.specs.Lines.{larger_line, reading_line, unfit_line}
use Rattle.lzk_cmd_prove.specs.Proved.{Proves, ProveOver, ProveAny, ProveRun, gold_word, gf_word}
use Rattle.lzk_cmd.specs.Run.{CommandRun}
use Rattle.lzk_cmd_verify.specs.Verified.{gold_coding, gf_coding}
use Rattle.lzk_cmd_words.specs.Words.{Prove, Sha256}
use Rattle.lzk_cmd_prove.proofs.DemoCounts.{none_nonzero}
use Rattle.lzk_cmd.proofs.HashCounts.{hash_counts, length-digest, length-sha_private}
use Rattle.lzk_cmd_files.proofs.Laws.{circuits}
use Rattle.lzk_cmd_words.proofs.Sessions.{message_fits}

put_is : (stop : Stop) (name bytes text : List ℕ) → (puts stop name bytes text).put ≡ Some (name, bytes)
put_is Nowhere name bytes text = refl
put_is (AtRead k) name bytes text = refl
put_is AtPut name bytes text = refl

-- a run that ends with 0 or 1
module _ (files : Files) (stop : Stop) (end : End) (few : end.status ≤ 1) where
  not_done : {P : Type 0} (other : End) (n : ℕ) → other.status ≡ suc (suc n) → end ≡ other → P
  not_done other n is same = let e : end.status ≡ suc (suc n) = ap (λ (x : End). x.status) same ∙ is in absurd (omega (arith, e, few))

  -- a file was read to its end, and the walk went on with what it means
  abbrev Read : {X F : Type 0} → Format X F → List ℕ → (X → Type 0) → Type 0
  Read {X} format name next = (x : X) × Has format files name x × next x

  was_read : {X F : Type 0} (format : Format X F) (k : ℕ) (name : List ℕ) (next : X → Type 0) → ((fault : F) → (format.refused name fault).status ≡ 3) → At format files stop k name end next → Read format name next
  was_read format k name next refused h = go (stops_at stop k) (files name) refl h
    where
      behind : (bytes : List ℕ) → HasFile (files name) format.limit bytes → AtBytes format name bytes end next → Read format name next
      behind bytes has (inl (x, means, rest)) = (x, record { bytes = bytes; file = has; means = means }, rest)
      behind bytes has (inr (fault, breaks, same)) = not_done (format.refused name fault) 1 (refused fault) same

      fits : (bytes : List ℕ) → files name ≡ Some bytes → (larger : Bool) → nat_lt format.limit (length bytes) ≡ larger
          → MatchBool larger (end ≡ says 3 (larger_line name format.limit)) (AtBytes format name bytes end next) → Read format name next
      fits bytes is true e h = not_done (says 3 (larger_line name format.limit)) 1 refl h
      fits bytes is false e h = behind bytes (record { there = is; fits = ltb-false format.limit (length bytes) e }) h

      go : (stops : Bool) (file : Option (List ℕ)) → files name ≡ file
          → MatchBool stops (end ≡ says 4 (reading_line name)) (MatchOption file (end ≡ missing_file name) (λ bytes. MatchBool (nat_lt format.limit (length bytes)) (end ≡ says 3 (larger_line name format.limit)) (AtBytes format name bytes end next))) → Read format name next
      go true file is h = not_done (says 4 (reading_line name)) 2 refl h
      go false None is h = not_done (missing_file name) 1 refl h
      go false (Some bytes) is h = fits bytes is (nat_lt format.limit (length bytes)) refl h

  module _ {A : Type 0} (o : Ops A) (e : Coding A) (complete : Complete o e) (c : Wiring A) (valid : IsValid o c) (done : end.status ≡ 0) (proof session : List ℕ) (word : ℕ → ℕ) where
    proves_accepted : (digest : Option (List ℕ)) (publics privates : List A) → HaveCounts c publics privates → Proves o e c proof digest session word publics privates stop end
        → (bytes : List ℕ) × (end.put ≡ Some (proof, bytes)) × IsVerdict o e c session publics bytes Accepted
    proves_accepted digest publics privates counts (None, satisfied, (bytes, file, fits, is)) =
        (bytes, ap (λ (x : End). x.put) is ∙ put_is stop proof bytes _, complete c session publics privates (words_of word) bytes valid counts satisfied file)
    proves_accepted digest publics privates counts (Some found, first, is) = let e : 0 ≡ 1 = sym done ∙ ap (λ (x : End). x.status) is in absurd (omega (arith, e))

    accepted_over : (public private : List ℕ) → ProveOver o e c public private proof session word files stop end → PutsAccepted o e c public proof session files end
    unfolding ProveOver
    accepted_over public private h =
        let first = was_read (number_files e.size e.number c.publics) 1 public _ (λ fault. refl) h in
        let second = was_read (number_files e.size e.number c.privates) 2 private _ (λ fault. refl) first.2 in
        let counts : HaveCounts c first.0 second.0 = (sym (length-map first.0 e.number) ∙ first.1.means.number, sym (length-map second.0 e.number) ∙ second.1.means.number) in
        let put = proves_accepted None first.0 second.0 counts second.2 in
        (first.0, put.0, first.1, put.1, put.2)

at_most : {n : ℕ} → n ≡ 0 → n ≤ 1
at_most e = omega (arith, e)

module _ (gold_accepted : Complete gold.ops gold_coding) (gf_accepted : Complete gf.ops gf_coding) where
  accepted_any : (files : Files) (stop : Stop) (end : End) → end.status ≡ 0 → (c : AnyCircuit) (bytes : List ℕ) → CircuitBytes c bytes → (public private proof session seed : List ℕ) → ProveAny c public private proof session seed files stop end
      → PutsAcceptedAny c public proof session files end
  accepted_any files stop end done (Gold c) bytes is public private proof session seed = accepted_over files stop end (at_most done) gold.ops gold_coding gold_accepted c is.valid done proof session (gold_word seed) public private
  accepted_any files stop end done (Gf c) bytes is public private proof session seed = accepted_over files stop end (at_most done) gf.ops gf_coding gf_accepted c is.valid done proof session (gf_word seed) public private

  pub proved_is_accepted : ProvedIsAccepted
  unfolding ProveRun
  proved_is_accepted words files stop end circuit public private proof seed session is run done =
      let walk : CommandRun (Prove circuit public private proof seed session) files stop end = rw is at run in
      let found = was_read files stop end (at_most done) circuit_files 0 circuit _ (λ fault. refl) walk in
      (found.0, found.1, accepted_any files stop end done found.0 found.1.bytes found.1.means public private proof (session_of session) (seed_of seed) found.2)

  -- a hash that was proved over a circuit
  abbrev HashAccepted : Files → List ℕ → List ℕ → List ℕ → List ℕ → End → AnyCircuit → Type 0
  HashAccepted files circuit message proof session end any =
      (c : Wiring GoldElement) × (bytes : List ℕ) × (any ≡ Gold c) × (end.put ≡ Some (proof, bytes)) × IsVerdict gold.ops gold_coding c session (digest_inputs message) bytes Accepted

  hash_accepted : (files : Files) (stop : Stop) (end : End) → end.status ≡ 0 → (any : AnyCircuit) (bytes : List ℕ) → CircuitBytes any bytes → (circuit message proof session seed : List ℕ) → HashAny circuit any message proof session seed stop end
      → HashAccepted files circuit message proof session end any
  hash_accepted files stop end done (Gold c) bytes is circuit message proof session seed h = go (is_for (length message) c) refl h
    where
      go : (b : Bool) → is_for (length message) c ≡ b → MatchBool b (ProvesHash c message proof session seed stop end) (end ≡ says 3 (unfit_line circuit (length message))) → HashAccepted files circuit message proof session end (Gold c)
      go true fits h =
          let put = proves_accepted files stop end (at_most done) gold.ops gold_coding gold_accepted c is.valid done proof session (gold_word seed) (Some (sha256 message)) (digest_inputs message) (sha_private gold.of_number message) (hash_counts message c fits) h in
          (c, put.0, refl, put.1, put.2)
      go false fits h = not_done files stop end (at_most done) (says 3 (unfit_line circuit (length message))) 1 refl h
  hash_accepted files stop end done (Gf c) bytes is circuit message proof session seed h = not_done files stop end (at_most done) (says 3 (unfit_line circuit (length message))) 1 refl h

  pub hashed_is_accepted : HashedIsAccepted
  unfolding HashRun
  hashed_is_accepted words files stop end circuit proof message seed session is run done =
      let walk : CommandRun (Sha256 circuit proof message seed session) files stop end = rw is at run in
      let found = was_read files stop end (at_most done) circuit_files 0 circuit _ (λ fault. refl) walk in
      let made = hash_accepted files stop end done found.0 found.1.bytes found.1.means circuit (message_of message) proof (session_of session) (seed_of seed) found.2 in
      (made.0, made.1, subst (Has circuit_files files circuit) made.2 found.1, made.3, made.4)

-- ---- over a circuit of SHA-256

-- the message is a list of bytes
message_bytes : (digits : List ℕ) (read : Result (List ℕ) FromHexError) → decode_of digits ≡ read → AreBytes (decoded_or_none read)
message_bytes digits (Ok bytes) is = λ k less. (decode_of-ok digits bytes is).3 k
message_bytes digits (Err fault) is = λ k less. absurd (omega (arith, less))

put_status : (stop : Stop) (name bytes text : List ℕ) → (puts stop name bytes text).status ≡ 1 → ⊥
put_status Nowhere name bytes text e = omega (arith, e)
put_status (AtRead k) name bytes text e = omega (arith, e)
put_status AtPut name bytes text e = omega (arith, e)

-- the checks of a circuit of version 1 with these counts are its outputs
sha_checks : (c : Wiring GoldElement) (len : ℕ) → IsValid gold.ops c → is_for len c ≡ true → HasShaChecks len c ⊎ ((c.version ≡ 1) × HasShaOutputs len c) → HasShaChecks len c
sha_checks c len valid fits (inl checks) = checks
sha_checks c len valid fits (inr (version, outputs)) = λ public private publics privates.
    let counts = and_parts (c.publics == 8) (c.privates == private_count len) fits in
    let few : c.publics ≡ 8 = eqb-true c.publics 8 counts.0 in
    let many : c.privates ≡ private_count len = eqb-true c.privates (private_count len) counts.1 in
    let inputs = inputs_of gold.ops public private in
    let count : length inputs ≡ input_width c = inputs-count gold.ops public private ∙ omega (arith, publics, privates, few, many) in
    one-checks gold.ops p gold.number gold.of_number element_bytes gold.laws (input_width c) c.layers inputs count valid.some (valid-one gold.ops c version valid) ∙ outputs public private publics privates

satisfies : MessagesSatisfy → (c : Wiring GoldElement) (message : List ℕ) → length message ≤ 55 → AreBytes message → HasShaChecks (length message) c → (proof session seed : List ℕ) (stop : Stop) (end : End) → ProvesHash c message proof session seed stop end → end.status ≡ 1 → ⊥
satisfies all c message few bytes is proof session seed stop end (None, first, (xs, file, fits, same)) one = put_status stop proof xs _ (sym (ap (λ (x : End). x.status) same) ∙ one)
satisfies all c message few bytes is proof session seed stop end (Some found, first, same) one =
    let checks = is (digest_inputs message) (sha_private gold.of_number message) (length-digest message) (length-sha_private message) in
    let zeros = all message few bytes in
    none_nonzero gold.ops (checks_of gold.ops gold.number c.layers (inputs_of gold.ops (digest_inputs message) (sha_private gold.of_number message))) found
    (subst (λ (xs : List GoldElement). IsFirstNonzero gold.ops xs None) (sym checks) zeros) first

pub hashes_satisfied : MessagesSatisfy → HashesAreSatisfied
unfolding HashRun
hashes_satisfied all words files stop end circuit proof message seed session c is has sha run one =
    let walk : CommandRun (Sha256 circuit proof message seed session) files stop end = rw is at run in
    let found = was_read files stop end (omega (arith, one)) circuit_files 0 circuit _ (λ fault. refl) walk in
    let there : Some found.1.bytes ≡ Some has.bytes = sym found.1.file.there ∙ has.file.there in
    let bytes : found.1.bytes ≡ has.bytes = cc in
    let same : found.0 ≡ Gold c = circuits.one has.bytes found.0 (Gold c) (subst (λ (xs : List ℕ). circuit_files.means xs found.0) bytes found.1.means) has.means in
    let whole : HashAny circuit (Gold c) (message_of message) proof (session_of session) (seed_of seed) stop end = subst (λ (any : AnyCircuit). HashAny circuit any (message_of message) proof (session_of session) (seed_of seed) stop end) same found.2 in
    refute (is_for (length (message_of message)) c) refl whole
  where
    refute : (b : Bool) → is_for (length (message_of message)) c ≡ b → MatchBool b (ProvesHash c (message_of message) proof (session_of session) (seed_of seed) stop end) (end ≡ says 3 (unfit_line circuit (length (message_of message)))) → ⊥
    refute true fits proves = satisfies all c (message_of message) (message_fits words circuit proof message seed session is) (message_bytes message (decode_of message) refl) (sha_checks c (length (message_of message)) has.means.valid fits sha) proof (session_of session) (seed_of seed) stop end proves one
    refute false other unfit = omega (arith, ap (λ (x : End). x.status) unfit, one)
