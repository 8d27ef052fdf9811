use Rattle.std.proofs.Common.{◌≡◌, ◌≢◌, ◌∙◌, ℕ, List, [], ◌∷◌, length, true, false, eqb, Result, Ok, refl, sym, ap, arith}
use Rattle.std.proofs.lemmas.Bool.{eq-eqb, ne_eqb}
use Rattle.std.proofs.lemmas.Result.{err_from_is_err_and}
use Rattle.lzk_goldilocks.specs.Prime.{field_byte}
use Rattle.lzk_circuit.specs.Valid.{Wiring}
use Rattle.lzk_circbytes.specs.declared.fault.ByteKind.TheVariants.{Truncated, FieldId}
use Rattle.lzk_circbytes.specs.declared.fault.ReadError.{ReadError}
use Rattle.lzk_circbytes.specs.declared.fault.ReadError.TheVariants.{Stops, OutOfMemory}
use Rattle.lzk_circbytes.specs.Reading.{Stop, ◌>>=◌, stops, wiring_at}
use Rattle.lzk_circbytes.specs.Files.{goldilocks, gf128, field_at}
use Rattle.lzk_circbytes.specs.Answers.{Fails}
use Rattle.lzk_circbytes.proofs.ReadSteps.{not_if_ok}
use Rattle.lzk_circbytes.proofs.decoding.any_of.Goals as goal

no_byte : (version : ℕ) (bytes : List ℕ) → length bytes ≡ 0 → field_at version bytes ≡ stops Truncated bytes
no_byte version [] h = refl
no_byte version (b ∷ bytes) h = absurd (omega (arith, h))

-- what stands behind the byte of a field
module _ (version : ℕ) (bytes rest : List ℕ) (id : ℕ) (parts : bytes ≡ id ∷ rest) where
  gold_is : id ≡ field_byte → field_at version bytes ≡ (wiring_at goldilocks version rest >>= λ c. Ok (field_byte, c))
  gold_is is = let same : eqb id field_byte ≡ true = eq-eqb id field_byte is in ap (field_at version) parts ∙ rw same refl

  gold_fails : id ≡ field_byte → (e : ReadError) → Fails e (wiring_at goldilocks version rest) → Fails e (field_at version bytes)
  gold_fails is OutOfMemory h = tt
  gold_fails is (Stops left kind) h = gold_is is ∙ ap (λ (r : Result (Wiring ℕ) Stop). r >>= λ c. Ok (field_byte, c)) h

  gold_read : id ≡ field_byte → (c : Wiring ℕ) → wiring_at goldilocks version rest ≡ Ok c → field_at version bytes ≡ Ok (field_byte, c)
  gold_read is c h = gold_is is ∙ ap (λ (r : Result (Wiring ℕ) Stop). r >>= λ c. Ok (field_byte, c)) h

  gf_is : id ≢ field_byte → id ≡ 2 → field_at version bytes ≡ (wiring_at gf128 version rest >>= λ c. Ok (2, c))
  gf_is not_gold is =
      let other : eqb id field_byte ≡ false = ne_eqb id field_byte not_gold in
      let same : eqb id 2 ≡ true = eq-eqb id 2 is in
      ap (field_at version) parts ∙ rw (other, same) refl

  gf_fails : id ≢ field_byte → id ≡ 2 → (e : ReadError) → Fails e (wiring_at gf128 version rest) → Fails e (field_at version bytes)
  gf_fails not_gold is OutOfMemory h = tt
  gf_fails not_gold is (Stops left kind) h = gf_is not_gold is ∙ ap (λ (r : Result (Wiring ℕ) Stop). r >>= λ c. Ok (2, c)) h

  gf_read : id ≢ field_byte → id ≡ 2 → (c : Wiring ℕ) → wiring_at gf128 version rest ≡ Ok c → field_at version bytes ≡ Ok (2, c)
  gf_read not_gold is c h = gf_is not_gold is ∙ ap (λ (r : Result (Wiring ℕ) Stop). r >>= λ c. Ok (2, c)) h

  no_field : id ≢ field_byte → id ≢ 2 → field_at version bytes ≡ stops FieldId bytes
  no_field not_gold not_gf =
      let other : eqb id field_byte ≡ false = ne_eqb id field_byte not_gold in
      let others : eqb id 2 ≡ false = ne_eqb id 2 not_gf in
      ap (field_at version) parts ∙ rw (other, others) (ap (λ (xs : List ℕ). stops FieldId xs) (sym parts))

pub returns-in_default-clause-value : goal.returns-in_default-clause-value
returns-in_default-clause-value c = rw c.stop.ensures (no_byte c.args.version.number c.args.bytes.now c.in_default.ensures.cases)

pub returns-in_err-circuit_of-clause-value : goal.returns-in_err-circuit_of-clause-value
returns-in_err-circuit_of-clause-value c =
    let p = err_from_is_err_and c.from_residual.result c.from_residual.ensures.1 in
    rw (p.1, p.2) (gold_fails c.args.version.number c.args.bytes.now c.in-Some.rest.now c.in-Some.id.now c.in-Some.ensures.cases.0 c.if-id-eq-ID.true c.in_err-circuit_of.field-0.0 c.in_err-circuit_of.ensures.value)

pub returns-in_err-circuit_of-clause-valid : goal.returns-in_err-circuit_of-clause-valid
returns-in_err-circuit_of-clause-valid c = not_if_ok _ c.from_residual.result _ c.from_residual.ensures.1

pub returns-in_err-circuit_of-2-clause-value : goal.returns-in_err-circuit_of-2-clause-value
returns-in_err-circuit_of-2-clause-value c =
    let p = err_from_is_err_and c.from_residual-in_err-circuit_of-2.result c.from_residual-in_err-circuit_of-2.ensures.1 in
    rw (p.1, p.2) (gf_fails c.args.version.number c.args.bytes.now c.in-Some.rest.now c.in-Some.id.now c.in-Some.ensures.cases.0 c.if-id-eq-ID.false c.if-id-eq-ID-2.true c.in_err-circuit_of-2.field-0.0 c.in_err-circuit_of-2.ensures.value)

pub returns-in_err-circuit_of-2-clause-valid : goal.returns-in_err-circuit_of-2-clause-valid
returns-in_err-circuit_of-2-clause-valid c = not_if_ok _ c.from_residual-in_err-circuit_of-2.result _ c.from_residual-in_err-circuit_of-2.ensures.1

pub returns-in_ok-circuit_of-clause-value : goal.returns-in_ok-circuit_of-clause-value
returns-in_ok-circuit_of-clause-value c = gold_read c.args.version.number c.args.bytes.now c.in-Some.rest.now c.in-Some.id.now c.in-Some.ensures.cases.0 c.if-id-eq-ID.true _ c.in_ok-circuit_of.ensures.value

pub returns-in_ok-circuit_of-clause-valid : goal.returns-in_ok-circuit_of-clause-valid
returns-in_ok-circuit_of-clause-valid c = c.in_ok-circuit_of.ensures.valid

pub returns-in_ok-circuit_of-2-clause-value : goal.returns-in_ok-circuit_of-2-clause-value
returns-in_ok-circuit_of-2-clause-value c = gf_read c.args.version.number c.args.bytes.now c.in-Some.rest.now c.in-Some.id.now c.in-Some.ensures.cases.0 c.if-id-eq-ID.false c.if-id-eq-ID-2.true _ c.in_ok-circuit_of-2.ensures.value

pub returns-in_ok-circuit_of-2-clause-valid : goal.returns-in_ok-circuit_of-2-clause-valid
returns-in_ok-circuit_of-2-clause-valid c = c.in_ok-circuit_of-2.ensures.valid

pub returns-else-id-eq-ID-2-clause-value : goal.returns-else-id-eq-ID-2-clause-value
returns-else-id-eq-ID-2-clause-value c = rw c.stop-else-id-eq-ID-2.ensures (no_field c.args.version.number c.args.bytes.now c.in-Some.rest.now c.in-Some.id.now c.in-Some.ensures.cases.0 c.if-id-eq-ID.false c.if-id-eq-ID-2.false)
