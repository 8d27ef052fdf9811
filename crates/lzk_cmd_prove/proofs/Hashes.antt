-- The walk of `sha256`.
use Rattle.std.proofs.Common.{◌≡◌, ◌≤◌, ℕ, Bool, true, false, List, length, Option, Some, Result, Ok, Err, refl, sym, subst, arith, lit≤}
use Rattle.std.specs.Prelude.{MatchBool}
use Rattle.sha2.specs.Sha256.{sha256}
use Rattle.lzk_circbytes.specs.declared.any.AnyCircuit.{AnyCircuit}
use Rattle.lzk_circbytes.specs.declared.any.AnyCircuit.TheVariants.{Gold, Gf}
use Rattle.lzk_circuit.specs.Valid.{Wiring}
use Rattle.lzk_goldilocks.specs.declared.element.Gold.{Gold as GoldElement}
use Rattle.lzk_goldilocks.specs.Elements as gold
use Rattle.lzk_goldilocks.specs.Prime.{p}
use Rattle.lzk_outside.specs.Outside.{Files}
use Rattle.lzk_sha_circuit.specs.Inputs.{sha_private}
use Rattle.lzk_cmd_files.specs.declared.ending.Ending.{Ending}
use Rattle.lzk_cmd_files.specs.declared.ending.Halt.{Halt}
use Rattle.lzk_cmd_files.specs.declared.ending.Halt.TheVariants as halts
use Rattle.lzk_cmd_files.specs.Ends.{End, Stop, says}
use Rattle.lzk_cmd_prove.specs.Hashed.{ProvesHash, HashAny, digest_inputs, is_for}
use Rattle.lzk_cmd_files.specs.Lines.{unfit_line}
use Rattle.lzk_cmd_prove.specs.Proved.{Proves, gold_word}
use Rattle.lzk_cmd_files.specs.Seen.{Seen}
use Rattle.lzk_cmd_verify.specs.Verified.{gold_coding}
use Rattle.lzk_cmd_files.specs.Walks.{IsEnding, Settled, Settles, WalksToPut}
use Rattle.lzk_cmd_files.proofs.Laws.{unfit_quiet}
use Rattle.lzk_cmd_files.proofs.Sights.{no_step}
use Rattle.lzk_cmd_files.proofs.Steps.{here}

-- a walk that has come so far has come less far
pub sooner : (tail : Files → Stop → End → Type 0) (k m : ℕ) (p : Type 0) (old new : Seen) (r : Result Ending Halt) → k ≤ m → Settles tail m ⊥ p old new r → Settles tail k ⊥ p old new r
sooner tail k m p old new r le h = go r h
  where
    settled : (e : Ending) → Settled tail m ⊥ p old new e → Settled tail k ⊥ p old new e
    settled e h = record { stop = h.stop; end = h.end; may = h.may; far = λ j l. h.far j (omega (arith, l, le)); is = h.is; told = h.told; cause = h.cause }

    go : (r : Result Ending Halt) → Settles tail m ⊥ p old new r → Settles tail k ⊥ p old new r
    go (Ok e) h = settled e h
    go (Err halts.Memory) h = h
    go (Err (halts.End e)) h = settled e h

-- ---- the proof is put
pub hash_proved : (c : Wiring GoldElement) (message proof session seed : List ℕ) (digest : Option (List ℕ)) (publics privates : List GoldElement) (old new : Seen) (r : Result Ending Halt) → digest ≡ Some (sha256 message) → publics ≡ digest_inputs message
    → privates ≡ sha_private gold.of_number message → WalksToPut (λ files. Proves gold.ops gold_coding c proof digest session (gold_word seed) publics privates) 3 old new r → WalksToPut (λ files. ProvesHash c message proof session seed) 1 old new r
hash_proved c message proof session seed digest publics privates old new r told words bits h =
    let first = subst (λ (d : Option (List ℕ)). WalksToPut (λ files. Proves gold.ops gold_coding c proof d session (gold_word seed) publics privates) 3 old new r) told h in
    let both = subst (λ (xs : List GoldElement). WalksToPut (λ files. Proves gold.ops gold_coding c proof (Some (sha256 message)) session (gold_word seed) xs privates) 3 old new r) words first in
    let all = subst (λ (ys : List GoldElement). WalksToPut (λ files. Proves gold.ops gold_coding c proof (Some (sha256 message)) session (gold_word seed) (digest_inputs message) ys) 3 old new r) bits both in
    sooner (λ files. ProvesHash c message proof session seed) 1 3 (Unit {0}) old new r (lit≤ tt) all

-- ---- a circuit that is not for the message
module _ (name message proof session seed : List ℕ) where
  abbrev Whole : AnyCircuit → Files → Stop → End → Type 0
  Whole any files = HashAny name any message proof session seed

  refuses : (any : AnyCircuit) (old : Seen) (e : Ending) → ((stop : Stop) → HashAny name any message proof session seed stop (says 3 (unfit_line name (length message)))) → IsEnding (says 3 (unfit_line name (length message))) e
      → WalksToPut (Whole any) 1 old old (Ok e)
  refuses any old e tells ends = here (Whole any) 1 (Unit {0}) old old (says 3 (unfit_line name (length message))) e (no_step old) (unfit_quiet name (length message)) ends (λ f at. tells _)

  pub refuses_counts : (c : Wiring GoldElement) (old : Seen) (e : Ending) → is_for (length message) c ≡ false → IsEnding (says 3 (unfit_line name (length message))) e → WalksToPut (Whole (Gold c)) 1 old old (Ok e)
  refuses_counts c old e other ends = refuses (Gold c) old e (λ stop. rw other refl) ends

  pub refuses_field : (c : Wiring _) (old : Seen) (e : Ending) → IsEnding (says 3 (unfit_line name (length message))) e → WalksToPut (Whole (Gf c)) 1 old old (Ok e)
  refuses_field c old e ends = refuses (Gf c) old e (λ stop. refl) ends

  -- and one that is
  pub proves_hash : (c : Wiring GoldElement) (old new : Seen) (r : Result Ending Halt) → is_for (length message) c ≡ true → WalksToPut (λ files. ProvesHash c message proof session seed) 1 old new r → WalksToPut (Whole (Gold c)) 1 old new r
  proves_hash c old new r fits h =
      subst (λ (b : Bool). WalksToPut (λ files stop end. MatchBool b (ProvesHash c message proof session seed stop end) (end ≡ says 3 (unfit_line name (length message)))) 1 old new r) (sym fits) h
