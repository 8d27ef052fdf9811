-- What is told of a demo.
use Rattle.std.proofs.Common.{◌≡◌, ℕ, List, [], length, Result, Ok, sym, subst}
use Rattle.lzk_circbytes.specs.declared.any.AnyCircuit.TheVariants.{Gold}
use Rattle.lzk_circuit.specs.Checks.{IsSatisfied}
use Rattle.lzk_circuit.specs.Valid.{Wiring, IsValid}
use Rattle.lzk_circuit.specs.Wires.{inputs_of}
use Rattle.lzk_ligero_proof.specs.Complete.{Complete}
use Rattle.lzk_demo.specs.Demo.{demo_tree, demo_public, demo_private}
use Rattle.lzk_goldilocks.specs.Elements as gold
use Rattle.lzk_goldilocks.specs.declared.element.Gold.{Gold as GoldElement}
use Rattle.lzk_ligero_proof.specs.Proving.{HaveCounts, IsProofFile, words_of}
use Rattle.lzk_verify.specs.declared.verdict.Verdict.{Verdict}
use Rattle.lzk_verify.specs.declared.verdict.Verdict.TheVariants.{Accepted}
use Rattle.lzk_verify.specs.Verdict.{IsVerdict}
use Rattle.lzk_cmd_files.specs.declared.ending.Ending.{Ending}
use Rattle.lzk_cmd_files.specs.declared.ending.Halt.{Halt}
use Rattle.lzk_level.specs.SomeCircuit.{IsCircuitOf}
use Rattle.lzk_cmd_prove.specs.Demo.{IsDemo, HasVerdict}
use Rattle.lzk_cmd_prove.specs.Proved.{gold_word}
use Rattle.lzk_cmd_files.specs.Ends.{says}
use Rattle.lzk_cmd_files.specs.Lines.{demo_line}
use Rattle.lzk_cmd_verify.specs.Verified.{gold_coding}
use Rattle.lzk_cmd_files.specs.Walks.{IsEnding}
use Rattle.lzk_cmd_prove.specs.Demo.{TellsDemo}

-- the verdict on the proof of inputs that satisfy a circuit
pub demo_verdict : Complete gold.ops gold_coding → (c : Wiring GoldElement) → IsValid gold.ops c → (publics privates : List GoldElement) → HaveCounts c publics privates → IsSatisfied gold.ops gold.number c.layers (inputs_of gold.ops publics privates)
    → (word : ℕ → ℕ) (len : ℕ) (verdict : Verdict GoldElement) → HasVerdict gold.ops gold_coding c publics privates word len verdict → verdict ≡ Accepted
demo_verdict complete c valid publics privates counts satisfied word len verdict h =
    sym (h.only Accepted (complete c [] publics privates (words_of word) h.bytes valid counts satisfied h.file))

-- what is told of an accepted proof
pub demo_told : (n : ℕ) (seed : List ℕ) (c : Wiring GoldElement) (publics privates : List GoldElement) (len : ℕ) (e : Ending) → IsCircuitOf (demo_tree n) (Gold c) → publics ≡ demo_public gold.ops n → privates ≡ demo_private gold.ops n
    → HasVerdict gold.ops gold_coding c publics privates (gold_word seed) len Accepted → IsEnding (says 0 (demo_line n (length c.layers) len)) e → TellsDemo n seed (Ok e)
demo_told n seed c publics privates len e compiled public private h ends =
    let word = words_of (gold_word seed) in
    let file = subst (λ (qs : List GoldElement). IsProofFile gold.ops gold_coding c [] publics qs word h.bytes) private h.file in
    let is : IsDemo n seed c h.bytes = record {
      compiled = compiled;
      file = subst (λ (ps : List GoldElement). IsProofFile gold.ops gold_coding c [] ps (demo_private gold.ops n) word h.bytes) public file;
      accepted = subst (λ (ps : List GoldElement). IsVerdict gold.ops gold_coding c [] ps h.bytes Accepted) public h.is;
    } in
    (c, h.bytes, is, subst (λ (k : ℕ). IsEnding (says 0 (demo_line n (length c.layers) k)) e) (sym h.long) ends)

-- the same of the same number and the same seed
pub same_end : (n m : ℕ) (seed given : List ℕ) (r : Result Ending Halt) → n ≡ m → seed ≡ given → TellsDemo n seed r → TellsDemo m given r
same_end n m seed given r same also h = subst (λ (k : ℕ). TellsDemo k given r) same (subst (λ (s : List ℕ). TellsDemo n s r) also h)
