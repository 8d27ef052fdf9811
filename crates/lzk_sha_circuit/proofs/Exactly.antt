-- What is given is completed to inputs at which all outputs are 0 exactly where it is a state and a block, and the public inputs are the words behind it.
use Rattle.std.specs.Prelude.{◌≡◌, ℕ, ◌*◌, ◌^◌, ◌≤◌, List, [], ◌∷◌, ◌++◌, length, map}
use Rattle.std.proofs.Common.{sym, ap, arith, subst, length-append}
use Rattle.lzk_field.specs.Ring.{Ops}
use Rattle.sha2.specs.Sha256.{schedule, rounds, compress}
use Rattle.lzk_sha_circuit.specs.Compression.{AreBits, IsSatisfiedExactly}
use Rattle.lzk_sha_circuit.specs.Inputs.{schedule_list, rounds_list, final_list, compression_private}
use Rattle.lzk_sha_circuit.specs.Outputs.{AreCompressing}
use Rattle.lzk_sha_circuit.proofs.Compressed.{satisfied_is_compression}
use Rattle.lzk_sha_circuit.proofs.Completeness.{compressing}
use Rattle.lzk_sha_circuit.proofs.Found.{finds_first}
use Rattle.lzk_sha_circuit.proofs.Lookups.{length-compression_private}
use Rattle.lzk_sha_circuit.proofs.Numbered.{Numbered}

module _ {A : Type 0} (o : Ops A) (element : ℕ → A) where
  first_bits : (first further : List A) → AreBits o element (first ++ further) → AreBits o element first
  first_bits [] further h = tt
  first_bits (x ∷ xs) further h = (h.0, first_bits xs further h.1)

  further_of : List ℕ → List ℕ → List A
  further_of state block =
      let ws = schedule block 48 in
      schedule_list element ws 48 ++ (rounds_list element state ws 64 ++ final_list element state (rounds state ws 64) 8)

  private_is : (first : List A) (state block : List ℕ) → compression_private element first state block ≡ first ++ further_of state block
  unfolding compression_private further_of
  private_is first state block = λ i. compression_private element first state block

  length-further : (first : List A) (state block : List ℕ) → length (further_of state block) ≡ 6376
  length-further first state block =
      let all = length-compression_private element first state block o.zero in
      let same = ap length (private_is first state block) in
      let both = length-append first (further_of state block) in
      omega (arith, all, same, both)

pub satisfied_exactly : {A : Type 0} (o : Ops A) (element : ℕ → A) (size : ℕ) → Numbered o element size → 8 * 2 ^ 32 ≤ size → IsSatisfiedExactly o element
satisfied_exactly o element size h big given public first placed short long = (
  λ (further, few, zeros).
      let both = length-append first further in
      let (bits, (state, block, c)) = satisfied_is_compression o element size h big given public (first ++ further) placed short (omega (arith, both, few, long)) zeros in
      (first_bits o element first further bits, (state, block, finds_first o element given placed first further long state block c.finds, c.words)),
  λ (bits, (state, block, finds, words)).
      let zeros = compressing o element size h given placed first long bits state block finds in (
        further_of o element state block,
        length-further o element first state block,
        subst (λ (l : List _). AreCompressing o element given l (first ++ further_of o element state block)) (sym words)
            (subst (λ (l : List _). AreCompressing o element given (map element (compress state block)) l) (private_is o element first state block) zeros),
      ),
)
