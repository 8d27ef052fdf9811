-- What somebody has who passes for a policy's circuit.
use Rattle.std.specs.Prelude.{◌≡◌, ℕ, ◌≤◌, Bool, List, length}
use Rattle.lzk_field.specs.Coding.{Coding, coding}
use Rattle.lzk_goldilocks.specs.Elements.{ops, number, of_number}
use Rattle.lzk_goldilocks.specs.Prime.{p, element_bytes, field_byte}
use Rattle.lzk_goldilocks.specs.declared.element.Gold.{Gold}
use Rattle.lzk_circuit.specs.Valid.{Wiring}
use Rattle.lzk_circuit.specs.Wires.{inputs_of}
use Rattle.lzk_circuit.specs.Checks.{IsSatisfied}
use Rattle.lzk_policy.specs.Policies.{Contents, IsPolicy}
use Rattle.lzk_policy_circuit.specs.Held.{HoldsRecord}
use Rattle.lzk_policy_circuit.specs.Layout.{private_count}
use Rattle.lzk_policy_circuit.specs.Meaning.{public_count}
use Rattle.lzk_policy_circuit.specs.Met.{Satisfy}
use Rattle.lzk_soundness.specs.Extract.Extraction.{extracted}
use Rattle.lzk_soundness.specs.Count.Game.{Strategy}
use Rattle.lzk_soundness.specs.Count.Laws.{IsPlayer, SaysYesRarely, bad_count}
use Rattle.lzk_soundness.specs.Count.Numbers.{SaysYesByOneIn}

-- how the elements of the field of policies' circuits are numbered
abbrev pub gold_coding : Coding Gold
gold_coding = coding of_number number element_bytes p field_byte

-- a circuit of the policy, as far as the clauses of `policy_circuit` say
pub record IsCircuitOf (policy : Contents) (c : Wiring Gold) : Type 0 where
  pub is_policy : IsPolicy policy
  pub publics : c.publics ≡ public_count policy
  pub privates : c.privates ≡ private_count policy
  pub satisfied : (public private : List Gold) → length public ≡ public_count policy
      → length private ≡ private_count policy → IsSatisfied ops number c.layers (inputs_of ops public private)
      → Satisfy policy public private

-- Whoever passes by more than few has a record, which stands in the private inputs that his table encodes.
abbrev pub PassersHoldRecords : Type 0
PassersHoldRecords =
    (policy : Contents) (c : Wiring Gold) (public : List Gold) (strategy : Strategy Gold)
    (wins : List Gold → List ℕ → Bool)
    → IsCircuitOf policy c → IsPlayer ops gold_coding c public strategy wins → (SaysYesRarely gold_coding c wins → ⊥)
    → HoldsRecord policy public (extracted ops gold_coding c strategy.table)

-- Whoever has none there passes by at most one in 2^by, for circuits with so many bad elements at most.
abbrev pub RecordlessPassByOneIn : ℕ → ℕ → Type 0
RecordlessPassByOneIn bad by =
    (policy : Contents) (c : Wiring Gold) (public : List Gold) (strategy : Strategy Gold)
    (wins : List Gold → List ℕ → Bool)
    → IsCircuitOf policy c → IsPlayer ops gold_coding c public strategy wins
    → (HoldsRecord policy public (extracted ops gold_coding c strategy.table) → ⊥) → bad_count c ≤ bad
    → SaysYesByOneIn gold_coding c wins by
