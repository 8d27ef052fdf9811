-- Private inputs that satisfy hold a record, and so do those that are extracted.
use Rattle.std.specs.Prelude.{◌≡◌, ℕ, ◌+◌, ◌-◌, ◌^◌, ◌≤◌, Bool, List, length}
use Rattle.std.proofs.Common.{refl, ◌∙◌}
use Rattle.std.proofs.lemmas.Bool.{leb-true}
use Rattle.lzk_shares.specs.Shares.{prime_size, most_bad, prime_share, few_share, least_size}
use Rattle.lzk_goldilocks.specs.Elements.{ops, laws}
use Rattle.lzk_goldilocks.specs.Prime.{p}
use Rattle.lzk_goldilocks.specs.declared.element.Gold.{Gold}
use Rattle.lzk_circuit.specs.Valid.{Wiring}
use Rattle.lzk_policy.specs.Policies.{Contents}
use Rattle.lzk_policy_circuit.specs.Held.{HoldsRecord}
use Rattle.lzk_policy_circuit.specs.Layout.{private_count}
use Rattle.lzk_policy_circuit.specs.Meaning.{public_count}
use Rattle.lzk_policy_circuit.proofs.Whole.{satisfied_held}
use Rattle.lzk_soundness.specs.Extract.Extraction.{extracted}
use Rattle.lzk_soundness.proofs.ExtractLaws.Decoding.{extracted_count}
use Rattle.lzk_soundness.specs.Count.Game.{Strategy}
use Rattle.lzk_soundness.specs.Count.Laws.{Knows, IsPlayer}
use Rattle.lzk_soundness.specs.Count.Numbers.{BluffsPassByOneIn}
use Rattle.lzk_soundness.proofs.CountLaws.Count.{passers_know}
use Rattle.lzk_soundness.proofs.CountLaws.Numbers.{prime_passes, few_passes}
use Rattle.lzk_policy_known.specs.Known.{gold_coding, IsCircuitOf, PassersHoldRecords, RecordlessPassByOneIn}

pub large : least_size ≤ p
large = leb-true least_size p refl

pub whole : prime_size ≤ p
whole = leb-true prime_size p refl

held_where_known : (policy : Contents) (c : Wiring Gold) (public : List Gold) (strategy : Strategy Gold) (wins : List Gold → List ℕ → Bool) → IsCircuitOf policy c → IsPlayer ops gold_coding c public strategy wins
    → Knows ops gold_coding c public strategy → HoldsRecord policy public (extracted ops gold_coding c strategy.table)
held_where_known policy c public strategy wins is player knows =
    let private = extracted ops gold_coding c strategy.table in
    let np : length public ≡ public_count policy = player.publics ∙ is.publics in
    let nq : length private ≡ private_count policy = extracted_count ops gold_coding laws c strategy.table ∙ is.privates in
    satisfied_held policy public private is.is_policy np nq (is.satisfied public private np nq knows)

pub passers_hold : PassersHoldRecords
passers_hold = λ policy c public strategy wins is player often.
    held_where_known policy c public strategy wins is player (passers_know ops gold_coding laws c public strategy wins player large often)

recordless : (bad by : ℕ) → BluffsPassByOneIn ops gold_coding bad by prime_size → RecordlessPassByOneIn bad by
recordless bad by bluffs = λ policy c public strategy wins is player without few.
    bluffs c public strategy wins (record { player = player; unknowing = λ knows. without (held_where_known policy c public strategy wins is player knows) }) few whole

pub any_bluffs : RecordlessPassByOneIn most_bad prime_share
any_bluffs = recordless most_bad prime_share (prime_passes ops gold_coding laws)

pub few_bluffs : RecordlessPassByOneIn 1024 few_share
few_bluffs = recordless 1024 few_share (few_passes ops gold_coding laws)
