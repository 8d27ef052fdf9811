-- Private inputs that satisfy the circuit of a policy hold a record, under a root too, and so do those that are extracted.
use Rattle.std.specs.Prelude.{◌≡◌, ℕ, ◌+◌, ◌-◌, ◌*◌, ◌^◌, ◌<◌, ◌≤◌, Bool, List, ◌++◌, length, map, take, drop}
use Rattle.std.proofs.Common.{zero, suc, refl, sym, ap, ◌∙◌, arith, subst, take-take, length-append, length-drop}
use Rattle.std.proofs.lemmas.List.{length-take-le, take-append-drop}
use Rattle.lzk_shares.specs.Shares.{prime_size, most_bad, prime_share, few_share}
use Rattle.lzk_goldilocks.specs.Elements.{ops, of_number, laws}
use Rattle.lzk_goldilocks.specs.declared.element.Gold.{Gold}
use Rattle.lzk_circuit.specs.Valid.{Wiring}
use Rattle.lzk_circuit.specs.Wires.{inputs_of}
use Rattle.lzk_circuit.specs.Checks.{IsSatisfied}
use Rattle.lzk_goldilocks.specs.Elements as elements
use Rattle.lzk_policy.specs.Policies.{Contents, IsPolicy}
use Rattle.lzk_policy_circuit.specs.Layout as layout
use Rattle.lzk_policy_circuit.specs.Held.{AreSecretsHeld}
use Rattle.lzk_policy_circuit.specs.Layout.{needed_count, stated_count}
use Rattle.lzk_policy_circuit.specs.Meaning.{values_of}
use Rattle.lzk_policy_circuit.proofs.Whole.{satisfied_held, padded_most}
use Rattle.lzk_sha_path.proofs.Climbing.{climb_forward}
use Rattle.lzk_policy_inputs.specs.Rooted.{IsShownUnder}
use Rattle.lzk_policy_inputs.specs.Depths.{SatisfyAt, private_count}
use Rattle.lzk_policy_inputs.proofs.Depths.{shown_none, shown_some}
use Rattle.lzk_policy_inputs.proofs.Under.{shown_under, words_behind}
use Rattle.lzk_soundness.specs.Extract.Extraction.{extracted}
use Rattle.lzk_soundness.proofs.ExtractLaws.Decoding.{extracted_count}
use Rattle.lzk_soundness.specs.Count.Game.{Strategy}
use Rattle.lzk_soundness.specs.Count.Laws.{Knows, IsPlayer}
use Rattle.lzk_soundness.specs.Count.Numbers.{BluffsPassByOneIn}
use Rattle.lzk_soundness.proofs.CountLaws.Count.{passers_know}
use Rattle.lzk_soundness.proofs.CountLaws.Numbers.{prime_passes, few_passes}
use Rattle.lzk_policy_known.specs.Known.{gold_coding}
use Rattle.lzk_policy_known.specs.Rooted.{HoldsShown, RecordsUnderAreHeld, IsCredentialOf, PassersHoldShown, ShownlessPassByOneIn}
use Rattle.lzk_policy_known.proofs.Known.{large, whole}

-- the bits stand among the inputs of the policy's own circuit
bits_inside : (p : Contents) → 8 * p.size ≤ layout.private_count p
bits_inside p = omega (arith, padded_most (needed_count p))

stated_inside : (p : Contents) → stated_count p ≤ layout.private_count p
stated_inside p = omega (arith, padded_most (needed_count p))

pub under_held : RecordsUnderAreHeld
under_held = λ p depth root values private w some lr lv lp h.
    let n = layout.private_count p in
    let digest = take 8 (drop n private) in
    let eight : length digest ≡ 8 = length-take-le 8 (drop n private) (omega (arith, length-drop n private, lp)) in
    let r = satisfied_held p (digest ++ values) (take n private) w (omega (arith, length-append digest values, eight, lv)) (length-take-le n private (omega (arith, lp))) h.shown in
    let climb = climb_forward depth digest root (drop (n + 8) private) (omega (arith, some)) eight lr (omega (arith, length-drop (n + 8) private, lp)) h.leaf in
    record {
      m = r.m;
      shown = shown_under p depth root values digest eight r.m r.shown climb;
      bits = sym (take-take (8 * p.size) n private (bits_inside p)) ∙ r.bits;
      secrets =
          let own = take-take (stated_count p) n private (stated_inside p) in
          let numbers = words_behind digest values eight in
          subst (λ (T : Type 0). T) (λ i. AreSecretsHeld r.m p.fields p.shows (numbers i) (drop (8 * p.size) (own i))) r.secrets;
      satisfied = h;
    }

module _ (p : Contents) (words values private : List Gold) (w : IsPolicy p) (lw : length words ≡ 8) (lv : length values ≡ values_of p.shows) where
  held_none : p.depth ≡ 0 → length private ≡ layout.private_count p → SatisfyAt 0 p words values private → HoldsShown p words values private
  held_none none lp h =
      let r = satisfied_held p (words ++ values) private w (omega (arith, length-append words values, lw, lv)) lp h in
      record {
        m = r.m;
        shown = shown_none p r.m words values none lw r.shown;
        bits = r.bits;
        secrets = subst (λ (l : List Gold). AreSecretsHeld r.m p.fields p.shows l (drop (8 * p.size) (take (stated_count p) private))) (words_behind words values lw) r.secrets;
        satisfied = subst (λ (d : ℕ). SatisfyAt d p words values private) (sym none) h;
      }

  held_at : (d : ℕ) → p.depth ≡ d → length private ≡ private_count d p → SatisfyAt d p words values private → HoldsShown p words values private
  held_at zero is lp h = held_none is lp h
  held_at (suc d) is lp h =
      let r = under_held p (suc d) words values private w (omega arith) lw lv lp h in
      record {
        m = r.m;
        shown = shown_some p r.m words values (omega (arith, is)) (subst (λ (k : ℕ). IsShownUnder p k r.m words values) (sym is) r.shown);
        bits = r.bits;
        secrets = r.secrets;
        satisfied = subst (λ (d : ℕ). SatisfyAt d p words values private) (sym is) h;
      }

held_where_known : (policy : Contents) (c : Wiring Gold) (public : List Gold) (strategy : Strategy Gold) (wins : List Gold → List ℕ → Bool) → IsCredentialOf policy c → IsPlayer ops gold_coding c public strategy wins
    → Knows ops gold_coding c public strategy → HoldsShown policy (take 8 public) (drop 8 public) (extracted ops gold_coding c strategy.table)
held_where_known policy c public strategy wins is player knows =
    let private = extracted ops gold_coding c strategy.table in
    let np : length public ≡ 8 + values_of policy.shows = player.publics ∙ is.publics in
    let nq : length private ≡ private_count policy.depth policy = extracted_count ops gold_coding laws c strategy.table ∙ is.privates in
    let words : length (take 8 public) ≡ 8 = length-take-le 8 public (omega (arith, np)) in
    let values : length (drop 8 public) ≡ values_of policy.shows = omega (arith, length-drop 8 public, np) in
    held_at policy (take 8 public) (drop 8 public) private is.is_policy words values policy.depth refl nq
    (is.satisfied (take 8 public) (drop 8 public) private words values nq
    (subst (λ xs. IsSatisfied ops elements.number c.layers (inputs_of ops xs private)) (sym (take-append-drop 8 public)) knows))

pub passers_hold_shown : PassersHoldShown
passers_hold_shown = λ policy c public strategy wins is player often.
    held_where_known policy c public strategy wins is player (passers_know ops gold_coding laws c public strategy wins player large often)

shownless : (bad by : ℕ) → BluffsPassByOneIn ops gold_coding bad by prime_size → ShownlessPassByOneIn bad by
shownless bad by bluffs = λ policy c public strategy wins is player without few.
    bluffs c public strategy wins (record { player = player; unknowing = λ knows. without (held_where_known policy c public strategy wins is player knows) }) few whole

pub any_shown : ShownlessPassByOneIn most_bad prime_share
any_shown = shownless most_bad prime_share (prime_passes ops gold_coding laws)

pub few_shown : ShownlessPassByOneIn 1024 few_share
few_shown = shownless 1024 few_share (few_passes ops gold_coding laws)
