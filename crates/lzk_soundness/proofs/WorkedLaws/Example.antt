-- A worked instance. The circuit has one layer with one wire, which is the one, so that its output is never 0. The prover commits to a table that is far
-- from codewords and sends zeros, and wins by draws of zeros.
use Rattle.lzk_profile.specs.Profile.{opened_count}
use Rattle.std.specs.Prelude.{◌≡◌, ℕ, ◌<◌, ◌≤◌, List, [], ◌∷◌, length}
use Rattle.std.specs.List.{range_with_len}
use Rattle.std.proofs.Common.{refl, sym, ap, ◌∙◌, arith}
use Rattle.lzk_field.specs.Coding.{Coding}
use Rattle.lzk_field.specs.Ring.{Ops, Laws}
use Rattle.lzk_field.specs.Sums.{minus}
use Rattle.lzk_field.proofs.Solve.{var, null, unit, ◌⊞◌, ◌⊟◌, ◌⊠◌, solve}
use Rattle.lzk_soundness.specs.Chance.Draws.{draws_from}
use Rattle.lzk_soundness.specs.Chance.Sets.{sets_of}
use Rattle.lzk_circuit.specs.Valid.{Wiring, IsValid}
use Rattle.lzk_circuit.specs.Wires.{wire}
use Rattle.lzk_layout.specs.Sizes.{params_of}
use Rattle.lzk_layout.proofs.SizeLaws.{params_bounded}
use Rattle.lzk_soundness.proofs.DrawsLaws.Example.{circuit, valid}
use Rattle.lzk_soundness.specs.Extract.Extraction.{all_elements}
use Rattle.lzk_soundness.specs.Count.Game.{column_sets, whole_count}
use Rattle.lzk_soundness.specs.Count.Laws.{IsFalse, IsPlayer}
use Rattle.lzk_soundness.specs.Worked.Zeros.{zeros_sent, half_table, HasZeroMasks, sees_zeros}
use Rattle.lzk_soundness.specs.Worked.Laws.{yes_count, CheatsPass, SomeCheat}
use Rattle.lzk_soundness.proofs.WorkedLaws.Counts.{zeros_seen, zero_is_in, some_draws, some_sets, pairs_with_zeros}
use Rattle.lzk_soundness.proofs.WorkedLaws.FarTables.{half_far, half_masks}
use Rattle.lzk_soundness.proofs.WorkedLaws.Passing.{zeros_passed, zeros_prover}

module _ {A : Type 0} (o : Ops A) (e : Coding A) (laws : Laws o e.size e.number e.element e.bytes) where
  -- a prover with zeros in rows 0 to 2, and the test of zeros
  pub zeros_player : (c : Wiring A) (public : List A) (table : ℕ → ℕ → A) → IsValid o c → length public ≡ c.publics → HasZeroMasks o table → IsPlayer o e c public (zeros_sent o c table) (sees_zeros e)
  zeros_player c public table valid publics masks = record {
    valid = valid;
    publics = publics;
    prover = zeros_prover o c table;
    only = λ draws columns long many seen. zeros_passed o e laws c (params_bounded o c valid) public table masks draws (zeros_seen o e laws draws seen) columns;
  }

  pub zeros_counted : (c : Wiring A) → IsValid o c → (0 < length (column_sets c)) × (length (column_sets c) ≤ yes_count e c (sees_zeros e))
  zeros_counted c valid =
      let b = params_bounded o c valid in (
        some_sets opened_count (params_of c).mcol (omega (arith, b.mcol, b.block)),
        pairs_with_zeros o e laws (draws_from (all_elements e) (whole_count c)) (sets_of opened_count (range_with_len 0 (params_of c).mcol)) (some_draws o e laws (all_elements e) (whole_count c) (zero_is_in o e laws)),
      )

  pub cheats_pass : CheatsPass o e
  cheats_pass c public table valid publics wrong masks =
      (record { player = zeros_player c public table valid publics masks; wrong = wrong }, zeros_counted c valid)

  -- the circuit of the forger who wins now and then
  abbrev one_wire : Wiring A
  one_wire = circuit o e laws

  wrong : IsFalse o e one_wire []
  unfolding wire
  wrong [] count satisfied =
      let I = var 0 in
      laws.field.one_not_zero
      (solve o laws.ring [] unit (unit ⊞ (unit ⊟ unit)) refl
      ∙ ap (λ y. o.plus o.one (minus o o.one y)) (sym (laws.field.times_inverse o.one laws.field.one_not_zero))
      ∙ solve o laws.ring (o.inverse o.one ∷ []) (unit ⊞ (unit ⊟ unit ⊠ I))
      ((null ⊞ (null ⊞ ((unit ⊠ unit) ⊠ unit))) ⊞ (null ⊞ (null ⊞ (((unit ⊟ unit ⊠ I) ⊠ unit) ⊠ unit)))) refl
      ∙ satisfied 0 (omega arith))
  wrong (x ∷ xs) count satisfied = absurd (omega (arith, count))

  pub some_cheat : SomeCheat o e
  some_cheat =
      let b = params_bounded o one_wire (valid o e laws) in
      let all = cheats_pass one_wire [] (half_table o one_wire) (valid o e laws) refl wrong (half_masks o e laws one_wire b) in
      record {
        circuit = one_wire;
        public = [];
        strategy = zeros_sent o one_wire (half_table o one_wire);
        wins = sees_zeros e;
        cheat = all.0;
        far = half_far o e laws one_wire b;
        counted = omega (arith, all.1.0, all.1.1);
      }
