-- What a prover keeps between proofs.
use Rattle.lzk_profile.specs.Profile.{opened_count, most_digests}
use Rattle.std.specs.Prelude.{◌≡◌, ◌≤◌, ◌+◌, ◌*◌, ℕ, length}
use Rattle.lzk_field.specs.Coding.{Coding}
use Rattle.lzk_field.specs.Ring.{Ops}
use Rattle.lzk_poly.specs.Extension.{Reach}
use Rattle.lzk_circuit.specs.Valid.{Wiring}
use Rattle.lzk_layout.specs.declared.params.Params.{Params}
use Rattle.lzk_layout.specs.Proofs.{HasLengths}
use Rattle.lzk_sumcheck_rounds.specs.Room.{IsRoomOf}
use Rattle.lzk_sumcheck.specs.Script as sumcheck
use Rattle.lzk_accept.specs.Challenges as accept
use Rattle.lzk_accept.specs.Factored.{HasRoomFor}
use Rattle.lzk_accept.specs.Kept.{AreFormsOf}
use Rattle.lzk_ligero_steps.specs.declared.room.Room.{Room}
use Rattle.lzk_ligero_steps.specs.declared.room.Sent.{Sent}
use Rattle.lzk_circbytes.specs.Files.{id_of}

-- what extends rows of coefficients
abbrev pub coefficient_reach : Params → Reach
coefficient_reach p = record { count = p.block; upto = p.dblock }

-- room for this circuit, whose parameters are p, where what extends rows of coefficients takes so many elements
pub record IsRoomFor {A : Type 0} (o : Ops A) (c : Wiring A) (p : Params) (extender_room : ℕ)
    (r : Room A) : Type 0 where
  pub rounds : IsRoomOf c r.rounds
  pub forms : AreFormsOf o c r.forms
  pub factored : HasRoomFor c r.factored
  pub sums : extender_room + 2 * p.dblock ≤ length r.sums
  pub values : length r.values ≡ p.dblock

-- a proof with this circuit's id and lengths, and room for what the tape gives to it
pub record IsSentFor {A : Type 0} (e : Coding A) (c : Wiring A) (p : Params) (s : Sent A) : Type 0 where
  pub id : s.proof.id ≡ id_of e c
  pub lengths : HasLengths p s.proof
  pub path : most_digests ≤ s.proof.path.room
  pub script : sumcheck.HasShape c s.script
  pub challenges : accept.HasShape p s.challenges
  pub columns : length s.columns ≡ opened_count
