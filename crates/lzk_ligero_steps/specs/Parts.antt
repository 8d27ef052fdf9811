-- What a prover holds beside its circuit.
use Rattle.lzk_profile.specs.Profile.{most_digests}
use Rattle.std.specs.Prelude.{◌≡◌, ℕ, length}
use Rattle.lzk_field.specs.Coding.{Coding}
use Rattle.lzk_field.specs.Ring.{Ops}
use Rattle.lzk_poly.specs.Extension.{Reach}
use Rattle.lzk_circuit.specs.Checks.{check_count}
use Rattle.lzk_circuit.specs.Valid.{Wiring, HaveWidths}
use Rattle.lzk_layout.specs.declared.params.Params.{Params}
use Rattle.lzk_layout.specs.Sizes.{AreBounded, AreParams, params_of, proof_length}
use Rattle.lzk_ligero_tableau.specs.declared.given.Extenders.{Extenders}
use Rattle.lzk_ligero_tableau.specs.Filled.{AreReaching}
use Rattle.lzk_ligero_tableau.specs.Table.{IsTableOf}
use Rattle.lzk_ligero_steps.specs.Rooms.{IsRoomFor, IsSentFor, coefficient_reach}
use Rattle.lzk_ligero_steps.specs.declared.parts.Answering.{Answering}
use Rattle.lzk_ligero_steps.specs.declared.parts.Committed.{Committed}
use Rattle.lzk_ligero_steps.specs.declared.evaluating.Parts.{Parts}

-- what extends rows, rows of products and rows of coefficients has these reaches
pub record AreExtendersFor {X : Type 0} (reach : X → Reach) (p : Params) (x : Extenders X) : Type 0 where
  pub short : reach x.short ≡ record { count = p.block; upto = p.ncol }
  pub long : reach x.long ≡ record { count = p.dblock; upto = p.ncol }
  pub coefficients : reach x.coefficients ≡ coefficient_reach p

-- rows and a tree for this circuit, with so much room for extensions
pub record IsCommittedFor {A : Type 0} (c : Wiring A) (p : Params) (extender_room : ℕ) (k : Committed A) : Type 0 where
  pub tableau : IsTableOf c k.tableau
  pub room : k.tableau.room ≡ extender_room
  pub leaves : length k.tree.leaves ≡ p.mcol

-- room for what is drawn and answered, and for the proof and its file
pub record IsAnsweringFor {A : Type 0} (o : Ops A) (e : Coding A) (c : Wiring A) (p : Params) (extender_room : ℕ)
    (k : Answering A) : Type 0 where
  pub room : IsRoomFor o c p extender_room k.room
  pub sent : IsSentFor e c p k.sent
  pub bytes : length k.bytes.items ≡ proof_length e.bytes p most_digests

-- the parts of a prover over this circuit, where what extends rows has these reaches and takes so many elements of room
pub record ArePartsFor {A X : Type 0} (o : Ops A) (e : Coding A) (reach : X → Reach) (rooms : X → ℕ) (c : Wiring A)
    (p : Parts A X) : Type 0 where
  pub params : p.params ≡ params_of c
  pub valid : AreParams o p.params
  pub bounded : AreBounded p.params
  pub values : HaveWidths c p.values.wires
  pub checks : length p.values.checks ≡ check_count e.number c.layers
  pub rows : AreReaching p.params (reach p.extenders.short) (reach p.extenders.long) (rooms p.extenders.short)
      (rooms p.extenders.long) p.committed.tableau.room
  pub coefficients : reach p.extenders.coefficients ≡ coefficient_reach p.params
  pub tableau : IsTableOf c p.committed.tableau
  pub leaves : length p.committed.tree.leaves ≡ p.params.mcol
  pub room : IsRoomFor o c p.params (rooms p.extenders.coefficients) p.answering.room
  pub sent : IsSentFor e c p.params p.answering.sent
  pub bytes : length p.answering.bytes.items ≡ proof_length e.bytes p.params most_digests
