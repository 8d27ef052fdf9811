-- What a prover is once its answer is no longer read.
use Rattle.std.specs.Prelude.{◌≡◌, ℕ, Bool, [], ⊤}
use Rattle.std.specs.Borrow.{follows_so, MutBor, Fml, RattleType}
use mathlib.Core.Option.{none}
use mir.Syntax.{named}
use Rattle.lzk_field.specs.Coding.{Coding}
use Rattle.lzk_field.specs.Ring.{Ops, Laws}
use Rattle.lzk_poly.specs.declared.rows.RowExtend as extend
use Rattle.lzk_circuit.specs.Valid.{Wiring}
use Rattle.lzk_ligero.specs.contracts.works.WorksOver.{the_row}

-- what a clause has as F.Field
abbrev pub FieldMembers : Type 0 → Type 0
FieldMembers F = record {
  eq : F → F → Bool;
  ops : Ops F;
  coding : Coding F;
  BYTES : ℕ;
  ID : ℕ;
  coded_bytes : BYTES ≡ coding.bytes;
  coded_id : ID ≡ coding.id;
  laws : Laws ops coding.size coding.number coding.element coding.bytes;
}

-- It is for the circuit that it was for. `named 1` is the place of the circuit's lifetime in the signature.
abbrev pub StaysForCircuit : (F X : RattleType) → FieldMembers F.Denot → extend.Ghosts X.Denot F.Denot
    → MutBor (Wiring F.Denot)
    → Fml
StaysForCircuit F X f x works =
    let row = the_row (record { mir = named 1; lft = [] }) F X (record {
      ops = f.ops;
      coding = f.coding;
      BYTES = f.BYTES;
      ID = f.ID;
      coded_bytes = f.coded_bytes;
      coded_id = f.coded_id;
      laws = f.laws;
    }) (record { eq = f.eq }) x in
    follows_so row row works.ghost_name none (λ _ _. ⊤) (λ last. last ≡ works.now)
