-- What a desk holds and what its cursor was pushed, and what is kept of a whole file.
use Rattle.std.specs.Prelude.{◌≡◌, refl, ℕ, true, Option, List, length}
use Rattle.std.proofs.Common.{sym, subst}
use Rattle.lzk_field.specs.Coding.{Coding}
use Rattle.lzk_field.specs.Ring.{Ops}
use Rattle.lzk_circuit.specs.Valid.{Wiring}
use Rattle.lzk_layout.specs.declared.params.Params.{Params}
use Rattle.lzk_layout.specs.Sizes.{params_of}
use Rattle.lzk_layout.specs.Fields.{shape}
use Rattle.lzk_layout.specs.Files.{AreBytes}
use Rattle.lzk_layout.specs.Fronts.{IsFront, digests_in}
use Rattle.lzk_layout.specs.Cursors.{CursorPlace, faulty, reading, StandsBehind, Pushed}
use Rattle.lzk_verify.specs.declared.intake.Intake.{Intake}
use Rattle.lzk_verify.specs.Kept.{IsKept, IsHeldOf}
use Rattle.lzk_verify.specs.Desk.{kept_of, held_of}

module _ {A : Type 0} (o : Ops A) (e : Coding A) (c : Wiring A) (p : Params) (session : List ℕ) (public : List A) (bytes : List ℕ) where
  -- a desk that stands behind bytes has a cursor that was pushed them
  pub held_pushed : (params : Params) (place : CursorPlace) (k : Intake A) → params ≡ params_of c → AreBytes bytes → IsHeldOf o e c session public bytes (held_of o e c p true place k)
      → Pushed (shape e.bytes e.size) (record { params = params; place = place }) (params_of c) bytes
  unfolding held_of IsHeldOf kept_of
  held_pushed params (faulty fault) k is are h = record { are_bytes = are; lengths = is; stands = h }
  held_pushed params (reading n digests rest) k is are h = record {
    are_bytes = are;
    lengths = is;
    stands = record { fields = h.fields; front = h.front; whole_are = h.kept.fields_are; digests_are = h.kept.count_is };
  }

module _ {A : Type 0} (o : Ops A) (e : Coding A) (c : Wiring A) (p : Params) (session : List ℕ) (public : List A) (bytes : List ℕ) where
  rest_is : (n : ℕ) (digests : Option ℕ) (rest : List ℕ) (k : Intake A) → rest ≡ (kept_of o e c p n digests rest k).rest
  unfolding kept_of
  rest_is n digests rest k = refl

  -- a desk stands behind the bytes that its cursor was pushed, where its intake keeps what their fields say
  pub pushed_held : (place : CursorPlace) (k : Intake A) → StandsBehind (shape e.bytes e.size) (params_of c) bytes place
      → ((fields : List (List ℕ)) (rest : List ℕ) → IsFront (shape e.bytes e.size) (params_of c) bytes fields rest
      → IsKept o e c (params_of c) session public fields (kept_of o e c p (length fields) (digests_in (params_of c) fields) rest k))
      → IsHeldOf o e c session public bytes (held_of o e c p true place k)
  unfolding held_of IsHeldOf
  pushed_held (faulty fault) k stands kept = stands
  pushed_held (reading n digests rest) k stands kept =
      let whole : IsKept o e c (params_of c) session public stands.fields (kept_of o e c p n digests rest k) =
      subst (λ (z : ℕ × Option ℕ). IsKept o e c (params_of c) session public stands.fields (kept_of o e c p z.0 z.1 rest k)) (λ i. (sym stands.whole_are i, sym stands.digests_are i)) (kept stands.fields rest stands.front) in
      record { fields = stands.fields; front = subst (λ r. IsFront (shape e.bytes e.size) (params_of c) bytes stands.fields r) (rest_is n digests rest k) stands.front; kept = whole }
