-- The magic, the circuit's id or the root is taken.
use Rattle.std.specs.Prelude.{◌≡◌, ℕ, ◌+◌, ◌-◌, ◌<◌, ◌≤◌, true, false, nat_le, List, [], ◌∷◌, ◌++◌, length, map, take}
use Rattle.std.proofs.Common.{sym, ap, subst, ◌∙◌, arith}
use Rattle.std.proofs.lemmas.List.{length_push, drop_all, take_all}
use Rattle.lzk_field.specs.Bytes.{number_from}
use Rattle.lzk_field.specs.Coding.{Coding}
use Rattle.lzk_field.specs.Ring.{Ops}
use Rattle.lzk_circuit.specs.Valid.{Wiring}
use Rattle.lzk_layout.specs.declared.params.Params.{Params}
use Rattle.lzk_layout.specs.Parts.{before_opened}
use Rattle.lzk_layout.specs.Fronts.{digests_in}
use Rattle.lzk_verify.specs.declared.intake.Intake.{Intake}
use Rattle.lzk_verify.specs.Kept.{sent_count, id_read, root_read, IsKept}
use Rattle.lzk_verify.specs.Desk.{kept_of}
use Rattle.lzk_verify.proofs.Stored.{IsStored, stored_kept}
use Rattle.lzk_verify.proofs.Taking.{IsEarly, not_drawn, stored_early}

module _ {A : Type 0} (o : Ops A) (e : Coding A) (c : Wiring A) (p : Params) (session : List ℕ) (public : List A) (fields : List (List ℕ)) (f : List ℕ) where
  abbrev longer : List (List ℕ)
  longer = fields ++ f ∷ []

  -- what is stored of one field more is kept
  pub next_kept : (l : Intake A) → IsStored o e c p session public longer l → IsKept o e c p session public longer (kept_of o e c p (length fields + 1) (digests_in p longer) [] l)
  next_kept l s = subst (λ n. IsKept o e c p session public longer (kept_of o e c p n (digests_in p longer) [] l)) (length_push fields f) (stored_kept o e c p session public longer l [] s)

  pub stored_first : (k l : Intake A) → IsStored o e c p session public fields k → IsEarly k l → length fields ≤ 2 → l.is_drawn ≡ k.is_drawn
      → (1 < length longer → l.id ≡ id_read longer) → (2 < length longer → l.root ≡ root_read longer) → IsStored o e c p session public longer l
  stored_first k l s same few drawn id root =
      let more : length longer ≡ length fields + 1 = length_push fields f in
      let early : length fields < before_opened p = omega (arith, few) in
      let not : k.is_drawn ≡ false = not_drawn o e c p session public fields f k l s same early in
      let still : nat_le (before_opened p) (length longer) ≡ false = let h : length longer < before_opened p = omega (arith, few, more) in grind arith in
      let none : length longer - 3 ≡ 0 = omega (arith, few, more) in
      let g : List ℕ → A = λ x. e.element (number_from x) in
      stored_early o e c p session public fields f k l s same early (drawn ∙ not ∙ sym still) id root
      (ap (λ m. take m l.sent.items) none ∙ ap (map g) (sym (take_all (sent_count p) [] (omega arith))) ∙ ap (λ xs. map g (take (sent_count p) xs)) (sym (drop_all 3 longer (omega (arith, few, more)))))
      (λ h. absurd (let t : true ≡ false = sym h ∙ drawn ∙ not in cc))
