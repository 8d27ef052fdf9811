-- What satisfies the circuit of a statement.
use Rattle.std.proofs.Common.{◌≡◌, List, [], ◌∷◌, length, zero, suc, sym, subst, arith, None, length-append}
use Rattle.std.specs.Prelude.{◌↔◌}
use Rattle.lzk_goldilocks.specs.Prime.{p, element_bytes}
use Rattle.lzk_goldilocks.specs.Elements.{ops, of_number, number, laws}
use Rattle.lzk_goldilocks.specs.declared.element.Gold.{Gold}
use Rattle.lzk_circuit.specs.Checks.{checks_of, IsSatisfied}
use Rattle.lzk_circuit.specs.Valid.{Wiring, input_width, IsValid}
use Rattle.lzk_circuit.specs.Wires.{wires_of, inputs_of, IsFirstNonzero}
use Rattle.lzk_circuit.proofs.CheckLaws.{one-checks}
use Rattle.lzk_circuit.proofs.VersionLaws.{valid-one}
use Rattle.lzk_gadgets.specs.Claims.{Claims, AreAllZero, Holds}

all_zero_forward : (xs : List Gold) → IsFirstNonzero ops xs None → AreAllZero ops xs
all_zero_forward [] h = tt
all_zero_forward (x ∷ xs) h = (h 0 (omega arith), all_zero_forward xs (λ g l. h (suc g) (omega (arith, l))))

all_zero_backward : (xs : List Gold) → AreAllZero ops xs → IsFirstNonzero ops xs None
all_zero_backward [] h g l = absurd (omega (arith, l))
all_zero_backward (x ∷ xs) h zero l = h.0
all_zero_backward (x ∷ xs) h (suc g) l = all_zero_backward xs h.1 g (omega (arith, l))

width_of : (c : Wiring Gold) (public private : List Gold) → length public ≡ c.publics → length private ≡ c.privates → length (inputs_of ops public private) ≡ input_width c
width_of c public private np nq = omega (arith, length-append public private, np, nq)

-- a statement without asserts, to which a claim is added
pub claim_satisfied : (c : Wiring Gold) (old new : Claims Gold) (public private : List Gold) (C : Type 0) → IsValid ops c → c.version ≡ 1 → length public ≡ c.publics → length private ≡ c.privates
    → AreAllZero ops (wires_of ops c.layers (inputs_of ops public private)) ↔ Holds ops new public private → Holds ops new public private ↔ (Holds ops old public private × C) → Holds ops old public private
    → IsSatisfied ops number c.layers (inputs_of ops public private) ↔ C
claim_satisfied c old new public private C valid one np nq outs claims before =
    let xs = inputs_of ops public private in
    let checks : checks_of ops number c.layers xs ≡ wires_of ops c.layers xs =
    one-checks ops p number of_number element_bytes laws (input_width c) c.layers xs (width_of c public private np nq) valid.some (valid-one ops c one valid) in
    let zeros : IsSatisfied ops number c.layers xs ↔ AreAllZero ops (wires_of ops c.layers xs) = (
      λ h. all_zero_forward (wires_of ops c.layers xs) (subst (λ (l : List Gold). IsFirstNonzero ops l None) checks h),
      λ h. subst (λ (l : List Gold). IsFirstNonzero ops l None) (sym checks) (all_zero_backward (wires_of ops c.layers xs) h),
    ) in
    (λ h. (claims.0 (outs.0 (zeros.0 h))).1, λ h. zeros.1 (outs.1 (claims.1 (before, h))))
