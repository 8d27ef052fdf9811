use Rattle.std.proofs.Common.{◌≡◌, ℕ, ◌∙◌, ap, sym, subst, List, []}
use Rattle.lzk_goldilocks.specs.Elements.{ops}
use Rattle.lzk_goldilocks.specs.declared.element.Gold.{Gold}
use Rattle.lzk_level.specs.Nodes.{node_values}
use Rattle.lzk_gadgets.specs.Claims.{Claims, AreInputs, AreZero, Holds}
use Rattle.lzk_gadgets.proofs.ClaimLaws.{inputs_kept}
use Rattle.lzk_sha_path.specs.Levels.{AreChosen}
use Rattle.lzk_sha_path.proofs.Joined.{claim_satisfied}
use Rattle.lzk_sha_path.proofs.level.statement_circuit.Goals as goal

pub returns-in-Ok-clause-satisfied : goal.returns-in-Ok-clause-satisfied
returns-in-Ok-clause-satisfied c = λ public private np nq small.
    let old = c.in_ok-s.s in
    let new = c.assert_words.new.s in
    let made = c.in_ok-assert_words.ensures in
    let publics = ap (λ (s : Claims Gold). s.nodes.publics) c.in_ok-s.ensures in
    let privates = ap (λ (s : Claims Gold). s.nodes.privates) c.in_ok-s.ensures in
    let inputs : AreInputs old public private = record { publics = np ∙ sym publics; privates = nq ∙ sym privates } in
    let later = inputs_kept ops 560 old new public private made.keeps inputs in
    let empty : old.asserts ≡ [] = ap (λ (s : Claims Gold). s.asserts) c.in_ok-s.ensures in
    let before : Holds ops old public private = subst (λ (l : List ℕ). AreZero ops (node_values ops old.nodes public private) l) (sym empty) tt in
    claim_satisfied c.in-Ok.circuit old new public private (AreChosen public private) c.valid_laws.ensures c.in-Ok.ensures.version
    (later.publics ∙ sym c.in-Ok.ensures.publics) (later.privates ∙ sym c.in-Ok.ensures.privates) (c.in-Ok.ensures.holds public private later) (made.claim public private inputs small) before
