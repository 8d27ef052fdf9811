use Rattle.std.proofs.Common.{◌≡◌, ◌∙◌, ◌++◌, length, map, suc, ap, sym, subst, append_assoc}
use Rattle.std.proofs.lemmas.List.{length-map}
use Rattle.lzk_goldilocks.specs.Elements.{number, of_number}
use Rattle.lzk_sha_path.specs.Climbs.{AreClimbing}
use Rattle.lzk_sha_path.specs.Roots.{parent_of}
use Rattle.lzk_sha_path.proofs.Climbing.{parent_state}
use Rattle.lzk_sha_path.proofs.Made.{small_elements, eight_elements, root_made, climb_made}
use Rattle.lzk_sha_path.proofs.inputs.+climb.Goals as goal

pub numbers_of-requires : goal.numbers_of-requires
numbers_of-requires t c =
    let i = c.args.index in
    let n = c.args.node in
    let s = c.args.sibling in
    small_elements (parent_of i n s) (parent_state i n s) c.deref.result.now (c.deref.ensures.value ∙ c.in_ok-level.ensures.above)

pub state_from-above-requires : goal.state_from-above-requires
state_from-above-requires t c =
    let i = c.args.index in
    let n = c.args.node in
    let s = c.args.sibling in
    ap length (c.deref-2.ensures.value ∙ c.in_ok-words.ensures) ∙ length-map c.deref.result.now number
    ∙ eight_elements (parent_of i n s) (parent_state i n s) c.deref.result.now (c.deref.ensures.value ∙ c.in_ok-level.ensures.above)

pub returns-clause-root : goal.returns-clause-root
returns-clause-root t c =
    let q = c.in_ok-level.level.private.items in
    let words = c.in_ok-level.level.public.items in
    root_made c.args.node c.args.index c.args.sibling c.in-Some.next.now c.args.others.now c.in-Some.rest.now c.in-Some.ensures.cases.0 words q c.in_ok-level.ensures.above
    c.state_from-above.result c.in_ok-upper.upper.public.items
    (c.state_from-above.ensures ∙ c.deref-2.ensures.value ∙ c.in_ok-words.ensures ∙ ap (map number) c.deref.ensures.value) c.in_ok-upper.ensures.root

pub returns-clause-climbing : goal.returns-clause-climbing
returns-clause-climbing t c =
    let q = c.in_ok-level.level.private.items in
    let words = c.in_ok-level.level.public.items in
    let r = c.in_ok-upper.upper.private.items in
    let root = c.in_ok-upper.upper.public.items in
    let all : c.extend_from_slice-2.new.self.items ≡ q ++ (words ++ r) =
    c.in_ok-extend_from_slice-2.ensures.items
    ∙ (λ i. (c.in_ok-extend_from_slice.ensures.items ∙ ap (λ l. q ++ l) c.deref-3.ensures.value) i ++ c.deref-4.ensures.value i) ∙ append_assoc q words r in
    subst (AreClimbing (suc (length c.args.others.now)) (map of_number c.args.node) root) (sym all)
    (climb_made c.args.node c.args.index c.args.sibling c.in-Some.next.now c.args.others.now c.in-Some.rest.now c.in-Some.ensures.cases.0 words q c.in_ok-level.ensures.above
    c.state_from-above.result root r
    (c.state_from-above.ensures ∙ c.deref-2.ensures.value ∙ c.in_ok-words.ensures ∙ ap (map number) c.deref.ensures.value) c.in_ok-level.ensures.count c.in_ok-level.ensures.level c.in_ok-upper.ensures.climbing)
