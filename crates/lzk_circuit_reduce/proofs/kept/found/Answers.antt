use Rattle.std.proofs.Common.{rules, arith, ℕ, Some, ◌≡◌, ◌<◌, ◌∙◌, ap, sym, subst, length, map, None}
use Rattle.lzk_circuit_reduce.specs.Kept.{IsMet, link_at, place_of, places_of, slot_of}
use Rattle.lzk_circuit_reduce.proofs.AddLaws.{any-default}
use Rattle.lzk_circuit_reduce.proofs.KeptLaws.{kept-slice, met-step, met-nothing, none-of, steps-below}
use Rattle.lzk_circuit_reduce.proofs.kept.found.Goals as goal

pub loop-link-init : goal.loop-link-init
loop-link-init g c =
    let kept = c.args.kept.now in
    let read : c.index-link.result.now ≡ link_at kept.heads.items c.args.slot = any-default kept.heads.items c.args.slot c.index-link.result.now None c.requires.within c.index-link.ensures in (
      λ w e. c.requires.table.heads_below c.args.slot w (sym read ∙ e),
      λ width k i l same.
          subst (IsMet kept.links.items i) (ap (λ ps. link_at kept.heads.items (slot_of (length kept.heads.items) ps)) same ∙ ap (link_at kept.heads.items) (sym c.requires.slot) ∙ sym read) (k.met i l),
    )

some-none : (w : ℕ) → Some w ≡ None → ⊥
some-none w e = cc

pub terms_of-requires-clause-table : goal.terms_of-requires-clause-table
terms_of-requires-clause-table g c κs within = c.requires.table

pub terms_of-requires-clause-wire : goal.terms_of-requires-clause-wire
terms_of-requires-clause-wire g c κs within = c.loop-link.invariant.0 c.in-Some.wire c.in-Some.is

pub returns-then-are_same-clause-none : goal.returns-then-are_same-clause-none
returns-then-are_same-clause-none g c width k none = absurd (some-none c.in-Some.wire none)

pub returns-then-are_same-clause-below : goal.returns-then-are_same-clause-below
returns-then-are_same-clause-below g c = c.loop-link.invariant.0 c.in-Some.wire c.in-Some.is

pub returns-then-are_same-clause-same : goal.returns-then-are_same-clause-same
returns-then-are_same-clause-same g c width k =
    let l = c.loop-link.invariant.0 c.in-Some.wire c.in-Some.is in
    ap (map (place_of g.F.Field.coding.number)) (sym (kept-slice c.args.kept.now c.requires.table c.in-Some.wire l g.F.Field.ops width c.terms_of.result.now k.terms c.terms_of.ensures)) ∙ c.are_same.ensures.yes c.if-are_same.true

pub index-link-requires-in-Some : goal.index-link-requires-in-Some
index-link-requires-in-Some g c =
    let below = c.loop-link.invariant.0 c.in-Some.wire c.in-Some.is in
    let l : c.in-Some.wire < length c.args.kept.now.links.items = omega (arith, below, c.requires.table.links_count) in
    search (rules, l)

pub loop-link-smaller : goal.loop-link-smaller
loop-link-smaller g c =
    let kept = c.args.kept.now in
    let w = c.in-Some.wire in
    let below = c.loop-link.invariant.0 w c.in-Some.is in
    let read = any-default kept.links.items w c.index-link-in-Some.result.now None (omega (arith, below, c.requires.table.links_count)) c.index-link-in-Some.ensures in
    steps-below c.loop-link.link c.index-link-in-Some.result.now w c.in-Some.is (λ v e. c.requires.table.links_below w v (sym read ∙ e))

pub loop-link-preserved : goal.loop-link-preserved
loop-link-preserved g c =
    let kept = c.args.kept.now in
    let n = g.F.Field.coding.number in
    let w = c.in-Some.wire in
    let below = c.loop-link.invariant.0 w c.in-Some.is in
    let read : c.index-link-in-Some.result.now ≡ link_at kept.links.items w = any-default kept.links.items w c.index-link-in-Some.result.now None (omega (arith, below, c.requires.table.links_count)) c.index-link-in-Some.ensures in (
      λ v e. let earlier = c.requires.table.links_below w v (sym read ∙ e) in omega (arith, earlier, below),
      λ width k i l same.
          let slice = kept-slice kept c.requires.table w below g.F.Field.ops width c.terms_of.result.now k.terms c.terms_of.ensures in
          subst (IsMet kept.links.items i) (sym read)
          (met-step kept.links.items i w (λ e. c.are_same.ensures.no c.if-are_same.false (ap (map (place_of n)) slice ∙ ap (λ j. places_of n j kept.terms.items) e ∙ same)) (subst (IsMet kept.links.items i) c.in-Some.is (c.loop-link.invariant.1 width k i l same))),
    )

pub returns-clause-none : goal.returns-clause-none
returns-clause-none g c width k none i l same =
    let links = c.args.kept.now.links.items in
    let nothing : c.loop-link.link ≡ None = none-of c.loop-link.link c.in_default.not-Some in
    met-nothing links i (subst (IsMet links i) nothing (c.loop-link.invariant.1 width k i l same))
