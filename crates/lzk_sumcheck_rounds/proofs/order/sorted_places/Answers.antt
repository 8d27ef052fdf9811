use Rattle.lzk_profile.specs.Profile.{most_total}
use Rattle.std.specs.Prelude.{not}
use Rattle.std.specs.List.Sorted.{IsPermutation}
use Rattle.std.proofs.Common.{◌≡◌, ℕ, ◌%◌, ◌<◌, ◌∷◌, ◌++◌, [], length, ap, sym, ◌∙◌, arith, subst}
use Rattle.std.proofs.lemmas.List.{append-nil, append_assoc, length-append, length-map, map_push, with_items_is}
use Rattle.std.proofs.lemmas.List.Sorted.{length_permutation}
use Rattle.lzk_sumcheck_rounds.specs.Orders.{places, IsOrderOf}
use Rattle.lzk_sumcheck_rounds.proofs.OrderLaws.{is_linear, linear_at, other_at, places_where, place_passed, place_failed, passed-below, failed-below, order_sorted}
use Rattle.lzk_sumcheck_rounds.proofs.order.sorted_places.Goals.{then-term-eq0, else-term-eq0, then-term-ne0, else-term-ne0}
use Rattle.lzk_sumcheck_rounds.proofs.order.sorted_places.Goals as goal

pub loop-i-preserved : goal.loop-i-preserved
loop-i-preserved g c =
    let ts = c.args.terms.now in
    let i = c.loop-i.i in
    let t = c.index-terms-i.result in
    let here : i < length ts = c.loop-i-test.true in
    elim c.if-term-eq0.branch [
      | then-term-eq0 w ↦ record {
        are = ap (λ v. places v.items) w.list-is ∙ ap places w.push_reserved.ensures.items ∙ map_push (λ x. x % most_total) c.loop-i.list.items w.word_of.result
            ∙ ap (λ k. places c.loop-i.list.items ++ k ∷ []) w.word_of.ensures.place
            ∙ ap (λ xs. xs ++ i ∷ []) c.loop-i.invariant.are ∙ sym (place_passed (is_linear ts) i (linear_at ts i t here c.index-terms-i.is (omega (arith, w.if-term-eq0.true))));
        room = omega (arith, c.loop-i.invariant.room, ap (λ v. v.cap) w.list-is, w.push_reserved.ensures.capacity);
      }
      | else-term-eq0 w ↦ record {
        are = ap (λ v. places v.items) w.list-is ∙ c.loop-i.invariant.are
            ∙ sym (place_failed (is_linear ts) i (other_at ts i t here c.index-terms-i.is (omega (arith, w.if-term-eq0.false))));
        room = omega (arith, c.loop-i.invariant.room, ap (λ v. v.cap) w.list-is);
      }
    ]

pub loop-j-preserved : goal.loop-j-preserved
loop-j-preserved g c =
    let ts = c.args.terms.now in
    let j = c.loop-j.j in
    let t = c.index-terms-j.result in
    let here : j < length ts = c.loop-j-test.true in
    let linear = places_where (is_linear ts) (length ts) in
    let other = λ (i : ℕ). not (is_linear ts i) in
    let inv = c.loop-j.invariant in
    elim c.if-term-ne0.branch [
      | then-term-ne0 w ↦
          record {
            long = omega (arith, inv.long, ap (λ v. length v.items) w.list-is, ap length w.push_reserved-then-term-ne0.ensures.items, length-append c.loop-j.list.items (w.word_of-then-term-ne0.result ∷ []));
            are = ap (λ v. places v.items) w.list-is ∙ ap places w.push_reserved-then-term-ne0.ensures.items ∙ map_push (λ x. x % most_total) c.loop-j.list.items w.word_of-then-term-ne0.result
                ∙ ap (λ k. places c.loop-j.list.items ++ k ∷ []) w.word_of-then-term-ne0.ensures.place
                ∙ ap (λ xs. xs ++ j ∷ []) inv.are ∙ append_assoc linear (places_where other j) (j ∷ [])
                ∙ ap (λ xs. linear ++ xs) (sym (place_passed other j (ap not (other_at ts j t here c.index-terms-j.is (omega (arith, w.if-term-ne0.true))))));
            room = omega (arith, inv.room, ap (λ v. v.cap) w.list-is, w.push_reserved-then-term-ne0.ensures.capacity);
          }
      | else-term-ne0 w ↦
          record {
            long = omega (arith, inv.long, ap (λ v. length v.items) w.list-is);
            are = ap (λ v. places v.items) w.list-is ∙ inv.are ∙ ap (λ xs. linear ++ xs) (sym (place_failed other j (ap not (linear_at ts j t here c.index-terms-j.is (omega (arith, w.if-term-ne0.false))))));
            room = omega (arith, inv.room, ap (λ v. v.cap) w.list-is);
          }
    ]

pub returns : goal.returns
returns g c =
    let ts = c.args.terms.now in
    let v = c.loop-j.list in
    let sorted = c.sort_from.new.list in
    let size : length sorted ≡ v.len = omega (arith, length_permutation c.deref_mut.result.now sorted c.sort_from.ensures, ap length c.deref_mut.ensures.value, v.ok.0) in
    let all : c.loop-j.j ≡ length ts = omega (arith, c.loop-j-test.false, c.loop-j.auto.j-end) in
    subst (λ xs. IsOrderOf ts (places xs)) (sym (with_items_is v sorted size))
    (order_sorted ts v.items sorted (c.loop-j.invariant.are ∙ ap (λ (k : ℕ). places_where (is_linear ts) (length ts) ++ places_where (λ i. not (is_linear ts i)) k) all)
    (subst (λ xs. IsPermutation xs sorted) c.deref_mut.ensures.value c.sort_from.ensures))

pub loop-i-init : goal.loop-i-init
loop-i-init g c = record { are = ap places c.in_ok-list.ensures.items; room = c.in_ok-list.ensures.capacity }

pub loop-j-init : goal.loop-j-init
loop-j-init g c =
    let ts = c.args.terms.now in
    let all : c.loop-i.i ≡ length ts = omega (arith, c.loop-i-test.false, c.loop-i.auto.i-end) in
    record {
      long = omega (arith, c.len-front.ensures, c.loop-i.list.ok.0);
      are = c.loop-i.invariant.are ∙ ap (places_where (is_linear ts)) all ∙ sym (append-nil (places_where (is_linear ts) (length ts)));
      room = c.loop-i.invariant.room;
    }

pub push_reserved-requires : goal.push_reserved-requires
push_reserved-requires g c =
    let ts = c.args.terms.now in
    let i = c.loop-i.i in
    let list = c.loop-i.list in
    let linear = linear_at ts i c.index-terms-i.result c.loop-i-test.true c.index-terms-i.is (omega (arith, c.if-term-eq0.true)) in
    omega (arith, passed-below (is_linear ts) (length ts) i c.loop-i-test.true linear, ap length c.loop-i.invariant.are, length-map list.items (λ x. x % most_total), c.loop-i.invariant.room, list.ok.0)

pub push_reserved-requires-then-term-ne0 : goal.push_reserved-requires-then-term-ne0
push_reserved-requires-then-term-ne0 g c =
    let ts = c.args.terms.now in
    let j = c.loop-j.j in
    let list = c.loop-j.list in
    let other = other_at ts j c.index-terms-j.result c.loop-j-test.true c.index-terms-j.is (omega (arith, c.if-term-ne0.true)) in
    omega (
      arith,
      failed-below (is_linear ts) (length ts) j c.loop-j-test.true other,
      ap length c.loop-j.invariant.are,
      length-map list.items (λ x. x % most_total),
      length-append (places_where (is_linear ts) (length ts)) (places_where (λ i. not (is_linear ts i)) j),
      c.loop-j.invariant.room,
      list.ok.0,
    )

pub word_of-requires : goal.word_of-requires
word_of-requires g c = omega (arith, c.loop-i-test.true, c.requires.few)

pub word_of-requires-then-term-ne0 : goal.word_of-requires-then-term-ne0
word_of-requires-then-term-ne0 g c = omega (arith, c.loop-j-test.true, c.requires.few)

pub sort_from-requires : goal.sort_from-requires
sort_from-requires g c = omega (arith, c.loop-j.invariant.long, ap length c.deref_mut.ensures.value)
