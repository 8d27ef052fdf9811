use Rattle.std.proofs.Common.{rules, [], ◌∷◌, ◌≡◌, ◌<◌, ◌+◌, ◌++◌, ◌∙◌, ap, sym, subst, arith, false, Bool, List, ℕ, length, drop, None, get_or}
use Rattle.std.proofs.lemmas.List.{length-append}
use Rattle.std.proofs.lemmas.Result.{IfOk-weaker}
use Rattle.lzk_field.specs.Ring.{Ops}
use Rattle.lzk_circuit.specs.declared.layer.Term.{Term}
use Rattle.lzk_circuit.specs.declared.layer.Layer.{Layer}
use Rattle.lzk_circuit.specs.Valid.{IsTerm, AreTerms}
use Rattle.lzk_circuit.proofs.OrderLaws.{term-at}
use Rattle.lzk_circuit_reduce.specs.Renumbering.{at}
use Rattle.lzk_circuit_reduce.specs.Marks.{is_marked, marked_before, AreMarkedPlaces}
use Rattle.lzk_circuit_reduce.specs.Used.{used_term, used_terms, used_layer}
use Rattle.lzk_circuit_reduce.proofs.AddLaws.{any-default}
use Rattle.lzk_circuit_reduce.proofs.UsedLaws.{numbered-used, used-marked, used-unmarked, used-all}
use Rattle.lzk_circuit_reduce.proofs.prune.add_marked.Goals.{then-index, else-index}
use Rattle.lzk_circuit_reduce.proofs.prune.add_marked.Goals as goal

-- a term that is read is one of them
read : {A : Type 0} (o : Ops A) (wires width i : ℕ) (all ts : List (Term A)) (t : Term A) → ts ≡ all → AreTerms o wires width None all → i < length ts → t ≡ get_or ts i t → IsTerm o wires width t
read o wires width i all ts t e h l is = subst (IsTerm o wires width) (sym is) (term-at o wires width i None ts t (subst (AreTerms o wires width None) (sym e) h) l)

-- a term with the numbers of its wires among the marked ones
numbered : {A : Type 0} (marks seen : List Bool) (places below : List ℕ) (d e : Term A) (n a b : ℕ) → AreMarkedPlaces marks places → AreMarkedPlaces seen below → d.g < length marks → d.a < length seen → d.b < length seen
    → n ≡ at places d.g → a ≡ at below d.a → b ≡ at below d.b → d ≡ e → record { g = n; a = a; b = b; coef = d.coef } ≡ used_term marks seen e
numbered marks seen places below d e n a b p q g l r first left right is =
    ap (λ x. record { g = x; a = a; b = b; coef = d.coef }) first ∙ ap (λ x. record { g = at places d.g; a = x; b = b; coef = d.coef }) left
    ∙ ap (λ x. record { g = at places d.g; a = at below d.a; b = x; coef = d.coef }) right ∙ numbered-used marks seen places below d p q g l r ∙ ap (used_term marks seen) is

pub overflow_cast-term : goal.overflow_cast-term
overflow_cast-term g c =
    let t = read g.F.Field.ops (length c.args.above.now.marks.items) (length c.args.below.now.marks.items) c.loop-i.i c.args.layer.now.terms c.as_slice-terms.result.now c.index-terms-i.result c.as_slice-terms.ensures c.requires c.loop-i-test.true c.index-terms-i.is in
    omega (arith, t.g)

pub index-requires : goal.index-requires
index-requires g c =
    let t = read g.F.Field.ops (length c.args.above.now.marks.items) (length c.args.below.now.marks.items) c.loop-i.i c.args.layer.now.terms c.as_slice-terms.result.now c.index-terms-i.result c.as_slice-terms.ensures c.requires c.loop-i-test.true c.index-terms-i.is in
    let l : c.index-terms-i.result.g < length c.args.above.now.marks.items = t.g in
    search (rules, l)

pub overflow_cast-term-then-index : goal.overflow_cast-term-then-index
overflow_cast-term-then-index g c =
    let t = read g.F.Field.ops (length c.args.above.now.marks.items) (length c.args.below.now.marks.items) c.loop-i.i c.args.layer.now.terms c.as_slice-terms.result.now c.index-terms-i.result c.as_slice-terms.ensures c.requires c.loop-i-test.true c.index-terms-i.is in
    omega (arith, t.g)

pub index-requires-then-index : goal.index-requires-then-index
index-requires-then-index g c =
    let t = read g.F.Field.ops (length c.args.above.now.marks.items) (length c.args.below.now.marks.items) c.loop-i.i c.args.layer.now.terms c.as_slice-terms.result.now c.index-terms-i.result c.as_slice-terms.ensures c.requires c.loop-i-test.true c.index-terms-i.is in
    let l : c.index-terms-i.result.g < length c.args.above.now.places.items = omega (arith, t.g, c.args.above.now.placed.0) in
    search (rules, l)

pub overflow_cast-term-then-index-2 : goal.overflow_cast-term-then-index-2
overflow_cast-term-then-index-2 g c =
    let t = read g.F.Field.ops (length c.args.above.now.marks.items) (length c.args.below.now.marks.items) c.loop-i.i c.args.layer.now.terms c.as_slice-terms.result.now c.index-terms-i.result c.as_slice-terms.ensures c.requires c.loop-i-test.true c.index-terms-i.is in
    omega (arith, t.a, t.b)

pub index-requires-then-index-2 : goal.index-requires-then-index-2
index-requires-then-index-2 g c =
    let t = read g.F.Field.ops (length c.args.above.now.marks.items) (length c.args.below.now.marks.items) c.loop-i.i c.args.layer.now.terms c.as_slice-terms.result.now c.index-terms-i.result c.as_slice-terms.ensures c.requires c.loop-i-test.true c.index-terms-i.is in
    let l : c.index-terms-i.result.a < length c.args.below.now.places.items = omega (arith, t.a, t.b, c.args.below.now.placed.0) in
    search (rules, l)

pub overflow_cast-term-then-index-3 : goal.overflow_cast-term-then-index-3
overflow_cast-term-then-index-3 g c =
    let t = read g.F.Field.ops (length c.args.above.now.marks.items) (length c.args.below.now.marks.items) c.loop-i.i c.args.layer.now.terms c.as_slice-terms.result.now c.index-terms-i.result c.as_slice-terms.ensures c.requires c.loop-i-test.true c.index-terms-i.is in
    omega (arith, t.b)

pub index-requires-then-index-3 : goal.index-requires-then-index-3
index-requires-then-index-3 g c =
    let t = read g.F.Field.ops (length c.args.above.now.marks.items) (length c.args.below.now.marks.items) c.loop-i.i c.args.layer.now.terms c.as_slice-terms.result.now c.index-terms-i.result c.as_slice-terms.ensures c.requires c.loop-i-test.true c.index-terms-i.is in
    let l : c.index-terms-i.result.b < length c.args.below.now.places.items = omega (arith, t.b, c.args.below.now.placed.0) in
    search (rules, l)

pub loop-i-preserved : goal.loop-i-preserved
loop-i-preserved g c =
    let ts = c.as_slice-terms.result.now in
    let i = c.loop-i.i in
    let above = c.args.above.now in
    let below = c.args.below.now in
    let marks = above.marks.items in
    let seen = below.marks.items in
    let d = c.index-terms-i.result in
    let all = used_terms marks seen ts in
    let inv = c.loop-i.invariant in
    let l : i < length ts = c.loop-i-test.true in
    let t = read g.F.Field.ops (length marks) (length seen) i c.args.layer.now.terms ts d c.as_slice-terms.ensures c.requires l c.index-terms-i.is in
    let own = ap (λ x. is_marked marks x.g) (sym c.index-terms-i.is) ∙ sym (any-default marks d.g c.index.result.now false t.g c.index.ensures) in
    elim c.if-index.branch [
      | then-index w ↦
          let first = any-default above.places.items d.g w.index-then-index.result.now 0 (omega (arith, t.g, above.placed.0)) w.index-then-index.ensures in
          let left = any-default below.places.items d.a w.index-then-index-2.result.now 0 (omega (arith, t.a, t.b, below.placed.0)) w.index-then-index-2.ensures in
          let right = any-default below.places.items d.b w.index-then-index-3.result.now 0 (omega (arith, t.b, below.placed.0)) w.index-then-index-3.ensures in
          let pushed : Term _ = record { g = w.index-then-index.result.now; a = w.index-then-index-2.result.now; b = w.index-then-index-3.result.now; coef = d.coef } in
          let is = numbered marks seen above.places.items below.places.items d (get_or ts i d) pushed.g pushed.a pushed.b above.placed below.placed t.g (omega (arith, t.a, t.b)) t.b first left right c.index-terms-i.is in
          record {
            all =
                ap (λ v. v.items ++ used_terms marks seen (drop (i + 1) ts)) w.used-is
                ∙ ap (λ xs. xs ++ used_terms marks seen (drop (i + 1) ts)) w.push_reserved.ensures.items
                ∙ used-marked marks seen ts c.loop-i.used.items all pushed i d l (own ∙ w.if-index.true) is inv.all;
            few = omega (arith, ap (λ v. length v.items) w.used-is, ap length w.push_reserved.ensures.items, length-append c.loop-i.used.items (pushed ∷ []), inv.few);
            room = omega (arith, ap (λ v. v.cap) w.used-is, w.push_reserved.ensures.capacity, inv.room);
          }
      | else-index w ↦ record {
        all = ap (λ v. v.items ++ used_terms marks seen (drop (i + 1) ts)) w.used-is ∙ used-unmarked marks seen ts c.loop-i.used.items all i d l (own ∙ w.if-index.false) inv.all;
        few = omega (arith, ap (λ v. length v.items) w.used-is, inv.few);
        room = omega (arith, ap (λ v. v.cap) w.used-is, inv.room);
      }
    ]

pub loop-i-init : goal.loop-i-init
loop-i-init g c =
    let above = c.args.above.now in
    let below = c.args.below.now in
    let ts = c.as_slice-terms.result.now in
    record {
      all = ap (λ xs. xs ++ used_terms above.marks.items below.marks.items ts) c.in-Ok.ensures.items;
      few = omega (arith, ap length c.in-Ok.ensures.items);
      room = omega (arith, c.in-Ok.ensures.capacity);
    }

pub push_reserved-requires : goal.push_reserved-requires
push_reserved-requires g c = omega (arith, c.loop-i.invariant.few, c.loop-i.invariant.room, c.loop-i-test.true)

pub returns : goal.returns
returns g c =
    let above = c.args.above.now in
    let marks = above.marks.items in
    let seen = c.args.below.now.marks.items in
    let ts = c.as_slice-terms.result.now in
    let inv = c.loop-i.invariant in
    let old = c.args.kept.now.items in
    let new = c.push.new.list.items in
    let added : Layer _ = record { wires = above.count; terms = c.new.result } in
    let used = used_layer marks seen c.args.layer.now in
    let all = c.new.ensures ∙ used-all marks seen ts c.loop-i.used.items (used_terms marks seen ts) c.loop-i.i c.loop-i-test.false inv.all ∙ ap (used_terms marks seen) c.as_slice-terms.ensures in
    let same : added ≡ used = ap (λ n. record { wires = n; terms = c.new.result }) above.counted ∙ ap (λ us. record { wires = marked_before marks (length marks); terms = us }) all in
    IfOk-weaker c.push.result (λ _. new ≡ old ++ added ∷ []) (λ _. new ≡ old ++ used ∷ []) (λ _ e. e ∙ ap (λ x. old ++ x ∷ []) same) c.push.ensures
