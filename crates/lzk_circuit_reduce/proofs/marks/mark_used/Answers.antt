use Rattle.std.proofs.Common.{◌≡◌, ◌∙◌, refl, sym, ap, ◌+◌, ◌<◌, ◌==◌, ◌||◌, ℕ, List, Bool, true, false, arith, length, None, get_or, drop, subst}
use Rattle.std.proofs.lemmas.List.{drop_all}
use Rattle.lzk_field.specs.Ring.{Ops}
use Rattle.lzk_circuit.specs.declared.layer.Term.{Term}
use Rattle.lzk_circuit.specs.Valid.{IsTerm, AreTerms}
use Rattle.lzk_circuit.proofs.OrderLaws.{term-at}
use Rattle.lzk_circuit_reduce.specs.Marks.{is_marked, names}
use Rattle.lzk_circuit_reduce.proofs.MarkLaws.{names-marked, names-unmarked}
use Rattle.lzk_circuit_reduce.proofs.marks.mark_used.Goals.{then-marks-term, else-marks-term}
use Rattle.lzk_circuit_reduce.proofs.marks.mark_used.Goals as goal

or-false : (p : Bool) → (p || false) ≡ p
or-false true = refl
or-false false = refl

-- a term that is read is one of them
read : {A : Type 0} (o : Ops A) (wires width i : ℕ) (ts : List (Term A)) (t : Term A) → AreTerms o wires width None ts → i < length ts → t ≡ get_or ts i t → IsTerm o wires width t
read o wires width i ts t h l is = subst (IsTerm o wires width) (sym is) (term-at o wires width i None ts t h l)

pub loop-i-init : goal.loop-i-init
loop-i-init g c k = refl

pub returns : goal.returns
returns g c k =
    let below = c.loop-i.below in
    let marks = c.args.marks.now in
    sym (or-false (is_marked below k)) ∙ ap (λ us. is_marked below k || names marks us k) (sym (drop_all c.loop-i.i c.args.terms.now c.loop-i-test.false)) ∙ c.loop-i.invariant k

pub overflow_cast-term : goal.overflow_cast-term
overflow_cast-term g c =
    let t = read g.F.Field.ops (length c.args.marks.now) (length c.args.below.now) c.loop-i.i c.args.terms.now c.index-terms-i.result c.requires c.loop-i-test.true c.index-terms-i.is in
    omega (arith, t.g)

pub bounds-marks-term : goal.bounds-marks-term
bounds-marks-term g c =
    let t = read g.F.Field.ops (length c.args.marks.now) (length c.args.below.now) c.loop-i.i c.args.terms.now c.index-terms-i.result c.requires c.loop-i-test.true c.index-terms-i.is in
    t.g

pub mark_both-requires-clause-first : goal.mark_both-requires-clause-first
mark_both-requires-clause-first g c =
    let t = read g.F.Field.ops (length c.args.marks.now) (length c.args.below.now) c.loop-i.i c.args.terms.now c.index-terms-i.result c.requires c.loop-i-test.true c.index-terms-i.is in
    omega (arith, t.a, t.b, c.loop-i.auto.below)

pub mark_both-requires-clause-second : goal.mark_both-requires-clause-second
mark_both-requires-clause-second g c =
    let t = read g.F.Field.ops (length c.args.marks.now) (length c.args.below.now) c.loop-i.i c.args.terms.now c.index-terms-i.result c.requires c.loop-i-test.true c.index-terms-i.is in
    omega (arith, t.b, c.loop-i.auto.below)

pub loop-i-preserved : goal.loop-i-preserved
loop-i-preserved g c k =
    let ts = c.args.terms.now in
    let i = c.loop-i.i in
    let marks = c.args.marks.now in
    let d = c.index-terms-i.result in
    let l = c.loop-i-test.true in
    let old = c.loop-i.below in
    let rest = names marks (drop (i + 1) ts) k in
    let is : d ≡ get_or ts i d = c.index-terms-i.is in
    let mark = ap (λ t. is_marked marks t.g) (sym is) in
    elim c.if-marks-term.branch [
      | then-marks-term w ↦
          ap (λ x. is_marked x k || rest) w.below-is ∙ ap (λ p. p || rest) (w.mark_both.ensures k ∙ ap (λ t. is_marked old k || ((t.a == k) || (t.b == k))) is)
          ∙ names-marked marks ts i d k (is_marked old k) l (mark ∙ w.if-marks-term.true) ∙ c.loop-i.invariant k
      | else-marks-term w ↦ ap (λ x. is_marked x k || rest) w.below-is ∙ names-unmarked marks ts i d k (is_marked old k) l (mark ∙ w.if-marks-term.false) ∙ c.loop-i.invariant k
    ]
