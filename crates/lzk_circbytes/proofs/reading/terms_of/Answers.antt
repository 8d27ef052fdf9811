use Rattle.std.proofs.Common.{◌≡◌, ◌<◌, ◌++◌, ◌∷◌, [], map, None, arith, ap, ◌∙◌, length, length-append, refl}
use Rattle.std.specs.Option.{option_map}
use Rattle.std.proofs.lemmas.Result.{err_from_is_err_and}
use Rattle.std.proofs.lemmas.List.{map_push, length-map, length-set}
use Rattle.lzk_circbytes.specs.Numbered.{numbered_term, is_in_terms}
use Rattle.lzk_circbytes.specs.Reading.{term_at, as_before, terms_at}
use Rattle.lzk_circbytes.proofs.Loop.{goes_on, ends, is_done, begins}
use Rattle.lzk_circbytes.proofs.Marking.{marks_none, marks_term}
use Rattle.lzk_circbytes.proofs.ReadSteps.{not_if_ok}
use Rattle.lzk_circbytes.proofs.reading.terms_of.Goals as goal

pub loop-init : goal.loop-init
loop-init g c =
    let number = g.F.Field.coding.number in
    record {
      count = ap length c.in_ok-terms.ensures.items;
      flags = c.requires;
      used = rw c.in_ok-terms.ensures.items (marks_none (map number c.args.coefs.now.list.now) (is_in_terms []) c.args.used.now (λ n. refl));
      read = rw c.in_ok-terms.ensures.items (begins as_before (term_at (map number c.args.coefs.now.list.now) c.args.wires c.args.below) c.args.count None c.args.bytes.now);
    }

pub returns-in_err-term-clause-value : goal.returns-in_err-term-clause-value
returns-in_err-term-clause-value g c =
    let p = err_from_is_err_and c.from_residual-in_err-term.result c.from_residual-in_err-term.ensures.1 in
    let view = numbered_term g.F.Field.coding.number in
    rw (p.1, p.2) (ends as_before (term_at (map g.F.Field.coding.number c.args.coefs.now.list.now) c.args.wires c.args.below) c.in_err-term.field-0.0 (map view c.loop.terms.items) c.args.count c.loop.counter (option_map view c.loop.before) c.loop.rest.now (terms_at (map g.F.Field.coding.number c.args.coefs.now.list.now) c.args.wires c.args.below c.args.count c.args.bytes.now) c.loop-test.true c.in_err-term.ensures.value c.loop.invariant.read)

pub loop-preserved : goal.loop-preserved
loop-preserved g c =
    let number = g.F.Field.coding.number in
    let view = numbered_term number in
    let numbers = map number c.args.coefs.now.list.now in
    let t = c.in_ok-term.term in
    let k = c.in_ok-term.k in
    let e : map view c.push.new.self.items ≡ map view c.loop.terms.items ++ view t ∷ [] = rw c.in_ok-push.ensures.items (map_push _ c.loop.terms.items t) in
    let in_numbers : k < length numbers = omega (arith, c.in_ok-term.ensures.bound, length-map c.args.coefs.now.list.now number) in
    let in_flags : k < length c.loop.used = omega (arith, c.in_ok-term.ensures.bound, c.loop.invariant.flags) in
    record {
      count = omega (arith, length-append c.loop.terms.items (t ∷ []), ap length c.in_ok-push.ensures.items, c.loop.invariant.count);
      flags = length-set c.loop.used k _ ∙ c.loop.invariant.flags;
      used = rw e (marks_term numbers c.args.coefs.now.rising (map view c.loop.terms.items) (view t) k c.args.used.now c.loop.used in_numbers in_flags c.in_ok-term.ensures.constant c.loop.invariant.used);
      read = rw e (goes_on as_before (term_at numbers c.args.wires c.args.below) (map view c.loop.terms.items) c.args.count c.loop.counter (option_map view c.loop.before) c.loop.rest.now (view t) c.in_ok-term.after.now (terms_at numbers c.args.wires c.args.below c.args.count c.args.bytes.now) c.loop-test.true c.in_ok-term.ensures.value c.loop.invariant.read);
    }

pub returns-clause-value : goal.returns-clause-value
returns-clause-value g c =
    let view = numbered_term g.F.Field.coding.number in
    is_done as_before (term_at (map g.F.Field.coding.number c.args.coefs.now.list.now) c.args.wires c.args.below) (map view c.loop.terms.items) c.args.count c.loop.counter (option_map view c.loop.before) c.loop.rest.now (terms_at (map g.F.Field.coding.number c.args.coefs.now.list.now) c.args.wires c.args.below c.args.count c.args.bytes.now) c.loop-test.false c.loop.invariant.read

pub returns-in_err-terms-clause-count : goal.returns-in_err-terms-clause-count
returns-in_err-terms-clause-count g c = not_if_ok _ c.from_residual.result _ c.from_residual.ensures.1

pub returns-in_err-terms-clause-used : goal.returns-in_err-terms-clause-used
returns-in_err-terms-clause-used g c = not_if_ok _ c.from_residual.result _ c.from_residual.ensures.1

pub returns-in_err-term-clause-count : goal.returns-in_err-term-clause-count
returns-in_err-term-clause-count g c = not_if_ok _ c.from_residual-in_err-term.result _ c.from_residual-in_err-term.ensures.1

pub returns-in_err-term-clause-used : goal.returns-in_err-term-clause-used
returns-in_err-term-clause-used g c = not_if_ok _ c.from_residual-in_err-term.result _ c.from_residual-in_err-term.ensures.1

pub returns-in_err-push-clause-count : goal.returns-in_err-push-clause-count
returns-in_err-push-clause-count g c = not_if_ok _ c.from_residual-in_err-push.result _ c.from_residual-in_err-push.ensures.1

pub returns-in_err-push-clause-used : goal.returns-in_err-push-clause-used
returns-in_err-push-clause-used g c = not_if_ok _ c.from_residual-in_err-push.result _ c.from_residual-in_err-push.ensures.1

pub bounds-used-k : goal.bounds-used-k
bounds-used-k g c = omega (arith, c.in_ok-term.ensures.bound, c.loop.invariant.flags)
