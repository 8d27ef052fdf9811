use Rattle.std.proofs.Common.{◌++◌, subst, sym, map, List}
use Rattle.std.proofs.lemmas.List.{drop_all}
use Rattle.lzk_circbytes.specs.Numbered.{numbered_term}
use Rattle.lzk_circbytes.specs.Recent.{HaveSame}
use Rattle.lzk_circbytes.proofs.Recent.{same_end, same_number}
use Rattle.lzk_circbytes.proofs.Written.{term_goes_on}
use Rattle.lzk_circbytes.proofs.encoding.push_coefficients.Goals as goal

pub loop-t-preserved : goal.loop-t-preserved
loop-t-preserved g c =
    let number = g.F.Field.coding.number in
    let terms = c.args.terms.now in
    record {
      same = term_goes_on number c.loop-t.numbers.items c.push_number.new.numbers.items c.loop-t.t-index terms c.t-item.result (c.args.numbers.now.items ++ map (λ t. t.coef) (map (numbered_term number) terms)) c.loop-t-test.true (sym c.t-item.is)
          (same_number c.push_number.new.numbers.items c.loop-t.numbers.items c.number.result (number c.t-item.result.coef) c.number.ensures c.in_ok-push_number.ensures.same) c.loop-t.invariant.same;
      met = c.in_ok-push_number.ensures.met;
    }

pub returns-clause-same : goal.returns-clause-same
returns-clause-same g c =
    let number = g.F.Field.coding.number in
    let terms = c.args.terms.now in
    let all = c.args.numbers.now.items ++ map (λ t. t.coef) (map (numbered_term number) terms) in
    let none = drop_all c.loop-t.t-index terms c.loop-t-test.false in
    same_end c.loop-t.numbers.items all (subst (λ (ts : List _). HaveSame (c.loop-t.numbers.items ++ map (λ t. t.coef) (map (numbered_term number) ts)) all) none c.loop-t.invariant.same)
