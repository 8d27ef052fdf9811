use Rattle.std.proofs.Common.{◌≡◌, ◌++◌, ◌∷◌, [], ◌∙◌, ap, refl, arith, length, None}
use Rattle.lzk_circuit_reduce.proofs.AddLaws.{any-default}
use Rattle.lzk_circuit_reduce.proofs.kept.add_wire.Goals as goal

pub overflow_add-kept : goal.overflow_add-kept
overflow_add-kept g c = omega (arith, c.requires.few)

pub returns-clause-wire : goal.returns-clause-wire
returns-clause-wire g c = refl

pub returns-clause-more : goal.returns-clause-more
returns-clause-more g c =
    let old = c.args.kept.now in
    let long : c.len.result ≡ length c.append.new.terms.items = omega (arith, c.len.ensures, c.append.new.terms.ok.0) in
    record {
      count = refl;
      terms = c.in-Ok.ensures.exact;
      starts = c.in-Ok-push.ensures ∙ ap (λ n. old.starts.items ++ n ∷ []) long;
      links = c.in-Ok-push-2.ensures ∙ ap (λ x. old.links.items ++ x ∷ []) (any-default old.heads.items c.args.slot c.index.result.now None c.requires.within c.index.ensures);
      heads = refl;
      within = c.requires.within;
    }
