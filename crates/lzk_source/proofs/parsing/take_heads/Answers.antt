use Rattle.std.proofs.Common.{subst, ap, ◌∙◌, ◌++◌, List}
use Rattle.std.specs.List.{list_all}
use Rattle.lzk_expr.specs.declared.tokens.Symbol.{Symbol}
use Rattle.lzk_source.specs.Heads.{heads_of, symbol_headings, is_fair}
use Rattle.lzk_source.proofs.ParseLaws.{HeadsLeft, heads_first, line_heads, heads_all}
use Rattle.lzk_source.proofs.parsing.take_heads.Goals as goal

pub loop-left-init : goal.loop-left-init
loop-left-init c = λ source h. heads_first c.args.text source c.args.heads.now.items c.requires.none h

pub push_heads-requires : goal.push_heads-requires
push_heads-requires c =
    let l = c.loop-left in
    let known = c.requires.known in
    let h = subst (λ o. HeadsLeft known.0 l.heads.items o) c.in-Some.is (l.invariant known.0 known.1) in
    ap (list_all is_fair) c.deref.ensures.value
    ∙ (line_heads known.0 l.heads.items c.in-Some.behind c.in-Ok.after _ c.lex_line.new.symbols.items c.in-Ok.ensures.scan c.in-Ok.ensures.rest h).fair

pub loop-left-preserved : goal.loop-left-preserved
loop-left-preserved c = λ source read.
    let l = c.loop-left in
    let h = subst (λ o. HeadsLeft source l.heads.items o) c.in-Some.is (l.invariant source read) in
    (line_heads source l.heads.items c.in-Some.behind c.in-Ok.after _ c.lex_line.new.symbols.items c.in-Ok.ensures.scan c.in-Ok.ensures.rest h).left c.push_heads.new.heads.items
    (c.in-Ok-push_heads.ensures ∙ ap (λ (ss : List Symbol). heads_of l.heads.items ++ symbol_headings ss) c.deref.ensures.value)

pub returns : goal.returns
returns c = λ source read.
    let l = c.loop-left in
    heads_all source l.heads.items (subst (λ o. HeadsLeft source l.heads.items o) c.in_default.is (l.invariant source read))
