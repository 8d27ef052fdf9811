use Rattle.std.proofs.Common.{◌∙◌, ◌∷◌, [], length, sym, ap}
use Rattle.lzk_source.specs.declared.heads.Head.TheVariants as heads
use Rattle.lzk_source.specs.Heads.{let_headings, OfLet}
use Rattle.lzk_expr.proofs.CodeLengths.{is_zero, not_zero}
use Rattle.lzk_source.proofs.HeadLaws.{fair_first, none_of_length, first_symbol, no_let_heads, none_more, one_head}
use Rattle.lzk_expr.proofs.Outcomes.{on_ok}
use Rattle.lzk_source.proofs.heads.push_let.Goals as goal

pub returns-then-is_empty : goal.returns-then-is_empty
returns-then-is_empty c =
    let ss = c.args.symbols.now in
    none_more c.args.heads.now.items (let_headings ss) (ap let_headings (none_of_length ss (is_zero (length ss) (sym c.if-is_empty.ensures))))

pub new-requires : goal.new-requires
new-requires c =
    let ss = c.args.symbols.now in
    let f = fair_first ss 0 c.in-Name.name c.requires (not_zero (length ss) (sym c.if-is_empty.ensures)) c.in-Name.is in
    record { some = f.0; few = f.1 }

pub returns-in-Name : goal.returns-in-Name
returns-in-Name c =
    let ss = c.args.symbols.now in
    let first = first_symbol ss _ (not_zero (length ss) (sym c.if-is_empty.ensures)) c.in-Name.is in
    on_ok c.push.result
    (λ e. one_head c.args.heads.now.items c.push.new.list.items (heads.Let c.new.result) (let_headings ss) e (ap let_headings first ∙ ap (λ w. OfLet w ∷ []) (sym c.new.ensures)))
    c.push.ensures

pub returns-in_default : goal.returns-in_default
returns-in_default c = none_more c.args.heads.now.items (let_headings c.args.symbols.now) (no_let_heads c.args.symbols.now c.in_default.not-Name)
