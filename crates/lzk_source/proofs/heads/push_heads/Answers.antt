use Rattle.std.proofs.Common.{◌∙◌, ◌∷◌, List, length, drop, sym, ap, ap₂}
use Rattle.std.specs.List.{list_all}
use Rattle.lzk_source.specs.declared.heads.Head.TheVariants as heads
use Rattle.lzk_expr.specs.declared.tokens.Keyword.{Keyword}
use Rattle.lzk_expr.specs.declared.tokens.Symbol.{Symbol}
use Rattle.lzk_expr.specs.declared.tokens.Symbol.TheVariants as symbol
use Rattle.lzk_source.specs.Heads.{symbol_headings, is_fair}
use Rattle.lzk_expr.proofs.CodeLengths.{is_zero, not_zero}
use Rattle.lzk_source.proofs.HeadLaws.{fair_rest, none_of_length, first_symbol, no_heads, none_more, one_head, more_heads}
use Rattle.lzk_expr.proofs.Outcomes.{on_ok}
use Rattle.lzk_expr.proofs.Told.{rest_of}
use Rattle.lzk_source.proofs.heads.push_heads.Goals as goal

pub returns-then-is_empty : goal.returns-then-is_empty
returns-then-is_empty c =
    let ss = c.args.symbols.now in
    none_more c.args.heads.now.items (symbol_headings ss) (ap symbol_headings (none_of_length ss (is_zero (length ss) (sym c.if-is_empty.ensures))))

pub returns-in_default : goal.returns-in_default
returns-in_default c = none_more c.args.heads.now.items (symbol_headings c.args.symbols.now) (no_heads c.args.symbols.now c.in_default.not-Key)

pub push_inputs-requires : goal.push_inputs-requires
push_inputs-requires c =
    let ss = c.args.symbols.now in
    ap (list_all is_fair) (rest_of ss 1) ∙ fair_rest ss 0 c.requires (not_zero (length ss) (sym c.if-is_empty.ensures))

pub push_inputs-requires-in-Private : goal.push_inputs-requires-in-Private
push_inputs-requires-in-Private c =
    let ss = c.args.symbols.now in
    ap (list_all is_fair) (rest_of ss 1) ∙ fair_rest ss 0 c.requires (not_zero (length ss) (sym c.if-is_empty.ensures))

pub push_let-requires : goal.push_let-requires
push_let-requires c =
    let ss = c.args.symbols.now in
    ap (list_all is_fair) (rest_of ss 1) ∙ fair_rest ss 0 c.requires (not_zero (length ss) (sym c.if-is_empty.ensures))

pub returns-in-Field : goal.returns-in-Field
returns-in-Field c =
    let ss = c.args.symbols.now in
    let first = first_symbol ss _ (not_zero (length ss) (sym c.if-is_empty.ensures)) c.in-Key.is in
    none_more c.args.heads.now.items (symbol_headings ss) (ap symbol_headings (first ∙ ap (λ (k : Keyword). symbol.Key k ∷ drop 1 ss) c.in-Field.is))

pub returns-in-Public : goal.returns-in-Public
returns-in-Public c =
    let ss = c.args.symbols.now in
    let first = first_symbol ss _ (not_zero (length ss) (sym c.if-is_empty.ensures)) c.in-Key.is in
    on_ok c.push_inputs.result
    (λ e. more_heads c.args.heads.now.items c.push_inputs.new.heads.items _ (symbol_headings ss) e (ap symbol_headings (first ∙ ap₂ (λ (k : Keyword) (rest : List Symbol). symbol.Key k ∷ rest) c.in-Public.is (sym (rest_of ss 1)))))
    c.push_inputs.ensures

pub returns-in-Private : goal.returns-in-Private
returns-in-Private c =
    let ss = c.args.symbols.now in
    let first = first_symbol ss _ (not_zero (length ss) (sym c.if-is_empty.ensures)) c.in-Key.is in
    on_ok c.push_inputs-in-Private.result
    (λ e. more_heads c.args.heads.now.items c.push_inputs-in-Private.new.heads.items _ (symbol_headings ss) e (ap symbol_headings (first ∙ ap₂ (λ (k : Keyword) (rest : List Symbol). symbol.Key k ∷ rest) c.in-Private.is (sym (rest_of ss 1)))))
    c.push_inputs-in-Private.ensures

pub returns-in-Let : goal.returns-in-Let
returns-in-Let c =
    let ss = c.args.symbols.now in
    let first = first_symbol ss _ (not_zero (length ss) (sym c.if-is_empty.ensures)) c.in-Key.is in
    on_ok c.push_let.result
    (λ e. more_heads c.args.heads.now.items c.push_let.new.heads.items _ (symbol_headings ss) e (ap symbol_headings (first ∙ ap₂ (λ (k : Keyword) (rest : List Symbol). symbol.Key k ∷ rest) c.in-Let.is (sym (rest_of ss 1)))))
    c.push_let.ensures

pub returns-in-Assert : goal.returns-in-Assert
returns-in-Assert c =
    let ss = c.args.symbols.now in
    let first = first_symbol ss _ (not_zero (length ss) (sym c.if-is_empty.ensures)) c.in-Key.is in
    on_ok c.push.result
    (λ e. one_head c.args.heads.now.items c.push.new.list.items heads.Assert (symbol_headings ss) e (ap symbol_headings (first ∙ ap (λ (k : Keyword). symbol.Key k ∷ drop 1 ss) c.in-Assert.is)))
    c.push.ensures
