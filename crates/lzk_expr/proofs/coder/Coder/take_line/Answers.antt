use Rattle.std.proofs.Common.{◌≡◌, sym, ap, ◌∙◌, ◌||◌, is_some, length, refl, arith, Option, true, false}
use Rattle.std.proofs.lemmas.Bool.{and_parts}
use Rattle.lzk_expr.specs.Texts.{content}
use Rattle.lzk_expr.specs.Tokens.{tokens, keeps_characters}
use Rattle.lzk_expr.specs.Sources.{is_field}
use Rattle.lzk_expr.specs.declared.ast.FieldId.{FieldId}
use Rattle.lzk_expr.proofs.Lines.{not_yes, not_no}
use Rattle.lzk_expr.proofs.Outcomes.{if_any}
use Rattle.lzk_expr.proofs.Taken.{if_ok}
use Rattle.lzk_expr.proofs.CodeTaken.{limits_kept, refused_none, on_ok, line_character, line_no_keyword, line_refused, line_form, text_line_skipped, text_line_read}
use Rattle.lzk_expr.proofs.CodeLengths.{fewer_keyed, is_zero, not_zero}
use Rattle.lzk_expr.proofs.Empty.{told_length, told_empty, told_filled, unclean_filled}
use Rattle.lzk_expr.proofs.coder.Coder.take_line.Goals as goal

pub returns-then-not-scan-clause-takes : goal.returns-then-not-scan-clause-takes
returns-then-not-scan-clause-takes c = λ b line h s.
    let bytes = content line in
    let unclean : keeps_characters bytes ≡ false = sym s.clean_is ∙ not_yes c.args.scan.clean c.if-not-scan.true in
    text_line_read b _ line bytes _ refl (unclean_filled bytes unclean) (line_character b _ bytes unclean)

pub returns-then-not-scan-clause-clean : goal.returns-then-not-scan-clause-clean
returns-then-not-scan-clause-clean c = λ none. absurd cc

pub returns-then-is_empty-clause-clean : goal.returns-then-is_empty-clause-clean
returns-then-is_empty-clause-clean c = λ none. not_no c.args.scan.clean c.if-not-scan.false

pub returns-in_default-clause-clean : goal.returns-in_default-clause-clean
returns-in_default-clause-clean c = λ none. not_no c.args.scan.clean c.if-not-scan.false

pub returns-in-Some-refused-clause-clean : goal.returns-in-Some-refused-clause-clean
returns-in-Some-refused-clause-clean c = λ none. not_no c.args.scan.clean c.if-not-scan.false

pub returns-clause-clean : goal.returns-clause-clean
returns-clause-clean c = if_any c.take_form.result (λ broken none. not_no c.args.scan.clean c.if-not-scan.false)

pub returns-then-is_empty-clause-takes : goal.returns-then-is_empty-clause-takes
returns-then-is_empty-clause-takes c = λ b line h s.
    let ss = c.args.symbols.now in
    text_line_skipped b _ line h (told_empty ss (content line) (s.told (not_no c.args.scan.clean c.if-not-scan.false)) (is_zero (length ss) (sym c.if-is_empty.ensures)))

pub first_keyword-requires : goal.first_keyword-requires
first_keyword-requires c = not_zero (length c.args.symbols.now) (sym c.if-is_empty.ensures)

pub returns-in_default-clause-takes : goal.returns-in_default-clause-takes
returns-in_default-clause-takes c = λ b line h s.
    let ss = c.args.symbols.now in
    let bytes = content line in
    let yes = not_no c.args.scan.clean c.if-not-scan.false in
    let told = s.told yes in
    let clean : keeps_characters bytes ≡ true = sym s.clean_is ∙ yes in
    text_line_read b _ line bytes _ refl (told_filled ss bytes told (not_zero (length ss) (sym c.if-is_empty.ensures))) (line_no_keyword b _ bytes clean (c.in_default.ensures (tokens bytes) told))

pub returns-in-Some-refused-clause-takes : goal.returns-in-Some-refused-clause-takes
returns-in-Some-refused-clause-takes c = λ b line h s.
    let ss = c.args.symbols.now in
    let bytes = content line in
    let yes = not_no c.args.scan.clean c.if-not-scan.false in
    let told = s.told yes in
    let clean : keeps_characters bytes ≡ true = sym s.clean_is ∙ yes in
    let k = c.in-Some.keyword in
    let i = c.in-Some.ensures (tokens bytes) told in
    text_line_read b _ line bytes _ refl (told_filled ss bytes told (not_zero (length ss) (sym c.if-is_empty.ensures)))
    (line_refused b _ bytes k i.behind clean i.keyed _ _ c.in-Some-refused.kind (ap (λ (o : Option FieldId). is_some o || is_field k) (sym h.field_is))
    (limits_kept c.args.self.now b k (tokens bytes) i.behind (length c.in-Some.rest.now) c.args.scan.bounded h i.keyed (told_length c.in-Some.rest.now i.behind i.told) (s.bounded_is yes)) c.in-Some-refused.ensures)

pub take_form-requires : goal.take_form-requires
take_form-requires c =
    let n = refused_none _ _ c.in_default-refused.ensures in
    record {
      field = n.0;
      room = (and_parts _ _ n.1).1;
      few = omega (arith, c.requires (not_no c.args.scan.clean c.if-not-scan.false), fewer_keyed c.args.symbols.now c.in-Some.rest.now c.in-Some.keyword c.in-Some.ensures);
    }

pub returns-clause-takes : goal.returns-clause-takes
returns-clause-takes c =
    let k = c.in-Some.keyword in
    let old = c.args.self.now in
    let new = c.take_form.new.self in
    let ss = c.args.symbols.now in
    let n = refused_none _ _ c.in_default-refused.ensures in
    let yes = not_no c.args.scan.clean c.if-not-scan.false in
    if_ok c.take_form.result _ _ (λ broken t b line h s.
    let bytes = content line in
    let told = s.told yes in
    let clean : keeps_characters bytes ≡ true = sym s.clean_is ∙ yes in
    let i = c.in-Some.ensures (tokens bytes) told in
    text_line_read b new line bytes broken refl (told_filled ss bytes told (not_zero (length ss) (sym c.if-is_empty.ensures)))
    (line_form b new bytes k i.behind clean i.keyed broken (ap (λ (o : Option FieldId). is_some o || is_field k) (sym h.field_is) ∙ n.0)
    (limits_kept old b k (tokens bytes) i.behind (length c.in-Some.rest.now) c.args.scan.bounded h i.keyed (told_length c.in-Some.rest.now i.behind i.told) (s.bounded_is yes) ∙ n.1)
    (t b i.behind h i.told))) c.take_form.ensures.takes

pub returns-clause-used : goal.returns-clause-used
returns-clause-used c = on_ok c.take_form.result _ _ (λ e. omega (arith, e, fewer_keyed c.args.symbols.now c.in-Some.rest.now c.in-Some.keyword c.in-Some.ensures)) c.take_form.ensures.used
