use Rattle.std.proofs.Common.{subst, sym, ap, refl, ◌-◌, Option, List, length, arith}
use Rattle.lzk_expr.specs.Texts.{first_line, first_content}
use Rattle.lzk_expr.specs.Sources.{nothing_yet}
use Rattle.lzk_expr.specs.Coders.{TakesTextLine}
use Rattle.lzk_expr.specs.declared.tokens.Symbol.{Symbol}
use Rattle.lzk_expr.specs.SymbolForms.{IsScanOf}
use Rattle.lzk_expr.specs.declared.source_fault.SourceKind.{SourceKind}
use Rattle.lzk_expr.proofs.CodeLengths.{line_room}
use Rattle.lzk_expr.proofs.CodeReading.{CodeLeft, code_first, room_for_first, code_next, code_stop, code_taken, end_reads_code}
use Rattle.lzk_expr.proofs.reading.take_lines.Goals as goal

pub loop-left-init : goal.loop-left-init
loop-left-init c = (nothing_yet, code_first c.args.text.now.bytes c.args.coder.now c.requires.holds c.requires.used)

pub take_line-requires : goal.take_line-requires
take_line-requires c = λ yes.
    let l = c.loop-left in
    let b = l.invariant.0 in
    let behind = c.in-Some.behind.now in
    omega (
      arith,
      room_for_first c.args.text.now.bytes.now l.line l.coder b c.in-Some.behind c.args.text.now.few (subst (λ o. CodeLeft c.args.text.now.bytes.now l.line l.coder b o) c.in-Some.is l.invariant.1),
      ap length c.deref.ensures.value,
      line_room (first_line behind) (first_content behind) c.lex_line.new.symbols.items refl (c.in-Ok.ensures.scan.told yes),
    )

pub returns-in-Some-broken : goal.returns-in-Some-broken
returns-in-Some-broken c =
    let l = c.loop-left in
    let b = l.invariant.0 in
    let now = first_line c.in-Some.behind.now in
    let left = subst (λ o. CodeLeft c.args.text.now.bytes.now l.line l.coder b o) c.in-Some.is l.invariant.1 in
    let lent : IsScanOf c.in-Ok.scan (first_content c.in-Some.behind.now) c.deref.result.now = subst (λ (ss : List Symbol). IsScanOf c.in-Ok.scan (first_content c.in-Some.behind.now) ss) (sym c.deref.ensures.value) c.in-Ok.ensures.scan in
    code_stop c.args.text.now.bytes.now now l.line l.coder c.take_line.new.self b c.in-Some.behind c.in-Ok.after c.in-Some-broken.kind c.in-Ok.ensures.rest left
    (subst (λ (o : Option SourceKind). TakesTextLine b c.take_line.new.self now o) c.in-Some-broken.is (c.in-Ok-take_line.ensures.takes b now left.holds lent))

pub loop-left-preserved : goal.loop-left-preserved
loop-left-preserved c =
    let l = c.loop-left in
    let b = l.invariant.0 in
    let now = first_line c.in-Some.behind.now in
    let left = subst (λ o. CodeLeft c.args.text.now.bytes.now l.line l.coder b o) c.in-Some.is l.invariant.1 in
    let lent : IsScanOf c.in-Ok.scan (first_content c.in-Some.behind.now) c.deref.result.now = subst (λ (ss : List Symbol). IsScanOf c.in-Ok.scan (first_content c.in-Some.behind.now) ss) (sym c.deref.ensures.value) c.in-Ok.ensures.scan in
    let t = subst (λ (o : Option SourceKind). TakesTextLine b c.take_line.new.self now o) c.in_default-broken.is (c.in-Ok-take_line.ensures.takes b now left.holds lent) in
    let told = c.in-Ok.ensures.scan.told (c.in-Ok-take_line.ensures.clean c.in_default-broken.is) in (
      t.after,
      code_next c.args.text.now.bytes.now now l.line l.coder c.take_line.new.self b c.in-Some.behind c.in-Ok.after c.in-Ok.ensures.rest left t
          (omega (arith, c.in-Ok-take_line.ensures.used, ap length c.deref.ensures.value, line_room now (first_content c.in-Some.behind.now) c.lex_line.new.symbols.items refl told)),
    )

pub returns : goal.returns
returns c =
    let l = c.loop-left in
    let b = l.invariant.0 in
    let text = c.args.text.now.bytes.now in
    let taken = code_taken text l.line l.coder b (subst (λ o. CodeLeft text l.line l.coder b o) c.in_default.is l.invariant.1) in
    end_reads_code text (l.line - 1) l.coder taken c.ended.result (c.ended.ensures text taken)
