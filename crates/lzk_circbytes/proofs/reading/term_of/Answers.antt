use Rattle.std.proofs.Common.{get_or, ◌∙◌, ℕ, map, ap, sym, subst, arith}
use Rattle.std.specs.Option.{option_map}
use Rattle.std.proofs.lemmas.Result.{err_from_is_err_and}
use Rattle.std.proofs.lemmas.List.{length-map}
use Rattle.lzk_circbytes.specs.Numbered.{numbered_term}
use Rattle.lzk_circbytes.specs.Reading.{step_at}
use Rattle.lzk_circbytes.specs.Answers.{Fails}
use Rattle.lzk_circbytes.proofs.ReadSteps.{not_if_ok, number_at, g_fails, a_fails, b_fails, not_behind, k_fails, not_apart, term_read}
use Rattle.lzk_circbytes.proofs.reading.term_of.Goals as goal

pub returns-in_err-g-clause-value : goal.returns-in_err-g-clause-value
returns-in_err-g-clause-value g c =
    let number = g.F.Field.coding.number in
    let coefs = map number c.args.coefs.now.list.now in
    let before = option_map (numbered_term number) c.args.before.now in
    let bytes = c.args.bytes.now in
    let p = err_from_is_err_and c.from_residual.result c.from_residual.ensures.1 in
    let e = c.in_err-g.field-0.0 in
    rw (p.1, p.2) (g_fails coefs c.args.wires c.args.below before bytes e (subst (λ (n : ℕ). Fails e (step_at n c.args.wires bytes)) c.wire_before.ensures c.in_err-g.ensures.value))

pub returns-in_err-g-clause-bound : goal.returns-in_err-g-clause-bound
returns-in_err-g-clause-bound g c = not_if_ok _ c.from_residual.result _ c.from_residual.ensures.1

pub returns-in_err-g-clause-constant : goal.returns-in_err-g-clause-constant
returns-in_err-g-clause-constant g c = not_if_ok _ c.from_residual.result _ c.from_residual.ensures.1

pub returns-in_err-a-clause-value : goal.returns-in_err-a-clause-value
returns-in_err-a-clause-value g c =
    let number = g.F.Field.coding.number in
    let coefs = map number c.args.coefs.now.list.now in
    let before = option_map (numbered_term number) c.args.before.now in
    let bytes = c.args.bytes.now in
    let p = err_from_is_err_and c.from_residual-in_err-a.result c.from_residual-in_err-a.ensures.1 in
    let e = c.in_err-a.field-0.0 in
    rw (p.1, p.2) (a_fails coefs c.args.wires c.args.below before bytes c.in_ok-g.g c.in_ok-g.at_a.now (ap (λ (n : ℕ). step_at n c.args.wires bytes) (sym c.wire_before.ensures) ∙ c.in_ok-g.ensures.value) e c.in_err-a.ensures.value)

pub returns-in_err-a-clause-bound : goal.returns-in_err-a-clause-bound
returns-in_err-a-clause-bound g c = not_if_ok _ c.from_residual-in_err-a.result _ c.from_residual-in_err-a.ensures.1

pub returns-in_err-a-clause-constant : goal.returns-in_err-a-clause-constant
returns-in_err-a-clause-constant g c = not_if_ok _ c.from_residual-in_err-a.result _ c.from_residual-in_err-a.ensures.1

pub returns-in_err-b-clause-value : goal.returns-in_err-b-clause-value
returns-in_err-b-clause-value g c =
    let number = g.F.Field.coding.number in
    let coefs = map number c.args.coefs.now.list.now in
    let before = option_map (numbered_term number) c.args.before.now in
    let bytes = c.args.bytes.now in
    let p = err_from_is_err_and c.from_residual-in_err-b.result c.from_residual-in_err-b.ensures.1 in
    let e = c.in_err-b.field-0.0 in
    rw (p.1, p.2) (b_fails coefs c.args.wires c.args.below before bytes c.in_ok-g.g c.in_ok-g.at_a.now (ap (λ (n : ℕ). step_at n c.args.wires bytes) (sym c.wire_before.ensures) ∙ c.in_ok-g.ensures.value) c.in_ok-a.a c.in_ok-a.at_b.now c.in_ok-a.ensures.value e c.in_err-b.ensures.value)

pub returns-in_err-b-clause-bound : goal.returns-in_err-b-clause-bound
returns-in_err-b-clause-bound g c = not_if_ok _ c.from_residual-in_err-b.result _ c.from_residual-in_err-b.ensures.1

pub returns-in_err-b-clause-constant : goal.returns-in_err-b-clause-constant
returns-in_err-b-clause-constant g c = not_if_ok _ c.from_residual-in_err-b.result _ c.from_residual-in_err-b.ensures.1

pub returns-then-not-is_behind-clause-value : goal.returns-then-not-is_behind-clause-value
returns-then-not-is_behind-clause-value g c =
    let number = g.F.Field.coding.number in
    let coefs = map number c.args.coefs.now.list.now in
    let before = option_map (numbered_term number) c.args.before.now in
    let bytes = c.args.bytes.now in
    rw c.stop.ensures (not_behind coefs c.args.wires c.args.below before bytes c.in_ok-g.g c.in_ok-g.at_a.now (ap (λ (n : ℕ). step_at n c.args.wires bytes) (sym c.wire_before.ensures) ∙ c.in_ok-g.ensures.value) c.in_ok-a.a c.in_ok-a.at_b.now c.in_ok-a.ensures.value c.in_ok-b.b c.in_ok-b.at_coef.now c.in_ok-b.ensures.value (sym c.is_behind.ensures ∙ c.if-not-is_behind.true))

pub returns-in_err-k-clause-value : goal.returns-in_err-k-clause-value
returns-in_err-k-clause-value g c =
    let number = g.F.Field.coding.number in
    let coefs = map number c.args.coefs.now.list.now in
    let before = option_map (numbered_term number) c.args.before.now in
    let bytes = c.args.bytes.now in
    let p = err_from_is_err_and c.from_residual-in_err-k.result c.from_residual-in_err-k.ensures.1 in
    let e = c.in_err-k.field-0.0 in
    rw (p.1, p.2) (k_fails coefs c.args.wires c.args.below before bytes c.in_ok-g.g c.in_ok-g.at_a.now (ap (λ (n : ℕ). step_at n c.args.wires bytes) (sym c.wire_before.ensures) ∙ c.in_ok-g.ensures.value) c.in_ok-a.a c.in_ok-a.at_b.now c.in_ok-a.ensures.value c.in_ok-b.b c.in_ok-b.at_coef.now c.in_ok-b.ensures.value (sym c.is_behind.ensures ∙ c.if-not-is_behind.false) e (subst (λ (n : ℕ). Fails e (step_at 0 n c.in_ok-b.at_coef.now)) (sym (length-map c.args.coefs.now.list.now number)) c.in_err-k.ensures.value))

pub returns-in_err-k-clause-bound : goal.returns-in_err-k-clause-bound
returns-in_err-k-clause-bound g c = not_if_ok _ c.from_residual-in_err-k.result _ c.from_residual-in_err-k.ensures.1

pub returns-in_err-k-clause-constant : goal.returns-in_err-k-clause-constant
returns-in_err-k-clause-constant g c = not_if_ok _ c.from_residual-in_err-k.result _ c.from_residual-in_err-k.ensures.1

pub bounds-coefs-k : goal.bounds-coefs-k
bounds-coefs-k g c = omega (arith, c.in_ok-k.ensures.bound)

pub returns-then-not-is_apart-clause-value : goal.returns-then-not-is_apart-clause-value
returns-then-not-is_apart-clause-value g c =
    let number = g.F.Field.coding.number in
    let coefs = map number c.args.coefs.now.list.now in
    let before = option_map (numbered_term number) c.args.before.now in
    let bytes = c.args.bytes.now in
    rw c.stop-then-not-is_apart.ensures (not_apart coefs c.args.wires c.args.below before bytes c.in_ok-g.g c.in_ok-g.at_a.now (ap (λ (n : ℕ). step_at n c.args.wires bytes) (sym c.wire_before.ensures) ∙ c.in_ok-g.ensures.value) c.in_ok-a.a c.in_ok-a.at_b.now c.in_ok-a.ensures.value c.in_ok-b.b c.in_ok-b.at_coef.now c.in_ok-b.ensures.value (sym c.is_behind.ensures ∙ c.if-not-is_behind.false) c.in_ok-k.k c.in_ok-k.rest.now (ap (λ (n : ℕ). step_at 0 n c.in_ok-b.at_coef.now) (length-map c.args.coefs.now.list.now number) ∙ c.in_ok-k.ensures.value) (number (get_or c.args.coefs.now.list.now c.in_ok-k.k c.index-coefs-k.result)) (number_at number c.args.coefs.now.list.now c.in_ok-k.k c.index-coefs-k.result c.in_ok-k.ensures.bound) (sym c.is_apart.ensures ∙ c.if-not-is_apart.true))

pub returns-clause-value : goal.returns-clause-value
returns-clause-value g c =
    let number = g.F.Field.coding.number in
    let coefs = map number c.args.coefs.now.list.now in
    let before = option_map (numbered_term number) c.args.before.now in
    let bytes = c.args.bytes.now in
    term_read coefs c.args.wires c.args.below before bytes c.in_ok-g.g c.in_ok-g.at_a.now (ap (λ (n : ℕ). step_at n c.args.wires bytes) (sym c.wire_before.ensures) ∙ c.in_ok-g.ensures.value) c.in_ok-a.a c.in_ok-a.at_b.now c.in_ok-a.ensures.value c.in_ok-b.b c.in_ok-b.at_coef.now c.in_ok-b.ensures.value (sym c.is_behind.ensures ∙ c.if-not-is_behind.false) c.in_ok-k.k c.in_ok-k.rest.now (ap (λ (n : ℕ). step_at 0 n c.in_ok-b.at_coef.now) (length-map c.args.coefs.now.list.now number) ∙ c.in_ok-k.ensures.value) (number (get_or c.args.coefs.now.list.now c.in_ok-k.k c.index-coefs-k.result)) (number_at number c.args.coefs.now.list.now c.in_ok-k.k c.index-coefs-k.result c.in_ok-k.ensures.bound) (sym c.is_apart.ensures ∙ c.if-not-is_apart.false)

pub returns-clause-bound : goal.returns-clause-bound
returns-clause-bound g c = c.in_ok-k.ensures.bound

pub returns-clause-constant : goal.returns-clause-constant
returns-clause-constant g c = number_at g.F.Field.coding.number c.args.coefs.now.list.now c.in_ok-k.k c.index-coefs-k.result c.in_ok-k.ensures.bound
