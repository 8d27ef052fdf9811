use Rattle.std.proofs.Common.{◌≡◌, ℕ, [], ◌∷◌, None, Some, Vec, Global, ap, refl, sym, ◌∙◌}
use Rattle.std.specs.Option.{option_map}
use Rattle.lzk_expr.specs.Texts.{runs, is_plain}
use Rattle.lzk_batch.specs.Lists.{listed, session_of, and_then}
use Rattle.lzk_batch.proofs.Listing.{not_utf8, from_words, no_session}
use Rattle.lzk_batch.proofs.list.read_line.Goals as goal

pub returns-in_default : goal.returns-in_default
returns-in_default c = not_utf8 c.args.line.now c.in_default.ensures.cases.0

pub returns-in_default-next_word : goal.returns-in_default-next_word
returns-in_default-next_word c = from_words c.args.line.now c.in-Ok.text.now [] None c.in-Ok.ensures.cases.0 c.in-Ok.ensures.cases.1 c.in_default-next_word.ensures refl

pub returns-in_default-next_word-2 : goal.returns-in_default-next_word-2
returns-in_default-next_word-2 c =
    let first = c.in-Some.circuit.now in
    from_words c.args.line.now c.in-Ok.text.now (first ∷ []) None c.in-Ok.ensures.cases.0 c.in-Ok.ensures.cases.1
    (c.in-Some.ensures.runs_are ∙ ap (λ ws. first ∷ ws) c.in_default-next_word-2.ensures) refl

pub returns-in_default-next_word-3 : goal.returns-in_default-next_word-3
returns-in_default-next_word-3 c =
    let first = c.in-Some.circuit.now in
    let second = c.in-Some-next_word.public.now in
    let behind = c.in-Some-next_word.ensures.runs_are ∙ ap (λ ws. second ∷ ws) c.in_default-next_word-3.ensures in
    from_words c.args.line.now c.in-Ok.text.now (first ∷ second ∷ []) None c.in-Ok.ensures.cases.0 c.in-Ok.ensures.cases.1
    (c.in-Some.ensures.runs_are ∙ ap (λ ws. first ∷ ws) behind) refl

pub returns-in_default-2 : goal.returns-in_default-2
returns-in_default-2 c =
    let first = c.in-Some.circuit.now in
    let second = c.in-Some-next_word.public.now in
    let third = c.in-Some-next_word-2.proof.now in
    let others = runs is_plain c.in-Some-next_word-2.others.now in
    let behind = c.in-Some-next_word.ensures.runs_are ∙ ap (λ ws. second ∷ ws) c.in-Some-next_word-2.ensures.runs_are in
    let none : session_of others ≡ None = no_session (λ (v : Vec ℕ Global). v.items) c.in_ok-session.field-0 (session_of others) c.in_ok-session.ensures c.in_default-2.not-Some in
    from_words c.args.line.now c.in-Ok.text.now (first ∷ second ∷ third ∷ others) None c.in-Ok.ensures.cases.0 c.in-Ok.ensures.cases.1
    (c.in-Some.ensures.runs_are ∙ ap (λ ws. first ∷ ws) behind) (ap (λ o. and_then o (λ session. Some (listed first second third session))) none)

pub returns : goal.returns
returns c =
    let first = c.in-Some.circuit.now in
    let second = c.in-Some-next_word.public.now in
    let third = c.in-Some-next_word-2.proof.now in
    let others = runs is_plain c.in-Some-next_word-2.others.now in
    let behind = c.in-Some-next_word.ensures.runs_are ∙ ap (λ ws. second ∷ ws) c.in-Some-next_word-2.ensures.runs_are in
    let some : session_of others ≡ Some c.in-Some-2.session.items = sym (ap (option_map (λ (v : Vec ℕ Global). v.items)) (sym c.in-Some-2.is) ∙ c.in_ok-session.ensures) in
    rw (c.in_ok-to_string.ensures.ok, c.in_ok-to_string-2.ensures.ok, c.in_ok-to_string-3.ensures.ok)
    (from_words c.args.line.now c.in-Ok.text.now (first ∷ second ∷ third ∷ others) (Some (listed first second third c.in-Some-2.session.items)) c.in-Ok.ensures.cases.0 c.in-Ok.ensures.cases.1
    (c.in-Some.ensures.runs_are ∙ ap (λ ws. first ∷ ws) behind) (ap (λ o. and_then o (λ session. Some (listed first second third session))) some))
