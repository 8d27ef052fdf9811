use Rattle.std.proofs.Common.{◌+◌, sym, subst, ◌∙◌, refl, Result, Ok, Err, OnOk, IfOk}
use Rattle.lzk_expr.specs.declared.coder.Input.{Input}
use Rattle.lzk_expr.specs.Coders.{IsCoder, with_statement}
use Rattle.lzk_expr.specs.Readers.{input_statement}
use Rattle.lzk_expr.proofs.CodeTaken.{unknown_name, public_coded, private_coded}
use Rattle.lzk_expr.proofs.Outcomes.{on_any}
use Rattle.lzk_expr.proofs.coder.Coder.declare_input.Goals as goal

if_both : {T E Q : Type 0} {P R : T → Type 0} (r : Result T E) → ((x : T) → P x → Q → R x) → IfOk r P → OnOk r Q → IfOk r R
if_both (Ok x) f p q = f x p q
if_both (Err e) f p q = q

pub returns-in-Public : goal.returns-in-Public
returns-in-Public c =
    let w = c.args.name.now in
    let old = c.args.self.now in
    let r = c.declare.result in
    record {
      known = c.declare.ensures.known;
      declares = if_both r (λ known is declares b h none.
          subst (λ (i : Input). IsCoder (record old { names = c.declare.new.self; publics = old.publics + 1 }) (with_statement b (input_statement i w))) (sym c.in-Public.is)
          (public_coded old c.declare.new.self b w h (unknown_name old b h w (sym is ∙ none)) declares)) c.declare.ensures.known c.declare.ensures.declares;
      count = rw c.in-Public.is (on_any r refl);
      used = on_any r refl;
    }

pub returns-in-Private : goal.returns-in-Private
returns-in-Private c =
    let w = c.args.name.now in
    let old = c.args.self.now in
    let r = c.declare-in-Private.result in
    record {
      known = c.declare-in-Private.ensures.known;
      declares = if_both r (λ known is declares b h none.
          subst (λ (i : Input). IsCoder (record old { names = c.declare-in-Private.new.self; privates = old.privates + 1 }) (with_statement b (input_statement i w))) (sym c.in-Private.is)
          (private_coded old c.declare-in-Private.new.self b w h (unknown_name old b h w (sym is ∙ none)) declares)) c.declare-in-Private.ensures.known c.declare-in-Private.ensures.declares;
      count = rw c.in-Private.is (on_any r refl);
      used = on_any r refl;
    }
