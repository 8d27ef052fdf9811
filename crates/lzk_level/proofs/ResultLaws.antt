-- Results of calls that may fail.
use Rattle.std.specs.Prelude.{◌≡◌, Result, Ok, Err, IfOk, OnOk, OnErr, if◌then◌else◌}
use Rattle.std.proofs.Common.{sym, subst}
use Rattle.std.specs.Result.{result_and, is_ok}

-- a call's result, in whose place another one stands where it went well
pub and-ok : {T U E : Type 0} (r : Result T E) (s : Result U E) (x : U) (P : U → Type 0) → s ≡ result_and r (Ok x) → OnOk r (P x) → IfOk s P
and-ok (Ok y) s x P e h = subst (λ t. IfOk t P) (sym e) h
and-ok (Err y) s x P e h = subst (λ t. IfOk t P) (sym e) tt

pub and-err : {T U E : Type 0} (r : Result T E) (s : Result U E) (x : U) (P : Type 0) → s ≡ result_and r (Ok x) → OnErr r P → OnErr s P
and-err (Ok y) s x P e h = subst (λ t. OnErr t P) (sym e) tt
and-err (Err y) s x P e h = subst (λ t. OnErr t P) (sym e) h

pub on-ok : {T E P : Type 0} (r : Result T E) → P → OnOk r P
on-ok (Ok x) p = p
on-ok (Err e) p = tt

-- what is one thing where a call went well, and else another
pub ok-first : {T E X : Type 0} (r : Result T E) (x a b : X) → x ≡ (if is_ok r then a else b) → OnOk r (x ≡ a)
ok-first (Ok y) x a b e = e
ok-first (Err y) x a b e = tt

pub err-second : {T E X : Type 0} (r : Result T E) (x a b : X) → x ≡ (if is_ok r then a else b) → OnErr r (x ≡ b)
err-second (Ok y) x a b e = tt
err-second (Err y) x a b e = e
