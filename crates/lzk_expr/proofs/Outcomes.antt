-- What follows where a call succeeds.
use Rattle.std.proofs.Common.{Result, Ok, Err, OnOk, IfOk}

pub on_ok : {T E P Q : Type 0} (r : Result T E) → (P → Q) → OnOk r P → OnOk r Q
on_ok (Ok x) f h = f h
on_ok (Err e) f h = h

pub on_any : {T E Q : Type 0} (r : Result T E) → Q → OnOk r Q
on_any (Ok x) q = q
on_any (Err e) q = tt

pub if_any : {T E : Type 0} {P : T → Type 0} (r : Result T E) → ((x : T) → P x) → IfOk r P
if_any (Ok x) f = f x
if_any (Err e) f = tt
