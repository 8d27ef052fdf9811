use Rattle.std.proofs.Common.{ℕ, List, Err, inr, subst}
use Rattle.std.specs.Prelude.{string_bytes}
use Rattle.lzk_policy_calls.specs.Room.{Puts}
use Rattle.lzk_policy_calls.proofs.numbering.inputs.Goals as goal

pub returns-in-Ok : goal.returns-in-Ok
returns-in-Ok c =
    let puts = subst (λ (bs : List ℕ). Puts bs c.args.room.now c.put.new.room (Err c.in-Err-put.refusal)) c.as_bytes.ensures.value c.in-Err-put.ensures in
    inr (string_bytes c.in-Ok.texts.both, c.in-Ok.texts.public, c.in-Ok.ensures.texts, puts)
