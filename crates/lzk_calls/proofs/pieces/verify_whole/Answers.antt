use Rattle.std.proofs.Common.{subst}
use Rattle.std.proofs.lemmas.List.{append-nil}
use Rattle.lzk_calls.specs.Verified.{Says}
use Rattle.lzk_calls.proofs.pieces.verify_whole.Goals as goal

pub returns : goal.returns
returns c =
    let a = c.args in
    subst (λ proof. Says a.circuit.now a.public.now a.session.now proof c.verify_pieces.result) (append-nil a.proof.now)
    c.verify_pieces.ensures
