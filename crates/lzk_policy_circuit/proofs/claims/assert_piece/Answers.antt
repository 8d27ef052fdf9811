use Rattle.std.proofs.Common.{◌+◌, ◌*◌, ap}
use Rattle.lzk_policy_circuit.proofs.Adding.{piece_added}
use Rattle.lzk_policy_circuit.proofs.Answering.{ok_map}
use Rattle.lzk_policy_circuit.proofs.claims.assert_piece.Goals as goal

pub returns : goal.returns
returns c =
    let f = c.args.field.now in
    ok_map c.assert_number.result _ _ c.assert_number.ensures (λ x d.
    piece_added c.args.s.now c.assert_number.new.s f c.args.i c.args.k (8 * (f.place + c.piece_start-start.result)) c.piece_size-size.result
    (ap (λ n. 8 * (f.place + n)) c.piece_start-start.ensures.start) c.piece_size-size.ensures.size c.piece_size-size.ensures.few d)
