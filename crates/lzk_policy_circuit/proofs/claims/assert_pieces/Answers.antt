use Rattle.std.proofs.Common.{drop}
use Rattle.lzk_policy_circuit.specs.Met.{IsPiece, IsSpelledBy}
use Rattle.lzk_policy_circuit.proofs.Adding.{adds_as, adds_five, pieces_told}
use Rattle.lzk_policy_circuit.proofs.claims.assert_pieces.Goals as goal

pub returns : goal.returns
returns c =
    let f = c.args.field.now in
    let i = c.args.i in
    let s = c.args.s.now in
    let t = c.assert_piece.new.s in
    let u = c.assert_piece-2.new.s in
    let v = c.assert_piece-3.new.s in
    let w = c.assert_piece-4.new.s in
    let x = c.assert_piece-5.new.s in
    adds_as 360 5 s x
    (λ p q. (((IsPiece q f (drop i p) 0 × IsPiece q f (drop i p) 1) × IsPiece q f (drop i p) 2) × IsPiece q f (drop i p) 3) × IsPiece q f (drop i p) 4)
    (λ p q. IsSpelledBy q f (drop i p))
    (adds_five 72 1 s t u v w x (λ p q. IsPiece q f (drop i p) 0) (λ p q. IsPiece q f (drop i p) 1) (λ p q. IsPiece q f (drop i p) 2) (λ p q. IsPiece q f (drop i p) 3) (λ p q. IsPiece q f (drop i p) 4)
    c.in_ok-assert_piece.ensures c.in_ok-assert_piece-2.ensures c.in_ok-assert_piece-3.ensures c.in_ok-assert_piece-4.ensures c.in_ok-assert_piece-5.ensures)
    (λ p q a. pieces_told q (drop i p) f)
