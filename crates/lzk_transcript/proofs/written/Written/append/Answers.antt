use Rattle.std.proofs.Common.{◌∙◌, ◌++◌, ◌∷◌, [], ap, sym, map, take, slice_index_or}
use Rattle.std.proofs.lemmas.List.{map-append, take_more, take_all, append_assoc}
use Rattle.lzk_transcript.proofs.written.Written.append.Goals as goal

pub loop-byte-preserved : goal.loop-byte-preserved
loop-byte-preserved c =
    let bytes = c.args.bytes.now in
    let i = c.loop-byte.byte-index in
    ap (map (λ entry. entry.0)) c.and-self-inside.ensures
    ∙ map-append (λ entry. entry.0) c.loop-byte.self-inside.log.items _
    ∙ ap (λ xs. xs ++ slice_index_or bytes i 0 ∷ []) c.loop-byte.invariant
    ∙ append_assoc c.args.self.now (take i bytes) _
    ∙ ap (λ xs. c.args.self.now ++ xs) (sym (take_more bytes i 0 c.loop-byte-test.true))

pub returns : goal.returns
returns c = c.loop-byte.invariant ∙ ap (λ xs. c.args.self.now ++ xs) (take_all c.loop-byte.byte-index c.args.bytes.now c.loop-byte-test.false)
