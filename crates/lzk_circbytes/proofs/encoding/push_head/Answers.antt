use Rattle.lzk_profile.specs.Profile.{file_letter}
use Rattle.std.proofs.Common.{◌≡◌, ◌+◌, ◌++◌, ◌∷◌, [], ◌∙◌, ap, sym, ℕ, length}
use Rattle.std.specs.Int.{w32, to_le_bytes}
use Rattle.std.proofs.lemmas.List.{length-map}
use Rattle.std.proofs.lemmas.Result.{on_ok_weaker}
use Rattle.lzk_circbytes.specs.Numbered.{Shape, shape, numbered, numbered_layer}
use Rattle.lzk_circbytes.proofs.OneFile.{head_assembled}
use Rattle.lzk_circbytes.proofs.encoding.push_head.Goals as goal

pub returns : goal.returns
returns g c =
    let F = g.F.Field in
    let circuit = c.args.circuit.now in
    let s : Shape = shape F.coding.id F.coding.bytes F.coding.size in
    let w = numbered F.coding.number circuit in
    let out = c.args.out.now.items in
    let depth : c.depth.result ≡ length w.layers = c.depth.ensures.depth ∙ sym (length-map circuit.layers (numbered_layer F.coding.number)) in
    on_ok_weaker c.push_constants.result
    (head_assembled s w c.args.constants.now out c.extend_from_slice.new.self.items c.push_word.new.out.items c.push_word-2.new.out.items c.push_word-3.new.out.items c.push_word-4.new.out.items c.push_constants.new.out.items
    (c.in_ok-extend_from_slice.ensures.items ∙ ap (λ (n : ℕ). out ++ 76 ∷ file_letter ∷ 67 ∷ (48 + n) ∷ c.ID.result ∷ []) c.version.ensures.version
    ∙ ap (λ (n : ℕ). out ++ 76 ∷ file_letter ∷ 67 ∷ (48 + w.version) ∷ n ∷ []) (c.ID.ensures ∙ g.F.Field.coded_id))
    (c.in_ok-push_word.ensures ∙ ap (λ (n : ℕ). c.extend_from_slice.new.self.items ++ to_le_bytes w32 n) c.publics.ensures)
    (c.in_ok-push_word-2.ensures ∙ ap (λ (n : ℕ). c.push_word.new.out.items ++ to_le_bytes w32 n) c.privates.ensures)
    (c.in_ok-push_word-3.ensures ∙ ap (λ (n : ℕ). c.push_word-2.new.out.items ++ to_le_bytes w32 n) depth)
    c.in_ok-push_word-4.ensures)
    c.push_constants.ensures
