use Rattle.lzk_profile.specs.Profile.{opened_count}
use Rattle.std.proofs.Common.{refl, ℕ, ◌+◌, ◌*◌, ◌++◌, ◌≤◌, length, take, arith, sym, ap, ◌∙◌}
use Rattle.std.proofs.lemmas.List.{take_all}
use Rattle.lzk_layout.specs.Proofs.{flat, element_field, opened_fields}
use Rattle.lzk_layout.proofs.FileLaws.{file_parts, file_end}
use Rattle.lzk_layout.proofs.OneProof.{one_file}
use Rattle.lzk_layout.proofs.encoding.encode_proof.Goals as goal

pub returns-clause-file : goal.returns-clause-file
returns-clause-file g c =
    let field = element_field g.F.Field.coding.bytes g.F.Field.coding.number in
    let width = g.F.Field.coding.bytes in
    let p = c.args.params.now in
    let proof = c.args.proof.now in
    let lengths = c.requires.lengths in
    let head = c.put_head-end in
    let answers = c.put_answers-end in
    let opened = c.put_opened-end in
    let path = c.put_path in
    let digests = length proof.path.digests in
    let end = file_end width digests answers.result opened.result path.result (length c.as_slice.result.now) p proof lengths (ap length c.as_slice.ensures ∙ lengths.nonces)
    (answers.ensures.end ∙ ap (λ (n : ℕ). n + width * (length proof.messages + length proof.ldt + length proof.dot + length proof.quad_head + length proof.quad_tail)) head.ensures.end) opened.ensures.end path.ensures.end in
    let reach : length path.new.out ≤ path.result = omega (arith, end, c.requires.room, head.ensures.length, answers.ensures.length, opened.ensures.length, path.ensures.length) in
    let columns = opened.ensures.front
    ∙ ap (λ ns. take answers.result answers.new.out ++ flat (opened_fields field p.nrow ns c.as_slice-2.result.now)) c.as_slice.ensures
    ∙ ap (λ xs. take answers.result answers.new.out ++ flat (opened_fields field p.nrow proof.nonces xs)) c.as_slice-2.ensures in
    record {
      lengths = lengths;
      few = c.requires.few;
      id = head.ensures.id;
      root = head.ensures.root;
      nonces = rw (sym c.as_slice.ensures) opened.ensures.digests;
      path = path.ensures.digests;
      are = sym (take_all path.result path.new.out reach) ∙ file_parts field p.nrow proof (take head.result head.new.out) (take answers.result answers.new.out) (take opened.result opened.new.out) (take path.result path.new.out)
          head.ensures.front answers.ensures.front columns path.ensures.front;
    }

pub returns-clause-one_file : goal.returns-clause-one_file
returns-clause-one_file g c = one_file g.F.Field.coding.bytes g.F.Field.coding.number c.args.params.now

pub put_head-end-requires-after_bounds : goal.put_head-end-requires-after_bounds
put_head-end-requires-after_bounds g c κs within =
    let p = c.args.params.now in
    let q = c.args.proof.now in
    let has = c.requires.lengths in
    let whole = file_end g.F.Field.coding.bytes (length q.path.digests) _ _ _ opened_count p q has refl refl refl refl in
    omega (arith, whole, c.requires.room)

pub put_answers-end-requires-after_bounds : goal.put_answers-end-requires-after_bounds
put_answers-end-requires-after_bounds g c κs within =
    let p = c.args.params.now in
    let q = c.args.proof.now in
    let has = c.requires.lengths in
    let whole = file_end g.F.Field.coding.bytes (length q.path.digests) _ _ _ opened_count p q has refl refl refl refl in
    omega (arith, whole, c.requires.room, c.put_head-end.ensures.end, c.put_head-end.ensures.length)

pub put_opened-end-requires-clause-columns : goal.put_opened-end-requires-clause-columns
put_opened-end-requires-clause-columns g c κs within =
    let has = c.requires.lengths in
    ap length c.as_slice-2.ensures ∙ has.columns ∙ ap (λ (n : ℕ). n * c.args.params.now.nrow) (sym (ap length c.as_slice.ensures ∙ has.nonces))

pub put_opened-end-requires-clause-room : goal.put_opened-end-requires-clause-room
put_opened-end-requires-clause-room g c κs within =
    let p = c.args.params.now in
    let q = c.args.proof.now in
    let has = c.requires.lengths in
    let whole = file_end g.F.Field.coding.bytes (length q.path.digests) _ _ _ opened_count p q has refl refl refl refl in
    let columns = ap (λ (n : ℕ). n * (32 + g.F.Field.coding.bytes * p.nrow)) (ap length c.as_slice.ensures ∙ has.nonces) in
    omega (arith, whole, columns, c.requires.room, c.put_head-end.ensures.end, c.put_head-end.ensures.length, c.put_answers-end.ensures.end, c.put_answers-end.ensures.length)

pub put_path-requires-clause-few : goal.put_path-requires-clause-few
put_path-requires-clause-few g c κs within = c.requires.few

pub put_path-requires-clause-room : goal.put_path-requires-clause-room
put_path-requires-clause-room g c κs within =
    let p = c.args.params.now in
    let q = c.args.proof.now in
    let has = c.requires.lengths in
    let whole = file_end g.F.Field.coding.bytes (length q.path.digests) _ _ _ opened_count p q has refl refl refl refl in
    let columns = ap (λ (n : ℕ). n * (32 + g.F.Field.coding.bytes * p.nrow)) (ap length c.as_slice.ensures ∙ has.nonces) in
    omega (arith, whole, columns, c.requires.room, c.put_head-end.ensures.end, c.put_head-end.ensures.length, c.put_answers-end.ensures.end, c.put_answers-end.ensures.length, c.put_opened-end.ensures.end, c.put_opened-end.ensures.length)
