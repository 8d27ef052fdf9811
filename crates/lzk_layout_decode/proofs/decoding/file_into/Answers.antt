use Rattle.lzk_profile.specs.Profile.{file_letter}
use Rattle.std.proofs.Common.{refl, ◌*◌, ℕ, List, ◌≡◌, ◌∷◌, [], length, Ok, Result, ap, sym, ◌∙◌}
use Rattle.std.specs.Int.{w32, to_le_bytes}
use Rattle.std.proofs.lemmas.Result.{err_from_is_err_and}
use Rattle.lzk_layout.specs.declared.proof.Proof.{Proof}
use Rattle.lzk_layout.specs.declared.fault.Stop.{Stop}
use Rattle.lzk_layout.specs.Proofs.{element_field, opened_fields}
use Rattle.lzk_layout.specs.Answers.{answer_fields}
use Rattle.lzk_layout.specs.Fields.{shape, opened_sorts, fields_at}
use Rattle.lzk_layout_decode.proofs.AnswerLaws.{same_lengths}
use Rattle.lzk_layout.proofs.WholeFiles.{head_sorts, head_stops, answers_stop, opened_stop, path_stops_file, bytes_left, all_read, fields_are}
use Rattle.lzk_layout_decode.proofs.decoding.file_into.Goals as goal

pub returns-in_err-rest-clause-read : goal.returns-in_err-rest-clause-read
returns-in_err-rest-clause-read g c =
    let s = shape g.F.Field.coding.bytes g.F.Field.coding.size in
    let field = element_field g.F.Field.coding.bytes g.F.Field.coding.number in
    let p = c.args.params.now in
    let bytes = c.args.bytes.now in
    let e = err_from_is_err_and c.from_residual.result c.from_residual.ensures.1 in
    let d = c.in_err-rest.field-0.0 in
    rw (e.1, e.2) (head_stops s p c.args.proof.now c.requires.lengths bytes d (c.in_err-rest.ensures.read s))

pub returns-in_err-rest-2-clause-read : goal.returns-in_err-rest-2-clause-read
returns-in_err-rest-2-clause-read g c =
    let s = shape g.F.Field.coding.bytes g.F.Field.coding.size in
    let field = element_field g.F.Field.coding.bytes g.F.Field.coding.number in
    let p = c.args.params.now in
    let bytes = c.args.bytes.now in
    let e = err_from_is_err_and c.from_residual-in_err-rest-2.result c.from_residual-in_err-rest-2.ensures.1 in
    let d = c.in_err-rest-2.field-0.0 in
    let q = record c.args.proof.now { id = c.head_into.new.id; root = c.head_into.new.root } in
    let lengths = same_lengths p c.args.proof.now q c.requires.lengths refl refl refl refl refl refl refl in
    let head = (76 ∷ file_letter ∷ 80 ∷ 49 ∷ []) ∷ q.id ∷ q.root ∷ [] in
    rw (e.1, e.2) (answers_stop s p q lengths bytes head c.in_ok-rest.rest.now (c.in_ok-rest.ensures.read s) d c.in_err-rest-2.ensures.read)

pub returns-in_err-rest-3-clause-read : goal.returns-in_err-rest-3-clause-read
returns-in_err-rest-3-clause-read g c =
    let s = shape g.F.Field.coding.bytes g.F.Field.coding.size in
    let field = element_field g.F.Field.coding.bytes g.F.Field.coding.number in
    let p = c.args.params.now in
    let bytes = c.args.bytes.now in
    let e = err_from_is_err_and c.from_residual-in_err-rest-3.result c.from_residual-in_err-rest-3.ensures.1 in
    let d = c.in_err-rest-3.field-0.0 in
    let q = record c.args.proof.now { id = c.head_into.new.id; root = c.head_into.new.root } in
    let lengths = same_lengths p c.args.proof.now q c.requires.lengths refl refl refl refl refl refl refl in
    let head = (76 ∷ file_letter ∷ 80 ∷ 49 ∷ []) ∷ q.id ∷ q.root ∷ [] in
    let answered = c.answers_into.new.proof in
    let answers = answer_fields field answered in
    let count : length answered.nonces ≡ length q.nonces = ap (λ (r : Proof g.row.F.Denot). length r.nonces) c.answers_into.ensures.others in
    rw (e.1, e.2) (opened_stop s p q lengths bytes head c.in_ok-rest.rest.now (c.in_ok-rest.ensures.read s) answers c.in_ok-rest-2.rest.now c.in_ok-rest-2.ensures.read d
    (ap (λ (n : ℕ). fields_at s (opened_sorts p.nrow n) c.in_ok-rest-2.rest.now) (sym count) ∙ c.in_err-rest-3.ensures.read))

pub returns-in_err-rest-4-clause-read : goal.returns-in_err-rest-4-clause-read
returns-in_err-rest-4-clause-read g c =
    let s = shape g.F.Field.coding.bytes g.F.Field.coding.size in
    let field = element_field g.F.Field.coding.bytes g.F.Field.coding.number in
    let p = c.args.params.now in
    let bytes = c.args.bytes.now in
    let e = err_from_is_err_and c.from_residual-in_err-rest-4.result c.from_residual-in_err-rest-4.ensures.1 in
    let d = c.in_err-rest-4.field-0.0 in
    let q = record c.args.proof.now { id = c.head_into.new.id; root = c.head_into.new.root } in
    let lengths = same_lengths p c.args.proof.now q c.requires.lengths refl refl refl refl refl refl refl in
    let head = (76 ∷ file_letter ∷ 80 ∷ 49 ∷ []) ∷ q.id ∷ q.root ∷ [] in
    let answered = c.answers_into.new.proof in
    let answers = answer_fields field answered in
    let count : length answered.nonces ≡ length q.nonces = ap (λ (r : Proof g.row.F.Denot). length r.nonces) c.answers_into.ensures.others in
    let opened = opened_fields field p.nrow c.columns_into.new.nonces c.columns_into.new.columns in
    let opened_read : fields_at s (opened_sorts p.nrow (length q.nonces)) c.in_ok-rest-2.rest.now ≡ Ok (opened, c.in_ok-rest-3.rest.now) =
    ap (λ (n : ℕ). fields_at s (opened_sorts p.nrow n) c.in_ok-rest-2.rest.now) (sym count) ∙ c.in_ok-rest-3.ensures.read in
    rw (e.1, e.2) (path_stops_file s p q lengths bytes head c.in_ok-rest.rest.now (c.in_ok-rest.ensures.read s) answers c.in_ok-rest-2.rest.now c.in_ok-rest-2.ensures.read opened c.in_ok-rest-3.rest.now opened_read d (c.in_err-rest-4.ensures.read s))

pub returns-then-not-is_empty-clause-read : goal.returns-then-not-is_empty-clause-read
returns-then-not-is_empty-clause-read g c =
    let s = shape g.F.Field.coding.bytes g.F.Field.coding.size in
    let field = element_field g.F.Field.coding.bytes g.F.Field.coding.number in
    let p = c.args.params.now in
    let bytes = c.args.bytes.now in
    let q = record c.args.proof.now { id = c.head_into.new.id; root = c.head_into.new.root } in
    let lengths = same_lengths p c.args.proof.now q c.requires.lengths refl refl refl refl refl refl refl in
    let head = (76 ∷ file_letter ∷ 80 ∷ 49 ∷ []) ∷ q.id ∷ q.root ∷ [] in
    let answered = c.answers_into.new.proof in
    let answers = answer_fields field answered in
    let count : length answered.nonces ≡ length q.nonces = ap (λ (r : Proof g.row.F.Denot). length r.nonces) c.answers_into.ensures.others in
    let opened = opened_fields field p.nrow c.columns_into.new.nonces c.columns_into.new.columns in
    let opened_read : fields_at s (opened_sorts p.nrow (length q.nonces)) c.in_ok-rest-2.rest.now ≡ Ok (opened, c.in_ok-rest-3.rest.now) =
    ap (λ (n : ℕ). fields_at s (opened_sorts p.nrow n) c.in_ok-rest-2.rest.now) (sym count) ∙ c.in_ok-rest-3.ensures.read in
    let path = to_le_bytes w32 (length c.path_into.new.path.digests) ∷ c.path_into.new.path.digests in
    rw (c.stop.ensures) (bytes_left s p q lengths bytes head c.in_ok-rest.rest.now (c.in_ok-rest.ensures.read s) answers c.in_ok-rest-2.rest.now c.in_ok-rest-2.ensures.read opened c.in_ok-rest-3.rest.now opened_read path c.in_ok-rest-4.rest.now (c.in_ok-rest-4.ensures.read s) (sym c.is_empty.ensures ∙ c.if-not-is_empty.true))

pub returns-clause-read : goal.returns-clause-read
returns-clause-read g c =
    let s = shape g.F.Field.coding.bytes g.F.Field.coding.size in
    let field = element_field g.F.Field.coding.bytes g.F.Field.coding.number in
    let p = c.args.params.now in
    let bytes = c.args.bytes.now in
    let q = record c.args.proof.now { id = c.head_into.new.id; root = c.head_into.new.root } in
    let lengths = same_lengths p c.args.proof.now q c.requires.lengths refl refl refl refl refl refl refl in
    let answered = c.answers_into.new.proof in
    let answers = answer_fields field answered in
    let head = (76 ∷ file_letter ∷ 80 ∷ 49 ∷ []) ∷ answered.id ∷ answered.root ∷ [] in
    let head_of = λ (r : Proof g.row.F.Denot). let x : Result (List (List ℕ) × List ℕ) Stop = Ok ((76 ∷ file_letter ∷ 80 ∷ 49 ∷ []) ∷ r.id ∷ r.root ∷ [], c.in_ok-rest.rest.now) in x in
    let head_read : fields_at s head_sorts bytes ≡ Ok (head, c.in_ok-rest.rest.now) = c.in_ok-rest.ensures.read s ∙ sym (ap head_of c.answers_into.ensures.others) in
    let count : length answered.nonces ≡ length q.nonces = ap (λ (r : Proof g.row.F.Denot). length r.nonces) c.answers_into.ensures.others in
    let opened = opened_fields field p.nrow c.columns_into.new.nonces c.columns_into.new.columns in
    let opened_read : fields_at s (opened_sorts p.nrow (length q.nonces)) c.in_ok-rest-2.rest.now ≡ Ok (opened, c.in_ok-rest-3.rest.now) =
    ap (λ (n : ℕ). fields_at s (opened_sorts p.nrow n) c.in_ok-rest-2.rest.now) (sym count) ∙ c.in_ok-rest-3.ensures.read in
    let path = to_le_bytes w32 (length c.path_into.new.path.digests) ∷ c.path_into.new.path.digests in
    let whole = record answered { nonces = c.columns_into.new.nonces; columns = c.columns_into.new.columns; path = c.path_into.new.path } in
    all_read s p q lengths bytes head c.in_ok-rest.rest.now head_read answers c.in_ok-rest-2.rest.now c.in_ok-rest-2.ensures.read opened c.in_ok-rest-3.rest.now opened_read path c.in_ok-rest-4.rest.now (c.in_ok-rest-4.ensures.read s)
    (sym c.is_empty.ensures ∙ c.if-not-is_empty.false)
    ∙ ap (λ (fs : List (List ℕ)). let r : Result (List (List ℕ)) Stop = Ok fs in r) (fields_are field p.nrow whole)

pub returns-in_err-rest-clause-lengths : goal.returns-in_err-rest-clause-lengths
returns-in_err-rest-clause-lengths g c = same_lengths c.args.params.now c.args.proof.now _ c.requires.lengths refl refl refl refl refl refl refl

pub returns-in_err-rest-clause-room : goal.returns-in_err-rest-clause-room
returns-in_err-rest-clause-room g c = refl

pub returns-in_err-rest-2-clause-lengths : goal.returns-in_err-rest-2-clause-lengths
returns-in_err-rest-2-clause-lengths g c = c.answers_into.ensures.lengths c.args.params.now (same_lengths c.args.params.now c.args.proof.now _ c.requires.lengths refl refl refl refl refl refl refl)

pub returns-in_err-rest-2-clause-room : goal.returns-in_err-rest-2-clause-room
returns-in_err-rest-2-clause-room g c = ap (λ (r : Proof g.row.F.Denot). r.path.room) c.answers_into.ensures.others

pub columns_into-requires-after_bounds : goal.columns_into-requires-after_bounds
columns_into-requires-after_bounds g c κs within =
    let has = c.answers_into.ensures.lengths c.args.params.now (same_lengths c.args.params.now c.args.proof.now _ c.requires.lengths refl refl refl refl refl refl refl) in
    has.columns ∙ ap (λ (n : ℕ). n * c.args.params.now.nrow) (sym has.nonces)

pub path_into-requires : goal.path_into-requires
path_into-requires g c = rw (ap (λ (r : Proof g.row.F.Denot). r.path.room) c.answers_into.ensures.others) c.requires.room

pub returns-in_err-rest-3-clause-lengths : goal.returns-in_err-rest-3-clause-lengths
returns-in_err-rest-3-clause-lengths g c = same_lengths c.args.params.now c.answers_into.new.proof _ (c.answers_into.ensures.lengths c.args.params.now (same_lengths c.args.params.now c.args.proof.now _ c.requires.lengths refl refl refl refl refl refl refl)) refl refl refl refl refl c.columns_into.ensures.nonces c.columns_into.ensures.columns

pub returns-in_err-rest-4-clause-lengths : goal.returns-in_err-rest-4-clause-lengths
returns-in_err-rest-4-clause-lengths g c = same_lengths c.args.params.now c.answers_into.new.proof _ (c.answers_into.ensures.lengths c.args.params.now (same_lengths c.args.params.now c.args.proof.now _ c.requires.lengths refl refl refl refl refl refl refl)) refl refl refl refl refl c.columns_into.ensures.nonces c.columns_into.ensures.columns

pub returns-then-not-is_empty-clause-lengths : goal.returns-then-not-is_empty-clause-lengths
returns-then-not-is_empty-clause-lengths g c = same_lengths c.args.params.now c.answers_into.new.proof _ (c.answers_into.ensures.lengths c.args.params.now (same_lengths c.args.params.now c.args.proof.now _ c.requires.lengths refl refl refl refl refl refl refl)) refl refl refl refl refl c.columns_into.ensures.nonces c.columns_into.ensures.columns

pub returns-clause-lengths : goal.returns-clause-lengths
returns-clause-lengths g c = same_lengths c.args.params.now c.answers_into.new.proof _ (c.answers_into.ensures.lengths c.args.params.now (same_lengths c.args.params.now c.args.proof.now _ c.requires.lengths refl refl refl refl refl refl refl)) refl refl refl refl refl c.columns_into.ensures.nonces c.columns_into.ensures.columns

pub returns-in_err-rest-3-clause-room : goal.returns-in_err-rest-3-clause-room
returns-in_err-rest-3-clause-room g c = ap (λ (r : Proof g.row.F.Denot). r.path.room) c.answers_into.ensures.others

pub returns-in_err-rest-4-clause-room : goal.returns-in_err-rest-4-clause-room
returns-in_err-rest-4-clause-room g c = c.path_into.ensures.room ∙ ap (λ (r : Proof g.row.F.Denot). r.path.room) c.answers_into.ensures.others

pub returns-then-not-is_empty-clause-room : goal.returns-then-not-is_empty-clause-room
returns-then-not-is_empty-clause-room g c = c.path_into.ensures.room ∙ ap (λ (r : Proof g.row.F.Denot). r.path.room) c.answers_into.ensures.others

pub returns-clause-room : goal.returns-clause-room
returns-clause-room g c = c.path_into.ensures.room ∙ ap (λ (r : Proof g.row.F.Denot). r.path.room) c.answers_into.ensures.others

pub returns-clause-few : goal.returns-clause-few
returns-clause-few g c = c.in_ok-rest-4.ensures.few

pub returns-clause-id : goal.returns-clause-id
returns-clause-id g c = ap (λ (r : Proof g.row.F.Denot). length r.id) c.answers_into.ensures.others ∙ c.in_ok-rest.ensures.id

pub returns-clause-root : goal.returns-clause-root
returns-clause-root g c = ap (λ (r : Proof g.row.F.Denot). length r.root) c.answers_into.ensures.others ∙ c.in_ok-rest.ensures.root

pub returns-clause-nonces : goal.returns-clause-nonces
returns-clause-nonces g c = c.in_ok-rest-3.ensures.digests

pub returns-clause-path : goal.returns-clause-path
returns-clause-path g c = c.in_ok-rest-4.ensures.digests
