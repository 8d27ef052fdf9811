-- The verdict of what an intake keeps of all fields of a proof is that on the proof.
use Rattle.lzk_profile.specs.Profile.{opened_count}
use Rattle.std.specs.Prelude.{◌≡◌, ℕ, ◌+◌, ◌-◌, Option, Some, None, List, ◌++◌, length, take, drop}
use Rattle.std.proofs.Common.{sym, ap, ◌∙◌, inl, inr, arith}
use Rattle.std.proofs.lemmas.List.{length-append, append_assoc, take_at, drop_at, take_all}
use Rattle.lzk_field.specs.Coding.{Coding}
use Rattle.lzk_field.specs.Ring.{Ops}
use Rattle.lzk_merkle.specs.Nodes as tree
use Rattle.lzk_transcript.specs.Columns.{after_draws, opened}
use Rattle.lzk_circuit.specs.Valid.{Wiring}
use Rattle.lzk_layout.specs.declared.params.Params.{Params}
use Rattle.lzk_layout.specs.declared.proof.Proof.{Proof}
use Rattle.lzk_layout.specs.Sizes.{AreBounded, params_of}
use Rattle.lzk_layout.specs.Proofs.{HasLengths}
use Rattle.lzk_sumcheck.specs.Draws.{with_array}
use Rattle.lzk_sumcheck.specs.Opening.{public_tape, opening}
use Rattle.lzk_sumcheck.specs.Script.{script, after_script}
use Rattle.lzk_accept.specs.Challenges.{Transcript, transcript, challenges, challenge_count}
use Rattle.lzk_accept.specs.Checks.{found_sum}
use Rattle.lzk_verify.specs.declared.intake.Intake.{Intake}
use Rattle.lzk_verify.specs.declared.verdict.Verdict.{Verdict}
use Rattle.lzk_verify.specs.declared.verdict.Verdict.TheVariants.{CircuitId, PathCount, Root, LinearSum}
use Rattle.lzk_circbytes.specs.Files.{id_of}
use Rattle.lzk_verify.specs.Checks.{leaves_of, needed_digests, found_root}
use Rattle.lzk_verify.specs.Kept.{messages_in, ldt_in, dot_in, head_in, tail_in, whole_transcript, IsLeastFailing}
use Rattle.lzk_verify.specs.Verdict.{Unless, UnlessAt, IsJudged, LowDegreeAt, LinearAt, QuadraticAt, wanted_sum}
use Rattle.lzk_verify.specs.Desk.{OrElse, sum_of, IsFound}

-- the elements that a proof sends, in the order of its file
abbrev pub sent_of : {A : Type 0} → Proof A → List A
sent_of q = q.messages ++ (q.ldt ++ (q.dot ++ (q.quad_head ++ q.quad_tail)))

slice_at : {A : Type 0} (front own back : List A) (k n : ℕ) → length front ≡ k → length own ≡ n → take n (drop k (front ++ (own ++ back))) ≡ own
slice_at front own back k n before long = ap (take n) (drop_at front (own ++ back) k before) ∙ take_at own back n long

module _ {A : Type 0} (p : Params) (q : Proof A) (lengths : HasLengths p q) where
  abbrev m : List A
  m = q.messages

  abbrev l : List A
  l = q.ldt

  abbrev d : List A
  d = q.dot

  abbrev h : List A
  h = q.quad_head

  abbrev t : List A
  t = q.quad_tail

  -- the slices of the elements that it sends are its lists
  pub messages_part : messages_in p (sent_of q) ≡ m
  messages_part = take_at m (l ++ (d ++ (h ++ t))) p.nsum lengths.messages

  pub ldt_part : ldt_in p (sent_of q) ≡ l
  ldt_part = slice_at m l (d ++ (h ++ t)) p.nsum p.block lengths.messages lengths.ldt

  front_2 : length (m ++ l) ≡ p.nsum + p.block
  front_2 = length-append m l ∙ (λ i. lengths.messages i + lengths.ldt i)

  front_3 : length ((m ++ l) ++ d) ≡ p.nsum + p.block + p.dblock
  front_3 = length-append (m ++ l) d ∙ (λ i. front_2 i + lengths.dot i)

  front_4 : length (((m ++ l) ++ d) ++ h) ≡ p.nsum + p.block + p.dblock + opened_count
  front_4 = length-append ((m ++ l) ++ d) h ∙ (λ i. front_3 i + lengths.quad_head i)

  turn_2 : sent_of q ≡ (m ++ l) ++ (d ++ (h ++ t))
  turn_2 = sym (append_assoc m l (d ++ (h ++ t)))

  turn_3 : sent_of q ≡ ((m ++ l) ++ d) ++ (h ++ t)
  turn_3 = turn_2 ∙ sym (append_assoc (m ++ l) d (h ++ t))

  turn_4 : sent_of q ≡ (((m ++ l) ++ d) ++ h) ++ t
  turn_4 = turn_3 ∙ sym (append_assoc ((m ++ l) ++ d) h t)

  pub dot_part : dot_in p (sent_of q) ≡ d
  dot_part = ap (dot_in p) turn_2 ∙ slice_at (m ++ l) d (h ++ t) (p.nsum + p.block) p.dblock front_2 lengths.dot

  pub head_part : head_in p (sent_of q) ≡ h
  head_part = ap (head_in p) turn_3 ∙ slice_at ((m ++ l) ++ d) h t (p.nsum + p.block + p.dblock) opened_count front_3 lengths.quad_head

  pub tail_part : tail_in p (sent_of q) ≡ t
  tail_part =
      ap (tail_in p) turn_4 ∙ ap (take (p.dblock - p.block)) (drop_at (((m ++ l) ++ d) ++ h) t (p.nsum + p.block + p.dblock + opened_count) front_4)
      ∙ take_all (p.dblock - p.block) t (omega (arith, lengths.quad_tail))

-- an intake keeps of this proof what it is judged by
pub record KeepsProof {A : Type 0} (o : Ops A) (e : Coding A) (c : Wiring A) (p : Params) (public : List A) (q : Proof A) (t : Transcript A) (k : Intake A) : Type 0 where
  pub id : k.id ≡ q.id
  pub root : k.root ≡ q.root
  pub sent : k.sent.items ≡ sent_of q
  pub drawn : k.drawn ≡ t
  pub leaves : k.leaves.items ≡ leaves_of o e p q
  pub path : take k.count k.digests.items ≡ q.path.digests
  pub count : k.count ≡ length q.path.digests
  pub wanted : k.wanted ≡ wanted_sum o e c p public q t
  pub low_degree : IsLeastFailing t.columns (LowDegreeAt o e c p public q t) k.failing.low_degree
  pub linear : IsLeastFailing t.columns (LinearAt o e c p public q t) k.failing.linear
  pub quadratic : IsLeastFailing t.columns (QuadraticAt o e c p public q t) k.failing.quadratic

-- where a check kept the least column at which it fails, or none
or_else : (columns : List ℕ) (P : ℕ → Type 0) (F : ℕ → Type 0) (N M : Type 0) (x : Option ℕ) → IsLeastFailing columns P x → (N → M) → OrElse x F N → UnlessAt columns P F M
or_else columns P F N M None each on next = inr (each, on next)
or_else columns P F N M (Some i) first on failed = inl (i, (first, failed))

unless : (C C' F F' N N' : Type 0) → (C → C') → (C' → C) → (F → F') → (N → N') → Unless C F N → Unless C' F' N'
unless C C' F F' N N' to from f n (inl (fails, x)) = inl ((λ h. fails (from h)), f x)
unless C C' F F' N N' to from f n (inr (holds, x)) = inr (to holds, n x)

module _ {A : Type 0} (o : Ops A) (e : Coding A) (c : Wiring A) (p : Params) (public : List A) (q : Proof A) (t : Transcript A) (k : Intake A) (keeps : KeepsProof o e c p public q t k) (v : Verdict A) where
  -- what is found of it is what it is judged
  pub found_judged : AreBounded p → HasLengths p q → (id : List ℕ) → id ≡ id_of e c → IsFound o p id k v → IsJudged o e c p public q t v
  unfolding IsJudged
  found_judged bounded lengths id own found =
      let cols : k.drawn.columns ≡ t.columns = ap (λ (s : Transcript A). s.columns) keeps.drawn in
      let need : needed_digests p k.drawn.columns ≡ needed_digests p t.columns = ap (needed_digests p) cols in
      let root : tree.root_of p.mcol k.drawn.columns k.leaves.items (take k.count k.digests.items) ≡ found_root o e p q t.columns =
      (λ i. tree.root_of p.mcol (cols i) (keeps.leaves i) (keeps.path i)) in
      let sum : sum_of o p (dot_in p k.sent.items) ≡ found_sum o p q = ap (λ xs. sum_of o p (dot_in p xs)) keeps.sent ∙ ap (sum_of o p) (dot_part p q lengths) in
      unless _ _ _ _ _ _ (λ h. sym keeps.id ∙ h ∙ own) (λ h. keeps.id ∙ h ∙ sym own) (λ h. h ∙ ap (λ x. CircuitId x) keeps.id)
      (unless _ _ _ _ _ _ (λ h. sym keeps.count ∙ h ∙ need) (λ h. keeps.count ∙ h ∙ sym need) (λ h. h ∙ (λ i. PathCount (keeps.count i) (need i)))
      (unless _ _ _ _ _ _ (λ h. sym root ∙ h ∙ keeps.root) (λ h. root ∙ h ∙ sym keeps.root) (λ h. h ∙ ap (λ x. Root x) root)
      (or_else _ _ _ _ _ k.failing.low_degree keeps.low_degree
      (unless _ _ _ _ _ _ (λ h. sym sum ∙ h ∙ keeps.wanted) (λ h. sum ∙ h ∙ sym keeps.wanted) (λ h. h ∙ (λ i. LinearSum (sum i) (keeps.wanted i)))
      (or_else _ _ _ _ _ k.failing.linear keeps.linear
      (or_else _ _ _ _ _ k.failing.quadratic keeps.quadratic (λ h. h)))))))
      found

-- all that the tape gives to a proof, by the tape that its session, circuit and public inputs begin and by the elements that it sends
pub transcript_is : {A : Type 0} (o : Ops A) (e : Coding A) (c : Wiring A) (session : List ℕ) (public : List A) (q : Proof A) → HasLengths (params_of c) q
    → whole_transcript o e c (params_of c) (public_tape e session (id_of e c) public) q.root (sent_of q) ≡ transcript o e c session (id_of e c) public q
unfolding whole_transcript transcript
transcript_is o e c session public q lengths =
    let p = params_of c in
    let start = opening e session (id_of e c) public q.root in
    let m = messages_part p q lengths in
    let l = ldt_part p q lengths in
    let d = dot_part p q lengths in
    let h = head_part p q lengths in
    let t = tail_part p q lengths in
    (λ i. record {
      script = script o e (m i) c start;
      challenges = challenges e p (after_script o e (m i) c start);
      columns = opened p.mcol opened_count (with_array e (t i) (with_array e (h i) (with_array e (d i) (with_array e (l i) (after_draws (challenge_count p) (after_script o e (m i) c start))))));
    })
