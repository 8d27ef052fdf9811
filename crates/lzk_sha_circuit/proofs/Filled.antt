-- What the loops that write the private inputs add.
use Rattle.std.specs.Prelude.{◌≡◌, ℕ, ◌+◌, ◌-◌, ◌*◌, ◌%◌, ◌^◌, ◌<◌, ◌≤◌, List, [], ◌∷◌, ◌++◌, map, take, length, slice_index}
use Rattle.std.specs.List.{range_with_len, flat_map}
use Rattle.std.proofs.Common.{sym, ap, ◌∙◌, arith, get_or-take, append_assoc}
use Rattle.std.proofs.lemmas.List.{take_more, flat_map_more}
use Rattle.sha2.specs.Sha256.{word_at, schedule, compress, rounds, round, round_constants}
use Rattle.sha2.specs.Sha256 as standard
use Rattle.sha2.proofs.Schedule256.{slice_index-schedule_first, slice_index-schedule_next, length-schedule, rounds_next}
use Rattle.lzk_sha_circuit.specs.Inputs.{compression_private, sum_list, schedule_list, round_list, rounds_list, final_list, next_total}
use Rattle.lzk_sha_circuit.proofs.Written.{chunk_more}
use Rattle.lzk_sha_circuit.proofs.Standard.{next_word_is}

pub byte_more : {X : Type 0} (f : ℕ → List X) (bytes : List ℕ) (before old new : List X) (i byte : ℕ) → i < length bytes → old ≡ before ++ flat_map f (take i bytes) → new ≡ old ++ f byte → byte ≡ slice_index bytes i
    → new ≡ before ++ flat_map f (take (i + 1) bytes)
byte_more f bytes before old new i byte lt eo en eb =
    en ∙ (λ j. eo j ++ f (eb j)) ∙ flat_map_more f before (take i bytes) (slice_index bytes i) ∙ ap (λ l. before ++ flat_map f l) (sym (take_more bytes i 0 lt))

-- ---- the schedule
pub first_word_more : (block words new : List ℕ) (i word : ℕ) → i < 16 → words ≡ take i (schedule block 48) → new ≡ words ++ word ∷ [] → word ≡ word_at block (4 * i) → new ≡ take (i + 1) (schedule block 48)
first_word_more block words new i word lt ew en e =
    let long = length-schedule block 48 in
    en ∙ (λ j. ew j ++ (e ∙ sym (slice_index-schedule_first block 48 i lt)) j ∷ []) ∙ sym (take_more (schedule block 48) i 0 (omega (arith, long)))

-- the sum for W t from the words before it
total_of_front : (ws : List ℕ) (t : ℕ) → 16 ≤ t → next_total (take t ws) t ≡ next_total ws t
total_of_front ws t le i =
    standard.small_sigma1 (get_or-take t ws (t - 2) 0 (omega arith) i) + get_or-take t ws (t - 7) 0 (omega arith) i + standard.small_sigma0 (get_or-take t ws (t - 15) 0 (omega arith) i) + get_or-take t ws (t - 16) 0 (omega arith) i

pub next_total_is : (block words : List ℕ) (t : ℕ) → 16 ≤ t → words ≡ take t (schedule block 48) → next_total words t ≡ next_total (schedule block 48) t
next_total_is block words t le ew = ap (λ l. next_total l t) ew ∙ total_of_front (schedule block 48) t le

pub next_word_more : (block words new : List ℕ) (t word : ℕ) → 16 ≤ t → t < 64 → words ≡ take t (schedule block 48) → new ≡ words ++ word ∷ [] → word ≡ next_total words t % 2 ^ 32 → new ≡ take (t + 1) (schedule block 48)
next_word_more block words new t word le lt ew en e =
    let ws = schedule block 48 in
    let long = length-schedule block 48 in
    let here : word ≡ slice_index ws t = e ∙ ap (λ n. n % 2 ^ 32) (next_total_is block words t le ew) ∙ sym (next_word_is ws t) ∙ sym (slice_index-schedule_next block 48 t le lt) in
    en ∙ (λ j. ew j ++ here j ∷ []) ∙ sym (take_more ws t 0 (omega (arith, long)))

module _ {A : Type 0} (element : ℕ → A) where
  pub schedule_more : (ws : List ℕ) (before old new : List A) (t sum : ℕ) → 16 ≤ t → old ≡ before ++ schedule_list element ws (t - 16) → new ≡ old ++ sum_list element 2 sum → sum ≡ next_total ws t
      → new ≡ before ++ schedule_list element ws (t + 1 - 16)
  unfolding schedule_list
  schedule_more ws before old new t sum le eo en e =
      let f = λ (s : ℕ). sum_list element 2 (next_total ws s) in
      let n : t - 16 + 1 ≡ t + 1 - 16 = omega arith in
      chunk_more f before old new (sum_list element 2 sum) 16 (t - 16) t eo en (ap (sum_list element 2) e) (omega arith)
      ∙ ap (λ m. before ++ flat_map f (range_with_len 16 m)) n

  pub rounds_more : (h ws v : List ℕ) (before old new : List A) (t k w : ℕ) → old ≡ before ++ rounds_list element h ws t → new ≡ old ++ round_list element v k w
      → v ≡ rounds h ws t → k ≡ slice_index round_constants t → w ≡ slice_index ws t → new ≡ before ++ rounds_list element h ws (t + 1)
  unfolding rounds_list
  rounds_more h ws v before old new t k w eo en ev ek ew =
      let f = λ (s : ℕ). round_list element (rounds h ws s) (slice_index round_constants s) (slice_index ws s) in
      chunk_more f before old new (round_list element v k w) 0 t t eo en (λ j. round_list element (ev j) (ek j) (ew j)) (omega arith)

  pub final_more : (h v : List ℕ) (before old new : List A) (i sum : ℕ) → old ≡ before ++ final_list element h v i → new ≡ old ++ sum_list element 1 sum → sum ≡ slice_index h i + slice_index v i
      → new ≡ before ++ final_list element h v (i + 1)
  unfolding final_list
  final_more h v before old new i sum eo en e =
      chunk_more (λ j. sum_list element 1 (slice_index h j + slice_index v j)) before old new (sum_list element 1 sum) 0 i i eo en (ap (sum_list element 1) e) (omega arith)

pub variables_more : (h ws v next : List ℕ) (t k w : ℕ) → next ≡ round v k w → v ≡ rounds h ws t → k ≡ slice_index round_constants t → w ≡ slice_index ws t → next ≡ rounds h ws (t + 1)
variables_more h ws v next t k w en ev ek ew = en ∙ (λ j. round (ev j) (ek j) (ew j)) ∙ sym (rounds_next h ws t)

-- ---- all parts together
module _ {A : Type 0} (element : ℕ → A) (h block words v : List ℕ) (e_words : words ≡ schedule block 48) (e_v : v ≡ rounds h words 64) where
  pub length-words : length words ≡ 64
  length-words = ap length e_words ∙ length-schedule block 48

  v_is : v ≡ rounds h (schedule block 48) 64
  v_is = e_v ∙ ap (λ w. rounds h w 64) e_words

  pub private_is : (p1 p2 p3 p4 : List A) → p2 ≡ p1 ++ schedule_list element (schedule block 48) 48
      → p3 ≡ p2 ++ rounds_list element h words 64 → p4 ≡ p3 ++ final_list element h v 8 → p4 ≡ compression_private element p1 h block
  unfolding compression_private
  private_is p1 p2 p3 p4 e2 e3 e4 =
      let ws = schedule block 48 in
      let q2 = schedule_list element ws 48 in
      let q3 = rounds_list element h ws 64 in
      let q4 = final_list element h (rounds h ws 64) 8 in
      let f3 : p3 ≡ p1 ++ q2 ++ q3 = e3 ∙ (λ i. e2 i ++ rounds_list element h (e_words i) 64) in
      e4 ∙ (λ i. f3 i ++ final_list element h (v_is i) 8) ∙ append_assoc (p1 ++ q2) q3 q4 ∙ append_assoc p1 q2 (q3 ++ q4)

  pub words_are : (q : List A) → q ≡ map (λ i. element ((slice_index h i + slice_index v i) % 2 ^ 32)) (range_with_len 0 8) → q ≡ map element (compress h block)
  unfolding compress
  words_are q e = e ∙ ap (λ w. map (λ i. element ((slice_index h i + slice_index w i) % 2 ^ 32)) (range_with_len 0 8)) v_is
