-- Draws that go on where others end.
use Rattle.std.specs.Prelude.{◌≡◌, ℕ, ◌<◌, ◌+◌, ◌-◌, ◌*◌, List, map}
use Rattle.std.specs.List.{range_with_len}
use Rattle.std.proofs.Common.{zero, suc, refl, sym, ap, ◌∙◌, arith}
use Rattle.std.proofs.lemmas.List.{same_lists}
use Rattle.std.proofs.lemmas.List.FromFn.{get_or-map-range_with_len, length-map-range_with_len}
use Rattle.lzk_field.specs.Coding.{Coding}
use Rattle.lzk_transcript.specs.Tape.{TapeState, drawn, after_draw}
use Rattle.lzk_transcript.specs.Columns.{after_draws, draw_at}
use Rattle.lzk_layout.specs.declared.params.Params.{Params}
use Rattle.lzk_sumcheck.specs.Draws.{draws}
use Rattle.lzk_accept.specs.declared.challenges.Challenges.{Challenges}
use Rattle.lzk_accept.specs.Challenges.{challenges, challenge_count}

after_both : (k m n : ℕ) (t : TapeState) → n ≡ k + m → after_draws m (after_draws k t) ≡ after_draws n t
unfolding after_draws
after_both k zero n t e = ap (λ i. after_draws i t) (omega (arith, e))
after_both k (suc m) n t e =
    let next : suc (k + m) ≡ n = omega (arith, e) in
    ap after_draw (after_both k m (k + m) t refl) ∙ ap (λ i. after_draws i t) next

module _ {A : Type 0} (e : Coding A) where
  draws_on : (k n : ℕ) (t : TapeState) → draws e 0 n (after_draws k t) ≡ draws e k n t
  draws_on k n t =
      let f : ℕ → A = λ i. e.element (draw_at i (after_draws k t)) in
      let h : ℕ → A = λ i. e.element (draw_at i t) in
      same_lists (map f (range_with_len 0 n)) (map h (range_with_len k n)) (length-map-range_with_len f 0 n ∙ sym (length-map-range_with_len h k n))
      (λ i d l.
      let within : i < n = omega (arith, l, length-map-range_with_len f 0 n) in
      get_or-map-range_with_len f 0 n i i d within (omega arith)
      ∙ ap (λ s. e.element (drawn s)) (after_both k i (k + i) t refl)
      ∙ sym (get_or-map-range_with_len h k n i (k + i) d within refl))

  module _ (p : Params) (t ta tb tc td : TapeState) (u l m v : List A)
      (ea : ta ≡ after_draws (p.nrow - 3) t) (eb : tb ≡ after_draws (p.layers + 1) ta) (ec : tc ≡ after_draws (3 * p.layers) tb) (ed : td ≡ after_draws p.ntriple tc) where
    at_b : tb ≡ after_draws (p.nrow - 3 + (p.layers + 1)) t
    at_b = eb ∙ ap (after_draws (p.layers + 1)) ea ∙ after_both (p.nrow - 3) (p.layers + 1) (p.nrow - 3 + (p.layers + 1)) t refl

    at_c : tc ≡ after_draws (p.nrow - 3 + (p.layers + 1) + 3 * p.layers) t
    at_c = ec ∙ ap (after_draws (3 * p.layers)) at_b ∙ after_both (p.nrow - 3 + (p.layers + 1)) (3 * p.layers) (p.nrow - 3 + (p.layers + 1) + 3 * p.layers) t refl

    pub tape_whole : td ≡ after_draws (challenge_count p) t
    tape_whole = ed ∙ ap (after_draws p.ntriple) at_c ∙ after_both (p.nrow - 3 + (p.layers + 1) + 3 * p.layers) p.ntriple (challenge_count p) t refl

    pub challenges_whole : u ≡ draws e 0 (p.nrow - 3) t → l ≡ draws e 0 (p.layers + 1) ta → m ≡ draws e 0 (3 * p.layers) tb → v ≡ draws e 0 p.ntriple tc
        → record { u = u; lambda = l; mu = m; v = v } ≡ challenges e p t
    unfolding challenges
    challenges_whole eu el em ev =
        let rows = p.nrow - 3 in
        let lines = p.layers + 1 in
        let squares = 3 * p.layers in
        let make : List A → List A → List A → List A → Challenges A = λ a b c d. record { u = a; lambda = b; mu = c; v = d } in
        let l' : l ≡ draws e rows lines t = el ∙ ap (draws e 0 lines) ea ∙ draws_on rows lines t in
        let m' : m ≡ draws e (rows + lines) squares t = em ∙ ap (draws e 0 squares) at_b ∙ draws_on (rows + lines) squares t in
        let v' : v ≡ draws e (rows + lines + squares) p.ntriple t = ev ∙ ap (draws e 0 p.ntriple) at_c ∙ draws_on (rows + lines + squares) p.ntriple t in
        ap (λ a. make a l m v) eu ∙ ap (λ b. make (draws e 0 rows t) b m v) l' ∙ ap (λ c. make (draws e 0 rows t) (draws e rows lines t) c v) m'
        ∙ ap (make (draws e 0 rows t) (draws e rows lines t) (draws e (rows + lines) squares t)) v'
