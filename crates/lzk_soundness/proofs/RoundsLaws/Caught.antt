-- Where no answer of a run is bad, not all residuals are 0.
use Rattle.std.specs.Prelude.{◌≡◌, ℕ, ◌+◌, ◌<◌, ◌||◌, Bool, true, false, List, [], ◌∷◌, ◌++◌, length, take}
use Rattle.std.proofs.Common.{suc, refl, sym, ap, ◌∙◌, arith, subst}
use Rattle.std.proofs.lemmas.List.{length-take-le}
use Rattle.lzk_field.specs.Coding.{Coding}
use Rattle.lzk_field.specs.Ring.{Ops, Laws}
use Rattle.lzk_field.specs.Sums.{entry}
use Rattle.lzk_soundness.specs.Chance.Draws.{has_bad}
use Rattle.lzk_circuit.specs.Valid.{Wiring, IsValid}
use Rattle.lzk_layout.specs.Sizes.{committed_count}
use Rattle.lzk_layout.specs.Places.{depth}
use Rattle.lzk_sumcheck.specs.Coefficients.{coefficients}
use Rattle.lzk_accept.specs.Residuals.{residual}
use Rattle.lzk_soundness.specs.Sumchecks.Bad.{AreZero}
use Rattle.lzk_soundness.specs.Sumchecks.Claims.{HasProducts, Vanish}
use Rattle.lzk_soundness.specs.Draws.Schedule.{draw_count, draw_at, script_of}
use Rattle.lzk_soundness.specs.Draws.Game.{Target, IsBadDraw, table_of}
use Rattle.lzk_soundness.specs.Draws.Laws.{IsForger, IsOf}
use Rattle.lzk_soundness.proofs.DrawsLaws.Deciding.{is_yes, dec_bad}
use Rattle.lzk_soundness.proofs.DrawsLaws.Forgers.{bad, shown_by}
use Rattle.lzk_soundness.proofs.DrawsLaws.Looking.{is_none, none_from, some_from, look}
use Rattle.lzk_soundness.specs.Rounds.Steps.{Step, sent_before, step_of, IsBadAnswer}
use Rattle.lzk_soundness.proofs.RoundsLaws.Alike.{bad_alike, agree_front}
use Rattle.lzk_soundness.proofs.RoundsLaws.Steps.{draw_is}

-- where each draw is not bad, none is
none_is : {A : Type 0} (o : Ops A) (bad : List A → A → Bool) (before xs : List A) → ((k : ℕ) → k < length xs → bad (before ++ take k xs) (entry o xs k) ≡ false) → has_bad bad before xs ≡ false
none_is o bad before [] each = refl
none_is o bad before (x ∷ xs) each =
    ap (λ b. b || has_bad bad (before ++ x ∷ []) xs) (sym (ap (λ ys. bad ys x) (append_nil before)) ∙ each 0 (omega arith))
    ∙ none_is o bad (before ++ x ∷ []) xs (λ k h. sym (ap (λ ys. bad ys (entry o xs k)) (append_one before (take k xs) x)) ∙ each (suc k) (omega (arith, h)))
  where
    append_nil : {X : Type 0} (ys : List X) → ys ++ [] ≡ ys
    append_nil [] = refl
    append_nil (y ∷ ys) = ap (λ zs. y ∷ zs) (append_nil ys)

    append_one : {X : Type 0} (ys zs : List X) (y : X) → ys ++ (y ∷ zs) ≡ (ys ++ y ∷ []) ++ zs
    append_one [] zs y = refl
    append_one (u ∷ ys) zs y = ap (λ vs. u ∷ vs) (append_one ys zs y)

pub no_yes : {P : Type 0} (d : Dec P) → (P → ⊥) → is_yes d ≡ false
no_yes (yes p) never = absurd (never p)
no_yes (no n) never = refl

module _ {A : Type 0} (o : Ops A) (e : Coding A) (laws : Laws o e.size e.number e.element e.bytes) (c : Wiring A) (public w : List A) (target : Target) (draws messages : List A) (valid : IsValid o c) (publics : length public ≡ c.publics) (count : length w ≡ committed_count c) (products : HasProducts o c public w) (is : IsOf c target) (wrong : AreZero o (entry o (table_of o c public w target)) → ⊥) (long : length draws ≡ draw_count c) (none : (step : Step) → IsBadAnswer o c public w target e.element draws messages step → ⊥) where
  abbrev residual_at : List A → ℕ → A
  residual_at r i = residual o e.element c (coefficients o c (script_of o c r)) public (script_of o c r) messages w i

  abbrev all_zero : List A → Bool
  all_zero r = is_none o (residual_at r) (depth c + 1) (look o e laws (residual_at r) (depth c + 1))

  abbrev send : List A → List A
  send r = messages

  forger : IsForger o e c public w send all_zero
  forger = record {
    valid = valid;
    publics = publics;
    count = count;
    products = products;
    prover = record {
      layers = λ l xs ys h agree k i. refl;
      rounds = λ l n xs ys h q agree k i. refl;
    };
    only = λ r size yes_all i h. none_from o (residual_at r) (depth c + 1) (look o e laws (residual_at r) (depth c + 1)) yes_all i (omega (arith, h));
  }

  clean : has_bad (bad o e laws c public w send all_zero forger target) [] draws ≡ false
  clean = none_is o (bad o e laws c public w send all_zero forger target) [] draws each
    where
      each : (k : ℕ) → k < length draws → bad o e laws c public w send all_zero forger target (take k draws) (entry o draws k) ≡ false
      each k h =
          let within : k < draw_count c = omega (arith, h, long) in
          let short : length (take k draws) ≡ k = length-take-le k draws (omega (arith, h)) in
          let d = draw_at c k in
          no_yes (dec_bad laws.numbers laws.ring c public w (script_of o c (take k draws)) messages target (draw_at c (length (take k draws))) (entry o draws k))
          (λ b.
          none (step_of c d) (record {
            place = k;
            inside = within;
            there = refl;
            bad = bad_alike o c public w e.element (take k draws) messages (take (sent_before c (step_of c d)) messages) target d (entry o draws k) (draw_is c k valid.some within).0
                (agree_front o (sent_before c (step_of c d)) messages)
                (subst (λ (j : ℕ). IsBadDraw o c public w e.element (script_of o c (take k draws)) messages target (draw_at c j) (entry o draws k)) short b);
          }))

  pub caught_without : Vanish o c public w e.element (script_of o c draws) messages → ⊥
  caught_without vanish = go (all_zero draws) refl
    where
      go : (b : Bool) → all_zero draws ≡ b → ⊥
      go true yes_all = shown_by o e laws c public w send all_zero forger target is wrong draws long yes_all clean
      go false not_all =
          let found = some_from o (residual_at draws) (depth c + 1) (look o e laws (residual_at draws) (depth c + 1)) not_all in
          found.1.1 (vanish found.0 (omega (arith, found.1.0)))

  -- so a residual is not 0
  pub some_residual : (i : ℕ) × ((i < depth c + 1) × ((residual_at draws i ≡ o.zero) → ⊥))
  some_residual = go (all_zero draws) refl
    where
      go : (b : Bool) → all_zero draws ≡ b → (i : ℕ) × ((i < depth c + 1) × ((residual_at draws i ≡ o.zero) → ⊥))
      go true yes_all = absurd (shown_by o e laws c public w send all_zero forger target is wrong draws long yes_all clean)
      go false not_all = some_from o (residual_at draws) (depth c + 1) (look o e laws (residual_at draws) (depth c + 1)) not_all
