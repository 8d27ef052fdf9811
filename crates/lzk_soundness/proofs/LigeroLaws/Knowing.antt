-- What is known of weights behind which there are answers that are let through often.
use Rattle.lzk_profile.specs.Profile.{opened_count}
use Rattle.std.specs.Prelude.{◌≡◌, ℕ, ◌-◌, ◌*◌, ◌<◌, ◌&&◌, Bool, true, false, List, [], ◌∷◌, length}
use Rattle.std.proofs.Common.{refl, sym, ap, ◌∙◌, subst}
use Rattle.std.proofs.lemmas.Bool.{false≢true, lt-ltb}
use Rattle.lzk_field.specs.Coding.{Coding}
use Rattle.lzk_field.specs.Ring.{Ops, Laws}
use Rattle.lzk_soundness.specs.Chance.Draws.{count}
use Rattle.lzk_soundness.specs.Chance.Sets.{choose}
use Rattle.lzk_soundness.proofs.ChanceLaws.Splitting.{count-ext}
use Rattle.lzk_circuit.specs.Valid.{Wiring, IsValid}
use Rattle.lzk_layout.specs.Sizes.{AreBounded, params_of}
use Rattle.lzk_soundness.proofs.DrawsLaws.Deciding.{is_yes, from_yes}
use Rattle.lzk_soundness.proofs.NearLaws.Alls.{same_elements}
use Rattle.lzk_soundness.proofs.OracleLaws.Queries.{left_true, right_true, same_list}
use Rattle.lzk_soundness.specs.Count.Game.{column_sets, Strategy, whole_count, IsPassed}
use Rattle.lzk_soundness.specs.Count.Laws.{IsPlayer}
use Rattle.lzk_soundness.proofs.CountLaws.Facts.{AreTooMany, too_many, known}
use Rattle.lzk_soundness.specs.Ligero.States.{sends, IsOpen}

yes_is : {P : Type 0} (d : Dec P) → P → is_yes d ≡ true
yes_is (yes p) q = refl
yes_is (no n) q = absurd (n q)

module _ {A : Type 0} (o : Ops A) (e : Coding A) (laws : Laws o e.size e.number e.element e.bytes) (c : Wiring A) (b : AreBounded (params_of c)) (public : List A) (valid : IsValid o c) (publics : length public ≡ c.publics) (table : ℕ → ℕ → A) (messages draws : List A) (long : length draws ≡ whole_count c) where
  module _ (it : IsOpen o e c public table messages draws) where
    abbrev strategy : Strategy A
    strategy = sends table messages it.answers

    abbrev test : List ℕ → Bool
    test = it.passed.test

    abbrev same : (xs ys : List A) → Dec (xs ≡ ys)
    same = same_list (same_elements laws.numbers)

    abbrev wins : List A → List ℕ → Bool
    wins xs columns = is_yes (same xs draws) && test columns

    player : IsPlayer o e c public strategy wins
    player = record {
      valid = valid;
      publics = publics;
      prover = record {
        layers = λ l xs ys h agree k i. refl;
        rounds = λ l n xs ys h q agree k i. refl;
      };
      only = λ xs columns long_xs size won.
          let is : xs ≡ draws = from_yes (same xs draws) (left_true (is_yes (same xs draws)) (test columns) won) in
          subst (λ ys. IsPassed o e c public strategy ys columns) (sym is)
          (it.passed.only columns size (right_true (is_yes (same xs draws)) (test columns) won));
    }

    many : too_many o e laws c b public strategy wins player draws ≡ true
    many =
        let m = choose (3 * (params_of c).block - 1) opened_count in
        let count_is : count (wins draws) (column_sets c) ≡ count test (column_sets c) =
        count-ext (wins draws) test (column_sets c) (λ s. ap (λ v. v && test s) (yes_is (same draws draws) refl)) in
        lt-ltb m (count (wins draws) (column_sets c)) (subst (λ (v : ℕ). m < v) (sym count_is) it.passed.often)

    pub known_of : AreTooMany o e laws c b public strategy draws
    known_of = known o e laws c b public strategy wins player draws long many
