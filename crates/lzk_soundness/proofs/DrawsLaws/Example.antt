-- A worked instance: a forger that wins now and then. The circuit has one layer with one wire, which is the one, so that its output is never 0. The
-- prover commits to zeros and sends the true factors. He wins where alpha is minus one, whatever gamma is.
use Rattle.std.specs.Prelude.{◌≡◌, ◌==◌, Bool, true, List, [], ◌∷◌, length}
use Rattle.std.proofs.Common.{zero, suc, inl, refl, sym, ap, ◌∙◌, arith}
use Rattle.std.proofs.lemmas.Bool.{eqb-true, eq-eqb}
use Rattle.lzk_field.specs.Coding.{Coding}
use Rattle.lzk_field.specs.Ring.{Ops, Laws}
use Rattle.lzk_field.specs.Sums.{entry, minus}
use Rattle.lzk_field.proofs.RingBasics.{times_zero}
use Rattle.lzk_field.proofs.Solve.{var, null, unit, opp, ◌⊞◌, ◌⊟◌, ◌⊠◌, solve}
use Rattle.lzk_circuit.specs.declared.layer.Term.{Term}
use Rattle.lzk_circuit.specs.declared.layer.Layer.{Layer}
use Rattle.lzk_circuit.specs.Bits.{bits}
use Rattle.lzk_circuit.specs.Valid.{Wiring, IsValid}
use Rattle.lzk_circuit.specs.Wires.{wire}
use Rattle.lzk_sumcheck.specs.Coefficients.{coefficients, bound_at}
use Rattle.lzk_accept.specs.Residuals.{claim_after, residual}
use Rattle.lzk_soundness.specs.Sumchecks.Bad.{AreZero}
use Rattle.lzk_soundness.specs.Sumchecks.Claims.{HasProducts, Vanish, values_at}
use Rattle.lzk_soundness.specs.Draws.Schedule.{draw_count, script_of}
use Rattle.lzk_soundness.specs.Draws.Game.Target.{outputs}
use Rattle.lzk_soundness.specs.Draws.Laws.{most, IsForger, SomeForger}

module _ {A : Type 0} (o : Ops A) (e : Coding A) (laws : Laws o e.size e.number e.element e.bytes) where
  abbrev term : Term A
  term = record { g = 0; a = 0; b = 0; coef = o.one }

  abbrev layer : Layer A
  layer = record { wires = 1; terms = term ∷ [] }

  abbrev pub circuit : Wiring A
  circuit = record { version = 1; publics = 0; privates = 0; layers = layer ∷ [] }

  abbrev committed : List A
  committed = o.zero ∷ o.zero ∷ o.zero ∷ []

  abbrev send : List A → List A
  send draws = o.one ∷ o.one ∷ []

  abbrev wins : List A → Bool
  wins draws = e.number (entry o draws 0) == e.number (o.neg o.one)

  two_draws : draw_count circuit ≡ 2
  unfolding bits
  two_draws = refl

  two_at_most : most circuit outputs ≡ 2
  unfolding bits
  two_at_most = refl

  pub valid : IsValid o circuit
  valid = record {
    version = inl refl;
    publics = omega arith;
    privates = omega arith;
    some = omega arith;
    depth = omega arith;
    layers = (
      record {
        some = omega arith;
        most = omega arith;
        wires = omega arith;
        terms = omega arith;
        each = (record { g = omega arith; a = omega arith; b = omega arith }, refl, tt);
        coefs = (record { nonzero = λ _. laws.field.one_not_zero; apart = λ _. tt }, tt);
      },
      tt,
    );
  }

  wrong : AreZero o (entry o (values_at o circuit [] committed 0)) → ⊥
  unfolding wire
  wrong all = laws.field.one_not_zero (solve o laws.ring [] unit (null ⊞ (null ⊞ ((unit ⊠ unit) ⊠ unit))) refl ∙ all 0)

  same : (x y : A) → (e.number x == e.number y) ≡ true → x ≡ y
  same x y is = sym (laws.numbers.element_number x) ∙ ap e.element (eqb-true (e.number x) (e.number y) is) ∙ laws.numbers.element_number y

  vanish : (draws : List A) → length draws ≡ draw_count circuit → wins draws ≡ true → Vanish o circuit [] committed e.element (script_of o circuit draws) (send draws)
  unfolding residual claim_after bound_at coefficients wire bits
  vanish draws long won zero h =
      let X = var 0 in
      let I = var 1 in
      let x = entry o draws 0 in
      let is : x ≡ o.neg o.one = same x (o.neg o.one) won in
      solve o laws.ring (x ∷ o.inverse o.one ∷ [])
      ((null ⊞ X ⊠ null) ⊟ ((null ⊞ (null ⊞ (null ⊞ (((unit ⊞ X ⊠ unit) ⊠ (unit ⊞ null ⊠ (unit ⊟ unit ⊠ I))) ⊠ unit) ⊠ unit))) ⊠ (((unit ⊠ unit ⊞ unit ⊠ null) ⊞ unit ⊠ null) ⊞ null)))
      (null ⊟ (unit ⊞ X)) refl
      ∙ ap (λ y. minus o o.zero (o.plus o.one y)) is ∙ solve o laws.ring [] (null ⊟ (unit ⊞ opp unit)) null refl
  vanish draws long won (suc zero) h =
      let G = var 0 in
      solve o laws.ring (entry o draws 1 ∷ []) ((((null ⊞ unit ⊠ unit) ⊞ G ⊠ (null ⊞ unit ⊠ unit)) ⊟ (unit ⊞ null)) ⊟ G ⊠ (unit ⊞ null)) null refl
  vanish draws long won (suc (suc i)) h = absurd (omega (arith, h))

  products : HasProducts o circuit [] committed
  unfolding bits
  products zero h = times_zero o laws.ring o.zero
  products (suc l) h = absurd (omega (arith, h))

  is_forger : IsForger o e circuit [] committed send wins
  unfolding bits
  is_forger = record {
    valid = valid;
    publics = refl;
    count = refl;
    products = products;
    prover = record { layers = λ l xs ys h agree k q. refl; rounds = λ l n xs ys h q agree k b. refl };
    only = vanish;
  }

pub some_forger : {A : Type 0} (o : Ops A) (e : Coding A) → Laws o e.size e.number e.element e.bytes → SomeForger o e
some_forger o e laws = record {
  circuit = circuit o e laws;
  public = [];
  committed = committed o e laws;
  send = send o e laws;
  wins = wins o e laws;
  forger = is_forger o e laws;
  wrong = wrong o e laws;
  two_draws = two_draws o e laws;
  two_at_most = two_at_most o e laws;
  won = λ gamma. eq-eqb (e.number (o.neg o.one)) (e.number (o.neg o.one)) refl;
}
