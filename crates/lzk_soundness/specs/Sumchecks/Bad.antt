-- Bad draws: those by which something false becomes true.
use Rattle.std.specs.Prelude.{◌≡◌, ◌≢◌, ℕ, ◌<◌, List, [], ◌∷◌, ◌++◌, length, take}
use Rattle.lzk_field.specs.Ring.{Ops}
use Rattle.lzk_field.specs.Sums.{entry}
use Rattle.lzk_sumcheck.specs.Rounds.{Layered, claim}
use Rattle.lzk_sumcheck.specs.States.{bound}
use Rattle.lzk_accept.specs.Residuals.{next_claim}

-- a table with some variables bound, that of bit 0 first
abbrev pub bound_by : {A : Type 0} → Ops A → List A → (ℕ → A) → ℕ → A
bound_by o [] f = f
bound_by o (x ∷ xs) f = bound_by o xs (bound o x f)

-- every entry is 0
abbrev pub AreZero : {A : Type 0} → Ops A → (ℕ → A) → Type 0
AreZero o f = (i : ℕ) → f i ≡ o.zero

module _ {A : Type 0} (o : Ops A) where
  -- Of two claims one is not true, and with x they are joined to a true one.
  abbrev pub IsBadJoin : A → A → A → A → A → Type 0
  IsBadJoin first second true_first true_second x =
      (first ≡ true_first → second ≡ true_second → ⊥)
      × (o.plus first (o.times x second) ≡ o.plus true_first (o.times x true_second))

  -- What assertion terms count is not 0, and x times it is what a claim has too much.
  abbrev pub IsBadBeta : A → A → A → A → Type 0
  IsBadBeta claimed wires asserted x = (asserted ≢ o.zero) × (claimed ≡ o.plus wires (o.times x asserted))

  -- A claim is not what a layer sums with these variables bound, and what a round makes of it with x is what the
  -- layer sums with x bound too.
  abbrev pub IsBadRound : (ℕ → A) → Layered A → List A → A → A → A → A → Type 0
  IsBadRound point s before claimed p0 p2 x = (claimed ≢ claim o s before)
      × (next_claim o point claimed p0 p2 x ≡ claim o s (before ++ x ∷ []))

  -- With these variables bound a table is not all 0, and with x bound too it is.
  abbrev pub IsBadBinding : List A → List A → A → Type 0
  IsBadBinding values before x = (AreZero o (bound_by o before (entry o values)) → ⊥)
      × AreZero o (bound_by o (before ++ x ∷ []) (entry o values))

  -- no coordinate of the point is bad for the table
  abbrev pub HidesNothing : List A → List A → Type 0
  HidesNothing values r = (j : ℕ) → j < length r → IsBadBinding values (take j r) (entry o r j) → ⊥
