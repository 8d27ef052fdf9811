-- Reading trees and reading meanings go the same way.
use Rattle.std.proofs.Common.{◌≡◌, ℕ, Bool, true, false, List, [], ◌∷◌, map, Option, Some, None, refl, sym, ◌∙◌, ap}
use Rattle.std.specs.Option.{option_map}
use Rattle.lzk_expr.specs.Tokens.{Token}
use Rattle.lzk_expr.specs.Tokens as token
use Rattle.lzk_expr.specs.Grammar as g
use Rattle.lzk_expr.specs.Trees as tree
use Rattle.lzk_expr.proofs.Machine.{and_then, run, ended, sum_of, Before, State, Need, Have, signed, times, plus, atom, step, close, minus_before, nothing}
use Rattle.lzk_expr.specs.Meanings.{Half, Reads, multiplied, added, negated, with_atom, parts_of_half, next_part, next, empty, half_closed, minus_next, whole, ends, token_step, reads_all, then_reads}
use Rattle.lzk_expr.specs.Meanings as meaning

module _ (number : ℕ → tree.Expr) (name : List ℕ → tree.Expr) where
  abbrev pub parts_ahead : Option (Bool × g.Sum) → tree.Parts
  parts_ahead None = tree.NoPart
  parts_ahead (Some s) = tree.sum_parts number name s.1

  abbrev pub sign_ahead : Option (Bool × g.Sum) → Bool
  sign_ahead None = false
  sign_ahead (Some s) = s.0

  abbrev pub factors_ahead : Option g.Product → tree.Exprs
  factors_ahead None = tree.NoExpr
  factors_ahead (Some p) = tree.product_factors number name p

  abbrev pub half_before : Before → Half
  half_before b = record { parts = parts_ahead b.sum; minus = sign_ahead b.sum; factors = factors_ahead b.product; negated = b.minus }

  abbrev pub reads_of : State → Reads
  reads_of (Need outer b) = record { outer = map half_before outer; now = half_before b; ready = false }
  reads_of (Have outer sum p) = record { outer = map half_before outer; now = record { parts = parts_ahead sum; minus = sign_ahead sum; factors = tree.product_factors number name p; negated = false }; ready = true }

  -- ---- a product of several factors, a sum of several parts

  abbrev SomeFactors : tree.Exprs → Type 0
  SomeFactors es = (e : tree.Expr) × (fs : tree.Exprs) × (es ≡ tree.factor e fs)

  some_factors : (p : g.Product) → SomeFactors (tree.product_factors number name p)
  some_factors (g.Lone f) = (tree.factor_means number name f, tree.NoExpr, refl)
  some_factors (g.Times p f) = let h = some_factors p in (h.0, tree.add_factor h.1 (tree.factor_means number name f), ap (λ (es : tree.Exprs). tree.add_factor es (tree.factor_means number name f)) h.2)

  many_factors : (fs : tree.Exprs) (e f : tree.Expr) → multiplied (tree.factor e (tree.add_factor fs f)) ≡ tree.Multiplied (tree.factor e (tree.add_factor fs f))
  many_factors tree.NoExpr e f = refl
  many_factors (tree.factor h fs) e f = refl

  more_factors : (es : tree.Exprs) (f : tree.Expr) → SomeFactors es → multiplied (tree.add_factor es f) ≡ tree.Multiplied (tree.add_factor es f)
  more_factors es f h = rw h.2 (many_factors h.1 h.0 f)

  pub product_is : (p : g.Product) → multiplied (tree.product_factors number name p) ≡ tree.product_means number name p
  product_is (g.Lone f) = refl
  product_is (g.Times p f) = more_factors (tree.product_factors number name p) (tree.factor_means number name f) (some_factors p)

  abbrev SomeParts : tree.Parts → Type 0
  SomeParts ps = (m : Bool) × (e : tree.Expr) × (qs : tree.Parts) × (ps ≡ tree.part m e qs)

  some_parts : (s : g.Sum) → SomeParts (tree.sum_parts number name s)
  some_parts (g.Single p) = (false, tree.product_means number name p, tree.NoPart, refl)
  some_parts (g.Plus s p) = let h = some_parts s in (h.0, h.1, tree.add_part h.2 false (tree.product_means number name p), ap (λ (ps : tree.Parts). tree.add_part ps false (tree.product_means number name p)) h.3)
  some_parts (g.Less s p) = let h = some_parts s in (h.0, h.1, tree.add_part h.2 true (tree.product_means number name p), ap (λ (ps : tree.Parts). tree.add_part ps true (tree.product_means number name p)) h.3)

  many_parts : (qs : tree.Parts) (m n : Bool) (e f : tree.Expr) → added (tree.part m e (tree.add_part qs n f)) ≡ tree.Added (tree.part m e (tree.add_part qs n f))
  many_parts tree.NoPart m n e f = refl
  many_parts (tree.part o h qs) m n e f = refl

  more_parts : (ps : tree.Parts) (n : Bool) (f : tree.Expr) → SomeParts ps → added (tree.add_part ps n f) ≡ tree.Added (tree.add_part ps n f)
  more_parts ps n f h = rw h.3 (many_parts h.2 h.0 n h.1 f)

  pub sum_is : (s : g.Sum) → added (tree.sum_parts number name s) ≡ tree.sum_means number name s
  sum_is (g.Single p) = refl
  sum_is (g.Plus s p) = more_parts (tree.sum_parts number name s) false (tree.product_means number name p) (some_parts s)
  sum_is (g.Less s p) = more_parts (tree.sum_parts number name s) true (tree.product_means number name p) (some_parts s)

  -- ---- one step

  signed_is : (m : Bool) (a : g.Atom) → tree.factor_means number name (signed m a) ≡ negated m (tree.atom_means number name a)
  signed_is false a = refl
  signed_is true a = refl

  times_is : (p : Option g.Product) (f : g.Factor) → tree.product_factors number name (times p f) ≡ tree.add_factor (factors_ahead p) (tree.factor_means number name f)
  times_is None f = refl
  times_is (Some p) f = refl

  plus_is : (sum : Option (Bool × g.Sum)) (p : g.Product) → tree.sum_parts number name (plus sum p) ≡ tree.add_part (parts_ahead sum) (sign_ahead sum) (tree.product_means number name p)
  plus_is None p = refl
  plus_is (Some (false, s)) p = refl
  plus_is (Some (true, s)) p = refl

  abbrev have : List Half → tree.Parts → Bool → tree.Exprs → Reads
  have outer parts minus factors = record { outer = outer; now = record { parts = parts; minus = minus; factors = factors; negated = false }; ready = true }

  atom_is : (outer : List Before) (b : Before) (a : g.Atom) → reads_of (atom outer b a) ≡ record { outer = map half_before outer; now = with_atom (half_before b) (tree.atom_means number name a); ready = true }
  atom_is outer b a = ap (have (map half_before outer) (parts_ahead b.sum) (sign_ahead b.sum)) (times_is b.product (signed b.minus a) ∙ ap (tree.add_factor (factors_ahead b.product)) (signed_is b.minus a))

  abbrev waits : List Half → Bool → tree.Parts → Option Reads
  waits outer minus parts = Some (record { outer = outer; now = record { parts = parts; minus = minus; factors = tree.NoExpr; negated = false }; ready = false })

  whole_parts : (sum : Option (Bool × g.Sum)) (p : g.Product) → tree.sum_parts number name (plus sum p) ≡ tree.add_part (parts_ahead sum) (sign_ahead sum) (multiplied (tree.product_factors number name p))
  whole_parts sum p = plus_is sum p ∙ ap (tree.add_part (parts_ahead sum) (sign_ahead sum)) (sym (product_is p))

  minus_is : (outer : List Before) (b : Before) (m : Bool) → option_map reads_of (minus_before outer b m) ≡ minus_next (reads_of (Need outer b)) m
  minus_is outer b false = refl
  minus_is outer b true = refl

  abbrev some : {A : Type 0} → A → Option A
  some x = Some x

  close_is : (outer : List Before) (sum : Option (Bool × g.Sum)) (p : g.Product) → option_map reads_of (close outer (plus sum p)) ≡ half_closed (map half_before outer) (added (tree.add_part (parts_ahead sum) (sign_ahead sum) (multiplied (tree.product_factors number name p))))
  close_is [] sum p = refl
  close_is (b ∷ outer) sum p =
      ap some (atom_is outer b (g.Group (plus sum p)))
      ∙ ap (λ (e : tree.Expr). half_closed (half_before b ∷ map half_before outer) e) (sym (sum_is (plus sum p)) ∙ ap added (whole_parts sum p))

  pub step_is : (s : State) (t : Token) → option_map reads_of (step s t) ≡ next (reads_of s) (token_step number name t)
  unfolding step next
  step_is (Need outer b) (token.Number n) = ap some (atom_is outer b (g.Number n))
  step_is (Need outer b) (token.Name x) = ap some (atom_is outer b (g.Name x))
  step_is (Need outer b) token.Open = refl
  step_is (Need outer b) token.Minus = minus_is outer b b.minus
  step_is (Need outer b) token.Plus = refl
  step_is (Need outer b) token.Times = refl
  step_is (Need outer b) token.Close = refl
  step_is (Need outer b) token.Equals = refl
  step_is (Need outer b) (token.Key k) = refl
  step_is (Need outer b) token.Misspelt = refl
  step_is (Need outer b) token.Other = refl
  step_is (Have outer sum p) token.Times = refl
  step_is (Have outer sum p) token.Plus = ap (waits (map half_before outer) false) (whole_parts sum p)
  step_is (Have outer sum p) token.Minus = ap (waits (map half_before outer) true) (whole_parts sum p)
  step_is (Have outer sum p) token.Close = close_is outer sum p
  step_is (Have outer sum p) (token.Number n) = refl
  step_is (Have outer sum p) (token.Name x) = refl
  step_is (Have outer sum p) token.Open = refl
  step_is (Have outer sum p) token.Equals = refl
  step_is (Have outer sum p) (token.Key k) = refl
  step_is (Have outer sum p) token.Misspelt = refl
  step_is (Have outer sum p) token.Other = refl

  run_step : (s : State) (ts : List Token) (o : Option State) → ((next : State) → o ≡ Some next → option_map reads_of (run next ts) ≡ reads_all number name (reads_of next) ts)
      → option_map reads_of (and_then o (λ next. run next ts)) ≡ then_reads (option_map reads_of o) (λ more. reads_all number name more ts)
  run_step s ts None h = refl
  run_step s ts (Some next) h = h next refl

  pub run_is : (s : State) (ts : List Token) → option_map reads_of (run s ts) ≡ reads_all number name (reads_of s) ts
  unfolding run reads_all
  run_is s [] = refl
  run_is s (t ∷ ts) = run_step s ts (step s t) (λ next e. run_is next ts) ∙ ap (λ o. then_reads o (λ more. reads_all number name more ts)) (step_is s t)

  pub ended_is : (s : State) → option_map (tree.sum_means number name) (ended s) ≡ ends (reads_of s)
  ended_is (Need outer b) = refl
  ended_is (Have [] sum p) = ap some (sym (sum_is (plus sum p)) ∙ ap added (whole_parts sum p))
  ended_is (Have (b ∷ outer) sum p) = refl

  -- the expression that tokens are, if any
  both_is : (o : Option State) → option_map (tree.sum_means number name) (and_then o ended) ≡ meaning.ends_of (option_map reads_of o)
  both_is None = refl
  both_is (Some s) = ended_is s

  pub sum_of_is : (ts : List Token) → option_map (tree.sum_means number name) (sum_of ts) ≡ meaning.sum_read number name ts
  unfolding sum_of
  sum_of_is ts = both_is (run (Need [] nothing) ts) ∙ ap meaning.ends_of (run_is (Need [] nothing) ts)
