-- One part more, and one factor more, at the end.
use Rattle.std.specs.Prelude.{◌≡◌, ℕ, Bool, true, false, ◌&&◌, cond, [], ◌∷◌, ◌++◌, Option, Some, None, unwrap_or}
use Rattle.std.proofs.Common.{refl, sym, ap, ◌∙◌}
use Rattle.lzk_field.specs.Ring.{Ops, RingLaws}
use Rattle.lzk_expr.specs.Trees.{Expr, Parts, NoPart, part, Exprs, NoExpr, factor, add_part, add_factor}
use Rattle.lzk_expr.specs.SourceValues.{Given, signed, value_of, parts_value}
use Rattle.lzk_level.specs.declared.lets.Operand.{Operand}
use Rattle.lzk_level.specs.declared.lets.Operand.TheVariants.{Constant, AtNode}
use Rattle.lzk_level.specs.Nodes.{Nodes}
use Rattle.lzk_level.specs.Compiling.{Scope, is_constant, are_constant_parts, constants, constant, constant_parts, constant_factor, MadeParts, MadeFactors, made, made_parts, made_factors, factored, let_operand}
use Rattle.lzk_level.specs.Steps.{times_before, number_with, total_with}

and-assoc : (a b c : Bool) → (a && (b && c)) ≡ ((a && b) && c)
and-assoc true b c = refl
and-assoc false b c = refl

and-true : (b : Bool) → (b && true) ≡ b
and-true true = refl
and-true false = refl

-- ---- values
module _ {A : Type 0} (g : Given A) (r : RingLaws g.ops) where
  pub parts-value-more : (ps : Parts) (m : Bool) (e : Expr) → parts_value g (add_part ps m e) ≡ g.ops.plus (parts_value g ps) (signed g.ops m (value_of g e))
  parts-value-more NoPart m e = r.plus_comm (signed g.ops m (value_of g e)) g.ops.zero
  parts-value-more (part k f ps) m e =
      ap (g.ops.plus (signed g.ops k (value_of g f))) (parts-value-more ps m e)
      ∙ sym (r.plus_assoc (signed g.ops k (value_of g f)) (parts_value g ps) (signed g.ops m (value_of g e)))

-- ---- constants
module _ {A : Type 0} (s : Scope A) where
  pub constant-parts-more : (ps : Parts) (m : Bool) (e : Expr) → are_constant_parts s (add_part ps m e) ≡ (are_constant_parts s ps && is_constant s e)
  constant-parts-more NoPart m e = and-true (is_constant s e)
  constant-parts-more (part k f ps) m e = ap (λ b. is_constant s f && b) (constant-parts-more ps m e) ∙ and-assoc (is_constant s f) (are_constant_parts s ps) (is_constant s e)

module _ {A : Type 0} (o : Ops A) (r : RingLaws o) where
  total-at : (b c m : Bool) (t x y : A) (k : ℕ) → y ≡ o.plus t (signed o m x) → cond (b && c) (Some y) None ≡ total_with o m (cond b (Some t) None) (cond c (Constant x) (AtNode k))
  total-at true true m t x y k h = ap Some h
  total-at true false m t x y k h = refl
  total-at false true m t x y k h = refl
  total-at false false m t x y k h = refl

  number-first : (c : Bool) (x : A) (k : ℕ) → cond c (Some (o.times x o.one)) None ≡ number_with o None (cond c (Constant x) (AtNode k))
  number-first true x k = ap Some (r.times_one x)
  number-first false x k = refl

  number-before : (d c : A) (b : Option A) → o.times d (times_before o b c) ≡ o.times (o.times d (unwrap_or b o.one)) c
  number-before d c None = ap (λ y. o.times y c) (sym (r.times_one d))
  number-before d c (Some b) = sym (r.times_assoc d b c)

  number-one : (d : A) (b : Option A) (x : Operand A) → Some (o.times d (unwrap_or (number_with o b x) o.one)) ≡ number_with o (Some (o.times d (unwrap_or b o.one))) x
  number-one d b (Constant c) = ap Some (number-before d c b)
  number-one d b (AtNode k) = refl

  number-at : (c : Bool) (d : A) (b new : Option A) (x : Operand A) → new ≡ number_with o b x → cond c (Some (o.times d (unwrap_or new o.one))) new ≡ number_with o (cond c (Some (o.times d (unwrap_or b o.one))) b) x
  number-at true d b new x h = ap (λ y. Some (o.times d (unwrap_or y o.one))) h ∙ number-one d b x
  number-at false d b new x h = h

module _ {A : Type 0} (s : Scope A) (r : RingLaws s.ops) where
  -- the value of constant parts, where one may be a node
  pub total-more : (n : Nodes A) (ps : Parts) (m : Bool) (e : Expr) → constant_parts s (add_part ps m e) ≡ total_with s.ops m (constant_parts s ps) (let_operand s n e)
  total-more n ps m e =
      let more = parts_value (constants s) (add_part ps m e) in
      ap (λ b. cond b (Some more) None) (constant-parts-more s ps m e)
      ∙ total-at s.ops r (are_constant_parts s ps) (is_constant s e) m (parts_value (constants s) ps) (constant s e) more (made s n e).node (parts-value-more (constants s) r ps m e)

  -- the product of the constant factors
  pub number-more : (n : Nodes A) (es : Exprs) (e : Expr) → constant_factor s (add_factor es e) ≡ number_with s.ops (constant_factor s es) (let_operand s n e)
  number-more n NoExpr e = number-first s.ops r (is_constant s e) (constant s e) (made s n e).node
  number-more n (factor f es) e = number-at s.ops r (is_constant s f) (constant s f) (constant_factor s es) _ (let_operand s n e) (number-more n es e)

-- ---- nodes
module _ {A : Type 0} (s : Scope A) where
  -- with a part behind them
  abbrev pub parts_then : MadeParts A → Bool → Expr → MadeParts A
  parts_then p m e = record { nodes = (made s p.nodes e).nodes; parts = p.parts ++ (signed s.ops m s.ops.one, (made s p.nodes e).node) ∷ [] }

  pub parts-more : (n : Nodes A) (ps : Parts) (m : Bool) (e : Expr) → made_parts s n (add_part ps m e) ≡ parts_then (made_parts s n ps) m e
  parts-more n NoPart m e = refl
  parts-more n (part k f ps) m e =
      ap (λ (p : MadeParts A). record { nodes = p.nodes; parts = (signed s.ops k s.ops.one, (made s n f).node) ∷ p.parts }) (parts-more (made s n f).nodes ps m e)

  -- with a factor behind them
  abbrev pub factors_then : MadeFactors A → Expr → MadeFactors A
  factors_then p e = factored s p.nodes p.node e (made s p.nodes e)

  pub factors-more : (n : Nodes A) (before : Option ℕ) (es : Exprs) (e : Expr) → made_factors s n before (add_factor es e) ≡ factors_then (made_factors s n before es) e
  factors-more n before NoExpr e = refl
  factors-more n before (factor f es) e = let m = factored s n before f (made s n f) in factors-more m.nodes m.node es e
