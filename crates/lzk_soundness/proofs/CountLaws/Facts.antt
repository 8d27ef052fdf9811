-- What is known of draws by which too many sets of columns pass.
use Rattle.lzk_profile.specs.Profile.{opened_count}
use Rattle.std.specs.Prelude.{◌≡◌, ℕ, ◌+◌, ◌-◌, ◌*◌, ◌<◌, ◌≤◌, ◌&&◌, nat_lt, Bool, true, false, List, [], ◌∷◌, ◌++◌, length, map, take, drop}
use Rattle.std.specs.List.{AllByRecursion, range_with_len}
use Rattle.std.proofs.Common.{zero, suc, refl, sym, ap, ◌∙◌, arith, eqb, take_at, drop_at}
use Rattle.std.proofs.lemmas.Bool.{false≢true, ltb-true, lt-ltb, eqb-true, eq-eqb}
use Rattle.std.proofs.lemmas.List.{take-append-le, drop-append-le, length-drop, length-replicate}
use Rattle.std.proofs.lemmas.List.FromFn.{length-range_with_len}
use native.Mathlib.Decide.{dec_lt}
use Rattle.lzk_field.specs.Coding.{Coding}
use Rattle.lzk_field.specs.Ring.{Ops, Laws}
use Rattle.lzk_soundness.specs.Chance.Draws.{count}
use Rattle.lzk_soundness.specs.Chance.Sets.{sets_of, choose}
use Rattle.lzk_soundness.proofs.ChanceLaws.Lists.{count_more, all_of, join_all}
use Rattle.lzk_soundness.proofs.ChanceLaws.Sets.{sets_few, choose-mono}
use Rattle.lzk_circuit.specs.Valid.{Wiring}
use Rattle.lzk_layout.specs.declared.params.Params.{Params}
use Rattle.lzk_layout.specs.Proofs.{HasLengths, zero_digest}
use Rattle.lzk_layout.specs.Sizes.{AreBounded, params_of}
use Rattle.lzk_soundness.specs.Draws.Schedule.{draw_count}
use Rattle.lzk_soundness.specs.Whole.Whole.{weight_count}
use Rattle.lzk_soundness.specs.Count.Game.{Strategy, whole_count, script_draws, shown, IsPassed}
use Rattle.lzk_soundness.specs.Count.Laws.{IsPlayer}
use Rattle.lzk_soundness.proofs.CountLaws.Fronts.{found}
use Rattle.lzk_soundness.proofs.CountLaws.Masks.{flip, flip_counts}
use Rattle.lzk_soundness.proofs.CountLaws.Rows.{here, each_here}

all_mapped : {X : Type 0} (k : ℕ) (x : X) (ss : List (List X)) → AllByRecursion (λ s. length s ≡ k) ss → AllByRecursion (λ s. length s ≡ suc k) (map (λ rest. x ∷ rest) ss)
all_mapped k x [] all = tt
all_mapped k x (s ∷ ss) all = (ap suc all.0, all_mapped k x ss all.1)

pub sets_long : {X : Type 0} (k : ℕ) (xs : List X) → AllByRecursion (λ s. length s ≡ k) (sets_of k xs)
sets_long zero xs = (refl, tt)
sets_long (suc k) [] = tt
sets_long (suc k) (x ∷ xs) =
    join_all (λ s. length s ≡ suc k) (map (λ rest. x ∷ rest) (sets_of k xs)) (sets_of (suc k) xs) (all_mapped k x (sets_of k xs) (sets_long k xs)) (sets_long (suc k) xs)

-- ---- the parts of a list of draws

module _ {A : Type 0} (c : Wiring A) (x t : List A) (long : length x ≡ draw_count c + weight_count c) where
  pub script_part : script_draws c (x ++ t) ≡ take (draw_count c) x
  script_part = take-append-le (draw_count c) x t (omega (arith, long))

  pub linear_part : take (weight_count c) (drop (draw_count c) (x ++ t)) ≡ drop (draw_count c) x
  linear_part =
      ap (take (weight_count c)) (drop-append-le (draw_count c) x t (omega (arith, long)))
      ∙ take_at (drop (draw_count c) x) t (weight_count c) (length-drop (draw_count c) x ∙ omega (arith, long))

  pub other_part : drop (draw_count c + weight_count c) (x ++ t) ≡ t
  other_part = drop_at x t (draw_count c + weight_count c) long

-- what is known where too many sets pass
pub record AreTooMany {A : Type 0} (o : Ops A) (e : Coding A) (laws : Laws o e.size e.number e.element e.bytes) (c : Wiring A) (b : AreBounded (params_of c)) (public : List A) (strategy : Strategy A) (draws : List A) : Type 0 where
  pub columns : List ℕ
  pub size : length columns ≡ opened_count
  pub passed : IsPassed o e c public strategy draws columns
  pub few : count (flip (here o e laws c b public strategy draws)) (range_with_len 0 (params_of c).mcol) ≤ (params_of c).block

module _ {A : Type 0} (o : Ops A) (e : Coding A) (laws : Laws o e.size e.number e.element e.bytes) (c : Wiring A) (b : AreBounded (params_of c)) (public : List A) (strategy : Strategy A) (wins : List A → List ℕ → Bool) (player : IsPlayer o e c public strategy wins) where
  abbrev p : Params
  p = params_of c

  abbrev all_columns : List ℕ
  all_columns = range_with_len 0 p.mcol

  abbrev pub sets : List (List ℕ)
  sets = sets_of opened_count all_columns

  abbrev pub most_sets : ℕ
  most_sets = choose (3 * p.block - 1) opened_count

  -- more sets pass than three quarters of the columns have
  abbrev pub too_many : List A → Bool
  too_many draws = nat_lt most_sets (count (wins draws) sets)

  pub few_sets : (draws : List A) → too_many draws ≡ false → count (wins draws) sets ≤ most_sets
  few_sets draws not = elim (dec_lt most_sets (count (wins draws) sets)) [
    | yes more ↦ absurd (false≢true (sym not ∙ lt-ltb most_sets (count (wins draws) sets) more))
    | no less ↦ omega (arith, less)
  ]

  pub known : (draws : List A) → length draws ≡ whole_count c → too_many draws ≡ true → AreTooMany o e laws c b public strategy draws
  known draws long many =
      let more : most_sets < count (wins draws) sets = ltb-true most_sets (count (wins draws) sets) many in
      let one = found (λ s. length s ≡ opened_count) (wins draws) sets (sets_long opened_count all_columns) (omega (arith, more)) in
      let H : ℕ → Bool = here o e laws c b public strategy draws in
      let W : List ℕ → Bool = λ s. wins draws s && eqb (length s) opened_count in
      let same : count (wins draws) sets ≤ count W sets =
      count_more (wins draws) W sets (all_of (λ s. length s ≡ opened_count) (λ s. wins draws s ≡ true → W s ≡ true) (λ s size won. both_true (wins draws s) (eqb (length s) opened_count) won (eq-eqb (length s) opened_count size)) sets (sets_long opened_count all_columns)) in
      let least = sets_few H opened_count all_columns W (λ s won. each_here o e laws c b public strategy draws s
      (player.only draws s long (eqb-true (length s) opened_count (right_true (wins draws s) (eqb (length s) opened_count) won)) (left_true (wins draws s) (eqb (length s) opened_count) won))) in
      record {
        columns = one.0;
        size = one.1.0;
        passed = player.only draws one.0 long one.1.0 one.1.1;
        few = elim (dec_lt (count H all_columns) (3 * p.block)) [
          | yes less ↦ (let up = choose-mono (count H all_columns) (3 * p.block - 1) opened_count (omega (arith, less)) in absurd (omega (arith, more, same, least, up)))
          | no enough ↦ omega (arith, enough, flip_counts H all_columns, length-range_with_len 0 p.mcol, b.mcol)
        ];
      }
    where
      both_true : (x y : Bool) → x ≡ true → y ≡ true → (x && y) ≡ true
      both_true true y q r = r
      both_true false y q r = absurd (false≢true q)

      left_true : (x y : Bool) → (x && y) ≡ true → x ≡ true
      left_true true y q = refl
      left_true false y q = absurd (false≢true q)

      right_true : (x y : Bool) → (x && y) ≡ true → y ≡ true
      right_true true y q = q
      right_true false y q = absurd (false≢true q)

-- the lengths of a proof that passes
pub lengths_of : {A : Type 0} (o : Ops A) (e : Coding A) (c : Wiring A) (public : List A) (strategy : Strategy A) (draws : List A) (columns : List ℕ) → length columns ≡ opened_count
    → IsPassed o e c public strategy draws columns → HasLengths (params_of c) (shown o c strategy draws columns)
lengths_of o e c public strategy draws columns size passed = record {
  messages = passed.messages;
  ldt = passed.ldt;
  dot = passed.dot;
  quad_head = passed.quad_head;
  quad_tail = passed.quad_tail;
  nonces = length-replicate opened_count zero_digest;
  columns = passed.opened ∙ ap (λ (k : ℕ). k * (params_of c).nrow) size;
}
