-- Passes that are dealt out of one, and gathered into one.
use Rattle.std.proofs.Common.{All, ◌≡◌, ℕ, ◌+◌, ◌-◌, ◌<◌, ◌≤◌, List, [], ◌∷◌, ◌++◌, length, length-append, refl, sym, ap, subst, ◌∙◌, arith}
use Rattle.std.specs.Prelude.{sum_by, Some}
use Rattle.atomic_table.specs.Seated.{TableId}
use Rattle.std.proofs.lemmas.List.Elements.{All-nil, All-push, All-pop}
use Rattle.std.proofs.lemmas.List.Sums.{sum_by_push}
use Rattle.lzk_batch.specs.Tickets.{times, most_workers, HasEachBelowOnce}
use Rattle.lzk_batch.specs.Passes.{TicketsState, PassState, IsOf, HasDrawnNothing, AreAll, shares_of, drawn_of, fresh, joined}
use Rattle.lzk_batch.proofs.Weights.{mark, sum_flat, times-append}

abbrev share : PassState → ℕ
share p = 1 + p.spare

-- the passes that were dealt so far, and the first one, which has all other shares
pub record Dealt (workers : ℕ) (table : TableId) (first : PassState) (passes : List PassState) : Type 0 where
  pub is : first ≡ fresh table (63 - length passes)
  pub few : length passes < workers
  pub of : All (λ p. p.table ≡ table) passes
  pub nothing : All HasDrawnNothing passes
  pub shares : shares_of passes ≡ length passes

pub dealt_none : (workers : ℕ) (table : TableId) (first : PassState) (passes : List PassState) → passes ≡ [] → 1 ≤ workers → first ≡ fresh table 63 → Dealt workers first.table first passes
dealt_none workers table first passes none some is =
    let same : first.table ≡ table = ap (λ (p : PassState). p.table) is in
    let begun : Dealt workers table first [] = record {
      is = is;
      few = omega arith;
      of = All-nil (λ p. p.table ≡ table);
      nothing = All-nil HasDrawnNothing;
      shares = refl;
    } in
    subst (λ t. Dealt workers t first passes) (sym same) (subst (Dealt workers table first) (sym none) begun)

pub length_push : {A : Type 0} (xs : List A) (x : A) → length (xs ++ x ∷ []) ≡ length xs + 1
length_push xs x = length-append xs (x ∷ [])

pub dealt_more : (workers : ℕ) (table : TableId) (first first' new : PassState) (passes passes' : List PassState) → workers ≤ most_workers → length passes + 1 < workers
    → first' ≡ fresh table (first.spare - 1) → new ≡ fresh table 0 → passes' ≡ passes ++ new ∷ [] → Dealt workers table first passes → Dealt workers table first' passes'
dealt_more workers table first first' new passes passes' most more is new_is put d =
    let len : length (passes ++ new ∷ []) ≡ length passes + 1 = length_push passes new in
    let spare : first.spare ≡ 63 - length passes = ap (λ (p : PassState). p.spare) d.is in
    let left : first.spare - 1 ≡ 63 - length (passes ++ new ∷ []) = omega (arith, spare, len) in
    let one : share new ≡ 1 = ap share new_is in
    rw put (record {
      is = is ∙ ap (fresh table) left;
      few = omega (arith, len, more);
      of = All-push (λ p. p.table ≡ table) passes new d.of (ap (λ (p : PassState). p.table) new_is);
      nothing = All-push HasDrawnNothing passes new d.nothing (ap (λ (p : PassState). p.drawn) new_is);
      shares = omega (arith, sum_by_push share passes new, d.shares, len, one);
    })

pub dealt_all : (workers : ℕ) (tickets : TicketsState) (table : TableId) (first : PassState) (passes all : List PassState) → workers ≤ most_workers → table ≡ tickets.table → all ≡ passes ++ first ∷ []
    → Dealt workers table first passes → AreAll tickets all
dealt_all workers tickets table first passes all most same put d =
    let spare : first.spare ≡ 63 - length passes = ap (λ (p : PassState). p.spare) d.is in
    rw put (record {
      of = rw (← same) (All-push (λ p. p.table ≡ table) passes first d.of (ap (λ (p : PassState). p.table) d.is));
      shares = omega (arith, sum_by_push share passes first, d.shares, spare, d.few, most);
    })

pub dealt_nothing : (workers : ℕ) (table : TableId) (first : PassState) (passes all : List PassState) → all ≡ passes ++ first ∷ [] → Dealt workers table first passes → All HasDrawnNothing all
dealt_nothing workers table first passes all put d = rw put (All-push HasDrawnNothing passes first d.nothing (ap (λ (p : PassState). p.drawn) d.is))

-- the passes that are still to be gathered, and the one that has taken in the others
pub record Gathered (tickets : TicketsState) (all passes : List PassState) (one : PassState) : Type 0 where
  pub of : All (IsOf tickets) passes
  pub one_of : IsOf tickets one
  pub shares : shares_of passes + (1 + one.spare) ≡ most_workers
  pub drawn : (x : ℕ) → times x (drawn_of passes) + times x one.drawn ≡ times x (drawn_of all)

drawn_push : (x : ℕ) (passes : List PassState) (p : PassState) → times x (drawn_of (passes ++ p ∷ [])) ≡ times x (drawn_of passes) + times x p.drawn
drawn_push x passes p =
    sum_flat (mark x) (λ q. q.drawn) (passes ++ p ∷ [])
    ∙ (sum_by_push (λ (q : PassState). times x q.drawn) passes p
    ∙ ap (λ n. n + times x p.drawn) (sym (sum_flat (mark x) (λ (q : PassState). q.drawn) passes)))

pub gathered_one : (tickets : TicketsState) (all passes : List PassState) (one : PassState) → all ≡ passes ++ one ∷ [] → AreAll tickets all → Gathered tickets all passes one
gathered_one tickets all passes one is a =
    let of = All-pop (IsOf tickets) all passes (Some one) is a.of in
    let whole : shares_of all ≡ shares_of passes + share one = ap (sum_by share) is ∙ sum_by_push share passes one in
    record {
      of = of.0;
      one_of = of.1;
      shares = omega (arith, whole, a.shares);
      drawn = λ x. sym (ap (λ ps. times x (drawn_of ps)) is ∙ drawn_push x passes one);
    }

pub gathered_more : (tickets : TicketsState) (all passes rest : List PassState) (one pass both : PassState) → passes ≡ rest ++ pass ∷ [] → both ≡ joined one pass
    → Gathered tickets all passes one → Gathered tickets all rest both
gathered_more tickets all passes rest one pass both is join g =
    let of = All-pop (IsOf tickets) passes rest (Some pass) is g.of in
    let parts : shares_of passes ≡ shares_of rest + share pass = ap (sum_by share) is ∙ sum_by_push share rest pass in
    let spare : both.spare ≡ one.spare + pass.spare + 1 = ap (λ (p : PassState). p.spare) join in
    let drawn : both.drawn ≡ one.drawn ++ pass.drawn = ap (λ (p : PassState). p.drawn) join in
    record {
      of = of.0;
      one_of = ap (λ (p : PassState). p.table) join ∙ g.one_of;
      shares = omega (arith, parts, spare, g.shares);
      drawn = λ x.
          let mine : times x both.drawn ≡ times x one.drawn + times x pass.drawn = ap (times x) drawn ∙ times-append x one.drawn pass.drawn in
          let theirs : times x (drawn_of passes) ≡ times x (drawn_of rest) + times x pass.drawn = ap (λ ps. times x (drawn_of ps)) is ∙ drawn_push x rest pass in
          omega (arith, mine, theirs, g.drawn x);
    }

-- what must be gathered of a pass that is taken out
pub gathered_of : (tickets : TicketsState) (all passes rest : List PassState) (one pass : PassState) → passes ≡ rest ++ pass ∷ [] → Gathered tickets all passes one → IsOf tickets pass
gathered_of tickets all passes rest one pass is g = (All-pop (IsOf tickets) passes rest (Some pass) is g.of).1

pub gathered_whole : (tickets : TicketsState) (all passes : List PassState) (one : PassState) → passes ≡ [] → Gathered tickets all passes one → one.spare ≡ 63
gathered_whole tickets all passes one none g =
    let nothing : shares_of passes ≡ 0 = ap shares_of none in
    omega (arith, nothing, g.shares)

pub gathered_all : (tickets : TicketsState) (all passes : List PassState) (one : PassState) (word : ℕ) → passes ≡ [] → Gathered tickets all passes one
    → HasEachBelowOnce word one.drawn → HasEachBelowOnce word (drawn_of all)
gathered_all tickets all passes one word none g once x =
    let nothing : times x (drawn_of passes) ≡ 0 = ap (λ ps. times x (drawn_of ps)) none in
    omega (arith, nothing, g.drawn x, once x)
