-- What is opened under a root was asked before the root was named, unless an answer was named before it came.
use Rattle.std.specs.Prelude.{◌≡◌, ◌⊎◌, ℕ, ◌*◌, ◌^◌, ◌<◌, ◌≤◌, Bool, true, false, cond, List, [], ◌∷◌, ◌++◌, length}
use Rattle.std.specs.List.{AllByRecursion}
use Rattle.std.proofs.Common.{suc, inl, inr, refl, sym, subst}
use Rattle.lzk_soundness.specs.Chance.Draws.{count, draws_from, total_from}
use Rattle.lzk_soundness.specs.Chance.Few.{AreDistinct, IsIn}
use Rattle.lzk_soundness.specs.Oracle.Oracle.{IsOracle, answer, asked, AllRight}
use Rattle.lzk_soundness.specs.Oracle.Laws.{IsHit}
use Rattle.lzk_soundness.proofs.OracleLaws.Hits.{hits_few}
use Rattle.lzk_soundness.proofs.OracleLaws.Queries.{in_dec}
use Rattle.lzk_soundness.specs.Trees.Trees.{Hashing, Level, parent, climb, way, AreNames, IsLate}

-- the entries of a list put before others, one after another
abbrev since : List ℕ → List ℕ → List ℕ
since es [] = es
since es (x ∷ xs) = since (x ∷ es) xs

from_since : (m : ℕ) (es xs : List ℕ) → IsIn m (since es xs) → IsIn m es ⊎ IsIn m xs
from_since m es [] i = inl i
from_since m es (x ∷ xs) i = go (from_since m (x ∷ es) xs i)
  where
    go : ((x ≡ m) ⊎ IsIn m es) ⊎ IsIn m xs → IsIn m es ⊎ ((x ≡ m) ⊎ IsIn m xs)
    go (inl (inl e)) = inr (inl e)
    go (inl (inr j)) = inl j
    go (inr j) = inr (inr j)

to_since : (m : ℕ) (es xs : List ℕ) → IsIn m es ⊎ IsIn m xs → IsIn m (since es xs)
to_since m es [] (inl i) = i
to_since m es [] (inr i) = absurd i
to_since m es (x ∷ xs) (inl i) = to_since m (x ∷ es) xs (inl (inr i))
to_since m es (x ∷ xs) (inr (inl e)) = to_since m (x ∷ es) xs (inl (inl e))
to_since m es (x ∷ xs) (inr (inr i)) = to_since m (x ∷ es) xs (inr i)

from_append : (m : ℕ) (xs ys : List ℕ) → IsIn m (xs ++ ys) → IsIn m xs ⊎ IsIn m ys
from_append m [] ys i = inr i
from_append m (x ∷ xs) ys (inl e) = inl (inl e)
from_append m (x ∷ xs) ys (inr i) = go (from_append m xs ys i)
  where
    go : IsIn m xs ⊎ IsIn m ys → ((x ≡ m) ⊎ IsIn m xs) ⊎ IsIn m ys
    go (inl j) = inl (inr j)
    go (inr j) = inr j

module _ {L X : Type 0} (h : Hashing L X) (none : X) (oracle : List X) (names : ℕ → List X) (are : AreNames h names) where
  abbrev Hit : List ℕ → List X → ℕ → Type 0
  Hit = IsHit none names

  -- behind a first part of a list
  right_behind : (es xs ys : List ℕ) → AllRight Hit es oracle (xs ++ ys) → AllRight Hit (since es xs) oracle ys
  right_behind es [] ys right = right
  right_behind es (x ∷ xs) ys right = right_behind (x ∷ es) xs ys right.1

  -- what answers a name of an earlier question, is earlier
  first_one : (es : List ℕ) (n : ℕ) → ((IsIn n es → ⊥) → Hit es oracle n → ⊥) → (k : ℕ) → IsIn k (n ∷ es) → IsIn (answer none oracle n) (names k) → IsIn n es
  first_one es n right k i named = elim (in_dec n es) [
    | yes j ↦ j
    | no new ↦ absurd (right new (k, (i, named)))
  ]

  named_before : (es ns : List ℕ) → AllRight Hit es oracle ns → (k : ℕ) → IsIn k es → (m : ℕ) → IsIn m ns → IsIn (answer none oracle m) (names k) → IsIn m es
  named_before es [] right k i m j named = absurd j
  named_before es (n ∷ ns) right k i m (inl e) named =
      subst (λ x. IsIn x es) e (first_one es n right.0 k (inr i) (subst (λ x. IsIn (answer none oracle x) (names k)) (sym e) named))
  named_before es (n ∷ ns) right k i m (inr j) named = go (named_before (n ∷ es) ns right.1 k (inr i) m j named)
    where
      go : (n ≡ m) ⊎ IsIn m es → IsIn m es
      go (inl e) = subst (λ x. IsIn x es) e (first_one es n right.0 k (inr i) (subst (λ x. IsIn (answer none oracle x) (names k)) (sym e) named))
      go (inr l) = l

  module _ (before : List ℕ) (n : ℕ) (behind : List ℕ) (right : AllRight Hit [] oracle (before ++ n ∷ behind)) where
    abbrev es : List ℕ
    es = since [] before

    in_before : (m : ℕ) → IsIn m es → IsIn m before
    in_before m i = go (from_since m [] before i)
      where
        go : ⊥ ⊎ IsIn m before → IsIn m before
        go (inl j) = absurd j
        go (inr j) = j

    -- it is this question or one before it
    abbrev IsEarly : ℕ → Type 0
    IsEarly k = (k ≡ n) ⊎ IsIn k before

    early_in : (k : ℕ) → IsEarly k → IsIn k (n ∷ es)
    early_in k (inl e) = inl (sym e)
    early_in k (inr i) = inr (to_since k [] before (inr i))

    from_right : AllRight Hit es oracle (n ∷ behind)
    from_right = right_behind [] before (n ∷ behind) right

    -- what answers a name of an early question was asked before
    asked_before : (k m : ℕ) → IsEarly k → IsIn m (before ++ n ∷ behind) → IsIn (answer none oracle m) (names k) → IsIn m before
    asked_before k m early i named = by_part (from_append m before (n ∷ behind) i)
      where
        this_one : n ≡ m → IsIn m before
        this_one e =
            in_before m (subst (λ x. IsIn x es) e (first_one es n from_right.0 k (early_in k early) (subst (λ x. IsIn (answer none oracle x) (names k)) (sym e) named)))

        later : (n ≡ m) ⊎ IsIn m es → IsIn m before
        later (inl e) = this_one e
        later (inr j) = in_before m j

        by_part : IsIn m before ⊎ ((n ≡ m) ⊎ IsIn m behind) → IsIn m before
        by_part (inl j) = j
        by_part (inr (inl e)) = this_one e
        by_part (inr (inr j)) = later (named_before (n ∷ es) behind from_right.1 k (early_in k early) m j named)

    -- a digest is named by an early question
    abbrev IsKnown : X → Type 0
    IsKnown d = (k : ℕ) × (IsEarly k × IsIn d (names k))

    child_named : (side : Bool) (s d : X) → IsIn d (names (cond side (h.join s d) (h.join d s)))
    child_named true s d = are.right s d
    child_named false s d = are.left d s

    -- down a path
    down : (root : X) → IsIn root (names n) → (path : List (Level X)) (d : X) → climb h none oracle d path ≡ root
        → AllByRecursion (λ m. IsIn m (before ++ n ∷ behind)) (way h none oracle d path)
        → AllByRecursion (λ m. IsIn m before) (way h none oracle d path) × IsKnown d
    down root named [] d leads all = (tt, (n, (inl refl, subst (λ x. IsIn x (names n)) (sym leads) named)))
    down root named (level ∷ path) d leads all =
        let q : ℕ = parent h none oracle level d in
        let above = down root named path (answer none oracle q) leads all.1 in
        let here : IsIn q before = asked_before above.1.0 q above.1.1.0 all.0 above.1.1.1 in
        ((here, above.0), (q, (inr here, child_named level.right level.sibling d)))

  pub none_late : (numbers : List ℕ) → AllRight Hit [] oracle numbers → IsLate h none oracle names numbers → ⊥
  none_late numbers right it =
      let right_now : AllRight Hit [] oracle (it.before ++ it.question ∷ it.behind) = subst (AllRight Hit [] oracle) it.order right in
      let d : X = answer none oracle (h.leaf it.leaf) in
      let all = subst (λ ns. AllByRecursion (λ m. IsIn m ns) (way h none oracle d it.opened.path)) it.order it.opened.asked in
      let found = down it.before it.question it.behind right_now it.root it.named it.opened.path d it.opened.leads all in
      let leaf_there : IsIn (h.leaf it.leaf) (it.before ++ it.question ∷ it.behind) = subst (IsIn (h.leaf it.leaf)) it.order it.opened.leaf_asked in
      it.late (asked_before it.before it.question it.behind right_now found.1.0 (h.leaf it.leaf) found.1.1.0 leaf_there found.1.1.1) found.0

pub openings_precede : {L X : Type 0} (same : (x y : X) → Dec (x ≡ y)) (h : Hashing L X) (none : X) (answers : List X) (questions tries most : ℕ) (names : ℕ → List X) (ask : List X → ℕ) (wins : List X → Bool)
    → AreDistinct answers → ((n : ℕ) → length (names n) ≤ most) → AreNames h names → ((before : List X) → ask before < questions)
    → ((oracle : List X) → IsOracle answers questions oracle → wins oracle ≡ true → IsLate h none oracle names (asked none ask oracle tries))
    → count wins (draws_from answers questions) * length answers ≤ total_from (λ k. most * suc k) 0 tries * length answers ^ questions
openings_precede same h none answers questions tries most names ask wins distinct few are inside only =
    hits_few same none answers questions most names distinct few tries ask wins (record {
      inside = inside;
      only = λ oracle is won right. none_late h none oracle names are (asked none ask oracle tries) right (only oracle is won);
    })
