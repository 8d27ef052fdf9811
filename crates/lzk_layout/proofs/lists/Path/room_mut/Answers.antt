use Rattle.std.proofs.Common.{◌≡◌, ℕ, zero, suc, ◌≤◌, List, [], ◌∷◌, ◌++◌, take, drop, length, ap, refl, sym, ◌∙◌, arith, rules}
use Rattle.std.proofs.lemmas.List.{take-take, length-take-le}
use Rattle.lzk_layout.specs.Lists.{Digests}
use Rattle.lzk_layout.proofs.lists.Path.room_mut.Goals as goal

-- what is behind the first n elements has no part in them
front : {X : Type 0} (n : ℕ) (w items : List X) → take n (w ++ drop (length w) items) ≡ take n (w ++ drop (length w) (take n items))
front zero w items = refl
front (suc n) [] items = sym (take-take (suc n) (suc n) items (omega arith))
front (suc n) (x ∷ w) [] = refl
front (suc n) (x ∷ w) (y ∷ items) = ap (λ xs. x ∷ xs) (front n w items)

lent : (n k m : ℕ) (items w : List (List ℕ)) → n ≤ k → k ≡ length items → m ≡ length (take n items)
    → ◌≡◌ {A = Digests} (record { digests = take n (take k (w ++ drop (length w) items)); room = k }) (record { digests = take m (w ++ drop (length w) (take n items)); room = k })
lent n k m items w le e f =
    let same : n ≡ m = omega (arith, f, length-take-le n items (omega arith)) in
    ap (λ (xs : List (List ℕ)). record { digests = xs; room = k }) (take-take n k (w ++ drop (length w) items) le ∙ front n w items ∙ ap (λ (j : ℕ). take j (w ++ drop (length w) (take n items))) same)

pub returns : goal.returns
returns c = ((refl, (λ w. rw (← c.self.view_is) (lent c.self.inside.count _ _ c.self.inside.list.items w c.self.invariant c.self.inside.list.ok.0 refl))), search rules)
