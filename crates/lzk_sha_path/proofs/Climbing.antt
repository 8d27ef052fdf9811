-- Levels above levels: paths of private inputs, and paths of nodes.
use Rattle.std.proofs.Common.{◌≡◌, ℕ, ◌+◌, ◌*◌, ◌/◌, ◌%◌, ◌^◌, ◌<◌, ◌≤◌, List, [], ◌∷◌, ◌++◌, length, map, take, drop, zero, suc, refl, sym, ap, subst, ◌∙◌, arith, slice_index, slice_index_or, ext_get_or, length-append, length-drop}
use Rattle.std.specs.Prelude.{Bool, true, false, if◌then◌else◌, nat_lt, ◌↔◌}
use Rattle.std.proofs.Math.Nat.{pow-suc}
use Rattle.std.proofs.Math.Seq.{take-append_seam, drop-append-add}
use Rattle.std.proofs.lemmas.List.{length-map, get_or-map, length-take-le}
use Rattle.lzk_circuit.specs.declared.layer.Layer.{Layer}
use Rattle.lzk_circuit.specs.Checks.{IsSatisfied}
use Rattle.lzk_circuit.specs.Wires.{inputs_of}
use Rattle.lzk_goldilocks.specs.Elements.{ops, number, of_number}
use Rattle.lzk_goldilocks.specs.declared.element.Gold.{Gold}
use Rattle.lzk_sha_circuit.specs.Compression.{IsState}
use Rattle.lzk_sha_circuit.proofs.Compressed.{length-compress}
use Rattle.lzk_sha_circuit.proofs.Messages.{compress_below}
use Rattle.lzk_sha_circuit.proofs.Numbered.{gold_numbered}
use Rattle.lzk_sha_path.specs.Climbs.{private_count, between, AreClimbing, IsClimb}
use Rattle.lzk_sha_path.specs.Levels.{IsLevel}
use Rattle.lzk_sha_path.specs.Roots.{block_of, node_state, node_of, parent_of, root_of, AreNodes}
use Rattle.lzk_sha_path.proofs.LevelLaws.{Step, level_forward, level_backward}

-- ---- nodes

-- words are the same where their elements are
pub same_state : (h k : List ℕ) → IsState h → IsState k → map of_number h ≡ map of_number k → h ≡ k
same_state h k hh hk e =
    ext_get_or 0 h k (let a = hh.eight in let b = hk.eight in omega (arith, a, b)) (λ i lt.
    let a = hh.eight in
    let b = hk.eight in
    let inside : i < length k = omega (arith, a, b, lt) in
    let x = hh.words i lt in
    let y = hk.words i inside in
    gold_numbered.same (slice_index h i) (slice_index k i) (omega (arith, x)) (omega (arith, y))
    (sym (get_or-map of_number h i 0 ops.zero lt) ∙ ap (λ (l : List Gold). slice_index_or l i ops.zero) e ∙ get_or-map of_number k i 0 ops.zero inside))

pub node_is : (left right : List ℕ) → IsState (node_of left right)
node_is left right =
    let eight = length-compress node_state (block_of left right) in
    record { eight = eight; words = λ k lt. compress_below node_state (block_of left right) k (omega (arith, eight, lt)) }

either_state : (b : Bool) (x y : List ℕ) → IsState x → IsState y → IsState (if b then x else y)
either_state true x y hx hy = hx
either_state false x y hx hy = hy

pub parent_state : (index : ℕ) (node sibling : List ℕ) → IsState (parent_of index node sibling)
parent_state index node sibling =
    either_state (nat_lt (index % 2) 1) (node_of node sibling) (node_of sibling node) (node_is node sibling) (node_is sibling node)

pub parent_same : (i j : ℕ) (node sibling : List ℕ) → i % 2 ≡ j % 2 → parent_of i node sibling ≡ parent_of j node sibling
parent_same i j node sibling e = ap (λ m. if nat_lt m 1 then node_of node sibling else node_of sibling node) e

-- ---- one level more

first_climb : (leaf root : List Gold) → Step leaf root → IsClimb 1 leaf root
first_climb leaf root s = record {
  node = s.low;
  index = s.turn;
  siblings = s.sibling ∷ [];
  is_node = s.is_low;
  are_nodes = (s.is_sibling, tt);
  count = refl;
  within = let small = s.small in omega (arith, small);
  leaf_is = s.node_is;
  root_is = s.above_is;
}

index_within : (d i m k : ℕ) → d < 2 → i < m → k ≡ m * 2 → d + 2 * i < k
index_within d i m k small lt e = omega (arith, small, lt, e)

step_climb : (n : ℕ) (leaf middle root : List Gold) → Step leaf middle → IsClimb n middle root → IsClimb (suc n) leaf root
step_climb n leaf middle root s c =
    let index = s.turn + 2 * c.index in
    let last : index % 2 ≡ s.turn % 2 = omega arith in
    let rest : index / 2 ≡ c.index = (let small = s.small in omega (arith, small)) in
    let same : c.node ≡ parent_of s.turn s.low s.sibling =
    same_state c.node (parent_of s.turn s.low s.sibling) c.is_node (parent_state s.turn s.low s.sibling) (sym c.leaf_is ∙ s.above_is) in
    let above : parent_of index s.low s.sibling ≡ c.node = parent_same index s.turn s.low s.sibling last ∙ sym same in
    record {
      node = s.low;
      index = index;
      siblings = s.sibling ∷ c.siblings;
      is_node = s.is_low;
      are_nodes = (s.is_sibling, c.are_nodes);
      count = ap suc c.count;
      within = index_within s.turn c.index (2 ^ n) (2 ^ suc n) s.small c.within (pow-suc 2 n);
      leaf_is = s.node_is;
      root_is = c.root_is ∙ ap (map of_number) (λ i. root_of (sym above i) (sym rest i) c.siblings);
    }

-- ---- one level less
record Lower (n : ℕ) (leaf root : List Gold) : Type 0 where
  middle : List Gold
  eight : length middle ≡ 8
  step : Step leaf middle
  climb : IsClimb n middle root

half_within : (i m k : ℕ) → i < k → k ≡ m * 2 → i / 2 < m
half_within i m k lt e = omega (arith, lt, e)

split : (n : ℕ) (leaf root : List Gold) (node : List ℕ) (index : ℕ) (siblings : List (List ℕ)) → IsState node → AreNodes siblings → length siblings ≡ suc n → index < 2 ^ suc n
    → leaf ≡ map of_number node → root ≡ map of_number (root_of node index siblings) → Lower n leaf root
split n leaf root node index [] hn hs e lt el er = absurd (omega (arith, e))
split n leaf root node index (sibling ∷ siblings) hn hs e lt el er =
    let above = parent_of index node sibling in
    let is = parent_state index node sibling in
    let last : index % 2 ≡ index % 2 % 2 = omega arith in
    record {
      middle = map of_number above;
      eight = length-map above of_number ∙ is.eight;
      step = record {
        low = node;
        sibling = sibling;
        turn = index % 2;
        is_low = hn;
        is_sibling = hs.0;
        small = omega arith;
        node_is = el;
        above_is = ap (map of_number) (parent_same index (index % 2) node sibling last);
      };
      climb = record {
        node = above;
        index = index / 2;
        siblings = siblings;
        is_node = is;
        are_nodes = hs.1;
        count = omega (arith, e);
        within = half_within index (2 ^ n) (2 ^ suc n) lt (pow-suc 2 n);
        leaf_is = refl;
        root_is = er;
      };
    }

lower : (n : ℕ) (leaf root : List Gold) → IsClimb (suc n) leaf root → Lower n leaf root
lower n leaf root c = split n leaf root c.node c.index c.siblings c.is_node c.are_nodes c.count c.within c.leaf_is c.root_is

none_above : (leaf root : List Gold) (node : List ℕ) (index : ℕ) (siblings : List (List ℕ)) → length siblings ≡ 0 → leaf ≡ map of_number node → root ≡ map of_number (root_of node index siblings) → leaf ≡ root
none_above leaf root node index [] e el er = el ∙ sym er
none_above leaf root node index (sibling ∷ siblings) e el er = absurd (omega (arith, e))

-- ---- private inputs

pub joined_climb : (n : ℕ) (leaf middle root q r : List Gold) → length middle ≡ 8 → length q ≡ 6889 → IsLevel leaf middle q → AreClimbing (suc n) middle root r
    → AreClimbing (suc (suc n)) leaf root (q ++ (middle ++ r))
joined_climb n leaf middle root q r lm lq level climb =
    let a : 6889 ≡ length q + 0 = omega (arith, lq) in
    let b : 6897 ≡ length q + (length middle + 0) = omega (arith, lq, lm) in
    let front : take 6889 (q ++ (middle ++ r)) ≡ q = ap (λ k. take k (q ++ (middle ++ r))) (sym lq) ∙ take-append_seam q (middle ++ r) in
    let behind : drop 6889 (q ++ (middle ++ r)) ≡ middle ++ r =
    ap (λ k. drop k (q ++ (middle ++ r))) a ∙ drop-append-add q (middle ++ r) 0 ∙ nothing_dropped (middle ++ r) in
    let words : between (q ++ (middle ++ r)) ≡ middle = ap (take 8) behind ∙ ap (λ k. take k (middle ++ r)) (sym lm) ∙ take-append_seam middle r in
    let rest : drop 6897 (q ++ (middle ++ r)) ≡ r =
    ap (λ k. drop k (q ++ (middle ++ r))) b ∙ drop-append-add q (middle ++ r) (length middle + 0) ∙ drop-append-add middle r 0 ∙ nothing_dropped r in (
      subst (λ (l : List Gold). IsLevel leaf l (take 6889 (q ++ (middle ++ r)))) (sym words) (subst (IsLevel leaf middle) (sym front) level),
      subst (λ (l : List Gold). AreClimbing (suc n) l root (drop 6897 (q ++ (middle ++ r)))) (sym words) (subst (AreClimbing (suc n) middle root) (sym rest) climb),
    ) where
      nothing_dropped : (xs : List Gold) → drop 0 xs ≡ xs
      nothing_dropped [] = refl
      nothing_dropped (x ∷ xs) = refl

pub length-between : (private : List Gold) (n : ℕ) → length private ≡ private_count (suc (suc n)) → length (between private) ≡ 8
length-between private n e = length-take-le 8 (drop 6889 private) (omega (arith, length-drop 6889 private, e))

pub length-lower : (private : List Gold) (n : ℕ) → length private ≡ private_count (suc (suc n)) → length (take 6889 private) ≡ 6889
length-lower private n e = length-take-le 6889 private (omega (arith, e))

pub length-upper : (private : List Gold) (n : ℕ) → length private ≡ private_count (suc (suc n)) → length (drop 6897 private) ≡ private_count (suc n)
length-upper private n e = omega (arith, length-drop 6897 private, e)

pub climb_forward : (n : ℕ) (leaf root private : List Gold) → 1 ≤ n → length leaf ≡ 8 → length root ≡ 8 → length private ≡ private_count n → AreClimbing n leaf root private → IsClimb n leaf root
climb_forward zero leaf root private some ll lr lp h = absurd (omega (arith, some))
climb_forward (suc zero) leaf root private some ll lr lp h = first_climb leaf root (level_forward leaf root private ll lr lp h)
climb_forward (suc (suc n)) leaf root private some ll lr lp h =
    let lb = length-between private n lp in
    step_climb (suc n) leaf (between private) root
    (level_forward leaf (between private) (take 6889 private) ll lb (length-lower private n lp) h.0)
    (climb_forward (suc n) (between private) root (drop 6897 private) (omega arith) lb lr (length-upper private n lp) h.1)

climb_backward : (n : ℕ) (leaf root : List Gold) → 1 ≤ n → length root ≡ 8 → IsClimb n leaf root → (private : List Gold) × (length private ≡ private_count n) × AreClimbing n leaf root private
climb_backward zero leaf root some lr c = absurd (omega (arith, some))
climb_backward (suc zero) leaf root some lr c =
    let l = lower 0 leaf root c in
    let d = l.climb in
    let e = none_above l.middle root d.node d.index d.siblings d.count d.leaf_is d.root_is in
    level_backward leaf root lr (subst (Step leaf) e l.step)
climb_backward (suc (suc n)) leaf root some lr c =
    let l = lower (suc n) leaf root c in
    let q = level_backward leaf l.middle l.eight l.step in
    let r = climb_backward (suc n) l.middle root (omega arith) lr l.climb in (
      q.0 ++ (l.middle ++ r.0),
      (let e = l.eight in omega (arith, length-append q.0 (l.middle ++ r.0), length-append l.middle r.0, q.1, e, r.1)),
      joined_climb n leaf l.middle root q.0 r.0 l.eight q.1 q.2 r.2,
    )

-- some private inputs satisfy a circuit exactly where there is a path
pub climbs_exactly : (n : ℕ) (leaf root : List Gold) (layers : List (Layer Gold)) (count : ℕ) → 1 ≤ n → length leaf ≡ 8 → length root ≡ 8 → count ≡ private_count n
    → ((private : List Gold) → length private ≡ private_count n → IsSatisfied ops number layers (inputs_of ops (leaf ++ root) private) ↔ AreClimbing n leaf root private)
    → ((private : List Gold) × (length private ≡ count) × IsSatisfied ops number layers (inputs_of ops (leaf ++ root) private)) ↔ IsClimb n leaf root
climbs_exactly n leaf root layers count some ll lr e h = (
  λ s. climb_forward n leaf root s.0 some ll lr (s.1 ∙ e) ((h s.0 (s.1 ∙ e)).0 s.2),
  λ c. let s = climb_backward n leaf root some lr c in (s.0, s.1 ∙ sym e, (h s.0 s.1).1 s.2),
)
