-- How what a statement claims of texts is put together.
use Rattle.std.proofs.Common.{◌≡◌, ℕ, ◌+◌, ◌-◌, ◌*◌, ◌<◌, ◌≤◌, List, [], ◌∷◌, ◌++◌, length, map, zero, suc, refl, sym, ap, subst, ◌∙◌, arith, mul-suc, length-append}
use Rattle.std.specs.Prelude.{IsTrue, Bool, slice_index}
use Rattle.std.proofs.lemmas.Bool.{le-leb, lt-leb}
use Rattle.std.proofs.lemmas.List.{map-append}
use Rattle.std.proofs.lemmas.Nat.{mul-le}
use Rattle.lzk_field.proofs.RingBasics.{one_times}
use Rattle.lzk_field.proofs.Solve.{var, unit, opp, ◌⊞◌, ◌⊟◌, ◌⊠◌, solve}
use Rattle.lzk_goldilocks.specs.Elements.{ops, of_number, ring}
use Rattle.lzk_goldilocks.specs.declared.element.Gold.{Gold}
use Rattle.lzk_level.specs.Nodes.{node_count, IsNode}
use Rattle.lzk_gadgets.specs.Claims.{AreInputs, AreNodes, value, values, Keeps, Makes, Yields, Adds}
use Rattle.lzk_gadgets.specs.Inverses.{difference, IsAmong}
use Rattle.lzk_gadgets.proofs.ClaimLaws.{inputs_kept, values_kept, keeps_then, makes_then, adds_behind, nodes_more, nodes_push, yields_none, yields_one, yields_then}
use Rattle.lzk_sha_circuit.proofs.Numbered.{gold_numbered}
use Rattle.lzk_policy.specs.Lines.{number_at}
use Rattle.lzk_policy.specs.Policies.{are_texts_of}
use Rattle.lzk_policy_circuit.specs.Squares.{square, squares, text_squares, inner, distance_by, distances, IsAtText}
use Rattle.lzk_policy_circuit.specs.Met.{byte_worth, byte_worths, number_worth, text_element, IsOneOf, IsOneOfBy}
use Rattle.lzk_policy_circuit.proofs.Adding.{Stated, adds_most}
use Rattle.lzk_policy_circuit.proofs.Squares.{at_claim}

-- ---- numbers of texts

pub byte_behind_number : (x y : Gold) (text : List ℕ) (i : ℕ) → x ≡ of_number (number_at text 0 i) → y ≡ ops.plus (ops.times (of_number 256) x) (of_number (slice_index text i)) → y ≡ of_number (number_at text 0 (i + 1))
byte_behind_number x y text i ex ey =
    let n = number_at text 0 i in
    let b = slice_index text i in
    let next : suc i ≡ i + 1 = omega arith in
    let there : i ≡ 0 + i = omega arith in
    ey
    ∙ ap (λ (z : Gold). ops.plus (ops.times (of_number 256) z) (of_number b)) ex
    ∙ ap (λ (z : Gold). ops.plus z (of_number b)) (gold_numbered.times_is 256 n)
    ∙ gold_numbered.plus_is (256 * n) b
    ∙ ap (λ (j : ℕ). of_number (256 * n + slice_index text j)) there
    ∙ ap (λ (j : ℕ). of_number (number_at text 0 j)) next

pub whole_number : (x : Gold) (text : List ℕ) (i : ℕ) → x ≡ of_number (number_at text 0 i) → i ≡ length text → x ≡ text_element text
whole_number x text i e is = e ∙ ap (λ (j : ℕ). of_number (number_at text 0 j)) is

-- ---- bytes

pub bytes_none : (n : ℕ) (s : Stated) (ks : List ℕ) → n ≡ 0 → ks ≡ [] → Yields ops (9 * n) s s ks
bytes_none n s ks en ek =
    subst (λ (j : ℕ). Yields ops (9 * j) s s ks) (sym en) (subst (λ (l : List ℕ). Yields ops (9 * 0) s s l) (sym ek) (yields_none ops s [] tt))

pub worths_none : (n : ℕ) (s : Stated) (ks : List ℕ) (p q : List Gold) (at : ℕ) → n ≡ 0 → ks ≡ [] → values ops s p q ks ≡ byte_worths q at n
worths_none n s ks p q at en ek = ap (values ops s p q) ek ∙ sym (ap (byte_worths q at) en)

pub bytes_more : (n : ℕ) (s t u : Stated) (old new : List ℕ) (node : ℕ) → 0 < n → new ≡ old ++ node ∷ [] → Yields ops (9 * (n - 1)) s t old → Makes ops 9 t u node → Yields ops (9 * n) s u new
bytes_more n s t u old new node some grown y m =
    let there : AreNodes (node_count u.nodes) new = subst (AreNodes (node_count u.nodes)) (sym grown) (nodes_push (node_count u.nodes) old node (nodes_more (node_count t.nodes) (node_count u.nodes) old m.keeps.more y.there) m.there) in
    yields_then ops (9 * (n - 1)) 9 (9 * n) s t u old new y (yields_one ops 9 t u node new m there) (omega (arith, some))

pub worths_more : (n : ℕ) (s t u : Stated) (old new : List ℕ) (node at place : ℕ) (p q : List Gold) → 0 < n → place ≡ at + 8 * (n - 1) → new ≡ old ++ node ∷ [] → Yields ops (9 * (n - 1)) s t old → Makes ops 9 t u node
    → AreInputs s p q → values ops t p q old ≡ byte_worths q at (n - 1) → (AreInputs t p q → value ops u p q node ≡ byte_worth q place) → values ops u p q new ≡ byte_worths q at n
worths_more n s t u old new node at place p q some ep grown y m a before last =
    let b = inputs_kept ops (9 * (n - 1)) s t p q y.keeps a in
    let is : suc (n - 1) ≡ n = omega (arith, some) in
    let first : values ops u p q old ≡ byte_worths q at (n - 1) = values_kept ops 9 t u p q old m.keeps b y.there ∙ before in
    let here : value ops u p q node ≡ byte_worth q (at + 8 * (n - 1)) = last b ∙ ap (byte_worth q) ep in
    ap (values ops u p q) grown ∙ map-append (value ops u p q) old (node ∷ []) ∙ (λ i. first i ++ here i ∷ []) ∙ ap (byte_worths q at) is

pub length-byte_worths : (q : List Gold) (at n : ℕ) → length (byte_worths q at n) ≡ n
length-byte_worths q at zero = refl
length-byte_worths q at (suc n) =
    omega (arith, length-append (byte_worths q at n) (byte_worth q (at + 8 * n) ∷ []), length-byte_worths q at n)

-- ---- sums

plain_sum : (a b : Gold) → ops.plus (ops.times ops.one a) (ops.times ops.one b) ≡ ops.plus a b
plain_sum a b = (λ i. ops.plus (one_times ops ring a i) (one_times ops ring b i))

pub squares_makes : (n m : ℕ) (s t u v : Stated) (others square_ node : ℕ) → Makes ops (1 + 2 * n) s t others → Makes ops 1 t u square_ → Makes ops 1 u v node → m ≡ n + 1 → Makes ops (1 + 2 * m) s v node
squares_makes n m s t u v others square_ node a b c e =
    makes_then ops (2 + 2 * n) 1 (1 + 2 * m) s u v square_ node (makes_then ops (1 + 2 * n) 1 (2 + 2 * n) s t u others square_ a b (omega arith)) c (omega (arith, e))

pub squares_value : (n : ℕ) (s t u v : Stated) (x others square_ node : ℕ) (one two : Gold) (rest all : List ℕ) (p q : List Gold) → AreInputs s p q → IsNode (node_count s.nodes) x → one ≡ ops.one → two ≡ ops.one
    → Makes ops n s t others → Makes ops 1 t u square_ → value ops t p q others ≡ squares (values ops s p q rest)
    → (AreInputs t p q → value ops u p q square_ ≡ ops.times (value ops t p q x) (value ops t p q x))
    → (AreInputs u p q → value ops v p q node ≡ ops.plus (ops.times one (value ops u p q square_)) (ops.times two (value ops u p q others)))
    → all ≡ x ∷ rest → value ops v p q node ≡ squares (values ops s p q all)
squares_value n s t u v x others square_ node one two rest all p q i there e1 e2 a b vo vs vn is =
    let it = inputs_kept ops n s t p q a.keeps i in
    let iu = inputs_kept ops 1 t u p q b.keeps it in
    let xt : value ops t p q x ≡ value ops s p q x = a.keeps.same p q i x there.1 in
    let left : value ops u p q square_ ≡ square (value ops s p q x) = vs it ∙ ap square xt in
    let right : value ops u p q others ≡ squares (values ops s p q rest) = b.keeps.same p q it others a.there.1 ∙ vo in
    vn iu
    ∙ (λ j. ops.plus (ops.times (e1 j) (left j)) (ops.times (e2 j) (right j)))
    ∙ plain_sum (square (value ops s p q x)) (squares (values ops s p q rest))
    ∙ sym (ap (λ (l : List ℕ). squares (values ops s p q l)) is)

pub squares_none : (all : List ℕ) (s : Stated) (p q : List Gold) (z : Gold) → z ≡ ops.zero → all ≡ [] → z ≡ squares (values ops s p q all)
squares_none all s p q z e none = e ∙ sym (ap (λ (l : List ℕ). squares (values ops s p q l)) none)

pub inner_none : (all : List ℕ) (text : List ℕ) (s : Stated) (p q : List Gold) (z : Gold) → z ≡ ops.zero → all ≡ [] → z ≡ inner (values ops s p q all) text
inner_none all text s p q z e none = e ∙ sym (ap (λ (l : List ℕ). inner (values ops s p q l) text) none)

pub inner_ends : (x : ℕ) (rest all : List ℕ) (text : List ℕ) (s : Stated) (p q : List Gold) (z : Gold) → z ≡ ops.zero → all ≡ x ∷ rest → text ≡ [] → z ≡ inner (values ops s p q all) text
inner_ends x rest all text s p q z e some none = e ∙ sym (λ i. inner (values ops s p q (some i)) (none i))

pub inner_value : (n : ℕ) (s t v : Stated) (x others node b : ℕ) (own one : Gold) (rest all : List ℕ) (bytes text : List ℕ) (p q : List Gold) → AreInputs s p q → IsNode (node_count s.nodes) x → own ≡ of_number b → one ≡ ops.one
    → Makes ops n s t others → value ops t p q others ≡ inner (values ops s p q rest) bytes
    → (AreInputs t p q → value ops v p q node ≡ ops.plus (ops.times own (value ops t p q x)) (ops.times one (value ops t p q others)))
    → all ≡ x ∷ rest → text ≡ b ∷ bytes → value ops v p q node ≡ inner (values ops s p q all) text
inner_value n s t v x others node b own one rest all bytes text p q i there eo e1 a vo vn is it_is =
    let it = inputs_kept ops n s t p q a.keeps i in
    let xt : value ops t p q x ≡ value ops s p q x = a.keeps.same p q i x there.1 in
    vn it
    ∙ (λ j. ops.plus (ops.times (eo j) (xt j)) (ops.times (e1 j) (vo j)))
    ∙ ap (ops.plus (ops.times (of_number b) (value ops s p q x))) (one_times ops ring (inner (values ops s p q rest) bytes))
    ∙ sym (λ j. inner (values ops s p q (is j)) (it_is j))

pub squares_of_text : (b : ℕ) (rest text : List ℕ) (x y m z : Gold) → x ≡ of_number b → y ≡ of_number (text_squares rest) → m ≡ ops.times x x → z ≡ ops.plus m y → text ≡ b ∷ rest → z ≡ of_number (text_squares text)
squares_of_text b rest text x y m z ex ey em ez is =
    ez
    ∙ (λ i. ops.plus ((em ∙ (λ j. ops.times (ex j) (ex j)) ∙ gold_numbered.times_is b b) i) (ey i))
    ∙ gold_numbered.plus_is (b * b) (text_squares rest)
    ∙ sym (ap (λ (l : List ℕ). of_number (text_squares l)) is)

-- ---- distances

distance_parts : (two n t i : Gold) → ops.plus (ops.times ops.one (ops.plus (ops.times ops.one n) (ops.times ops.one t))) (ops.times (ops.neg two) i) ≡ difference (ops.plus n t) (ops.times two i)
distance_parts two n t i =
    solve ops ring (two ∷ n ∷ t ∷ i ∷ []) (unit ⊠ (unit ⊠ var 1 ⊞ unit ⊠ var 2) ⊞ opp (var 0) ⊠ var 3) (var 1 ⊞ var 2 ⊟ var 0 ⊠ var 3) refl

pub distance_makes : (n : ℕ) (s t u v w : Stated) (product own both node : ℕ) → Makes ops (1 + n) s t product → Makes ops 1 t u own → Makes ops 1 u v both → Makes ops 1 v w node → Makes ops (4 + n) s w node
distance_makes n s t u v w product own both node a b c d =
    makes_then ops (3 + n) 1 (4 + n) s v w both node
    (makes_then ops (2 + n) 1 (3 + n) s u v own both (makes_then ops (1 + n) 1 (2 + n) s t u product own a b (omega arith)) c (omega arith)) d (omega arith)

pub distance_value : (n : ℕ) (s t u v w : Stated) (norm product own both node : ℕ) (o1 o2 o3 minus c : Gold) (xs text : List ℕ) (p q : List Gold) → AreInputs s p q → IsNode (node_count s.nodes) norm
    → o1 ≡ ops.one → o2 ≡ ops.one → o3 ≡ ops.one → minus ≡ ops.neg (of_number 2) → c ≡ of_number (text_squares text)
    → Makes ops n s t product → Makes ops 1 t u own → Makes ops 1 u v both
    → value ops t p q product ≡ inner (values ops s p q xs) text
    → (AreInputs t p q → value ops u p q own ≡ c)
    → (AreInputs u p q → value ops v p q both ≡ ops.plus (ops.times o1 (value ops u p q norm)) (ops.times o2 (value ops u p q own)))
    → (AreInputs v p q → value ops w p q node ≡ ops.plus (ops.times o3 (value ops v p q both)) (ops.times minus (value ops v p q product)))
    → value ops w p q node ≡ distance_by (value ops s p q norm) (values ops s p q xs) text
distance_value n s t u v w norm product own both node o1 o2 o3 minus c xs text p q i there e1 e2 e3 em ec a b d vp vo vb vn =
    let it = inputs_kept ops n s t p q a.keeps i in
    let iu = inputs_kept ops 1 t u p q b.keeps it in
    let iv = inputs_kept ops 1 u v p q d.keeps iu in
    let norm_is : value ops u p q norm ≡ value ops s p q norm = b.keeps.same p q it norm (omega (arith, there.1, a.keeps.more)) ∙ a.keeps.same p q i norm there.1 in
    let own_is : value ops u p q own ≡ of_number (text_squares text) = vo it ∙ ec in
    let both_is : value ops v p q both ≡ ops.plus (ops.times ops.one (value ops s p q norm)) (ops.times ops.one (of_number (text_squares text))) =
    vb iu ∙ (λ j. ops.plus (ops.times (e1 j) (norm_is j)) (ops.times (e2 j) (own_is j))) in
    let product_is : value ops v p q product ≡ inner (values ops s p q xs) text =
    d.keeps.same p q iu product (omega (arith, a.there.1, b.keeps.more)) ∙ b.keeps.same p q it product a.there.1 ∙ vp in
    vn iv
    ∙ (λ j. ops.plus (ops.times (e3 j) (both_is j)) (ops.times (em j) (product_is j)))
    ∙ distance_parts (of_number 2) (value ops s p q norm) (of_number (text_squares text)) (inner (values ops s p q xs) text)

pub distances_makes : (n k m : ℕ) (s t u v : Stated) (others own node : ℕ) → Makes ops (1 + (5 + n) * k) s t others → Makes ops (4 + n) t u own → Makes ops 1 u v node → m ≡ k + 1 → Makes ops (1 + (5 + n) * m) s v node
distances_makes n k m s t u v others own node a b c e =
    let is : suc k ≡ m = omega (arith, e) in
    let more : (5 + n) * m ≡ (5 + n) * suc k = ap (λ j. (5 + n) * j) (sym is) in
    makes_then ops (5 + n + (5 + n) * k) 1 (1 + (5 + n) * m) s u v own node (makes_then ops (1 + (5 + n) * k) (4 + n) (5 + n + (5 + n) * k) s t u others own a b (omega arith)) c (omega (arith, more, mul-suc (5 + n) k))

pub distances_value : (n k : ℕ) (s t u v : Stated) (norm others own node : ℕ) (xs : List ℕ) (text : List ℕ) (rest all : List (List ℕ)) (p q : List Gold) → AreInputs s p q → IsNode (node_count s.nodes) norm → AreNodes (node_count s.nodes) xs
    → Makes ops n s t others → Makes ops k t u own
    → value ops t p q others ≡ distances (value ops s p q norm) (values ops s p q xs) rest
    → (AreInputs t p q → value ops u p q own ≡ distance_by (value ops t p q norm) (values ops t p q xs) text)
    → (AreInputs u p q → value ops v p q node ≡ ops.times (value ops u p q own) (value ops u p q others))
    → all ≡ text ∷ rest → value ops v p q node ≡ distances (value ops s p q norm) (values ops s p q xs) all
distances_value n k s t u v norm others own node xs text rest all p q i there are a b vo vw vn is =
    let it = inputs_kept ops n s t p q a.keeps i in
    let iu = inputs_kept ops k t u p q b.keeps it in
    let norm_is : value ops t p q norm ≡ value ops s p q norm = a.keeps.same p q i norm there.1 in
    let xs_are : values ops t p q xs ≡ values ops s p q xs = values_kept ops n s t p q xs a.keeps i are in
    let own_is : value ops u p q own ≡ distance_by (value ops s p q norm) (values ops s p q xs) text = vw it ∙ (λ j. distance_by (norm_is j) (xs_are j) text) in
    let others_are : value ops u p q others ≡ distances (value ops s p q norm) (values ops s p q xs) rest = b.keeps.same p q it others a.there.1 ∙ vo in
    vn iu
    ∙ (λ j. ops.times (own_is j) (others_are j))
    ∙ sym (ap (distances (value ops s p q norm) (values ops s p q xs)) is)

pub distances_none : (all : List (List ℕ)) (n z : Gold) (xs : List Gold) → z ≡ ops.one → all ≡ [] → z ≡ distances n xs all
distances_none all n z xs e none = e ∙ sym (ap (distances n xs) none)

-- ---- the claim

makes_after : (a b c : ℕ) (s t u : Stated) (xs : List ℕ) (y : ℕ) → Yields ops a s t xs → Makes ops b t u y → a + b ≤ c → Makes ops c s u y
makes_after a b c s t u xs y m n le = record {
  keeps = keeps_then ops a b c s t u m.keeps n.keeps le;
  there = n.there;
  count = n.count ∙ m.count;
  holds = λ p q i.
      let j = inputs_kept ops a s t p q m.keeps i in
      (λ h. (m.holds p q i).0 ((n.holds p q j).0 h), λ h. (n.holds p q j).1 ((m.holds p q i).1 h));
}

module _ (n : ℕ) (s t u v w : Stated) (at norm product : ℕ) (nodes first second : List ℕ) (texts : List (List ℕ)) (count : length nodes ≡ n) (e : first ≡ nodes) (f : second ≡ nodes) where
  pub long_claim : Yields ops (9 * n) s t nodes → Makes ops (1 + 2 * length first) t u norm → Makes ops (1 + (5 + length second) * length texts) u v product
      → Adds ops 0 1 v w (λ p q. value ops v p q product ≡ ops.zero)
      → ((p q : List Gold) → AreInputs s p q → values ops t p q nodes ≡ byte_worths q at n)
      → ((p q : List Gold) → AreInputs t p q → value ops u p q norm ≡ squares (values ops t p q first))
      → ((p q : List Gold) → AreInputs u p q → value ops v p q product ≡ distances (value ops u p q norm) (values ops u p q second) texts)
      → IsTrue (are_texts_of n texts) → Adds ops (2 + 11 * n + (5 + n) * length texts) 1 s w (λ p q. IsAtText (byte_worths q at n) texts)
  long_claim y m k d vb vs vd are =
      let most = 2 + 11 * n + (5 + n) * length texts in
      let makes_norm = subst (λ (j : ℕ). Makes ops (1 + 2 * j) t u norm) (ap length e ∙ count) m in
      let makes_product = subst (λ (j : ℕ). Makes ops (1 + (5 + j) * length texts) u v product) (ap length f ∙ count) k in
      let front = makes_after (9 * n) (1 + 2 * n) (1 + 11 * n) s t u nodes norm y makes_norm (omega arith) in
      let whole = makes_then ops (1 + 11 * n) (1 + (5 + n) * length texts) most s u v norm product front makes_product (omega arith) in
      adds_behind ops most 0 most 1 s v w product (λ p q. value ops v p q product ≡ ops.zero) (λ p q. IsAtText (byte_worths q at n) texts) whole d (omega arith)
      (λ p q i.
      let it = inputs_kept ops (9 * n) s t p q y.keeps i in
      let iu = inputs_kept ops (1 + 2 * n) t u p q makes_norm.keeps it in
      let bytes = vb p q i in
      let norm_is : value ops u p q norm ≡ squares (byte_worths q at n) = vs p q it ∙ ap (λ (l : List ℕ). squares (values ops t p q l)) e ∙ ap squares bytes in
      let kept : values ops u p q second ≡ byte_worths q at n =
      ap (values ops u p q) f ∙ values_kept ops (1 + 2 * n) t u p q nodes makes_norm.keeps it y.there ∙ bytes in
      let product_is = vd p q iu ∙ ap (λ (l : List Gold). distances (value ops u p q norm) l texts) kept in
      at_claim (value ops v p q product) (value ops u p q norm) (byte_worths q at n) texts norm_is product_is (subst (λ (j : ℕ). IsTrue (are_texts_of j texts)) (sym (length-byte_worths q at n)) are))

pub few_nodes : (n k : ℕ) → n ≤ 119 → k ≤ 16 → 2 + 11 * n + (5 + n) * k ≤ 4000
few_nodes n k ln lk = omega (arith, mul-le (5 + n) k 124 16 (omega (arith, ln)) lk, ln)

pub first_node : (s : Stated) (x : ℕ) (rest all : List ℕ) → all ≡ x ∷ rest → AreNodes (node_count s.nodes) all → IsNode (node_count s.nodes) x
first_node s x rest all e h = (subst (AreNodes (node_count s.nodes)) e h).0

-- ---- either

module _ (n : ℕ) (s u : Stated) (at : ℕ) (texts : List (List ℕ)) (count : length texts ≤ 16) where
  pub short_is : n ≤ 7 → Adds ops (2 + 10 * n + 3 * length texts) 1 s u (λ p q. IsAmong (number_worth q at n) (map text_element texts)) → Adds ops 4000 1 s u (λ p q. IsOneOf q at n texts)
  short_is few d =
      subst (λ (b : Bool). Adds ops 4000 1 s u (λ p q. IsOneOfBy b q at n texts)) (sym (le-leb n 7 few))
      (adds_most (2 + 10 * n + 3 * length texts) 4000 1 1 s u (λ p q. IsAmong (number_worth q at n) (map text_element texts)) d (omega (arith, few, count)) refl)

  pub long_is : 7 < n → n ≤ 119 → Adds ops (2 + 11 * n + (5 + n) * length texts) 1 s u (λ p q. IsAtText (byte_worths q at n) texts) → Adds ops 4000 1 s u (λ p q. IsOneOf q at n texts)
  long_is some few d =
      subst (λ (b : Bool). Adds ops 4000 1 s u (λ p q. IsOneOfBy b q at n texts)) (sym (lt-leb n 7 some))
      (adds_most (2 + 11 * n + (5 + n) * length texts) 4000 1 1 s u (λ p q. IsAtText (byte_worths q at n) texts) d (few_nodes n (length texts) few count) refl)

-- ---- nodes

pub nodes_kept : (m : ℕ) (s t : Stated) (x : ℕ) (xs : List ℕ) → Keeps ops m s t → IsNode (node_count s.nodes) x × AreNodes (node_count s.nodes) xs → IsNode (node_count t.nodes) x × AreNodes (node_count t.nodes) xs
nodes_kept m s t x xs k h = ((h.0.0, omega (arith, h.0.1, k.more)), nodes_more (node_count s.nodes) (node_count t.nodes) xs k.more h.1)
