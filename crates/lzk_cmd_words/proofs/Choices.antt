-- Which of several answers a definition by cases gives.
use Rattle.std.proofs.Common.{◌≡◌, ◌<◌, ◌≤◌, ◌+◌, ◌-◌, ◌∙◌, ◌&&◌, ℕ, suc, Bool, true, false, List, ◌∷◌, length, map, drop, Option, Some, None, refl, sym, ap, arith, add-one, drop-cons}
use Rattle.std.specs.Prelude.{cond, nat_le, slice_index_or, take}
use Rattle.std.specs.List.{list_all}
use Rattle.std.proofs.lemmas.Bool.{le-leb, lt-leb}
use Rattle.std.proofs.lemmas.List.{take_all, drop_all, take-map, drop-map, length-map, length-drop}
use Rattle.lzk_cmd_words.specs.declared.table.Row.{Row}
use Rattle.lzk_cmd_words.specs.declared.table.Verb.{Verb}
use Rattle.lzk_cmd_words.specs.Grammar.{Request, request_of, behind_verb, is_first, is_name, are_names, are_keys}
use Rattle.lzk_cmd_words.specs.Keys.{Keys, keys_after, keys_of, or_else, with_key}
use Rattle.lzk_cmd_words.specs.Table.{row_of, verb_of}

chosen : {A : Type 0} {b : Bool} (x y : A) → true ≡ b → x ≡ cond b x y
chosen x y e = ap (λ c. cond c x y) e

passed : {A : Type 0} {b : Bool} (x y z : A) → false ≡ b → z ≡ y → z ≡ cond b x y
passed x y z e same = same ∙ ap (λ c. cond c x y) e

-- what stands behind a word with this row
abbrev behind_row : Row → Verb → List (List ℕ) → Option Request
behind_row row verb words =
    cond (nat_le row.names (length words))
    (or_else (keys_of (drop row.names words)) (λ keys. cond (are_names row (take row.names words) && are_keys row keys) (Some (record { verb = verb; names = take row.names words; keys = keys })) None) None) None

module _ {A : Type 0} (f : A → List ℕ) (words : List A) (row : Row) (verb : Verb) (e : row ≡ row_of verb) where
  pub too_few : length words < row.names → None ≡ behind_verb verb (map f words)
  too_few few =
      let short : length (map f words) < row.names = omega (arith, few, length-map words f) in
      passed _ None None (sym (lt-leb row.names (length (map f words)) short)) refl ∙ ap (λ r. behind_row r verb (map f words)) e

  module _ (enough : row.names ≤ length words) where
    front : map f (take row.names words) ≡ take row.names (map f words)
    front = sym (take-map f row.names words)

    back : map f (take (length words - row.names) (drop row.names words)) ≡ drop row.names (map f words)
    back = ap (map f) (take_all (length words - row.names) (drop row.names words) (omega (arith, length-drop row.names words))) ∙ sym (drop-map f row.names words)

    long : true ≡ nat_le row.names (length (map f words))
    long = sym (le-leb row.names (length (map f words)) (omega (arith, enough, length-map words f)))

    -- the answer for these keys
    abbrev by_keys : Option Keys → Option Request
    by_keys keys = or_else keys (λ keys. cond (are_names row (take row.names (map f words)) && are_keys row keys) (Some (record { verb = verb; names = take row.names (map f words); keys = keys })) None) None

    answered : (keys : Option Keys) → keys ≡ keys_of (map f (take (length words - row.names) (drop row.names words))) → by_keys keys ≡ behind_verb verb (map f words)
    answered keys is = ap by_keys (is ∙ ap keys_of back) ∙ ap (λ b. cond b (by_keys (keys_of (drop row.names (map f words)))) None) long ∙ ap (λ r. behind_row r verb (map f words)) e

    pub no_keys : None ≡ keys_of (map f (take (length words - row.names) (drop row.names words))) → None ≡ behind_verb verb (map f words)
    no_keys is = answered None is

    module _ (keys : Keys) (is : Some keys ≡ keys_of (map f (take (length words - row.names) (drop row.names words)))) where
      pub fitting : true ≡ (are_names row (map f (take row.names words)) && are_keys row keys) → Some (record { verb = verb; names = map f (take row.names words); keys = keys }) ≡ behind_verb verb (map f words)
      fitting fits =
          ap (λ ns. Some (record { verb = verb; names = ns; keys = keys })) front ∙ chosen _ None (fits ∙ ap (λ ns. are_names row ns && are_keys row keys) front) ∙ answered (Some keys) is

      pub unfitting : false ≡ (are_names row (map f (take row.names words)) && are_keys row keys) → None ≡ behind_verb verb (map f words)
      unfitting fits = passed _ None None (fits ∙ ap (λ ns. are_names row ns && are_keys row keys) front) refl ∙ answered (Some keys) is

-- ---- the keys of words, one word further

module _ {A : Type 0} (f : A → List ℕ) (words : List A) (i : ℕ) (keys : Keys) (whole : Option Keys) (before : keys_after keys (map f (drop i words)) ≡ whole) where
  at_word : (x : A) → i < length words → x ≡ slice_index_or words i x → or_else (with_key keys (f x)) (λ next. keys_after next (map f (drop (i + 1) words))) None ≡ whole
  at_word x less is =
      let here : drop i words ≡ x ∷ drop (i + 1) words = rw add-one (drop-cons words i x less ∙ ap (λ y. y ∷ drop (suc i) words) (sym is)) in
      ap (λ ws. keys_after keys (map f ws)) (sym here) ∙ before

  pub keys_further : (x : A) (next : Keys) → i < length words → x ≡ slice_index_or words i x → Some next ≡ with_key keys (f x) → keys_after next (map f (drop (i + 1) words)) ≡ whole
  keys_further x next less is one = ap (λ o. or_else o (λ k. keys_after k (map f (drop (i + 1) words))) None) one ∙ at_word x less is

  pub keys_stop : (x : A) → i < length words → x ≡ slice_index_or words i x → None ≡ with_key keys (f x) → None ≡ whole
  keys_stop x less is none = ap (λ o. or_else o (λ k. keys_after k (map f (drop (i + 1) words))) None) none ∙ at_word x less is

  pub keys_all : length words ≤ i → Some keys ≡ whole
  keys_all end = ap (λ ws. keys_after keys (map f ws)) (sym (drop_all i words end)) ∙ before

-- ---- the first word, and those behind it

module _ {A : Type 0} (f : A → List ℕ) (words : List A) (x : A) (some : 1 ≤ length words) (is : x ≡ slice_index_or words 0 x) where
  abbrev others : List (List ℕ)
  others = map f (take (length words - 1) (drop 1 words))

  parts : f x ∷ others ≡ map f words
  parts =
      let whole : take (length words - 1) (drop 1 words) ≡ drop 1 words = take_all (length words - 1) (drop 1 words) (omega (arith, length-drop 1 words)) in
      let first : drop 0 words ≡ slice_index_or words 0 x ∷ drop 1 words = drop-cons words 0 x (omega (arith, some)) in
      ap (map f) (ap (λ xs. x ∷ xs) whole ∙ ap (λ y. y ∷ drop 1 words) is ∙ sym first)

  pub no_verb : None ≡ verb_of (f x) → None ≡ request_of (map f words)
  no_verb none = ap (λ v. or_else v (λ verb. behind_verb verb others) None) none ∙ ap request_of parts

  pub by_verb : (verb : Verb) (r : Option Request) → Some verb ≡ verb_of (f x) → r ≡ behind_verb verb others → r ≡ request_of (map f words)
  by_verb verb r one behind = behind ∙ ap (λ v. or_else v (λ verb. behind_verb verb others) None) one ∙ ap request_of parts

  pub named : (row : Row) (files : Bool) → true ≡ is_first row.first (f x) → files ≡ list_all is_name others → files ≡ are_names row (map f words)
  named row files first all = all ∙ ap (λ b. b && list_all is_name others) first ∙ ap (are_names row) parts

  pub unnamed : (row : Row) (b : Bool) → b ≡ is_first row.first (f x) → b ≡ false → b ≡ are_names row (map f words)
  unnamed row b first fails = fails ∙ ap (λ c. c && list_all is_name others) (sym fails ∙ first) ∙ ap (are_names row) parts
