-- The number of a demo, and that of a message's bytes, keep their bounds.
use Rattle.std.proofs.Common.{◌≡◌, ℕ, Bool, true, false, ◌&&◌, List, [], ◌∷◌, drop, Option, Some, None, refl, subst}
use Rattle.std.specs.Prelude.{cond, take}
use Rattle.std.specs.List.{list_all}
use Rattle.std.proofs.lemmas.Bool.{and_parts}
use Rattle.lzk_cmd_words.specs.declared.table.Row.{Row}
use Rattle.lzk_cmd_words.specs.declared.table.Verb.{Verb}
use Rattle.lzk_cmd_words.specs.declared.table.Verb.TheVariants as verbs
use Rattle.lzk_cmd_words.specs.Grammar.{Request, request_of, behind_verb, is_name, are_names, are_keys}
use Rattle.lzk_cmd_words.specs.Keys.{Keys, is_count, is_number, keys_of, or_else}
use Rattle.lzk_cmd_words.specs.Table.{verb_of, row_of}
use Rattle.lzk_cmd_words.specs.Words.{Command, Eval, Compile, Upgrade, Show, Prove, Verify, Batch, Demo, ShaCircuit, Sha256, built, command_of}

-- the names are those of the row
abbrev KeepsRow : Request → Type 0
KeepsRow request = are_names (row_of request.verb) request.names ≡ true

some_is : {A : Type 0} (x y : A) → Some x ≡ Some y → x ≡ y
some_is x y e = cc

behind_names : (verb : Verb) (words : List (List ℕ)) (request : Request) → behind_verb verb words ≡ Some request → KeepsRow request
behind_names verb words request e = long _ e
  where
    row : Row
    row = row_of verb

    fits : (keys : Keys) (b : Bool) → (are_names row (take row.names words) && are_keys row keys) ≡ b
        → ◌≡◌ {A = Option Request} (cond b (Some (record { verb = verb; names = take row.names words; keys = keys })) None) (Some request) → KeepsRow request
    fits keys true is e = subst KeepsRow (some_is _ request e) (and_parts (are_names row (take row.names words)) (are_keys row keys) is).0
    fits keys false is e = absurd cc

    found : (keys : Option Keys)
        → or_else keys (λ keys. cond (are_names row (take row.names words) && are_keys row keys) (Some (record { verb = verb; names = take row.names words; keys = keys })) None) None ≡ Some request → KeepsRow request
    found (Some keys) e = fits keys (are_names row (take row.names words) && are_keys row keys) refl e
    found None e = absurd cc

    long : (b : Bool)
        → cond b (or_else (keys_of (drop row.names words)) (λ keys. cond (are_names row (take row.names words) && are_keys row keys) (Some (record { verb = verb; names = take row.names words; keys = keys })) None) None) None ≡ Some request
        → KeepsRow request
    long true e = found (keys_of (drop row.names words)) e
    long false e = absurd cc

request_names : (words : List (List ℕ)) (request : Request) → request_of words ≡ Some request → KeepsRow request
request_names [] request e = absurd cc
request_names (word ∷ words) request e = go (verb_of word) e
  where
    go : (verb : Option Verb) → or_else verb (λ verb. behind_verb verb words) None ≡ Some request → KeepsRow request
    go (Some verb) e = behind_names verb words request e
    go None e = absurd cc

-- the number that a command asks for, if it asks for one, is one
abbrev pub HasNumber : Command → Type 0
HasNumber (Eval circuit public private) = Unit {0}
HasNumber (Compile source circuit version) = Unit {0}
HasNumber (Upgrade old new) = Unit {0}
HasNumber (Show circuit) = Unit {0}
HasNumber (Prove circuit public private proof seed session) = Unit {0}
HasNumber (Verify circuit public proof session) = Unit {0}
HasNumber (Batch list) = Unit {0}
HasNumber (Demo count seed) = is_number 16384 count ≡ true
HasNumber (ShaCircuit count circuit) = is_count 55 count ≡ true
HasNumber (Sha256 circuit proof message seed session) = Unit {0}

found : (made command : Command) → HasNumber made → Some made ≡ Some command → HasNumber command
found made command good e = subst HasNumber (some_is made command e) good

built_number : (verb : Verb) (names : List (List ℕ)) (keys : Keys) (command : Command) → are_names (row_of verb) names ≡ true → built verb names keys ≡ Some command → HasNumber command
built_number verbs.Eval [] keys command good e = absurd cc
built_number verbs.Eval (n ∷ []) keys command good e = absurd cc
built_number verbs.Eval (n ∷ m ∷ []) keys command good e = absurd cc
built_number verbs.Eval (n ∷ m ∷ k ∷ []) keys command good e = found _ command tt e
built_number verbs.Eval (n ∷ m ∷ k ∷ l ∷ rest) keys command good e = absurd cc
built_number verbs.Compile [] keys command good e = absurd cc
built_number verbs.Compile (n ∷ []) keys command good e = absurd cc
built_number verbs.Compile (n ∷ m ∷ []) keys command good e = found _ command tt e
built_number verbs.Compile (n ∷ m ∷ k ∷ rest) keys command good e = absurd cc
built_number verbs.Upgrade [] keys command good e = absurd cc
built_number verbs.Upgrade (n ∷ []) keys command good e = absurd cc
built_number verbs.Upgrade (n ∷ m ∷ []) keys command good e = found _ command tt e
built_number verbs.Upgrade (n ∷ m ∷ k ∷ rest) keys command good e = absurd cc
built_number verbs.Show [] keys command good e = absurd cc
built_number verbs.Show (n ∷ []) keys command good e = found _ command tt e
built_number verbs.Show (n ∷ m ∷ rest) keys command good e = absurd cc
built_number verbs.Prove [] keys command good e = absurd cc
built_number verbs.Prove (n ∷ []) keys command good e = absurd cc
built_number verbs.Prove (n ∷ m ∷ []) keys command good e = absurd cc
built_number verbs.Prove (n ∷ m ∷ k ∷ []) keys command good e = absurd cc
built_number verbs.Prove (n ∷ m ∷ k ∷ l ∷ []) keys command good e = go keys.seed e
  where
    go : (seed : Option (List ℕ)) → or_else seed (λ seed. Some (Prove n m k l seed keys.session)) None ≡ Some command → HasNumber command
    go (Some seed) e = found _ command tt e
    go None e = absurd cc
built_number verbs.Prove (n ∷ m ∷ k ∷ l ∷ j ∷ rest) keys command good e = absurd cc
built_number verbs.Verify [] keys command good e = absurd cc
built_number verbs.Verify (n ∷ []) keys command good e = absurd cc
built_number verbs.Verify (n ∷ m ∷ []) keys command good e = absurd cc
built_number verbs.Verify (n ∷ m ∷ k ∷ []) keys command good e = found _ command tt e
built_number verbs.Verify (n ∷ m ∷ k ∷ l ∷ rest) keys command good e = absurd cc
built_number verbs.Batch [] keys command good e = absurd cc
built_number verbs.Batch (n ∷ []) keys command good e = found _ command tt e
built_number verbs.Batch (n ∷ m ∷ rest) keys command good e = absurd cc
built_number verbs.Demo [] keys command good e = absurd cc
built_number verbs.Demo (n ∷ []) keys command good e = go keys.seed e
  where
    number : is_number 16384 n ≡ true
    number = (and_parts (is_number 16384 n) (list_all is_name []) good).0

    go : (seed : Option (List ℕ)) → or_else seed (λ seed. Some (Demo n seed)) None ≡ Some command → HasNumber command
    go (Some seed) e = found _ command number e
    go None e = absurd cc
built_number verbs.Demo (n ∷ m ∷ rest) keys command good e = absurd cc
built_number verbs.ShaCircuit [] keys command good e = absurd cc
built_number verbs.ShaCircuit (n ∷ []) keys command good e = absurd cc
built_number verbs.ShaCircuit (n ∷ m ∷ []) keys command good e = found _ command (and_parts (is_count 55 n) (list_all is_name (m ∷ [])) good).0 e
built_number verbs.ShaCircuit (n ∷ m ∷ k ∷ rest) keys command good e = absurd cc
built_number verbs.Sha256 [] keys command good e = absurd cc
built_number verbs.Sha256 (n ∷ []) keys command good e = absurd cc
built_number verbs.Sha256 (n ∷ m ∷ []) keys command good e = go keys.message keys.seed e
  where
    go : (message seed : Option (List ℕ)) → or_else message (λ message. or_else seed (λ seed. Some (Sha256 n m message seed keys.session)) None) None ≡ Some command → HasNumber command
    go (Some message) (Some seed) e = found _ command tt e
    go (Some message) None e = absurd cc
    go None seed e = absurd cc
built_number verbs.Sha256 (n ∷ m ∷ k ∷ rest) keys command good e = absurd cc

pub has_number : (words : List (List ℕ)) (command : Command) → command_of words ≡ Some command → HasNumber command
unfolding command_of
has_number words command e = go (request_of words) refl e
  where
    go : (made : Option Request) → request_of words ≡ made → or_else made (λ request. built request.verb request.names request.keys) None ≡ Some command → HasNumber command
    go (Some request) is e = built_number request.verb request.names request.keys command (request_names words request is) e
    go None is e = absurd cc
