-- The session of a command has at most 64 bytes, and the message at most 55.
use Rattle.std.proofs.Common.{◌≡◌, ℕ, ◌*◌, ◌≤◌, Bool, true, false, ◌&&◌, List, [], ◌∷◌, length, drop, Option, Some, None, Result, Ok, Err, refl, subst, arith, lit≤}
use Rattle.std.specs.Prelude.{◌%◌, ◌==◌, nat_le, IfSome, is_none, cond, codes, take}
use Rattle.std.proofs.lemmas.Bool.{leb-true, and_parts}
use Rattle.hex.specs.declared.error.FromHexError.{FromHexError}
use Rattle.hex.specs.Hex.{decode_of}
use Rattle.hex.proofs.HexLemmas.{decode_of-ok}
use Rattle.lzk_cmd_words.specs.declared.table.Row.{Row}
use Rattle.lzk_cmd_words.specs.declared.table.Verb.{Verb}
use Rattle.lzk_cmd_words.specs.declared.table.Verb.TheVariants as verbs
use Rattle.lzk_cmd_words.specs.Grammar.{Request, request_of, behind_verb, are_names, are_keys}
use Rattle.lzk_cmd_words.specs.Digits.{message_of, decoded_or_none, session_of}
use Rattle.lzk_cmd_words.specs.Keys.{Keys, no_keys, behind, are_hex, is_seed, is_session, is_message, is_number, is_version, with_seed, with_session, with_workers, with_message, with_version, with_key, keys_after, keys_of, or_else}
use Rattle.lzk_cmd_words.specs.Table.{verb_of, row_of}
use Rattle.lzk_cmd_words.specs.Words.{Command, Eval, Compile, Upgrade, Show, Prove, Verify, Batch, Demo, ShaCircuit, Sha256, built, command_of}

-- the session that stands, if one does, is one, and so is the message
abbrev AreFit : Keys → Type 0
AreFit keys = IfSome keys.session (λ text. is_session text ≡ true) × IfSome keys.message (λ text. is_message text ≡ true)

some_is : {A : Type 0} (x y : A) → Some x ≡ Some y → x ≡ y
some_is x y e = cc

-- a key with both
kept : (keys next : Keys) (b : Bool) (more : Keys) → (b ≡ true → AreFit more) → cond b (Some more) None ≡ Some next → AreFit next
kept keys next true more good e = subst AreFit (some_is more next e) (good refl)
kept keys next false more good e = absurd cc

one_key : (keys : Keys) (word : List ℕ) (next : Keys) → AreFit keys → with_key keys word ≡ Some next → AreFit next
one_key keys word next good e = go (behind (codes "seed=") word) (behind (codes "session=") word) (behind (codes "workers=") word) (behind (codes "message=") word) (behind (codes "version=") word) e
  where
    go : (a b c d v : Option (List ℕ)) → or_else a (with_seed keys) (or_else b (with_session keys) (or_else c (with_workers keys) (or_else d (with_message keys) (or_else v (with_version keys) None)))) ≡ Some next → AreFit next
    go (Some text) b c d v e = kept keys next (is_none keys.seed && is_seed text) (record keys { seed = Some text }) (λ h. good) e
    go None (Some text) c d v e = kept keys next (is_none keys.session && is_session text) (record keys { session = Some text }) (λ h. ((and_parts (is_none keys.session) (is_session text) h).1, good.1)) e
    go None None (Some text) d v e = kept keys next (is_none keys.workers && is_number 64 text) (record keys { workers = Some text }) (λ h. good) e
    go None None None (Some text) v e = kept keys next (is_none keys.message && is_message text) (record keys { message = Some text }) (λ h. (good.0, (and_parts (is_none keys.message) (is_message text) h).1)) e
    go None None None None (Some text) e = kept keys next (is_none keys.version && is_version text) (record keys { version = Some text }) (λ h. good) e
    go None None None None None e = absurd cc

all_keys : (words : List (List ℕ)) (keys next : Keys) → AreFit keys → keys_after keys words ≡ Some next → AreFit next
all_keys [] keys next good e = subst AreFit (some_is keys next e) good
all_keys (word ∷ words) keys next good e = go (with_key keys word) refl (λ more. all_keys words more next) e
  where
    go : (step : Option Keys) → with_key keys word ≡ step → ((more : Keys) → AreFit more → keys_after more words ≡ Some next → AreFit next) → or_else step (λ more. keys_after more words) None ≡ Some next → AreFit next
    go (Some more) is rest e = rest more (one_key keys word more good is) e
    go None is rest e = absurd cc

behind_keys : (verb : Verb) (words : List (List ℕ)) (request : Request) → behind_verb verb words ≡ Some request → AreFit request.keys
behind_keys verb words request e = long _ e
  where
    row : Row
    row = row_of verb

    fits : (keys : Keys) (b : Bool) → AreFit keys → ◌≡◌ {A = Option Request} (cond b (Some (record { verb = verb; names = take row.names words; keys = keys })) None) (Some request) → AreFit request.keys
    fits keys true good e = subst (λ (r : Request). AreFit r.keys) (some_is _ request e) good
    fits keys false good e = absurd cc

    found : (keys : Option Keys) → keys_of (drop row.names words) ≡ keys
        → or_else keys (λ keys. cond (are_names row (take row.names words) && are_keys row keys) (Some (record { verb = verb; names = take row.names words; keys = keys })) None) None ≡ Some request → AreFit request.keys
    found (Some keys) is e = fits keys (are_names row (take row.names words) && are_keys row keys) (all_keys (drop row.names words) no_keys keys (tt, tt) is) e
    found None is e = absurd cc

    long : (b : Bool)
        → cond b (or_else (keys_of (drop row.names words)) (λ keys. cond (are_names row (take row.names words) && are_keys row keys) (Some (record { verb = verb; names = take row.names words; keys = keys })) None) None) None ≡ Some request
        → AreFit request.keys
    long true e = found (keys_of (drop row.names words)) refl e
    long false e = absurd cc

request_keys : (words : List (List ℕ)) (request : Request) → request_of words ≡ Some request → AreFit request.keys
request_keys [] request e = absurd cc
request_keys (word ∷ words) request e = go (verb_of word) e
  where
    go : (verb : Option Verb) → or_else verb (λ verb. behind_verb verb words) None ≡ Some request → AreFit request.keys
    go (Some verb) e = behind_keys verb words request e
    go None e = absurd cc

-- the bytes of digits are half as many
few_bytes : (most : ℕ) (text : List ℕ) (read : Result (List ℕ) FromHexError) → decode_of text ≡ read → ((length text % 2 == 0) && (nat_le (length text) most && are_hex text)) ≡ true → 2 * length (decoded_or_none read) ≤ most
few_bytes most text (Ok bytes) is good =
    let fits = (and_parts (nat_le (length text) most) (are_hex text) (and_parts (length text % 2 == 0) (nat_le (length text) most && are_hex text) good).1).0 in
    let long : length text ≡ 2 * length bytes = (decode_of-ok text bytes is).2 in
    let few : length text ≤ most = leb-true (length text) most fits in
    omega (arith, long, few)
few_bytes most text (Err fault) is good = omega arith

few : (session : Option (List ℕ)) → IfSome session (λ text. is_session text ≡ true) → length (session_of session) ≤ 64
few None good = lit≤ tt
few (Some text) good = let half = few_bytes 128 text (decode_of text) refl good in omega (arith, half)

few_message : (text : List ℕ) → is_message text ≡ true → length (message_of text) ≤ 55
few_message text good = let half = few_bytes 110 text (decode_of text) refl good in omega (arith, half)

-- the session that a command asks for
abbrev pub asked : Command → Option (List ℕ)
asked (Eval circuit public private) = None
asked (Compile source circuit version) = None
asked (Upgrade old new) = None
asked (Show circuit) = None
asked (Prove circuit public private proof seed session) = session
asked (Verify circuit public proof session) = session
asked (Batch list) = None
asked (Demo count seed) = None
asked (ShaCircuit count circuit) = None
asked (Sha256 circuit proof message seed session) = session

-- the message that it proves for
abbrev message_asked : Command → Option (List ℕ)
message_asked (Sha256 circuit proof message seed session) = Some message
message_asked command = None

abbrev AsksOne : Command → Type 0
AsksOne command = IfSome (asked command) (λ text. is_session text ≡ true) × IfSome (message_asked command) (λ text. is_message text ≡ true)

found : (made command : Command) → AsksOne made → Some made ≡ Some command → AsksOne command
found made command good e = subst AsksOne (some_is made command e) good

built_session : (verb : Verb) (names : List (List ℕ)) (keys : Keys) (command : Command) → AreFit keys → built verb names keys ≡ Some command → AsksOne command
built_session verbs.Eval [] keys command good e = absurd cc
built_session verbs.Eval (n ∷ []) keys command good e = absurd cc
built_session verbs.Eval (n ∷ m ∷ []) keys command good e = absurd cc
built_session verbs.Eval (n ∷ m ∷ k ∷ []) keys command good e = found _ command (tt, tt) e
built_session verbs.Eval (n ∷ m ∷ k ∷ l ∷ rest) keys command good e = absurd cc
built_session verbs.Compile [] keys command good e = absurd cc
built_session verbs.Compile (n ∷ []) keys command good e = absurd cc
built_session verbs.Compile (n ∷ m ∷ []) keys command good e = found _ command (tt, tt) e
built_session verbs.Compile (n ∷ m ∷ k ∷ rest) keys command good e = absurd cc
built_session verbs.Upgrade [] keys command good e = absurd cc
built_session verbs.Upgrade (n ∷ []) keys command good e = absurd cc
built_session verbs.Upgrade (n ∷ m ∷ []) keys command good e = found _ command (tt, tt) e
built_session verbs.Upgrade (n ∷ m ∷ k ∷ rest) keys command good e = absurd cc
built_session verbs.Show [] keys command good e = absurd cc
built_session verbs.Show (n ∷ []) keys command good e = found _ command (tt, tt) e
built_session verbs.Show (n ∷ m ∷ rest) keys command good e = absurd cc
built_session verbs.Prove [] keys command good e = absurd cc
built_session verbs.Prove (n ∷ []) keys command good e = absurd cc
built_session verbs.Prove (n ∷ m ∷ []) keys command good e = absurd cc
built_session verbs.Prove (n ∷ m ∷ k ∷ []) keys command good e = absurd cc
built_session verbs.Prove (n ∷ m ∷ k ∷ l ∷ []) keys command good e = go keys.seed e
  where
    go : (seed : Option (List ℕ)) → or_else seed (λ seed. Some (Prove n m k l seed keys.session)) None ≡ Some command → AsksOne command
    go (Some seed) e = found _ command (good.0, tt) e
    go None e = absurd cc
built_session verbs.Prove (n ∷ m ∷ k ∷ l ∷ j ∷ rest) keys command good e = absurd cc
built_session verbs.Verify [] keys command good e = absurd cc
built_session verbs.Verify (n ∷ []) keys command good e = absurd cc
built_session verbs.Verify (n ∷ m ∷ []) keys command good e = absurd cc
built_session verbs.Verify (n ∷ m ∷ k ∷ []) keys command good e = found _ command (good.0, tt) e
built_session verbs.Verify (n ∷ m ∷ k ∷ l ∷ rest) keys command good e = absurd cc
built_session verbs.Batch [] keys command good e = absurd cc
built_session verbs.Batch (n ∷ []) keys command good e = found _ command (tt, tt) e
built_session verbs.Batch (n ∷ m ∷ rest) keys command good e = absurd cc
built_session verbs.Demo [] keys command good e = absurd cc
built_session verbs.Demo (n ∷ []) keys command good e = go keys.seed e
  where
    go : (seed : Option (List ℕ)) → or_else seed (λ seed. Some (Demo n seed)) None ≡ Some command → AsksOne command
    go (Some seed) e = found _ command (tt, tt) e
    go None e = absurd cc
built_session verbs.Demo (n ∷ m ∷ rest) keys command good e = absurd cc
built_session verbs.ShaCircuit [] keys command good e = absurd cc
built_session verbs.ShaCircuit (n ∷ []) keys command good e = absurd cc
built_session verbs.ShaCircuit (n ∷ m ∷ []) keys command good e = found _ command (tt, tt) e
built_session verbs.ShaCircuit (n ∷ m ∷ k ∷ rest) keys command good e = absurd cc
built_session verbs.Sha256 [] keys command good e = absurd cc
built_session verbs.Sha256 (n ∷ []) keys command good e = absurd cc
built_session verbs.Sha256 (n ∷ m ∷ []) keys command good e = go keys.message keys.seed good.1 e
  where
    go : (message seed : Option (List ℕ)) → IfSome message (λ text. is_message text ≡ true) → or_else message (λ message. or_else seed (λ seed. Some (Sha256 n m message seed keys.session)) None) None ≡ Some command → AsksOne command
    go (Some message) (Some seed) fits e = found _ command (good.0, fits) e
    go (Some message) None fits e = absurd cc
    go None seed fits e = absurd cc
built_session verbs.Sha256 (n ∷ m ∷ k ∷ rest) keys command good e = absurd cc

asks_one : (words : List (List ℕ)) (command : Command) → command_of words ≡ Some command → AsksOne command
unfolding command_of
asks_one words command e = go (request_of words) refl e
  where
    go : (found : Option Request) → request_of words ≡ found → or_else found (λ request. built request.verb request.names request.keys) None ≡ Some command → AsksOne command
    go (Some request) is e = built_session request.verb request.names request.keys command (request_keys words request is) e
    go None is e = absurd cc

pub session_fits : (words : List (List ℕ)) (command : Command) → command_of words ≡ Some command → length (session_of (asked command)) ≤ 64
session_fits words command e = few (asked command) (asks_one words command e).0

pub message_fits : (words : List (List ℕ)) (circuit proof message seed : List ℕ) (session : Option (List ℕ)) → command_of words ≡ Some (Sha256 circuit proof message seed session) → length (message_of message) ≤ 55
message_fits words circuit proof message seed session e = few_message message (asks_one words (Sha256 circuit proof message seed session) e).1
