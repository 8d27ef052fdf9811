-- The formats of policies, records and paths.
use Rattle.std.specs.Prelude.{◌≡◌, ◌≢◌, ◌<◌, ◌≤◌, ◌==◌, ◌+◌, ℕ, Bool, true, false, not, List, length, Ok, Err}
use Rattle.lzk_cmd_files.specs.Ends.{says}
use Rattle.lzk_cmd_files.specs.Formats.{Format}
use Rattle.lzk_policy.specs.Policies.{Contents, policy_of}
use Rattle.lzk_policy_inputs.specs.Hashes.{hash_count, most_hashes}
use Rattle.lzk_policy_texts.specs.declared.entries.ValuesFault.{ValuesFault}
use Rattle.lzk_credential_run.specs.declared.policies.PolicyRefusal.{PolicyRefusal}
use Rattle.lzk_credential_run.specs.declared.policies.PolicyRefusal.TheVariants.{Line, Hashes}
use Rattle.lzk_credential_run.specs.Lines.{policy_line, limit_line, kind_unfit_line, path_line, short_line}
use Rattle.lzk_policy_texts.specs.Paths.{Placed, path_of}
use Rattle.lzk_policy_texts.specs.Seals.{is_sealed}

abbrev pub policy_limit : ℕ
policy_limit = 65536

-- the first broken line of a policy; or there are more hashes than a circuit has room for
abbrev pub IsRefused : List ℕ → PolicyRefusal → Type 0
IsRefused text (Line fault) = policy_of text ≡ Err fault
IsRefused text Hashes = (p : Contents) × (policy_of text ≡ Ok p) × (most_hashes < hash_count p)

abbrev pub refusal_line : List ℕ → PolicyRefusal → List ℕ
refusal_line name (Line fault) = policy_line name fault
refusal_line name Hashes = limit_line name

-- policies for whose hashes a circuit has room
abbrev pub policy_files : Format Contents PolicyRefusal
policy_files = record {
  limit = policy_limit;
  means = λ text policy. (policy_of text ≡ Ok policy) × (hash_count policy ≤ most_hashes);
  breaks = IsRefused;
  refused = λ name refusal. says 3 (refusal_line name refusal);
}

-- the policy shows a root
abbrev pub is_rooted : Contents → Bool
is_rooted p = not (p.depth == 0)

-- how many files stand beside the values: the secret, where a pseudonym is shown of a sealed one, and the path, where
-- a root is shown
abbrev pub one_if : Bool → ℕ
one_if true = 1
one_if false = 0

abbrev pub beside_count : Contents → ℕ
beside_count p = one_if (is_sealed p) + one_if (is_rooted p)

-- why a text is no policy beside whose values so many files stand: it is refused, or other files should stand there,
-- as it is sealed or is not
pub data Unfit : Type 0 where
  Refused : PolicyRefusal → Unfit
  Amiss : Bool → Unfit

abbrev pub IsUnfit : ℕ → List ℕ → Unfit → Type 0
IsUnfit count text (Refused refusal) = IsRefused text refusal
IsUnfit count text (Amiss sealed) =
    (p : Contents) × (policy_of text ≡ Ok p) × (hash_count p ≤ most_hashes) × (is_sealed p ≡ sealed) ×
    (beside_count p ≢ count)

abbrev pub unfit_line : ℕ → List ℕ → Unfit → List ℕ
unfit_line count name (Refused refusal) = refusal_line name refusal
unfit_line count name (Amiss sealed) = kind_unfit_line count sealed name

-- policies beside whose values so many files stand
abbrev pub kind_files : ℕ → Format Contents Unfit
kind_files count = record {
  limit = policy_limit;
  means = λ text policy.
      (policy_of text ≡ Ok policy) × (hash_count policy ≤ most_hashes) × (beside_count policy ≡ count);
  breaks = IsUnfit count;
  refused = λ name unfit. says 3 (unfit_line count name unfit);
}

-- the path of a leaf to a root
abbrev pub path_files : Format Placed ValuesFault
path_files = record {
  limit = 65536;
  means = λ text x. path_of text ≡ Ok x;
  breaks = λ text fault. path_of text ≡ Err fault;
  refused = λ name fault. says 3 (path_line name fault);
}

-- records of so many bytes, with how many there are where they are too few
abbrev pub record_files : ℕ → Format (List ℕ) ℕ
record_files size = record {
  limit = size;
  means = λ bytes m. (bytes ≡ m) × (length m ≡ size);
  breaks = λ bytes n. (length bytes ≡ n) × (n < size);
  refused = λ name n. says 3 (short_line name n size);
}
