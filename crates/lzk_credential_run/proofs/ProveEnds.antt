-- The ends of a proof that is drawn and put.
use Rattle.std.proofs.Common.{◌≡◌, ◌≤◌, ℕ, List, length, Result, Ok, Err, inl, inr, refl, subst, ◌∙◌, arith}
use Rattle.std.specs.Result.{IsErrAnd}
use Rattle.lzk_cmd_files.specs.declared.ending.Ending.{Ending}
use Rattle.lzk_cmd_files.specs.declared.ending.Halt.{Halt}
use Rattle.lzk_cmd_files.specs.declared.ending.Halt.TheVariants as halts
use Rattle.lzk_cmd_files.specs.Ends.{says}
use Rattle.lzk_cmd_files.specs.Lines.{proved_line}
use Rattle.lzk_cmd_files.specs.Seen.{Seen}
use Rattle.lzk_cmd_files.specs.Walks.{OnlyReads, Puts}
use Rattle.lzk_cmd_files.proofs.Sights.{read_later, missed_later}
use Rattle.lzk_cmd_files.proofs.Steps.{handed_on}
use Rattle.lzk_policy.specs.Policies.{Contents}
use Rattle.lzk_policy_inputs.specs.Both.{Inputs}
use Rattle.lzk_credential_run.specs.Proofs.{IsPolicyProof}
use Rattle.lzk_credential_run.specs.Seeds.{GivesSeed, IsSeed, SeedEnds}
use Rattle.lzk_credential_run.specs.Ends.{NothingPut, Settles, Way}
use Rattle.lzk_credential_run.specs.Lines.{limit_line}
use Rattle.lzk_credential_run.specs.Orders.{Order}
use Rattle.lzk_credential_run.specs.Proved.{Draws, MakesProof, PutsProof}
use Rattle.lzk_credential_run.proofs.Steps.{IsLate, IsSmall, puts_later, puts_small, says_later, says_small, told_later}

-- ---- since an earlier sight

seed_ends_later : (old mid new : Seen) (e : Ending) → OnlyReads old mid → SeedEnds mid new e → SeedEnds old new e
seed_ends_later old mid new e first (inl h) = inl (read_later old mid new first h.0, h.1)
seed_ends_later old mid new e first (inr (inl h)) = inr (inl (missed_later old mid new first h.0, told_later old mid _ first h.1, h.2))
seed_ends_later old mid new e first (inr (inr h)) = inr (inr (told_later old mid _ first h.0, h.1))

draws_later : (next : List ℕ → Way) → ((seed : List ℕ) → IsLate (next seed)) → IsLate (Draws next)
draws_later next late old mid new e first (inl (ends, same)) = inl (seed_ends_later old mid new e first ends, same ∙ first.files)
draws_later next late old mid new e first (inr (seed, is, more)) =
    inr (seed, record { size = is.size; told = told_later old mid _ first is.told }, late seed old mid new e first more)

puts_proof_later : (order : Order) (p : Contents) (i : Inputs) (seed : List ℕ) → IsLate (PutsProof order p i seed)
puts_proof_later order p i seed old mid new e first (inl (limit, h)) = inl (limit, says_later (says 3 (limit_line order.policy)) old mid new e first h)
puts_proof_later order p i seed old mid new e first (inr (bytes, is, h)) = inr (bytes, is, puts_later order.proof bytes (proved_line order.proof (length bytes)) old mid new e first h)

pub draws_proof_later : (order : Order) (p : Contents) (i : Inputs) → IsLate (Draws (PutsProof order p i))
draws_proof_later order p i = draws_later (PutsProof order p i) (puts_proof_later order p i)

-- ---- the seed

module _ (order : Order) (p : Contents) (i : Inputs) where
  -- the run ends at the seed
  pub seed_ended : (old new : Seen) (h : Halt) (r : Result Ending Halt) → OnlyReads old new → GivesSeed old new (Err h) → IsErrAnd r (λ y. y ≡ h) → Settles (Draws (PutsProof order p i)) NothingPut old new r
  seed_ended old new h r reads gives is = handed_on (Settles (Draws (PutsProof order p i)) NothingPut old new) r h is (go h gives)
    where
      go : (h : Halt) → GivesSeed old new (Err h) → Settles (Draws (PutsProof order p i)) NothingPut old new (Err h)
      go halts.Memory gives = reads.files
      go (halts.End e) gives = inl (gives, reads.files)

  -- it goes on with one
  pub seed_drawn : (old mid new : Seen) (seed : List ℕ) (r : Result Ending Halt) → OnlyReads old mid → IsSeed old seed → Settles (PutsProof order p i seed) NothingPut mid new r → Settles (Draws (PutsProof order p i)) NothingPut old new r
  seed_drawn old mid new seed r reads is rest = go r rest
    where
      go : (r : Result Ending Halt) → Settles (PutsProof order p i seed) NothingPut mid new r → Settles (Draws (PutsProof order p i)) NothingPut old new r
      go (Ok e) h = inr (seed, is, puts_proof_later order p i seed old mid new e reads h)
      go (Err halts.Memory) h = h ∙ reads.files
      go (Err (halts.End e)) h = inr (seed, is, puts_proof_later order p i seed old mid new e reads h)

  -- ---- the proof

  module _ (seed : List ℕ) where
    -- no proof is made
    pub no_proof : (old : Seen) (h : Halt) (r : Result Ending Halt) → MakesProof order p i seed (Err h) → IsErrAnd r (λ y. y ≡ h) → Settles (PutsProof order p i seed) NothingPut old old r
    no_proof old h r made is = handed_on (Settles (PutsProof order p i seed) NothingPut old old) r h is (go h made)
      where
        go : (h : Halt) → MakesProof order p i seed (Err h) → Settles (PutsProof order p i seed) NothingPut old old (Err h)
        go halts.Memory made = refl
        go (halts.End e) (limit, is) = inl (limit, (is, refl))

    -- the proof is put
    pub proof_put : (bytes given text : List ℕ) (old new : Seen) (r : Result Ending Halt) → IsPolicyProof p order.session seed i bytes → given ≡ bytes → text ≡ proved_line order.proof (length bytes) → Puts order.proof given text old new r
        → Settles (PutsProof order p i seed) NothingPut old new r
    proof_put bytes given text old new r is same said puts =
        go r (subst (λ (t : List ℕ). Puts order.proof bytes t old new r) said (subst (λ (bs : List ℕ). Puts order.proof bs text old new r) same puts))
      where
        go : (r : Result Ending Halt) → Puts order.proof bytes (proved_line order.proof (length bytes)) old new r → Settles (PutsProof order p i seed) NothingPut old new r
        go (Ok e) h = inr (bytes, is, h)
        go (Err halts.Memory) h = h
        go (Err (halts.End e)) h = absurd h

-- ---- statuses

seed_small : (old new : Seen) (e : Ending) → SeedEnds old new e → e.status ≤ 5
seed_small old new e (inl h) = let is = h.1.status in omega (arith, is)
seed_small old new e (inr (inl h)) = let is = h.2.status in omega (arith, is)
seed_small old new e (inr (inr h)) = let is = h.1.status in omega (arith, is)

puts_proof_small : (order : Order) (p : Contents) (i : Inputs) (seed : List ℕ) → IsSmall (PutsProof order p i seed)
puts_proof_small order p i seed old new e (inl (limit, h)) = says_small (says 3 (limit_line order.policy)) (omega arith) old new e h
puts_proof_small order p i seed old new e (inr (bytes, is, h)) = puts_small order.proof bytes (proved_line order.proof (length bytes)) old new e h

pub draws_proof_small : (order : Order) (p : Contents) (i : Inputs) → IsSmall (Draws (PutsProof order p i))
draws_proof_small order p i old new e (inl (ends, same)) = seed_small old new e ends
draws_proof_small order p i old new e (inr (seed, drawn, more)) = puts_proof_small order p i seed old new e more
