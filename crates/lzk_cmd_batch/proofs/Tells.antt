-- Verdicts, and what is told of them in the order of the jobs.
use Rattle.std.proofs.Common.{◌≡◌, ◌+◌, ◌-◌, ◌<◌, ◌≤◌, ℕ, suc, Bool, true, false, not, List, [], ◌∷◌, ◌++◌, length, drop, map, Some, Result, Ok, Err, refl, sym, ap, ◌∙◌, subst, arith, lit≤, append_assoc, append-nil, drop-cons, add-one}
use Rattle.std.specs.declared.alloc.AllocError.{AllocError}
use Rattle.std.specs.Prelude.{◌==◌, All, IfOk, cond, slice_get, slice_index_or, string_bytes}
use Rattle.std.specs.Option.{option_map}
use Rattle.std.proofs.lemmas.List.{length-map}
use Rattle.std.proofs.lemmas.List.Elements.{All-nil, All-cons}
use Rattle.std.proofs.lemmas.List.Sums.{sum_by-cons}
use Rattle.std.proofs.lemmas.Option.{slice_get_within, get_or_from_slice_get, slice_get-get_or, slice_get-map}
use Rattle.std.specs.List.{AllZip}
use Rattle.lzk_batch.specs.Batch.{IsJobFit, IsJobVerdict, HasVerdict, HaveVerdicts}
use Rattle.lzk_batch.specs.declared.job.AnyVerdict.{AnyVerdict}
use Rattle.lzk_batch.specs.declared.job.AnyVerdict.TheVariants as verdicts
use Rattle.lzk_batch.specs.declared.job.Job.{Job}
use Rattle.lzk_batch.specs.declared.job.Job.TheVariants as jobs
use Rattle.lzk_circbytes.specs.declared.any.AnyCircuit.{AnyCircuit}
use Rattle.lzk_circbytes.specs.declared.any.AnyCircuit.TheVariants.{Gold, Gf}
use Rattle.lzk_goldilocks.specs.Elements as gold
use Rattle.lzk_gf128.specs.Elements as gf
use Rattle.lzk_cmd_batch.specs.Batched.{AnyRead, IsTold, AreTold, job_line, job_lines, batch_line, accepted_of, rejected_of, batch_end}
use Rattle.lzk_cmd_files.specs.declared.ending.Ending.{Ending}
use Rattle.lzk_cmd_batch.specs.declared.gathering.Gathered.{Gathered}
use Rattle.lzk_cmd_files.specs.Ends.{End}
use Rattle.lzk_cmd_batch.specs.Gathered.{IsReadOf, IsHeld, TellsJobs, any_end}
use Rattle.lzk_cmd_verify.specs.Verified.{verdict_end}
use Rattle.lzk_cmd_files.specs.Walks.{IsEnding}

-- ---- a job's verdict is how `verify` ends on it

some_is : {A : Type 0} (x y : A) → Some x ≡ Some y → x ≡ y
some_is x y e = cc

module _ (kept : List AnyCircuit) where
  told_one : (job : Job) (read : AnyRead) (v : AnyVerdict) → IsHeld kept job read → HasVerdict kept job v → IsTold read (any_end v)
  told_one job read v h g =
      let same : g.circuit ≡ h.circuit = some_is g.circuit h.circuit (sym g.there ∙ h.there) in
      go h.circuit job read v h.is (subst (λ c. IsJobVerdict c job v) same g.verdict)
    where
      go : (c : AnyCircuit) (job : Job) (read : AnyRead) (v : AnyVerdict) → IsReadOf c job read → IsJobVerdict c job v → IsTold read (any_end v)
      go (Gold c) (jobs.Gold job) read (verdicts.Gold v) is verdict = subst (λ (r : AnyRead). IsTold r (verdict_end gold.number v)) (sym is) (v, verdict, refl)
      go (Gold c) (jobs.Gold job) read (verdicts.Gf v) is verdict = absurd verdict
      go (Gold c) (jobs.Gf job) read v is verdict = absurd is
      go (Gf c) (jobs.Gold job) read v is verdict = absurd is
      go (Gf c) (jobs.Gf job) read (verdicts.Gold v) is verdict = absurd verdict
      go (Gf c) (jobs.Gf job) read (verdicts.Gf v) is verdict = subst (λ (r : AnyRead). IsTold r (verdict_end gf.number v)) (sym is) (v, verdict, refl)

  pub all_told : (list : List Job) (reads : List AnyRead) (vs : List AnyVerdict) → AllZip (IsHeld kept) list reads → HaveVerdicts kept list vs → AreTold reads (map any_end vs)
  all_told [] [] [] h g = tt
  all_told [] [] (v ∷ vs) h g = absurd g
  all_told [] (r ∷ reads) vs h g = absurd h
  all_told (job ∷ list) [] vs h g = absurd h
  all_told (job ∷ list) (r ∷ reads) [] h g = absurd g
  all_told (job ∷ list) (r ∷ reads) (v ∷ vs) h g = (told_one job r v h.0 g.0, all_told list reads vs h.1 g.1)

  pub as_many : (list : List Job) (vs : List AnyVerdict) → HaveVerdicts kept list vs → length vs ≡ length list
  as_many [] [] g = refl
  as_many [] (v ∷ vs) g = absurd g
  as_many (job ∷ list) [] g = absurd g
  as_many (job ∷ list) (v ∷ vs) g = ap suc (as_many list vs g.1)

  -- jobs that are held may be verified
  pub all_fit : (list : List Job) (reads : List AnyRead) → AllZip (IsHeld kept) list reads → All (IsJobFit kept) list
  all_fit [] [] h = All-nil (IsJobFit kept)
  all_fit [] (r ∷ reads) h = absurd h
  all_fit (job ∷ list) [] h = absurd h
  all_fit (job ∷ list) (r ∷ reads) h = All-cons (IsJobFit kept) job list (record { circuit = h.0.circuit; there = h.0.there; fits = h.0.fits }) (all_fit list reads h.1)

-- ---- the lines, one job further

left_is : (ends : List End) (i : ℕ) (end : End) → slice_get ends i ≡ Some end → drop i ends ≡ end ∷ drop (i + 1) ends
left_is xs i x is = rw add-one (drop-cons xs i x (slice_get_within xs i x is) ∙ ap (λ y. y ∷ drop (suc i) xs) (get_or_from_slice_get xs i x x is))

module _ (ends : List End) (i : ℕ) (end : End) (is : slice_get ends i ≡ Some end) where
  pub one_more_line : (old new whole text : List ℕ) → text ≡ end.text → new ≡ old ++ job_line (i + 1) text → old ++ job_lines (i + 1) (drop i ends) ≡ whole → new ++ job_lines (i + 1 + 1) (drop (i + 1) ends) ≡ whole
  one_more_line old new whole text same e before =
      let line : new ≡ old ++ job_line (i + 1) end.text = e ∙ ap (λ t. old ++ job_line (i + 1) t) same in
      ap (λ w. w ++ job_lines (i + 1 + 1) (drop (i + 1) ends)) line
      ∙ append_assoc old (job_line (i + 1) end.text) (job_lines (i + 1 + 1) (drop (i + 1) ends))
      ∙ ap (λ ys. old ++ job_lines (i + 1) ys) (sym (left_is ends i end is)) ∙ before

  pub one_more_end : (old one new whole : ℕ) → one ≡ cond (end.status == 0) 1 0 → new ≡ old + one → old + accepted_of (drop i ends) ≡ whole → new + accepted_of (drop (i + 1) ends) ≡ whole
  one_more_end old one new whole is_one e before =
      let rest : accepted_of (drop i ends) ≡ cond (end.status == 0) 1 0 + accepted_of (drop (i + 1) ends) =
      ap accepted_of (left_is ends i end is) ∙ sum_by-cons (λ (x : End). cond (x.status == 0) 1 0) end (drop (i + 1) ends) in
      omega (arith, is_one, e, before, rest)

-- each job was accepted or rejected
pub all_counted : (ends : List End) → accepted_of ends + rejected_of ends ≡ length ends
all_counted [] = refl
all_counted (end ∷ ends) =
    let yes = sum_by-cons (λ (x : End). cond (x.status == 0) 1 0) end ends in
    let no = sum_by-cons (λ (x : End). cond (not (x.status == 0)) 1 0) end ends in
    omega (arith, yes, no, one (end.status == 0), all_counted ends)
  where
    one : (b : Bool) → cond b 1 0 + cond (not b) 1 0 ≡ 1
    one true = refl
    one false = refl

pub none_left : {A : Type 0} (xs : List A) → drop (length xs) xs ≡ []
none_left [] = refl
none_left (x ∷ xs) = none_left xs

pub all_lines : (ends : List End) (i : ℕ) (text whole : List ℕ) → i ≡ length ends → text ++ job_lines (i + 1) (drop i ends) ≡ whole → text ≡ whole
all_lines ends i text whole at h =
    let left : drop i ends ≡ [] = ap (λ n. drop n ends) at ∙ none_left ends in
    sym (append-nil text) ∙ sym (ap (λ xs. text ++ job_lines (i + 1) xs) left) ∙ h

pub all_ends : (ends : List End) (i accepted whole : ℕ) → i ≡ length ends → accepted + accepted_of (drop i ends) ≡ whole → accepted ≡ whole
all_ends ends i accepted whole at h =
    let left : accepted_of (drop i ends) ≡ 0 = ap (λ n. accepted_of (drop n ends)) at ∙ ap accepted_of (none_left ends) in
    omega (arith, left, h)

-- ---- the loop over the verdicts

pub record Telling (ends : List End) (i accepted : ℕ) (text : List ℕ) : Type 0 where
  pub lines : text ++ job_lines (i + 1) (drop i ends) ≡ job_lines 1 ends
  pub counted : accepted + accepted_of (drop i ends) ≡ accepted_of ends

pub telling_begins : (ends : List End) (text : List ℕ) → text ≡ [] → Telling ends 0 0 text
telling_begins ends text none = record { lines = ap (λ t. t ++ job_lines 1 ends) none; counted = omega arith }

pub telling_goes_on : (ends : List End) (i : ℕ) (end : End) → slice_get ends i ≡ Some end → (accepted one : ℕ) (old new text : List ℕ) → Telling ends i accepted old → text ≡ end.text → new ≡ old ++ job_line (i + 1) text → one ≡ cond (end.status == 0) 1 0
    → Telling ends (i + 1) (accepted + one) new
telling_goes_on ends i end at accepted one old new text h same put is = record {
  lines = one_more_line ends i end at old new (job_lines 1 ends) text same put h.lines;
  counted = one_more_end ends i end at accepted one (accepted + one) (accepted_of ends) is refl h.counted;
}

pub at_most_one : (b : Bool) → cond b 1 0 ≤ 1
at_most_one true = lit≤ tt
at_most_one false = lit≤ tt

pub end_at : (vs : List AnyVerdict) (i : ℕ) (v : AnyVerdict) → i < length vs → v ≡ slice_index_or vs i v → slice_get (map any_end vs) i ≡ Some (any_end v)
end_at vs i v less is = slice_get-map any_end vs i ∙ ap (option_map any_end) (slice_get-get_or vs i v less ∙ ap Some (sym is))

pub few_accepted : (vs : List AnyVerdict) (i accepted : ℕ) (text : List ℕ) → Telling (map any_end vs) i accepted text → accepted ≤ length vs
few_accepted vs i accepted text h =
    let most = all_counted (map any_end vs) in
    omega (arith, most, h.counted, length-map vs any_end)

pub telling_ends : (vs : List AnyVerdict) (i accepted : ℕ) (text : List ℕ) (e : Ending) → Telling (map any_end vs) i accepted text → i ≤ length vs → length vs ≤ i → e.status ≡ cond ((length vs - accepted) == 0) 0 1
    → string_bytes e.text ≡ text ++ batch_line accepted (length vs - accepted) → IsEnding (batch_end (map any_end vs)) e
telling_ends vs i accepted text e h below above status put =
    let ends = map any_end vs in
    let at : i ≡ length ends = omega (arith, length-map vs any_end) in
    let yes : accepted ≡ accepted_of ends = all_ends ends i accepted (accepted_of ends) at h.counted in
    let no : length vs - accepted ≡ rejected_of ends = omega (arith, all_counted ends, length-map vs any_end, yes) in
    let lines : text ≡ job_lines 1 ends = all_lines ends i text (job_lines 1 ends) at h.lines in
    record {
      status = sym (status ∙ ap (λ n. cond (n == 0) 0 1) no);
      text = sym (put ∙ ap (λ t. t ++ batch_line accepted (length vs - accepted)) lines ∙ ap (λ n. job_lines 1 ends ++ batch_line n (length vs - accepted)) yes ∙ ap (λ n. job_lines 1 ends ++ batch_line (accepted_of ends) n) no);
    }

-- ---- jobs that were judged

module _ (g : Gathered) (cs : List AnyCircuit) (list : List Job) (vs given : List AnyVerdict) (circuits_are : cs ≡ g.circuits.items) (jobs_are : list ≡ g.jobs.items) (given_are : given ≡ vs) (verdicts_are : HaveVerdicts cs list vs) where
  have : HaveVerdicts g.circuits.items g.jobs.items vs
  have = subst (λ (js : List Job). HaveVerdicts g.circuits.items js vs) jobs_are (subst (λ (ks : List AnyCircuit). HaveVerdicts ks list vs) circuits_are verdicts_are)

  pub few_verdicts : length g.jobs.items ≤ 256 → length given ≤ 256
  few_verdicts few = omega (arith, ap length given_are, as_many g.circuits.items g.jobs.items vs have, few)

  pub judge_tells : (r : Result Ending AllocError) → IfOk r (IsEnding (batch_end (map any_end given))) → IfOk r (TellsJobs g)
  judge_tells (Ok e) h = λ reads held. (map any_end vs, all_told g.circuits.items g.jobs.items reads vs held have, subst (λ (ws : List AnyVerdict). IsEnding (batch_end (map any_end ws)) e) given_are h)
  judge_tells (Err e) h = tt
