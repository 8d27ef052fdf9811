-- The files of the jobs of a batch, one after the other.
use Rattle.std.proofs.Common.{◌≡◌, inl, ◌+◌, ◌*◌, ◌<◌, ◌≤◌, ℕ, suc, false, List, [], ◌∷◌, ◌++◌, length, drop, map, Option, Some, Result, Ok, Err, refl, sym, ap, ◌∙◌, subst, arith, lit≤, drop-cons, add-one}
use Rattle.std.specs.Prelude.{All, Vec, slice_get, slice_index_or}
use Rattle.std.specs.Option.{option_map}
use Rattle.std.specs.declared.alloc.Global.{Global}
use Rattle.std.specs.Result.{IsErrAnd}
use Rattle.std.proofs.lemmas.Bool.{le-ltb}
use Rattle.std.proofs.lemmas.Option.{slice_get_within, get_or_from_slice_get, slice_get-get_or, slice_get-map}
use Rattle.std.proofs.lemmas.List.{length-append, length-map}
use Rattle.lzk_batch.specs.Batch.{place_of}
use Rattle.lzk_batch.specs.declared.job.Job.{Job}
use Rattle.lzk_batch.specs.declared.job.JobOf.{JobOf}
use Rattle.lzk_batch.specs.Lists.{Listed, entry_view}
use Rattle.lzk_batch.specs.declared.entry.Entry.{Entry}
use Rattle.lzk_batch.specs.declared.job.Job.TheVariants as jobs
use Rattle.lzk_circbytes.specs.declared.any.AnyCircuit.{AnyCircuit}
use Rattle.lzk_circbytes.specs.declared.any.AnyCircuit.TheVariants.{Gold, Gf}
use Rattle.lzk_circuit.specs.Valid.{Wiring}
use Rattle.lzk_field.specs.Coding.{Coding}
use Rattle.lzk_goldilocks.specs.declared.element.Gold.{Gold as GoldElement}
use Rattle.lzk_gf128.specs.declared.element.Gf128.{Gf128}
use Rattle.lzk_outside.specs.Outside.{Files}
use Rattle.lzk_cmd_files.specs.declared.ending.Ending.{Ending}
use Rattle.lzk_cmd_files.specs.declared.ending.Halt.{Halt}
use Rattle.lzk_cmd_files.specs.declared.ending.Halt.TheVariants as halts
use Rattle.lzk_cmd_batch.specs.declared.gathering.Gathered.{Gathered}
use Rattle.lzk_cmd_batch.specs.declared.kept.Circuits.{Circuits}
use Rattle.lzk_cmd_batch.specs.Batched.{JobRead, AnyRead, GoldRead, GfRead, among, total_limit, JobOver, JobAny, JobsRun}
use Rattle.lzk_cmd_files.specs.Decoded.{circuit_files, number_files, proof_files}
use Rattle.lzk_cmd_files.specs.Ends.{End, Stop, stops_at}
use Rattle.lzk_cmd_files.specs.Formats.{Format, Has, At}
use Rattle.lzk_cmd_batch.specs.Gathered.{AreKept, KeepsOn, IsShort, HasReadAll, HasCircuit, GivesPlace, read_over, IsHeld, HasOver, HasAny, HasJob, Behind, ReadsOver, GivesOver, ReadsAny, GivesAny, ReadsJob, GivesJob, LeadsTo, HasRead, GivesJobs}
use Rattle.lzk_cmd_files.specs.Seen.{Seen}
use Rattle.lzk_cmd_verify.specs.Verified.{gold_coding, gf_coding}
use Rattle.lzk_cmd_files.specs.Walks.{OnlyReads, Gives, Settled}
use Rattle.lzk_cmd_files.proofs.Causes.{cause_later}
use Rattle.lzk_cmd_batch.proofs.Keeping.{each_more, each_by, front_stays}
use Rattle.lzk_cmd_files.proofs.Laws as laws
use Rattle.lzk_cmd_files.proofs.Laws.{numbers_quiet}
use Rattle.lzk_cmd_batch.proofs.Lists.{among_quiet}
use Rattle.lzk_cmd_files.proofs.Sights.{where_told, at_told, may_later, no_step, reads_then}
use Rattle.lzk_cmd_files.proofs.Steps.{ends, then, handed_on}

-- ---- a file that was read

pub has_of : {X F R : Type 0} (format : Format X F) (view : R → X) (old new : Seen) (name : List ℕ) (x : R) (files : Files) → old.files ≡ Some files → Gives format view old new name (Ok x) → Has format files name (view x)
has_of format view old new name x files at (bytes, has, means) = record { bytes = bytes; file = at_told old.files _ files at has; means = means }

few_of : {X F R : Type 0} (format : Format X F) (view : R → X × ℕ) (old new : Seen) (name : List ℕ) (taken : ℕ) (x : R) → Gives (among taken format) view old new name (Ok x) → (view x).1 ≤ total_limit
few_of format view old new name taken x (bytes, has, (means, sum, few)) = few

-- the walk goes on with what a file means that is there
goes_on : {X F : Type 0} (format : Format X F) (name : List ℕ) (k : ℕ) (files : Files) (stop : Stop) (end : End) (next : X → Type 0) (x : X) → stops_at stop k ≡ false → Has format files name x → next x → At format files stop k name end next
goes_on format name k files stop end next x far has rest = rw (far, has.file.there, le-ltb format.limit (length has.bytes) has.file.fits) (inl (x, has.means, rest))

-- ---- the files of a job

over_goes_on : {A : Type 0} (e : Coding A) (c : Wiring A) (files : Files) (job : Listed) (k taken all : ℕ) (stop : Stop) (end : End) (next : JobRead A → ℕ → Type 0) (read : JobRead A) → stops_at stop (k + 1) ≡ false → stops_at stop (k + 2) ≡ false
    → HasOver e c files job taken read all → next read all → JobOver e c job k taken files stop end next
over_goes_on {A} e c files job k taken all stop end next read far further has rest =
    goes_on (among taken (number_files e.size e.number c.publics)) job.public (k + 1) files stop end
    (λ publics. At (among publics.1 proof_files) files stop (k + 2) job.proof end (λ proof. next (made publics.0 proof.0) proof.1)) (has.publics, has.between) far has.has_publics
    (goes_on (among has.between proof_files) job.proof (k + 2) files stop end (λ proof. next (made has.publics proof.0) proof.1) (has.proof, all) further has.has_proof (subst (λ r. next r all) has.is rest))
  where
    made : List A → List ℕ → JobRead A
    made publics proof = record { circuit = c; session = job.session; publics = publics; proof = proof }

any_goes_on : (c : AnyCircuit) (files : Files) (job : Listed) (k taken all : ℕ) (stop : Stop) (end : End) (next : AnyRead → ℕ → Type 0) (read : AnyRead) → stops_at stop (k + 1) ≡ false → stops_at stop (k + 2) ≡ false
    → HasAny c files job taken read all → next read all → JobAny c job k taken files stop end next
any_goes_on (Gold c) files job k taken all stop end next (GoldRead read) far further has rest = over_goes_on gold_coding c files job k taken all stop end (λ r. next (GoldRead r)) read far further has rest
any_goes_on (Gold c) files job k taken all stop end next (GfRead read) far further has rest = absurd has
any_goes_on (Gf c) files job k taken all stop end next (GoldRead read) far further has rest = absurd has
any_goes_on (Gf c) files job k taken all stop end next (GfRead read) far further has rest = over_goes_on gf_coding c files job k taken all stop end (λ r. next (GfRead r)) read far further has rest

job_goes_on : (files : Files) (job : Listed) (k taken all : ℕ) (stop : Stop) (end : End) (list : List Listed) (jobs : List AnyRead) (read : AnyRead) → stops_at stop k ≡ false → stops_at stop (k + 1) ≡ false → stops_at stop (k + 2) ≡ false
    → HasJob files job taken read all → JobsRun list (k + 3) all (jobs ++ read ∷ []) files stop end → JobsRun (job ∷ list) k taken jobs files stop end
job_goes_on files job k taken all stop end list jobs read here far further has rest =
    goes_on (among taken circuit_files) job.circuit k files stop end (λ c. JobAny c.0 job k c.1 files stop end (Behind list k jobs files stop end)) (has.circuit, has.between) here has.file
    (any_goes_on has.circuit files job k has.between all stop end (Behind list k jobs files stop end) read far further has.rest rest)

-- ---- two files of a job that are read

-- what a file gives that means a list, and how many bytes all have
abbrev pub items_with : {A : Type 0} → Vec A Global × ℕ → List A × ℕ
items_with found = (found.0.items, found.1)

two : (k : ℕ) → k + 2 ≡ k + 1 + 1
two k = omega arith

module _ {A : Type 0} (e : Coding A) (c : Wiring A) (job : Listed) (place taken n : ℕ) (count : n ≡ c.publics) where
  abbrev Numbers : ℕ → Seen → Seen → Result (Vec A Global × ℕ) Halt → Type 0
  Numbers m old new r = Gives (among taken (number_files e.size e.number m)) items_with old new job.public r

  abbrev Proofs : ℕ → Seen → Seen → Result (Vec ℕ Global × ℕ) Halt → Type 0
  Proofs m old new r = Gives (among m proof_files) items_with old new job.proof r

  abbrev made : List A → List ℕ → JobRead A
  made publics proof = record { circuit = c; session = job.session; publics = publics; proof = proof }

  abbrev AtProof : (JobRead A → AnyRead) → List Listed → ℕ → List AnyRead → Files → Stop → End → List A × ℕ → Type 0
  AtProof wrap list k jobs files stop end publics = At (among publics.1 proof_files) files stop (k + 2) job.proof end (λ proof. Behind list k jobs files stop end (wrap (made publics.0 proof.0)) proof.1)

  pub no_room : (old new : Seen) (r : Result (JobOf A × ℕ) Halt) → IsErrAnd r (λ y. y ≡ halts.Memory) → GivesOver e c old new job place taken r
  no_room old new r is = handed_on (GivesOver e c old new job place taken) r halts.Memory is tt

  pub no_publics : (old new : Seen) (h : Halt) (r : Result (JobOf A × ℕ) Halt) → OnlyReads old new → Numbers n old new (Err h) → IsErrAnd r (λ y. y ≡ h) → GivesOver e c old new job place taken r
  no_publics old new h r reads gives is = handed_on (GivesOver e c old new job place taken) r h is (go h (subst (λ m. Numbers m old new (Err h)) count gives))
    where
      go : (h : Halt) → Numbers c.publics old new (Err h) → GivesOver e c old new job place taken (Err h)
      go halts.Memory g = tt
      go (halts.End ending) g = λ wrap list k jobs.
          ends (among taken (number_files e.size e.number c.publics)) items_with job.public (k + 1) (AtProof wrap list k jobs) ⊥ old new (halts.End ending) (Err (halts.End ending))
          (among_quiet (number_files e.size e.number c.publics) taken (numbers_quiet e.size e.number c.publics) job.public) reads g refl

  pub no_proof : (old mid new : Seen) (publics : Vec A Global × ℕ) (h : Halt) (r : Result (JobOf A × ℕ) Halt) → OnlyReads old mid → Numbers n old mid (Ok publics) → OnlyReads mid new → Proofs publics.1 mid new (Err h) → IsErrAnd r (λ y. y ≡ h)
      → GivesOver e c old new job place taken r
  no_proof old mid new publics h r reads gives more last is = handed_on (GivesOver e c old new job place taken) r h is (go h last)
    where
      go : (h : Halt) → Proofs publics.1 mid new (Err h) → GivesOver e c old new job place taken (Err h)
      go halts.Memory g = tt
      go (halts.End ending) g = λ wrap list k jobs.
          let behind : Settled (λ files stop end. AtProof wrap list k jobs files stop end (items_with publics)) (k + 2) ⊥ ⊥ mid new ending =
          ends (among publics.1 proof_files) items_with job.proof (k + 2) (λ files stop end proof. Behind list k jobs files stop end (wrap (made publics.0.items proof.0)) proof.1) ⊥ mid new (halts.End ending) (Err (halts.End ending))
          (among_quiet proof_files publics.1 (λ name fault. absurd fault) job.proof) more g refl in
          then (among taken (number_files e.size e.number c.publics)) items_with job.public (k + 1) (AtProof wrap list k jobs) ⊥ old mid new publics (Err (halts.End ending)) reads (subst (λ m. Numbers m old mid (Ok publics)) count gives)
          (subst (λ m. Settled (λ files stop end. AtProof wrap list k jobs files stop end (items_with publics)) m ⊥ ⊥ mid new ending) (two k) behind)

  pub reads_over : (old mid new : Seen) (publics : Vec A Global × ℕ) (proof : Vec ℕ Global × ℕ) (session : Vec ℕ Global) → OnlyReads old mid → Numbers n old mid (Ok publics) → Proofs publics.1 mid new (Ok proof)
      → session.items ≡ job.session → length job.session ≤ 64 → length publics.0.items ≡ n
      → ReadsOver e c old.files job place taken (record { circuit = place; session = session; public = publics.0; proof = proof.0 }) proof.1
  reads_over old mid new publics proof session reads gives last same short long = record {
    place_is = refl;
    fits = record { session = subst (λ s. length s ≤ 64) (sym same) short; public = long ∙ count };
    few = few_of proof_files items_with mid new job.proof publics.1 proof last;
    files_have = where_told old.files _ (λ files at. record {
      publics = publics.0.items;
      proof = proof.0.items;
      is = ap (λ s. record { circuit = c; session = s; publics = publics.0.items; proof = proof.0.items }) same;
      between = publics.1;
      has_publics = has_of (among taken (number_files e.size e.number c.publics)) items_with old mid job.public publics files at (subst (λ m. Numbers m old mid (Ok publics)) count gives);
      has_proof = has_of (among publics.1 proof_files) items_with mid new job.proof proof files (reads.files ∙ at) last;
    });
  }

-- ---- over either field

module _ (old new : Seen) (entry : Listed) (place taken : ℕ) (h : Halt) (r : Result (Job × ℕ) Halt) (is : IsErrAnd r (λ y. y ≡ h)) where
  pub gold_ends : (c : Wiring GoldElement) → GivesOver gold_coding c old new entry place taken (Err h) → GivesAny (Gold c) old new entry place taken r
  gold_ends c gives = handed_on (GivesAny (Gold c) old new entry place taken) r h is (go h gives)
    where
      go : (h : Halt) → GivesOver gold_coding c old new entry place taken (Err h) → GivesAny (Gold c) old new entry place taken (Err h)
      go halts.Memory g = tt
      go (halts.End ending) g = λ list k jobs. g GoldRead list k jobs

  pub gf_ends : (c : Wiring Gf128) → GivesOver gf_coding c old new entry place taken (Err h) → GivesAny (Gf c) old new entry place taken r
  gf_ends c gives = handed_on (GivesAny (Gf c) old new entry place taken) r h is (go h gives)
    where
      go : (h : Halt) → GivesOver gf_coding c old new entry place taken (Err h) → GivesAny (Gf c) old new entry place taken (Err h)
      go halts.Memory g = tt
      go (halts.End ending) g = λ list k jobs. g GfRead list k jobs

module _ (told : Option Files) (entry : Listed) (place taken all : ℕ) where
  pub gold_reads : (c : Wiring GoldElement) (job : JobOf GoldElement) → ReadsOver gold_coding c told entry place taken job all → ReadsAny (Gold c) told entry place taken (jobs.Gold job) all
  gold_reads c job h = record { place_is = h.place_is; fits = h.fits; few = h.few; read = GoldRead (read_over c job); is = refl; files_have = h.files_have }

  pub gf_reads : (c : Wiring Gf128) (job : JobOf Gf128) → ReadsOver gf_coding c told entry place taken job all → ReadsAny (Gf c) told entry place taken (jobs.Gf job) all
  gf_reads c job h = record { place_is = h.place_is; fits = h.fits; few = h.few; read = GfRead (read_over c job); is = refl; files_have = h.files_have }

-- ---- with the circuit's file

abbrev as_it_is : AnyCircuit × ℕ → AnyCircuit × ℕ
as_it_is found = found

module _ (old new : Seen) (kept : List AnyCircuit) (entry : Listed) (taken : ℕ) (r : Result (Job × ℕ) Halt) where
  pub no_place : (h : Halt) → OnlyReads old new → GivesPlace old new kept entry.circuit taken (Err h) → IsErrAnd r (λ y. y ≡ h) → GivesJob old new kept entry taken r
  no_place h reads gives is = handed_on (GivesJob old new kept entry taken) r h is (go h gives)
    where
      go : (h : Halt) → GivesPlace old new kept entry.circuit taken (Err h) → GivesJob old new kept entry taken (Err h)
      go halts.Memory g = tt
      go (halts.End ending) g = λ list k jobs.
          ends (among taken circuit_files) as_it_is entry.circuit k (λ files stop end c. JobAny c.0 entry k c.1 files stop end (Behind list k jobs files stop end)) ⊥ old new (halts.End ending) (Err (halts.End ending))
          (among_quiet circuit_files taken laws.circuits.quiet entry.circuit) reads g refl

  pub job_read : (mid : Seen) (place between : ℕ) (c : AnyCircuit) → OnlyReads old mid → (has : HasCircuit old mid kept entry.circuit taken place between) → has.circuit ≡ c → GivesAny c mid new entry place between r → GivesJob old new kept entry taken r
  job_read mid place between c reads has same gives = go r gives
    where
      circuit_gives : Gives (among taken circuit_files) as_it_is old mid entry.circuit (Ok (c, between))
      circuit_gives = subst (λ (d : AnyCircuit). Gives {R = AnyCircuit × ℕ} (among taken circuit_files) (λ found. found) old mid entry.circuit (Ok (d, between))) same has.gives

      read : (job : Job) (all : ℕ) → ReadsAny c mid.files entry place between job all → ReadsJob old.files kept entry taken job all
      read job all h = record {
        read = h.read;
        held = record { circuit = c; there = ap (slice_get kept) h.place_is ∙ has.there ∙ ap Some same; fits = h.fits; is = h.is };
        few = h.few;
        files_have = where_told old.files _ (λ files at. record {
          circuit = c;
          between = between;
          file = has_of (among taken circuit_files) as_it_is old mid entry.circuit (c, between) files at circuit_gives;
          rest = at_told mid.files _ files (reads.files ∙ at) h.files_have;
        });
      }

      go : (r : Result (Job × ℕ) Halt) → GivesAny c mid new entry place between r → GivesJob old new kept entry taken r
      go (Ok (job, all)) g = read job all g
      go (Err halts.Memory) g = tt
      go (Err (halts.End ending)) g = λ list k jobs.
          then (among taken circuit_files) as_it_is entry.circuit k (λ files stop end c. JobAny c.0 entry k c.1 files stop end (Behind list k jobs files stop end)) ⊥ old mid new (c, between) (Err (halts.End ending)) reads circuit_gives (g list k jobs)

-- ---- all jobs

pub begun : (told : Option Files) (entries : List Listed) → HasRead told entries 0 0 [] []
begun told entries = record { reads = []; held = tt; leads = where_told told _ (λ files at stop end far h. h) }

-- circuits that were kept later don't move a job's
still_held : (kept more : List AnyCircuit) (job : Job) (read : AnyRead) → IsHeld kept job read → IsHeld (kept ++ more) job read
still_held kept more job read h = record { circuit = h.circuit; there = front_stays kept more (place_of job) h.circuit h.there; fits = h.fits; is = h.is }

left_is : (entries : List Listed) (i : ℕ) (entry : Listed) → slice_get entries i ≡ Some entry → drop i entries ≡ entry ∷ drop (i + 1) entries
left_is xs i x is = rw add-one (drop-cons xs i x (slice_get_within xs i x is) ∙ ap (λ y. y ∷ drop (suc i) xs) (get_or_from_slice_get xs i x x is))

module _ (told : Option Files) (entries : List Listed) (i taken : ℕ) (kept : List AnyCircuit) (list : List Job) (h : HasRead told entries i taken kept list) (entry : Listed) (at : slice_get entries i ≡ Some entry) where
  pub one_more : (kept' more : List AnyCircuit) (job : Job) (all : ℕ) → kept' ≡ kept ++ more → ReadsJob told kept' entry taken job all → HasRead told entries (i + 1) all kept' (list ++ job ∷ [])
  one_more kept' more job all same r = record {
    reads = h.reads ++ r.read ∷ [];
    held = each_more (IsHeld kept') list h.reads job r.read (each_by (IsHeld kept) (IsHeld kept') list h.reads (λ x y p. subst (λ ks. IsHeld ks x y) (sym same) (still_held kept more x y p)) h.held) r.held;
    leads = where_told told _ (λ files is. leads files (at_told told _ files is h.leads) (at_told told _ files is r.files_have));
  }
    where
      leads : (files : Files) → LeadsTo files entries i taken h.reads → HasJob files entry taken r.read all → LeadsTo files entries (i + 1) all (h.reads ++ r.read ∷ [])
      leads files before has stop end far rest =
          before stop end (λ j less. far j (omega arith))
          (subst (λ xs. JobsRun xs (1 + 3 * i) taken h.reads files stop end) (sym (left_is entries i entry at))
          (job_goes_on files entry (1 + 3 * i) taken all stop end (drop (i + 1) entries) h.reads r.read (far (1 + 3 * i) (omega arith)) (far (1 + 3 * i + 1) (omega arith)) (far (1 + 3 * i + 2) (omega arith)) has
          (subst (λ n. JobsRun (drop (i + 1) entries) n all (h.reads ++ r.read ∷ []) files stop end) next rest)))
        where
          next : 1 + 3 * (i + 1) ≡ 1 + 3 * i + 3
          next = omega arith

-- the walk ends at a later job
pub ends_later : (old mid new : Seen) (entries : List Listed) (i taken : ℕ) (kept kept' : List AnyCircuit) (list : List Job) → HasRead old.files entries i taken kept list → (entry : Listed) → slice_get entries i ≡ Some entry
    → OnlyReads old mid → (halt : Halt) (r : Result Gathered Halt) → GivesJob mid new kept' entry taken (Err halt) → IsErrAnd r (λ y. y ≡ halt) → GivesJobs old new entries r
ends_later old mid new entries i taken kept kept' list h entry at reads halt r gives is = handed_on (GivesJobs old new entries) r halt is (go halt gives)
  where
    later : (e : Ending) → Settled (JobsRun (entry ∷ drop (i + 1) entries) (1 + 3 * i) taken h.reads) (1 + 3 * i) ⊥ ⊥ mid new e → Settled (JobsRun entries 1 0 []) 1 ⊥ ⊥ old new e
    later e s = record {
      stop = s.stop;
      end = s.end;
      may = may_later old mid new reads s.stop s.may;
      far = λ j less. s.far j (omega arith);
      is = s.is;
      told = where_told old.files _ (λ files is.
          let behind = at_told mid.files _ files (reads.files ∙ is) s.told in
          (at_told old.files _ files is h.leads s.stop s.end s.far (subst (λ xs. JobsRun xs (1 + 3 * i) taken h.reads files s.stop s.end) (sym (left_is entries i entry at)) behind.0), behind.1));
      cause = cause_later old mid new ⊥ ⊥ s.end reads s.cause;
    }

    go : (halt : Halt) → GivesJob mid new kept' entry taken (Err halt) → GivesJobs old new entries (Err halt)
    go halts.Memory g = tt
    go (halts.End e) g = later e (g (drop (i + 1) entries) (1 + 3 * i) h.reads)

pub no_jobs : (old new : Seen) (entries : List Listed) (r : Result Gathered Halt) → IsErrAnd r (λ y. y ≡ halts.Memory) → GivesJobs old new entries r
no_jobs old new entries r is = handed_on (GivesJobs old new entries) r halts.Memory is tt

-- ---- the loop over the jobs

pub record Reading (old now : Seen) (entries : List Listed) (i taken : ℕ) (kept : Circuits) (list : List Job) : Type 0 where
  pub reads : OnlyReads old now
  pub read : HasRead old.files entries i taken kept.all.items list
  pub kept_are : AreKept old.files kept
  pub few : length kept.all.items ≤ i
  pub as_many : length list ≡ i
  pub total : taken ≤ total_limit

pub place_fits : (told : Option Files) (old new : Circuits) (place : ℕ) → KeepsOn told old new → length old.all.items < 256 → place < length new.all.items → place < 257
place_fits told old new place h room fits =
    let long : length new.all.items ≡ length old.all.items + length h.more = ap length h.all ∙ length-append old.all.items h.more in
    let few : length h.more ≤ 1 = h.few in
    omega (arith, long, few, room, fits)

pub entry_at : (xs : List Entry) (i : ℕ) (x : Entry) → i < length xs → x ≡ slice_index_or xs i x → slice_get (map entry_view xs) i ≡ Some (entry_view x)
entry_at xs i x less is = slice_get-map entry_view xs i ∙ ap (option_map entry_view) (slice_get-get_or xs i x less ∙ ap Some (sym is))

pub short_at : (xs : List Entry) (i : ℕ) (x : Entry) → i < length xs → x ≡ slice_index_or xs i x → All IsShort (map entry_view xs) → IsShort (entry_view x)
short_at xs i x less is all =
    let at = entry_at xs i x less is in
    subst IsShort (get_or_from_slice_get (map entry_view xs) i (entry_view x) (entry_view x) at) (all i (entry_view x) (slice_get_within (map entry_view xs) i (entry_view x) at))

pub reading_begins : (s : Seen) (entries : List Listed) (kept : Circuits) (list : List Job) → kept.files.items ≡ [] → kept.all.items ≡ [] → list ≡ [] → Reading s s entries 0 0 kept list
reading_begins s entries kept list no_files no_circuits none = record {
  reads = no_step s;
  read = subst (λ (cs : List AnyCircuit). HasRead s.files entries 0 0 cs list) (sym no_circuits) (subst (λ (js : List Job). HasRead s.files entries 0 0 [] js) (sym none) (begun s.files entries));
  kept_are = rw (no_files, no_circuits) tt;
  few = omega (arith, ap length no_circuits);
  as_many = ap length none;
  total = lit≤ tt;
}

pub reading_goes_on : (old mid new : Seen) (entries : List Listed) (i taken : ℕ) (kept kept' : Circuits) (list list' : List Job) → Reading old mid entries i taken kept list → (entry : Listed) → slice_get entries i ≡ Some entry → (job : Job) (all : ℕ)
    → OnlyReads mid new → ReadsJob mid.files kept'.all.items entry taken job all → KeepsOn mid.files kept kept' → list' ≡ list ++ job ∷ [] → Reading old new entries (i + 1) all kept' list'
reading_goes_on old mid new entries i taken kept kept' list list' h entry at job all reads r keeps put =
    let read = subst (λ (told : Option Files). ReadsJob told kept'.all.items entry taken job all) h.reads.files r in
    let long : length kept'.all.items ≡ length kept.all.items + length keeps.more = ap length keeps.all ∙ length-append kept.all.items keeps.more in
    let one : length list' ≡ length list + 1 = ap length put ∙ length-append list (job ∷ []) in
    record {
      reads = reads_then old mid new h.reads reads;
      read = subst (λ (js : List Job). HasRead old.files entries (i + 1) all kept'.all.items js) (sym put) (one_more old.files entries i taken kept.all.items list h.read entry at kept'.all.items keeps.more job all keeps.all read);
      kept_are = subst (λ (told : Option Files). AreKept told kept') h.reads.files keeps.kept;
      few = omega (arith, long, keeps.few, h.few);
      as_many = omega (arith, one, h.as_many);
      total = r.few;
    }

pub reading_ends : (old now : Seen) (xs : List Entry) (i taken : ℕ) (kept : Circuits) (g : Gathered) → Reading old now (map entry_view xs) i taken kept g.jobs.items → length xs ≤ 256 → i ≤ length xs → length xs ≤ i → kept.all.items ≡ g.circuits.items → HasReadAll old.files (map entry_view xs) g
reading_ends old now xs i taken kept g h few below above same =
    let at : i ≡ length (map entry_view xs) = omega (arith, length-map xs entry_view) in
    record {
      few = omega (arith, h.as_many, below, few);
      taken = taken;
      all = subst (λ n. HasRead old.files (map entry_view xs) n taken g.circuits.items g.jobs.items) at (subst (λ (cs : List AnyCircuit). HasRead old.files (map entry_view xs) i taken cs g.jobs.items) same h.read);
    }
