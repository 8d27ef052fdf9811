-- A proof's file is no longer than a proof's file may be.
use Rattle.lzk_profile.specs.Profile.{opened_count, most_digests}
use Rattle.std.specs.Prelude.{ℕ, ◌+◌, ◌-◌, ◌≤◌, length}
use Rattle.std.proofs.Common.{arith}
use Rattle.lzk_field.specs.Coding.{Coding}
use Rattle.lzk_field.specs.Ring.{Ops}
use Rattle.lzk_layout.specs.declared.params.Params.{Params}
use Rattle.lzk_layout.specs.Sizes.{AreBounded, params_of, proof_length}
use Rattle.lzk_layout.proofs.Lengths.{file_length}
use Rattle.lzk_layout.proofs.SizeLaws.{params_bounded, file_fits}
use Rattle.lzk_ligero_proof.specs.Proving.{FilesFit}

fits : (width : ℕ) (p : Params) (digests : ℕ) → width ≤ 16 → AreBounded p → digests ≤ most_digests → proof_length width p digests ≤ 2097152
fits width p digests w h few =
    let bound = file_fits width (p.nsum + p.block + p.dblock + opened_count + (p.dblock - p.block)) p.nrow digests w (omega (arith, h.nsum, h.block, h.wr, h.dblock)) h.nrow few in
    omega (arith, bound)

pub files-fit : {A : Type 0} (o : Ops A) (e : Coding A) → e.bytes ≤ 16 → FilesFit o e
files-fit o e w = λ c session public private word bytes valid f.
    let p = params_of c in
    let h = params_bounded o c valid in
    let size = file_length e.bytes e.number p f.proof bytes f.written in
    omega (arith, size, fits e.bytes p (length f.proof.path.digests) w h f.written.few)
