-- Reading a file in pieces, which a desk is fed.
use Rattle.std.proofs.Common.{◌≡◌, ◌<◌, ◌≤◌, ◌+◌, ℕ, List, [], ◌++◌, length, take, drop, Option, Some, None, Ok, refl, sym, ap, ◌∙◌, arith}
use Rattle.std.specs.Prelude.{IfSome}
use Rattle.std.specs.Option.{IsSomeAnd}
use Rattle.std.proofs.lemmas.List.{take-append-drop, take-take, take_all, drop-take, length-append, length-take-le}
use Rattle.lzk_field.specs.Coding.{Coding}
use Rattle.lzk_field.specs.Ring.{Ops}
use Rattle.lzk_outside.specs.Outside.{Files, ReadsFile, Reads}
use Rattle.lzk_verify.specs.Kept.{DeskState, Stands}
use Rattle.lzk_cmd_verify.specs.Feeding.{IsFed, IsFedFront}
use Rattle.lzk_cmd_files.specs.Files.{IsFront}
use Rattle.lzk_cmd_files.specs.Formats.{HasFile}
use Rattle.lzk_cmd_files.proofs.Sights.{where_told, at_told}

begins : (file : Option (List ℕ)) → IsFront file []
begins None = refl
begins (Some all) = (refl, omega arith)

-- a front and the piece behind it
piece_next : (all buffer : List ℕ) (n k : ℕ) → take k buffer ≡ take k (drop n all) → take n all ++ take k buffer ≡ take (n + k) all
piece_next all buffer n k same =
    ap (λ (ys : List ℕ). take n all ++ ys) same
    ∙ sym (ap (λ (xs : List ℕ). xs ++ take k (drop n all)) (take-take n (n + k) all (omega arith)))
    ∙ sym (ap (λ (ys : List ℕ). take n (take (n + k) all) ++ ys) (drop-take n k all))
    ∙ take-append-drop n (take (n + k) all)

front_more : (file : Option (List ℕ)) (front buffer : List ℕ) (n k : ℕ) → length front ≡ n → k ≤ length buffer → IsFront file front → ReadsFile file n (Ok k) buffer → IsFront file (front ++ take k buffer)
front_more None front buffer n k long fits h r = elim r [ ]
front_more (Some all) front buffer n k long fits h r =
    let more : length (front ++ take k buffer) ≡ n + k = omega (arith, length-append front (take k buffer), length-take-le k buffer fits, long) in
    (ap (λ (xs : List ℕ). xs ++ take k buffer) (h.0 ∙ ap (λ m. take m all) long) ∙ piece_next all buffer n k r.bytes ∙ sym (ap (λ m. take m all) more), omega (arith, more, long, h.1, r.fits))

whole : (file : Option (List ℕ)) (front buffer : List ℕ) (n k limit : ℕ) → length front ≡ n → n ≤ limit → k ≡ 0 → IsFront file front → ReadsFile file n (Ok k) buffer → HasFile file limit front
whole None front buffer n k limit long few end h r = elim r [ ]
whole (Some all) front buffer n k limit long few end h r =
    record { there = ap Some (sym (h.0 ∙ take_all (length front) all (omega (arith, r.ends end, long)))); fits = omega (arith, long, few) }

larger : (file : Option (List ℕ)) (front : List ℕ) (n limit : ℕ) → length front ≡ n → limit < n → IsFront file front → IsSomeAnd file (λ bytes. limit < length bytes)
larger None front n limit long more h = absurd (omega (arith, long, more, ap length h))
larger (Some all) front n limit long more h = omega (arith, long, more, h.1)

module _ {A : Type 0} (o : Ops A) (e : Coding A) (held : Option Files) (name : List ℕ) (before : DeskState A) where
  pub nothing_read : IsFedFront o e held name before before 0
  nothing_read = record { front = []; long = refl; file = where_told held _ (λ files at. begins (files name)); fed = λ session public h. h }

  pub more_read : (now : Option Files) (mid after : DeskState A) (n k : ℕ) (buffer : List ℕ) → now ≡ held → IsFedFront o e held name before mid n → Reads now name n (Ok k) buffer → k ≤ length buffer
      → ((session : List ℕ) (public : List A) (bytes : List ℕ) → Stands o e session public bytes mid → Stands o e session public (bytes ++ take k buffer) after) → IsFedFront o e held name before after (n + k)
  more_read now mid after n k buffer same h read fits feed = record {
    front = h.front ++ take k buffer;
    long = omega (arith, length-append h.front (take k buffer), length-take-le k buffer fits, h.long);
    file = where_told held _ (λ files at. front_more (files name) h.front buffer n k h.long fits (at_told held _ files at h.file) (at_told now _ files (same ∙ at) read));
    fed = λ session public stands. feed session public h.front (h.fed session public stands);
  }

  pub all_read : (now : Option Files) (mid : DeskState A) (n k limit : ℕ) (buffer : List ℕ) → now ≡ held → IsFedFront o e held name before mid n → Reads now name n (Ok k) buffer → k ≡ 0 → n ≤ limit
      → (bytes : List ℕ) × IfSome held (λ files. HasFile (files name) limit bytes) × IsFed o e before mid bytes
  all_read now mid n k limit buffer same h read end few =
      (h.front, where_told held _ (λ files at. whole (files name) h.front buffer n k limit h.long few end (at_told held _ files at h.file) (at_told now _ files (same ∙ at) read)), h.fed)

  pub too_large : (mid : DeskState A) (n limit : ℕ) → IsFedFront o e held name before mid n → limit < n → IfSome held (λ files. IsSomeAnd (files name) (λ bytes. limit < length bytes))
  too_large mid n limit h more = where_told held _ (λ files at. larger (files name) h.front n limit h.long more (at_told held _ files at h.file))
