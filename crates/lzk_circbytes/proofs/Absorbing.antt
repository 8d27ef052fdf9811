-- A message that layers were added to.
use Rattle.std.proofs.Common.{◌≡◌, ℕ, ◌+◌, ◌<◌, ◌≤◌, List, [], ◌++◌, length, drop, refl, sym, ap, subst, append_assoc, append-nil, get_or}
use Rattle.lzk_circuit.specs.declared.layer.Layer.{Layer}
use Rattle.lzk_circuit.specs.Valid.{Under}
use Rattle.lzk_circbytes.specs.Spelling.{layer_bytes, layers_bytes}
use Rattle.lzk_circbytes.proofs.Written.{layers_go_on, layers_end}

-- what was added since the start, and the layers that are still to come, are all layers
pub record Absorbed {H : Type 0} (Holds : H → List ℕ → Type 0) (cs : List ℕ) (start now : H) (left all : List (Layer ℕ)) : Type 0 where
  pub added : List ℕ
  pub holds : (m : List ℕ) → Holds start m → Holds now (m ++ added)
  pub parts : added ++ layers_bytes cs 0 left ≡ layers_bytes cs 0 all

pub absorb_begins : {H : Type 0} (Holds : H → List ℕ → Type 0) (cs : List ℕ) (start : H) (all : List (Layer ℕ)) → Absorbed Holds cs start start all all
absorb_begins Holds cs start all = record {
  added = [];
  holds = λ m h. subst (λ (xs : List ℕ). Holds start xs) (sym (append-nil m)) h;
  parts = refl;
}

-- one more layer
pub absorb_goes_on : {H : Type 0} (Holds : H → List ℕ → Type 0) (cs : List ℕ) (s : Under) (start now next : H) (i : ℕ) (l : Layer ℕ) (ls : List (Layer ℕ)) (piece : List ℕ) → i < length ls → get_or ls i l ≡ l → piece ≡ layer_bytes cs s l
    → ((m : List ℕ) → Holds now m → Holds next (m ++ piece)) → Absorbed Holds cs start now (drop i ls) ls → Absorbed Holds cs start next (drop (i + 1) ls) ls
absorb_goes_on Holds cs s start now next i l ls piece lt is e more h = record {
  added = h.added ++ piece;
  holds = λ m held. subst (λ (xs : List ℕ). Holds next xs) (append_assoc m h.added piece) (more (m ++ h.added) (h.holds m held));
  parts = layers_go_on cs s h.added (h.added ++ piece) [] i l ls (layers_bytes cs 0 ls) lt is (ap (λ (xs : List ℕ). h.added ++ xs) e) h.parts;
}

pub absorb_ends : {H : Type 0} (Holds : H → List ℕ → Type 0) (cs : List ℕ) (start now : H) (i : ℕ) (ls : List (Layer ℕ)) → length ls ≤ i → Absorbed Holds cs start now (drop i ls) ls → (m : List ℕ) → Holds start m → Holds now (m ++ layers_bytes cs 0 ls)
absorb_ends Holds cs start now i ls le h m held =
    subst (λ (xs : List ℕ). Holds now (m ++ xs)) (layers_end cs h.added (layers_bytes cs 0 ls) i ls le h.parts) (h.holds m held)
