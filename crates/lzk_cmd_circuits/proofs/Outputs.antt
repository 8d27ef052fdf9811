-- The lines of the checks, and of the layers, one further.
use Rattle.std.proofs.Common.{◌≡◌, ℕ, suc, ◌+◌, ◌<◌, List, ◌∷◌, ◌++◌, length, map, drop, Some, sym, ap, ◌∙◌, append_assoc, add-one, drop-cons}
use Rattle.std.specs.Prelude.{slice_get, slice_index_or}
use Rattle.std.proofs.lemmas.Option.{slice_get_within, get_or_from_slice_get}
use Rattle.std.proofs.lemmas.List.{length-map, get_or-map}
use Rattle.lzk_circuit.specs.declared.layer.Layer.{Layer}
use Rattle.lzk_cmd_files.specs.Lines.{output_line, layer_line}
use Rattle.lzk_cmd_circuits.specs.Evaluated.{output_lines, layer_lines}

pub one_more : {A : Type 0} (number : A → ℕ) (zero x : A) (xs : List A) (k : ℕ) (old new whole : List ℕ) → k < length xs → x ≡ slice_index_or xs k zero
    → new ≡ old ++ output_line k (number x) → old ++ output_lines k (drop k (map number xs)) ≡ whole → new ++ output_lines (k + 1) (drop (k + 1) (map number xs)) ≡ whole
one_more number zero x xs k old new whole l is e before =
    let fits : k < length (map number xs) = simp length-map l in
    let at : drop k (map number xs) ≡ number x ∷ drop (k + 1) (map number xs) =
    rw add-one (drop-cons (map number xs) k 0 fits ∙ ap (λ y. y ∷ drop (suc k) (map number xs)) (get_or-map number xs k zero 0 l ∙ ap number (sym is))) in
    ap (λ w. w ++ output_lines (k + 1) (drop (k + 1) (map number xs))) e
    ∙ append_assoc old (output_line k (number x)) (output_lines (k + 1) (drop (k + 1) (map number xs)))
    ∙ ap (λ ys. old ++ output_lines k ys) (sym at) ∙ before

pub one_more_layer : {A : Type 0} (x : Layer A) (xs : List (Layer A)) (k : ℕ) (old new whole : List ℕ) → slice_get xs k ≡ Some x
    → new ≡ old ++ layer_line k x.wires (length x.terms) → old ++ layer_lines k (drop k xs) ≡ whole → new ++ layer_lines (k + 1) (drop (k + 1) xs) ≡ whole
one_more_layer x xs k old new whole is e before =
    let fits = slice_get_within xs k x is in
    let at : drop k xs ≡ x ∷ drop (k + 1) xs =
    rw add-one (drop-cons xs k x fits ∙ ap (λ y. y ∷ drop (suc k) xs) (get_or_from_slice_get xs k x x is)) in
    ap (λ w. w ++ layer_lines (k + 1) (drop (k + 1) xs)) e
    ∙ append_assoc old (layer_line k x.wires (length x.terms)) (layer_lines (k + 1) (drop (k + 1) xs))
    ∙ ap (λ ys. old ++ layer_lines k ys) (sym at) ∙ before
