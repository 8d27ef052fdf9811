-- The two kinds of policies.
use Rattle.std.proofs.Common.{◌≡◌, ℕ, zero, suc, ◌<◌, List, ◌++◌, length, map, refl, sym, subst, ◌∙◌, arith}
use Rattle.std.specs.Prelude.{◌↔◌}
use Rattle.lzk_goldilocks.specs.Elements.{of_number}
use Rattle.lzk_goldilocks.specs.declared.element.Gold.{Gold}
use Rattle.lzk_policy.specs.Policies.{Contents}
use Rattle.lzk_policy_circuit.specs.Layout as layout
use Rattle.lzk_policy_circuit.specs.Meaning.{AreTrueOf, IsShown}
use Rattle.lzk_policy_circuit.specs.Met.{Satisfy}
use Rattle.lzk_sha_circuit.specs.Digest.{digest_words}
use Rattle.lzk_sha_path.specs.Climbs.{IsClimb}
use Rattle.lzk_policy_inputs.specs.Depths.{LeadsTo, IsShownBy, SatisfyAt, private_count}
use Rattle.lzk_policy_inputs.specs.Rooted.{IsShownUnder, SatisfyUnder}
use Rattle.lzk_policy_inputs.specs.Rooted as rooted
use Rattle.lzk_policy_inputs.proofs.Under.{words_first, words_behind}

climb_leads : (d : ℕ) (digest words : List Gold) → 0 < d → IsClimb d digest words → LeadsTo d digest words
climb_leads zero digest words some c = absurd (omega (arith, some))
climb_leads (suc n) digest words some c = c

leads_climb : (d : ℕ) (digest words : List Gold) → 0 < d → LeadsTo d digest words → IsClimb d digest words
leads_climb zero digest words some c = absurd (omega (arith, some))
leads_climb (suc n) digest words some c = c

pub count_none : (d : ℕ) (p : Contents) → d ≡ 0 → private_count d p ≡ layout.private_count p
count_none zero p e = refl
count_none (suc n) p e = absurd (omega (arith, e))

pub count_some : (d : ℕ) (p : Contents) → 0 < d → private_count d p ≡ rooted.private_count p d
count_some zero p some = absurd (omega (arith, some))
count_some (suc n) p some = refl

pub satisfy_none : (d : ℕ) (p : Contents) (words values private : List Gold) → d ≡ 0 → Satisfy p (words ++ values) private ↔ SatisfyAt d p words values private
satisfy_none zero p words values private e = (λ h. h, λ h. h)
satisfy_none (suc n) p words values private e = absurd (omega (arith, e))

pub satisfy_some : (d : ℕ) (p : Contents) (words values private : List Gold) → 0 < d → SatisfyUnder p d words values private ↔ SatisfyAt d p words values private
satisfy_some zero p words values private some = absurd (omega (arith, some))
satisfy_some (suc n) p words values private some = (λ h. h, λ h. h)

module _ (p : Contents) (m : List ℕ) (words values : List Gold) where
  pub shown_some : 0 < p.depth → IsShownUnder p p.depth m words values → IsShownBy p m words values
  shown_some some h = record { bytes = h.bytes; words_are = climb_leads p.depth (map of_number (digest_words m)) words some h.leaf; lines = h.lines }

  pub under_some : 0 < p.depth → IsShownBy p m words values → IsShownUnder p p.depth m words values
  under_some some h = record { bytes = h.bytes; leaf = leads_climb p.depth (map of_number (digest_words m)) words some h.words_are; lines = h.lines }

  module _ (none : p.depth ≡ 0) (eight : length words ≡ 8) where
    pub shown_none : IsShown p m (words ++ values) → IsShownBy p m words values
    shown_none h =
        let is : words ≡ map of_number (digest_words m) = sym (words_first words values eight) ∙ h.digest in
        record {
          bytes = h.bytes;
          words_are = subst (λ (d : ℕ). LeadsTo d (map of_number (digest_words m)) words) (sym none) is;
          lines = subst (AreTrueOf m p.fields p.shows) (words_behind words values eight) h.lines;
        }

    pub digest_none : IsShownBy p m words values → IsShown p m (words ++ values)
    digest_none h =
        let is : words ≡ map of_number (digest_words m) = subst (λ (d : ℕ). LeadsTo d (map of_number (digest_words m)) words) none h.words_are in
        record {
          bytes = h.bytes;
          digest = words_first words values eight ∙ is;
          lines = subst (AreTrueOf m p.fields p.shows) (sym (words_behind words values eight)) h.lines;
        }
