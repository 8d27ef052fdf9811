-- What an intake and its room stay sound by.
use Rattle.lzk_profile.specs.Profile.{most_digests}
use Rattle.std.specs.Prelude.{◌≡◌, ℕ, ◌≤◌, true, List, length}
use Rattle.std.proofs.Common.{sym, ap, subst, ◌∙◌}
use Rattle.lzk_field.specs.Ring.{Ops}
use Rattle.lzk_merkle.specs.Nodes.{AreOpened}
use Rattle.lzk_circuit.specs.Valid.{Wiring}
use Rattle.lzk_layout.specs.declared.params.Params.{Params}
use Rattle.lzk_sumcheck.specs.Script as sumcheck
use Rattle.lzk_accept.specs.Challenges as accept
use Rattle.lzk_accept.specs.Challenges.{Transcript}
use Rattle.lzk_accept.specs.Checks.{combined_row_of, wanted_of}
use Rattle.lzk_verify.specs.declared.intake.Intake.{Intake}
use Rattle.lzk_verify.specs.Desk.{Rooms, AreReady, AreWeightedRows, IsSound, weighted_answers}
use Rattle.lzk_verify.specs.Kept.{messages_in}

module _ {A : Type 0} (o : Ops A) (element : ℕ → A) (c : Wiring A) (p : Params) (k l : Intake A) (r : Rooms A) (s : IsSound o element c p k r) where
  -- a field is kept that leaves what was drawn as it is, and lists as long as they were
  pub sound_with :
      length l.public.items ≡ length k.public.items → length l.sent.items ≡ length k.sent.items → l.drawn ≡ k.drawn
      → length l.column.items ≡ length k.column.items → length l.leaves.items ≡ length k.leaves.items → l.leaves.rows ≡ k.leaves.rows → length l.digests.items ≡ length k.digests.items → l.count ≤ most_digests
      → (l.is_drawn ≡ true → AreReady o element c p l r)
      → IsSound o element c p l r
  sound_with public sent drawn column leaves rows digests few ready = record {
    public = public ∙ s.public;
    script = subst (λ (t : Transcript A). sumcheck.HasShape c t.script) (sym drawn) s.script;
    lists = record {
      sent = sent ∙ s.lists.sent;
      challenges = subst (λ (t : Transcript A). accept.HasShape p t.challenges) (sym drawn) s.lists.challenges;
      columns = ap (λ (t : Transcript A). length t.columns) drawn ∙ s.lists.columns;
      opened = subst (λ (t : Transcript A). AreOpened p.mcol t.columns) (sym drawn) s.lists.opened;
      column = column ∙ s.lists.column;
      leaves = leaves ∙ s.lists.leaves;
      rows = rows ∙ s.lists.rows;
      digests = digests ∙ s.lists.digests;
      few = few;
    };
    forms = s.forms;
    factors = s.factors;
    rooms = s.rooms;
    ready = ready;
  }

  -- the same, where it leaves what was sent as it is
  pub sound_stays :
      l.public.items ≡ k.public.items → l.is_drawn ≡ k.is_drawn → l.sent.items ≡ k.sent.items → l.drawn ≡ k.drawn → l.wanted ≡ k.wanted
      → length l.column.items ≡ length k.column.items → length l.leaves.items ≡ length k.leaves.items → l.leaves.rows ≡ k.leaves.rows → length l.digests.items ≡ length k.digests.items → l.count ≤ most_digests
      → IsSound o element c p l r
  sound_stays public is_drawn sent drawn wanted column leaves rows digests few =
      sound_with (ap length public) (ap length sent) drawn column leaves rows digests few
      (λ d.
      let y = s.ready (sym is_drawn ∙ d) in
      record {
        rows = subst (λ (z : List A × (Transcript A × List A)). AreWeightedRows o element p r.combined (combined_row_of o element c z.0 z.1.0.script (messages_in p z.1.1) z.1.0.challenges)) (λ i. (sym public i, (sym drawn i, sym sent i))) y.rows;
        wanted = wanted ∙ y.wanted ∙ (λ i. wanted_of o element c (sym public i) (sym drawn i).script (messages_in p (sym sent i)) (sym drawn i).challenges);
        answers = y.answers ∙ ap (weighted_answers o element p) (sym sent);
      })
