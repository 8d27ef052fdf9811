-- A prover's lists and a simulator's have equal shares.
use Rattle.std.specs.Prelude.{◌≡◌, ℕ, ◌+◌, ◌^◌, List}
use Rattle.std.proofs.Common.{sym, ap, ◌∙◌, arith, subst, pow-add}
use Rattle.lzk_field.specs.Coding.{Coding}
use Rattle.lzk_field.specs.Ring.{Ops, Laws}
use Rattle.lzk_circuit.specs.Valid.{Wiring}
use Rattle.lzk_layout.specs.declared.proof.Proof.{Proof}
use Rattle.lzk_layout.specs.Sizes.{params_of}
use Rattle.lzk_sumcheck.specs.declared.script.Script.{Script}
use Rattle.lzk_accept.specs.declared.challenges.Challenges.{Challenges}
use Rattle.lzk_hiding.specs.Laws.{ShowSame, Hides}
use Rattle.lzk_soundness.specs.Sumchecks.Passing.{Passes}
use Rattle.lzk_hiding.specs.Seen.{random_count, idle_count, words_for}
use Rattle.lzk_hiding.specs.Simulated.{free_count}
use Rattle.lzk_hiding.proofs.Cases.{counts_agree}
use Rattle.lzk_hiding.proofs.Counted.{counted}
use Rattle.lzk_hiding.proofs.Making.{simulated_once}
use Rattle.lzk_hiding.proofs.Passing.{passes}
use Rattle.lzk_hiding.proofs.Simulating.{simulated_passes}

-- what shows the same passes as well
shown_passes : {A : Type 0} (o : Ops A) (e : Coding A) (c : Wiring A) (public : List A) (s : Script A) (ch : Challenges A) (columns : List ℕ) (proof made : Proof A)
    → ShowSame proof made → Passes o e c public s ch columns made → Passes o e c public s ch columns proof
shown_passes {A} o e c public s ch columns proof made same pass =
    let put : Proof A = record proof { messages = made.messages; ldt = made.ldt; dot = made.dot; quad_head = made.quad_head; quad_tail = made.quad_tail; columns = made.columns } in
    let there : proof ≡ put =
    ap (λ x. record proof { messages = x }) same.messages
    ∙ ap (λ x. record proof { messages = made.messages; ldt = x }) same.ldt
    ∙ ap (λ x. record proof { messages = made.messages; ldt = made.ldt; dot = x }) same.dot
    ∙ ap (λ x. record proof { messages = made.messages; ldt = made.ldt; dot = made.dot; quad_head = x }) same.quads.0
    ∙ ap (λ x. record proof { messages = made.messages; ldt = made.ldt; dot = made.dot; quad_head = made.quad_head; quad_tail = x }) same.quads.1
    ∙ ap (λ x. record proof { messages = made.messages; ldt = made.ldt; dot = made.dot; quad_head = made.quad_head; quad_tail = made.quad_tail; columns = x }) same.columns in
    let of_put : Passes o e c public s ch columns put = record {
      messages = pass.messages;
      ldt = pass.ldt;
      dot = pass.dot;
      quad_head = pass.quad_head;
      quad_tail = pass.quad_tail;
      opened = pass.opened;
      low_degree = pass.low_degree;
      linear_sum = pass.linear_sum;
      linear = pass.linear;
      quadratic = pass.quadratic;
    } in
    subst (Passes o e c public s ch columns) (sym there) of_put

pub hides : {A : Type 0} (o : Ops A) (e : Coding A) → Laws o e.size e.number e.element e.bytes → Hides o e
hides {A} o e laws = λ c public private s ch columns proof case.
    let p = params_of c in
    record {
      passing = λ pass. (counted o e laws c public private s ch columns proof case pass, simulated_once o e laws.ring c public s ch columns proof case.valid case.opened pass);
      only_passing_leads = λ elements to. passes o e laws c public private s ch columns (words_for o e elements) proof case to.1;
      only_passing_makes = λ free to. shown_passes o e c public s ch columns proof _ to.1 (simulated_passes o e laws.ring c public s ch columns free case.valid case.opened);
      shares =
          let sum : idle_count p + free_count p ≡ random_count p = omega (arith, counts_agree o c case.valid) in
          sym (pow-add e.size (idle_count p) (free_count p)) ∙ ap (λ (n : ℕ). e.size ^ n) sum ∙ omega arith;
    }
