use Rattle.lzk_cmd.proofs.Accepted.{hashed_is_accepted, hashes_satisfied, proved_is_accepted}
use Rattle.lzk_cmd.proofs.Alone.{one_end}
use Rattle.lzk_cmd.proofs.Exists.{some_end}
use Rattle.lzk_cmd.proofs.laws.run_laws.Goals as goal

pub returns : goal.returns
returns c =
    record {
      one_end = one_end c.proof_laws.ensures.one c.proof_laws-2.ensures.one;
      some_end = some_end (record {
        gold_file = c.proof_laws.ensures.some;
        gold_fits = c.proof_laws.ensures.fit;
        gf_file = c.proof_laws-2.ensures.some;
        gf_fits = c.proof_laws-2.ensures.fit;
        gold_accepted = c.accepted_laws.ensures.accepted;
        demo_inputs = c.demo_laws.ensures.satisfied;
        demo_circuit = c.demo_laws.ensures.circuit;
        sha_circuit = c.circuit_laws.ensures.some;
      });
      honest = proved_is_accepted c.accepted_laws.ensures.accepted c.accepted_laws-2.ensures.accepted;
      hashed = hashed_is_accepted c.accepted_laws.ensures.accepted c.accepted_laws-2.ensures.accepted;
      satisfied = hashes_satisfied c.circuit_laws.ensures.satisfied;
    }
