use Rattle.lzk_ligero_steps.proofs.room.params_laws.Goals as goal

pub returns : goal.returns
returns g c = record { circuit = c.args.plan.now.circuit.now; valid = c.valid_laws.ensures; are = c.args.plan.now.are }
