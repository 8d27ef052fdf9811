use Rattle.lzk_credential_run.proofs.making.proofs_fit.Goals as goal

pub returns : goal.returns
returns c = λ session public private word bytes file. c.proof_laws.ensures.fit c.args.circuit.now session public private word bytes c.valid_laws.ensures file
