-- A circuit in version 2.
use Rattle.lzk_circbytes.specs.declared.any.AnyCircuit.{AnyCircuit}
use Rattle.lzk_circbytes.specs.declared.any.AnyCircuit.TheVariants.{Gold, Gf}
use Rattle.lzk_circuit.specs.Valid.{Wiring, wiring_of}

-- the circuit of version 2 with the same inputs and layers
abbrev pub in_version_2 : {A : Type 0} → Wiring A → Wiring A
in_version_2 c = wiring_of 2 c.publics c.privates c.layers

abbrev pub upgraded_any : AnyCircuit → AnyCircuit
upgraded_any (Gold c) = Gold (in_version_2 c)
upgraded_any (Gf c) = Gf (in_version_2 c)
