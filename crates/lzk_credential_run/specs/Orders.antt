-- What `inputs`, `prove` and `verify` are asked for.
use Rattle.std.specs.Prelude.{ℕ, List}
use Rattle.lzk_credential_run.specs.declared.orders.Beside as other
use Rattle.lzk_credential_run.specs.declared.orders.Beside.TheVariants as named
use Rattle.lzk_credential_run.specs.declared.orders.Holding as files
use Rattle.lzk_credential_run.specs.declared.orders.Order as memory

-- the names of the policy, which refusals tell, and of the proof, and the session
pub record Order : Type 0 where
  pub policy : List ℕ
  pub proof : List ℕ
  pub session : List ℕ

abbrev pub order_of : memory.Order → Order
order_of order = record { policy = order.policy.now; proof = order.proof.now; session = order.session.now }

-- the names of the files beside the values: the secret and the path, as the policy wants them, the secret first
pub data Beside : Type 0 where
  Nothing : Beside
  One : List ℕ → Beside
  Two : List ℕ → List ℕ → Beside

abbrev pub beside_of : other.Beside → Beside
beside_of named.Nothing = Nothing
beside_of (named.One name) = One name.now
beside_of (named.Two secret path) = Two secret.now path.now

abbrev pub file_count : Beside → ℕ
file_count Nothing = 0
file_count (One name) = 1
file_count (Two secret path) = 2

-- the names of a holder's files: the record, the values, and those beside them
pub record Holding : Type 0 where
  pub name : List ℕ
  pub values : List ℕ
  pub beside : Beside

abbrev pub holding_of : files.Holding → Holding
holding_of holding =
    record { name = holding.record.now; values = holding.values.now; beside = beside_of holding.beside }
