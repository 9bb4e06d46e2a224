-- Requests with which a task writes to a store.
use Rattle.std.specs.Prelude.{ℕ}
use Rattle.fence.specs.declared.token.Token.{Token}

-- which task was asked for which key, and the token that it had for the key
pub record Request : Type 0 where
  pub task : ℕ
  pub key : ℕ
  pub token : Token
