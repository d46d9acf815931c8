-- What a request that is not refused brings: the data of its reply, and the state after it.
use Rattle.std.specs.Prelude.{ℕ, List}
use Rattle.sa_model.specs.Visible.{SaState}

-- one reply with these bytes as its data, or a table of records, each in so many units of 8 bytes
pub data Success : Type 0 where
  one_reply : List ℕ → SaState → Success
  whole_table : ℕ → List ℕ → Success
