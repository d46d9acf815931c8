-- Who answers what is sent to subnet administration (IBA volume 1, chapter 15).
use Rattle.std.specs.Prelude.{ℕ, Bool, List}
use Rattle.subnet_model.specs.declared.subnet_port.SubnetPort.{SubnetPort}
use Rattle.subnet_model.specs.Configuration.{ConfigurationState}

-- S is what it remembers; a MAD is the list of its bytes
pub record Administrator (S : Type 0) : Type 0 where
  -- before the first command
  pub begins : ConfigurationState → S
  -- a MAD comes from a port: those that answer it, and what is remembered then
  pub answer : ConfigurationState → SubnetPort → List ℕ → S → List (List ℕ) × S
  -- the MADs by which a port that asked acknowledges what answered it
  pub acknowledgements : List (List ℕ) → List (List ℕ)
  -- the port of this GUID receives what is sent to this LID as that of a multicast group
  pub receives : S → ℕ → ℕ → Bool
