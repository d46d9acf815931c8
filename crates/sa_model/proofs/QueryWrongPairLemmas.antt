-- A subnet of two ports: with a service each, of which a port would be shown its own first; and as limited members alone, to
-- whom a rule would show paths.
use Rattle.std.proofs.Common.{◌≡◌, ℕ, true, List, [], ◌∷◌, replicate, refl, sym, None, nat_eq, arith}
use Rattle.std.specs.List.{list_all}
use Rattle.std.proofs.lemmas.Bool.{false≢true}
use Rattle.std.proofs.lemmas.List.Elements.{All-from_recursion}
use Rattle.std.proofs.lemmas.Map.Keys.{IsDistinct-cons}
use Rattle.step_results.proofs.ListLemmas.{IsDistinct-nil}
use Rattle.partition_file.specs.declared.heading.Heading.{Heading}
use Rattle.pkey_rules.specs.KeyTable.{same_base}
use Rattle.subnet_model.specs.Configuration.{ConfigurationState}
use Rattle.subnet_model.specs.Configured.{HoldsKnownKeys, IsConfigured, is_known_key, same_guid}
use Rattle.subnet_model.specs.declared.subnet_port.SubnetPort.{SubnetPort}
use Rattle.subnet_model.specs.Examples.{adapter}
use Rattle.sa_model.specs.Services.{PortServices}
use Rattle.sa_model.specs.QueryWrongRules.{CommonBasesAreNotShared, OwnFirstIsOutOfOrder}

-- each holds this key alone
one_port : ℕ → SubnetPort
one_port key = adapter 1 0x101 (key ∷ [])

other_port : ℕ → SubnetPort
other_port key = adapter 2 0x111 (key ∷ [])

default_alone : List Heading
default_alone = record { base = 0x7fff; name = []; group = None } ∷ []

pair : ℕ → ConfigurationState
pair key = record { ports = one_port key ∷ other_port key ∷ []; partitions = default_alone }

is_configured : (key : ℕ) → list_all (is_known_key default_alone) (key ∷ []) ≡ true → IsConfigured (pair key)
unfolding pair one_port other_port default_alone
is_configured key known_here = record {
  own_guids = IsDistinct-cons same_guid (one_port key) (other_port key ∷ []) (refl, tt) (IsDistinct-cons same_guid (other_port key) [] tt (IsDistinct-nil same_guid));
  lids = refl;
  few = omega arith;
  keys = All-from_recursion (HoldsKnownKeys default_alone) (pair key).ports (keys_of 1 0x101, (keys_of 2 0x111, tt));
  headings = record {
    bases = record { room = omega arith; distinct = IsDistinct-cons nat_eq 0x7fff [] tt (IsDistinct-nil nat_eq); valid = refl; first = refl };
    groups = refl;
  };
}
  where
    keys_of : (lid guid : ℕ) → HoldsKnownKeys default_alone (adapter lid guid (key ∷ []))
    keys_of lid guid = record { once = IsDistinct-cons same_base key [] tt (IsDistinct-nil same_base); known = known_here; few = omega arith }

offers : ℕ → PortServices
offers guid = record {
  port = guid;
  base = 0x7fff;
  services = record { service_id = 1; lease = 0; name = replicate 64 0; numbers = replicate 64 0 } ∷ [];
}

pub own_first_is_out_of_order : OwnFirstIsOutOfOrder
unfolding pair one_port other_port offers default_alone
own_first_is_out_of_order law = false≢true (law (pair 0xffff) (other_port 0xffff) (offers 0x101 ∷ offers 0x111 ∷ []) (is_configured 0xffff refl) refl refl)

pub common_bases_are_not_shared : CommonBasesAreNotShared
unfolding pair one_port other_port default_alone
common_bases_are_not_shared law =
    false≢true (sym ((law (pair 0x7fff) (one_port 0x7fff) (other_port 0x7fff) (is_configured 0x7fff refl) refl refl).paths 0x7fff))
