-- Two ports that share the partition of base 2, and are limited members of that of base 1 and of the default partition.
use Rattle.std.proofs.Common.{◌≡◌, ℕ, false, List, [], ◌∷◌, length, replicate, refl, ap, None, nat_eq, arith}
use Rattle.std.specs.List.{IsDistinct}
use Rattle.std.proofs.lemmas.List.Elements.{All-from_recursion}
use Rattle.std.proofs.lemmas.Map.Keys.{IsDistinct-cons}
use Rattle.step_results.proofs.ListLemmas.{IsDistinct-nil}
use Rattle.partition_file.specs.declared.heading.Heading.{Heading}
use Rattle.pkey_rules.specs.KeyTable.{same_base}
use Rattle.subnet_model.specs.Configuration.{ConfigurationState}
use Rattle.subnet_model.specs.Configured.{HoldsKnownKeys, IsConfigured, same_guid}
use Rattle.subnet_model.specs.declared.subnet_port.SubnetPort.{SubnetPort}
use Rattle.subnet_model.specs.Examples.{adapter}
use Rattle.sa_model.specs.Services.{PortServices}
use Rattle.sa_model.specs.ServicesShown.{WrongSightsAreRefused}
use Rattle.sa_model.specs.Visible.{ServiceOfPort}

own : SubnetPort
own = adapter 1 0x101 (0x7fff ∷ 0x0001 ∷ 0x8002 ∷ [])

other : SubnetPort
other = adapter 2 0x111 (0x7fff ∷ 0x0001 ∷ 0x0002 ∷ [])

three_partitions : List Heading
three_partitions = record { base = 0x7fff; name = []; group = None } ∷ record { base = 1; name = []; group = None } ∷ record { base = 2; name = []; group = None } ∷ []

pair : ConfigurationState
pair = record { ports = own ∷ other ∷ []; partitions = three_partitions }

is_configured : IsConfigured pair
unfolding pair own other three_partitions
is_configured = record {
  own_guids = IsDistinct-cons same_guid own (other ∷ []) (refl, tt) (IsDistinct-cons same_guid other [] tt (IsDistinct-nil same_guid));
  lids = refl;
  few = omega arith;
  keys = All-from_recursion (HoldsKnownKeys three_partitions) pair.ports (
    record { once = thrice 0x7fff 0x0001 0x8002 refl refl refl; known = refl; few = omega arith },
    (record { once = thrice 0x7fff 0x0001 0x0002 refl refl refl; known = refl; few = omega arith }, tt),
  );
  headings = record {
    bases = record {
      room = omega arith;
      distinct = IsDistinct-cons nat_eq 0x7fff (1 ∷ 2 ∷ []) (refl, (refl, tt))
          (IsDistinct-cons nat_eq 1 (2 ∷ []) (refl, tt) (IsDistinct-cons nat_eq 2 [] tt (IsDistinct-nil nat_eq)));
      valid = refl;
      first = refl;
    };
    groups = refl;
  };
}
  where
    thrice : (a b c : ℕ) → same_base a b ≡ false → same_base a c ≡ false → same_base b c ≡ false → IsDistinct same_base (a ∷ b ∷ c ∷ [])
    thrice a b c ab ac bc = IsDistinct-cons same_base a (b ∷ c ∷ []) (ab, (ac, tt))
        (IsDistinct-cons same_base b (c ∷ []) (bc, tt) (IsDistinct-cons same_base c [] tt (IsDistinct-nil same_base)))

offers : ℕ → PortServices
offers base = record {
  port = 0x111;
  base = base;
  services = record { service_id = 1; lease = 0; name = replicate 64 0; numbers = replicate 64 0 } ∷ [];
}

how_many : List ServiceOfPort → ℕ
how_many services = length services

pub wrong_sights_are_refused : WrongSightsAreRefused
unfolding pair own other offers three_partitions how_many
wrong_sights_are_refused = record {
  near = λ law. let reported : 1 ≡ 0 = ap how_many (law pair own (offers 1 ∷ []) is_configured refl) in absurd (cc);
  bases = λ law. let reported : 1 ≡ 0 = ap how_many (law pair own (offers 0x7fff ∷ []) is_configured refl) in absurd (cc);
  own = λ law. let reported : 0 ≡ 1 = ap how_many (law pair own (offers 2 ∷ []) is_configured refl) in absurd (cc);
}
