-- What a topology's subnet is brought up as is configured: few ports, in order, with keys of the partitions alone.
use Rattle.std.proofs.Common.{◌≡◌, ℕ, ◌+◌, ◌≤◌, Bool, true, false, ◌==◌, ◌||◌, nat_eq, nat_le, List, [], ◌∷◌, length, map, fold, Option, Some, None, refl, sym, subst, ap, ◌∙◌, arith, inl, inr}
use Rattle.std.specs.List.{AllByRecursion, IsDistinct, cons_option, list_all, list_any}
use Rattle.std.proofs.lemmas.Bool.{and_parts, cases_Bool, eq-eqb, eqb-true}
use Rattle.std.proofs.lemmas.List.Elements.{All-weaker}
use Rattle.std.proofs.lemmas.Map.Keys.{IsDistinct-cons, IsDistinct-head, IsDistinct-tail}
use Rattle.step_results.proofs.ListLemmas.{IsDistinct-nil}
use Rattle.pkey_rules.specs.declared.end_port.EndPort.{EndPort}
use Rattle.pkey_rules.specs.KeyTable.{same_base}
use Rattle.pkey_rules.specs.PKey.{base_of, is_base}
use Rattle.partition_file.specs.declared.heading.Heading.{Heading}
use Rattle.partition_file.specs.declared.partition.Partition.{Partition}
use Rattle.partition_file.specs.Members.{AreSoundHeadings, bases_in, heading_of, key_in, keys_in}
use Rattle.partition_file.proofs.MemberLemmas.{KeyOf, key_of_partition}
use Rattle.topo_file.specs.Sound.{IsSound}
use Rattle.topo_file.specs.Topology.{TopologyState}
use Rattle.subnet_model.specs.EndPorts.{lid_of}
use Rattle.subnet_model.specs.declared.subnet_port.SubnetPort.{SubnetPort}
use Rattle.subnet_model.specs.Configured.{HoldsKnownKeys, IsConfigured, is_known_key}
use Rattle.subnet_fabric.specs.declared.end_ports.EndPlace.{EndPlace}
use Rattle.subnet_fabric.specs.EndPorts.{IsEndPort, end_port_at}
use Rattle.subnet_fabric.specs.Ports.{configuration_of, end_ports, keyed, ports_of, end_placed, end_places, with_port, with_end_place}
use Rattle.subnet_fabric.proofs.EndPortLemmas.{end_ports_stand_in_order}
use Rattle.subnet_fabric.proofs.PortLemmas.{few_end_places}

-- ---- the keys that partitions give
-- the base of a key is one of these
abbrev HasBaseOf : List ℕ → ℕ → Type 0
HasBaseOf bases key = list_any (λ base. base == base_of key) bases ≡ true

more_known : (base : ℕ) (bases keys : List ℕ) → AllByRecursion (HasBaseOf bases) keys → AllByRecursion (HasBaseOf (base ∷ bases)) keys
more_known base bases [] known = tt
more_known base bases (key ∷ keys) known = (or_from_second (base == base_of key) _ known.0, more_known base bases keys known.1)
  where
    or_from_second : (a b : Bool) → b ≡ true → (a || b) ≡ true
    or_from_second true b h = refl
    or_from_second false b h = h

key_known : (base : ℕ) (bases : List ℕ) (key : Option ℕ) (keys : List ℕ) → KeyOf base key → AllByRecursion (HasBaseOf bases) keys
    → AllByRecursion (HasBaseOf (base ∷ bases)) (cons_option key keys)
key_known base bases None keys of known = more_known base bases keys known
key_known base bases (Some key) keys of known = (rw (eq-eqb base (base_of key) (sym of)) refl, more_known base bases keys known)

pub keys_known : (port : EndPort) (partitions : List Partition) → list_all is_base (bases_in (map heading_of partitions)) ≡ true
    → AllByRecursion (HasBaseOf (bases_in (map heading_of partitions))) (keys_in partitions port)
keys_known port [] valid = tt
keys_known port (partition ∷ rest) valid =
    let parts = and_parts (is_base partition.base) _ valid in
    key_known partition.base (bases_in (map heading_of rest)) (key_in port partition) (keys_in rest port)
    (key_of_partition port partition parts.0) (keys_known port rest parts.1)

-- a base that is none of these is not that of their keys
other_base : (base : ℕ) (bases : List ℕ) (key : ℕ) → AllByRecursion (λ other. nat_eq base other ≡ false) bases → HasBaseOf bases key → (base == base_of key) ≡ false
other_base base [] key apart known = absurd (cc)
other_base base (other ∷ bases) key apart known = elim (cases_Bool (other == base_of key)) [
  | inl same ↦ subst (λ (n : ℕ). (base == n) ≡ false) (eqb-true other (base_of key) same) apart.0
  | inr different ↦ other_base base bases key apart.1 (rw different at known)
]

other_bases : (base : ℕ) (bases keys : List ℕ) (key : ℕ) → base_of key ≡ base → AllByRecursion (λ other. nat_eq base other ≡ false) bases
    → AllByRecursion (HasBaseOf bases) keys → AllByRecursion (λ held. same_base key held ≡ false) keys
other_bases base bases [] key of apart known = tt
other_bases base bases (held ∷ keys) key of apart known =
    (rw of (other_base base bases held apart known.0), other_bases base bases keys key of apart known.1)

key_distinct : (base : ℕ) (bases : List ℕ) (key : Option ℕ) (keys : List ℕ) → KeyOf base key → AllByRecursion (λ other. nat_eq base other ≡ false) bases
    → AllByRecursion (HasBaseOf bases) keys → IsDistinct same_base keys → IsDistinct same_base (cons_option key keys)
key_distinct base bases None keys of apart known distinct = distinct
key_distinct base bases (Some key) keys of apart known distinct = IsDistinct-cons same_base key keys (other_bases base bases keys key of apart known) distinct

keys_distinct : (port : EndPort) (partitions : List Partition) → list_all is_base (bases_in (map heading_of partitions)) ≡ true
    → IsDistinct nat_eq (bases_in (map heading_of partitions)) → IsDistinct same_base (keys_in partitions port)
keys_distinct port [] valid apart = IsDistinct-nil same_base
keys_distinct port (partition ∷ rest) valid apart =
    let parts = and_parts (is_base partition.base) _ valid in
    let bases = bases_in (map heading_of rest) in
    key_distinct partition.base bases (key_in port partition) (keys_in rest port) (key_of_partition port partition parts.0)
    (IsDistinct-head nat_eq partition.base bases apart) (keys_known port rest parts.1)
    (keys_distinct port rest parts.1 (IsDistinct-tail nat_eq partition.base bases apart))

key_counted : (key : Option ℕ) (keys : List ℕ) (n : ℕ) → length keys ≤ n → length (cons_option key keys) ≤ n + 1
key_counted None keys n few = omega arith
key_counted (Some key) keys n few = omega arith

keys_counted : (port : EndPort) (partitions : List Partition) → length (keys_in partitions port) ≤ length (bases_in (map heading_of partitions))
keys_counted port [] = omega arith
keys_counted port (partition ∷ rest) =
    let more = key_counted (key_in port partition) (keys_in rest port) (length (bases_in (map heading_of rest))) (keys_counted port rest) in
    omega arith

known_as_test : (headings : List Heading) (keys : List ℕ) → AllByRecursion (HasBaseOf (bases_in headings)) keys → list_all (is_known_key headings) keys ≡ true
known_as_test headings [] known = refl
known_as_test headings (key ∷ keys) known = rw known.0 (known_as_test headings keys known.1)

-- ---- as many ports as end_places
with_port_counted : (ports : List SubnetPort) (port : SubnetPort) → length (with_port ports port) ≡ length ports + 1
with_port_counted [] port = refl
with_port_counted (first ∷ rest) port = elim (cases_Bool (nat_le first.lid port.lid)) [
  | inl before ↦ rw before (let more = with_port_counted rest port in omega arith)
  | inr after ↦ rw after (omega arith)
]

in_order_counted : (plan : TopologyState) (all : List EndPort) (some : List (EndPlace × List ℕ)) (ports : List SubnetPort)
    → length (fold (with_end_place plan.nodes all) ports some) ≡ length ports + length some
in_order_counted plan all [] ports = omega arith
in_order_counted plan all (one ∷ some) ports =
    let rest = in_order_counted plan all some (with_end_place plan.nodes all ports one) in
    let first = with_port_counted ports (end_placed plan.nodes one.1 (lid_of all one.0.port) one.0) in
    omega arith

keyed_counted : (partitions : List Partition) (some : List EndPlace) → length (keyed partitions some) ≡ length some
keyed_counted partitions [] = refl
keyed_counted partitions (end_place ∷ some) = let rest = keyed_counted partitions some in omega arith

pub as_many_ports : (partitions : List Partition) (plan : TopologyState) → length (ports_of partitions plan) ≡ length (end_places plan)
as_many_ports partitions plan =
    let all = in_order_counted plan (end_ports (end_places plan)) (keyed partitions (end_places plan)) [] in
    let same = keyed_counted partitions (end_places plan) in
    omega arith

few_ports : (partitions : List Partition) (plan : TopologyState) → IsSound plan → length (ports_of partitions plan) ≤ 320
few_ports partitions plan sound =
    let few = few_end_places plan sound.lines.limits.0 sound.lines.limits.1 in
    let all = as_many_ports partitions plan in
    omega arith

-- ---- all of it
holds_known : (partitions : List Partition) (plan : TopologyState) (port : SubnetPort) → AreSoundHeadings (map heading_of partitions)
    → IsEndPort partitions plan port → HoldsKnownKeys (map heading_of partitions) port
holds_known partitions plan port sound is =
    let own = end_port_at plan is.at in
    let P : List ℕ → Type 0 = λ keys. IsDistinct same_base keys in
    let few = keys_counted own partitions in
    let room = sound.bases.room in
    let size = ap (λ (keys : List ℕ). length keys) is.keys in
    record {
      once = subst P (sym is.keys) (keys_distinct own partitions sound.bases.valid sound.bases.distinct);
      known = ap (list_all (is_known_key (map heading_of partitions))) is.keys
          ∙ known_as_test (map heading_of partitions) (keys_in partitions own) (keys_known own partitions sound.bases.valid);
      few = omega arith;
    }

pub is_configured : (partitions : List Partition) (plan : TopologyState) → IsSound plan → AreSoundHeadings (map heading_of partitions)
    → IsConfigured (configuration_of partitions plan)
is_configured partitions plan sound headings =
    let stand = end_ports_stand_in_order partitions plan sound in
    record {
      own_guids = stand.own_guids;
      lids = stand.lids;
      few = few_ports partitions plan sound;
      keys = All-weaker (IsEndPort partitions plan) (HoldsKnownKeys (map heading_of partitions))
          (λ port is. holds_known partitions plan port headings is) (ports_of partitions plan) stand.only;
      headings = headings;
    }
