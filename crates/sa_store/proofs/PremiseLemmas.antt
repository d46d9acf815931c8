-- What is tested of ports and keys makes a configured subnet.
use Rattle.std.proofs.Common.{◌≡◌, ℕ, ◌+◌, ◌≤◌, ◌==◌, ◌||◌, Bool, true, false, not, nat_le, List, [], ◌∷◌, length, map}
use Rattle.std.proofs.Common.{refl, ap, arith}
use Rattle.std.specs.List.{AllByRecursion, IsDistinct, list_all, list_any, range_with_len}
use Rattle.std.proofs.lemmas.Bool.{and_parts, eqb-true, false≢true, leb-true}
use Rattle.std.proofs.lemmas.List.Elements.{All-from_recursion}
use Rattle.std.proofs.lemmas.Map.Keys.{IsDistinct-cons}
use Rattle.step_results.proofs.ListLemmas.{IsDistinct-nil}
use Rattle.partition_file.specs.declared.heading.Heading.{Heading}
use Rattle.partition_file.specs.Members.{AreSoundHeadings, Membership}
use Rattle.pkey_rules.specs.KeyTable.{same_base}
use Rattle.pkey_rules.specs.PKey.{base_of}
use Rattle.pkey_rules.specs.declared.key_table.TheConstants.{PARTITIONS}
use Rattle.subnet_model.specs.Configured.{HoldsKnownKeys, IsConfigured, is_known_key, same_guid}
use Rattle.sa_model.specs.Sound.{pairwise}
use Rattle.sa_store.specs.declared.node_port.NodePort.{NodePort}
use Rattle.sa_store.specs.NodePorts.{all_with_keys, configured, with_keys}
use Rattle.sa_store.specs.Premises.{are_known_keys, are_sound, have_lids_from, other_base, other_guid}

pub any_base : (key : ℕ) (headings : List Heading) → list_any (λ heading. heading.base == base_of key) headings ≡ is_known_key headings key
any_base key [] = refl
any_base key (heading ∷ headings) = ap (λ (rest : Bool). (heading.base == base_of key) || rest) (any_base key headings)

is_false : (b : Bool) → not b ≡ true → b ≡ false
is_false true h = absurd (false≢true h)
is_false false h = refl

-- ---- no two ports have one GUID
others_apart : (port : NodePort) (held : List ℕ) (ports : List NodePort) (keys : List (List ℕ)) → list_all (other_guid port) ports ≡ true
    → AllByRecursion (λ other. same_guid (with_keys port held) other ≡ false) (all_with_keys ports keys)
others_apart port held [] keys h = tt
others_apart port held (other ∷ ports) [] h = tt
others_apart port held (other ∷ ports) (one ∷ keys) h =
    let parts = and_parts (other_guid port other) (list_all (other_guid port) ports) h in
    (is_false (port.guid == other.guid) parts.0, others_apart port held ports keys parts.1)

guids_apart : (ports : List NodePort) (keys : List (List ℕ)) → pairwise other_guid ports ≡ true → IsDistinct same_guid (all_with_keys ports keys)
guids_apart [] keys h = IsDistinct-nil same_guid
guids_apart (port ∷ ports) [] h = IsDistinct-nil same_guid
guids_apart (port ∷ ports) (held ∷ keys) h =
    let parts = and_parts (list_all (other_guid port) ports) (pairwise other_guid ports) h in
    IsDistinct-cons same_guid (with_keys port held) (all_with_keys ports keys) (others_apart port held ports keys parts.0) (guids_apart ports keys parts.1)

-- ---- LIDs in order
lids_rise : (lid : ℕ) (ports : List NodePort) (keys : List (List ℕ)) → have_lids_from lid ports ≡ true
    → map (λ port. port.lid) (all_with_keys ports keys) ≡ range_with_len lid (length (all_with_keys ports keys))
lids_rise lid [] keys h = refl
lids_rise lid (port ∷ ports) [] h = refl
lids_rise lid (port ∷ ports) (held ∷ keys) h =
    let parts = and_parts (port.lid == lid) (have_lids_from (lid + 1) ports) h in
    let here = eqb-true port.lid lid parts.0 in
    let rest = lids_rise (lid + 1) ports keys parts.1 in
    rw (here, rest) refl

-- ---- no more of them
few_ports : (ports : List NodePort) (keys : List (List ℕ)) → length (all_with_keys ports keys) ≤ length ports
few_ports [] keys = omega arith
few_ports (port ∷ ports) [] = omega arith
few_ports (port ∷ ports) (held ∷ keys) = let rest = few_ports ports keys in omega arith

-- ---- known keys, each of a partition of its own
bases_apart_from : (key : ℕ) (keys : List ℕ) → list_all (other_base key) keys ≡ true → AllByRecursion (λ other. same_base key other ≡ false) keys
bases_apart_from key [] h = tt
bases_apart_from key (other ∷ keys) h =
    let parts = and_parts (other_base key other) (list_all (other_base key) keys) h in
    (is_false (same_base key other) parts.0, bases_apart_from key keys parts.1)

bases_apart : (keys : List ℕ) → pairwise other_base keys ≡ true → IsDistinct same_base keys
bases_apart [] h = IsDistinct-nil same_base
bases_apart (key ∷ keys) h =
    let parts = and_parts (list_all (other_base key) keys) (pairwise other_base keys) h in
    IsDistinct-cons same_base key keys (bases_apart_from key keys parts.0) (bases_apart keys parts.1)

keys_known : (headings : List Heading) (ports : List NodePort) (keys : List (List ℕ)) → list_all (are_known_keys headings) keys ≡ true
    → AllByRecursion (HoldsKnownKeys headings) (all_with_keys ports keys)
keys_known headings [] keys h = tt
keys_known headings (port ∷ ports) [] h = tt
keys_known headings (port ∷ ports) (held ∷ keys) h =
    let parts = and_parts (are_known_keys headings held) (list_all (are_known_keys headings) keys) h in
    let first = and_parts (pairwise other_base held) _ parts.0 in
    let second = and_parts (list_all (is_known_key headings) held) (nat_le (length held) PARTITIONS) first.1 in
    (record { once = bases_apart held first.0; known = second.0; few = leb-true (length held) PARTITIONS second.1 }, keys_known headings ports keys parts.1)

pub sound_is_configured : (ports : List NodePort) (members : Membership) → AreSoundHeadings members.headings
    → are_sound ports members.headings members.keys ≡ true → IsConfigured (configured ports members)
sound_is_configured ports members headings h =
    let first = and_parts (pairwise other_guid ports) _ (and_parts (length members.keys == length ports) _ h).1 in
    let second = and_parts (have_lids_from 1 ports) _ first.1 in
    let third = and_parts (nat_le (length ports) 320) (list_all (are_known_keys members.headings) members.keys) second.1 in
    let few = leb-true (length ports) 320 third.0 in
    let fewer = few_ports ports members.keys in
    record {
      own_guids = guids_apart ports members.keys first.0;
      lids = lids_rise 1 ports members.keys second.0;
      few = omega arith;
      keys = All-from_recursion (HoldsKnownKeys members.headings) (all_with_keys ports members.keys) (keys_known members.headings ports members.keys third.1);
      headings = headings;
    }
