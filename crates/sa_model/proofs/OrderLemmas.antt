-- What is visible stands in order.
use Rattle.std.proofs.Common.{ℕ, ◌+◌, Bool, true, false, not, ◌==◌, ◌&&◌, ◌||◌, nat_lt, nat_le, List, [], ◌∷◌, length, filter, map}
use Rattle.std.proofs.Common.{◌≡◌, ◌∙◌, ap, sym, refl, inl, inr, arith}
use Rattle.std.specs.List.{AllByRecursion, IsDistinct, list_all, flat_map, range_with_len}
use Rattle.std.proofs.lemmas.Bool.{and_from, and_parts, cases_Bool, or_left, or_right, eq-eqb, le-leb, not_from_false}
use Rattle.std.proofs.lemmas.List.Elements.{recursion_from_All}
use Rattle.std.proofs.lemmas.Map.Keys.{IsDistinct-head, IsDistinct-tail}
use Rattle.step_results.proofs.ListLemmas.{list_all_weaker}
use Rattle.partition_file.specs.declared.heading.Heading.{Heading}
use Rattle.std.proofs.lemmas.Bool.Decides.{nat_tests}
use Rattle.std.proofs.lemmas.List.Folds.{list_all-append}
use Rattle.pkey_rules.specs.PKey.{base_of}
use Rattle.pkey_rules.specs.KeyTable.{accepts, same_base}
use Rattle.subnet_model.specs.Configuration.{ConfigurationState}
use Rattle.subnet_model.specs.Configured.{HoldsKnownKeys, IsConfigured, same_guid}
use Rattle.subnet_model.specs.declared.subnet_port.SubnetPort.{SubnetPort}
use Rattle.sa_model.specs.Members.{is_in}
use Rattle.sa_model.specs.Changes.{partition_of}
use Rattle.sa_model.specs.Groups.{MulticastGroup, PartitionGroups, start_from, start_of}
use Rattle.sa_model.specs.Sound.{pairwise, lower_mlid, is_in_range, is_sound_group, is_sound_partition}
use Rattle.sa_model.proofs.ListLemmas.{all_map, all_filter, pairwise_filter, pairwise_append}
use Rattle.sa_model.proofs.SoundLemmas.{sound_parts, partition_parts}
use Rattle.sa_model.specs.KeyOrder.{by_base, is_lower_base, with_key}
use Rattle.sa_model.specs.ServiceChange.{lower_id, port_and_base}
use Rattle.sa_model.specs.ServiceSight.{is_shown, services_seen}
use Rattle.sa_model.specs.ServiceSound.{are_sound_services, holds_base, is_sound_place}
use Rattle.sa_model.specs.Services.{PortServices, Service, no_services, none_of_port}
use Rattle.sa_model.proofs.KeyOrderLemmas.{all_by_base, all_with_key, stand_by_base}
use Rattle.sa_model.specs.Visible.{Path, GroupOfBase, ServiceOfPort, may_know, keys_to, paths_to, groups_of, services_of, visible_services}
use Rattle.sa_model.specs.QueryWrongRules.{ServicesStandInOrder}
use Rattle.sa_model.specs.Order.{lower_lid, goes_before, of_lower_mlid, is_offered_before, lid_with_guid, VisibleStandsInOrder}

-- partitions by number
abbrev lower_number : PartitionGroups → PartitionGroups → Bool
lower_number a b = nat_lt a.number b.number

-- ---- lists that are put together, each in order, and each before those behind it
all_flat_in : {X Y : Type 0} (p : X → Bool) (q : Y → Bool) (f : X → List Y) → ((x : X) → p x ≡ true → list_all q (f x) ≡ true) → (xs : List X)
    → list_all p xs ≡ true → list_all q (flat_map f xs) ≡ true
all_flat_in p q f each [] all = refl
all_flat_in p q f each (x ∷ xs) all =
    let parts = and_parts (p x) (list_all p xs) all in
    list_all-append q (f x) (flat_map f xs)
    ∙ and_from (list_all q (f x)) (list_all q (flat_map f xs)) (each x parts.0) (all_flat_in p q f each xs parts.1)

-- each of these stands before each of what comes of all the others
before_flat : {X Y : Type 0} (p : X → Bool) (r : Y → Y → Bool) (f : X → List Y) → (ys : List Y) → ((x : X) → p x ≡ true → list_all (λ y. list_all (r y) (f x)) ys ≡ true)
    → (xs : List X) → list_all p xs ≡ true → list_all (λ y. list_all (r y) (flat_map f xs)) ys ≡ true
before_flat p r f [] each xs all = refl
before_flat p r f (y ∷ ys) each xs all =
    and_from (list_all (r y) (flat_map f xs)) (list_all (λ other. list_all (r other) (flat_map f xs)) ys)
    (all_flat_in p (r y) f (λ x e. (and_parts (list_all (r y) (f x)) (list_all (λ other. list_all (r other) (f x)) ys) (each x e)).0) xs all)
    (before_flat p r f ys (λ x e. (and_parts (list_all (r y) (f x)) (list_all (λ other. list_all (r other) (f x)) ys) (each x e)).1) xs all)

pairwise_flat : {X Y : Type 0} (p : X → Bool) (before : X → X → Bool) (r : Y → Y → Bool) (f : X → List Y) → ((x : X) → p x ≡ true → pairwise r (f x) ≡ true)
    → ((x other : X) → p x ≡ true → p other ≡ true → before x other ≡ true → list_all (λ y. list_all (r y) (f other)) (f x) ≡ true)
    → (xs : List X) → list_all p xs ≡ true → pairwise before xs ≡ true → pairwise r (flat_map f xs) ≡ true
pairwise_flat p before r f each between [] all order = refl
pairwise_flat p before r f each between (x ∷ xs) all order =
    let parts = and_parts (p x) (list_all p xs) all in
    let ranks = and_parts (list_all (before x) xs) (pairwise before xs) order in
    pairwise_append r (f x) (flat_map f xs) (each x parts.0) (pairwise_flat p before r f each between xs parts.1 ranks.1)
    (before_flat (λ other. p other && before x other) r f (f x)
    (λ other e. let both = and_parts (p other) (before x other) e in between x other parts.0 both.0 both.1) xs
    (all_both p (before x) xs parts.1 ranks.0))
  where
    all_both : {Z : Type 0} (a b : Z → Bool) (zs : List Z) → list_all a zs ≡ true → list_all b zs ≡ true → list_all (λ z. a z && b z) zs ≡ true
    all_both a b [] x y = refl
    all_both a b (z ∷ zs) x y =
        let first = and_parts (a z) (list_all a zs) x in
        let second = and_parts (b z) (list_all b zs) y in
        and_from (a z && b z) (list_all (λ w. a w && b w) zs) (and_from (a z) (b z) first.0 second.0) (all_both a b zs first.1 second.1)

pairwise_of_map : {X Y : Type 0} (before : X → X → Bool) (r : Y → Y → Bool) (f : X → Y) → ((a b : X) → before a b ≡ true → r (f a) (f b) ≡ true) → (xs : List X)
    → pairwise before xs ≡ true → pairwise r (map f xs) ≡ true
pairwise_of_map before r f keeps [] order = refl
pairwise_of_map before r f keeps (x ∷ xs) order =
    let parts = and_parts (list_all (before x) xs) (pairwise before xs) order in
    and_from (list_all (r (f x)) (map f xs)) (pairwise r (map f xs))
    (all_map (before x) (r (f x)) f (λ y e. keeps x y e) xs parts.0) (pairwise_of_map before r f keeps xs parts.1)

all_true : {X : Type 0} (xs : List X) → list_all (λ x. true) xs ≡ true
all_true [] = refl
all_true (x ∷ xs) = all_true xs

-- ---- paths
abbrev path_under : SubnetPort → SubnetPort → ℕ → Path
path_under own other key = record { origin = own; destination = other; key = key }

in_one : (own other : SubnetPort) → pairwise goes_before (paths_to own other) ≡ true
in_one own other =
    pairwise_of_map is_lower_base goes_before (path_under own other)
    (λ a b e. or_right (nat_lt other.lid other.lid) ((other.lid == other.lid) && is_lower_base a b)
    (and_from (other.lid == other.lid) (is_lower_base a b) (eq-eqb other.lid other.lid refl) e))
    (keys_to own other) (pairwise_filter is_lower_base (λ key. accepts key other.keys) (by_base own.keys) (stand_by_base own.keys).order)

to_lower : (own a b : SubnetPort) → lower_lid a b ≡ true → list_all (λ path. list_all (goes_before path) (paths_to own b)) (paths_to own a) ≡ true
to_lower own a b lower =
    all_map (λ key. true) (λ path. list_all (goes_before path) (paths_to own b)) (path_under own a)
    (λ key e. all_map (λ other. true) (goes_before (path_under own a key)) (path_under own b)
    (λ other h. or_left (nat_lt a.lid b.lid) ((a.lid == b.lid) && nat_le (base_of key) (base_of other)) lower) (keys_to own b) (all_true (keys_to own b)))
    (keys_to own a) (all_true (keys_to own a))

-- ---- groups
abbrev in_partition : ℕ → MulticastGroup → GroupOfBase
in_partition base group = record { base = base; group = group }

in_partition_order : (ports : List SubnetPort) (x : PartitionGroups) → is_sound_partition ports x ≡ true → pairwise of_lower_mlid (groups_of x) ≡ true
in_partition_order ports x sound =
    pairwise_of_map lower_mlid of_lower_mlid (in_partition x.base) (λ a b e. e) x.groups (partition_parts ports x sound).order

apart : (m n a b : ℕ) → nat_lt m n ≡ true → is_in_range m a ≡ true → is_in_range n b ≡ true → nat_lt a b ≡ true
apart m n a b lower x y = grind (arith, nat_tests)

between_partitions : (ports : List SubnetPort) (x y : PartitionGroups) → is_sound_partition ports x ≡ true → is_sound_partition ports y ≡ true
    → lower_number x y ≡ true → list_all (λ one. list_all (of_lower_mlid one) (groups_of y)) (groups_of x) ≡ true
between_partitions ports x y x_sound y_sound lower =
    all_map (is_sound_group ports x) (λ one. list_all (of_lower_mlid one) (groups_of y)) (in_partition x.base)
    (λ a e. all_map (is_sound_group ports y) (of_lower_mlid (in_partition x.base a)) (in_partition y.base)
    (λ b h. apart x.number y.number a.mlid b.mlid lower (sound_parts ports x a e).ranged (sound_parts ports y b h).ranged)
    y.groups (partition_parts ports y y_sound).each) x.groups (partition_parts ports x x_sound).each

-- ---- ports of a configured subnet, and its partitions
lids_rise : (n : ℕ) (ports : List SubnetPort) → map (λ port. port.lid) ports ≡ range_with_len n (length ports)
    → list_all (λ port. nat_le n port.lid) ports ≡ true × (pairwise lower_lid ports ≡ true)
lids_rise n [] lids = (refl, refl)
lids_rise n (port ∷ ports) lids =
    let head : port.lid ≡ n = cc in
    let tail : map (λ one. one.lid) ports ≡ range_with_len (n + 1) (length ports) = cc in
    let rest = lids_rise (n + 1) ports tail in (
      and_from (nat_le n port.lid) _ (le-leb n port.lid (omega (arith, head)))
          (list_all_weaker (λ one. nat_le (n + 1) one.lid) (λ one. nat_le n one.lid) (λ one h. later n one.lid h) ports rest.0),
      and_from _ _
          (list_all_weaker (λ one. nat_le (n + 1) one.lid) (lower_lid port) (λ one h. above port.lid n one.lid head h) ports rest.0)
          rest.1,
    )
  where
    later : (low high : ℕ) → nat_le (low + 1) high ≡ true → nat_le low high ≡ true
    later low high h = grind (arith, nat_tests)

    above : (lid low high : ℕ) → lid ≡ low → nat_le (low + 1) high ≡ true → nat_lt lid high ≡ true
    above lid low high e h = grind (arith, nat_tests)

-- what stands in a relation, by what it is mapped to
pairwise_mapped : {X Y : Type 0} (r : Y → Y → Bool) (f : X → Y) (xs : List X) → pairwise r (map f xs) ≡ pairwise (λ a b. r (f a) (f b)) xs
pairwise_mapped r f [] = refl
pairwise_mapped {X = X} r f (x ∷ xs) = λ place. all_mapped xs place && pairwise_mapped r f xs place
  where
    all_mapped : (ys : List X) → list_all (r (f x)) (map f ys) ≡ list_all (λ y. r (f x) (f y)) ys
    all_mapped [] = refl
    all_mapped (y ∷ ys) = ap (λ rest. r (f x) (f y) && rest) (all_mapped ys)

pairwise_by : {X Y : Type 0} (r : Y → Y → Bool) (f : X → Y) (xs ys : List X) → map f xs ≡ map f ys
    → pairwise (λ a b. r (f a) (f b)) ys ≡ true → pairwise (λ a b. r (f a) (f b)) xs ≡ true
pairwise_by r f xs ys same order =
    sym (pairwise_mapped r f xs) ∙ (ap (λ zs. pairwise r zs) same ∙ (pairwise_mapped r f ys ∙ order))

start_rises : (number : ℕ) (headings : List Heading)
    → list_all (λ partition. nat_le number partition.number) (start_from number headings) ≡ true
    × (pairwise lower_number (start_from number headings) ≡ true)
start_rises number [] = (refl, refl)
start_rises number (heading ∷ headings) =
    let rest = start_rises (number + 1) headings in (
      and_from (nat_le number number) _ (le-leb number number (omega arith))
          (list_all_weaker (λ partition. nat_le (number + 1) partition.number) (λ partition. nat_le number partition.number)
          (λ partition h. later number partition.number h) (start_from (number + 1) headings) rest.0),
      and_from _ _
          (list_all_weaker (λ partition. nat_le (number + 1) partition.number) (λ partition. nat_lt number partition.number)
          (λ partition h. above number partition.number h) (start_from (number + 1) headings) rest.0)
          rest.1,
    )
  where
    later : (low high : ℕ) → nat_le (low + 1) high ≡ true → nat_le low high ≡ true
    later low high h = grind (arith, nat_tests)

    above : (low high : ℕ) → nat_le (low + 1) high ≡ true → nat_lt low high ≡ true
    above low high h = grind (arith, nat_tests)

-- ---- keys of distinct bases rise by base
abbrev rises : ℕ → ℕ → Bool
rises a b = nat_lt (base_of a) (base_of b)

abbrev is_of_other_base : ℕ → ℕ → Bool
is_of_other_base key held = not (base_of key == base_of held)

with_key_rises : (key : ℕ) (keys : List ℕ) → list_all (is_of_other_base key) keys ≡ true → pairwise rises keys ≡ true → pairwise rises (with_key key keys) ≡ true
with_key_rises key [] other rise = refl
with_key_rises key (held ∷ keys) other rise =
    let apart = and_parts (is_of_other_base key held) _ other in
    let parts = and_parts (list_all (rises held) keys) (pairwise rises keys) rise in
    elim (cases_Bool (nat_le (base_of key) (base_of held))) [
      | inl before ↦
          rw before
          (and_from (list_all (rises key) (held ∷ keys)) (pairwise rises (held ∷ keys))
          (and_from (rises key held) (list_all (rises key) keys) (lower key held before apart.0)
          (list_all_weaker (rises held) (rises key) (λ x e. through key held x before e) keys parts.0)) rise)
      | inr behind ↦
          rw behind
          (and_from (list_all (rises held) (with_key key keys)) (pairwise rises (with_key key keys))
          (all_with_key (rises held) key keys (higher key held behind) parts.0) (with_key_rises key keys apart.1 parts.1))
    ]
  where
    unless : (test : Bool) → not test ≡ true → test ≡ false
    unless true h = absurd (cc)
    unless false h = refl

    lower : (a b : ℕ) → nat_le (base_of a) (base_of b) ≡ true → is_of_other_base a b ≡ true → rises a b ≡ true
    lower a b within other_one =
        let apart : (base_of a == base_of b) ≡ false = unless (base_of a == base_of b) other_one in grind (arith, nat_tests)

    through : (a b c : ℕ) → nat_le (base_of a) (base_of b) ≡ true → rises b c ≡ true → rises a c ≡ true
    through a b c x y = grind (arith, nat_tests)

    higher : (a b : ℕ) → nat_le (base_of a) (base_of b) ≡ false → rises b a ≡ true
    higher a b e = grind (arith, nat_tests)

by_base_rises : (keys : List ℕ) → IsDistinct same_base keys → pairwise rises (by_base keys) ≡ true
by_base_rises [] once = refl
by_base_rises (key ∷ keys) once =
    with_key_rises key (by_base keys)
    (all_by_base (is_of_other_base key) keys (others keys (IsDistinct-head same_base key keys once)))
    (by_base_rises keys (IsDistinct-tail same_base key keys once))
  where
    others : (some : List ℕ) → AllByRecursion (λ held. same_base key held ≡ false) some → list_all (is_of_other_base key) some ≡ true
    others [] all = refl
    others (held ∷ some) all = and_from (is_of_other_base key held) _ (not_from_false (same_base key held) all.0) (others some all.1)

-- ---- places for services rise by LID and base
abbrev has_own_lid : List SubnetPort → SubnetPort → Bool
has_own_lid ports port = lid_with_guid ports port.guid == port.lid

lids_are_own : (ports : List SubnetPort) → IsDistinct same_guid ports → list_all (has_own_lid ports) ports ≡ true
lids_are_own [] once = refl
lids_are_own (port ∷ ports) once =
    and_from (has_own_lid (port ∷ ports) port) _ head
    (shifted ports (IsDistinct-head same_guid port ports once) (lids_are_own ports (IsDistinct-tail same_guid port ports once)))
  where
    head : has_own_lid (port ∷ ports) port ≡ true
    head = rw (eq-eqb port.guid port.guid refl) (eq-eqb port.lid port.lid refl)

    shifted : (some : List SubnetPort) → AllByRecursion (λ other. same_guid port other ≡ false) some → list_all (has_own_lid ports) some ≡ true
        → list_all (has_own_lid (port ∷ ports)) some ≡ true
    shifted [] apart all = refl
    shifted (other ∷ some) apart all =
        let parts = and_parts (has_own_lid ports other) _ all in
        let here : (port.guid == other.guid) ≡ false = apart.0 in
        and_from (has_own_lid (port ∷ ports) other) _ (rw here parts.0) (shifted some apart.1 parts.1)

-- a port with its LID, whose keys rise by base
abbrev is_regular : List SubnetPort → SubnetPort → Bool
is_regular ports port = has_own_lid ports port && pairwise rises (by_base port.keys)

all_regular : (headings : List Heading) (ports some : List SubnetPort) → AllByRecursion (HoldsKnownKeys headings) some → list_all (has_own_lid ports) some ≡ true
    → list_all (is_regular ports) some ≡ true
all_regular headings ports [] keys own = refl
all_regular headings ports (port ∷ some) keys own =
    let parts = and_parts (has_own_lid ports port) _ own in
    and_from (is_regular ports port) _
    (and_from (has_own_lid ports port) (pairwise rises (by_base port.keys)) parts.0 (by_base_rises port.keys keys.0.once))
    (all_regular headings ports some keys.1 parts.1)

-- by port and base
abbrev pair_before : List SubnetPort → ℕ × ℕ → ℕ × ℕ → Bool
pair_before ports a b =
    nat_lt (lid_with_guid ports a.0) (lid_with_guid ports b.0)
    || ((lid_with_guid ports a.0 == lid_with_guid ports b.0) && nat_lt a.1 b.1)

abbrev place_before : List SubnetPort → PortServices → PortServices → Bool
place_before ports a b = pair_before ports (port_and_base a) (port_and_base b)

abbrev empty_place : SubnetPort → ℕ → PortServices
empty_place port key = record { port = port.guid; base = base_of key; services = [] }

places_of_one : (ports : List SubnetPort) (port : SubnetPort) → is_regular ports port ≡ true → pairwise (place_before ports) (none_of_port port) ≡ true
places_of_one ports port regular =
    let parts = and_parts (has_own_lid ports port) (pairwise rises (by_base port.keys)) regular in
    pairwise_of_map rises (place_before ports) (empty_place port)
    (λ a b e. or_right (nat_lt (lid_with_guid ports port.guid) (lid_with_guid ports port.guid)) _
    (and_from (lid_with_guid ports port.guid == lid_with_guid ports port.guid) (rises a b) (eq-eqb (lid_with_guid ports port.guid) (lid_with_guid ports port.guid) refl) e))
    (by_base port.keys) parts.1

lids_differ : (ports : List SubnetPort) (a b : SubnetPort) → is_regular ports a ≡ true → is_regular ports b ≡ true → lower_lid a b ≡ true
    → nat_lt (lid_with_guid ports a.guid) (lid_with_guid ports b.guid) ≡ true
lids_differ ports a b first second lower =
    let own = and_parts (has_own_lid ports a) _ first in
    let other = and_parts (has_own_lid ports b) _ second in
    same (lid_with_guid ports a.guid) (lid_with_guid ports b.guid) a.lid b.lid own.0 other.0 lower
  where
    same : (x y m n : ℕ) → (x == m) ≡ true → (y == n) ≡ true → nat_lt m n ≡ true → nat_lt x y ≡ true
    same x y m n e f h = grind (arith, nat_tests)

places_of_two : (ports : List SubnetPort) (a b : SubnetPort) → is_regular ports a ≡ true → is_regular ports b ≡ true → lower_lid a b ≡ true
    → list_all (λ one. list_all (place_before ports one) (none_of_port b)) (none_of_port a) ≡ true
places_of_two ports a b first second lower =
    all_map (λ key. true) (λ one. list_all (place_before ports one) (none_of_port b)) (empty_place a)
    (λ key e. all_map (λ other. true) (place_before ports (empty_place a key)) (empty_place b)
    (λ other h. or_left (nat_lt (lid_with_guid ports a.guid) (lid_with_guid ports b.guid)) _ (lids_differ ports a b first second lower))
    (by_base b.keys) (all_true (by_base b.keys))) (by_base a.keys) (all_true (by_base a.keys))

places_rise : (configuration : ConfigurationState) → IsConfigured configuration → pairwise lower_lid configuration.ports ≡ true
    → pairwise (place_before configuration.ports) (no_services configuration.ports) ≡ true
places_rise configuration configured by_lid =
    let ports = configuration.ports in
    pairwise_flat (is_regular ports) lower_lid (place_before ports) none_of_port (λ port e. places_of_one ports port e)
    (λ a b e h lower. places_of_two ports a b e h lower) ports
    (all_regular configuration.partitions ports ports (recursion_from_All (HoldsKnownKeys configuration.partitions) ports configured.keys)
    (lids_are_own ports configured.own_guids)) by_lid

-- ---- services
abbrev in_place : PortServices → Service → ServiceOfPort
in_place place service = record { port = place.port; base = place.base; service = service }

services_of_one : (ports : List SubnetPort) (place : PortServices) → is_sound_place ports place ≡ true → pairwise (is_offered_before ports) (services_of place) ≡ true
services_of_one ports place sound =
    let held = and_parts (holds_base ports place.base place.port) _ sound in
    let order = and_parts (pairwise lower_id place.services) _ held.1 in
    let lid = lid_with_guid ports place.port in
    pairwise_of_map lower_id (is_offered_before ports) (in_place place)
    (λ a b e. or_right (nat_lt lid lid) _
    (and_from (lid == lid) _ (eq-eqb lid lid refl)
    (or_right (nat_lt place.base place.base) _ (and_from (place.base == place.base) (lower_id a b) (eq-eqb place.base place.base refl) e))))
    place.services order.0

between_two : (ports : List SubnetPort) (a b : PortServices) (one other : Service) → place_before ports a b ≡ true
    → is_offered_before ports (in_place a one) (in_place b other) ≡ true
between_two ports a b one other before =
    split (nat_lt (lid_with_guid ports a.port) (lid_with_guid ports b.port)) (lid_with_guid ports a.port == lid_with_guid ports b.port)
    (nat_lt a.base b.base) _ before
  where
    split : (lower same rise rest : Bool) → (lower || (same && rise)) ≡ true → (lower || (same && (rise || rest))) ≡ true
    split true same rise rest h = refl
    split false true true rest h = refl
    split false true false rest h = absurd (cc)
    split false false rise rest h = absurd (cc)

services_of_two : (ports : List SubnetPort) (a b : PortServices) → place_before ports a b ≡ true
    → list_all (λ one. list_all (is_offered_before ports one) (services_of b)) (services_of a) ≡ true
services_of_two ports a b before =
    all_map (λ one. true) (λ one. list_all (is_offered_before ports one) (services_of b)) (in_place a)
    (λ one e. all_map (λ other. true) (is_offered_before ports (in_place a one)) (in_place b)
    (λ other h. between_two ports a b one other before) b.services (all_true b.services)) a.services (all_true a.services)

services_rise : (ports : List SubnetPort) (own : SubnetPort) (places : List PortServices) → pairwise (place_before ports) places ≡ true
    → are_sound_services ports places ≡ true → pairwise (is_offered_before ports) (visible_services ports own places) ≡ true
services_rise ports own places order sound =
    pairwise_flat (is_sound_place ports) (place_before ports) (is_offered_before ports) services_of (λ place e. services_of_one ports place e)
    (λ a b e h before. services_of_two ports a b before) (services_seen ports own.guid places)
    (all_filter (is_sound_place ports) (is_shown ports own.guid) (is_sound_place ports) (λ place e shown. e) places sound)
    (pairwise_filter (place_before ports) (is_shown ports own.guid) places order)

pub services_stand_in_order : ServicesStandInOrder
services_stand_in_order configuration own services configured places sound =
    services_rise configuration.ports own services
    (pairwise_by (pair_before configuration.ports) port_and_base services (no_services configuration.ports) places
    (places_rise configuration configured (lids_rise 1 configuration.ports configured.lids).1)) sound

-- ---- all of it
abbrev lower_first : ℕ × ℕ → ℕ × ℕ → Bool
lower_first a b = nat_lt a.0 b.0

pub stands_in_order : VisibleStandsInOrder
stands_in_order configuration own state configured is =
    let ports = configuration.ports in
    let by_lid = (lids_rise 1 ports configured.lids).1 in
    let by_number : pairwise lower_number state.partitions ≡ true =
    pairwise_by lower_first partition_of state.partitions (start_of configuration) is.partitions (start_rises 0 configuration.partitions).1 in
    record {
      nodes = pairwise_filter lower_lid (may_know own) ports by_lid;
      paths = pairwise_flat (λ port. true) lower_lid goes_before (paths_to own) (λ other e. in_one own other)
          (λ a b e h lower. to_lower own a b lower) ports (all_true ports) by_lid;
      groups = pairwise_flat (is_sound_partition ports) lower_number of_lower_mlid groups_of (λ x e. in_partition_order ports x e)
          (λ x y e h lower. between_partitions ports x y e h lower) (filter (λ partition. is_in own partition.base) state.partitions)
          (all_filter (is_sound_partition ports) (λ partition. is_in own partition.base) (is_sound_partition ports) (λ x e within. e) state.partitions is.groups)
          (pairwise_filter lower_number (λ partition. is_in own partition.base) state.partitions by_number);
      services = services_stand_in_order configuration own state.services configured is.places is.services;
    }
