-- The port masks that are computed are those that routes push.
use Rattle.std.proofs.Common.{ℕ, zero, suc, ◌+◌, ◌<◌, ◌≡◌, ◌==◌, ◌&&◌, ◌||◌, ◌∙◌, ap, refl, sym, subst, get_or, if◌then◌else◌, Bool, true, false, List, [], ◌∷◌, ◌++◌, filter, length, map, position, slice_get, take, Option, Some, None, arith}
use Rattle.std.specs.Int.{bit_at}
use Rattle.std.specs.List.{AllZip, list_any, range_with_len}
use Rattle.std.specs.Option.{option_map_or}
use Rattle.std.proofs.lemmas.Bool.{eq-eqb, lt-ltb}
use Rattle.std.proofs.lemmas.List.{take_more}
use Rattle.std.proofs.lemmas.Option.{none-some, same_Some, slice_get_within}
use Rattle.partition_file.specs.declared.heading.Heading.{Heading}
use Rattle.sa_model.specs.Groups.{first_mlid}
use Rattle.subnet_model.specs.Configuration.{ConfigurationState}
use Rattle.subnet_model.specs.declared.subnet_port.SubnetPort.{SubnetPort}
use Rattle.sweep.proofs.GuidLemmas.{place_by_guid}
use Rattle.sweep.proofs.PlaceLemmas.{position_at}
use Rattle.sweep.specs.declared.graph.GraphSwitch.{GraphSwitch}
use Rattle.table_push.proofs.ReachLemmas.{no_bits}
use Rattle.table_push.specs.MaskSteps.{ArePortMasks}
use Rattle.table_push.specs.Masks.{goes_to, is_hop_to, is_in_mask}
use Rattle.updn_routes.specs.Subnet.{RoutesState, place_of}
use Rattle.cable_cuts.proofs.MaskSameLemmas.{all_same}
use Rattle.cable_cuts.proofs.NeededLemmas.{zip_more}
use Rattle.cable_cuts.specs.Masks.{AreGroupMasks, AreMasksOfAll, is_member, mask_by, mask_changes, mask_held, mask_of, member_lids, receives_all}
use Rattle.cable_cuts.specs.declared.masks.GroupMasks.{GroupMasks}

-- ---- what stands beside an element of a list
zip_at : {X Y : Type 0} (R : X → Y → Type 0) (xs : List X) (ys : List Y) (k : ℕ) (x : X) (d : Y) → AllZip R xs ys → slice_get xs k ≡ Some x → R x (get_or ys k d)
zip_at R [] ys k x d all there = absurd (none-some x there)
zip_at R (z ∷ xs) [] k x d all there = absurd all
zip_at R (z ∷ xs) (w ∷ ys) zero x d all there = subst (λ one. R one w) (same_Some z x there) all.0
zip_at R (z ∷ xs) (w ∷ ys) (suc k) x d all there = zip_at R xs ys k x d all.1 there

pub one_more : (ports : List SubnetPort) (routes : RoutesState) (partitions : List Heading) (i : ℕ) (none : Heading) (old new : List (List ℕ)) (masks : List ℕ)
    → i < length partitions → AreMasksOfAll ports routes (take i partitions) old
    → ArePortMasks routes (member_lids (get_or partitions i none).base ports) masks → new ≡ old ++ masks ∷ []
    → AreMasksOfAll ports routes (take (i + 1) partitions) new
one_more ports routes partitions i none old new masks within all one is =
    rw (take_more partitions i none within, is)
    (zip_more (λ (heading : Heading) (masks : List ℕ). ArePortMasks routes (member_lids heading.base ports) masks) (take i partitions) old (get_or partitions i none)
    masks all one)

-- ---- who receives
is_listed : (base lid : ℕ) (ports : List SubnetPort)
    → list_any (λ one. one == lid) (member_lids base ports) ≡ list_any (λ port. is_member base port && (port.lid == lid)) ports
is_listed base lid [] = refl
is_listed base lid (port ∷ ports) = by (is_member base port) (is_listed base lid ports)
  where
    by : (b : Bool) → list_any (λ one. one == lid) (member_lids base ports) ≡ list_any (λ port. is_member base port && (port.lid == lid)) ports
        → list_any (λ one. one == lid) (map (λ port. port.lid) (if b then port ∷ filter (is_member base) ports else filter (is_member base) ports))
        ≡ ((b && (port.lid == lid)) || list_any (λ port. is_member base port && (port.lid == lid)) ports)
    by true rest = ap (λ (later : Bool). (port.lid == lid) || later) rest
    by false rest = rest

goes_to_all : (ports : List SubnetPort) (base group lid : ℕ) → goes_to (member_lids base ports) group lid ≡ receives_all ports base group group lid
goes_to_all ports base group lid =
    is_listed base lid ports
    ∙ ap (λ (own : Bool). own && list_any (λ port. is_member base port && (port.lid == lid)) ports) (sym (eq-eqb group group refl))

mask_same : (ports : List SubnetPort) (routes : RoutesState) (base group place number : ℕ)
    → is_in_mask routes (goes_to (member_lids base ports)) place group number ≡ is_in_mask routes (receives_all ports base group) place group number
unfolding is_in_mask
mask_same ports routes base group place number =
    λ i. list_any (λ lid. goes_to_all ports base group lid i && is_hop_to routes place number lid) (range_with_len 1 (length routes.lids))

-- ---- the bits
module _ (configuration : ConfigurationState) (routes : RoutesState) (held : GroupMasks) (are : AreGroupMasks configuration routes held) where
  held_is : (number : ℕ) (heading : Heading) (guid port : ℕ) → slice_get configuration.partitions number ≡ Some heading → port < 48
      → mask_held held number heading guid port ≡ mask_by configuration.ports routes number heading guid port
  held_is number heading guid port there low =
      ap (λ (small : Bool). small && (bit_at (mask_of held number guid) port == 1)) (lt-ltb port 64 (omega (arith, low)))
      ∙ ap (λ (o : Option ℕ). bit_at (option_map_or (λ place. get_or (get_or held.masks.items number []) place 0) o 0) port == 1)
      (ap (position (λ (one : ℕ). guid == one)) are.guids ∙ place_by_guid guid routes.graph.switches)
      ∙ by (place_of routes.graph.switches guid) refl
    where
      by : (o : Option ℕ) → place_of routes.graph.switches guid ≡ o
          → (bit_at (option_map_or (λ place. get_or (get_or held.masks.items number []) place 0) o 0) port == 1)
          ≡ option_map_or (λ place. is_in_mask routes (receives_all configuration.ports heading.base (first_mlid number)) place (first_mlid number) port) o false
      by None at = no_bits port
      by (Some place) at =
          let masks = zip_at (λ heading masks. ArePortMasks routes (member_lids heading.base configuration.ports) masks) configuration.partitions held.masks.items number heading []
          are.masks there in
          let one = position_at (λ (switch : GraphSwitch). switch.guid == guid) routes.graph.switches place at in
          let within = slice_get_within routes.graph.switches place one.0 one.1 in
          let few = are.graph.few_switches in
          masks place (first_mlid number) (omega (arith, within, few)) port low ∙ mask_same configuration.ports routes heading.base (first_mlid number) place port

pub changes_held : (configuration : ConfigurationState) (routes others : RoutesState) (before after : GroupMasks) → AreGroupMasks configuration routes before
    → AreGroupMasks configuration others after
    → mask_changes configuration (mask_held before) (mask_held after)
    ≡ mask_changes configuration (mask_by configuration.ports routes) (mask_by configuration.ports others)
changes_held configuration routes others before after are are_too =
    all_same configuration (mask_held before) (mask_held after) (mask_by configuration.ports routes) (mask_by configuration.ports others)
    (held_is configuration routes before are) (held_is configuration others after are_too)
