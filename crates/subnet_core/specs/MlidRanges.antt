-- The MLID ranges of partitions, pushed one after another: the clauses of `src/mlid_ranges.rt`.
use Rattle.std.specs.Prelude.{ℕ, ◌≡◌, ◌==◌, Bool, true, false, not, if◌then◌else◌, List, filter, length, slice_get, Some}
use Rattle.std.specs.List.{fold, list_any}
use Rattle.sa_store.specs.Registry.{RegistryState}
use Rattle.sa_model.specs.Receivers.{receivers_of}
use Rattle.smp_wire.specs.FabricState.{FabricState}
use Rattle.smp_wire.specs.Good.{IsGood}
use Rattle.smp_wire.specs.declared.node.Node.TheVariants.{Switch}
use Rattle.subnet_model.specs.declared.group_receiver.GroupReceiver.{GroupReceiver}
use Rattle.sweep.specs.OfFabric.{IsGraphOf}
use Rattle.switch_model.specs.Multicast.{has_bits}
use Rattle.switch_model.specs.SwitchState.{SwitchState}
use Rattle.table_push.specs.Masks.{all_masks_pushed, is_in_mlid_range, masks_pushed, receives_of}
use Rattle.updn_routes.specs.Subnet.{RoutesState}

-- who receives what is sent to the groups of the partition of a number, as a registry remembers them
abbrev pub range_receives : RegistryState → (number mlid lid : ℕ) → Bool
range_receives registry number =
    receives_of (receivers_of registry.configuration.ports number registry.administration.remembered.partitions)

-- the MLID range of that partition is pushed
abbrev pub range_pushed : RoutesState → RegistryState → FabricState → (number : ℕ) → FabricState
range_pushed routes registry fabric number = masks_pushed routes number (range_receives registry number) fabric

abbrev pub ranges_pushed : RoutesState → RegistryState → (numbers : List ℕ) → FabricState → FabricState
ranges_pushed routes registry numbers fabric = fold (range_pushed routes registry) fabric numbers

-- SMPs find their way in it by the graph of the routes
pub record CanBePushed (routes : RoutesState) (fabric : FabricState) : Type 0 where
  pub graph : IsGraphOf routes.graph fabric
  pub good : IsGood fabric

-- it is that fabric, in which they still do
pub record IsPushed (routes : RoutesState) (wanted fabric : FabricState) : Type 0 where
  pub is : fabric ≡ wanted
  pub stands : CanBePushed routes fabric

-- ---- who received when they were pushed last
-- in the MLID range of a partition those who receive by this test
abbrev pub IsRightIn : (receives : ℕ → ℕ → Bool) → (number : ℕ) → List GroupReceiver → Type 0
IsRightIn receives number receivers =
    (mlid lid : ℕ) → is_in_mlid_range number mlid ≡ true → receives_of receivers mlid lid ≡ receives mlid lid

-- of each partition of which they are kept
abbrev pub AreRight : (receives : ℕ → ℕ → Bool) → List (List GroupReceiver) → Type 0
AreRight receives received =
    (number : ℕ) (receivers : List GroupReceiver) → slice_get received number ≡ Some receivers → IsRightIn receives number receivers

-- and the fabric has the masks of these
pub record IsKept (routes : RoutesState) (base : FabricState) (receives : ℕ → ℕ → Bool) (fabric : FabricState)
    (received : List (List GroupReceiver)) : Type 0 where
  pub masks : fabric ≡ all_masks_pushed routes receives base
  pub right : AreRight receives received

-- a test that agrees with a registry wherever that has partitions
abbrev pub AgreesWith : RegistryState → (ℕ → ℕ → Bool) → Type 0
AgreesWith registry receives =
    (number mlid lid : ℕ) → is_in_mlid_range number mlid ≡ true → range_receives registry number mlid lid ≡ receives mlid lid

-- one test in the MLID ranges of these partitions, and another outside
abbrev pub where_in : (numbers : List ℕ) → (now was : ℕ → ℕ → Bool) → (mlid lid : ℕ) → Bool
where_in numbers now was mlid lid = if list_any (λ number. is_in_mlid_range number mlid) numbers then now mlid lid else was mlid lid

-- ---- after masks of other routes
-- no switch has a bit for a multicast LID that nobody receives
abbrev pub HasNoStrayBits : (receives : ℕ → ℕ → Bool) → FabricState → Type 0
HasNoStrayBits receives fabric =
    (node mlid : ℕ) (held : SwitchState) → slice_get fabric.nodes node ≡ Some (Switch held)
    → ((lid : ℕ) → receives mlid lid ≡ false) → has_bits held.masks mlid ≡ false

-- somebody receives in the partition of that number
abbrev pub is_received : RegistryState → (number : ℕ) → Bool
is_received registry number =
    not (length (receivers_of registry.configuration.ports number registry.administration.remembered.partitions) == 0)

-- of these numbers those
abbrev pub received_in : RegistryState → (numbers : List ℕ) → List ℕ
received_in registry numbers = filter (is_received registry) numbers
