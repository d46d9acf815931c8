-- A fabric that is served is one, and is served again where the MLID ranges of all partitions that change are pushed.
use Rattle.std.proofs.Common.{ℕ, ◌≡◌, ◌∙◌, ap, subst, sym, Bool, true, nat_lt, List}
use Rattle.std.specs.List.{list_all}
use Rattle.pkey_rules.specs.declared.key_table.TheConstants.{PARTITIONS}
use Rattle.sa_store.specs.Registry.{RegistryState, changed_between}
use Rattle.sa_model.specs.Groups.{PartitionGroups}
use Rattle.sa_replies.specs.State.{IsRememberedOf}
use Rattle.fabric_wire.specs.Recabling.{cabling_of}
use Rattle.smp_wire.specs.FabricState.{FabricState}
use Rattle.subnet_fabric.proofs.StandingListedLemmas.{one_fabric_stands}
use Rattle.subnet_fabric.specs.Laws.{all_keys}
use Rattle.subnet_fabric.specs.Standing.{IsStanding}
use Rattle.subnet_model.specs.Configuration.{ConfigurationState}
use Rattle.subnet_model.specs.declared.subnet_port.SubnetPort.{SubnetPort}
use Rattle.subnet_fabric.specs.Ports.{ports_of}
use Rattle.table_push.specs.BroughtUp.{IsBroughtUp}
use Rattle.table_push.specs.Masks.{all_masks_pushed}
use Rattle.topo_file.specs.Topology.{TopologyState}
use Rattle.updn_routes.specs.Subnet.{RoutesState}
use Rattle.subnet_core.proofs.GroupLemmas.{few_numbers}
use Rattle.subnet_core.proofs.ListedLemmas.{served_is_up}
use Rattle.subnet_core.proofs.MlidRangeLemmas.{all_alike, ranges_make}
use Rattle.subnet_core.proofs.AdministeredLemmas.{reported_are_low, reported_is_all}
use Rattle.subnet_core.proofs.ReceiveLemmas.{in_its_range}
use Rattle.subnet_core.specs.AdministrationLaws.{OneFabricIsServed}
use Rattle.subnet_core.specs.Served.{IsServed, Serves, receives_at}
use Rattle.subnet_core.specs.MlidRanges.{CanBePushed, ranges_pushed, where_in}

pub one_fabric_is_served : OneFabricIsServed
one_fabric_is_served plan ports partitions routes others one other sound first second same ruled =
    let bases = sym (ap cabling_of first.masks) ∙ same ∙ ap cabling_of second.masks in
    first.masks
    ∙ one_fabric_stands plan (all_keys ports) routes others (receives_at ports partitions) first.base second.base sound first.stands second.stands bases ruled
    ∙ sym second.masks

-- ---- it is up, so SMPs find their way in it
pub still_up : (plan : TopologyState) (routes : RoutesState) (registry : RegistryState) (fabric : FabricState) (serves : Serves plan routes registry fabric)
    → IsBroughtUp routes (all_keys (ports_of serves.partitions plan)) fabric
still_up plan routes registry fabric serves =
    let groups = registry.administration.remembered.partitions in
    let served = subst (λ (configuration : ConfigurationState). IsServed plan configuration.ports groups routes fabric) serves.configured serves.served in
    served_is_up plan serves.partitions groups routes fabric serves.sound serves.whole served

pub can_be_pushed : (plan : TopologyState) (routes : RoutesState) (registry : RegistryState) (fabric : FabricState) → Serves plan routes registry fabric
    → CanBePushed routes fabric
can_be_pushed plan routes registry fabric serves =
    let is = still_up plan routes registry fabric serves in
    record { graph = is.graph; good = is.good }

-- ---- and the numbers of its partitions are few
pub numbers_are_few : (plan : TopologyState) (routes : RoutesState) (registry next : RegistryState) (fabric : FabricState) → Serves plan routes registry fabric
    → IsRememberedOf registry.configuration registry.administration.remembered
    → list_all (λ number. nat_lt number PARTITIONS) (changed_between registry next) ≡ true
numbers_are_few plan routes registry next fabric serves remembered =
    reported_are_low PARTITIONS registry.configuration.ports registry.administration.remembered.partitions next.administration.remembered.partitions
    (few_numbers serves.partitions plan registry.administration.remembered serves.whole
    (subst (λ (configuration : ConfigurationState). IsRememberedOf configuration registry.administration.remembered) serves.configured remembered))

-- ---- once the MLID ranges that change are pushed, it is served as the registry is then
module _ (plan : TopologyState) (routes : RoutesState) (registry next : RegistryState) (fabric : FabricState) (serves : Serves plan routes registry fabric)
    (was : IsRememberedOf registry.configuration registry.administration.remembered)
    (is : IsRememberedOf next.configuration next.administration.remembered)
    (same : next.configuration ≡ registry.configuration) where
  abbrev ports : List SubnetPort
  ports = registry.configuration.ports

  abbrev before : List PartitionGroups
  before = registry.administration.remembered.partitions

  abbrev after : List PartitionGroups
  after = next.administration.remembered.partitions

  abbrev now : ℕ → ℕ → Bool
  now = receives_at next.configuration.ports after

  abbrev numbers : List ℕ
  numbers = changed_between registry next

  still : IsRememberedOf registry.configuration next.administration.remembered
  still = subst (λ (configuration : ConfigurationState). IsRememberedOf configuration next.administration.remembered) same is

  pub reported : (mlid lid : ℕ) → where_in numbers now (receives_at ports before) mlid lid ≡ now mlid lid
  reported mlid lid =
      subst (λ (some : List SubnetPort). where_in numbers (receives_at some after) (receives_at ports before) mlid lid ≡ receives_at some after mlid lid)
      (sym (ap (λ (configuration : ConfigurationState). configuration.ports) same))
      (reported_is_all ports before after (still.partitions ∙ sym was.partitions) was.groups still.groups mlid lid)

  masked : ranges_pushed routes next numbers fabric ≡ all_masks_pushed routes now serves.served.base
  masked =
      ap (ranges_pushed routes next numbers) serves.served.masks
      ∙ ranges_make routes next now serves.served.base (λ number mlid lid here. in_its_range next.configuration.ports mlid lid number after is.groups here)
      numbers (receives_at ports before)
      ∙ all_alike routes (where_in numbers now (receives_at ports before)) now serves.served.base reported

  pub serves_again : (left : FabricState) → left ≡ ranges_pushed routes next numbers fabric → Serves plan routes next left
  serves_again left pushed = record {
    sound = serves.sound;
    partitions = serves.partitions;
    whole = serves.whole;
    configured = same ∙ serves.configured;
    served = record {
      base = serves.served.base;
      stands = subst (λ (configuration : ConfigurationState). IsStanding plan (all_keys configuration.ports) routes serves.served.base) (sym same) serves.served.stands;
      masks = pushed ∙ masked;
    };
  }
