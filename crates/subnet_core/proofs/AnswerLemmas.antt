-- Requests over the fabric of an inventory are answered as its list of ports says.
use Rattle.std.proofs.Common.{ℕ, zero, suc, ◌+◌, ◌≡◌, ◌≤◌, ◌<◌, ◌==◌, ◌∙◌, ap, refl, sym, subst, true, false, List, [], ◌∷◌, length, map, slice_get, Option, Some, None, arith}
use Rattle.std.specs.List.{range_with_len}
use Rattle.std.proofs.lemmas.Bool.Decides.{nat_tests}
use Rattle.std.proofs.lemmas.Option.{none-some, same_Some}
use Rattle.data_packet.specs.declared.packet.Packet.{Packet}
use Rattle.fabric_parts.specs.Lid.{is_reserved}
use Rattle.smp_wire.specs.Deliveries.{DeliveryState}
use Rattle.partition_file.proofs.MemberLemmas.{sound_headings}
use Rattle.pkey_rules.specs.KeyTable.{holds}
use Rattle.sa_answer.specs.Answering.{Answers, answer_from, answer_to_port}
use Rattle.sa_store.specs.Registry.{RegistryState}
use Rattle.subnet_core.proofs.ListedLemmas.{a_served_fabric_is_as_listed}
use Rattle.subnet_core.proofs.StartLemmas.{starts_are_served}
use Rattle.subnet_core.specs.Served.{IsServed, Serves}
use Rattle.sa_model.specs.Delivery.{is_receiver_of}
use Rattle.sa_model.specs.Groups.{start_of}
use Rattle.sa_replies.proofs.OpenTableLemmas.{answers_keep_states, starts_are_states}
use Rattle.sa_replies.specs.Answer.{Administration, Answered, answer}
use Rattle.sa_replies.specs.State.{IsStateOf, at_start}
use Rattle.smp_wire.specs.FabricState.{FabricState}
use Rattle.subnet_core.proofs.BringUpLemmas.{lids_in_order}
use Rattle.subnet_core.proofs.SenderLemmas.{manager_is_listed}
use Rattle.subnet_core.specs.Answering.{AnswersRequests, AnswersUnder}
use Rattle.subnet_core.specs.BringUp.{IsUp, Stands}
use Rattle.subnet_core.specs.Inventory.{IsInventoried, InventoryState}
use Rattle.subnet_core.specs.declared.answering.Answer.{Answer}
use Rattle.subnet_fabric.specs.BringUp.{BroughtUpState, IsBroughtUpBy}
use Rattle.subnet_fabric.specs.Laws.{all_keys}
use Rattle.subnet_model.proofs.IsolationLemmas.{found_guid}
use Rattle.subnet_model.specs.Configuration.{ConfigurationState}
use Rattle.subnet_model.specs.Configured.{IsConfigured}
use Rattle.subnet_model.specs.Delivery.{is_for_sa, manager_key, port_with_guid, reaches_joined}
use Rattle.subnet_model.specs.Report.{packet_of, received_by, reply_to}
use Rattle.subnet_model.specs.declared.command.SendCommand.{SendCommand}
use Rattle.subnet_model.specs.declared.event.Outcome.TheVariants.{Received}
use Rattle.subnet_model.specs.declared.event.PortEvent.{PortEvent}
use Rattle.subnet_model.specs.declared.subnet_port.SubnetPort.{SubnetPort}
use Rattle.subnet_fabric.proofs.ConfiguredLemmas.{is_configured}
use Rattle.subnet_fabric.specs.Ports.{configuration_of, ports_of}
use Rattle.subnet_fabric.proofs.ListLemmas.{found_among}
use Rattle.subnet_fabric.proofs.ReplyLemmas.{requests_come_to_the_manager}
use Rattle.subnet_fabric.specs.SendLaws.{IsSender, reported}
use Rattle.subnet_fabric.specs.OfFabric.{IsFabricOf}
use Rattle.subnet_fabric.specs.Replies.{IsRequestOf, RepliesAreAsListed, received_under}
use Rattle.subnet_fabric.specs.Sends.{event_of}
use Rattle.topo_file.specs.Topology.{TopologyState}
use Rattle.updn_routes.specs.Subnet.{RoutesState}

-- ---- inventories
pub inventory_is_configured : (inventory : InventoryState) → IsInventoried inventory → IsConfigured inventory.configuration
inventory_is_configured inventory is =
    subst IsConfigured (sym is.listed) (is_configured is.partitions inventory.plan is.topology (sound_headings is.partitions is.sound))

-- ---- what stands
pub serves : (inventory : InventoryState) (routes : RoutesState) (registry : RegistryState) (fabric : FabricState) → Stands inventory routes registry fabric
    → Serves inventory.plan routes registry fabric
serves inventory routes registry fabric stands = record {
  sound = stands.inventoried.topology;
  partitions = stands.inventoried.partitions;
  whole = stands.inventoried.sound;
  configured = stands.configured ∙ stands.inventoried.listed;
  served = subst (λ (configuration : ConfigurationState). IsServed inventory.plan configuration.ports registry.administration.remembered.partitions routes fabric)
      (sym stands.configured) stands.served;
}

pub stands_as_listed : (inventory : InventoryState) (routes : RoutesState) (registry : RegistryState) (fabric : FabricState) → Stands inventory routes registry fabric
    → IsFabricOf inventory.configuration.ports (is_receiver_of registry.administration.remembered.partitions) fabric
stands_as_listed inventory routes registry fabric stands =
    let is = stands.inventoried in
    let state : IsStateOf (configuration_of is.partitions inventory.plan) registry.administration =
    subst (λ (configuration : ConfigurationState). IsStateOf configuration registry.administration) is.listed stands.state in
    let served : IsServed inventory.plan (ports_of is.partitions inventory.plan) registry.administration.remembered.partitions routes fabric =
    subst (λ (configuration : ConfigurationState). IsServed inventory.plan configuration.ports registry.administration.remembered.partitions routes fabric)
    is.listed stands.served in
    subst (λ (configuration : ConfigurationState). IsFabricOf configuration.ports (is_receiver_of registry.administration.remembered.partitions) fabric)
    (sym is.listed)
    (a_served_fabric_is_as_listed inventory.plan is.partitions registry.administration routes fabric is.topology is.sound state served)

-- ---- one request
module _ (inventory : InventoryState) (routes : RoutesState) (old : RegistryState) (was : FabricState) (stands : Stands inventory routes old was)
    (port : ℕ) (deliveries : List DeliveryState) where
  abbrev ports : List SubnetPort
  ports = inventory.configuration.ports

  -- what comes to the SM port, of a packet that is for it
  abbrev IsOf : SendCommand → SubnetPort → Type 0
  IsOf command sender =
      map reported deliveries
      ≡ received_by (reaches_joined (is_receiver_of old.administration.remembered.partitions command.dlid) command) ports sender command

  came : (command : SendCommand) (sender : SubnetPort) → IsSender ports command sender → is_for_sa command ≡ true → IsOf command sender
      → map reported deliveries ≡ received_under (manager_key ports command.p_key) (manager_is_listed inventory stands.inventoried).0 (packet_of sender command)
  came command sender sends for_sa of =
      let manager = manager_is_listed inventory stands.inventoried in
      of
      ∙ requests_come_to_the_manager ports (is_receiver_of old.administration.remembered.partitions) was command sender manager.0
      (stands_as_listed inventory routes old was stands) sends for_sa manager.1.first manager.1.adapter

  -- nothing is answered where nothing came, or no key matches
  pub unanswered : (given : Answer) → given.mads.items ≡ [] → given.events.items ≡ [] → (new : RegistryState) → new ≡ old
      → ((command : SendCommand) (sender : SubnetPort) → IsSender ports command sender → is_for_sa command ≡ true → IsOf command sender
      → manager_key ports command.p_key ≡ None)
      → AnswersRequests inventory old port deliveries given new
  unanswered given mads events new same none command sender sends guid for_sa held of =
      rw (none command sender sends for_sa of) (mads, ap (map event_of) events, ap (λ (registry : RegistryState). registry.administration) same)

none_came : (deliveries : List DeliveryState) (key : Option ℕ) (manager : SubnetPort) (packet : Packet) → deliveries ≡ []
    → map reported deliveries ≡ received_under key manager packet → key ≡ None
none_came deliveries None manager packet none came = refl
none_came deliveries (Some key) manager packet none came = absurd (let empty = sym (ap (map reported) none) ∙ came in cc)

-- what came is the packet, at the SM port
record IsThat (manager : SubnetPort) (packet : Packet) (request : DeliveryState) (key : Option ℕ) : Type 0 where
  some : ℕ
  key_is : key ≡ Some some
  at : request.port ≡ manager.guid
  is : request.packet ≡ packet

one_came : (request : DeliveryState) (rest : List DeliveryState) (key : Option ℕ) (manager : SubnetPort) (packet : Packet)
    → map reported (request ∷ rest) ≡ received_under key manager packet → IsThat manager packet request key
one_came request rest None manager packet came = absurd (cc)
one_came request rest (Some key) manager packet came =
    let same : reported request ≡ record { port_guid = manager.guid; what = Received packet } = cc in
    record { some = key; key_is = refl; at = ap (λ (event : PortEvent). event.port_guid) same; is = packets request.packet packet (ap (λ (event : PortEvent). event.what) same) }
  where
    packets : (a b : Packet) → Received a ≡ Received b → a ≡ b
    packets a b same = cc

-- ---- the LID of a listed port is none of the reserved ones
lid_of_place : (first : ℕ) (ports : List SubnetPort) (k : ℕ) (port : SubnetPort) → map (λ port. port.lid) ports ≡ range_with_len first (length ports)
    → slice_get ports k ≡ Some port → (port.lid ≡ first + k) × (k < length ports)
lid_of_place first [] k port lids there = absurd (none-some port there)
lid_of_place first (one ∷ ports) zero port lids there =
    let head : one.lid ≡ first = cc in
    let same = ap (λ (port : SubnetPort). port.lid) (same_Some one port there) in
    (omega (arith, head, same), omega arith)
lid_of_place first (one ∷ ports) (suc k) port lids there =
    let tail : map (λ (port : SubnetPort). port.lid) ports ≡ range_with_len (first + 1) (length ports) = cc in
    let rest = lid_of_place (first + 1) ports k port tail there in
    (omega (arith, rest.0), omega (arith, rest.1))

low : (lid : ℕ) → 1 ≤ lid → lid ≤ 320 → is_reserved lid ≡ false
low lid some few = grind (arith, nat_tests)

unreserved : (inventory : InventoryState) → IsInventoried inventory → (k : ℕ) (port : SubnetPort) → slice_get inventory.configuration.ports k ≡ Some port
    → is_reserved port.lid ≡ false
unreserved inventory is k port there =
    let place = lid_of_place 1 inventory.configuration.ports k port (lids_in_order inventory is) there in
    let few : length inventory.configuration.ports ≤ 320 = (inventory_is_configured inventory is).few in
    low port.lid (omega (arith, place.0)) (omega (arith, place.0, place.1, few))

-- ---- a request that is answered, and whose answers are carried back
module _ (inventory : InventoryState) (routes : RoutesState) (old : RegistryState) (was : FabricState) (stands : Stands inventory routes old was)
    (port : ℕ) (deliveries : List DeliveryState) (request : DeliveryState) (rest : List DeliveryState) (are : deliveries ≡ request ∷ rest) where
  abbrev listed : List SubnetPort
  listed = inventory.configuration.ports

  abbrev Of : SendCommand → SubnetPort → Type 0
  Of command sender =
      map reported deliveries
      ≡ received_by (reaches_joined (is_receiver_of old.administration.remembered.partitions command.dlid) command) listed sender command

  that : (command : SendCommand) (sender : SubnetPort) → IsSender listed command sender → is_for_sa command ≡ true → Of command sender
      → IsThat (manager_is_listed inventory stands.inventoried).0 (packet_of sender command) request (manager_key listed command.p_key)
  that command sender sends for_sa of =
      one_came request rest (manager_key listed command.p_key) (manager_is_listed inventory stands.inventoried).0 (packet_of sender command)
      (sym (ap (map reported) are) ∙ came inventory routes old was stands port deliveries command sender sends for_sa of)

  -- where the key of the packet that came matches none, neither does the command's
  pub no_key : manager_key listed request.packet.p_key ≡ None
      → (command : SendCommand) (sender : SubnetPort) → IsSender listed command sender → is_for_sa command ≡ true → Of command sender
      → manager_key listed command.p_key ≡ None
  no_key none command sender sends for_sa of =
      ap (λ (packet : Packet). manager_key listed packet.p_key) (sym (that command sender sends for_sa of).is) ∙ none

  module _ (key : ℕ) (key_is : manager_key listed request.packet.p_key ≡ Some key) (command : SendCommand) (sender : SubnetPort)
      (sends : IsSender listed command sender) (guid : command.port_guid ≡ port) (for_sa : is_for_sa command ≡ true)
      (held : holds command.p_key sender.keys ≡ true) (of : Of command sender) where
    is_that : IsThat (manager_is_listed inventory stands.inventoried).0 (packet_of sender command) request (manager_key listed command.p_key)
    is_that = that command sender sends for_sa of

    under : manager_key listed command.p_key ≡ Some key
    under = ap (λ (packet : Packet). manager_key listed packet.p_key) (sym is_that.is) ∙ key_is

    is_request : IsRequestOf listed sender request key
    is_request =
        let manager = manager_is_listed inventory stands.inventoried in
        let among = found_among (λ port. port.guid == command.port_guid) listed sender sends.named in
        record {
          manager = manager.0;
          first = manager.1.first;
          named = ap (port_with_guid listed) is_that.at ∙ manager.1.named;
          manager_adapter = manager.1.adapter;
          own_named = ap (port_with_guid listed) (found_guid listed command.port_guid sender sends.named) ∙ sends.named;
          own_adapter = sends.adapter;
          own_lid = unreserved inventory stands.inventoried among.place sender among.there;
          source = ap (λ (packet : Packet). packet.slid) is_that.is;
          held = ap (λ (packet : Packet). holds packet.p_key sender.keys) is_that.is ∙ held;
          key_is = key_is;
        }

    same_answer : answer_to_port old.configuration.ports port request.packet.payload old.administration
        ≡ answer listed sender command.payload old.administration
    same_answer =
        ap (λ (configuration : ConfigurationState). answer_to_port configuration.ports port request.packet.payload old.administration) stands.configured
        ∙ ap (λ (guid : ℕ). answer_to_port listed guid request.packet.payload old.administration) (sym guid)
        ∙ ap (λ (from : Option SubnetPort). answer_from listed from request.packet.payload old.administration) sends.named
        ∙ ap (λ (packet : Packet). answer listed sender packet.payload old.administration) is_that.is

    brings : (mads : List (List ℕ)) (new : RegistryState) (left : FabricState) → Stands inventory routes new left
        → Answers (answer_to_port old.configuration.ports port request.packet.payload old.administration) mads old new
        → (given : Answer) → given.mads.items ≡ mads → RepliesAreAsListed left request key mads given.events.items
        → AnswersUnder (manager_key listed command.p_key) sender (answer listed sender command.payload old.administration) old.administration given new.administration
    brings mads new left after answers given mads_are replies =
        let same = answers.mads_are ∙ ap (λ (answered : Answered). answered.0) same_answer in
        subst (λ (o : Option ℕ). AnswersUnder o sender (answer listed sender command.payload old.administration) old.administration given new.administration)
        (sym under) (
          mads_are ∙ same,
          replies listed (is_receiver_of new.administration.remembered.partitions) sender (stands_as_listed inventory routes new left after) is_request
              ∙ ap (map (reply_to sender key)) same,
          ap (λ (registry : RegistryState). registry.administration) answers.next ∙ ap (λ (answered : Answered). answered.1) same_answer,
        )

  pub is_answered : (key : ℕ) → manager_key listed request.packet.p_key ≡ Some key
      → (mads : List (List ℕ)) (new : RegistryState) (left : FabricState) → Stands inventory routes new left
      → Answers (answer_to_port old.configuration.ports port request.packet.payload old.administration) mads old new
      → (given : Answer) → given.mads.items ≡ mads → RepliesAreAsListed left request key mads given.events.items
      → AnswersRequests inventory old port deliveries given new
  is_answered key key_is mads new left after answers given mads_are replies command sender sends guid for_sa held of =
      brings key key_is command sender sends guid for_sa held of mads new left after answers given mads_are replies

-- ---- what was delivered first
pub first_none : {X : Type 0} (xs : List X) → slice_get xs 0 ≡ None → xs ≡ []
first_none [] none = refl
first_none (x ∷ xs) none = absurd (none-some x (sym none))

pub first_some : {X : Type 0} (xs : List X) (x : X) → slice_get xs 0 ≡ Some x → (rest : List X) × (xs ≡ x ∷ rest)
first_some [] x some = absurd (none-some x some)
first_some (y ∷ xs) x some = (xs, ap (λ z. z ∷ xs) (same_Some y x some))

module _ (inventory : InventoryState) (routes : RoutesState) (old : RegistryState) (was : FabricState) (stands : Stands inventory routes old was)
    (port : ℕ) (deliveries : List DeliveryState) (given : Answer) (mads : given.mads.items ≡ []) (events : given.events.items ≡ []) where
  -- nothing was delivered
  pub nothing_came : deliveries ≡ [] → AnswersRequests inventory old port deliveries given old
  nothing_came none =
      unanswered inventory routes old was stands port deliveries given mads events old refl
      (λ command sender sends for_sa of.
      none_came deliveries (manager_key inventory.configuration.ports command.p_key) (manager_is_listed inventory stands.inventoried).0 (packet_of sender command) none
      (came inventory routes old was stands port deliveries command sender sends for_sa of))

  -- or under a key that matches none
  pub nothing_matches : (request : DeliveryState) (rest : List DeliveryState) → deliveries ≡ request ∷ rest
      → manager_key inventory.configuration.ports request.packet.p_key ≡ None → AnswersRequests inventory old port deliveries given old
  nothing_matches request rest are none =
      unanswered inventory routes old was stands port deliveries given mads events old refl
      (no_key inventory routes old was stands port deliveries request rest are none)

-- what is left stands, too
module _ (inventory : InventoryState) (routes : RoutesState) (old : RegistryState) (was : FabricState) (stands : Stands inventory routes old was) where
  state_after : (port : ℕ) (payload : List ℕ) (own : Option SubnetPort) → port_with_guid inventory.configuration.ports port ≡ own
      → IsStateOf inventory.configuration (answer_from inventory.configuration.ports own payload old.administration).1
  state_after port payload None is = stands.state
  state_after port payload (Some own) is =
      answers_keep_states inventory.configuration own payload old.administration (inventory_is_configured inventory stands.inventoried)
      (ap (port_with_guid inventory.configuration.ports) (found_guid inventory.configuration.ports port own is) ∙ is) stands.state

  pub stands_after : (port : ℕ) (payload : List ℕ) (mads : List (List ℕ)) (new : RegistryState) (left : FabricState)
      → Answers (answer_to_port old.configuration.ports port payload old.administration) mads old new
      → ((plan : TopologyState) → Serves plan routes old was → Serves plan routes new left)
      → Stands inventory routes new left
  stands_after port payload mads new left answers serving =
      let served = serving inventory.plan (serves inventory routes old was stands) in
      let configured : new.configuration ≡ inventory.configuration =
      ap (λ (registry : RegistryState). registry.configuration) answers.next ∙ stands.configured in
      record {
        inventoried = stands.inventoried;
        configured = configured;
        whole = ap (λ (registry : RegistryState). registry.is_broken) answers.next ∙ stands.whole;
        state = subst (λ (state : Administration). IsStateOf inventory.configuration state)
            (sym (ap (λ (registry : RegistryState). registry.administration) answers.next
            ∙ ap (λ (configuration : ConfigurationState). (answer_to_port configuration.ports port payload old.administration).1) stands.configured))
            (state_after port payload (port_with_guid inventory.configuration.ports port) refl);
        served = subst (λ (configuration : ConfigurationState).
            IsServed inventory.plan configuration.ports new.administration.remembered.partitions routes left) configured served.served;
        ruled = stands.ruled;
      }

-- ---- before the first command
pub stands_at_start : (inventory : InventoryState) (up : BroughtUpState) (registry : RegistryState) → IsInventoried inventory → IsUp inventory up
    → registry ≡ record { configuration = inventory.configuration; administration = at_start inventory.configuration; is_broken = false }
    → Stands inventory up.routes registry up.fabric
stands_at_start inventory up registry is by same =
    let configured = ap (λ (registry : RegistryState). registry.configuration) same in
    let administration = ap (λ (registry : RegistryState). registry.administration) same in
    let brought : IsBroughtUpBy inventory.plan (all_keys (ports_of is.partitions inventory.plan)) up.routes up.fabric =
    subst (λ (configuration : ConfigurationState). IsBroughtUpBy inventory.plan (all_keys configuration.ports) up.routes up.fabric) is.listed by.0 in
    record {
      inventoried = is;
      configured = configured;
      whole = ap (λ (registry : RegistryState). registry.is_broken) same;
      state = subst (IsStateOf inventory.configuration) (sym administration) (starts_are_states inventory.configuration (inventory_is_configured inventory is));
      served = subst (λ (state : Administration). IsServed inventory.plan inventory.configuration.ports state.remembered.partitions up.routes up.fabric) (sym administration)
          (subst (λ (configuration : ConfigurationState). IsServed inventory.plan configuration.ports (start_of configuration) up.routes up.fabric) (sym is.listed)
          (starts_are_served inventory.plan is.partitions up.routes up.fabric is.topology is.sound brought));
      ruled = by.1;
    }
