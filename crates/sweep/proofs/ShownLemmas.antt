-- What agents of a good fabric give is what is seen there.
use Rattle.std.proofs.Common.{ℕ, zero, suc, ◌≡◌, ◌∙◌, ◌+◌, ◌-◌, ◌^◌, ◌<◌, ◌≤◌, ◌==◌, ◌&&◌, ap, refl, sym, subst, nat_le, nat_lt, Bool, true, false}
use Rattle.std.proofs.Common.{List, [], ◌∷◌, length, map, flat_map, replicate, get_or, slice_get, Option, Some, None, option_map, Result, Ok, ◌⊎◌}
use Rattle.std.proofs.Common.{inl, inr, arith}
use Rattle.std.specs.List.{list_all, range_with_len}
use Rattle.std.specs.Option.{option_and_then, option_map_or}
use Rattle.std.proofs.lemmas.Bool.{and_parts, leb-true, ltb-true, eqb-true}
use Rattle.std.proofs.lemmas.Bool.Decides.{nat_tests}
use Rattle.std.proofs.lemmas.List.Concat.{flat_map-cons}
use Rattle.std.proofs.lemmas.List.Folds.{list_all-append, list_all-map}
use Rattle.std.proofs.lemmas.List.FromFn.{get_or-range_with_len}
use Rattle.std.proofs.lemmas.Option.{get_or_from_slice_get, same_Some, slice_get_cases, slice_get_within, slice_get-map}
use Rattle.std.proofs.lemmas.Slice.Eq.{bytes_eq-Decides}
use Rattle.step_results.proofs.ListLemmas.{all_there}
use Rattle.mad_layout.specs.Layout.{Fits, Holds}
use Rattle.mad_layout.specs.declared.status.MadStatus.{MadStatus}
use Rattle.mad_layout.proofs.LayoutLemmas.{holds_put_all}
use Rattle.fabric_parts.specs.declared.cable.PortRef.{PortRef}
use Rattle.fabric_parts.specs.declared.node_type.NodeType.{NodeType}
use Rattle.fabric_parts.specs.declared.node_type.NodeType.TheVariants as node_type
use Rattle.fabric_parts.specs.NodeType.{most_ports, node_type_code}
use Rattle.attr_tables.specs.declared.node_info.NodeInfo.{NodeInfo}
use Rattle.attr_tables.specs.NodeInfo.{node_info, node_info_bytes}
use Rattle.attr_tables.specs.declared.smp_attribute.SmpAttribute.TheVariants.{NodeDescription as NameAsked, NodeInfo as NodeInfoAsked}
use Rattle.agent_rules.specs.PowerUp.{node_info_of}
use Rattle.port_model.specs.AdapterState.{AdapterState}
use Rattle.port_model.specs.Agent.{get as adapter_gives}
use Rattle.switch_model.specs.Agent.{get as switch_gives}
use Rattle.switch_model.specs.SwitchState.{SwitchState, num_ports}
use Rattle.smp_wire.specs.declared.node.Node.{Node}
use Rattle.smp_wire.specs.declared.node.Node.TheVariants.{Switch, Adapter}
use Rattle.smp_wire.specs.FabricState.{FabricState, adapter_port, is_port, port_count}
use Rattle.smp_wire.specs.Get.{gives_at, node_gives}
use Rattle.smp_wire.specs.Good.{IsGood, end_port_guids, has_a_right_count, is_guid, is_in_order, is_of, node_guid}
use Rattle.sweep.specs.declared.seen.Seen.{Seen}
use Rattle.sweep.specs.Seen.{name_at, name_in, seen_at, seen_in, seen_of, type_of}

-- ---- NodeInfo that is written is read again
-- what it takes for NodeInfo of a node to be written, and seen
pub record IsShowable (kind : NodeType) (count node port number : ℕ) : Type 0 where
  pub some : 1 ≤ count
  pub few : count ≤ most_ports kind
  pub first : 1 ≤ number
  pub last : number ≤ count
  pub node_fits : node < 2 ^ 64
  pub port_fits : port < 2 ^ 64

most_few : (kind : NodeType) → most_ports kind ≤ 36
most_few node_type.Switch = omega arith
most_few node_type.ChannelAdapter = omega arith

code_fits : (kind : NodeType) → node_type_code kind < 2 ^ 8
code_fits node_type.Switch = omega arith
code_fits node_type.ChannelAdapter = omega arith

narrow : (n : ℕ) → n ≤ 36 → n < 2 ^ 8
narrow n h = omega (arith, h)

info_fits : (kind : NodeType) (count node port number : ℕ) → IsShowable kind count node port number
    → Fits (node_info (node_info_of kind count node port number))
info_fits kind count node port number is =
    let most = most_few kind in
    let few : count ≤ 36 = omega (arith, most, is.few) in
    let last : number ≤ 36 = omega (arith, few, is.last) in (
      omega arith,
      (
        omega arith,
        (
          code_fits kind,
          (narrow count few, (is.node_fits, (is.node_fits, (is.port_fits, (omega arith, (omega arith, (omega arith, (narrow number last, (omega arith, tt))))))))),
        ),
      ),
    )

info_holds : (info : NodeInfo) → Fits (node_info info) → Holds (node_info_bytes info) (node_info info)
unfolding node_info_bytes
info_holds info fits = holds_put_all (replicate 64 0) (node_info info) refl fits

-- the fields that are looked at
pub record AreAlike (read info : NodeInfo) : Type 0 where
  pub kind : read.node_type ≡ info.node_type
  pub count : read.num_ports ≡ info.num_ports
  pub node : read.node_guid ≡ info.node_guid
  pub port : read.port_guid ≡ info.port_guid
  pub number : read.local_port_num ≡ info.local_port_num

alike : (bytes : List ℕ) (read info : NodeInfo) → Holds bytes (node_info read) → Holds bytes (node_info info) → AreAlike read info
alike bytes read info r i =
    record {
      kind = r.1.1.0 ∙ sym i.1.1.0;
      count = r.1.1.1.0 ∙ sym i.1.1.1.0;
      node = r.1.1.1.1.1.0 ∙ sym i.1.1.1.1.1.0;
      port = r.1.1.1.1.1.1.0 ∙ sym i.1.1.1.1.1.1.0;
      number = r.1.1.1.1.1.1.1.1.1.1.0 ∙ sym i.1.1.1.1.1.1.1.1.1.1.0;
    }

code_is : (kind : NodeType) → type_of (node_type_code kind) ≡ Some kind
code_is node_type.Switch = refl
code_is node_type.ChannelAdapter = refl

within : (m n : ℕ) → m ≤ n → nat_le m n ≡ true
within m n h = grind (arith, nat_tests, h)

pub seen_again : (kind : NodeType) (count node port number : ℕ) (read : NodeInfo) → IsShowable kind count node port number
    → Holds (node_info_bytes (node_info_of kind count node port number)) (node_info read)
    → seen_of read ≡ Ok (record { node_type = kind; num_ports = count; node_guid = node; port_guid = port; local_port_num = number })
unfolding seen_of
seen_again kind count node port number read is held =
    let info = node_info_of kind count node port number in
    let same = alike (node_info_bytes info) read info held (info_holds info (info_fits kind count node port number is)) in
    rw (
      same.kind,
      code_is kind,
      same.count,
      same.node,
      same.port,
      same.number,
      within 1 count is.some,
      within count (most_ports kind) is.few,
      within 1 number is.first,
      within number count is.last,
    ) refl

-- ---- what a node of a good fabric gives
from_1 : (n : ℕ) → 1 ≤ n → (n == 0) ≡ false
from_1 n h = grind (arith, nat_tests, h)

guid_fits : (n : ℕ) → is_guid n ≡ true → n < 2 ^ 64
guid_fits n h = ltb-true n (2 ^ 64) (and_parts (nat_lt 0 n) (nat_lt n (2 ^ 64)) h).1

-- given are bytes, which are read as what is seen
pub record Shows (given : Option (Result (List ℕ) MadStatus)) (seen : Option Seen) : Type 0 where
  pub bytes : List ℕ
  pub what : Seen
  pub gives : given ≡ Some (Ok bytes)
  pub is : seen ≡ Some what
  pub reads : (read : NodeInfo) → Holds bytes (node_info read) → seen_of read ≡ Ok what

pub count_within : (n most : ℕ) → nat_le 1 n && nat_le n most ≡ true → (1 ≤ n) × (n ≤ most)
count_within n most h =
    let parts = and_parts (nat_le 1 n) (nat_le n most) h in
    (leb-true 1 n parts.0, leb-true n most parts.1)

switch_shows : (held : SwitchState) (number : ℕ) → has_a_right_count (Switch held) ≡ true → is_guid held.node_guid ≡ true
    → 1 ≤ number → number ≤ num_ports held → Shows (node_gives (Switch held) number NodeInfoAsked 0) (seen_in (Switch held) number)
unfolding switch_gives
switch_shows held number right guid first last =
    let count = count_within (num_ports held) 36 right in
    let showable : IsShowable node_type.Switch (num_ports held) held.node_guid held.node_guid number = record {
      some = count.0;
      few = count.1;
      first = first;
      last = last;
      node_fits = guid_fits held.node_guid guid;
      port_fits = guid_fits held.node_guid guid;
    } in
    record {
      bytes = node_info_bytes (node_info_of node_type.Switch (num_ports held) held.node_guid held.node_guid number);
      what = record { node_type = node_type.Switch; num_ports = num_ports held; node_guid = held.node_guid; port_guid = held.node_guid; local_port_num = number };
      gives = refl;
      is = refl;
      reads = λ read holds. seen_again node_type.Switch (num_ports held) held.node_guid held.node_guid number read showable holds;
    }

-- ---- a port of an adapter, as its adapter's list of ports reports
pub record IsPortOf (ports : List AdapterState) (number : ℕ) (port : AdapterState) : Type 0 where
  pub there : adapter_port ports number ≡ Some port
  pub node : port.node_guid ≡ node_guid (Adapter ports)
  pub count : port.num_ports ≡ length ports
  pub number_is : port.number ≡ number
  pub guid : is_guid port.port_guid ≡ true

numbered : (ports : List AdapterState) (k : ℕ) (port : AdapterState) → slice_get ports k ≡ Some port
    → map (λ (one : AdapterState). one.number) ports ≡ range_with_len 1 (length ports) → port.number ≡ 1 + k
numbered ports k port there same =
    let numbers = map (λ (one : AdapterState). one.number) ports in
    let got : slice_get numbers k ≡ Some port.number = slice_get-map (λ (one : AdapterState). one.number) ports k ∙ ap (option_map (λ (one : AdapterState). one.number)) there in
    sym (get_or_from_slice_get numbers k port.number 0 got) ∙ ap (λ (xs : List ℕ). get_or xs k 0) same
    ∙ get_or-range_with_len 1 (length ports) k 0 (slice_get_within ports k port there)

port_of : (ports : List AdapterState) (number : ℕ) (port : AdapterState) → is_in_order (Adapter ports) ≡ true
    → list_all is_guid (end_port_guids (Adapter ports)) ≡ true → 1 ≤ number → slice_get ports (number - 1) ≡ Some port → IsPortOf ports number port
port_of ports number port order guids first there =
    let k = number - 1 in
    let parts = and_parts (list_all (is_of (node_guid (Adapter ports)) (length ports)) ports) _ order in
    let own = all_there (is_of (node_guid (Adapter ports)) (length ports)) ports k port parts.0 there in
    let both = and_parts (port.node_guid == node_guid (Adapter ports)) (port.num_ports == length ports) own in
    let same = (bytes_eq-Decides (map (λ (one : AdapterState). one.number) ports) (range_with_len 1 (length ports))).0 parts.1 in
    let place : 1 + k ≡ number = omega (arith, first) in
    let guid : slice_get (end_port_guids (Adapter ports)) k ≡ Some port.port_guid = slice_get-map (λ (one : AdapterState). one.port_guid) ports k
    ∙ ap (option_map (λ (one : AdapterState). one.port_guid)) there in
    record {
      there = rw (from_1 number first) there;
      node = eqb-true port.node_guid (node_guid (Adapter ports)) both.0;
      count = eqb-true port.num_ports (length ports) both.1;
      number_is = numbered ports k port there same ∙ place;
      guid = all_there is_guid (end_port_guids (Adapter ports)) k port.port_guid guids guid;
    }

some_port : (ports : List AdapterState) (number : ℕ) → 1 ≤ number → number ≤ length ports
    → (port : AdapterState) × (slice_get ports (number - 1) ≡ Some port)
some_port ports number first last = by (slice_get_cases ports (number - 1)).1
  where
    by : ((x : AdapterState) × (number - 1 < length ports) × (slice_get ports (number - 1) ≡ Some x) × (get_or ports (number - 1) x ≡ x))
        ⊎ ((length ports ≤ number - 1) × (slice_get ports (number - 1) ≡ None))
        → (port : AdapterState) × (slice_get ports (number - 1) ≡ Some port)
    by (inl here) = (here.0, here.2)
    by (inr past) = let far = past.0 in absurd (omega (arith, first, last, far))

info_as : (port : AdapterState) (count node number : ℕ) → port.node_guid ≡ node → port.num_ports ≡ count → port.number ≡ number
    → adapter_gives port NodeInfoAsked 0 ≡ Ok (node_info_bytes (node_info_of node_type.ChannelAdapter count node port.port_guid number))
unfolding adapter_gives
info_as port count node number a b c = rw (sym a, sym b, sym c) refl

adapter_shows : (ports : List AdapterState) (number : ℕ) → has_a_right_count (Adapter ports) ≡ true → is_in_order (Adapter ports) ≡ true
    → is_guid (node_guid (Adapter ports)) ≡ true → list_all is_guid (end_port_guids (Adapter ports)) ≡ true
    → 1 ≤ number → number ≤ length ports → Shows (node_gives (Adapter ports) number NodeInfoAsked 0) (seen_in (Adapter ports) number)
adapter_shows ports number right order guid guids first last =
    let some = some_port ports number first last in
    let port = some.0 in
    let own = port_of ports number port order guids first some.1 in
    let count = count_within (length ports) 8 right in
    let showable : IsShowable node_type.ChannelAdapter (length ports) (node_guid (Adapter ports)) port.port_guid number = record {
      some = count.0;
      few = count.1;
      first = first;
      last = last;
      node_fits = guid_fits (node_guid (Adapter ports)) guid;
      port_fits = guid_fits port.port_guid own.guid;
    } in
    record {
      bytes = node_info_bytes (node_info_of node_type.ChannelAdapter (length ports) (node_guid (Adapter ports)) port.port_guid number);
      what = record { node_type = node_type.ChannelAdapter; num_ports = length ports; node_guid = node_guid (Adapter ports); port_guid = port.port_guid; local_port_num = number };
      gives = rw own.there (ap (λ (r : Result (List ℕ) MadStatus). Some r) (info_as port (length ports) (node_guid (Adapter ports)) number own.node own.count own.number_is));
      is = rw own.there refl;
      reads = λ read holds. seen_again node_type.ChannelAdapter (length ports) (node_guid (Adapter ports)) port.port_guid number read showable holds;
    }

-- ---- and a fabric
all_of_one : {X : Type 0} (p : ℕ → Bool) (f : X → List ℕ) (xs : List X) (k : ℕ) (x : X) → list_all p (flat_map f xs) ≡ true
    → slice_get xs k ≡ Some x → list_all p (f x) ≡ true
all_of_one p f [] k x all there = absurd (cc)
all_of_one p f (y ∷ ys) zero x all there =
    let parts = and_parts (list_all p (f y)) _ (sym (list_all-append p (f y) (flat_map f ys)) ∙ ap (list_all p) (sym (flat_map-cons f y ys)) ∙ all) in
    subst (λ one. list_all p (f one) ≡ true) (same_Some y x there) parts.0
all_of_one p f (y ∷ ys) (suc k) x all there =
    let parts = and_parts (list_all p (f y)) _ (sym (list_all-append p (f y) (flat_map f ys)) ∙ ap (list_all p) (sym (flat_map-cons f y ys)) ∙ all) in
    all_of_one p f ys k x parts.1 there

node_shows : (node : Node) (number : ℕ) → has_a_right_count node ≡ true → is_in_order node ≡ true → is_guid (node_guid node) ≡ true
    → list_all is_guid (end_port_guids node) ≡ true → 1 ≤ number → number ≤ port_count node → Shows (node_gives node number NodeInfoAsked 0) (seen_in node number)
node_shows (Switch held) number right order guid guids first last = switch_shows held number right guid first last
node_shows (Adapter ports) number right order guid guids first last = adapter_shows ports number right order guid guids first last

found_shows : (fabric : FabricState) (at : PortRef) (found : Option Node) → IsGood fabric → slice_get fabric.nodes at.node ≡ found
    → nat_le 1 at.port && nat_le at.port (option_map_or port_count found 0) ≡ true
    → Shows (option_and_then (λ node. node_gives node at.port NodeInfoAsked 0) found) (option_and_then (λ node. seen_in node at.port) found)
found_shows fabric at None good there port = let within = count_within at.port 0 port in absurd (omega (arith, within))
found_shows fabric at (Some node) good there port =
    let within = count_within at.port (port_count node) port in
    let guid : list_all (λ one. is_guid (node_guid one)) fabric.nodes ≡ true = sym (list_all-map is_guid node_guid fabric.nodes) ∙ good.node_guids.each in
    node_shows node at.port (all_there has_a_right_count fabric.nodes at.node node good.counts there)
    (all_there is_in_order fabric.nodes at.node node good.order there)
    (all_there (λ one. is_guid (node_guid one)) fabric.nodes at.node node guid there)
    (all_of_one is_guid end_port_guids fabric.nodes at.node node good.end_guids.each there)
    within.0 within.1

-- at each port of a good fabric the agent gives NodeInfo, and it is read as what is seen there
pub gives_info : (fabric : FabricState) (at : PortRef) → IsGood fabric → is_port fabric.nodes at ≡ true
    → Shows (gives_at fabric at NodeInfoAsked 0) (seen_at fabric at)
gives_info fabric at good port = found_shows fabric at (slice_get fabric.nodes at.node) good refl port

-- ---- names
-- given are the bytes of the name
pub record Names (given : Option (Result (List ℕ) MadStatus)) (name : Option (List ℕ)) : Type 0 where
  pub bytes : List ℕ
  pub gives : given ≡ Some (Ok bytes)
  pub is : name ≡ Some bytes

switch_names : (held : SwitchState) (number : ℕ) → Names (node_gives (Switch held) number NameAsked 0) (name_in (Switch held) number)
unfolding switch_gives
switch_names held number = record { bytes = held.description; gives = refl; is = refl }

name_as : (port : AdapterState) → adapter_gives port NameAsked 0 ≡ Ok port.description
unfolding adapter_gives
name_as port = refl

adapter_names : (ports : List AdapterState) (number : ℕ) → 1 ≤ number → number ≤ length ports
    → Names (node_gives (Adapter ports) number NameAsked 0) (name_in (Adapter ports) number)
adapter_names ports number first last =
    let some = some_port ports number first last in
    let there : adapter_port ports number ≡ Some some.0 = rw (from_1 number first) some.1 in
    record {
      bytes = some.0.description;
      gives = rw there (ap (λ (r : Result (List ℕ) MadStatus). Some r) (name_as some.0));
      is = rw there refl;
    }

node_names : (node : Node) (number : ℕ) → 1 ≤ number → number ≤ port_count node → Names (node_gives node number NameAsked 0) (name_in node number)
node_names (Switch held) number first last = switch_names held number
node_names (Adapter ports) number first last = adapter_names ports number first last

found_names : (at : PortRef) (found : Option Node) → nat_le 1 at.port && nat_le at.port (option_map_or port_count found 0) ≡ true
    → Names (option_and_then (λ node. node_gives node at.port NameAsked 0) found) (option_and_then (λ node. name_in node at.port) found)
found_names at None port = let within = count_within at.port 0 port in absurd (omega (arith, within))
found_names at (Some node) port = let within = count_within at.port (port_count node) port in node_names node at.port within.0 within.1

-- and the name of the node
pub gives_name : (fabric : FabricState) (at : PortRef) → is_port fabric.nodes at ≡ true → Names (gives_at fabric at NameAsked 0) (name_at fabric at)
gives_name fabric at port = found_names at (slice_get fabric.nodes at.node) port
