-- Links that go and come.
use Rattle.std.proofs.Common.{ℕ, ◌≡◌, ◌==◌, ◌&&◌, nat_le, not, Bool, true, false, slice_get, Option, Some, None, List, drop, arith, refl}
use Rattle.std.proofs.lemmas.Bool.{and_parts, and_from}
use Rattle.std.proofs.lemmas.List.Elements.{All-set}
use Rattle.std.specs.List.{All}
use Rattle.agent_rules.specs.Good.{IsGoodInfo, is_regular}
use Rattle.agent_rules.specs.PortSetting.{is_down}
use Rattle.attr_tables.specs.PortInfo.{port_info}
use Rattle.attr_tables.specs.declared.port_info.PortInfo.{PortInfo}
use Rattle.fabric_parts.specs.declared.lid.TheConstants.{LAST_UNICAST_LID}
use Rattle.mad_layout.specs.Layout.{Fits}
use Rattle.mad_layout.proofs.LayoutLemmas.{fits_both, fits_drop, fits_take}
use Rattle.step_results.proofs.ElementLemmas.{get_other, get_written}
use Rattle.step_results.proofs.ListLemmas.{all_have}
use Rattle.switch_model.specs.Good.{IsGoodPort}
use Rattle.switch_model.specs.Laws.{LinksKeepGood, LinksShow}
use Rattle.switch_model.specs.Links.{linked, port_linked, ports_linked}
use Rattle.switch_model.specs.declared.switch_port.SwitchPort.{SwitchPort}

pub linked_fits : (up : Bool) (info : PortInfo) → Fits (port_info info) → Fits (port_info (linked up info))
linked_fits true info fits =
    let old = port_info info in
    let new = port_info (linked true info) in
    fits_both 12 new (fits_take 12 old fits) (fits_both 2 (drop 12 new) (omega arith, (omega arith, tt)) (fits_drop 14 old fits))
linked_fits false info fits =
    let old = port_info info in
    let new = port_info (linked false info) in
    fits_both 12 new (fits_take 12 old fits) (fits_both 2 (drop 12 new) (omega arith, (omega arith, tt)) (fits_drop 14 old fits))

linked_good : (up : Bool) (info : PortInfo) → IsGoodInfo info → IsGoodInfo (linked up info)
linked_good up info good = record { fits = linked_fits up info good.fits; regular = by up }
  where
    -- whatever the state, if it is one from Down to Active
    regular : (state : Bool) → state ≡ true → ((info.lmc == 0) && ((nat_le 1 info.neighbor_mtu && nat_le info.neighbor_mtu 4)
        && (nat_le info.lid LAST_UNICAST_LID && state))) ≡ true
    regular state is =
        let one = and_parts (info.lmc == 0) _ good.regular in
        let mtu = and_parts (nat_le 1 info.neighbor_mtu && nat_le info.neighbor_mtu 4) _ one.1 in
        let lid = and_parts (nat_le info.lid LAST_UNICAST_LID) _ mtu.1 in
        and_from (info.lmc == 0) _ one.0
        (and_from (nat_le 1 info.neighbor_mtu && nat_le info.neighbor_mtu 4) _ mtu.0 (and_from (nat_le info.lid LAST_UNICAST_LID) state lid.0 is))

    by : (b : Bool) → is_regular (linked b info) ≡ true
    by true = regular true refl
    by false = regular true refl

ports_good : (number : ℕ) (up : Bool) (ports : List SwitchPort) → All IsGoodPort ports → All IsGoodPort (ports_linked number up ports)
ports_good number up ports good = by (slice_get ports number) refl
  where
    by : (found : Option SwitchPort) → slice_get ports number ≡ found → All IsGoodPort (ports_linked number up ports)
    by None is = rw is good
    by (Some port) is =
        let own = all_have IsGoodPort ports number port good is in
        rw is (All-set IsGoodPort ports number (port_linked up port) (record { info = linked_good up port.info own.info; keys = own.keys }) good)

pub links_keep_good : LinksKeepGood
links_keep_good lids multicast_lids number up held good = record {
  description = good.description;
  info = good.info;
  ports = ports_good number up held.ports good.ports;
  linear = good.linear;
  positions = good.positions;
  masks = good.masks;
}

pub links_show : LinksShow
links_show number up held port there = record {
  there = rw there (get_written held.ports number (port_linked up port) port there);
  down = by up;
  others = λ other apart. rw there (get_other held.ports number other (port_linked up port) apart);
}
  where
    by : (b : Bool) → is_down (linked b port.info) ≡ not b
    by true = refl
    by false = refl
