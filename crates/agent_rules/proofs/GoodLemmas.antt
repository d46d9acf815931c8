-- What a port or a table holds after a Set is good where it was.
use Rattle.std.proofs.Common.{◌≡◌, ℕ, ◌*◌, ◌+◌, ◌^◌, ◌<◌, ◌==◌, ◌∙◌, Bool, true, false, ◌&&◌, ◌||◌, nat_le, nat_lt, if◌then◌else◌, List, [], ◌∷◌}
use Rattle.std.proofs.Common.{take, drop, map, Ok, refl, subst, ap, arith}
use Rattle.std.specs.List.{list_all, range_with_len}
use Rattle.std.proofs.lemmas.Bool.{and_from, and_parts, lt-ltb}
use Rattle.std.proofs.lemmas.Bool.Decides.{nat_tests}
use Rattle.std.proofs.lemmas.List.Folds.{list_all-map}
use Rattle.fabric_parts.specs.declared.lid.TheConstants.{LAST_UNICAST_LID}
use Rattle.mad_layout.specs.Bits.{field}
use Rattle.mad_layout.specs.declared.status.MadStatus.TheVariants.{InvalidField}
use Rattle.mad_layout.specs.Layout.{Fits}
use Rattle.mad_layout.proofs.LayoutLemmas.{field_narrow, fits_both}
use Rattle.fabric_parts.specs.declared.node_type.NodeType.{NodeType}
use Rattle.fabric_parts.specs.declared.node_type.NodeType.TheVariants.{ChannelAdapter, Switch}
use Rattle.attr_tables.specs.PortInfo.{port_info}
use Rattle.agent_rules.specs.declared.link.PortLink.{PortLink}
use Rattle.agent_rules.specs.declared.link.PortLink.TheVariants.{Cabled, Uncabled, Internal}
use Rattle.agent_rules.specs.PowerUp.{guid_cap_of, keys_at_power_up, physical_state_at_power_up, port_info_at_power_up, state_at_power_up}
use Rattle.attr_tables.specs.declared.port_info.PortInfo.{PortInfo}
use Rattle.attr_tables.specs.Blocks.{has_block, with_block}
use Rattle.step_results.proofs.ListLemmas.{all_cut, all_joined}
use Rattle.agent_rules.specs.Agent.{set_word_block}
use Rattle.agent_rules.specs.Carried.{ports_in, words_in}
use Rattle.agent_rules.specs.Good.{IsGoodInfo, IsKeyTable, IsTable, is_regular}
use Rattle.agent_rules.specs.Laws.{PortsTakeBack, SettingsKeepGood}
use Rattle.agent_rules.specs.PortSetting.{IsNarrow, is_valid, may_follow, port_setting, setting_asked, taken_over}
use Rattle.agent_rules.specs.declared.port_setting.PortSetting.{PortSetting}
use Rattle.agent_rules.proofs.GuardLemmas.{passed, taken_ok}
use Rattle.agent_rules.proofs.PortSettingLemmas.{taken_fits}
use Rattle.agent_rules.proofs.TableLemmas.{block_differs, length-ports_in, words_differ}

-- ---- PortInfo
pub read_narrow : (attribute : List ℕ) → IsNarrow (port_setting attribute)
unfolding port_setting
read_narrow attribute = record {
  gid_prefix = field_narrow attribute 64 64;
  lid = field_narrow attribute 128 16;
  master_sm_lid = field_narrow attribute 144 16;
  port_state = field_narrow attribute 260 4;
  lmc = field_narrow attribute 277 3;
  neighbor_mtu = field_narrow attribute 288 4;
  master_sm_sl = field_narrow attribute 292 4;
}

-- the states of a port, before and after
state_regular : (now next : ℕ) → nat_le 1 now && nat_le now 4 ≡ true → ((next == 0) || may_follow now next) ≡ true
    → nat_le 1 (if next == 0 then now else next) && nat_le (if next == 0 then now else next) 4 ≡ true
state_regular now next h follows = grind (arith, nat_tests, h, follows)

regular_taken : (enforces : Bool) (info : PortInfo) (wanted : PortSetting) → is_regular info ≡ true → is_valid info wanted ≡ true
    → is_regular (taken_over enforces info wanted) ≡ true
unfolding is_valid taken_over
regular_taken enforces info wanted was valid =
    let a = and_parts (info.lmc == 0) _ was in
    let b = and_parts (nat_le 1 info.neighbor_mtu && nat_le info.neighbor_mtu 4) _ a.1 in
    let c = and_parts (nat_le info.lid LAST_UNICAST_LID) _ b.1 in
    let d = and_parts (wanted.lmc == 0) _ valid in
    let e = and_parts (nat_le 1 wanted.neighbor_mtu && nat_le wanted.neighbor_mtu 4) _ d.1 in
    let f = and_parts (nat_le wanted.lid LAST_UNICAST_LID) _ e.1 in
    and_from (info.lmc == 0) _ a.0
    (and_from (nat_le 1 wanted.neighbor_mtu && nat_le wanted.neighbor_mtu 4) _ e.0
    (and_from (nat_le wanted.lid LAST_UNICAST_LID) _ f.0 (state_regular info.port_state wanted.port_state c.1 f.1)))

pub settings_keep_good : SettingsKeepGood
settings_keep_good enforces info next attribute good h =
    let wanted = port_setting attribute in
    let t = taken_ok (is_valid info wanted) (taken_over enforces info wanted) next InvalidField h in
    subst IsGoodInfo t.1 (record {
      fits = taken_fits enforces info wanted good.fits (read_narrow attribute);
      regular = regular_taken enforces info wanted good.regular t.0;
    })

same_taken : (enforces : Bool) (info : PortInfo) → taken_over enforces info (record (setting_asked info) { port_state = 0 }) ≡ info
unfolding taken_over
same_taken true info = refl
same_taken false info = refl

pub ports_take_back : PortsTakeBack
unfolding is_valid
ports_take_back enforces info good =
    let wanted : PortSetting = record (setting_asked info) { port_state = 0 } in
    let a = and_parts (info.lmc == 0) _ good.regular in
    let b = and_parts (nat_le 1 info.neighbor_mtu && nat_le info.neighbor_mtu 4) _ a.1 in
    let c = and_parts (nat_le info.lid LAST_UNICAST_LID) _ b.1 in
    let valid : is_valid info wanted ≡ true = and_from (info.lmc == 0) _ a.0
    (and_from (nat_le 1 info.neighbor_mtu && nat_le info.neighbor_mtu 4) _ b.0
    (and_from (nat_le info.lid LAST_UNICAST_LID) _ c.0 refl)) in
    passed (is_valid info wanted) (Ok (taken_over enforces info wanted)) InvalidField valid ∙ ap (λ (one : PortInfo). Ok one) (same_taken enforces info)

-- ---- PortInfo at power-up
state_small : (link : PortLink) → state_at_power_up link < 2 ^ 4
state_small Cabled = omega arith
state_small Uncabled = omega arith
state_small Internal = omega arith

physical_small : (link : PortLink) → physical_state_at_power_up link < 2 ^ 4
physical_small Cabled = omega arith
physical_small Uncabled = omega arith
physical_small Internal = omega arith

guids_small : (node_type : NodeType) → guid_cap_of node_type < 2 ^ 8
guids_small ChannelAdapter = omega arith
guids_small Switch = omega arith

new_fits : (node_type : NodeType) (number : ℕ) (link : PortLink) → number < 256 → Fits (port_info (port_info_at_power_up node_type number link))
new_fits node_type number link small =
    let new = port_info (port_info_at_power_up node_type number link) in
    fits_both 8 new (omega arith, (omega arith, (omega arith, (omega arith, (omega arith, (omega arith, (omega arith, (small, tt))))))))
    (fits_both 8 (drop 8 new) (omega arith, (omega arith, (omega arith, (omega arith, (state_small link, (physical_small link, (omega arith, (omega arith, tt))))))))
    (fits_both 8 (drop 16 new) (omega arith, (omega arith, (omega arith, (omega arith, (omega arith, (omega arith, (omega arith, (omega arith, tt))))))))
    (fits_both 8 (drop 24 new) (omega arith, (omega arith, (omega arith, (omega arith, (omega arith, (omega arith, (omega arith, (omega arith, tt))))))))
    (fits_both 8 (drop 32 new) (omega arith, (omega arith, (omega arith, (omega arith, (omega arith, (omega arith, (guids_small node_type, (omega arith, tt))))))))
    (omega arith, (omega arith, (omega arith, (omega arith, (omega arith, tt)))))))))

new_regular : (node_type : NodeType) (number : ℕ) (link : PortLink) → is_regular (port_info_at_power_up node_type number link) ≡ true
new_regular node_type number Cabled = refl
new_regular node_type number Uncabled = refl
new_regular node_type number Internal = refl

pub new_info_good : (node_type : NodeType) (number : ℕ) (link : PortLink) → number < 256 → IsGoodInfo (port_info_at_power_up node_type number link)
new_info_good node_type number link small =
    record { fits = new_fits node_type number link small; regular = new_regular node_type number link }

pub new_keys_good : IsKeyTable keys_at_power_up
new_keys_good = record { count = refl; below = refl }

-- ---- tables
field_below : (bytes : List ℕ) (off len limit : ℕ) → limit ≡ 2 ^ len → nat_lt (field bytes off len) limit ≡ true
field_below bytes off len limit is = lt-ltb _ limit (rw is (field_narrow bytes off len))

fields_below : (bytes ks : List ℕ) (len limit : ℕ) → limit ≡ 2 ^ len → list_all (λ k. nat_lt (field bytes (len * k) len) limit) ks ≡ true
fields_below bytes [] len limit is = refl
fields_below bytes (k ∷ ks) len limit is =
    and_from (nat_lt (field bytes (len * k) len) limit) _ (field_below bytes (len * k) len limit is) (fields_below bytes ks len limit is)

entries_below : (bytes : List ℕ) (len limit count : ℕ) → limit ≡ 2 ^ len
    → list_all (λ entry. nat_lt entry limit) (map (λ k. field bytes (len * k) len) (range_with_len 0 count)) ≡ true
entries_below bytes len limit count is =
    list_all-map (λ entry. nat_lt entry limit) (λ k. field bytes (len * k) len) (range_with_len 0 count) ∙ fields_below bytes (range_with_len 0 count) len limit is

pub words_below : (attribute : List ℕ) → list_all (λ word. nat_lt word 65536) (words_in attribute) ≡ true
unfolding words_in
words_below attribute = entries_below attribute 16 65536 32 refl

pub ports_below : (attribute : List ℕ) → list_all (λ port. nat_lt port 256) (ports_in attribute) ≡ true
unfolding ports_in
ports_below attribute = entries_below attribute 8 256 64 refl

block_below : (size block limit : ℕ) (entries table : List ℕ) → list_all (λ entry. nat_lt entry limit) entries ≡ true
    → list_all (λ entry. nat_lt entry limit) table ≡ true → list_all (λ entry. nat_lt entry limit) (with_block size block entries table) ≡ true
unfolding with_block
block_below size block limit entries table new old =
    let p : ℕ → Bool = λ entry. nat_lt entry limit in
    all_joined p (take (size * block) table) _ (all_cut p (size * block) table old).0
    (all_joined p entries _ new (all_cut p (size * block + size) table old).1)

pub words_keep : (entries block : ℕ) (attribute table next : List ℕ) → IsTable entries 65536 table
    → set_word_block block attribute table ≡ Ok next → IsTable entries 65536 next
words_keep entries block attribute table next is h =
    let t = taken_ok (has_block 32 block table) (with_block 32 block (words_in attribute) table) next InvalidField h in
    record {
      count = (words_differ block attribute table next h).same_length ∙ is.count;
      below = subst (λ (one : List ℕ). list_all (λ entry. nat_lt entry 65536) one ≡ true) t.1
          (block_below 32 block 65536 (words_in attribute) table (words_below attribute) is.below);
    }

pub ports_keep : (entries block : ℕ) (attribute table : List ℕ) → IsTable entries 256 table → has_block 64 block table ≡ true
    → IsTable entries 256 (with_block 64 block (ports_in attribute) table)
ports_keep entries block attribute table is there = record {
  count = (block_differs 64 block (ports_in attribute) table (omega arith) (length-ports_in attribute) there).same_length ∙ is.count;
  below = block_below 64 block 256 (ports_in attribute) table (ports_below attribute) is.below;
}
