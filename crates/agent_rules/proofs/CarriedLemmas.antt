-- What is read in an attribute that an SMP carries, and that it is what was encoded there.
use Rattle.std.proofs.Common.{◌≡◌, ℕ, ◌*◌, ◌<◌, ◌==◌, Bool, true, false, nat_lt, List, length, get_or, drop, map, refl, sym, subst, ◌∙◌, arith}
use Rattle.std.specs.Int.Digits.{AllBelowBase}
use Rattle.std.specs.List.{range_with_len}
use Rattle.std.proofs.lemmas.Bool.Decides.{nat_tests}
use Rattle.std.proofs.lemmas.Grind.{same_number_lists}
use Rattle.std.proofs.lemmas.List.FromFn.{length-map-range_with_len, get_or-map-range_with_len}
use Rattle.mad_layout.specs.Bits.{bit_of, field}
use Rattle.mad_layout.specs.Layout.{Fits, Holds}
use Rattle.mad_layout.proofs.AlignedLemmas.{byte_is_field}
use Rattle.mad_layout.proofs.LayoutLemmas.{encodes_put_all}
use Rattle.mad_layout.proofs.NumberLemmas.{below_parts}
use Rattle.mad_layout.proofs.WindowLemmas.{cut_at}
use Rattle.attr_tables.specs.Attribute.{IsAttribute}
use Rattle.attr_tables.specs.Blocks.{HoldsEntries, word_bytes}
use Rattle.attr_tables.specs.PortInfo.{port_info, port_info_bytes}
use Rattle.attr_tables.specs.SwitchInfo.{switch_info, switch_info_bytes}
use Rattle.attr_tables.specs.declared.port_info.PortInfo.{PortInfo}
use Rattle.attr_tables.specs.declared.switch_info.SwitchInfo.{SwitchInfo}
use Rattle.attr_tables.proofs.AttributeLemmas.{attributes}
use Rattle.attr_tables.proofs.BlockLemmas.{written_word}
use Rattle.agent_rules.specs.Carried.{linear_fdb_top_in, ports_in, words_in}
use Rattle.agent_rules.specs.Good.{IsTable}
use Rattle.agent_rules.specs.Laws.{EncodedIsRead}
use Rattle.step_results.proofs.ListLemmas.{all_at}
use Rattle.agent_rules.specs.PortSetting.{port_setting, setting_asked}
use Rattle.agent_rules.specs.Request.{data_of}

-- what an SMP carries fills an attribute
pub data_fills : (smp : List ℕ) → length smp ≡ 256 → AllBelowBase 256 smp → IsAttribute (data_of smp)
data_fills smp long below =
    let c = cut_at smp 64 64 (omega (arith, long)) in
    let P : List ℕ → Type 0 = AllBelowBase 256 in
    let rest = (below_parts _ _ (subst P (sym c.whole) below)).1 in
    record { count = c.window; small = (below_parts (data_of smp) (drop 64 (drop 64 smp)) rest).0 }

-- entries that bytes hold are those that are read in them
pub entries_are : (bytes entries : List ℕ) (len count : ℕ) → HoldsEntries bytes len entries → length entries ≡ count
    → entries ≡ map (λ k. field bytes (len * k) len) (range_with_len 0 count)
entries_are bytes entries len count holds long =
    let f : ℕ → ℕ = λ k. field bytes (len * k) len in
    let all = length-map-range_with_len f 0 count in
    same_number_lists entries (map f (range_with_len 0 count)) (long ∙ sym all) (λ k h.
    holds k h ∙ sym (get_or-map-range_with_len f 0 count k k 0 (omega arith) (omega (arith, h, long))))

flag_of : (flag : Bool) (n : ℕ) → bit_of flag ≡ n → flag ≡ (n == 1)
flag_of true n h = rw (← h) refl
flag_of false n h = rw (← h) refl

-- PortInfo that bytes hold asks for what is read in them
pub setting_is : (bytes : List ℕ) (info : PortInfo) → Holds bytes (port_info info) → setting_asked info ≡ port_setting bytes
unfolding port_setting
setting_is bytes info h =
    let rest = h.1.1.1.1.1.1.1.1.1.1.1.1 in
    let flags = rest.1.1.1.1.1.1.1.1.1.1.1.1.1.1.1.1.1.1.1 in
    let inbound = flag_of info.partition_enforcement_inbound _ flags.0 in
    let outbound = flag_of info.partition_enforcement_outbound _ flags.1.0 in
    λ place. record {
      gid_prefix = h.1.0 place;
      lid = h.1.1.0 place;
      master_sm_lid = h.1.1.1.0 place;
      port_state = rest.0 place;
      lmc = rest.1.1.1.1.0 place;
      neighbor_mtu = rest.1.1.1.1.1.1.1.0 place;
      master_sm_sl = rest.1.1.1.1.1.1.1.1.0 place;
      partition_enforcement_inbound = inbound place;
      partition_enforcement_outbound = outbound place;
    }

-- ---- what is encoded
setting_encoded : (info : PortInfo) → Fits (port_info info) → port_setting (port_info_bytes info) ≡ setting_asked info
unfolding port_info_bytes
setting_encoded info fits = sym (setting_is (port_info_bytes info) info (encodes_put_all (port_info info) 64 refl fits).fields)

top_encoded : (info : SwitchInfo) → Fits (switch_info info) → linear_fdb_top_in (switch_info_bytes info) ≡ info.linear_fdb_top
unfolding switch_info_bytes
top_encoded info fits = sym (encodes_put_all (switch_info info) 64 refl fits).fields.1.1.1.0

word_below : (words : List ℕ) (k : ℕ) → IsTable 32 65536 words → k < length words → get_or words k 0 < 65536
word_below words k table within =
    let below = all_at (λ word. nat_lt word 65536) words k 0 table.below within in
    grind (arith, nat_tests, below)

words_encoded : (words : List ℕ) → IsTable 32 65536 words → words_in (word_bytes words) ≡ words
unfolding words_in word_bytes
words_encoded words table =
    let is = attributes.words words table.count in
    sym (entries_are (word_bytes words) words 16 32 (λ k h.
    written_word (word_bytes words) words k is.small refl h (omega (arith, is.count, h, table.count)) (word_below words k table h)) table.count)

ports_encoded : (bytes : List ℕ) → IsAttribute bytes → ports_in bytes ≡ bytes
unfolding ports_in
ports_encoded bytes is = sym (entries_are bytes bytes 8 64 (λ k h. byte_is_field bytes k is.small h) is.count)

pub encoded_is_read : EncodedIsRead
encoded_is_read = record { setting = setting_encoded; linear_fdb_top = top_encoded; words = words_encoded; ports = ports_encoded }
