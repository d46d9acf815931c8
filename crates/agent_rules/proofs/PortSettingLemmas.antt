-- What a port has after a Set fits its fields, and is Down where it was.
use Rattle.std.proofs.lemmas.Bool.{and_parts}
use Rattle.std.proofs.lemmas.Bool.Decides.{nat_tests}
use Rattle.mad_layout.specs.declared.status.MadStatus.TheVariants.{InvalidField}
use Rattle.std.proofs.Common.{◌≡◌, ℕ, ◌^◌, ◌<◌, ◌==◌, Bool, true, false, ◌&&◌, ◌||◌, nat_le, if◌then◌else◌, Ok, refl, sym, ◌∙◌, ap, arith, drop}
use Rattle.fabric_parts.specs.declared.lid.TheConstants.{LAST_UNICAST_LID}
use Rattle.mad_layout.specs.Bits.{bit_of}
use Rattle.mad_layout.specs.Layout.{Fits}
use Rattle.mad_layout.proofs.LayoutLemmas.{fits_both, fits_drop, fits_take}
use Rattle.agent_rules.proofs.GuardLemmas.{taken_ok}
use Rattle.attr_tables.specs.declared.port_info.PortInfo.{PortInfo}
use Rattle.agent_rules.specs.declared.port_setting.PortSetting.{PortSetting}
use Rattle.agent_rules.specs.Agent.{shown_at}
use Rattle.attr_tables.specs.PortInfo.{port_info}
use Rattle.agent_rules.specs.PortSetting.{IsNarrow, is_down, is_no_change, is_valid, may_follow, port_info_after, taken_over}
use Rattle.agent_rules.specs.Laws.{unsettable}

bit_fits : (b : Bool) → bit_of b < 2 ^ 1
bit_fits true = omega arith
bit_fits false = omega arith

state_fits : (b : Bool) (now wanted : ℕ) → now < 2 ^ 4 → wanted < 2 ^ 4 → (if b then now else wanted) < 2 ^ 4
state_fits true now wanted h w = h
state_fits false now wanted h w = w

pub taken_fits : (enforces : Bool) (info : PortInfo) (wanted : PortSetting) → Fits (port_info info) → IsNarrow wanted
    → Fits (port_info (taken_over enforces info wanted))
unfolding taken_over
taken_fits enforces info wanted h w =
    let old = port_info info in
    let new = port_info (taken_over enforces info wanted) in
    let state = state_fits (is_no_change wanted) info.port_state wanted.port_state (fits_drop 12 old h).0 w.port_state in
    fits_both 4 new (h.0, (w.gid_prefix, (w.lid, (w.master_sm_lid, tt))))
    (fits_both 8 (drop 4 new) (fits_take 8 (drop 4 old) (fits_drop 4 old h))
    (fits_both 1 (drop 12 new) (state, tt)
    (fits_both 6 (drop 13 new) (fits_take 6 (drop 13 old) (fits_drop 13 old h))
    (fits_both 2 (drop 19 new) (w.neighbor_mtu, (w.master_sm_sl, tt))
    (fits_both 10 (drop 21 new) (fits_take 10 (drop 21 old) (fits_drop 21 old h))
    (fits_both 2 (drop 31 new) (bit_fits _, (bit_fits _, tt)) (fits_drop 33 old h)))))))

pub shown_fits : (port : ℕ) (info : PortInfo) → Fits (port_info info) → port < 2 ^ 8 → Fits (port_info (shown_at port info))
shown_fits port info h small =
    let old = port_info info in
    let new = port_info (shown_at port info) in
    fits_both 7 new (fits_take 7 old h) (fits_both 1 (drop 7 new) (small, tt) (fits_drop 8 old h))

state_down : (now next : ℕ) → ((next == 0) || may_follow now next) ≡ true → ((if next == 0 then now else next) == 1) ≡ (now == 1)
state_down now next h = grind (arith, nat_tests)

pub down_stays : (enforces : Bool) (info : PortInfo) (wanted : PortSetting) (next : PortInfo)
    → port_info_after enforces info wanted ≡ Ok next → is_down next ≡ is_down info
unfolding is_valid taken_over
down_stays enforces info wanted next h =
    let t = taken_ok (is_valid info wanted) (taken_over enforces info wanted) next InvalidField h in
    let a = and_parts (wanted.lmc == 0) _ t.0 in
    let b = and_parts (nat_le 1 wanted.neighbor_mtu && nat_le wanted.neighbor_mtu 4) _ a.1 in
    let c = and_parts (nat_le wanted.lid LAST_UNICAST_LID) _ b.1 in
    ap is_down (sym t.1) ∙ state_down info.port_state wanted.port_state c.1

unsettable_taken : (enforces : Bool) (info : PortInfo) (wanted : PortSetting)
    → unsettable enforces (taken_over enforces info wanted) ≡ unsettable enforces info
unfolding taken_over
unsettable_taken true info wanted = refl
unsettable_taken false info wanted = refl

pub unsettable_stays : (enforces : Bool) (info : PortInfo) (wanted : PortSetting) (next : PortInfo)
    → port_info_after enforces info wanted ≡ Ok next → unsettable enforces next ≡ unsettable enforces info
unsettable_stays enforces info wanted next h =
    let t = taken_ok (is_valid info wanted) (taken_over enforces info wanted) next InvalidField h in
    ap (unsettable enforces) (sym t.1) ∙ unsettable_taken enforces info wanted
