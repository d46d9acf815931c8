-- PortInfo that is read, changed, and set again.
use Rattle.std.proofs.Common.{ℕ, ◌≡◌, ◌+◌, ◌*◌, ◌-◌, ◌/◌, ◌%◌, ◌^◌, ◌<◌, ◌≤◌, ◌==◌, ◌&&◌, ◌||◌, nat_le, ◌∙◌, ap, refl, sym, subst, Bool, true, false, if◌then◌else◌, List, [], ◌∷◌, length, replicate, take, drop, Option, Some, None, Ok, arith}
use Rattle.std.specs.Int.{bytes_high_first}
use Rattle.std.specs.Int.Digits.{AllBelowBase}
use Rattle.std.specs.Option.{is_some, option_map_or}
use Rattle.std.proofs.lemmas.Bool.{and_from, and_parts, eqb-true, false≢true, leb-true}
use Rattle.std.proofs.lemmas.Nat.{field_of, mod_below, mod_low, pow_pos, shr-shr, shr_high}
use Rattle.std.proofs.Math.Nat.{mod-add-div', mod-eq_of_lt}
use Rattle.std.proofs.Math.Pow.{mod-mod-pow}
use Rattle.sweep.proofs.LinkLemmas.{info_holds}
use Rattle.agent_rules.specs.Agent.{shown_at}
use Rattle.agent_rules.specs.Good.{IsGoodInfo}
use Rattle.agent_rules.specs.PortSetting.{is_no_change, is_valid, may_follow, port_info_after, setting_asked, taken_over}
use Rattle.agent_rules.specs.declared.port_setting.PortSetting.{PortSetting}
use Rattle.agent_rules.proofs.GuardLemmas.{passed}
use Rattle.attr_tables.specs.PortInfo.{port_info, port_info_bytes}
use Rattle.attr_tables.specs.PortState.{port_state_code}
use Rattle.attr_tables.specs.declared.port_info.PortInfo.{PortInfo}
use Rattle.attr_tables.specs.declared.port_state.PortState.{PortState}
use Rattle.attr_tables.specs.declared.port_state.PortState.TheVariants.{NoChange, Down, Initialize, Armed, Active}
use Rattle.fabric_parts.specs.declared.lid.TheConstants.{LAST_UNICAST_LID}
use Rattle.mad_layout.specs.Bits.{digits, field, number, put_field, replaced}
use Rattle.mad_layout.specs.Layout.{Field, Fits, Holds, is_apart, is_free, is_layout, put_all}
use Rattle.mad_layout.specs.declared.status.MadStatus.TheVariants.{InvalidField}
use Rattle.mad_layout.proofs.AlignedLemmas.{same_bit}
use Rattle.mad_layout.proofs.LayoutLemmas.{apart_parts, first_of_layout, fits_both, fits_drop, fits_take, holds_put_all, length-put_all, length-put_field, put_below, zeros_below}
use Rattle.mad_layout.proofs.NumberLemmas.{number_below, number_bytes, number_same}
use Rattle.mad_layout.proofs.PutLemmas.{put_swap}
use Rattle.table_push.specs.Ports.{with_end_set, enforces, with_state}

-- ---- what bytes hold is one PortInfo
pub info_is : (bytes : List ℕ) (a b : PortInfo) → Holds bytes (port_info a) → Holds bytes (port_info b) → a ≡ b
info_is bytes a b g h =
    let g1 = g.1.1.1.1.1.1.1.1 in
    let h1 = h.1.1.1.1.1.1.1.1 in
    let g2 = g1.1.1.1.1.1.1.1.1 in
    let h2 = h1.1.1.1.1.1.1.1.1 in
    let g3 = g2.1.1.1.1.1.1.1.1 in
    let h3 = h2.1.1.1.1.1.1.1.1 in
    let g4 = g3.1.1.1.1.1.1.1.1 in
    let h4 = h3.1.1.1.1.1.1.1.1 in
    let g5 = g4.1.1.1.1.1.1.1.1 in
    let h5 = h4.1.1.1.1.1.1.1.1 in
    let partition_enforcement_inbound = same_bit a.partition_enforcement_inbound b.partition_enforcement_inbound (g3.1.1.1.1.1.1.1.0 ∙ sym h3.1.1.1.1.1.1.1.0) in
    let partition_enforcement_outbound = same_bit a.partition_enforcement_outbound b.partition_enforcement_outbound (g4.0 ∙ sym h4.0) in
    let filter_raw_inbound = same_bit a.filter_raw_inbound b.filter_raw_inbound (g4.1.0 ∙ sym h4.1.0) in
    let filter_raw_outbound = same_bit a.filter_raw_outbound b.filter_raw_outbound (g4.1.1.0 ∙ sym h4.1.1.0) in
    λ place. record {
      m_key = (g.0 ∙ sym h.0) place;
      gid_prefix = (g.1.0 ∙ sym h.1.0) place;
      lid = (g.1.1.0 ∙ sym h.1.1.0) place;
      master_sm_lid = (g.1.1.1.0 ∙ sym h.1.1.1.0) place;
      capability_mask = (g.1.1.1.1.0 ∙ sym h.1.1.1.1.0) place;
      diag_code = (g.1.1.1.1.1.0 ∙ sym h.1.1.1.1.1.0) place;
      m_key_lease_period = (g.1.1.1.1.1.1.0 ∙ sym h.1.1.1.1.1.1.0) place;
      local_port_num = (g.1.1.1.1.1.1.1.0 ∙ sym h.1.1.1.1.1.1.1.0) place;
      link_width_enabled = (g1.0 ∙ sym h1.0) place;
      link_width_supported = (g1.1.0 ∙ sym h1.1.0) place;
      link_width_active = (g1.1.1.0 ∙ sym h1.1.1.0) place;
      link_speed_supported = (g1.1.1.1.0 ∙ sym h1.1.1.1.0) place;
      port_state = (g1.1.1.1.1.0 ∙ sym h1.1.1.1.1.0) place;
      port_physical_state = (g1.1.1.1.1.1.0 ∙ sym h1.1.1.1.1.1.0) place;
      link_down_default_state = (g1.1.1.1.1.1.1.0 ∙ sym h1.1.1.1.1.1.1.0) place;
      m_key_protect_bits = (g1.1.1.1.1.1.1.1.0 ∙ sym h1.1.1.1.1.1.1.1.0) place;
      lmc = (g2.0 ∙ sym h2.0) place;
      link_speed_active = (g2.1.0 ∙ sym h2.1.0) place;
      link_speed_enabled = (g2.1.1.0 ∙ sym h2.1.1.0) place;
      neighbor_mtu = (g2.1.1.1.0 ∙ sym h2.1.1.1.0) place;
      master_sm_sl = (g2.1.1.1.1.0 ∙ sym h2.1.1.1.1.0) place;
      vl_cap = (g2.1.1.1.1.1.0 ∙ sym h2.1.1.1.1.1.0) place;
      init_type = (g2.1.1.1.1.1.1.0 ∙ sym h2.1.1.1.1.1.1.0) place;
      vl_high_limit = (g2.1.1.1.1.1.1.1.0 ∙ sym h2.1.1.1.1.1.1.1.0) place;
      vl_arbitration_high_cap = (g3.0 ∙ sym h3.0) place;
      vl_arbitration_low_cap = (g3.1.0 ∙ sym h3.1.0) place;
      init_type_reply = (g3.1.1.0 ∙ sym h3.1.1.0) place;
      mtu_cap = (g3.1.1.1.0 ∙ sym h3.1.1.1.0) place;
      vl_stall_count = (g3.1.1.1.1.0 ∙ sym h3.1.1.1.1.0) place;
      hoq_life = (g3.1.1.1.1.1.0 ∙ sym h3.1.1.1.1.1.0) place;
      operational_vls = (g3.1.1.1.1.1.1.0 ∙ sym h3.1.1.1.1.1.1.0) place;
      partition_enforcement_inbound = partition_enforcement_inbound place;
      partition_enforcement_outbound = partition_enforcement_outbound place;
      filter_raw_inbound = filter_raw_inbound place;
      filter_raw_outbound = filter_raw_outbound place;
      m_key_violations = (g4.1.1.1.0 ∙ sym h4.1.1.1.0) place;
      p_key_violations = (g4.1.1.1.1.0 ∙ sym h4.1.1.1.1.0) place;
      q_key_violations = (g4.1.1.1.1.1.0 ∙ sym h4.1.1.1.1.1.0) place;
      guid_cap = (g4.1.1.1.1.1.1.0 ∙ sym h4.1.1.1.1.1.1.0) place;
      subnet_time_out = (g4.1.1.1.1.1.1.1.0 ∙ sym h4.1.1.1.1.1.1.1.0) place;
      resp_time_value = (g5.0 ∙ sym h5.0) place;
      local_phy_errors = (g5.1.0 ∙ sym h5.1.0) place;
      overrun_errors = (g5.1.1.0 ∙ sym h5.1.1.0) place;
      max_credit_hint = (g5.1.1.1.0 ∙ sym h5.1.1.1.0) place;
      link_round_trip_latency = (g5.1.1.1.1.0 ∙ sym h5.1.1.1.1.0) place;
    }

-- ---- a PortInfo with another state
pub state_fits : (state : PortState) (info : PortInfo) → Fits (port_info info) → Fits (port_info (with_state state info))
state_fits state info h =
    let old = port_info info in
    let new = port_info (with_state state info) in
    fits_both 12 new (fits_take 12 old h) (fits_both 1 (drop 12 new) (small state, tt) (fits_drop 13 old h))
  where
    small : (state : PortState) → port_state_code state < 2 ^ 4
    small NoChange = omega arith
    small Down = omega arith
    small Initialize = omega arith
    small Armed = omega arith
    small Active = omega arith

-- ---- what a port then has
abbrev pub as_held : ℕ → PortInfo → PortInfo
as_held code info = record info { port_state = if code == 0 then info.port_state else code }

valid : (info : PortInfo) (wanted : PortSetting) → IsGoodInfo info → wanted.lmc ≡ info.lmc → wanted.neighbor_mtu ≡ info.neighbor_mtu
    → nat_le wanted.lid LAST_UNICAST_LID ≡ true → (is_no_change wanted || may_follow info.port_state wanted.port_state) ≡ true → is_valid info wanted ≡ true
unfolding is_valid
valid info wanted good lmc mtu unicast follows =
    let a = and_parts (info.lmc == 0) _ good.regular in
    let b = and_parts (nat_le 1 info.neighbor_mtu && nat_le info.neighbor_mtu 4) _ a.1 in
    and_from (wanted.lmc == 0) _ (ap (λ (n : ℕ). n == 0) lmc ∙ a.0)
    (and_from (nat_le 1 wanted.neighbor_mtu && nat_le wanted.neighbor_mtu 4) _ (ap (λ (n : ℕ). nat_le 1 n && nat_le n 4) mtu ∙ b.0)
    (and_from (nat_le wanted.lid LAST_UNICAST_LID) _ unicast follows))

own_lid : (info : PortInfo) → IsGoodInfo info → nat_le info.lid LAST_UNICAST_LID ≡ true
own_lid info good =
    let a = and_parts (info.lmc == 0) _ good.regular in
    let b = and_parts (nat_le 1 info.neighbor_mtu && nat_le info.neighbor_mtu 4) _ a.1 in
    (and_parts (nat_le info.lid LAST_UNICAST_LID) _ b.1).0

no_lmc : (info : PortInfo) → IsGoodInfo info → info.lmc ≡ 0
no_lmc info good = eqb-true info.lmc 0 (and_parts (info.lmc == 0) _ good.regular).0

is_taken : (on : Bool) (info next : PortInfo) (wanted : PortSetting) → is_valid info wanted ≡ true → taken_over on info wanted ≡ next
    → port_info_after on info wanted ≡ Ok next
is_taken on info next wanted takes same =
    passed (is_valid info wanted) (Ok (taken_over on info wanted)) InvalidField takes ∙ ap (λ (one : PortInfo). Ok one) same

abbrev asks : Option ℕ → Option Bool → (code shown : ℕ) → PortInfo → PortSetting
asks lid enforcement code shown info =
    setting_asked (record (enforces enforcement (with_end_set lid (shown_at shown info))) { port_state = code })

pub setting_taken : (on : Bool) (lid : Option ℕ) (enforcement : Option Bool) (code shown : ℕ) (info : PortInfo) → IsGoodInfo info
    → option_map_or (λ lid. nat_le lid LAST_UNICAST_LID) lid true ≡ true → (is_some enforcement ≡ true → on ≡ true)
    → ((code == 0) || may_follow info.port_state code) ≡ true
    → port_info_after on info (asks lid enforcement code shown info) ≡ Ok (enforces enforcement (with_end_set lid (as_held code info)))
unfolding taken_over
setting_taken true None None code shown info good unicast can follows =
    is_taken true info _ (asks None None code shown info) (valid info (asks None None code shown info) good refl refl (own_lid info good) follows) refl
setting_taken false None None code shown info good unicast can follows =
    is_taken false info _ (asks None None code shown info) (valid info (asks None None code shown info) good refl refl (own_lid info good) follows) refl
setting_taken true None (Some b) code shown info good unicast can follows =
    is_taken true info _ (asks None (Some b) code shown info) (valid info (asks None (Some b) code shown info) good refl refl (own_lid info good) follows) refl
setting_taken false lid (Some b) code shown info good unicast can follows = absurd (false≢true (can refl))
setting_taken true (Some n) None code shown info good unicast can follows =
    let none = no_lmc info good in
    is_taken true info _ (asks (Some n) None code shown info) (valid info (asks (Some n) None code shown info) good (sym none) refl unicast follows)
    (ap (λ (lmc : ℕ). record (with_end_set (Some n) (as_held code info)) { lmc = lmc }) none)
setting_taken false (Some n) None code shown info good unicast can follows =
    let none = no_lmc info good in
    is_taken false info _ (asks (Some n) None code shown info) (valid info (asks (Some n) None code shown info) good (sym none) refl unicast follows)
    (ap (λ (lmc : ℕ). record (with_end_set (Some n) (as_held code info)) { lmc = lmc }) none)
setting_taken true (Some n) (Some b) code shown info good unicast can follows =
    let none = no_lmc info good in
    is_taken true info _ (asks (Some n) (Some b) code shown info) (valid info (asks (Some n) (Some b) code shown info) good (sym none) refl unicast follows)
    (ap (λ (lmc : ℕ). record (enforces (Some b) (with_end_set (Some n) (as_held code info))) { lmc = lmc }) none)

-- ---- a field that is put again
number_put : (xs : List ℕ) (off len v : ℕ) → number (put_field xs off len v) ≡ replaced (number xs) (8 * length xs - (off + len)) len v % 2 ^ (8 * length xs)
unfolding put_field
number_put xs off len v = number_bytes (length xs) (replaced (number xs) (8 * length xs - (off + len)) len v)

-- what is above and below the digits that are replaced stays
replaced_again : (n low len v w k : ℕ) → v < 2 ^ len → low + len ≤ k → n < 2 ^ k
    → replaced (replaced n low len v % 2 ^ k) low len w ≡ replaced n low len w
replaced_again n low len v w k fits within small =
    let r = replaced n low len v in
    let d = k - (low + len) in
    let e = k - low in
    let split : k ≡ d + (low + len) = omega arith in
    let parts : k ≡ e + low = omega arith in
    let rest : n % 2 ^ low < 2 ^ low = mod_below n (2 ^ low) (pow_pos low) in
    let above : r / 2 ^ (low + len) ≡ n / 2 ^ (low + len) =
    sym (shr-shr r low len) ∙ ap (λ (y : ℕ). y / 2 ^ len) (shr_high (n / 2 ^ (low + len) * 2 ^ len + v) low (n % 2 ^ low) rest)
    ∙ shr_high (n / 2 ^ (low + len)) len v fits in
    let whole : n / 2 ^ (low + len) ≡ n / 2 ^ (low + len) % 2 ^ d =
    ap (λ (y : ℕ). y / 2 ^ (low + len)) (sym (mod-eq_of_lt small)) ∙ ap (λ (i : ℕ). n % 2 ^ i / 2 ^ (low + len)) split ∙ field_of n d (low + len) in
    let high : r % 2 ^ k / 2 ^ (low + len) ≡ n / 2 ^ (low + len) =
    ap (λ (i : ℕ). r % 2 ^ i / 2 ^ (low + len)) split ∙ field_of r d (low + len) ∙ ap (λ (y : ℕ). y % 2 ^ d) above ∙ sym whole in
    let below : r % 2 ^ k % 2 ^ low ≡ n % 2 ^ low =
    ap (λ (i : ℕ). r % 2 ^ i % 2 ^ low) parts ∙ mod-mod-pow r e low
    ∙ mod_low (n / 2 ^ (low + len) * 2 ^ len + v) low (n % 2 ^ low) rest in
    λ i. (high i * 2 ^ len + w) * 2 ^ low + below i

put_twice : (xs : List ℕ) (off len v w : ℕ) → AllBelowBase 256 xs → off + len ≤ 8 * length xs → v < 2 ^ len
    → put_field (put_field xs off len v) off len w ≡ put_field xs off len w
unfolding put_field
put_twice xs off len v w small within fits =
    let size = length-put_field xs off len v in
    let same = number_put xs off len v in
    (λ i. bytes_high_first (size i) (replaced (same i) (8 * size i - (off + len)) len w))
    ∙ ap (bytes_high_first (length xs)) (replaced_again (number xs) (8 * length xs - (off + len)) len v w (8 * length xs) fits (omega arith) (number_below xs small))

own_digits : (n low len : ℕ) → replaced n low len (digits n low len) ≡ n
own_digits n low len =
    ap (λ (high : ℕ). (high * 2 ^ len + n / 2 ^ low % 2 ^ len) * 2 ^ low + n % 2 ^ low) (sym (shr-shr n low len))
    ∙ ap (λ (high : ℕ). high * 2 ^ low + n % 2 ^ low) (whole (n / 2 ^ low) (2 ^ len))
    ∙ whole n (2 ^ low)
  where
    turned : (high low all : ℕ) → low + high ≡ all → high + low ≡ all
    turned high low all is = omega (arith, is)

    whole : (a b : ℕ) → a / b * b + a % b ≡ a
    whole a b = turned (a / b * b) (a % b) a (mod-add-div' a b)

-- what a field holds already is put there
pub put_own : (xs : List ℕ) (off len : ℕ) → AllBelowBase 256 xs → put_field xs off len (field xs off len) ≡ xs
unfolding field
put_own xs off len small =
    number_same (put_field xs off len (field xs off len)) xs (put_below xs off len (field xs off len)) small (length-put_field xs off len (field xs off len))
    (number_put xs off len (field xs off len)
    ∙ ap (λ (n : ℕ). n % 2 ^ (8 * length xs)) (own_digits (number xs) (8 * length xs - (off + len)) len)
    ∙ mod-eq_of_lt (number_below xs small))

-- a field that is put last, apart from all others, may be put first
put_first : (xs : List ℕ) (ps : List Field) (off len v : ℕ) → is_layout (8 * length xs) ps ≡ true → is_free off len ps ≡ true → Fits ps
    → off + len ≤ 8 * length xs → v < 2 ^ len → put_field (put_all xs ps) off len v ≡ put_all (put_field xs off len v) ps
put_first xs [] off len v layout free fits within small = refl
put_first xs (p ∷ ps) off len v layout free fits within small =
    let a = and_parts (nat_le (p.off + p.len) (8 * length xs)) (is_free p.off p.len ps && is_layout (8 * length xs) ps) layout in
    let b = and_parts (is_free p.off p.len ps) (is_layout (8 * length xs) ps) a.1 in
    let c = and_parts (is_apart off len p) (is_free off len ps) free in
    let size = length-put_field xs p.off p.len p.value in
    let rest : is_layout (8 * length (put_field xs p.off p.len p.value)) ps ≡ true = ap (λ (n : ℕ). is_layout (8 * n) ps) size ∙ b.1 in
    put_first (put_field xs p.off p.len p.value) ps off len v rest c.1 fits.1 (omega (arith, size)) small
    ∙ ap (λ (ys : List ℕ). put_all ys ps) (put_swap xs p.off p.len p.value off len v (leb-true (p.off + p.len) (8 * length xs) a.0) within fits.0 small
    (apart_parts off len p c.0))

-- the state put into the bytes of a PortInfo
pub state_put : (info : PortInfo) (code : ℕ) → Fits (port_info info) → code < 2 ^ 4
    → put_field (port_info_bytes info) 260 4 code ≡ port_info_bytes (record info { port_state = code })
unfolding port_info_bytes
state_put info code fits small =
    let before = put_all (replicate 64 0) (take 12 (port_info info)) in
    let long : length before ≡ 64 = length-put_all (replicate 64 0) (take 12 (port_info info)) in
    let layout : is_layout (8 * length (put_field before 260 4 info.port_state)) (drop 13 (port_info info)) ≡ true =
    ap (λ (n : ℕ). is_layout (8 * n) (drop 13 (port_info info))) (length-put_field before 260 4 info.port_state ∙ long) in
    let whole = length-put_field before 260 4 info.port_state in
    put_first (put_field before 260 4 info.port_state) (drop 13 (port_info info)) 260 4 code layout refl (fits_drop 13 (port_info info) fits)
    (omega (arith, whole, long)) small
    ∙ ap (λ (ys : List ℕ). put_all ys (drop 13 (port_info info)))
    (put_twice before 260 4 info.port_state code (put_below _ _ _ _) (omega (arith, long)) (fits_drop 12 (port_info info) fits).0)

pub state_is : (info : PortInfo) → Fits (port_info info) → field (port_info_bytes info) 260 4 ≡ info.port_state
unfolding port_info_bytes
state_is info fits = sym (holds_put_all (replicate 64 0) (port_info info) refl fits).1.1.1.1.1.1.1.1.1.1.1.1.0

-- ---- fields that are put over others in the same places
abbrev pub same_places : List Field → List Field → Bool
same_places [] [] = true
same_places [] (q ∷ qs) = false
same_places (p ∷ ps) [] = false
same_places (p ∷ ps) (q ∷ qs) = (p.off == q.off) && ((p.len == q.len) && same_places ps qs)

pub put_over : (xs : List ℕ) (ps qs : List Field) → same_places ps qs ≡ true → is_layout (8 * length xs) ps ≡ true → Fits ps → Fits qs
    → AllBelowBase 256 xs → put_all (put_all xs ps) qs ≡ put_all xs qs
put_over xs [] [] same layout fits others small = refl
put_over xs [] (q ∷ qs) same layout fits others small = absurd (false≢true same)
put_over xs (p ∷ ps) [] same layout fits others small = absurd (false≢true same)
put_over xs (p ∷ ps) (q ∷ qs) same layout fits others small =
    let a = and_parts (p.off == q.off) _ same in
    let b = and_parts (p.len == q.len) _ a.1 in
    let offs = eqb-true p.off q.off a.0 in
    let lens = eqb-true p.len q.len b.0 in
    let first = first_of_layout (8 * length xs) p ps layout in
    let one = put_field xs p.off p.len p.value in
    let size = length-put_field xs p.off p.len p.value in
    let again = length-put_field xs p.off p.len q.value in
    let narrow : q.value < 2 ^ p.len = subst (λ (n : ℕ). q.value < 2 ^ n) (sym lens) others.0 in
    let rest : is_layout (8 * length one) ps ≡ true = ap (λ (n : ℕ). is_layout (8 * n) ps) size ∙ first.rest in
    let then_rest : is_layout (8 * length (put_field xs p.off p.len q.value)) ps ≡ true = ap (λ (n : ℕ). is_layout (8 * n) ps) again ∙ first.rest in
    let there : put_field (put_all one ps) q.off q.len q.value ≡ put_all (put_field xs p.off p.len q.value) ps =
    (λ i. put_field (put_all one ps) (sym offs i) (sym lens i) q.value)
    ∙ put_first one ps p.off p.len q.value rest first.free fits.1 (omega (arith, size, first.within)) narrow
    ∙ ap (λ (ys : List ℕ). put_all ys ps) (put_twice xs p.off p.len p.value q.value small first.within fits.0) in
    ap (λ (ys : List ℕ). put_all ys qs) there
    ∙ put_over (put_field xs p.off p.len q.value) ps qs b.1 then_rest fits.1 others.1 (put_below xs p.off p.len q.value)
    ∙ ap (λ (ys : List ℕ). put_all ys qs) (λ i. put_field xs (offs i) (lens i) q.value)

-- what stands outside the fields of a PortInfo is 0 at a good agent
pub info_over : (held info : PortInfo) → Fits (port_info held) → Fits (port_info info) → put_all (port_info_bytes held) (port_info info) ≡ port_info_bytes info
unfolding port_info_bytes
info_over held info held_fits fits = put_over (replicate 64 0) (port_info held) (port_info info) refl refl held_fits fits (zeros_below 64)

-- ---- a Get
pub info_from : (bytes : List ℕ) (read info : PortInfo) → Fits (port_info info) → bytes ≡ port_info_bytes info → Holds bytes (port_info read) → read ≡ info
info_from bytes read info fits are holds =
    info_is (port_info_bytes info) read info (subst (λ (some : List ℕ). Holds some (port_info read)) are holds) (info_holds info fits)
