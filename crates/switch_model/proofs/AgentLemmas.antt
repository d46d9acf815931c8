-- What a switch gives and takes, case by case.
use Rattle.std.proofs.Common.{◌≡◌, ℕ, zero, suc, true, nat_lt, ◌==◌, ◌&&◌, Some, slice_get, slice_set, Result, Ok, List, [], ◌∷◌, length, refl, ◌∙◌, ap, subst, arith}
use Rattle.std.proofs.lemmas.Bool.{and_parts}
use Rattle.mad_layout.specs.declared.status.MadStatus.{MadStatus}
use Rattle.mad_layout.specs.declared.status.MadStatus.TheVariants.{InvalidField}
use Rattle.attr_tables.specs.declared.port_info.PortInfo.{PortInfo as Port}
use Rattle.attr_tables.specs.declared.switch_info.SwitchInfo.{SwitchInfo as Info}
use Rattle.attr_tables.specs.declared.smp_attribute.SmpAttribute.TheVariants.{NodeDescription, NodeInfo, SwitchInfo, PortInfo, PKeyTable}
use Rattle.attr_tables.specs.declared.smp_attribute.SmpAttribute.TheVariants.{LinearForwardingTable, MulticastForwardingTable}
use Rattle.step_results.specs.Steps.{◌>>=◌}
use Rattle.agent_rules.specs.Agent.{shown_at, word_block, set_word_block}
use Rattle.agent_rules.specs.Laws.{DiffersInBlock}
use Rattle.attr_tables.specs.Blocks.{block_of, has_block, with_block}
use Rattle.attr_tables.specs.PortInfo.{port_info_bytes}
use Rattle.agent_rules.specs.PortSetting.{port_info_after, port_setting}
use Rattle.agent_rules.specs.Carried.{linear_fdb_top_in, ports_in}
use Rattle.attr_tables.specs.SwitchInfo.{switch_info_bytes}
use Rattle.step_results.proofs.StepLemmas.{bind_done, bind_ok, let_through}
use Rattle.agent_rules.proofs.GuardLemmas.{passed, taken_ok}
use Rattle.agent_rules.proofs.AgentLemmas.{Shows}
use Rattle.agent_rules.proofs.TableLemmas.{block_differs, length-ports_in, same_blocks, words_shown}
use Rattle.switch_model.specs.declared.switch_port.SwitchPort.{SwitchPort}
use Rattle.switch_model.specs.Agent.{get, is_mask_modifier, key_block, key_port, set_keys, set_linear, set_linear_top, mask_block, mask_position}
use Rattle.switch_model.specs.Agent.{masks_at, set_masks, part_at, set_port_info, set}
use Rattle.switch_model.specs.SwitchState.{SwitchState}

-- a part that is there, and the list with another in its place
pub part_is : {X : Type 0} (number : ℕ) (parts : List X) (part : X) → part_at number parts ≡ Ok part → slice_get parts number ≡ Some part
part_is number [] part h = absurd (cc)
part_is zero (x ∷ parts) part h = cc
part_is (suc number) (x ∷ parts) part h = part_is number parts part h

pub part_set : {X : Type 0} (number : ℕ) (parts : List X) (part next : X) → part_at number parts ≡ Ok part
    → part_at number (slice_set parts number next) ≡ Ok next
part_set number [] part next h = absurd (cc)
part_set zero (x ∷ parts) part next h = refl
part_set (suc number) (x ∷ parts) part next h = part_set number parts part next h

-- ---- what a Set of each attribute leads to
pub record PortSet (held next : SwitchState) (modifier : ℕ) (wanted : List ℕ) : Type 0 where
  pub port : SwitchPort
  pub there : part_at modifier held.ports ≡ Ok port
  pub after : Port
  pub taken : port_info_after (nat_lt 0 modifier) port.info (port_setting wanted) ≡ Ok after
  pub same : record held { ports = slice_set held.ports modifier (record port { info = after }) } ≡ next

pub port_set : (held next : SwitchState) (modifier : ℕ) (wanted : List ℕ) → set held PortInfo modifier wanted ≡ Ok next
    → PortSet held next modifier wanted
unfolding set
port_set held next modifier wanted h =
    let a = bind_done (set_port_info modifier wanted held.ports) (λ ports. record held { ports = ports }) next h in
    let b = bind_ok (part_at modifier held.ports)
    (λ port. port_info_after (nat_lt 0 modifier) port.info (port_setting wanted) >>= λ info. Ok
    (slice_set held.ports modifier (record port { info = info }))) a.0 a.1 in
    let c = bind_done (port_info_after (nat_lt 0 modifier) b.0.info (port_setting wanted)) (λ info. slice_set held.ports modifier (record b.0 { info = info })) a.0 b.2 in
    record {
      port = b.0;
      there = b.1;
      after = c.0;
      taken = c.1;
      same = ap (λ (ports : List SwitchPort). record held { ports = ports }) c.2 ∙ a.2;
    }

pub record KeysSet (held next : SwitchState) (modifier : ℕ) (wanted : List ℕ) : Type 0 where
  pub port : SwitchPort
  pub there : part_at (key_port modifier) held.ports ≡ Ok port
  pub after : List ℕ
  pub taken : set_word_block (key_block modifier) wanted port.keys ≡ Ok after
  pub same : record held { ports = slice_set held.ports (key_port modifier) (record port { keys = after }) } ≡ next

pub keys_are_set : (held next : SwitchState) (modifier : ℕ) (wanted : List ℕ) → set held PKeyTable modifier wanted ≡ Ok next
    → KeysSet held next modifier wanted
unfolding set
keys_are_set held next modifier wanted h =
    let n = key_port modifier in
    let a = bind_done (set_keys modifier wanted held.ports) (λ ports. record held { ports = ports }) next h in
    let b = bind_ok (part_at n held.ports) (λ port. set_word_block (key_block modifier) wanted port.keys
    >>= λ keys. Ok (slice_set held.ports n (record port { keys = keys }))) a.0 a.1 in
    let c = bind_done (set_word_block (key_block modifier) wanted b.0.keys) (λ keys. slice_set held.ports n (record b.0 { keys = keys })) a.0 b.2 in
    record {
      port = b.0;
      there = b.1;
      after = c.0;
      taken = c.1;
      same = ap (λ (ports : List SwitchPort). record held { ports = ports }) c.2 ∙ a.2;
    }

pub record TopSet (held next : SwitchState) (modifier : ℕ) (wanted : List ℕ) : Type 0 where
  pub whole : (modifier == 0) ≡ true
  pub same : record held { info = record held.info { linear_fdb_top = linear_fdb_top_in wanted } } ≡ next

pub top_set : (held next : SwitchState) (modifier : ℕ) (wanted : List ℕ) → set held SwitchInfo modifier wanted ≡ Ok next
    → TopSet held next modifier wanted
unfolding set
top_set held next modifier wanted h =
    let a = bind_done (set_linear_top modifier wanted (length held.linear) held.info) (λ info. record held { info = info }) next h in
    let t = taken_ok ((modifier == 0) && nat_lt (linear_fdb_top_in wanted) (length held.linear)) (record held.info { linear_fdb_top = linear_fdb_top_in wanted }) a.0 InvalidField a.1 in
    record {
      whole = (and_parts (modifier == 0) (nat_lt (linear_fdb_top_in wanted) (length held.linear)) t.0).0;
      same = ap (λ (info : Info). record held { info = info }) t.1 ∙ a.2;
    }

pub record LinearSet (held next : SwitchState) (modifier : ℕ) (wanted : List ℕ) : Type 0 where
  pub there : has_block 64 modifier held.linear ≡ true
  pub same : record held { linear = with_block 64 modifier (ports_in wanted) held.linear } ≡ next

pub linear_is_set : (held next : SwitchState) (modifier : ℕ) (wanted : List ℕ) → set held LinearForwardingTable modifier wanted ≡ Ok next
    → LinearSet held next modifier wanted
unfolding set
linear_is_set held next modifier wanted h =
    let a = bind_done (set_linear modifier wanted held.linear) (λ linear. record held { linear = linear }) next h in
    let t = taken_ok (has_block 64 modifier held.linear) (with_block 64 modifier (ports_in wanted) held.linear) a.0 InvalidField a.1 in
    record { there = t.0; same = ap (λ (linear : List ℕ). record held { linear = linear }) t.1 ∙ a.2 }

pub record MasksSet (held next : SwitchState) (modifier : ℕ) (wanted : List ℕ) : Type 0 where
  pub is_modifier : is_mask_modifier modifier ≡ true
  pub words : List ℕ
  pub there : part_at (mask_position modifier) held.masks ≡ Ok words
  pub after : List ℕ
  pub taken : set_word_block (mask_block modifier) wanted words ≡ Ok after
  pub same : record held { masks = slice_set held.masks (mask_position modifier) after } ≡ next

pub masks_are_set : (held next : SwitchState) (modifier : ℕ) (wanted : List ℕ) → set held MulticastForwardingTable modifier wanted ≡ Ok next
    → MasksSet held next modifier wanted
unfolding set
masks_are_set held next modifier wanted h =
    let p = mask_position modifier in
    let a = bind_done (set_masks modifier wanted held.masks) (λ masks. record held { masks = masks }) next h in
    let b = bind_ok (masks_at modifier held.masks) (λ words. set_word_block (mask_block modifier) wanted words >>= λ after. Ok (slice_set held.masks p after)) a.0 a.1 in
    let g = let_through (is_mask_modifier modifier) (part_at p held.masks) InvalidField b.0 b.1 in
    let c = bind_done (set_word_block (mask_block modifier) wanted b.0) (λ after. slice_set held.masks p after) a.0 b.2 in
    record {
      is_modifier = g.0;
      words = b.0;
      there = g.1;
      after = c.0;
      taken = c.1;
      same = ap (λ (masks : List (List ℕ)). record held { masks = masks }) c.2 ∙ a.2;
    }

-- ---- what is set can be asked for
port_shown : (in_port : ℕ) (held : SwitchState) (ports : List SwitchPort) (number : ℕ) (port : SwitchPort)
    → part_at number ports ≡ Ok port
    → (bytes : List ℕ) × (get in_port (record held { ports = ports }) PortInfo number ≡ Ok bytes)
unfolding get
port_shown in_port held ports number port h =
    (port_info_bytes (shown_at in_port port.info), ap (λ (r : Result SwitchPort MadStatus). r >>= λ p. Ok (port_info_bytes (shown_at in_port p.info))) h)

keys_shown : (in_port : ℕ) (held : SwitchState) (ports : List SwitchPort) (modifier : ℕ) (port : SwitchPort) (bytes : List ℕ)
    → part_at (key_port modifier) ports ≡ Ok port → word_block (key_block modifier) port.keys ≡ Ok bytes
    → get in_port (record held { ports = ports }) PKeyTable modifier ≡ Ok bytes
unfolding get
keys_shown in_port held ports modifier port bytes h shown =
    ap (λ (r : Result SwitchPort MadStatus). r >>= λ p. word_block (key_block modifier) p.keys) h ∙ shown

top_shown : (in_port : ℕ) (held : SwitchState) (info : Info) (modifier : ℕ) → (modifier == 0) ≡ true
    → (bytes : List ℕ) × (get in_port (record held { info = info }) SwitchInfo modifier ≡ Ok bytes)
unfolding get
top_shown in_port held info modifier whole =
    (switch_info_bytes info, passed (modifier == 0) (Ok (switch_info_bytes info)) InvalidField whole)

linear_shown : (in_port : ℕ) (held : SwitchState) (linear : List ℕ) (block : ℕ) → has_block 64 block linear ≡ true
    → (bytes : List ℕ) × (get in_port (record held { linear = linear }) LinearForwardingTable block ≡ Ok bytes)
unfolding get
linear_shown in_port held linear block there =
    (block_of 64 block linear, passed (has_block 64 block linear) (Ok (block_of 64 block linear)) InvalidField there)

masks_shown : (in_port : ℕ) (held : SwitchState) (masks : List (List ℕ)) (modifier : ℕ) (words bytes : List ℕ)
    → is_mask_modifier modifier ≡ true → part_at (mask_position modifier) masks ≡ Ok words
    → word_block (mask_block modifier) words ≡ Ok bytes
    → get in_port (record held { masks = masks }) MulticastForwardingTable modifier ≡ Ok bytes
unfolding get
masks_shown in_port held masks modifier words bytes is there shown =
    let whole : masks_at modifier masks ≡ Ok words = passed (is_mask_modifier modifier) (part_at (mask_position modifier) masks) InvalidField is ∙ there in
    ap (λ (r : Result (List ℕ) MadStatus). r >>= λ w. word_block (mask_block modifier) w) whole ∙ shown

pub linear_differs : (block : ℕ) (wanted linear : List ℕ) → has_block 64 block linear ≡ true
    → DiffersInBlock 64 block linear (with_block 64 block (ports_in wanted) linear)
linear_differs block wanted linear there = block_differs 64 block (ports_in wanted) linear (omega arith) (length-ports_in wanted) there

pub shows : (in_port : ℕ) → Shows (get in_port) set
unfolding set
shows in_port held next SwitchInfo modifier wanted h =
    let s = top_set held next modifier wanted h in
    let P : SwitchState → Type 0 = λ x. (bytes : List ℕ) × (get in_port x SwitchInfo modifier ≡ Ok bytes) in
    subst P s.same (top_shown in_port held (record held.info { linear_fdb_top = linear_fdb_top_in wanted }) modifier s.whole)
shows in_port held next PortInfo modifier wanted h =
    let s = port_set held next modifier wanted h in
    let new = record s.port { info = s.after } in
    let P : SwitchState → Type 0 = λ x. (bytes : List ℕ) × (get in_port x PortInfo modifier ≡ Ok bytes) in
    subst P s.same (port_shown in_port held (slice_set held.ports modifier new) modifier new (part_set modifier held.ports s.port new s.there))
shows in_port held next PKeyTable modifier wanted h =
    let s = keys_are_set held next modifier wanted h in
    let new = record s.port { keys = s.after } in
    let w = words_shown (key_block modifier) wanted s.port.keys s.after s.taken in
    let P : SwitchState → Type 0 = λ x. (bytes : List ℕ) × (get in_port x PKeyTable modifier ≡ Ok bytes) in
    subst P s.same (w.0, keys_shown in_port held (slice_set held.ports (key_port modifier) new) modifier new w.0 (part_set (key_port modifier) held.ports s.port new s.there) w.1)
shows in_port held next LinearForwardingTable modifier wanted h =
    let s = linear_is_set held next modifier wanted h in
    let linear = with_block 64 modifier (ports_in wanted) held.linear in
    let P : SwitchState → Type 0 = λ x. (bytes : List ℕ) × (get in_port x LinearForwardingTable modifier ≡ Ok bytes) in
    subst P s.same (linear_shown in_port held linear modifier (same_blocks 64 modifier held.linear linear (linear_differs modifier wanted held.linear s.there) s.there))
shows in_port held next MulticastForwardingTable modifier wanted h =
    let s = masks_are_set held next modifier wanted h in
    let w = words_shown (mask_block modifier) wanted s.words s.after s.taken in
    let P : SwitchState → Type 0 = λ x. (bytes : List ℕ) × (get in_port x MulticastForwardingTable modifier ≡ Ok bytes) in
    subst P s.same (
      w.0,
      masks_shown in_port held (slice_set held.masks (mask_position modifier) s.after) modifier s.after w.0
          s.is_modifier (part_set (mask_position modifier) held.masks s.words s.after s.there) w.1,
    )
shows in_port held next NodeDescription modifier wanted h = absurd (cc)
shows in_port held next NodeInfo modifier wanted h = absurd (cc)
