-- A port that a path leads to, and whose PortInfo is read, changed and set.
use Rattle.std.proofs.Common.{ℕ, ◌≡◌, ◌==◌, ◌&&◌, ◌||◌, nat_le, nat_lt, ◌∙◌, ap, refl, sym, subst, Bool, true, false, if◌then◌else◌, List, Option, Some, None, Result, Ok, Err, option_map, arith}
use Rattle.std.specs.Option.{is_some, option_map_or}
use Rattle.std.proofs.lemmas.Bool.{and_parts, eq-eqb, false≢true}
use Rattle.std.proofs.lemmas.Option.{same_Some}
use Rattle.std.proofs.lemmas.Bool.Decides.{nat_tests}
use Rattle.agent_rules.specs.Agent.{shown_at}
use Rattle.agent_rules.specs.PortSetting.{may_follow, port_info_after, port_setting}
use Rattle.agent_rules.proofs.CarriedLemmas.{encoded_is_read}
use Rattle.agent_rules.proofs.PortSettingLemmas.{shown_fits}
use Rattle.attr_tables.specs.PortInfo.{port_info, port_info_bytes}
use Rattle.attr_tables.specs.PortState.{port_state_code}
use Rattle.attr_tables.specs.declared.port_info.PortInfo.{PortInfo}
use Rattle.attr_tables.specs.declared.port_state.PortState.{PortState}
use Rattle.attr_tables.specs.declared.port_state.PortState.TheVariants.{NoChange, Down, Initialize, Armed, Active}
use Rattle.attr_tables.specs.declared.smp_attribute.SmpAttribute.TheVariants.{PortInfo as PortInfoAsked}
use Rattle.fabric_parts.specs.declared.cable.PortRef.{PortRef}
use Rattle.fabric_parts.specs.declared.lid.TheConstants.{LAST_UNICAST_LID}
use Rattle.mad_layout.specs.Bits.{field}
use Rattle.mad_layout.specs.Layout.{Fits, Holds, put_all}
use Rattle.smp_wire.specs.FabricState.{FabricState, is_switch}
use Rattle.smp_wire.specs.Get.{gives_along}
use Rattle.step_results.proofs.ElementLemmas.{or_same}
use Rattle.smp_wire.specs.Good.{IsGood, info_at, is_up}
use Rattle.fabric_parts.specs.Cable.{port}
use Rattle.sweep.specs.OfFabric.{guid_at}
use Rattle.table_push.specs.Fault.{compared, without_state}
use Rattle.table_push.specs.Nodes.{on_port, with_infos}
use Rattle.table_push.specs.Ports.{TakesChange, activated, armed, first_state, in_round, with_end_set, enforces, state_asked, stays, with_lid_and_enforcement, with_state}
use Rattle.table_push.specs.Pushes.{LeadsToPort, Leaves}
use Rattle.table_push.specs.declared.fault.PushFault.{PushFault}
use Rattle.table_push.specs.declared.ports.PortChange.{PortChange}
use Rattle.table_push.specs.declared.ports.Round.{Round}
use Rattle.table_push.specs.declared.ports.Round.TheVariants.{Arming, Activating}
use Rattle.table_push.proofs.InfoLemmas.{as_held, info_from, info_over, setting_taken, state_fits, state_is, state_put}
use Rattle.table_push.proofs.InfoPortLemmas.{InfoThere, info_after, info_alike, info_gives, info_given, info_takes, info_there}
use Rattle.table_push.proofs.LeadLemmas.{SetsAt, begins_as, goes_on}
use Rattle.table_push.proofs.PartLemmas.{info_part, parts_stay, parts_twice}
use Rattle.table_push.proofs.PortLemmas.{port_on}

-- ---- a change, in whatever order its parts come
abbrev change_of : Option ℕ → Option Bool → PortInfo → PortInfo
change_of lid enforcement info = enforces enforcement (with_end_set lid info)

shown_first : (lid : Option ℕ) (enforcement : Option Bool) (shown code : ℕ) (info : PortInfo)
    → ◌≡◌ {A = PortInfo} (record (change_of lid enforcement (shown_at shown info)) { port_state = code })
    (shown_at shown (change_of lid enforcement (record info { port_state = code })))
shown_first None None shown code info = refl
shown_first None (Some on) shown code info = refl
shown_first (Some lid) None shown code info = refl
shown_first (Some lid) (Some on) shown code info = refl

shown_same : (lid : Option ℕ) (enforcement : Option Bool) (shown : ℕ) (info : PortInfo)
    → change_of lid enforcement (shown_at shown info) ≡ shown_at shown (change_of lid enforcement info)
shown_same None None shown info = refl
shown_same None (Some on) shown info = refl
shown_same (Some lid) None shown info = refl
shown_same (Some lid) (Some on) shown info = refl

state_last : (lid : Option ℕ) (enforcement : Option Bool) (shown code was : ℕ) (info : PortInfo)
    → ◌≡◌ {A = PortInfo} (record (shown_at shown (change_of lid enforcement (record info { port_state = was }))) { port_state = code })
    (record (change_of lid enforcement (shown_at shown info)) { port_state = code })
state_last None None shown code was info = refl
state_last None (Some on) shown code was info = refl
state_last (Some lid) None shown code was info = refl
state_last (Some lid) (Some on) shown code was info = refl

-- the state that is asked for is there then
state_then : (lid : Option ℕ) (enforcement : Option Bool) (code : ℕ) (info : PortInfo)
    → (change_of lid enforcement (record info { port_state = code })).port_state ≡ code
state_then None None code info = refl
state_then None (Some on) code info = refl
state_then (Some lid) None code info = refl
state_then (Some lid) (Some on) code info = refl

-- a change with one state, and then with another
again : (lid : Option ℕ) (enforcement : Option Bool) (one other : ℕ) (info : PortInfo)
    → change_of lid enforcement (record (change_of lid enforcement (record info { port_state = one })) { port_state = other })
    ≡ change_of lid enforcement (record info { port_state = other })
again None None one other info = refl
again None (Some on) one other info = refl
again (Some lid) None one other info = refl
again (Some lid) (Some on) one other info = refl

with_it : (lid : Option ℕ) (enforcement : Option Bool) (code : ℕ) (info : PortInfo)
    → ◌≡◌ {A = PortInfo} (change_of lid enforcement (record info { port_state = code })) (record (change_of lid enforcement info) { port_state = code })
with_it None None code info = refl
with_it None (Some on) code info = refl
with_it (Some lid) None code info = refl
with_it (Some lid) (Some on) code info = refl

shown_again : (lid : Option ℕ) (enforcement : Option Bool) (shown code was : ℕ) (info : PortInfo)
    → ◌≡◌ {A = PortInfo} (record (change_of lid enforcement (shown_at shown (change_of lid enforcement (record info { port_state = was })))) { port_state = code })
    (record (change_of lid enforcement (shown_at shown info)) { port_state = code })
shown_again None None shown code was info = refl
shown_again None (Some on) shown code was info = refl
shown_again (Some lid) None shown code was info = refl
shown_again (Some lid) (Some on) shown code was info = refl

shown_reported : (lid : Option ℕ) (enforcement : Option Bool) (shown was : ℕ) (info : PortInfo)
    → ◌≡◌ {A = PortInfo} (change_of lid enforcement (shown_at shown (change_of lid enforcement (record info { port_state = was }))))
    (record (change_of lid enforcement (shown_at shown info)) { port_state = was })
shown_reported None None shown was info = refl
shown_reported None (Some on) shown was info = refl
shown_reported (Some lid) None shown was info = refl
shown_reported (Some lid) (Some on) shown was info = refl

-- ---- one Set
-- what a port has after a Set with that state
abbrev pub stepped : PortChange → PortState → PortInfo → PortInfo
stepped change state info = with_lid_and_enforcement change (as_held (port_state_code state) info)

-- what is compared of the reply is what was set
compares : (change : PortChange) (state : PortState) (shown : ℕ) (info : PortInfo) → Fits (port_info (with_lid_and_enforcement change (shown_at shown info)))
    → compared PortInfoAsked (port_info_bytes (with_state state (with_lid_and_enforcement change (shown_at shown info)))) (port_info_bytes (shown_at shown (stepped change state info)))
    ≡ port_info_bytes (with_state state (with_lid_and_enforcement change (shown_at shown info)))
unfolding compared
compares change state shown info fits = by state
  where
    asked : PortState → PortInfo
    asked state = with_state state (with_lid_and_enforcement change (shown_at shown info))

    is : (state : PortState) → field (port_info_bytes (asked state)) 260 4 ≡ port_state_code state
    is state = state_is (asked state) (state_fits state (with_lid_and_enforcement change (shown_at shown info)) fits)

    bytes : (code : ℕ) → port_info_bytes (shown_at shown (with_lid_and_enforcement change (record info { port_state = code }))) ≡ port_info_bytes (record (with_lid_and_enforcement change (shown_at shown info)) { port_state = code })
    bytes code = ap port_info_bytes (sym (shown_first change.lid change.enforcement shown code info))

    narrow : Fits (port_info (shown_at shown (with_lid_and_enforcement change (as_held 0 info))))
    narrow = subst (λ (one : PortInfo). Fits (port_info one)) (shown_same change.lid change.enforcement shown info) fits

    by : (state : PortState)
        → (if field (port_info_bytes (asked state)) 260 4 == 0 then without_state (port_info_bytes (shown_at shown (stepped change state info)))
        else port_info_bytes (shown_at shown (stepped change state info)))
        ≡ port_info_bytes (asked state)
    by NoChange = rw (is NoChange) (state_put (shown_at shown (with_lid_and_enforcement change (as_held 0 info))) 0 narrow (omega arith)
        ∙ ap port_info_bytes (state_last change.lid change.enforcement shown 0 info.port_state info))
    by Down = rw (is Down) (bytes 1)
    by Initialize = rw (is Initialize) (bytes 2)
    by Armed = rw (is Armed) (bytes 3)
    by Active = rw (is Active) (bytes 4)

-- the states that may be asked for
abbrev MayAsk : PortInfo → PortState → Type 0
MayAsk info state = ((port_state_code state == 0) || may_follow info.port_state (port_state_code state)) ≡ true

-- what a port can be set to
record CanBeReported (change : PortChange) (on : Bool) : Type 0 where
  lid : option_map_or (λ lid. nat_le lid LAST_UNICAST_LID) change.lid true ≡ true
  enforces : is_some change.enforcement ≡ true → on ≡ true

is_set : (fabric : FabricState) (stood left : Option FabricState) (result : Result (Unit {0}) PushFault) (path : List ℕ) (asked guid number : ℕ) (at : PortRef)
    (change : PortChange) (state : PortState) → IsGood fabric → stood ≡ Some fabric → (here : InfoThere fabric path asked guid number at)
    → CanBeReported change here.on → MayAsk here.info state → Fits (port_info (with_lid_and_enforcement change (shown_at at.port here.info)))
    → SetsAt stood left result path PortInfoAsked asked (port_info_bytes (with_state state (with_lid_and_enforcement change (shown_at at.port here.info))))
    → Leaves result left fabric (with_infos (on_port guid number (stepped change state)) fabric)
is_set fabric stood left result path asked guid number at change state good stands here can may fits sets =
    let info = here.info in
    let wanted = with_state state (with_lid_and_enforcement change (shown_at at.port info)) in
    let taken : port_info_after here.on info (port_setting (port_info_bytes wanted)) ≡ Ok (stepped change state info) =
    ap (port_info_after here.on info) (encoded_is_read.setting wanted (state_fits state (with_lid_and_enforcement change (shown_at at.port info)) fits))
    ∙ setting_taken here.on change.lid change.enforcement (port_state_code state) at.port info here.good can.lid can.enforces may in
    sets fabric stands (with_infos (on_port guid number (stepped change state)) fabric) good
    (info_takes fabric path asked guid number at good here (stepped change state) (port_info_bytes wanted) taken)
    (λ same. record {
      bytes = port_info_bytes (shown_at at.port (stepped change state info));
      given = info_gives fabric path asked guid number at good here (stepped change state) same;
      same = compares change state at.port info fits;
    })

-- ---- the state that is asked for first
may_arm : (active : Bool) (info : PortInfo) → MayAsk info (first_state active info.port_state)
may_arm active info = by (active && (info.port_state == 2)) refl
  where
    by : (b : Bool) → (active && (info.port_state == 2)) ≡ b → MayAsk info (if b then Armed else NoChange)
    by true is = let two = (and_parts active (info.port_state == 2) is).1 in rw two refl
    by false is = refl

may_ask : (info : PortInfo) → MayAsk info (state_asked info.port_state)
may_ask info = by (info.port_state == 2) (info.port_state == 3) refl refl
  where
    by : (a b : Bool) → (info.port_state == 2) ≡ a → (info.port_state == 3) ≡ b
        → MayAsk info (if a then Armed else (if b then Active else NoChange))
    by true b first second = rw first refl
    by false true first second = rw second refl
    by false false first second = refl

active_four : (state : ℕ) → nat_le 2 state && nat_le state 4 ≡ true → (state == 2) ≡ false → (state == 3) ≡ false → state ≡ 4
active_four state up first second = grind (arith, nat_tests, up, first, second)

-- one Set is enough
is_enough : (change : PortChange) (info : PortInfo) → is_up info ≡ true → (state_asked info.port_state ≡ Armed → ⊥)
    → stepped change (state_asked info.port_state) info ≡ with_state Active (with_lid_and_enforcement change info)
is_enough change info up other = by (info.port_state == 2) (info.port_state == 3) refl refl
  where
    by : (a b : Bool) → (info.port_state == 2) ≡ a → (info.port_state == 3) ≡ b
        → stepped change (state_asked info.port_state) info ≡ with_state Active (with_lid_and_enforcement change info)
    by true b first second = absurd (other (rw first refl))
    by false true first second = rw (first, second) (with_it change.lid change.enforcement 4 info)
    by false false first second =
        let four = active_four info.port_state up first second in
        rw (first, second) (with_it change.lid change.enforcement info.port_state info
        ∙ ap (λ (n : ℕ). record (with_lid_and_enforcement change info) { port_state = n }) four)

-- or none
is_four : (info : PortInfo) → is_up info ≡ true → state_asked info.port_state ≡ NoChange → info.port_state ≡ 4
is_four info up none = by (info.port_state == 2) (info.port_state == 3) refl refl none
  where
    by : (a b : Bool) → (info.port_state == 2) ≡ a → (info.port_state == 3) ≡ b → (if a then Armed else (if b then Active else NoChange)) ≡ NoChange
        → info.port_state ≡ 4
    by true b first second same = absurd (cc)
    by false true first second same = absurd (cc)
    by false false first second same = active_four info.port_state up first second

-- ---- what is known of the port
can_be_reported : (fabric : FabricState) (path : List ℕ) (asked guid number : ℕ) (change : PortChange) (takes : TakesChange fabric path asked guid number change)
    → (here : InfoThere fabric path asked guid number takes.leads.at) → CanBeReported change here.on
can_be_reported fabric path asked guid number change takes here = record {
  lid = takes.lid;
  enforces = λ some. sym here.on_is ∙ takes.enforces some;
}

-- what a Get is known to report
abbrev Reads : FabricState → List ℕ → ℕ → Result (List ℕ) PushFault → Type 0
Reads fabric path asked reported =
    (given : List ℕ) → gives_along fabric path PortInfoAsked asked ≡ Some (Ok given) → reported ≡ Ok given

same_Ok : (one other : List ℕ) → ◌≡◌ {A = Result (List ℕ) PushFault} (Ok one) (Ok other) → one ≡ other
same_Ok one other h = cc

-- it is reported, and no fault
pub no_refusal : (fabric : FabricState) (path : List ℕ) (asked guid number : ℕ) (change : PortChange) (fault : PushFault) → IsGood fabric
    → TakesChange fabric path asked guid number change → Reads fabric path asked (Err fault) → ⊥
no_refusal fabric path asked guid number change fault good takes reads =
    let at = takes.leads.at in
    let here = info_there fabric path asked guid number good takes.leads in
    let same = reads (port_info_bytes (shown_at at.port here.info)) (info_given fabric path asked guid number at good here) in
    absurd (cc)

-- what is read is what the port holds, and its bytes have nothing else
pub record IsRead (fabric : FabricState) (path : List ℕ) (asked guid number : ℕ) (at : PortRef) (bytes : List ℕ) (held : PortInfo) : Type 0 where
  pub here : InfoThere fabric path asked guid number at
  pub held_is : held ≡ shown_at at.port here.info
  pub fits : Fits (port_info held)
  pub bytes_are : bytes ≡ port_info_bytes held

pub is_read : (fabric : FabricState) (path : List ℕ) (asked guid number : ℕ) (bytes : List ℕ) (held : PortInfo) → IsGood fabric
    → (leads : LeadsToPort fabric path asked guid number) → Reads fabric path asked (Ok bytes) → Holds bytes (port_info held)
    → IsRead fabric path asked guid number leads.at bytes held
is_read fabric path asked guid number bytes held good leads reads holds =
    let at = leads.at in
    let here = info_there fabric path asked guid number good leads in
    let shown = shown_at at.port here.info in
    let fits = shown_fits at.port here.info here.good.fits here.small in
    let are : bytes ≡ port_info_bytes shown = same_Ok bytes (port_info_bytes shown) (reads (port_info_bytes shown) (info_given fabric path asked guid number at good here)) in
    let same : held ≡ shown = info_from bytes held shown fits are holds in
    record {
      here = here;
      held_is = same;
      fits = subst (λ (info : PortInfo). Fits (port_info info)) (sym same) fits;
      bytes_are = are ∙ ap port_info_bytes (sym same);
    }

-- so a Set over those bytes is one of the fields alone
pub sets_over : (stood left : Option FabricState) (result : Result (Unit {0}) PushFault) (path : List ℕ) (asked : ℕ) (bytes : List ℕ) (held info next : PortInfo)
    (state : PortState) → bytes ≡ port_info_bytes held → Fits (port_info held) → next ≡ with_state state info → Fits (port_info next)
    → SetsAt stood left result path PortInfoAsked asked (put_all bytes (port_info next))
    → SetsAt stood left result path PortInfoAsked asked (port_info_bytes (with_state state info))
sets_over stood left result path asked bytes held info next state are held_fits is fits sets =
    subst (SetsAt stood left result path PortInfoAsked asked)
    (ap (λ (some : List ℕ). put_all some (port_info next)) are ∙ info_over held next held_fits fits ∙ ap port_info_bytes is) sets

-- ---- the first round
is_armed : (change : PortChange) (info : PortInfo) → stepped change (first_state change.active info.port_state) info ≡ armed change info
is_armed change info = by (change.active && (info.port_state == 2))
  where
    by : (b : Bool)
        → stepped change (if b then Armed else NoChange) info ≡ with_lid_and_enforcement change (if b then with_state Armed info else info)
    by true = refl
    by false = refl

pub arms : (fabric : FabricState) (stood left : Option FabricState) (result : Result (Unit {0}) PushFault) (path : List ℕ) (asked guid number : ℕ)
    (change : PortChange) (bytes : List ℕ) (held wanted : PortInfo) (state : PortState) → IsGood fabric → stood ≡ Some fabric
    → (takes : TakesChange fabric path asked guid number change) → IsRead fabric path asked guid number takes.leads.at bytes held
    → wanted ≡ with_lid_and_enforcement change held → Fits (port_info wanted) → state ≡ first_state change.active held.port_state
    → SetsAt stood left result path PortInfoAsked asked (port_info_bytes (with_state state wanted))
    → Leaves result left fabric (with_infos (on_port guid number (armed change)) fabric)
arms fabric stood left result path asked guid number change bytes held wanted state good stands takes read reported_is fits state_is sets =
    let at = takes.leads.at in
    let here = read.here in
    let same = read.held_is in
    let wanted_is = reported_is ∙ ap (with_lid_and_enforcement change) same in
    let asks_for = first_state change.active here.info.port_state in
    let state_same : state ≡ asks_for = state_is ∙ ap (λ (info : PortInfo). first_state change.active info.port_state) same in
    let leaves = is_set fabric stood left result path asked guid number at change asks_for good stands here (can_be_reported fabric path asked guid number change takes here)
    (may_arm change.active here.info) (subst (λ (info : PortInfo). Fits (port_info info)) wanted_is fits)
    (subst (λ (info : PortInfo). SetsAt stood left result path PortInfoAsked asked (port_info_bytes info)) (λ i. with_state (state_same i) (wanted_is i)) sets) in
    subst (Leaves result left fabric)
    (info_alike fabric path asked guid number at good here (stepped change asks_for) (armed change) (is_armed change here.info)) leaves

on_none : (guid number : ℕ) (f : PortInfo → PortInfo) → ((info : PortInfo) → f info ≡ info) → (of_guid of_number : ℕ) (info : PortInfo)
    → on_port guid number f of_guid of_number info ≡ info
on_none guid number f each of_guid of_number info = by ((guid == of_guid) && (number == of_number))
  where
    by : (b : Bool) → (if b then f info else info) ≡ info
    by true = each info
    by false = refl

-- what a port shows that is changed already, it holds
unshown : (lid : Option ℕ) (enforcement : Option Bool) (shown : ℕ) (info : PortInfo)
    → change_of lid enforcement (shown_at shown info) ≡ shown_at shown info → change_of lid enforcement info ≡ info
unshown None None shown info same = refl
unshown None (Some on) shown info same = λ i. record info {
  partition_enforcement_inbound = ap (λ (one : PortInfo). one.partition_enforcement_inbound) same i;
  partition_enforcement_outbound = ap (λ (one : PortInfo). one.partition_enforcement_outbound) same i;
}
unshown (Some lid) None shown info same = λ i. record info {
  gid_prefix = ap (λ (one : PortInfo). one.gid_prefix) same i;
  lid = ap (λ (one : PortInfo). one.lid) same i;
  lmc = ap (λ (one : PortInfo). one.lmc) same i;
  master_sm_lid = ap (λ (one : PortInfo). one.master_sm_lid) same i;
}
unshown (Some lid) (Some on) shown info same = λ i. record info {
  gid_prefix = ap (λ (one : PortInfo). one.gid_prefix) same i;
  lid = ap (λ (one : PortInfo). one.lid) same i;
  lmc = ap (λ (one : PortInfo). one.lmc) same i;
  master_sm_lid = ap (λ (one : PortInfo). one.master_sm_lid) same i;
  partition_enforcement_inbound = ap (λ (one : PortInfo). one.partition_enforcement_inbound) same i;
  partition_enforcement_outbound = ap (λ (one : PortInfo). one.partition_enforcement_outbound) same i;
}

armed_same : (change : PortChange) (info : PortInfo) → first_state change.active info.port_state ≡ NoChange
    → with_lid_and_enforcement change info ≡ info → armed change info ≡ info
armed_same change info none same = by (change.active && (info.port_state == 2)) refl
  where
    by : (b : Bool) → (change.active && (info.port_state == 2)) ≡ b → with_lid_and_enforcement change (if b then with_state Armed info else info) ≡ info
    by true is =
        let armed : ◌≡◌ {A = PortState} Armed NoChange = subst (λ (b : Bool). (if b then Armed else NoChange) ≡ NoChange) is none in absurd (cc)
    by false is = same

-- a port that holds all of it is not set
pub arms_none : (fabric : FabricState) (stood : Option FabricState) (path : List ℕ) (asked guid number : ℕ) (change : PortChange) (bytes : List ℕ)
    (held wanted : PortInfo) (state : PortState) → IsGood fabric → stood ≡ Some fabric → (takes : TakesChange fabric path asked guid number change)
    → IsRead fabric path asked guid number takes.leads.at bytes held → wanted ≡ with_lid_and_enforcement change held
    → Fits (port_info wanted) → state ≡ first_state change.active held.port_state → Holds bytes (port_info held)
    → state ≡ NoChange → put_all bytes (port_info wanted) ≡ bytes
    → Leaves {X = Unit {0}} (Ok tt) stood fabric (with_infos (on_port guid number (armed change)) fabric)
arms_none fabric stood path asked guid number change bytes held wanted state good stands takes read wanted_is fits state_is holds none stay =
    let at = takes.leads.at in
    let here = read.here in
    let are : bytes ≡ port_info_bytes wanted =
    sym stay ∙ ap (λ (some : List ℕ). put_all some (port_info wanted)) read.bytes_are ∙ info_over held wanted read.fits fits in
    let same : wanted ≡ held = sym (info_from bytes held wanted fits are holds) in
    let asks_none : first_state change.active here.info.port_state ≡ NoChange =
    ap (λ (info : PortInfo). first_state change.active info.port_state) (sym read.held_is) ∙ sym state_is ∙ none in
    let shown : with_lid_and_enforcement change (shown_at at.port here.info) ≡ shown_at at.port here.info =
    ap (with_lid_and_enforcement change) (sym read.held_is) ∙ sym wanted_is ∙ same ∙ read.held_is in
    let stays = armed_same change here.info asks_none (unshown change.lid change.enforcement at.port here.info shown) in
    record {
      done = refl;
      stands = begins_as stood fabric (with_infos (on_port guid number (armed change)) fabric) stands good
          (info_alike fabric path asked guid number at good here (armed change) (λ info. info) stays
          ∙ parts_stay info_part (on_port guid number (λ info. info)) fabric (on_none guid number (λ info. info) (λ info. refl)));
    }

-- ---- the second round
-- a port that is to become Active, and nothing else
abbrev pub becomes : PortChange
becomes = record stays { active = true }

pub takes_active : (fabric : FabricState) (path : List ℕ) (asked guid number : ℕ) (change : PortChange) → change.active ≡ true
    → TakesChange fabric path asked guid number change → TakesChange fabric path asked guid number becomes
takes_active fabric path asked guid number change active takes = record {
  leads = takes.leads;
  lid = refl;
  enforces = λ some. absurd (false≢true some);
  up = λ is info held. takes.up active info held;
}

-- so that is what the port has
pub activates : (result : Result (Unit {0}) PushFault) (left : Option FabricState) (fabric : FabricState) (guid number : ℕ) (change : PortChange) → change.active ≡ true
    → Leaves result left fabric (with_infos (on_port guid number (with_state Active)) fabric)
    → Leaves result left fabric (with_infos (on_port guid number (activated change)) fabric)
activates result left fabric guid number change active leaves =
    subst (λ (b : Bool). Leaves result left fabric (with_infos (on_port guid number (λ info. if b then with_state Active info else info)) fabric))
    (sym active) leaves

-- one that is not to become Active
pub activates_none : (stood : Option FabricState) (fabric : FabricState) (guid number : ℕ) (change : PortChange) → change.active ≡ false → stood ≡ Some fabric
    → IsGood fabric → Leaves {X = Unit {0}} (Ok tt) stood fabric (with_infos (on_port guid number (activated change)) fabric)
activates_none stood fabric guid number change none stands good = record {
  done = refl;
  stands = begins_as stood fabric (with_infos (on_port guid number (activated change)) fabric) stands good
      (parts_stay info_part (on_port guid number (activated change)) fabric (on_none guid number (activated change) (λ info. rw none refl)));
}

-- what is read, and what is asked then
pub record Asks (fabric : FabricState) (path : List ℕ) (asked guid number : ℕ) (at : PortRef) (change : PortChange) (held wanted : PortInfo) (state : PortState) : Type 0 where
  pub here : InfoThere fabric path asked guid number at
  pub held_is : held ≡ shown_at at.port here.info
  pub wanted_is : wanted ≡ with_lid_and_enforcement change (shown_at at.port here.info)
  pub state_is : state ≡ state_asked here.info.port_state
  pub fits : Fits (port_info (with_lid_and_enforcement change (shown_at at.port here.info)))

pub asks : (fabric : FabricState) (path : List ℕ) (asked guid number : ℕ) (change : PortChange) (bytes : List ℕ) (held wanted : PortInfo) (state : PortState)
    → (takes : TakesChange fabric path asked guid number change) → IsRead fabric path asked guid number takes.leads.at bytes held
    → wanted ≡ with_lid_and_enforcement change held → Fits (port_info wanted) → state ≡ state_asked held.port_state
    → Asks fabric path asked guid number takes.leads.at change held wanted state
asks fabric path asked guid number change bytes held wanted state takes read reported_is fits state_is =
    let same = read.held_is in
    let wanted_is = reported_is ∙ ap (with_lid_and_enforcement change) same in
    record {
      here = read.here;
      held_is = same;
      wanted_is = wanted_is;
      state_is = state_is ∙ ap (λ (info : PortInfo). state_asked info.port_state) same;
      fits = subst (λ (info : PortInfo). Fits (port_info info)) wanted_is fits;
    }

pub set_first : (fabric : FabricState) (stood left : Option FabricState) (result : Result (Unit {0}) PushFault) (path : List ℕ) (asked guid number : ℕ)
    (change : PortChange) (held wanted : PortInfo) (state : PortState) → IsGood fabric → stood ≡ Some fabric
    → (takes : TakesChange fabric path asked guid number change) → (does : Asks fabric path asked guid number takes.leads.at change held wanted state)
    → SetsAt stood left result path PortInfoAsked asked (port_info_bytes (with_state state wanted))
    → Leaves result left fabric (with_infos (on_port guid number (stepped change (state_asked does.here.info.port_state))) fabric)
set_first fabric stood left result path asked guid number change held wanted state good stands takes does sets =
    let at = takes.leads.at in
    let here = does.here in
    let asks_for = state_asked here.info.port_state in
    is_set fabric stood left result path asked guid number at change asks_for good stands here (can_be_reported fabric path asked guid number change takes here)
    (may_ask here.info) does.fits
    (subst (λ (info : PortInfo). SetsAt stood left result path PortInfoAsked asked (port_info_bytes info))
    (λ i. with_state (does.state_is i) (does.wanted_is i)) sets)

pub set_once : (fabric : FabricState) (stood left : Option FabricState) (result : Result (Unit {0}) PushFault) (path : List ℕ) (asked guid number : ℕ)
    (change : PortChange) (held wanted : PortInfo) (state : PortState) → IsGood fabric → stood ≡ Some fabric
    → (takes : TakesChange fabric path asked guid number change) → (does : Asks fabric path asked guid number takes.leads.at change held wanted state)
    → change.active ≡ true → (state ≡ Armed → ⊥) → SetsAt stood left result path PortInfoAsked asked (port_info_bytes (with_state state wanted))
    → Leaves result left fabric (with_infos (on_port guid number (λ info. with_state Active (with_lid_and_enforcement change info))) fabric)
set_once fabric stood left result path asked guid number change held wanted state good stands takes does active other sets =
    let here = does.here in
    let leaves = set_first fabric stood left result path asked guid number change held wanted state good stands takes does sets in
    subst (Leaves result left fabric)
    (info_alike fabric path asked guid number takes.leads.at good here (stepped change (state_asked here.info.port_state))
    (λ info. with_state Active (with_lid_and_enforcement change info))
    (is_enough change here.info (takes.up active here.info here.held) (λ armed. other (does.state_is ∙ armed)))) leaves

-- none, if the port is Active
pub set_none : (fabric : FabricState) (stood : Option FabricState) (path : List ℕ) (asked guid number : ℕ) (held wanted : PortInfo) (state : PortState)
    → IsGood fabric → stood ≡ Some fabric → (takes : TakesChange fabric path asked guid number becomes)
    → (does : Asks fabric path asked guid number takes.leads.at becomes held wanted state) → state ≡ NoChange
    → Leaves {X = Unit {0}} (Ok tt) stood fabric (with_infos (on_port guid number (with_state Active)) fabric)
set_none fabric stood path asked guid number held wanted state good stands takes does none =
    let here = does.here in
    let four = is_four here.info (takes.up refl here.info here.held) (sym does.state_is ∙ none) in
    record {
      done = refl;
      stands = begins_as stood fabric (with_infos (on_port guid number (with_state Active)) fabric) stands good
          (info_alike fabric path asked guid number takes.leads.at good here (with_state Active) (λ info. info)
          (ap (λ (n : ℕ). record here.info { port_state = n }) (sym four))
          ∙ parts_stay info_part (on_port guid number (λ info. info)) fabric (on_none guid number (λ info. info) (λ info. refl)));
    }

-- ---- two Sets
own_port : {X : Type 0} (guid number : ℕ) (f : X → X) (x : X) → on_port guid number f guid number x ≡ f x
own_port guid number f x = rw (eq-eqb guid guid refl, eq-eqb number number refl) refl

on_twice : {X : Type 0} (guid number : ℕ) (f g h : X → X) → ((x : X) → f (g x) ≡ h x) → (of_guid of_number : ℕ) (x : X)
    → on_port guid number f of_guid of_number (on_port guid number g of_guid of_number x) ≡ on_port guid number h of_guid of_number x
on_twice guid number f g h each of_guid of_number x = by ((guid == of_guid) && (number == of_number))
  where
    by : (b : Bool) → (if b then f (if b then g x else x) else (if b then g x else x)) ≡ (if b then h x else x)
    by true = each x
    by false = refl

-- what the port has after the first
info_then : (fabric : FabricState) (path : List ℕ) (asked guid number : ℕ) (at : PortRef) (f : PortInfo → PortInfo) (here : InfoThere fabric path asked guid number at)
    (then_here : InfoThere (with_infos (on_port guid number f) fabric) path asked guid number at) → guid_at fabric at.node ≡ guid
    → then_here.info ≡ f here.info
info_then fabric path asked guid number at f here then_here is =
    same_Some _ _
    (sym then_here.held ∙ info_after (on_port guid number f) fabric (port at.node number)
    ∙ ap (λ (g : ℕ). option_map (on_port guid number f g number) (info_at fabric (port at.node number))) is
    ∙ ap (option_map (on_port guid number f guid number)) here.held
    ∙ ap (λ (info : PortInfo). Some info) (own_port guid number f here.info))

pub set_twice : (fabric : FabricState) (stood mid left : Option FabricState) (first result : Result (Unit {0}) PushFault) (path : List ℕ) (asked guid number : ℕ)
    (change : PortChange) (held wanted : PortInfo) (state : PortState) → IsGood fabric → stood ≡ Some fabric
    → (takes : TakesChange fabric path asked guid number change) → (does : Asks fabric path asked guid number takes.leads.at change held wanted state)
    → state ≡ Armed → SetsAt stood mid first path PortInfoAsked asked (port_info_bytes (with_state state wanted))
    → SetsAt mid left result path PortInfoAsked asked (port_info_bytes (with_state Active wanted))
    → Leaves result left fabric (with_infos (on_port guid number (λ info. with_state Active (with_lid_and_enforcement change info))) fabric)
set_twice fabric stood mid left first result path asked guid number change held wanted state good stands takes does armed sets later =
    let at = takes.leads.at in
    let here = does.here in
    let lid = change.lid in
    let enforcement = change.enforcement in
    let asked_first : state_asked here.info.port_state ≡ Armed = sym does.state_is ∙ armed in
    let leaves : Leaves first mid fabric (with_infos (on_port guid number (stepped change Armed)) fabric) =
    subst (λ (one : PortState). Leaves first mid fabric (with_infos (on_port guid number (stepped change one)) fabric)) asked_first
    (set_first fabric stood mid first path asked guid number change held wanted state good stands takes does sets) in
    let now = with_infos (on_port guid number (stepped change Armed)) fabric in
    let leads = port_on fabric now path asked guid number leaves.stands.shape takes.leads in
    let next = info_there now path asked guid number leaves.stands.good leads in
    let info : next.info ≡ stepped change Armed here.info = info_then fabric path asked guid number at (stepped change Armed) here next takes.leads.guid_is in
    let can : CanBeReported change next.on = record {
      lid = takes.lid;
      enforces = λ some. sym next.on_is
          ∙ ap (λ (b : Bool). b && nat_lt 0 number) (or_same is_switch false fabric.nodes now.nodes at.node leaves.stands.shape.switches) ∙ takes.enforces some;
    } in
    let code : next.info.port_state ≡ 3 = ap (λ (one : PortInfo). one.port_state) info ∙ state_then lid enforcement 3 here.info in
    let may : MayAsk next.info Active = rw code refl in
    let fits : Fits (port_info (with_lid_and_enforcement change (shown_at at.port next.info))) =
    subst (λ (one : PortInfo). Fits (port_info one))
    (sym (ap (λ (one : PortInfo). with_lid_and_enforcement change (shown_at at.port one)) info ∙ shown_reported lid enforcement at.port 3 here.info))
    (state_fits Armed (with_lid_and_enforcement change (shown_at at.port here.info)) does.fits) in
    let same : with_state Active wanted ≡ with_state Active (with_lid_and_enforcement change (shown_at at.port next.info)) =
    ap (with_state Active) does.wanted_is ∙ sym (shown_again lid enforcement at.port 4 3 here.info)
    ∙ ap (λ (one : PortInfo). with_state Active (with_lid_and_enforcement change (shown_at at.port one))) (sym info) in
    let second = is_set now mid left result path asked guid number at change Active leaves.stands.good leaves.stands.is next can may fits
    (subst (λ (one : PortInfo). SetsAt mid left result path PortInfoAsked asked (port_info_bytes one)) same later) in
    let both : (one : PortInfo) → stepped change Active (stepped change Armed one) ≡ with_state Active (with_lid_and_enforcement change one) =
    λ one. again lid enforcement 3 4 one ∙ with_it lid enforcement 4 one in
    goes_on result mid left fabric now _ _ leaves.stands second
    (parts_twice info_part (on_port guid number (stepped change Active)) (on_port guid number (stepped change Armed))
    (on_port guid number (λ info. with_state Active (with_lid_and_enforcement change info))) fabric
    (on_twice guid number (stepped change Active) (stepped change Armed) (λ info. with_state Active (with_lid_and_enforcement change info)) both))

-- ---- either round
pub arms_in : (result : Result (Unit {0}) PushFault) (left : Option FabricState) (fabric : FabricState) (guid number : ℕ) (change : PortChange) (round : Round)
    → round ≡ Arming → Leaves result left fabric (with_infos (on_port guid number (armed change)) fabric)
    → Leaves result left fabric (with_infos (on_port guid number (in_round round change)) fabric)
arms_in result left fabric guid number change round is leaves =
    subst (λ (one : Round). Leaves result left fabric (with_infos (on_port guid number (in_round one change)) fabric)) (sym is) leaves

pub activates_in : (result : Result (Unit {0}) PushFault) (left : Option FabricState) (fabric : FabricState) (guid number : ℕ) (change : PortChange) (round : Round)
    → round ≡ Activating → Leaves result left fabric (with_infos (on_port guid number (activated change)) fabric)
    → Leaves result left fabric (with_infos (on_port guid number (in_round round change)) fabric)
activates_in result left fabric guid number change round is leaves =
    subst (λ (one : Round). Leaves result left fabric (with_infos (on_port guid number (in_round one change)) fabric)) (sym is) leaves
