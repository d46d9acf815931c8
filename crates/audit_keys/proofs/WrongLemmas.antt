-- What wrong rules let pass, and what they refuse.
use Rattle.std.proofs.Common.{◌≡◌, ◌∙◌, ap, ℕ, ◌==◌, length, Bool, true, false, List, [], ◌∷◌, Option, Some, None, refl, sym}
use Rattle.std.proofs.lemmas.Bool.{false≢true}
use Rattle.std.proofs.lemmas.Option.{same_Some}
use Rattle.partition_reports.specs.declared.pairs.Pair.{Pair}
use Rattle.partition_reports.proofs.PairWrongLemmas.{all_counted, one_is_not_none}
use Rattle.pkey_rules.specs.KeyTable.{has_base, holds}
use Rattle.fabric_parts.specs.declared.cable.PortRef.{PortRef}
use Rattle.audit_ports.specs.declared.port.AuditedPort.{AuditedPort}
use Rattle.audit_ports.specs.declared.port.Enforcement.{Enforcement}
use Rattle.audit_ports.specs.declared.port.FacingPort.{FacingPort}
use Rattle.audit_ports.specs.declared.port.HeldKeys.{HeldKeys}
use Rattle.audit_ports.specs.declared.port.TrunkLack.{TrunkLack}
use Rattle.audit_keys.specs.Differences.{enforces}
use Rattle.audit_keys.specs.Laws.{FitsIfEnforced, HasKeys, HasThoseAlone, HaveBases, IsRight, talk_by_file, talk_by_tables}
use Rattle.audit_keys.specs.Standing.{only_by_file, only_by_tables}
use Rattle.audit_keys.specs.WrongRules.{BasesAreNotEnough, BothMayTalk, EmptyPlacesAreNoKeys, GapsDoNotEndTheTable, LimitedMembersDoNotTalk, MissingKeysCount, OneDirectionCounts, OwnTablesAreNotEnough, SwitchPortsCount, TrunksCount, UnreadPortsDoNotPass, UnreadSwitchPortsDoNotPass, UnreadTablesDoNotFollow, all_by_file, all_by_tables, members_by_file, members_by_tables}
use Rattle.audit_keys.proofs.PairLemmas.{pairs_of_tables_are_theirs, pairs_of_the_file_are_its}

abbrev at : PortRef
at = record { node = 0; port = 1 }

abbrev of : List ℕ → HeldKeys
of keys = record { keys = keys; is_full = false }

abbrev port_with : Option HeldKeys → List ℕ → Option FacingPort → AuditedPort
port_with table file facing = record {
  port = at;
  guid = 1;
  node_guid = 0;
  lid = 1;
  is_manager = false;
  moved = None;
  table = table;
  file = file;
  opensms = file;
  facing = facing;
  lacks = [];
}

abbrev nothing : {X : Type 0} → Option X
nothing = None

unread : {X : Type 0} (x : X) → nothing {X = X} ≡ Some x → ⊥
unread x read = absurd (cc)

kept : (keys file : List ℕ) (key : ℕ) → HasKeys (Some (of keys)) file → holds key keys ≡ holds key file
kept keys file key right =
    let same : of keys ≡ right.held = same_Some (of keys) right.held right.read in
    ap (λ (held : HeldKeys). holds key held.keys) same ∙ right.same key

bases_kept : (keys others : List ℕ) (base : ℕ) → HaveBases (Some (of keys)) (Some (of others)) → has_base base keys ≡ has_base base others
bases_kept keys others base both =
    let same : of keys ≡ both.held = same_Some (of keys) both.held both.read in
    let other : of others ≡ both.other = same_Some (of others) both.other both.other_read in
    ap (λ (held : HeldKeys). has_base base held.keys) same ∙ both.same base ∙ ap (λ (held : HeldKeys). has_base base held.keys) (sym other)

-- a full key stands where the file gives a limited one
pub bases_are_not_enough : BasesAreNotEnough
bases_are_not_enough law =
    let right : HasKeys (Some (of (0x8001 ∷ []))) (0x0001 ∷ []) = ((law (port_with (Some (of (0x8001 ∷ []))) (0x0001 ∷ []) None)).0 refl).keys in
    false≢true (sym (kept (0x8001 ∷ []) (0x0001 ∷ []) 0x8001 right))

-- a key is missing
pub missing_keys_count : MissingKeysCount
missing_keys_count law =
    let right : HasKeys (Some (of [])) (0x0001 ∷ []) = ((law (port_with (Some (of [])) (0x0001 ∷ []) None)).0 refl).keys in
    false≢true (kept [] (0x0001 ∷ []) 0x0001 right)

-- nothing is known of the port
pub unread_ports_do_not_pass : UnreadPortsDoNotPass
unread_ports_do_not_pass law =
    let right : HasKeys None (0x0001 ∷ []) = ((law (port_with None (0x0001 ∷ []) None)).0 refl).keys in
    unread right.held right.read

abbrev facing : Option Enforcement → FacingPort
facing enforcement = record { port = at; enforcement = enforcement; table = Some (of []) }

-- nothing is known of the switch port
pub unread_switch_ports_do_not_pass : UnreadSwitchPortsDoNotPass
unread_switch_ports_do_not_pass law =
    let right : FitsIfEnforced (facing None) (Some (of [])) = ((law (port_with (Some (of [])) [] (Some (facing None)))).0 refl).bases in
    unread right.enforcement right.read

-- the switch port drops packets, and lacks the base
abbrev lacking : Enforcement → AuditedPort
lacking enforcement = port_with (Some (of (0x0001 ∷ []))) (0x0001 ∷ []) (Some (facing (Some enforcement)))

lacks_none : (enforcement : Enforcement) → enforces enforcement ≡ true → IsRight (lacking enforcement) → ⊥
lacks_none enforcement on right =
    let fits : FitsIfEnforced (facing (Some enforcement)) (Some (of (0x0001 ∷ []))) = right.bases in
    let same : enforcement ≡ fits.enforcement = same_Some enforcement fits.enforcement fits.read in
    let both : HaveBases (Some (of [])) (Some (of (0x0001 ∷ []))) = fits.bases (ap enforces (sym same) ∙ on) in
    false≢true (bases_kept [] (0x0001 ∷ []) 1 both)

-- the switch port drops what comes in alone
pub one_direction_counts : OneDirectionCounts
one_direction_counts law =
    let half : Enforcement = record { inbound = true; outbound = false } in
    lacks_none half refl ((law (lacking half)).0 refl)

pub own_tables_are_not_enough : OwnTablesAreNotEnough
own_tables_are_not_enough law =
    let on : Enforcement = record { inbound = true; outbound = true } in
    lacks_none on refl ((law (lacking on)).0 refl)

-- ---- lists of pairs that a law makes as long as they are
as_many : (rule right : ℕ → List AuditedPort → List Pair) (so other : ℕ → AuditedPort → AuditedPort → Bool)
    → HasThoseAlone right so other → HasThoseAlone rule so other → (ports : List AuditedPort) → length (rule 1 ports) ≡ length (right 1 ports)
as_many rule right so other holds law ports =
    sym (all_counted (rule 1 ports)) ∙ law 1 ports (λ pair. true) refl ∙ sym (holds 1 ports (λ pair. true) refl) ∙ all_counted (right 1 ports)

abbrev two : (keys file : List ℕ) → List AuditedPort
two keys file = port_with (Some (of keys)) file None ∷ port_with (Some (of keys)) file None ∷ []

-- limited members of the partition, by the tables or by the file
pub limited_members_do_not_talk : LimitedMembersDoNotTalk
limited_members_do_not_talk = record {
  tables = λ law.
      one_is_not_none _ _ refl refl (as_many members_by_tables only_by_tables talk_by_tables talk_by_file pairs_of_tables_are_theirs law (two (0x0001 ∷ []) []));
  file = λ law.
      one_is_not_none _ _ refl refl (as_many members_by_file only_by_file talk_by_file talk_by_tables pairs_of_the_file_are_its law (two [] (0x0001 ∷ [])));
}

-- full members by both
pub both_may_talk : BothMayTalk
both_may_talk = record {
  tables = λ law.
      one_is_not_none _ _ refl refl (as_many all_by_tables only_by_tables talk_by_tables talk_by_file pairs_of_tables_are_theirs law (two (0x8001 ∷ []) (0x8001 ∷ [])));
  file = λ law.
      one_is_not_none _ _ refl refl (as_many all_by_file only_by_file talk_by_file talk_by_tables pairs_of_the_file_are_its law (two (0x8001 ∷ []) (0x8001 ∷ [])));
}

-- ---- last lines
-- nothing is known of the port
pub unread_tables_do_not_follow : UnreadTablesDoNotFollow
unread_tables_do_not_follow law =
    let port : AuditedPort = port_with None (0x0001 ∷ []) None in
    let right : HasKeys None (0x0001 ∷ []) = ((law (port ∷ [])).follow.0 refl 0 port refl).keys in
    unread right.held right.read

-- the switch port drops packets, and lacks the base
pub switch_ports_count : SwitchPortsCount
switch_ports_count law =
    let on : Enforcement = record { inbound = true; outbound = true } in
    lacks_none on refl ((law (lacking on ∷ [])).follow.0 refl 0 (lacking on) refl)

-- ---- a port between switches drops packets, and lacks a base
abbrev trunk : AuditedPort
trunk = record (port_with (Some (of (0x0001 ∷ []))) (0x0001 ∷ []) None) { lacks = (record { port = at; base = 1 }) ∷ [] }

trunk_lacks : IsRight trunk → ⊥
trunk_lacks right = false≢true (ap (λ (lacks : List TrunkLack). length lacks == 0) right.trunks)

pub trunks_count : TrunksCount
trunks_count = record {
  status = λ law. trunk_lacks ((law trunk).0 refl);
  line = λ law. trunk_lacks ((law (trunk ∷ [])).follow.0 refl 0 trunk refl);
}

-- ---- keys behind an empty place, and empty places
pub gaps_do_not_end_the_table : GapsDoNotEndTheTable
gaps_do_not_end_the_table law = false≢true (law (32769 ∷ []) 1 0 refl)

pub empty_places_are_no_keys : EmptyPlacesAreNoKeys
empty_places_are_no_keys law = false≢true (law (32769 ∷ []) 1 0 refl)
