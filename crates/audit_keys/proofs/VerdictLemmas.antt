-- What the last line says.
use Rattle.std.proofs.Common.{◌≡◌, ◌∙◌, ap, ap₂, ℕ, Bool, true, false, not, ◌==◌, ◌&&◌, ◌||◌, List, ◌++◌, codes, Option, Some, None, refl, sym, slice_get, is_some, IfSome, inl, inr}
use Rattle.std.specs.Option.{option_map_or}
use Rattle.std.proofs.lemmas.Bool.{and_parts, cases_Bool, false≢true}
use Rattle.partition_file.specs.declared.partition.Partition.{Partition}
use Rattle.pkey_rules.specs.PKey.{base_of}
use Rattle.topo_file.specs.declared.node.Node.{Node}
use Rattle.audit_ports.specs.declared.port.AuditedPort.{AuditedPort}
use Rattle.audit_ports.specs.declared.port.Enforcement.{Enforcement}
use Rattle.audit_ports.specs.declared.port.FacingPort.{FacingPort}
use Rattle.audit_ports.specs.declared.port.HeldKeys.{HeldKeys}
use Rattle.audit_keys.specs.Differences.{agrees, all_agree, are_clean, carries_all, enforces, facing_fits_by, facing_fits_if_read, facing_differences, fits_if_enforced, fits_if_read, is_clean, keys_follow, keys_follow_if_read, port_differences, tables_fit, tables_fit_if_read}
use Rattle.audit_ports.specs.Held.{have_same_bases, have_same_keys}
use Rattle.audit_keys.specs.Laws.{FacingWasRead, FitsAsRead, FitsIfEnforced, HasKeys, HaveBases, HaveSameBases, HaveSameKeys, IsRight, IsRightAsRead, OfEach, TheVerdictIsTrue, WasRead}
use Rattle.audit_keys.specs.Text.{audit_of, counts_of, first_lines, later_lines, text_by, verdict, verdict_line}
use Rattle.audit_keys.proofs.LawLemmas.{all_mean, by_fits, lacking_none, mean_all, means_port, means_same, none_lacking, port_means, same_means, the_status_is_that_of_each_port}
use Rattle.std.specs.List.{flat_map}
use Rattle.step_results.proofs.BoolLemmas.{implied}

-- ---- what was read of a port
keys_mean : (table : Option HeldKeys) (file : List ℕ) → keys_follow_if_read table file ≡ true → IfSome table (λ (held : HeldKeys). HaveSameKeys held.keys file)
keys_mean None file is = tt
keys_mean (Some held) file is = same_means (λ key. key) held.keys file is

means_keys : (table : Option HeldKeys) (file : List ℕ) → IfSome table (λ (held : HeldKeys). HaveSameKeys held.keys file) → keys_follow_if_read table file ≡ true
means_keys None file same = refl
means_keys (Some held) file same = means_same (λ key. key) held.keys file same

fits_mean : (facing : FacingPort) (adapter : Option HeldKeys) → fits_if_read facing.enforcement facing.table adapter ≡ true → FitsAsRead facing adapter
fits_mean facing adapter is enforcement held other read on held_read other_read =
    let all_read : fits_if_read facing.enforcement facing.table adapter ≡ fits_if_read (Some enforcement) (Some held) (Some other) = rw (read, held_read, other_read) refl in
    same_means base_of held.keys other.keys (implied (enforces enforcement) (have_same_bases held.keys other.keys) (sym all_read ∙ is) on)

means_fits_by : (facing : FacingPort) (adapter : Option HeldKeys) (enforcement : Option Enforcement) (table other : Option HeldKeys) → facing.enforcement ≡ enforcement
    → facing.table ≡ table → adapter ≡ other → FitsAsRead facing adapter → fits_if_read enforcement table other ≡ true
means_fits_by facing adapter None table other e t o is = refl
means_fits_by facing adapter (Some enforcement) None other e t o is = by_fits (enforces enforcement) true (λ on. refl)
means_fits_by facing adapter (Some enforcement) (Some held) None e t o is = by_fits (enforces enforcement) true (λ on. refl)
means_fits_by facing adapter (Some enforcement) (Some held) (Some other) e t o is =
    by_fits (enforces enforcement) (have_same_bases held.keys other.keys) (λ on. means_same base_of held.keys other.keys (is enforcement held other e on t o))

facing_mean : (facing : Option FacingPort) (adapter : Option HeldKeys) → facing_fits_if_read facing adapter ≡ true
    → IfSome facing (λ (f : FacingPort). FitsAsRead f adapter)
facing_mean None adapter is = tt
facing_mean (Some facing) adapter is = fits_mean facing adapter is

means_facing : (facing : Option FacingPort) (adapter : Option HeldKeys) → IfSome facing (λ (f : FacingPort). FitsAsRead f adapter)
    → facing_fits_if_read facing adapter ≡ true
means_facing None adapter is = refl
means_facing (Some facing) adapter is = means_fits_by facing adapter facing.enforcement facing.table adapter refl refl refl is

read_means : (port : AuditedPort) → agrees port ≡ true → IsRightAsRead port
read_means port is =
    let parts = and_parts (keys_follow_if_read port.table port.file) (facing_fits_if_read port.facing port.table && carries_all port) is in
    let others = and_parts (facing_fits_if_read port.facing port.table) (carries_all port) parts.1 in
    record {
      keys = keys_mean port.table port.file parts.0;
      bases = facing_mean port.facing port.table others.0;
      trunks = none_lacking port.lacks others.1;
    }

means_read : (port : AuditedPort) → IsRightAsRead port → agrees port ≡ true
means_read port is =
    rw (means_keys port.table port.file is.keys, means_facing port.facing port.table is.bases) (lacking_none port is.trunks)

-- ---- a port that is right was read, and what was read is right
facing_was_read : (facing : Option FacingPort) (adapter : Option HeldKeys) → IfSome facing (λ (f : FacingPort). FitsIfEnforced f adapter)
    → IfSome facing FacingWasRead
facing_was_read None adapter fits = tt
facing_was_read (Some facing) adapter fits =
    record { enforcement = fits.enforcement; read = fits.read; table = λ on. ap (λ (table : Option HeldKeys). is_some table) (fits.bases on).read }

was_read : (port : AuditedPort) → IsRight port → WasRead port
was_read port right = record {
  table = ap (λ (table : Option HeldKeys). is_some table) right.keys.read;
  facing = facing_was_read port.facing port.table right.bases;
}

follow_too : (table : Option HeldKeys) (file : List ℕ) → keys_follow table file ≡ true → keys_follow_if_read table file ≡ true
follow_too None file is = absurd (false≢true is)
follow_too (Some held) file is = is

weaker : (a b c : Bool) → (b ≡ true → c ≡ true) → (a || b) ≡ true → (a || c) ≡ true
weaker true b c more is = refl
weaker false b c more is = more is

tables_too : (table adapter : Option HeldKeys) → tables_fit table adapter ≡ true → tables_fit_if_read table adapter ≡ true
tables_too None adapter is = refl
tables_too (Some held) None is = refl
tables_too (Some held) (Some other) is = is

fits_too : (enforcement : Option Enforcement) (table adapter : Option HeldKeys) → fits_if_enforced enforcement table adapter ≡ true
    → fits_if_read enforcement table adapter ≡ true
fits_too None table adapter is = refl
fits_too (Some enforcement) table adapter is =
    weaker (not (enforces enforcement)) (tables_fit table adapter) (tables_fit_if_read table adapter) (tables_too table adapter) is

facing_too : (facing : Option FacingPort) (adapter : Option HeldKeys) → facing_fits_by facing adapter ≡ true → facing_fits_if_read facing adapter ≡ true
facing_too None adapter is = refl
facing_too (Some facing) adapter is = fits_too facing.enforcement facing.table adapter is

right_as_read : (port : AuditedPort) → IsRight port → IsRightAsRead port
right_as_read port right =
    let parts = and_parts (keys_follow port.table port.file) (facing_fits_by port.facing port.table && carries_all port) (means_port port right) in
    let others = and_parts (facing_fits_by port.facing port.table) (carries_all port) parts.1 in
    let one = follow_too port.table port.file parts.0 in
    let other = facing_too port.facing port.table others.0 in
    read_means port (rw (one, other) others.1)

-- ---- and a port that was read, and of which what was read is right, is right
keys_right : (table : Option HeldKeys) (file : List ℕ) → is_some table ≡ true → IfSome table (λ (held : HeldKeys). HaveSameKeys held.keys file) → HasKeys table file
keys_right None file read same = absurd (false≢true read)
keys_right (Some held) file read same = record { held = held; read = refl; same = same }

bases_right : (table adapter : Option HeldKeys) → is_some table ≡ true → is_some adapter ≡ true
    → ((held other : HeldKeys) → table ≡ Some held → adapter ≡ Some other → HaveSameBases held.keys other.keys) → HaveBases table adapter
bases_right None adapter read other_read same = absurd (false≢true read)
bases_right (Some held) None read other_read same = absurd (false≢true other_read)
bases_right (Some held) (Some other) read other_read same =
    record { held = held; other = other; read = refl; other_read = refl; same = same held other refl refl }

facing_right : (facing : Option FacingPort) (adapter : Option HeldKeys) → is_some adapter ≡ true → IfSome facing FacingWasRead
    → IfSome facing (λ (f : FacingPort). FitsAsRead f adapter) → IfSome facing (λ (f : FacingPort). FitsIfEnforced f adapter)
facing_right None adapter read was fits = tt
facing_right (Some facing) adapter read was fits = record {
  enforcement = was.enforcement;
  read = was.read;
  bases = λ on. bases_right facing.table adapter (was.table on) read (λ held other one two. fits was.enforcement held other was.read on one two);
}

all_right : (port : AuditedPort) → WasRead port → IsRightAsRead port → IsRight port
all_right port was right = record {
  keys = keys_right port.table port.file was.table right.keys;
  bases = facing_right port.facing port.table was.table was.facing right.bases;
  trunks = right.trunks;
}

-- ---- the three lines differ, in the letter at 9 or at 20
abbrev has_letter : (place letter : ℕ) → List ℕ → Bool
has_letter place letter line = option_map_or (λ one. one == letter) (slice_get line place) false

clean_line : (clean agree : Bool) → verdict_line clean agree ≡ codes "verdict: the tables follow the file\n" → clean ≡ true
clean_line true agree line = refl
clean_line false true line = absurd (false≢true (ap (has_letter 9 0x74) line))
clean_line false false line = absurd (false≢true (ap (has_letter 20 0x66) line))

unread_line : (clean agree : Bool) → verdict_line clean agree ≡ codes "verdict: not all tables were read; those that were follow the file\n"
    → (clean ≡ false) × (agree ≡ true)
unread_line true agree line = absurd (false≢true (ap (has_letter 9 0x6e) line))
unread_line false true line = (refl, refl)
unread_line false false line = absurd (false≢true (ap (has_letter 9 0x6e) line))

differ_line : (clean agree : Bool) → verdict_line clean agree ≡ codes "verdict: the tables do not follow the file\n" → agree ≡ false
differ_line true agree line = absurd (false≢true (ap (has_letter 20 0x64) line))
differ_line false true line = absurd (false≢true (ap (has_letter 9 0x74) line))
differ_line false false line = refl

module _ (ports : List AuditedPort) where
  clean_means : are_clean ports ≡ true → OfEach IsRight ports
  clean_means clean = (the_status_is_that_of_each_port ports).0 clean

  means_clean : OfEach IsRight ports → are_clean ports ≡ true
  means_clean each = (the_status_is_that_of_each_port ports).1 each

  agree_means : all_agree ports ≡ true → OfEach IsRightAsRead ports
  agree_means agree = all_mean agrees IsRightAsRead read_means means_read ports agree

  means_agree : OfEach IsRightAsRead ports → all_agree ports ≡ true
  means_agree each = mean_all agrees IsRightAsRead read_means means_read ports each

  unread_means : verdict ports ≡ codes "verdict: not all tables were read; those that were follow the file\n" → (OfEach WasRead ports → ⊥) × OfEach IsRightAsRead ports
  unread_means line =
      let parts = unread_line (are_clean ports) (all_agree ports) line in
      let each = agree_means parts.1 in
      (λ read. false≢true (sym parts.0 ∙ means_clean (λ place port there. all_right port (read place port there) (each place port there))), each)

  means_unread : (OfEach WasRead ports → ⊥) → OfEach IsRightAsRead ports → verdict ports ≡ codes "verdict: not all tables were read; those that were follow the file\n"
  means_unread some each = elim (cases_Bool (are_clean ports)) [
    | inl clean ↦ absurd (some (λ place port there. was_read port (clean_means clean place port there)))
    | inr not_clean ↦ ap₂ verdict_line not_clean (means_agree each)
  ]

  means_differ : (OfEach IsRightAsRead ports → ⊥) → verdict ports ≡ codes "verdict: the tables do not follow the file\n"
  means_differ none = elim (cases_Bool (all_agree ports)) [
    | inl agree ↦ absurd (none (agree_means agree))
    | inr differ ↦ elim (cases_Bool (are_clean ports)) [
      | inl clean ↦ absurd (none (λ place port there. right_as_read port (clean_means clean place port there)))
      | inr not_clean ↦ ap₂ verdict_line not_clean differ
    ]
  ]

pub the_verdict_is_true : TheVerdictIsTrue
unfolding audit_of text_by
the_verdict_is_true = record {
  is = λ ports. record {
    follow = (
      λ line. clean_means ports (clean_line (are_clean ports) (all_agree ports) line),
      λ each. ap (λ (clean : Bool). verdict_line clean (all_agree ports)) (means_clean ports each),
    );
    some_unread = (unread_means ports, λ both. means_unread ports both.0 both.1);
    differ = (
      λ line each. false≢true (sym (differ_line (are_clean ports) (all_agree ports) line) ∙ means_agree ports each),
      means_differ ports,
    );
  };
  last = λ nodes all ports partitions.
      let keys = flat_map port_differences ports in
      let switches = flat_map facing_differences ports in
      record { before = first_lines nodes all ports keys ++ later_lines nodes ports partitions switches ++ counts_of ports keys switches; is = refl };
}
