-- Pairs that may talk by the tables alone, or by the file alone.
use Rattle.std.proofs.Common.{◌≡◌, ◌∙◌, ap₂, ℕ, Bool, true, false, not, ◌&&◌, List, Option, Some, None, map, is_some, refl, sym}
use Rattle.partition_reports.specs.declared.membership.Membership.{Membership}
use Rattle.partition_reports.specs.declared.membership.Membership.TheVariants.{Outside}
use Rattle.partition_reports.specs.declared.pairs.Member.{Member}
use Rattle.partition_reports.specs.declared.pairs.Pair.{Pair}
use Rattle.partition_reports.specs.PairLaws.{count_of_two, gain_and_pass}
use Rattle.partition_reports.specs.Membership.{is_member, may_talk, membership_of}
use Rattle.partition_reports.proofs.PairLawLemmas.{pairs_are_listed, talking_is_matching}
use Rattle.partition_reports.proofs.TwoLemmas.{pairs_mapped, two_places}
use Rattle.pkey_rules.specs.KeyTable.{shares_base}
use Rattle.pkey_rules.specs.PKey.{is_base}
use Rattle.fabric_parts.specs.declared.cable.PortRef.{PortRef}
use Rattle.audit_ports.specs.declared.port.AuditedPort.{AuditedPort}
use Rattle.audit_ports.specs.declared.port.HeldKeys.{HeldKeys}
use Rattle.audit_keys.specs.Laws.{PairsOfTablesAreTheirs, PairsOfTheFileAreIts, match_if_read, talk_alone, talk_by_file, talk_by_tables}
use Rattle.audit_keys.specs.Standing.{standing, standing_by, turned}

nobody_talks : (a : Membership) → may_talk a Outside ≡ false
nobody_talks a = none (is_member a)
  where
    none : (b : Bool) → (b && false) ≡ false
    none true = refl
    none false = refl

-- ---- what two ports are says whether their keys match
module _ (base : ℕ) (is : is_base base ≡ true) where
  by_tables : (p q : AuditedPort) (one other : Option HeldKeys)
      → may_talk (standing_by base p.port one p.file).after (standing_by base q.port other q.file).after ≡ match_if_read base one other
  by_tables p q None other = refl
  by_tables p q (Some one) None = nobody_talks (membership_of base one.keys)
  by_tables p q (Some one) (Some other) = talking_is_matching base one.keys other.keys is

  by_file : (p q : AuditedPort) (one other : Option HeldKeys)
      → may_talk (standing_by base p.port one p.file).before (standing_by base q.port other q.file).before
      ≡ ((is_some one && is_some other) && shares_base base p.file q.file)
  by_file p q None other = refl
  by_file p q (Some one) None = nobody_talks (membership_of base p.file)
  by_file p q (Some one) (Some other) = talking_is_matching base p.file q.file is

port_stands : (base : ℕ) (port : PortRef) (table : Option HeldKeys) (file : List ℕ) → (standing_by base port table file).port ≡ port
port_stands base port (Some table) file = refl
port_stands base port None file = refl

-- ---- by one reading and not by the other
module _ (f : AuditedPort → Member) (so other : AuditedPort → AuditedPort → Bool) (own_port : (p : AuditedPort) → (f p).port ≡ p.port)
    (is_so : (p q : AuditedPort) → may_talk (f p).after (f q).after ≡ so p q)
    (is_other : (p q : AuditedPort) → may_talk (f p).before (f q).before ≡ other p q) where
  gained_alone : (test : Pair → Bool) (p q : AuditedPort) → gain_and_pass test (f p) (f q) ≡ talk_alone so other test p q
  gained_alone test p q =
      ap₂ (λ a b. a && b) (ap₂ (λ a b. a && not b) (is_so p q) (is_other p q))
      (ap₂ (λ a b. test (record { first = a; second = b })) (own_port p) (own_port q))

  those_alone : (ports : List AuditedPort) (test : Pair → Bool)
      → count_of_two (gain_and_pass test) (map f ports) ≡ count_of_two (talk_alone so other test) ports
  those_alone ports test =
      two_places (gain_and_pass test) (map f ports)
      ∙ pairs_mapped f (gain_and_pass test) (talk_alone so other test) (gained_alone test) ports
      ∙ sym (two_places (talk_alone so other test) ports)

pub pairs_of_tables_are_theirs : PairsOfTablesAreTheirs
pairs_of_tables_are_theirs base ports test is =
    pairs_are_listed (map (standing base) ports) test
    ∙ those_alone (standing base) (talk_by_tables base) (talk_by_file base) (λ p. port_stands base p.port p.table p.file)
    (λ p q. by_tables base is p q p.table q.table) (λ p q. by_file base is p q p.table q.table) ports test

pub pairs_of_the_file_are_its : PairsOfTheFileAreIts
pairs_of_the_file_are_its base ports test is =
    pairs_are_listed (map (turned base) ports) test
    ∙ those_alone (turned base) (talk_by_file base) (talk_by_tables base) (λ p. refl)
    (λ p q. by_file base is p q p.table q.table) (λ p q. by_tables base is p q p.table q.table) ports test
