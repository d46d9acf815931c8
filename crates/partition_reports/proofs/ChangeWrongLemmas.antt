-- What goes is reported twice by a wrong rule.
use Rattle.std.proofs.Common.{◌≡◌, ℕ, ◌+◌, Bool, true, false, not, ◌&&◌, List, [], ◌∷◌, Some, filter, refl, ap, ◌∙◌, arith}
use Rattle.std.specs.List.{IsDistinct, range_with_len}
use Rattle.std.proofs.lemmas.List.Sums.{sum_by-cons}
use Rattle.partition_reports.specs.WholeLines.{a_port}
use Rattle.partition_file.specs.declared.heading.Heading.{Heading}
use Rattle.pkey_rules.specs.KeyTable.{shares_base}
use Rattle.partition_reports.specs.Shares.{Share, shared_bases}
use Rattle.subnet_model.specs.declared.subnet_port.SubnetPort.{SubnetPort}
use Rattle.partition_reports.specs.Changes.{Change, same_group, same_member, same_partition, same_share}
use Rattle.partition_reports.specs.ChangeLaws.{AreSamePorts, ReportWhatChanges, goings, has_share, one_if}
use Rattle.partition_reports.specs.ChangeWrongRules.{TwiceIsNotOnce, twice}
use Rattle.partition_reports.proofs.KindLemmas.{groups_are_reported, partitions_are_reported}
use Rattle.partition_reports.proofs.MemberLemmas.{members_are_reported}
use Rattle.partition_reports.proofs.ShareReportedLemmas.{shares_are_reported}

-- ---- twice as many
doubled : {X : Type 0} (same : X → X → Bool) (x : X) (changes : List (Change X)) → goings same x (twice changes) ≡ goings same x changes + goings same x changes
doubled same x [] = refl
doubled same x (change ∷ changes) =
    let one : ℕ = one_if (not change.comes && same x change.what) in
    let rest = doubled same x changes in
    let first = sum_by-cons (λ c. one_if (not c.comes && same x c.what)) change changes in
    let again = sum_by-cons (λ c. one_if (not c.comes && same x c.what)) change (twice changes) in
    let both = sum_by-cons (λ c. one_if (not c.comes && same x c.what)) change (change ∷ twice changes) in
    omega (arith, rest, first, again, both)

pub too_many : {X : Type 0} (same : X → X → Bool) (was becomes : X → Bool) (changes : List (Change X)) → ReportWhatChanges same was becomes changes
    → (x : X) → (was x && not (becomes x)) ≡ true → ReportWhatChanges same was becomes (twice changes) → ⊥
too_many same was becomes changes right x goes wrong =
    let once : goings same x changes ≡ 1 = right.gone x ∙ ap one_if goes in
    let one : goings same x (twice changes) ≡ 1 = wrong.gone x ∙ ap one_if goes in
    omega (arith, once, one, doubled same x changes)

-- ---- a partition that goes, with its group
abbrev pub a_partition : Heading
a_partition = record { base = 1; name = []; group = Some (record { rate = 3; mtu = 4; service_level = 0; scope = 2; q_key = 1 }) }

-- ---- two ports that lose it
abbrev pub port_with : ℕ → List ℕ → SubnetPort
port_with guid keys = record a_port { guid = guid; keys = keys }

abbrev pub two_ports : List ℕ → List SubnetPort
two_ports keys = port_with 1 keys ∷ port_with 2 keys ∷ []

pub same_two : AreSamePorts (two_ports (0x8001 ∷ [])) (two_ports [])
unfolding IsDistinct
same_two = record { same = refl; own = ((refl, tt), (tt, tt)) }

abbrev a_share : Share
a_share = record { first = port_with 1 (0x8001 ∷ []); second = port_with 2 (0x8001 ∷ []); base = 1 }

none_of : (bases : List ℕ) → filter (λ base. shares_base base [] []) bases ≡ []
none_of [] = refl
none_of (base ∷ bases) = none_of bases

shared_before : has_share (two_ports (0x8001 ∷ [])) a_share ≡ true
unfolding shared_bases
shared_before = refl

none_shared : shared_bases [] [] ≡ []
unfolding shared_bases
none_shared = none_of (range_with_len 1 32767)

not_after : has_share (two_ports []) a_share ≡ false
not_after = rw none_shared refl

pub twice_is_not_once : TwiceIsNotOnce
twice_is_not_once = record {
  partitions = λ law. too_many same_partition _ _ _ (partitions_are_reported (a_partition ∷ []) []) (0, a_partition) refl (law (a_partition ∷ []) []);
  groups = λ law. too_many same_group _ _ _ (groups_are_reported (a_partition ∷ []) []) a_partition refl (law (a_partition ∷ []) []);
  members = λ law.
      too_many same_member _ _ _ (members_are_reported (two_ports (0x8001 ∷ [])) (two_ports []) (a_partition ∷ []) [] same_two) (port_with 1 [], 0x8001) refl
      (law (two_ports (0x8001 ∷ [])) (two_ports []) (a_partition ∷ []) [] same_two);
  shares = λ law.
      too_many same_share _ _ _ (shares_are_reported (two_ports (0x8001 ∷ [])) (two_ports []) same_two) a_share (rw (shared_before, not_after) refl)
      (law (two_ports (0x8001 ∷ [])) (two_ports []) same_two);
}
