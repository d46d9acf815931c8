-- The keys of a port report of which partitions it is a member.
use Rattle.std.proofs.Common.{◌≡◌, ℕ, true, false, nat_eq, List, [], ◌∷◌, Option, Some, None, refl, ◌∙◌, arith}
use Rattle.std.specs.List.{AllByRecursion, IsDistinct, list_all, cons_option}
use Rattle.std.proofs.lemmas.Bool.{and_parts, eq-eqb}
use Rattle.std.proofs.lemmas.Bool.Decides.{nat_tests}
use Rattle.std.proofs.lemmas.List.Elements.{All-from_recursion}
use Rattle.std.proofs.lemmas.Map.Keys.{IsDistinct-head, IsDistinct-tail}
use Rattle.pkey_rules.specs.declared.end_port.EndPort.{EndPort}
use Rattle.pkey_rules.specs.KeyTable.{find_base}
use Rattle.pkey_rules.specs.PKey.{is_base}
use Rattle.partition_file.specs.declared.partition.Partition.{Partition}
use Rattle.partition_file.proofs.MemberLemmas.{KeyOf, key_of_partition}
use Rattle.partition_file.specs.Laws.{KeysReportMembership}
use Rattle.partition_file.specs.Members.{key_in, keys_in}
use Rattle.partition_file.specs.Sound.{all_bases}

-- a key of this base, if there is one, is found before all others
found_first : (base : ℕ) (key : Option ℕ) (rest : List ℕ) → KeyOf base key → find_base base rest ≡ None → find_base base (cons_option key rest) ≡ key
found_first base None rest is none = none
found_first base (Some key) rest is none = rw (is, eq-eqb base base refl) refl

-- a key of another base is passed by
passed_by : (base other : ℕ) (key : Option ℕ) (rest : List ℕ) → KeyOf base key → nat_eq base other ≡ false → find_base other (cons_option key rest) ≡ find_base other rest
passed_by base other None rest is apart = refl
passed_by base other (Some key) rest is apart = rw (is, apart) refl

none_of_base : (port : EndPort) (base : ℕ) (partitions : List Partition) → list_all is_base (all_bases partitions) ≡ true
    → AllByRecursion (λ other. nat_eq base other ≡ false) (all_bases partitions)
    → find_base base (keys_in partitions port) ≡ None
none_of_base port base [] valid apart = refl
none_of_base port base (partition ∷ rest) valid apart =
    let parts = and_parts (is_base partition.base) (list_all is_base (all_bases rest)) valid in
    passed_by partition.base base (key_in port partition) (keys_in rest port) (key_of_partition port partition parts.0) (either_way base partition.base apart.0)
    ∙ none_of_base port base rest parts.1 apart.1
  where
    either_way : (a b : ℕ) → nat_eq a b ≡ false → nat_eq b a ≡ false
    either_way a b h = grind (arith, nat_tests)

abbrev AllReported : List ℕ → EndPort → List Partition → Type 0
AllReported keys port some = AllByRecursion (λ partition. find_base partition.base keys ≡ key_in port partition) some

-- one more key in front, of a base apart from theirs
all_passed_by : (port : EndPort) (base : ℕ) (key : Option ℕ) (keys : List ℕ) (some : List Partition) → KeyOf base key
    → AllByRecursion (λ other. nat_eq base other ≡ false) (all_bases some) → AllReported keys port some → AllReported (cons_option key keys) port some
all_passed_by port base key keys [] is apart reported = tt
all_passed_by port base key keys (partition ∷ rest) is apart reported =
    (passed_by base partition.base key keys is apart.0 ∙ reported.0, all_passed_by port base key keys rest is apart.1 reported.1)

all_reported : (port : EndPort) (partitions : List Partition) → IsDistinct nat_eq (all_bases partitions) → list_all is_base (all_bases partitions) ≡ true
    → AllReported (keys_in partitions port) port partitions
all_reported port [] distinct valid = tt
all_reported port (partition ∷ rest) distinct valid =
    let parts = and_parts (is_base partition.base) (list_all is_base (all_bases rest)) valid in
    let apart = IsDistinct-head nat_eq partition.base (all_bases rest) distinct in
    let is = key_of_partition port partition parts.0 in (
      found_first partition.base (key_in port partition) (keys_in rest port) is (none_of_base port partition.base rest parts.1 apart),
      all_passed_by port partition.base (key_in port partition) (keys_in rest port) rest is apart
          (all_reported port rest (IsDistinct-tail nat_eq partition.base (all_bases rest) distinct) parts.1),
    )

pub keys_report_membership : KeysReportMembership
keys_report_membership partitions port sound =
    All-from_recursion (λ partition. find_base partition.base (keys_in partitions port) ≡ key_in port partition) partitions
    (all_reported port partitions sound.bases.distinct sound.bases.valid)
