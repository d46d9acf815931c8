-- The keys of an end port are of different partitions, so a P_Key table that holds them means them.
use Rattle.std.proofs.Common.{ℕ, ◌≡◌, ◌-◌, ◌==◌, ◌∙◌, ap, refl, not, true, false, nat_eq, List, [], ◌∷◌, ◌++◌, length, replicate, Option, Some, None, arith}
use Rattle.std.specs.List.{AllByRecursion, IsDistinct, cons_option, list_all}
use Rattle.std.proofs.lemmas.Bool.{and_parts, leb-true}
use Rattle.std.proofs.lemmas.Bool.Decides.{nat_tests}
use Rattle.std.proofs.lemmas.List.{map-id}
use Rattle.std.proofs.lemmas.Map.Keys.{IsDistinct-cons, IsDistinct-head, IsDistinct-tail}
use Rattle.partition_file.proofs.MemberLemmas.{KeyOf, key_of_partition}
use Rattle.partition_file.specs.Members.{key_in, keys_in}
use Rattle.partition_file.specs.Sound.{IsSound, all_bases}
use Rattle.partition_file.specs.declared.partition.Partition.{Partition}
use Rattle.pkey_rules.proofs.StoredKeyLemmas.{keys_are_stored}
use Rattle.pkey_rules.specs.declared.end_port.EndPort.{EndPort}
use Rattle.pkey_rules.specs.declared.key_table.TheConstants.{PARTITIONS}
use Rattle.pkey_rules.specs.KeyTable.{same_base}
use Rattle.pkey_rules.specs.PKey.{base_of, is_base}
use Rattle.pkey_rules.specs.StoredKeys.{stored_keys}
use Rattle.step_results.proofs.ListLemmas.{IsDistinct-nil}
use Rattle.table_push.specs.Keys.{key_table}

-- a key is of none of the partitions of other bases
apart : (port : EndPort) (base key : ℕ) (partitions : List Partition) → base_of key ≡ base → list_all is_base (all_bases partitions) ≡ true
    → AllByRecursion (λ other. nat_eq base other ≡ false) (all_bases partitions) → AllByRecursion (λ other. same_base key other ≡ false) (keys_in partitions port)
apart port base key [] is valid far = tt
apart port base key (partition ∷ rest) is valid far =
    let parts = and_parts (is_base partition.base) (list_all is_base (all_bases rest)) valid in
    by (key_in port partition) (key_of_partition port partition parts.0) (apart port base key rest is parts.1 far.1)
  where
    by : (o : Option ℕ) → KeyOf partition.base o → AllByRecursion (λ other. same_base key other ≡ false) (keys_in rest port)
        → AllByRecursion (λ other. same_base key other ≡ false) (cons_option o (keys_in rest port))
    by None of later = later
    by (Some other) of later = (rw (is, of) far.0, later)

record AreOwn (keys : List ℕ) : Type 0 where
  named : list_all (λ key. not (base_of key == 0)) keys ≡ true
  own : IsDistinct same_base keys

known_distinct : (port : EndPort) (partitions : List Partition) → IsDistinct nat_eq (all_bases partitions) → list_all is_base (all_bases partitions) ≡ true
    → AreOwn (keys_in partitions port)
known_distinct port [] distinct valid = record { named = refl; own = IsDistinct-nil same_base }
known_distinct port (partition ∷ rest) distinct valid =
    let parts = and_parts (is_base partition.base) (list_all is_base (all_bases rest)) valid in
    by (key_in port partition) (key_of_partition port partition parts.0) parts.0 parts.1
    (known_distinct port rest (IsDistinct-tail nat_eq partition.base (all_bases rest) distinct) parts.1)
  where
    by : (o : Option ℕ) → KeyOf partition.base o → is_base partition.base ≡ true → list_all is_base (all_bases rest) ≡ true → AreOwn (keys_in rest port)
        → AreOwn (cons_option o (keys_in rest port))
    by None of base valid later = later
    by (Some key) of base valid later =
        let low = leb-true 1 partition.base (and_parts _ _ base).0 in
        let some : (base_of key == 0) ≡ false = grind (arith, nat_tests, low, of) in
        record {
          named = rw (some, later.named) refl;
          own =
              IsDistinct-cons same_base key (keys_in rest port)
              (apart port partition.base key rest of valid (IsDistinct-head nat_eq partition.base (all_bases rest) distinct)) later.own;
        }

pub stored : (port : EndPort) (partitions : List Partition) → IsSound partitions → stored_keys (key_table false (keys_in partitions port)) ≡ keys_in partitions port
stored port partitions sound =
    let keys = keys_in partitions port in
    let all = known_distinct port partitions sound.bases.distinct sound.bases.valid in
    ap (λ (held : List ℕ). stored_keys (held ++ replicate (PARTITIONS - length keys) 0)) (map-id keys)
    ∙ keys_are_stored keys (PARTITIONS - length keys) all.named all.own
