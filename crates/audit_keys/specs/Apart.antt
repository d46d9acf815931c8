-- How apart the partition file itself keeps the ports: the partitions in which it lets at least half of all pairs talk, those in which
-- most may first.
use Rattle.std.specs.Prelude.{ℕ, Bool, not, ◌-◌, ◌*◌, ◌/◌, ◌==◌, ◌&&◌, List, [], ◌∷◌, ◌++◌, codes, count_by, decimal, flat_map, fold, length, map, nat_le, nat_lt, take, if◌then◌else◌}
use Rattle.std.specs.List.{insert, position_or_len, range_with_len}
use Rattle.partition_reports.specs.declared.membership.Membership.TheVariants.{Outside}
use Rattle.partition_reports.specs.declared.pairs.Member.{Member}
use Rattle.partition_reports.specs.declared.pairs.Pair.{Pair}
use Rattle.partition_reports.specs.ChangedPairs.{new_pairs}
use Rattle.audit_ports.specs.declared.port.AuditedPort.{AuditedPort}
use Rattle.audit_ports.specs.Names.{key_word}
use Rattle.audit_keys.specs.declared.apart.Wide.{Wide}
use Rattle.audit_keys.specs.Diagnosis.{is_read}
use Rattle.audit_keys.specs.Standing.{standing}

-- ---- the pairs that may talk by the file in the partition of a base: of ports that were read, as everywhere
abbrev pub by_file : ℕ → AuditedPort → Member
by_file base port = record { port = port.port; after = (standing base port).before; before = Outside }

abbrev pub pairs_by_file : ℕ → List AuditedPort → List Pair
pairs_by_file base ports = new_pairs (map (by_file base) ports)

-- of so many ports
abbrev pub pairs_of : ℕ → ℕ
pairs_of count = count * (count - 1) / 2

-- ---- those in which at least half of the pairs may talk
abbrev pub are_many : (count total : ℕ) → Bool
are_many count total = not (count == 0) && nat_le (total - count) count

abbrev pub wide_by : (base count total : ℕ) → List Wide
wide_by base count total = if are_many count total then record { base = base; count = count } ∷ [] else []

unfoldable pub wide_at : List AuditedPort → ℕ → List Wide
wide_at ports base = wide_by base (length (pairs_by_file base ports)) (pairs_of (count_by is_read ports))

unfoldable pub all_wide : List AuditedPort → List Wide
all_wide ports = flat_map (wide_at ports) (range_with_len 1 32767)

-- ---- each behind those in which as many pairs may talk
abbrev pub place_behind : ℕ → List Wide → ℕ
place_behind count all = position_or_len (λ one. nat_lt one.count count) all

abbrev pub ranked_with : List Wide → Wide → List Wide
ranked_with all one = insert all (place_behind one.count all) one

abbrev pub ranked : List Wide → List Wide
ranked all = fold ranked_with [] all

-- a step of the code: that of one base
abbrev pub wide_with : List AuditedPort → List Wide → ℕ → List Wide
wide_with ports all base = fold ranked_with all (wide_at ports base)

-- ---- `by the file: 28 of 28 pairs may talk in 0x7fff`, of eight partitions; those behind them are counted
unfoldable pub wide_line : (total : ℕ) → Wide → List ℕ
wide_line total one =
    codes "by the file: " ++ decimal one.count ++ codes " of " ++ decimal total ++ codes " pairs may talk in" ++ key_word one.base ++ 10 ∷ []

unfoldable pub more_line : ℕ → List ℕ
more_line count =
    if count == 0 then [] else codes "# in " ++ decimal count ++ codes " more partitions the file lets at least half of all pairs talk\n"

unfoldable pub lines_of : (total : ℕ) → List Wide → List ℕ
lines_of total all = flat_map (wide_line total) (take 8 all) ++ more_line (length all - 8)

unfoldable pub wide_lines : List AuditedPort → List ℕ
wide_lines ports = lines_of (pairs_of (count_by is_read ports)) (ranked (all_wide ports))
