-- Edges of what is said of tables: how many pairs are listed, when OpenSM dropped its file, and what enforces partitions.
use Rattle.std.specs.Prelude.{ℕ, ◌≡◌, true, false, List, [], ◌∷◌, ◌++◌, codes, flat_map, replicate, Option, Some, None}
use Rattle.fabric_parts.specs.Cable.{port}
use Rattle.partition_reports.specs.declared.pairs.Pair.{Pair}
use Rattle.audit_ports.specs.declared.port.AuditedPort.{AuditedPort}
use Rattle.audit_ports.specs.declared.port.HeldKeys.{HeldKeys}
use Rattle.audit_ports.specs.Names.{key_word}
use Rattle.audit_keys.specs.declared.apart.Wide.{Wide}
use Rattle.audit_keys.specs.Apart.{are_many, lines_of, pairs_by_file, pairs_of, ranked, wide_by, wide_line}
use Rattle.audit_keys.specs.Diagnosis.{fell_open, is_another, is_limited}
use Rattle.audit_keys.specs.Differences.{enforces, enforces_both, lacks_room}
use Rattle.audit_keys.specs.Standing.{are_listed, pairs_text, stray_by}
use Rattle.audit_keys.specs.Text.{are_off}

-- ---- 100 pairs are listed, and 101 are counted, unless all are asked for
abbrev pub pair : Pair
pair = record { first = port 0 1; second = port 1 1 }

pub record ManyPairsAreCounted : Type 0 where
  pub hundred : are_listed false (replicate 100 pair) ≡ true
  pub more : are_listed false (replicate 101 pair) ≡ false
  pub all : are_listed true (replicate 101 pair) ≡ true
  pub counted : pairs_text [] false (codes "- ") 0x123 (replicate 101 pair) ≡ codes "- pairs" ++ key_word 0x123 ++ codes " " ++ codes "101" ++ 10 ∷ []

-- ---- ports with these tables, of which `None` was not read
abbrev pub with_table : Option HeldKeys → AuditedPort
with_table table = record {
  port = port 0 1;
  guid = 33;
  node_guid = 32;
  lid = 1;
  is_manager = true;
  moved = None;
  table = table;
  file = 0x8001 ∷ [];
  opensms = 0x8001 ∷ [];
  facing = None;
  lacks = [];
}

abbrev pub holding : List ℕ → Option HeldKeys
holding keys = Some (record { keys = keys; is_full = false })

abbrev pub default : AuditedPort
default = with_table (holding (0xffff ∷ []))

pub record DroppedFilesAreSeen : Type 0 where
  pub read : fell_open (default ∷ with_table None ∷ default ∷ []) ≡ true
  pub nothing_read : fell_open (with_table None ∷ []) ≡ false
  pub no_key : fell_open (default ∷ with_table (holding []) ∷ []) ≡ false
  pub limited : fell_open (default ∷ with_table (holding (0x7fff ∷ [])) ∷ []) ≡ false
  pub another_key : fell_open (default ∷ with_table (holding (0xffff ∷ 0x8001 ∷ [])) ∷ []) ≡ false

-- ---- switch ports: one direction is enough to drop packets
pub record DirectionsAreRead : Type 0 where
  pub inbound : enforces (record { inbound = true; outbound = false }) ≡ true
  pub outbound : enforces (record { inbound = false; outbound = true }) ≡ true
  pub none : enforces (record { inbound = false; outbound = false }) ≡ false
  pub half : enforces_both (record { inbound = true; outbound = false }) ≡ false
  pub both : enforces_both (record { inbound = true; outbound = true }) ≡ true
  -- none of three drops anything, two of three do not, and there is none
  pub all_off : are_off 3 3 ≡ true
  pub some_off : are_off 3 2 ≡ false
  pub no_port : are_off 0 0 ≡ false

-- ---- partitions: of this base, with so many members by the tables and by the file
pub record StraysAreReported : Type 0 where
  pub stray : stray_by 0x1f 3 0 ≡ codes "stray" ++ key_word 0x1f ++ codes " " ++ codes "3" ++ 10 ∷ []
  pub absent : stray_by 0x1f 0 2 ≡ codes "absent" ++ key_word 0x1f ++ codes " " ++ codes "2" ++ 10 ∷ []
  pub known : stray_by 0x1f 3 2 ≡ []
  pub nowhere : stray_by 0x1f 0 0 ≡ []
  -- a full table explains them
  pub explained : is_another (codes "stray") true ≡ false
  pub another : is_another (codes "stray") false ≡ true
  -- and lacks room if it lacks a base of the file
  pub no_room : lacks_room (record { keys = 0xffff ∷ []; is_full = true }) (0x8001 ∷ []) ≡ true
  pub room : lacks_room (record { keys = 0xffff ∷ []; is_full = false }) (0x8001 ∷ []) ≡ false
  pub other_membership : lacks_room (record { keys = 1 ∷ []; is_full = true }) (0x8001 ∷ []) ≡ false
  -- a limited key of the default partition, or none, is not enough for the SM port
  pub no_full_key : is_limited (holding (0x7fff ∷ [])) ≡ true
  pub no_default_key : is_limited (holding (0x8001 ∷ [])) ≡ true
  pub full_key : is_limited (holding (0xffff ∷ [])) ≡ false
  pub unread : is_limited None ≡ false

-- ---- partitions in which the file lets many pairs talk: at least half of all
abbrev pub given : List ℕ → AuditedPort
given file = record default { file = file }

abbrev pub wide : (base count : ℕ) → Wide
wide base count = record { base = base; count = count }

pub record WidePartitionsAreReported : Type 0 where
  pub half : are_many 3 6 ≡ true
  pub fewer : are_many 2 6 ≡ false
  pub none : are_many 0 0 ≡ false
  pub two : pairs_of 2 ≡ 1
  pub four : pairs_of 4 ≡ 6
  pub alone : pairs_of 1 ≡ 0
  pub line : wide_by 0x7fff 6 6 ≡ wide 0x7fff 6 ∷ []
  -- those of one count by base; the ninth is counted
  pub ranked_so : ranked (wide 1 3 ∷ wide 2 6 ∷ wide 3 3 ∷ wide 4 5 ∷ []) ≡ wide 2 6 ∷ wide 4 5 ∷ wide 1 3 ∷ wide 3 3 ∷ []
  pub eight : lines_of 6 (replicate 8 (wide 1 3)) ≡ flat_map (wide_line 6) (replicate 8 (wide 1 3)) ++ []
  pub nine : lines_of 6 (replicate 9 (wide 1 3))
      ≡ flat_map (wide_line 6) (replicate 8 (wide 1 3)) ++ codes "# in 1 more partitions the file lets at least half of all pairs talk\n"
  pub no_line : wide_by 0x7fff 2 6 ≡ []
  -- by the file, whatever stands; two limited members may not talk, and a port that was not read is left out
  pub pairs : pairs_by_file 1 (given (0x8001 ∷ []) ∷ given (1 ∷ []) ∷ given (1 ∷ []) ∷ given [] ∷ with_table None ∷ [])
      ≡ record { first = port 0 1; second = port 0 1 } ∷ record { first = port 0 1; second = port 0 1 } ∷ []
