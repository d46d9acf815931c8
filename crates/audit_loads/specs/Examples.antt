-- What is printed, in examples: the two switches of `WrongRules.antt`, each with a host.
use Rattle.std.specs.Prelude.{ℕ, ◌≡◌, Bool, true, false, List, [], ◌∷◌, ◌++◌, codes, Some, None}
use Rattle.dump_file.specs.declared.destination.Destination.TheVariants as destinations
use Rattle.dump_file.specs.declared.row.Row.{Row}
use Rattle.dump_file.specs.declared.table.Table.{Table}
use Rattle.fabric_parts.specs.Cable.{port}
use Rattle.fabric_parts.specs.declared.cable.PortRef.{PortRef}
use Rattle.audit_net.specs.declared.lids.Aim.{Aim}
use Rattle.audit_net.specs.Net.{NetState}
use Rattle.audit_plan.specs.Plan.{plan_of}
use Rattle.audit_loads.specs.declared.loaded.Loaded.{Loaded}
use Rattle.audit_loads.specs.declared.talk.PortKeys.{PortKeys}
use Rattle.audit_loads.specs.Loads.{least_of, mean_of, ratio_of}
use Rattle.audit_loads.specs.Sources.{attached, pairs_by, sends}
use Rattle.audit_loads.specs.Talk.{may_talk}
use Rattle.audit_loads.specs.Text.{hundredths, text_by}
use Rattle.audit_loads.specs.WrongRules.{a_plan}

-- LID 1 is h/1's, and LID 2 is k/1's
abbrev pub row_to : (lid number guid : ℕ) → Row
row_to lid number guid = record { lid = lid; port = number; destination = destinations.ChannelAdapter guid }

abbrev pub table_to : (guid first second : ℕ) → Table
table_to guid first second = record { line = 1; guid = guid; top = 2; rows = row_to 1 first 257 ∷ row_to 2 second 513 ∷ [] }

-- the ports by which A and B forward the two
abbrev pub with_ports : (first second third fourth : ℕ) → NetState
with_ports first second third fourth =
    record { plan = plan_of a_plan; dump = record { tables = table_to 16 first second ∷ table_to 32 third fourth ∷ [] } }

abbrev pub of_a_alone : (first second : ℕ) → NetState
of_a_alone first second = record { plan = plan_of a_plan; dump = record { tables = table_to 16 first second ∷ [] } }

abbrev pub both : List Aim
both = record { lid = 1; guid = Some 257; end = Some (port 2 1) } ∷ record { lid = 2; guid = Some 513; end = Some (port 3 1) } ∷ []

abbrev pub shown : NetState → (talk : PortRef → PortRef → Bool) → List ℕ
shown net talk = text_by net (pairs_by net talk both)

-- the P_Key of each of the two hosts' ports
abbrev pub by_keys : (first second : ℕ) → PortRef → PortRef → Bool
by_keys first second = may_talk (Some (record { at = port 2 1; keys = first ∷ [] } ∷ record { at = port 3 1; keys = second ∷ [] } ∷ []))

abbrev pub line : List ℕ → List ℕ
line text = text ++ 10 ∷ []

pub record TextsAreSo : Type 0 where
  -- each host reaches the other
  pub even :
      shown (with_ports 1 2 2 1) (may_talk None)
      ≡ line (codes "load A/2 B/2 1") ++ line (codes "load B/2 A/2 1") ++ line (codes "most 1") ++ line (codes "least 1") ++ line (codes "mean 1.00")
      ++ line (codes "level 0 across most 1 mean 1.00 ratio 1.00") ++ line (codes "pairs 2, lost 0, unknown 0")
  -- B has no port for LID 2, and sends LID 1 to a port without a cable
  pub lost :
      shown (with_ports 1 2 9 255) (may_talk None)
      ≡ line (codes "load A/2 B/2 1") ++ line (codes "load B/2 A/2 0") ++ line (codes "most 1") ++ line (codes "least 0") ++ line (codes "mean 0.50")
      ++ line (codes "level 0 across most 1 mean 0.50 ratio 2.00") ++ line (codes "pairs 2, lost 2, unknown 0")
  -- A and B send LID 2 to one another: its pair counts once on each
  pub looped :
      shown (with_ports 1 2 2 2) (may_talk None)
      ≡ line (codes "load B/2 A/2 2") ++ line (codes "load A/2 B/2 1") ++ line (codes "most 2") ++ line (codes "least 1") ++ line (codes "mean 1.50")
      ++ line (codes "level 0 across most 2 mean 1.50 ratio 1.33") ++ line (codes "pairs 2, lost 1, unknown 0")
  -- of B the dump has no table
  pub unknown :
      shown (of_a_alone 1 2) (may_talk None)
      ≡ line (codes "load A/2 B/2 1") ++ line (codes "load B/2 A/2 0") ++ line (codes "most 1") ++ line (codes "least 0") ++ line (codes "mean 0.50")
      ++ line (codes "level 0 across most 1 mean 0.50 ratio 2.00") ++ line (codes "pairs 2, lost 0, unknown 2")
  -- h is a full member of a partition, and k a limited one
  pub shared : shown (with_ports 1 2 2 1) (by_keys 0x8001 1) ≡ shown (with_ports 1 2 2 1) (may_talk None)
  -- both are limited
  pub apart :
      shown (with_ports 1 2 2 1) (by_keys 1 1)
      ≡ line (codes "load A/2 B/2 0") ++ line (codes "load B/2 A/2 0") ++ line (codes "most 0") ++ line (codes "least 0") ++ line (codes "mean 0.00")
      ++ line (codes "level 0 across most 0 mean 0.00 ratio 0.00") ++ line (codes "pairs 0, lost 0, unknown 0")
  pub small_mean : hundredths 7 ≡ codes "0.07"
  pub great_mean : hundredths 12345 ≡ codes "123.45"

-- ---- means and ratios are rounded down
abbrev pub with_load : ℕ → Loaded
with_load load = record { load = load; at = port 0 1 }

pub record FractionsAreRoundedDown : Type 0 where
  pub mean : mean_of (with_load 2 ∷ with_load 0 ∷ with_load 0 ∷ []) ≡ 66
  pub ratio : ratio_of (with_load 5 ∷ with_load 2 ∷ with_load 0 ∷ []) ≡ 214
  pub none : ratio_of (with_load 0 ∷ []) ≡ 0
  pub least : least_of (with_load 3 ∷ with_load 2 ∷ with_load 5 ∷ []) ≡ 2

-- ---- who sends: each host's port, to each other one, also of its own host; an aggregation node sends nothing and is sent nothing
abbrev pub with_aggregation : NetState
with_aggregation =
    record { plan = record (plan_of a_plan) { aggregation = false ∷ false ∷ true ∷ [] }; dump = record { tables = [] } }

-- the keys of a port are those that stand first
abbrev pub twice_listed : List PortKeys
twice_listed = record { at = port 2 1; keys = 1 ∷ [] } ∷ record { at = port 2 1; keys = 0x8002 ∷ [] } ∷ record { at = port 3 1; keys = 2 ∷ [] } ∷ []

pub record PortsSendToOthers : Type 0 where
  pub of_one_host : sends (may_talk None) (port 2 1) (port 2 2) ≡ true
  pub itself : sends (may_talk None) (port 2 1) (port 2 1) ≡ false
  pub attached_hosts : attached (with_ports 1 2 2 1) 0 ≡ port 2 1 ∷ []
  pub aggregation_node : attached with_aggregation 0 ≡ []
  pub to_aggregation_node : pairs_by with_aggregation (may_talk None) both ≡ []
  pub keys_that_stand_first : may_talk (Some twice_listed) (port 2 1) (port 3 1) ≡ false
  pub of_no_key : may_talk (Some twice_listed) (port 2 1) (port 9 1) ≡ false
