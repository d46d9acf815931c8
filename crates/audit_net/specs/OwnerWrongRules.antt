-- Wrong rules for whose a LID is, and the law that each breaks.
use Rattle.std.specs.Prelude.{ℕ, ◌==◌, [], ◌∷◌, find, Option, option_map}
use Rattle.std.specs.Option.{option_or}
use Rattle.dump_file.specs.Row.{end_of}
use Rattle.dump_file.specs.Table.{rows_of}
use Rattle.audit_net.specs.OwnerLaws.{RowsComeFirst}
use Rattle.audit_net.specs.Net.{NetState}
use Rattle.audit_net.specs.SmallNets.{a_hole}

-- ---- what is reported counts more than what a row says
abbrev pub first_reported : NetState → ℕ → Option ℕ
first_reported net lid = option_map (λ one. one.guid) (find (λ one. one.lid == lid) net.plan.lids)

abbrev pub reported_first : NetState → ℕ → Option ℕ
reported_first net lid = option_or (first_reported net lid) (end_of lid (rows_of net.dump.tables))

-- rows give LID 1 to the port of GUID 257, which reports LID 2; another reports LID 1
abbrev pub two_say : NetState
two_say = record a_hole {
  plan = record a_hole.plan { lids = record { lid = 1; guid = 513 } ∷ record { lid = 2; guid = 257 } ∷ [] };
}

abbrev pub ReportsComeLast : Type 0
ReportsComeLast = RowsComeFirst reported_first → ⊥

-- ---- what a port reports counts beside the LID that a row gives it
abbrev pub also_reported : NetState → ℕ → Option ℕ
also_reported net lid = option_or (end_of lid (rows_of net.dump.tables)) (first_reported net lid)

abbrev pub OldLidsDoNotCount : Type 0
OldLidsDoNotCount = RowsComeFirst also_reported → ⊥

-- ---- nothing that is reported counts
abbrev pub by_rows_alone : NetState → ℕ → Option ℕ
by_rows_alone net lid = end_of lid (rows_of net.dump.tables)

abbrev pub one_reports : NetState
one_reports = record a_hole {
  plan = record a_hole.plan { lids = record { lid = 3; guid = 513 } ∷ [] };
}

abbrev pub ReportedLidsCount : Type 0
ReportedLidsCount = RowsComeFirst by_rows_alone → ⊥
