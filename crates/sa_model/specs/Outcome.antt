-- What comes of a request for records (IBA volume 1, 15.2.2): one of them, a table of them, or a status that refuses it.
use Rattle.std.specs.Prelude.{List, [], ◌∷◌, Option, Some, None, Result, Ok, Err}
use Rattle.mad_layout.specs.declared.status.MadStatus.{MadStatus}
use Rattle.mad_layout.specs.declared.status.MadStatus.TheVariants.{NoRecords, TooManyRecords}
use Rattle.subnet_model.specs.declared.subnet_port.SubnetPort.{SubnetPort}
use Rattle.sa_model.specs.Visible.{SaState}
use Rattle.sa_model.specs.Shown.{Entry}
use Rattle.sa_model.specs.Selected.{Query, paths_wanted, selected}
use Rattle.sa_model.specs.Refusals.{refusal}

abbrev pub unless_status : {X : Type 0} → Option MadStatus → Result X MadStatus → Result X MadStatus
unless_status None outcome = outcome
unless_status (Some status) outcome = Err status

abbrev pub the_only_one : {X : Type 0} → List X → Result X MadStatus
the_only_one [] = Err NoRecords
the_only_one (x ∷ []) = Ok x
the_only_one (x ∷ y ∷ rest) = Err TooManyRecords

-- a Get is answered by one record; of several paths to one port the first is enough
abbrev pub got : List SubnetPort → SubnetPort → SaState → Query → Result Entry MadStatus
got ports own state query = unless_status (refusal own query) (the_only_one (selected (Some 1) ports own state query))

-- a GetTable is answered by all that is selected, none too
abbrev pub table : List SubnetPort → SubnetPort → SaState → Query → Result (List Entry) MadStatus
table ports own state query = unless_status (refusal own query) (Ok (selected (paths_wanted query) ports own state query))
