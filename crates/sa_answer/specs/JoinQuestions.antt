-- What is asked of a join by the partition of its base, in words that code computes.
use Rattle.std.specs.Prelude.{ℕ, Bool, not, List, [], ◌∷◌, Option, None, Some, find, is_none}
use Rattle.mad_layout.specs.declared.status.MadStatus.TheVariants.{RequestInvalid}
use Rattle.pkey_rules.specs.PKey.{base_of}
use Rattle.sa_records.specs.declared.mc_member_record.McMemberRecord.{McMemberRecord}
use Rattle.subnet_model.specs.declared.subnet_port.SubnetPort.{SubnetPort}
use Rattle.sa_model.specs.Anchor.{free_mlid}
use Rattle.sa_model.specs.Groups.{MulticastGroup, PartitionGroups}
use Rattle.sa_model.specs.Joining.{has_mgid}
use Rattle.sa_model.specs.Refusals.{Question, refused_if}
use Rattle.sa_replies.specs.Joins.{agrees_with, founding_by}

-- ---- what is asked of a join once its group is looked for: whether it agrees with the one that is there, or whether one may be
-- made, for which an MLID has to be free
abbrev pub questions_by : List SubnetPort → SubnetPort → ℕ → McMemberRecord → Bool → Option MulticastGroup → List Question
questions_by ports own mask asked has_free (Some group) = refused_if (not (agrees_with mask asked (base_of asked.p_key) group)) RequestInvalid ∷ []
questions_by ports own mask asked has_free None = founding_by ports own mask asked has_free

abbrev pub questions_in : List SubnetPort → SubnetPort → ℕ → McMemberRecord → PartitionGroups → List Question
questions_in ports own mask asked partition =
    questions_by ports own mask asked (not (is_none (free_mlid partition))) (find (has_mgid asked.mgid) partition.groups)
