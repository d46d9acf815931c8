-- Why a request for records is refused (IBA volume 1, 13.4.7 and chapter 15).
use Rattle.std.specs.Prelude.{ℕ, Bool, not, ◌==◌, ◌&&◌, nat_le, if◌then◌else◌, List, [], ◌∷◌, Option, Some, None}
use Rattle.mad_layout.specs.declared.status.MadStatus.{MadStatus}
use Rattle.mad_layout.specs.declared.status.MadStatus.TheVariants.{RequestInvalid, InvalidGid, InsufficientComponents}
use Rattle.sa_records.specs.declared.path_record.PathRecord.{PathRecord}
use Rattle.sa_records.specs.McMemberMask as member_mask
use Rattle.sa_records.specs.PathMask as path_mask
use Rattle.subnet_model.specs.declared.subnet_port.SubnetPort.{SubnetPort}
use Rattle.sa_model.specs.Gid.{gid_of}
use Rattle.sa_model.specs.Selected.{Query, asks}

-- a question that is asked of a request, and the status by which it is refused if so it is
pub record Question : Type 0 where
  pub is_so : Bool
  pub status : MadStatus

abbrev pub refused_if : Bool → MadStatus → Question
refused_if is_so status = record { is_so = is_so; status = status }

-- they are asked in this order
abbrev pub first_refusal : List Question → Option MadStatus
first_refusal [] = None
first_refusal (question ∷ questions) = if question.is_so then Some question.status else first_refusal questions

-- ---- codes that stand for nothing. They are looked at if the code and its selector are both asked
abbrev pub is_mtu_code : ℕ → Bool
is_mtu_code code = nat_le 1 code && nat_le code 5

abbrev pub is_rate_code : ℕ → Bool
is_rate_code code = nat_le 2 code && nat_le code 10

abbrev pub asks_unknown_mtu : ℕ → ℕ → ℕ → Bool
asks_unknown_mtu mask bits code = asks mask bits && not (is_mtu_code code)

abbrev pub asks_unknown_rate : ℕ → ℕ → ℕ → Bool
asks_unknown_rate mask bits code = asks mask bits && not (is_rate_code code)

-- ---- a port asks for paths from itself
-- neither SGID nor SLID
abbrev pub has_no_sender : ℕ → Bool
has_no_sender mask = not (asks mask path_mask.sgid) && not (asks mask path_mask.slid)

-- another port's SGID
abbrev pub has_foreign_sgid : SubnetPort → ℕ → PathRecord → Bool
has_foreign_sgid own mask asked = asks mask path_mask.sgid && not (asked.sgid == gid_of own.guid)

-- NumbPath 0
abbrev pub wants_no_path : ℕ → PathRecord → Bool
wants_no_path mask asked = asks mask path_mask.numb_path && (asked.numb_path == 0)

-- ---- the questions of each kind
abbrev pub questions : SubnetPort → Query → List Question
questions own (Query.for_nodes mask asked) = []
questions own (Query.for_paths mask asked) =
    refused_if (has_no_sender mask) InsufficientComponents
    ∷ refused_if (has_foreign_sgid own mask asked) InvalidGid
    ∷ refused_if (wants_no_path mask asked) RequestInvalid
    ∷ refused_if (asks_unknown_mtu mask path_mask.mtu asked.mtu) RequestInvalid
    ∷ refused_if (asks_unknown_rate mask path_mask.rate asked.rate) RequestInvalid
    ∷ []
questions own (Query.for_groups mask asked) =
    refused_if (asks_unknown_mtu mask member_mask.mtu asked.mtu) RequestInvalid
    ∷ refused_if (asks_unknown_rate mask member_mask.rate asked.rate) RequestInvalid
    ∷ []
questions own (Query.for_services mask asked) = []

abbrev pub refusal : SubnetPort → Query → Option MadStatus
refusal own query = first_refusal (questions own query)
