-- The types of nodes, by their codes.
use Rattle.std.proofs.Common.{ℕ, ◌≡◌, refl, sym, ◌==◌, Bool, true, false, if◌then◌else◌, Option, Some, None, Err}
use Rattle.std.proofs.lemmas.Bool.Decides.{Decides-eqb}
use Rattle.fabric_parts.specs.NodeType.{node_type_code}
use Rattle.fabric_parts.specs.declared.node_type.NodeType.{NodeType}
use Rattle.fabric_parts.specs.declared.node_type.NodeType.TheVariants as node_type
use Rattle.attr_tables.specs.declared.node_info.NodeInfo.{NodeInfo}
use Rattle.sweep.specs.Seen.{seen_of}
use Rattle.sweep.specs.declared.fault.SweepFault.TheVariants.{WrongReply}

abbrev pub none : Option NodeType
none = None

no_type_by : (code : ℕ) (adapter switch : Bool) → (code == 1) ≡ adapter → (code == 2) ≡ switch
    → ((kind : NodeType) → node_type_code kind ≡ code → none ≡ Some kind)
    → (if adapter then Some node_type.ChannelAdapter else (if switch then Some node_type.Switch else None)) ≡ none
no_type_by code true switch a s every = sym (every node_type.ChannelAdapter (sym ((Decides-eqb code 1).0 a)))
no_type_by code false true a s every = sym (every node_type.Switch (sym ((Decides-eqb code 2).0 s)))
no_type_by code false false a s every = refl

-- a code of no type
pub no_type : (info : NodeInfo) → ((kind : NodeType) → node_type_code kind ≡ info.node_type → none ≡ Some kind)
    → seen_of info ≡ Err WrongReply
unfolding seen_of
no_type info every = rw (no_type_by info.node_type (info.node_type == 1) (info.node_type == 2) refl refl every) refl
