-- What holds of the agent of every node, in the terms of the requester.
use Rattle.std.specs.Int.Digits.{AllBelowBase}
use Rattle.std.specs.Prelude.{ℕ, ◌+◌, ◌/◌, ◌^◌, ◌<◌, ◌≤◌, ◌≡◌, ◌≢◌, ◌==◌, Bool, true, false, if◌then◌else◌, List, [], ◌∷◌, length, get_or, take, drop, Result, Ok, Err}
use Rattle.mad_layout.specs.Bits.{field, put_field}
use Rattle.mad_layout.specs.Layout.{Fits, at, is_free}
use Rattle.mad_layout.specs.MadStatus.{mad_status_code}
use Rattle.mad_layout.specs.declared.status.MadStatus.{MadStatus}
use Rattle.attr_tables.specs.declared.port_info.PortInfo.{PortInfo}
use Rattle.attr_tables.specs.declared.switch_info.SwitchInfo.{SwitchInfo}
use Rattle.fabric_parts.specs.declared.node_type.NodeType.{NodeType}
use Rattle.attr_tables.specs.Attribute.{IsAttribute}
use Rattle.attr_tables.specs.Blocks.{word_bytes}
use Rattle.attr_tables.specs.NodeInfo.{node_info, node_info_bytes}
use Rattle.attr_tables.specs.PortInfo.{port_info, port_info_bytes}
use Rattle.attr_tables.specs.SwitchInfo.{switch_info, switch_info_bytes}
use Rattle.agent_rules.specs.Agent.{Getter, Setter, after, answer}
use Rattle.agent_rules.specs.Carried.{linear_fdb_top_in, ports_in, words_in}
use Rattle.agent_rules.specs.Good.{IsGoodInfo, IsTable}
use Rattle.agent_rules.specs.PowerUp.{node_info_of}
use Rattle.agent_rules.specs.PortSetting.{port_info_after, port_setting, setting_asked}
use Rattle.agent_rules.specs.Request.{KeepsRest, attribute_asked, data_of, is_request, is_set, modifier_of}
use Rattle.agent_rules.specs.Request.{reply_method, reply_to}

-- a later SMP that asks for what this one asked for, and sets nothing
pub record IsGetOf (smp later : List ℕ) : Type 0 where
  pub attribute : attribute_asked later ≡ attribute_asked smp
  pub modifier : modifier_of later ≡ modifier_of smp
  pub no_set : is_set later ≡ false

-- an SMP changes what the node holds only if it sets something, and what it set is then there
pub record IsSettled {S : Type 0} (getter : Getter S) (setter : Setter S) : Type 0 where
  -- what asks no agent changes nothing
  pub silent : (held : S) (smp : List ℕ) → is_request smp ≡ false → after setter held smp ≡ held
  -- nor does a Get
  pub get : (held : S) (smp : List ℕ) → is_set smp ≡ false → after setter held smp ≡ held
  -- nor what is refused
  pub refused : (held : S) (smp : List ℕ) (status : MadStatus) → answer getter setter held smp ≡ Err status
      → after setter held smp ≡ held
  -- what a Set is answered with is what a Get of it right after is answered with
  pub set : (held : S) (smp later bytes : List ℕ) → is_request smp ≡ true → answer getter setter held smp ≡ Ok bytes
      → IsGetOf smp later → answer getter setter (after setter held smp) later ≡ Ok bytes

-- PortInfo without what a Set may change of a port that enforces partitions, or of one that does not
abbrev pub unsettable : Bool → PortInfo → PortInfo
unsettable enforces info =
    record info {
      gid_prefix = 0;
      lid = 0;
      master_sm_lid = 0;
      port_state = 0;
      neighbor_mtu = 0;
      master_sm_sl = 0;
      partition_enforcement_inbound = if enforces then false else info.partition_enforcement_inbound;
      partition_enforcement_outbound = if enforces then false else info.partition_enforcement_outbound;
    }

-- two tables differ at most in that block, in blocks of `size` entries
pub record DiffersInBlock (size block : ℕ) (old new : List ℕ) : Type 0 where
  pub same_length : length new ≡ length old
  pub elsewhere : (k : ℕ) → k / size ≢ block → get_or new k 0 ≡ get_or old k 0

-- a reply of status 0 has the method of a reply, carries the attribute, and is the request in all else
pub record CarriesAttribute (smp bytes reply : List ℕ) : Type 0 where
  pub method : field reply 24 8 ≡ reply_method smp
  pub status : field reply 33 15 ≡ 0
  pub attribute : take 64 (drop 64 reply) ≡ bytes
  pub rest : KeepsRest smp reply

-- a refusal has the method of a reply and its code, carries the data as they came, and is the request in
-- all else
pub record CarriesRefusal (smp : List ℕ) (status : MadStatus) (reply : List ℕ) : Type 0 where
  pub method : field reply 24 8 ≡ reply_method smp
  pub code : field reply 33 15 ≡ mad_status_code status
  pub data_stay : field reply 512 512 ≡ field smp 512 512
  pub rest : KeepsRest smp reply

-- a reply carries the attribute or the refusal that answers, and all of the request beside
pub record RepliesCarry : Type 0 where
  pub attribute : (smp bytes : List ℕ) → length smp ≡ 256 → IsAttribute bytes
      → CarriesAttribute smp bytes (reply_to smp (Ok bytes))
  pub refusal : (smp : List ℕ) (status : MadStatus) → length smp ≡ 256 → CarriesRefusal smp status (reply_to smp (Err status))

-- what is encoded in an attribute is read in it
pub record EncodedIsRead : Type 0 where
  pub setting : (info : PortInfo) → Fits (port_info info) → port_setting (port_info_bytes info) ≡ setting_asked info
  pub linear_fdb_top : (info : SwitchInfo) → Fits (switch_info info)
      → linear_fdb_top_in (switch_info_bytes info) ≡ info.linear_fdb_top
  pub words : (words : List ℕ) → IsTable 32 65536 words → words_in (word_bytes words) ≡ words
  pub ports : (attribute : List ℕ) → IsAttribute attribute → ports_in attribute ≡ attribute

-- a Set that asks a good port for what it has, and for no change of its state, is taken and changes nothing
abbrev pub PortsTakeBack : Type 0
PortsTakeBack =
    (enforces : Bool) (info : PortInfo) → IsGoodInfo info
    → port_info_after enforces info (record (setting_asked info) { port_state = 0 }) ≡ Ok info

-- what a port has after a Set is good if it was
abbrev pub SettingsKeepGood : Type 0
SettingsKeepGood =
    (enforces : Bool) (info next : PortInfo) (attribute : List ℕ) → IsGoodInfo info
    → port_info_after enforces info (port_setting attribute) ≡ Ok next → IsGoodInfo next

-- what a port has after a Set that it takes: each field that a Set may change reads as the attribute asks at its place there,
-- the state if not 0 is asked, and both enforcement bits of a port that enforces partitions; all else is as before
pub record IsTaken (enforces : Bool) (info next : PortInfo) (attribute : List ℕ) : Type 0 where
  pub gid_prefix : next.gid_prefix ≡ field attribute 64 64
  pub lid : next.lid ≡ field attribute 128 16
  pub master_sm_lid : next.master_sm_lid ≡ field attribute 144 16
  pub neighbor_mtu : next.neighbor_mtu ≡ field attribute 288 4
  pub master_sm_sl : next.master_sm_sl ≡ field attribute 292 4
  pub state : next.port_state ≡ (if field attribute 260 4 == 0 then info.port_state else field attribute 260 4)
  pub inbound : enforces ≡ true → next.partition_enforcement_inbound ≡ (field attribute 348 1 == 1)
  pub outbound : enforces ≡ true → next.partition_enforcement_outbound ≡ (field attribute 349 1 == 1)
  pub rest : unsettable enforces next ≡ unsettable enforces info

abbrev pub SetsAreTaken : Type 0
SetsAreTaken =
    (enforces : Bool) (info next : PortInfo) (attribute : List ℕ) → port_info_after enforces info (port_setting attribute) ≡ Ok next
    → IsTaken enforces info next attribute

-- the three GUIDs of NodeInfo, each at its place: that of the system and of the node are the node's, and that of the port is
-- the port's own, which need not be the same
pub record NamesGuids (attribute : List ℕ) (node_guid port_guid : ℕ) : Type 0 where
  pub system : field attribute 32 64 ≡ node_guid
  pub node : field attribute 96 64 ≡ node_guid
  pub port : field attribute 160 64 ≡ port_guid

abbrev pub NodeInfosNameGuids : Type 0
NodeInfosNameGuids =
    (node_type : NodeType) (num_ports node_guid port_guid number : ℕ)
    → Fits (node_info (node_info_of node_type num_ports node_guid port_guid number))
    → NamesGuids (node_info_bytes (node_info_of node_type num_ports node_guid port_guid number)) node_guid port_guid

-- no bit of the field is one that an agent reads or writes: it is of the path, say, or of the TransactionID
abbrev pub is_unseen : ℕ → ℕ → Bool
is_unseen off len = is_free off len (at 0 32 0 ∷ at 33 15 0 ∷ at 128 16 0 ∷ at 160 32 0 ∷ at 512 512 0 ∷ [])

-- a value put into such a field of an SMP
pub record IsUnseenPut (smp : List ℕ) (off len value : ℕ) : Type 0 where
  pub count : length smp ≡ 256
  pub bytes : AllBelowBase 256 smp
  pub within : off + len ≤ 2048
  pub fits : value < 2 ^ len
  pub unseen : is_unseen off len ≡ true

-- two SMPs ask the same of every agent
pub record AsksSame (one other : List ℕ) : Type 0 where
  pub request : is_request other ≡ is_request one
  pub set : is_set other ≡ is_set one
  pub attribute : attribute_asked other ≡ attribute_asked one
  pub modifier : modifier_of other ≡ modifier_of one
  pub attribute_is : data_of other ≡ data_of one

-- the reply to the SMP with that field is the reply with that field
abbrev pub ComesBack : List ℕ → (off len value : ℕ) → Result (List ℕ) MadStatus → Type 0
ComesBack smp off len value given = reply_to (put_field smp off len value) given ≡ put_field (reply_to smp given) off len value

-- what an agent does not see asks nothing, and comes back in the reply
pub record UnseenPasses : Type 0 where
  pub asks : (smp : List ℕ) (off len value : ℕ) → IsUnseenPut smp off len value → AsksSame smp (put_field smp off len value)
  pub reply : (smp bytes : List ℕ) (off len value : ℕ) → IsUnseenPut smp off len value → IsAttribute bytes
      → ComesBack smp off len value (Ok bytes)
  pub refusal : (smp : List ℕ) (status : MadStatus) (off len value : ℕ) → IsUnseenPut smp off len value
      → ComesBack smp off len value (Err status)

-- the agent of a node answers SMPs that ask the same alike, and holds the same afterwards
pub record ReadsAlike {S : Type 0} (getter : Getter S) (setter : Setter S) : Type 0 where
  pub answered : (held : S) (one other : List ℕ) → AsksSame one other
      → answer getter setter held other ≡ answer getter setter held one
  pub held : (held : S) (one other : List ℕ) → AsksSame one other → after setter held other ≡ after setter held one
