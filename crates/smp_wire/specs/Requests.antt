-- What a subnet manager asks: a Get or a Set of one part of an attribute, of the node at the end of a path.
use Rattle.std.specs.Prelude.{ℕ, ◌≡◌, ◌-◌, true, List, [], ◌∷◌, ◌++◌, length, replicate}
use Rattle.std.specs.Int.Digits.{AllBelowBase}
use Rattle.fabric_parts.specs.declared.lid.TheConstants.{PERMISSIVE_LID}
use Rattle.mad_layout.specs.Bits.{field, number}
use Rattle.mad_layout.specs.Layout.{Field, at}
use Rattle.mad_layout.specs.Method.{method_code}
use Rattle.mad_layout.specs.declared.method.Method.{Method}
use Rattle.mad_layout.specs.declared.method.Method.TheVariants as method
use Rattle.attr_tables.specs.declared.smp_attribute.SmpAttribute.{SmpAttribute}
use Rattle.attr_tables.specs.SmpAttribute.{smp_attribute_code}
use Rattle.agent_rules.specs.Request.{data_of, is_request, is_version_1, modifier_of}
use Rattle.smp_wire.specs.Walk.{is_sent, path_of}

-- the 64 entries of the initial path; entry 0 is no hop's
abbrev pub path_entries : List ℕ → List ℕ
path_entries path = 0 ∷ path ++ replicate (63 - length path) 0

-- the SMP asks by this method for that part of an attribute, at the end of that path
pub record AsksFor (by : Method) (attribute : SmpAttribute) (modifier : ℕ) (path : List ℕ) (smp : List ℕ) : Type 0 where
  pub request : is_request smp ≡ true
  pub version : is_version_1 smp ≡ true
  pub method_is : field smp 24 8 ≡ method_code by
  pub attribute_id : field smp 128 16 ≡ smp_attribute_code attribute
  pub modifier_is : modifier_of smp ≡ modifier
  pub sent : is_sent smp ≡ true
  pub path_is : path_of smp ≡ path
  pub long : length smp ≡ 256
  pub bytes : AllBelowBase 256 smp

-- a Get, and a Set of that part to these 64 bytes
abbrev pub AsksToGet : SmpAttribute → ℕ → List ℕ → List ℕ → Type 0
AsksToGet attribute modifier path smp = AsksFor method.Get attribute modifier path smp

pub record AsksToSet (attribute : SmpAttribute) (modifier : ℕ) (path wanted : List ℕ) (smp : List ℕ) : Type 0 where
  pub asks : AsksFor method.Set attribute modifier path smp
  pub data_is : data_of smp ≡ wanted

-- a request to the bit: the permissive LID at both ends, the path from entry 1, and 0 in all that it does not say
abbrev pub plain_request : Method → ℕ → SmpAttribute → ℕ → List ℕ → List ℕ → List Field
plain_request by transaction_id attribute modifier path wanted =
    at 0 8 1
    ∷ at 8 8 129
    ∷ at 16 8 1
    ∷ at 24 8 (method_code by)
    ∷ at 32 1 0
    ∷ at 33 15 0
    ∷ at 48 8 0
    ∷ at 56 8 (length path)
    ∷ at 64 64 transaction_id
    ∷ at 128 16 (smp_attribute_code attribute)
    ∷ at 144 16 0
    ∷ at 160 32 modifier
    ∷ at 192 64 0
    ∷ at 256 16 PERMISSIVE_LID
    ∷ at 272 16 PERMISSIVE_LID
    ∷ at 288 224 0
    ∷ at 512 512 (number wanted)
    ∷ at 1024 512 (number (path_entries path))
    ∷ at 1536 512 0
    ∷ []

abbrev pub plain_get : ℕ → SmpAttribute → ℕ → List ℕ → List Field
plain_get transaction_id attribute modifier path =
    plain_request method.Get transaction_id attribute modifier path (replicate 64 0)

abbrev pub plain_set : ℕ → SmpAttribute → ℕ → List ℕ → List ℕ → List Field
plain_set transaction_id attribute modifier path wanted =
    plain_request method.Set transaction_id attribute modifier path wanted
