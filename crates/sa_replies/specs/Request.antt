-- What a MAD asks of subnet administration (IBA volume 1, 13.4.2 and 15.2.1.1), read from its 256 bytes.
use Rattle.std.specs.Prelude.{ℕ, ◌==◌, Bool, ◌&&◌, nat_le, List}
use Rattle.mad_layout.specs.declared.mad_header.Header.{Header}
use Rattle.mad_layout.specs.declared.rmpp_header.RmppHeader.{RmppHeader}
use Rattle.mad_layout.specs.MadHeader.{header_in}
use Rattle.mad_layout.specs.RmppHeader.{rmpp_in}
use Rattle.mad_layout.specs.SaMad.{sa_mad_in}
use Rattle.sa_records.specs.declared.sa_attribute.SaAttribute.{SaAttribute}
use Rattle.sa_records.specs.SaAttribute.{sa_attribute_code}

-- the headers, the ComponentMask, and the 200 bytes of data, in which a record stands first
pub record Request : Type 0 where
  pub header : Header
  pub rmpp : RmppHeader
  pub component_mask : ℕ
  pub content : List ℕ

unfoldable pub request_in : List ℕ → Request
request_in mad = record {
  header = header_in mad;
  rmpp = rmpp_in mad;
  component_mask = (sa_mad_in mad).component_mask;
  content = (sa_mad_in mad).«data»;
}

-- the R bit is set
abbrev pub is_response : Header → Bool
is_response header = nat_le 128 header.method

-- both versions are those that we know
abbrev pub has_versions : Header → Bool
has_versions header = (header.base_version == 1) && (header.class_version == 2)

-- what it asks for, by its AttributeID
abbrev pub is_about : SaAttribute → Request → Bool
is_about attribute request = request.header.attribute_id == sa_attribute_code attribute
