-- A MAD of subnet administration as a whole (IBA volume 1, 15.2.1.1): the header of every MAD, the RMPP
-- header, and then the fields and the data of subnet administration.
use Rattle.std.specs.Prelude.{ℕ, List, ◌++◌, replicate}
use Rattle.mad_layout.specs.declared.mad_header.Header.{Header}
use Rattle.mad_layout.specs.declared.rmpp_header.RmppHeader.{RmppHeader}
use Rattle.mad_layout.specs.declared.sa_mad.SaMad.{SaMad}
use Rattle.mad_layout.specs.Layout.{Field, put_all}
use Rattle.mad_layout.specs.MadHeader.{mad_header}
use Rattle.mad_layout.specs.RmppHeader.{rmpp_header}
use Rattle.mad_layout.specs.SaMad.{sa_mad}

abbrev pub reply_fields : Header → RmppHeader → SaMad → List Field
reply_fields header rmpp fields = mad_header header ++ (rmpp_header rmpp ++ sa_mad fields)

-- the 256 bytes with these fields, and 0 in every other bit
unfoldable pub reply_bytes : Header → RmppHeader → SaMad → List ℕ
reply_bytes header rmpp fields = put_all (replicate 256 0) (reply_fields header rmpp fields)
