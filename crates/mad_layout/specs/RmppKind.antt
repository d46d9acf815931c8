-- What a MAD is to an RMPP transfer (IBA volume 1, chapter 13).
use Rattle.std.specs.Prelude.{ℕ}
use Rattle.mad_layout.specs.declared.rmpp_kind.RmppKind.{RmppKind}
use Rattle.mad_layout.specs.declared.rmpp_kind.RmppKind.TheVariants.{Data, Ack, Stop, Abort}

abbrev pub rmpp_kind_code : RmppKind → ℕ
rmpp_kind_code Data = 1
rmpp_kind_code Ack = 2
rmpp_kind_code Stop = 3
rmpp_kind_code Abort = 4
