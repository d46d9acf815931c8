use Rattle.std.proofs.Common.{ℕ, List, sym, subst}
use Rattle.mad_layout.specs.Layout.{Encodes}
use Rattle.mad_layout.specs.MadHeader.{mad_header}
use Rattle.mad_layout.specs.RmppHeader.{rmpp_header}
use Rattle.mad_layout.specs.SaMad.{sa_mad}
use Rattle.mad_layout.proofs.LayoutLemmas.{fits_from_holds}
use Rattle.rmpp_core.specs.Reply.{reply_fields}
use Rattle.rmpp_core.proofs.ReplyLemmas.{reply_fits, reply_is, reply_encoded}
use Rattle.rmpp_core.proofs.mads.sa_mad.Goals as goal

pub returns-clause-bytes : goal.returns-clause-bytes
returns-clause-bytes c =
    reply_is c.args.header.now c.args.rmpp.now c.args.fields.now c.write.new.mad c.write-2.new.mad c.write-3.new.mad
    c.write.ensures.bytes c.write-2.ensures.bytes c.write-3.ensures.bytes

pub returns-clause-encodes : goal.returns-clause-encodes
returns-clause-encodes c =
    let header = c.args.header.now in
    let rmpp = c.args.rmpp.now in
    let fields = c.args.fields.now in
    let fits = reply_fits header rmpp fields
    (fits_from_holds c.write.new.mad (mad_header header) c.write.ensures.fields.fields)
    (fits_from_holds c.write-2.new.mad (rmpp_header rmpp) c.write-2.ensures.fields.fields)
    (fits_from_holds c.write-3.new.mad (sa_mad fields) c.write-3.ensures.fields.fields) in
    let is = reply_is header rmpp fields c.write.new.mad c.write-2.new.mad c.write-3.new.mad
    c.write.ensures.bytes c.write-2.ensures.bytes c.write-3.ensures.bytes in
    let P : List ℕ → Type 0 = λ bytes. Encodes bytes (reply_fields header rmpp fields) in
    subst P (sym is) (reply_encoded header rmpp fields fits)
