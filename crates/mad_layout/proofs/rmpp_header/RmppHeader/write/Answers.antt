use Rattle.std.proofs.Common.{refl}
use Rattle.mad_layout.specs.RmppHeader.{rmpp_header}
use Rattle.mad_layout.proofs.LayoutLemmas.{sets_mad}
use Rattle.mad_layout.proofs.rmpp_header.RmppHeader.write.Goals as goal

pub returns-clause-fields : goal.returns-clause-fields
returns-clause-fields c =
    sets_mad (rmpp_header c.args.self.now) c.args.mad.now _ c.told-mad refl c.put_fields.ensures.fields c.put_fields.ensures.fits
