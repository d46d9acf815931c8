use Rattle.std.proofs.Common.{refl}
use Rattle.mad_layout.specs.MadHeader.{mad_header}
use Rattle.mad_layout.proofs.LayoutLemmas.{sets_mad}
use Rattle.mad_layout.proofs.mad_header.Header.write.Goals as goal

pub returns-clause-fields : goal.returns-clause-fields
returns-clause-fields c =
    sets_mad (mad_header c.args.self.now) c.args.mad.now _ c.told-mad refl c.put_fields.ensures.fields c.put_fields.ensures.fits
