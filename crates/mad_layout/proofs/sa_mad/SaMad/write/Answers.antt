use Rattle.std.proofs.Common.{refl, arith}
use Rattle.mad_layout.specs.SaMad.{sa_mad}
use Rattle.mad_layout.proofs.AlignedLemmas.{bytes_stand}
use Rattle.mad_layout.proofs.LayoutLemmas.{sets_mad}
use Rattle.mad_layout.proofs.sa_mad.SaMad.write.Goals as goal

pub returns-clause-fields : goal.returns-clause-fields
returns-clause-fields c =
    sets_mad (sa_mad c.args.self.now) c.args.mad.now _ c.told-mad refl c.put_fields.ensures.fields c.put_fields.ensures.fits

pub returns-clause-data : goal.returns-clause-data
returns-clause-data c =
    let fields = (returns-clause-fields c).fields in
    bytes_stand c.put_fields.new.mad c.args.self.now.«data» 56 200 c.known_bytes-2.ensures c.known_bytes.ensures
    (omega arith) (omega arith) fields.1.1.1.0
