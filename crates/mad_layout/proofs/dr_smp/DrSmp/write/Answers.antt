use Rattle.std.proofs.Common.{refl, arith}
use Rattle.mad_layout.specs.DrSmp.{dr_smp}
use Rattle.mad_layout.proofs.AlignedLemmas.{bytes_stand}
use Rattle.mad_layout.proofs.LayoutLemmas.{sets_mad}
use Rattle.mad_layout.proofs.dr_smp.DrSmp.write.Goals as goal

pub returns-clause-fields : goal.returns-clause-fields
returns-clause-fields c =
    sets_mad (dr_smp c.args.self.now) c.args.mad.now _ c.told-mad refl c.put_fields.ensures.fields c.put_fields.ensures.fits

pub returns-clause-data : goal.returns-clause-data
returns-clause-data c =
    let fields = (returns-clause-fields c).fields in
    bytes_stand c.put_fields.new.mad c.args.self.now.«data» 64 64 c.known_bytes-4.ensures c.known_bytes.ensures
    (omega arith) (omega arith) fields.1.1.1.1.1.1.1.0

pub returns-clause-initial_path : goal.returns-clause-initial_path
returns-clause-initial_path c =
    let fields = (returns-clause-fields c).fields in
    bytes_stand c.put_fields.new.mad c.args.self.now.initial_path 128 64 c.known_bytes-4.ensures
    c.known_bytes-2.ensures (omega arith) (omega arith) fields.1.1.1.1.1.1.1.1.0

pub returns-clause-return_path : goal.returns-clause-return_path
returns-clause-return_path c =
    let fields = (returns-clause-fields c).fields in
    bytes_stand c.put_fields.new.mad c.args.self.now.return_path 192 64 c.known_bytes-4.ensures
    c.known_bytes-3.ensures (omega arith) (omega arith) fields.1.1.1.1.1.1.1.1.1.0
