use Rattle.std.proofs.Common.{◌++◌, replicate, refl, lit≤}
use Rattle.mad_layout.specs.Layout.{put_all}
use Rattle.sa_records.specs.ServiceRecord.{service_record, service_record_bytes}
use Rattle.sa_records.proofs.ReadLemmas.{front_holds, front_part, service_record_is}
use Rattle.sa_records.proofs.laws.service_records_read_back.Goals as goal

pub returns : goal.returns
unfolding service_record_bytes
returns c = λ one rest fits service_name service_data below.
    let h = front_holds 176 (service_record one) rest refl fits below in
    service_record_is one (put_all (replicate 176 0) (service_record one) ++ rest) h
    (front_part 176 (service_record one) rest one.service_name 48 below service_name (lit≤ tt) (h.1.1.1.1.1.0))
    (front_part 176 (service_record one) rest one.service_data 112 below service_data (lit≤ tt) (h.1.1.1.1.1.1.0))
