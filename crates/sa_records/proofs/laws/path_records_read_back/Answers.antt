use Rattle.std.proofs.Common.{◌++◌, replicate, refl}
use Rattle.mad_layout.specs.Layout.{put_all}
use Rattle.sa_records.specs.PathRecord.{path_record, path_record_bytes}
use Rattle.sa_records.proofs.ReadLemmas.{front_holds, path_record_is}
use Rattle.sa_records.proofs.laws.path_records_read_back.Goals as goal

pub returns : goal.returns
unfolding path_record_bytes
returns c = λ one rest fits below.
    let h = front_holds 64 (path_record one) rest refl fits below in
    path_record_is one (put_all (replicate 64 0) (path_record one) ++ rest) h
