use Rattle.std.proofs.Common.{◌++◌, replicate, refl}
use Rattle.mad_layout.specs.Layout.{put_all}
use Rattle.sa_records.specs.McMemberRecord.{mc_member_record, mc_member_record_bytes}
use Rattle.sa_records.proofs.ReadLemmas.{front_holds, mc_member_record_is}
use Rattle.sa_records.proofs.laws.mc_member_records_read_back.Goals as goal

pub returns : goal.returns
unfolding mc_member_record_bytes
returns c = λ one rest fits below.
    let h = front_holds 56 (mc_member_record one) rest refl fits below in
    mc_member_record_is one (put_all (replicate 56 0) (mc_member_record one) ++ rest) h
