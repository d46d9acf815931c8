use Rattle.std.proofs.Common.{◌++◌, replicate, refl, lit≤}
use Rattle.mad_layout.specs.Layout.{put_all}
use Rattle.sa_records.specs.NodeRecord.{node_record, node_record_bytes}
use Rattle.sa_records.proofs.ReadLemmas.{front_holds, front_part, node_record_is}
use Rattle.sa_records.proofs.laws.node_records_read_back.Goals as goal

pub returns : goal.returns
unfolding node_record_bytes
returns c = λ one rest fits node_string below.
    let h = front_holds 112 (node_record one) rest refl fits below in
    node_record_is one (put_all (replicate 112 0) (node_record one) ++ rest) h
    (front_part 112 (node_record one) rest one.node_string 44 below node_string (lit≤ tt) (h.1.1.1.1.1.1.1.1.1.1.1.1.1.0))
