use Rattle.std.proofs.Common.{◌/◌, arith, refl}
use Rattle.mad_layout.proofs.AlignedLemmas.{put_big}
use Rattle.mad_layout.proofs.aligned.put_u128_at.Goals as goal

pub returns-clause-bytes : goal.returns-clause-bytes
returns-clause-bytes g c =
    put_big c.args.bytes.now _ (g.row.OFF / 8) 16 g.row.OFF 128 c.args.value c.known_bytes.ensures c.write_u128.ensures
    (omega arith) (omega arith) refl (omega arith)
