use Rattle.std.proofs.Common.{◌≡◌, ◌*◌, ◌/◌, length, arith}
use Rattle.commonware_views.proofs.Chunks.{chunks_are_all, chunks_are_long}
use Rattle.commonware_views.proofs.list.ListView.new.Goals as goal

pub returns-clause-items : goal.returns-clause-items
returns-clause-items c =
    let size = c.args.size in
    let s = c.args.bytes.now in
    let whole : length s ≡ (length s / size) * size = omega (arith, c.if-over-gt0.false) in
    record {
      each = chunks_are_long size (length s / size) s (omega (arith, whole));
      together = chunks_are_all size (length s / size) s whole;
    }
