use Rattle.std.proofs.Common.{◌∙◌, ap, sym}
use Rattle.std.specs.List.{flat_map}
use Rattle.commonware_sequence.specs.FixedBytes.{own_bytes}
use Rattle.commonware_views.proofs.Chunks.{chunks_are_all}
use Rattle.commonware_views.proofs.list.ListView.as_bytes.Goals as goal

pub returns : goal.returns
returns c =
    let v = c.self.inside in
    sym (chunks_are_all v.size v.count v.bytes.now c.self.invariant) ∙ ap (flat_map own_bytes) c.self.view_is
