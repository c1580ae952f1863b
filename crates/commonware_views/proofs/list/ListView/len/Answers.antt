use Rattle.std.proofs.Common.{◌∙◌, ap, length, sym}
use Rattle.commonware_views.proofs.Chunks.{chunks_count}
use Rattle.commonware_views.proofs.list.ListView.len.Goals as goal

pub returns : goal.returns
returns c =
    let v = c.self.inside in
    sym (chunks_count v.size v.count v.bytes.now) ∙ ap length c.self.view_is
