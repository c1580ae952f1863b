use Rattle.std.proofs.Common.{◌∙◌, ◌<◌, length, arith, ap, sym}
use Rattle.std.specs.Prelude.{slice_index_or}
use Rattle.std.specs.Simd.{first_chunks}
use Rattle.commonware_views.proofs.Chunks.{chunk_at, chunk_inside, chunks_count}
use Rattle.commonware_views.proofs.list.ListViewKeys.key_at.Goals as goal

pub item_at-requires : goal.item_at-requires
item_at-requires g c =
    let v = c.self.inside in
    let items = first_chunks v.size v.count v.bytes.now in
    let within : c.args.place < v.count = omega (arith, c.requires, ap length c.self.view_is, chunks_count v.size v.count v.bytes.now) in
    omega (arith, chunk_inside v.size v.count c.args.place within, c.self.invariant)

pub returns : goal.returns
returns g c = λ d.
    let v = c.self.inside in
    let within : c.args.place < v.count = omega (arith, c.requires, ap length c.self.view_is, chunks_count v.size v.count v.bytes.now) in
    c.new.ensures ∙ c.item_at.ensures ∙ sym (chunk_at v.size v.count c.args.place v.bytes.now d within)
    ∙ ap (λ items. slice_index_or items c.args.place d) c.self.view_is
