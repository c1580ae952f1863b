use Rattle.std.proofs.Common.{◌∙◌, ◌<◌, ◌≤◌, length, arith, ap, sym}
use Rattle.std.specs.List.{slice_get}
use Rattle.std.specs.Simd.{first_chunks}
use Rattle.std.proofs.lemmas.Option.{slice_get_past, slice_get_read}
use Rattle.commonware_views.proofs.Chunks.{chunk_at, chunk_inside, chunks_count}
use Rattle.commonware_views.proofs.list.ListView.get.Goals as goal

pub item_at-requires : goal.item_at-requires
item_at-requires c =
    let v = c.self.inside in
    omega (arith, chunk_inside v.size v.count c.args.index (omega (arith, c.if-index-self.false)), c.self.invariant)

pub returns-then-index-self : goal.returns-then-index-self
returns-then-index-self c =
    let v = c.self.inside in
    let items = first_chunks v.size v.count v.bytes.now in
    let past : length items ≤ c.args.index = omega (arith, chunks_count v.size v.count v.bytes.now, c.if-index-self.true) in
    sym (ap (λ xs. slice_get xs c.args.index) (sym c.self.view_is) ∙ slice_get_past items c.args.index past)

pub returns : goal.returns
returns c =
    let v = c.self.inside in
    let items = first_chunks v.size v.count v.bytes.now in
    let i = c.args.index in
    let within : i < v.count = omega (arith, c.if-index-self.false) in
    let item = c.item_at.result.now in
    let read = slice_get_read items v.count i item (sym (chunks_count v.size v.count v.bytes.now)) within
    (c.item_at.ensures ∙ sym (chunk_at v.size v.count i v.bytes.now item within)) in
    sym (ap (λ xs. slice_get xs i) (sym c.self.view_is) ∙ read)
