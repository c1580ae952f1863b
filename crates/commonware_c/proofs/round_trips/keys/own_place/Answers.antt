-- A key of a set is at one place.
use Rattle.std.proofs.Common.{◌≡◌, ◌≢◌, ◌∙◌, ◌-◌, drop, length, rules, subst, sym, take}
use Rattle.std.specs.Prelude.{Some, slice_get}
use Rattle.std.specs.List.{Contains}
use Rattle.std.proofs.lemmas.Option.{get_or_from_slice_get, slice_get_within}
use Rattle.commonware_base.specs.Varint.{varint}
use Rattle.commonware_ordered.specs.Strict.{IsStrict}
use Rattle.commonware_sequence.specs.FixedBytes.{bytes_cmp}
use Rattle.commonware_views.specs.Lists.{AreItemsOf}
use Rattle.commonware_views.specs.laws.ItemLaws.{one_reading}
use Rattle.commonware_c.specs.Committees.{between}
use Rattle.commonware_c.proofs.Made.{each_contained, one_place}
use Rattle.commonware_c.proofs.OneMap.{items_are_long}
use Rattle.commonware_c.proofs.ReadBack.{keys_cut}
use Rattle.commonware_c.proofs.round_trips.keys.own_place.Goals as goal

pub returns : goal.returns
returns c =
    let size = c.args.size in
    let s = c.args.input.now in
    let view = c.commonware_set_read-view.result in
    let read = c.commonware_set_read-view.ensures in
    let place = c.commonware_set_position.ensures in
    let ok : view.status ≡ 0 = search rules in
    let a = read.accepted ok in
    let keys = take (length s - view.left - view.start) (drop view.start s) in
    let key = c.in-Some.key.now in
    let items = c.in-Ok.items in
    let index = c.commonware_set_position.result.index in
    let start = read.start ok ∙ (λ j. length (varint (a.3 j))) in
    let own : AreItemsOf size keys a.0 = record {
      each = items_are_long size a.0 a.2.writable.list.each;
      together = sym (keys_cut size (between c.args.least c.args.most) s a.0 a.1 view.start view.left a.2 start a.4);
    } in
    let same : a.0 ≡ items = one_reading size keys c.in-Ok.ensures.whole a.0 items own c.in-Ok.ensures.items in
    let strict : IsStrict bytes_cmp items = subst (IsStrict bytes_cmp) same a.2.writable.strict in
    let at : slice_get items c.args.position ≡ Some key = sym c.in-Some.ensures in
    let has : Contains items key =
    (c.args.position, slice_get_within items c.args.position key at, get_or_from_slice_get items c.args.position key key at) in
    let long : length key ≡ size = each_contained (λ m. length m ≡ size) items c.in-Ok.ensures.items.each key has in
    let some : length key ≢ 0 = λ none. c.in-Ok.ensures.whole (sym long ∙ none) in
    let are : AreItemsOf (length key) keys items = subst (λ n. AreItemsOf n keys items) (sym long) c.in-Ok.ensures.items in
    let status = (place.exactly some items are strict).1 has in
    let found = place.found status in
    let here : slice_get items index ≡ Some key =
    subst (λ xs. slice_get xs index ≡ Some key) (one_reading (length key) keys some found.0 items found.1 are) found.2 in
    (status, one_place items strict index c.args.position key here at)
