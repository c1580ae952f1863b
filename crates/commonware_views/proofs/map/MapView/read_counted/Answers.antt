use Rattle.commonware_base.specs.Source.{rest_of}
use Rattle.commonware_map.specs.Maps.{IsAllowedMap, IsWritableMap, map_enc}
use Rattle.commonware_sequence.specs.FixedBytes.{IsOfSize, bytes_cmp, own_bytes}
use Rattle.commonware_views.specs.Lists.{Any}
use Rattle.commonware_views.specs.Maps.{sized_map_fault}
use Rattle.commonware_views.specs.laws.ViewLaws.{sized_map_laws}
use Rattle.commonware_views.proofs.Exact.{exactly_accepted}
use Rattle.commonware_views.proofs.map.MapView.read_counted.Goals as goal

pub returns-clause-exactly : goal.returns-clause-exactly
returns-clause-exactly g c =
    let ks = c.args.key_size in
    let vs = c.args.value_size in
    let range = c.args.range in
    exactly_accepted (map_enc own_bytes own_bytes) (IsWritableMap (IsOfSize ks) bytes_cmp (IsOfSize vs)) (IsAllowedMap range Any Any) (sized_map_fault ks vs range) (sized_map_laws ks vs range)
    (rest_of c.args.src.now) (rest_of c.next_pairs.new.src) c.next_pairs.result c.next_pairs.ensures.accepted c.next_pairs.ensures.refused
