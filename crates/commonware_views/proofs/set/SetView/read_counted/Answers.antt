use Rattle.commonware_base.specs.Lists.{IsAllowedList, list_enc}
use Rattle.commonware_base.specs.Source.{rest_of}
use Rattle.commonware_ordered.specs.Sets.{IsWritableSet}
use Rattle.commonware_sequence.specs.FixedBytes.{IsOfSize, bytes_cmp, own_bytes}
use Rattle.commonware_views.specs.Lists.{Any}
use Rattle.commonware_views.specs.Sets.{key_set_fault}
use Rattle.commonware_views.specs.laws.ViewLaws.{key_set_laws}
use Rattle.commonware_views.proofs.Exact.{exactly_accepted}
use Rattle.commonware_views.proofs.set.SetView.read_counted.Goals as goal

pub returns-clause-exactly : goal.returns-clause-exactly
returns-clause-exactly g c =
    let size = c.args.size in
    let range = c.args.range in
    exactly_accepted (list_enc own_bytes) (IsWritableSet (IsOfSize size) bytes_cmp) (IsAllowedList range Any) (key_set_fault size range) (key_set_laws size range)
    (rest_of c.args.src.now) (rest_of c.next_keys.new.src) c.next_keys.result c.next_keys.ensures.accepted c.next_keys.ensures.refused
