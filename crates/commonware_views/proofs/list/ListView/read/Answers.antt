use Rattle.commonware_base.specs.Lists.{IsAllowedList, IsWritableList, list_enc}
use Rattle.commonware_base.specs.Source.{rest_of}
use Rattle.commonware_sequence.specs.FixedBytes.{IsOfSize, own_bytes}
use Rattle.commonware_views.specs.Lists.{Any, list_fault}
use Rattle.commonware_views.specs.laws.ViewLaws.{sized_list_laws}
use Rattle.commonware_views.proofs.Exact.{exactly_accepted}
use Rattle.commonware_views.proofs.list.ListView.read.Goals as goal

pub returns-clause-exactly : goal.returns-clause-exactly
returns-clause-exactly c =
    let size = c.args.size in
    let range = c.args.range in
    exactly_accepted (list_enc own_bytes) (IsWritableList (IsOfSize size)) (IsAllowedList range Any) (list_fault size range) (sized_list_laws size range)
    (rest_of c.args.src.now) (rest_of c.next_list.new.src) c.next_list.result c.next_list.ensures.accepted c.next_list.ensures.refused
