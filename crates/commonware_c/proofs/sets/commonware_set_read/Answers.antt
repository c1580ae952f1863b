use Rattle.std.proofs.Common.{rules, ◌≡◌, ◌∙◌, length, subst, sym, ap}
use Rattle.commonware_base.specs.Source.{rest_of}
use Rattle.commonware_base.specs.Varint.{varint}
use Rattle.commonware_views.specs.Lists.{StandBy}
use Rattle.commonware_views.specs.laws.PlaceLaws.{items_stand}
use Rattle.commonware_c.specs.Committees.{between}
use Rattle.commonware_c.proofs.sets.commonware_set_read.Goals as goal

pub returns-in-Ok-clause-accepted : goal.returns-in-Ok-clause-accepted
returns-in-Ok-clause-accepted c = λ _.
    let input : rest_of c.new-source.result ≡ c.args.input.now = search rules in
    let range : c.from.result ≡ between c.args.least c.args.most = search rules in
    let accepted = rw range at (rw input at c.in-Ok.ensures.accepted) in
    let keys = c.in-Ok.keys in
    let size = c.args.size in
    let rest = rest_of c.read.new.src in
    let places = items_stand size keys rest accepted.writable.list.each in
    let start : c.encode_size.result ≡ length (varint (length keys)) = c.encode_size.ensures ∙ ap (λ n. length (varint n)) c.len-count.ensures in (
      keys,
      rest,
      accepted,
      c.len-count.ensures,
      c.remaining.ensures,
      subst (λ n. StandBy size c.args.input.now n keys) (sym start)
          (subst (λ s. StandBy size s (length (varint (length keys))) keys) (sym accepted.begins) places),
    )
