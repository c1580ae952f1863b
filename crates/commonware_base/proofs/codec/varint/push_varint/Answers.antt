use Rattle.std.proofs.Common.{◌+◌, ◌%◌, ◌++◌, [], ◌∷◌, sym, ◌∙◌, ap}
use Rattle.std.proofs.lemmas.List.{append-nil, append_assoc}
use Rattle.commonware_base.specs.laws.VarintLaws.{goes_start, goes_step, goes_end}
use Rattle.commonware_base.proofs.codec.varint.push_varint.Goals as goal

pub loop-left-init : goal.loop-left-init
loop-left-init g c = ([], sym (append-nil c.args.sink.now.items), goes_start c.args.number c.ranges.number.fits)

pub loop-left-preserved : goal.loop-left-preserved
loop-left-preserved g c =
    let s = c.loop-left.invariant.0 in
    let b = (c.loop-left.left % 128 + 128) ∷ [] in
    (s ++ b, c.in_ok-push.ensures.items ∙ ap (λ t. t ++ b) c.loop-left.invariant.1 ∙ append_assoc c.args.sink.now.items s b, goes_step c.args.number c.loop-left.left s c.loop-left.invariant.2 c.loop-left-test.true)

pub returns-clause-ok : goal.returns-clause-ok
returns-clause-ok g c =
    let s = c.loop-left.invariant.0 in
    let b = c.loop-left.left ∷ [] in
    c.in_ok-push-2.ensures.items ∙ ap (λ t. t ++ b) c.loop-left.invariant.1 ∙ append_assoc c.args.sink.now.items s b
    ∙ ap (λ t. c.args.sink.now.items ++ t) (sym (goes_end c.args.number c.loop-left.left s c.loop-left.invariant.2 c.loop-left-test.false))
