use Rattle.std.proofs.Common.{◌+◌, ◌<◌, length, arith, subst}
use Rattle.commonware_base.proofs.Errors.{err_along}
use Rattle.commonware_base.specs.laws.RefusalLaws.{refuses_from}
use Rattle.commonware_base.specs.Source.{rest_of}
use Rattle.commonware_ordered.specs.Sets.{bad_list}
use Rattle.commonware_ordered.specs.Strict.{IsLessThanNext}
use Rattle.commonware_sequence.specs.FixedBytes.{bytes_cmp}
use Rattle.commonware_views.specs.Lists.{list_fault}
use Rattle.commonware_views.specs.Sets.{key_set_fault}
use Rattle.commonware_views.specs.laws.ItemLaws.{one_list, stated_length}
use Rattle.commonware_views.specs.laws.ViewLaws.{sized_list_laws}
use Rattle.commonware_views.proofs.set.next_keys.Goals as goal

pub returns-in_err-keys-clause-refused : goal.returns-in_err-keys-clause-refused
returns-in_err-keys-clause-refused g c =
    let text = rest_of c.args.src.now in
    let size = c.args.size in
    let range = c.args.range in
    err_along c.from_residual.result c.in_err-keys.field-0.0 _ c.from_residual.ensures.1
    (refuses_from (list_fault size range text) (key_set_fault size range text) (Unit {0}) (Unit {0}) (λ f w. bad_list w) (λ never. never)
    c.in_err-keys.field-0.0 c.in_err-keys.ensures.refused)

pub returns-then-not-is_strict-clause-cost_stated : goal.returns-then-not-is_strict-clause-cost_stated
returns-then-not-is_strict-clause-cost_stated g c = λ n stated.
    let long = stated_length c.args.size c.args.range (rest_of c.args.src.now) c.in_ok-keys.keys (rest_of c.read.new.src) c.in_ok-keys.ensures.accepted n stated in
    omega (arith, long, c.is_strict.ensures.cost)

pub returns-then-not-is_strict-clause-cost_unread : goal.returns-then-not-is_strict-clause-cost_unread
returns-then-not-is_strict-clause-cost_unread g c = λ fault faulty.
    absurd ((sized_list_laws c.args.size c.args.range).accepted_no_fault (rest_of c.args.src.now) c.in_ok-keys.keys (rest_of c.read.new.src) fault c.in_ok-keys.ensures.accepted faulty)

pub returns-then-not-is_strict-clause-stops : goal.returns-then-not-is_strict-clause-stops
returns-then-not-is_strict-clause-stops g c = λ k out.
    let same = one_list c.args.size c.args.range (rest_of c.args.src.now) out.keys c.in_ok-keys.keys out.rest (rest_of c.read.new.src) out.list c.in_ok-keys.ensures.accepted in
    c.is_strict.ensures.stops k (subst (λ keys. k + 1 < length keys) same out.inside)
    (subst (λ keys. ¬ IsLessThanNext bytes_cmp keys k) same out.unsorted)

pub returns-clause-cost_stated : goal.returns-clause-cost_stated
returns-clause-cost_stated g c = λ n stated.
    let long = stated_length c.args.size c.args.range (rest_of c.args.src.now) c.in_ok-keys.keys (rest_of c.read.new.src) c.in_ok-keys.ensures.accepted n stated in
    omega (arith, long, c.is_strict.ensures.cost)

pub returns-clause-cost_unread : goal.returns-clause-cost_unread
returns-clause-cost_unread g c = λ fault faulty.
    absurd ((sized_list_laws c.args.size c.args.range).accepted_no_fault (rest_of c.args.src.now) c.in_ok-keys.keys (rest_of c.read.new.src) fault c.in_ok-keys.ensures.accepted faulty)

pub returns-clause-stops : goal.returns-clause-stops
returns-clause-stops g c = λ k out.
    let same = one_list c.args.size c.args.range (rest_of c.args.src.now) out.keys c.in_ok-keys.keys out.rest (rest_of c.read.new.src) out.list c.in_ok-keys.ensures.accepted in
    c.is_strict.ensures.stops k (subst (λ keys. k + 1 < length keys) same out.inside)
    (subst (λ keys. ¬ IsLessThanNext bytes_cmp keys k) same out.unsorted)
