-- A fault of the list is one of the set.
use Rattle.std.proofs.Common.{inr}
use Rattle.commonware_ordered.specs.laws.CostLaws.{order_cost_stated}
use Rattle.commonware_base.specs.Lists.{ListFault, IsListMemoryFree}
use Rattle.commonware_base.specs.laws.RefusalLaws.{refuses_from}
use Rattle.commonware_base.proofs.Errors.{err_along}
use Rattle.commonware_base.specs.Source.{rest_of}
use Rattle.commonware_ordered.specs.Sets.{SetFault, bad_list}
use Rattle.commonware_ordered.proofs.set.codec.read_set_counted.Goals as goal

pub returns-in_err-items-clause-refused : goal.returns-in_err-items-clause-refused
returns-in_err-items-clause-refused g c =
    let enc = g.T.EncodeSize.enc in
    let Writable = g.T.EncodeSize.writable in
    let Allowed = g.T.Read.allowed c.args.item.now in
    let fault = g.T.Read.fault c.args.item.now in
    let range = c.args.range in
    let text = rest_of c.args.src.now in
    let free = IsListMemoryFree fault (g.T.Read.memory_free c.args.item.now) range text in
    err_along c.from_residual.result c.in_err-items.field-0.0 _ c.from_residual.ensures.1
    (refuses_from (ListFault enc Writable Allowed fault range text) (SetFault enc Writable g.T.Order.order Allowed fault range text) free free (λ f w. bad_list w) (λ wants. wants) c.in_err-items.field-0.0 c.in_err-items.ensures.refused)

-- what was compared is the list that the input begins with
pub returns-in_default-clause-stated : goal.returns-in_default-clause-stated
returns-in_default-clause-stated g c = λ n states.
    let items = c.in_ok-items.items.items in
    let consumed = c.in_ok-items.ensures.consumed in
    order_cost_stated g.T.EncodeSize.enc g.T.Order.order (rest_of c.args.src.now) (g.C.Counter.counted c.args.count.now) (g.C.Counter.counted c.checked.new.count) n
    (inr (record { items = items; rest = _; short = c.in_ok-items.ensures.writable.short; begins = consumed.rest; most = c.checked.ensures.cost; stops = c.checked.ensures.stops })) states

pub returns-clause-stated : goal.returns-clause-stated
returns-clause-stated g c = λ n states.
    let items = c.in_ok-items.items.items in
    let consumed = c.in_ok-items.ensures.consumed in
    order_cost_stated g.T.EncodeSize.enc g.T.Order.order (rest_of c.args.src.now) (g.C.Counter.counted c.args.count.now) (g.C.Counter.counted c.checked.new.count) n
    (inr (record { items = items; rest = _; short = c.in_ok-items.ensures.writable.short; begins = consumed.rest; most = c.checked.ensures.cost; stops = c.checked.ensures.stops })) states
