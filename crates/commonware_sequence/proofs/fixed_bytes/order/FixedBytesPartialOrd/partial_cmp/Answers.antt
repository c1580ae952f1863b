use Rattle.std.specs.Cmp.Lexicographic.{lists_agrees}
use Rattle.std.proofs.Common.{Some, ap, refl, sym, ◌∙◌}
use Rattle.commonware_sequence.proofs.fixed_bytes.order.FixedBytesPartialOrd.partial_cmp.Goals as goal

pub returns : goal.returns
returns g c = ap Some c.cmp.ensures ∙ sym (lists_agrees (λ x y. refl) c.args.self.now c.args.other.now)
