use Rattle.std.proofs.Common.{◌≡◌, ◌∙◌, ap, arith, length, rules, sym}
use Rattle.commonware_base.proofs.ByteSteps.{bytes_join}
use Rattle.commonware_base.proofs.codec.primitives.U8Write.write_at_once.Goals as goal

pub returns-clause-ok : goal.returns-clause-ok
returns-clause-ok g c = let same = sym (bytes_join c.args.items.now) in search rules

pub returns-clause-nothing : goal.returns-clause-nothing
returns-clause-nothing g c = λ none.
    let empty : length c.args.items.now ≡ 0 = ap length (sym (bytes_join c.args.items.now) ∙ none) in
    c.extend_from_slice.ensures.succeeds (omega (arith, empty, c.args.sink.now.ok.1))
