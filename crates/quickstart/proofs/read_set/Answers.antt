-- A new source has all the bytes before it; of an allocation failure nothing is said.
use Rattle.std.proofs.Common.{rules, sym, ◌≡◌}
use Rattle.commonware_utils.specs.Codec.{IsListMemoryFree, Refuses, byte_fault, refuses_from, rest_of}
use Rattle.quickstart.specs.Report.{range, set_fault}
use Rattle.quickstart.proofs.read_set.Goals as goal

pub returns-in-Err-clause-refused : goal.returns-in-Err-clause-refused
returns-in-Err-clause-refused c =
    let text : c.args.input.now ≡ rest_of c.new-source.result = search rules in
    let most : c.from.result ≡ range = search rules in
    let Fault = set_fault c.args.input.now in
    let Free = IsListMemoryFree byte_fault (λ _. Unit {0}) range c.args.input.now in
    let refused : Refuses Fault Free c.in-Err.error = rw text (rw (sym most) c.in-Err.ensures.refused) in
    refuses_from Fault Fault Free ⊥ (λ _ fault. fault) (λ _ none. none) c.in-Err.error refused
