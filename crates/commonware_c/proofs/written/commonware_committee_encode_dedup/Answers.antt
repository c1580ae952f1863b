use Rattle.std.proofs.Common.{◌≡◌, ◌∙◌, ℕ, ap, length, nat_eq, subst, sym, arith}
use Rattle.commonware_ordered.specs.Strict.{IsStrict}
use Rattle.std.specs.Cmp.Lexicographic.{pointwise}
use Rattle.commonware_ordered.specs.Dedup.{IsDedup}
use Rattle.commonware_sequence.specs.FixedBytes.{bytes_cmp}
use Rattle.commonware_c.specs.Committees.{IsSetOf}
use Rattle.commonware_c.proofs.Arrays.{items_are_arrays}
use Rattle.commonware_c.proofs.written.commonware_committee_encode_dedup.Goals as goal

-- 32 is not 0
some : ◌≡◌ {A = ℕ} 32 0 → ⊥
some e = absurd (omega (arith, e))

pub returns-clause-written : goal.returns-clause-written
returns-clause-written c = λ e.
    let members = c.args.members.now in
    let same = items_are_arrays 32 some members c.in-Ok.items c.as_flattened.result.now c.told-members c.as_flattened.ensures.value c.in-Ok.ensures.items in
    let said = c.write_items.ensures.written e in
    (said.0, subst (λ xs. IsSetOf 32 xs said.0 c.write_items.result.count c.write_items.result.size) same said.1, said.2)

pub returns-clause-room : goal.returns-clause-room
returns-clause-room c = λ e.
    let members = c.args.members.now in
    let same = items_are_arrays 32 some members c.in-Ok.items c.as_flattened.result.now c.told-members c.as_flattened.ensures.value c.in-Ok.ensures.items in
    let said = c.write_items.ensures.room e in
    (said.0, subst (λ xs. IsSetOf 32 xs said.0 c.write_items.result.count c.write_items.result.size) same said.1, said.2)

pub returns-clause-long : goal.returns-clause-long
returns-clause-long c = λ e.
    let members = c.args.members.now in
    let same = items_are_arrays 32 some members c.in-Ok.items c.as_flattened.result.now c.told-members c.as_flattened.ensures.value c.in-Ok.ensures.items in
    let said = c.write_items.ensures.long e in
    (said.0, subst (λ xs. IsDedup (pointwise nat_eq) bytes_cmp xs said.0) same said.1, said.2, said.3)

pub returns-clause-nothing : goal.returns-clause-nothing
returns-clause-nothing c = λ none.
    let members = c.args.members.now in
    let same = items_are_arrays 32 some members c.in-Ok.items c.as_flattened.result.now c.told-members c.as_flattened.ensures.value c.in-Ok.ensures.items in
    c.write_items.ensures.nothing (ap length same ∙ none)

pub returns-clause-in_order : goal.returns-clause-in_order
returns-clause-in_order c = λ strict.
    let members = c.args.members.now in
    let same = items_are_arrays 32 some members c.in-Ok.items c.as_flattened.result.now c.told-members c.as_flattened.ensures.value c.in-Ok.ensures.items in
    c.write_items.ensures.in_order (subst (IsStrict bytes_cmp) (sym same) strict)
